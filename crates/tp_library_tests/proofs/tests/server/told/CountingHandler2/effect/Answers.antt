use Rattle.std.proofs.Common.{rules, [], ◌∷◌}
use Rattle.tp_library_tests.proofs.tests.server.told.CountingHandler2.effect.Goals as goal

pub returns-clause-allowed : goal.returns-clause-allowed
returns-clause-allowed c = (c.args.self.now.asked ∷ c.args.self.now.told ∷ [], search rules)
