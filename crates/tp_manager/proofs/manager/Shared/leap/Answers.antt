use Rattle.std.proofs.Common.{◌-◌, arith}
use Rattle.tp_rule.specs.Tables.{table_limits}
use Rattle.tp_rule.specs.Views.{view_of}
use Rattle.tp_manager.proofs.Calls.CallSteps.{looked_few, looked_none}
use Rattle.tp_manager.proofs.manager.Shared.leap.Goals as goal

pub returns-else-aside-clause-rose : goal.returns-else-aside-clause-rose
returns-else-aside-clause-rose c = (omega arith, λ i low high. absurd (omega arith))

pub returns-else-aside-clause-few : goal.returns-else-aside-clause-few
returns-else-aside-clause-few c = looked_few (table_limits c.args.self.now.words) 0 (c.args.first - c.args.first) _ _ (omega arith) (looked_none (table_limits c.args.self.now.words) (view_of c.args.seat.now) c.requires.steady.steady)

pub leap_ahead-requires-clause-known : goal.leap_ahead-requires-clause-known
leap_ahead-requires-clause-known c = (c.requires.known c.if-aside.true).1
