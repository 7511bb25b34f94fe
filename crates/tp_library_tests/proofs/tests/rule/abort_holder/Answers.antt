use Rattle.std.proofs.Common.{rules, ◌≡◌}
use Rattle.tp_model.specs.Words.{TakenWord, claim_word}
use Rattle.tp_model.proofs.Later.{claim_taken}
use Rattle.tp_rule.specs.Views.{view_of}
use Rattle.tp_library_tests.proofs.tests.rule.abort_holder.Goals as goal

pub abort_exchange-requires-clause-unit : goal.abort_exchange-requires-clause-unit
abort_exchange-requires-clause-unit c = let held : claim_word (view_of c.load_claim.new.seat).seen c.args.row ≡ TakenWord 1 c.args.unit 0 = search rules in
    let t = claim_taken _ (view_of c.load_claim.new.seat).seen c.args.row 1 c.args.unit c.load_claim.ensures.grew.legal held in ((t.0, t.1), search rules)
