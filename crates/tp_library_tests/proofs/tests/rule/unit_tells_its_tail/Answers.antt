use Rattle.std.proofs.Common.{◌≡◌, subst, sym, arith}
use Rattle.tp_model.specs.History.{Committed}
use Rattle.tp_model.proofs.Bridges.{end_stays}
use Rattle.tp_rule.specs.Views.{seen_by}
use Rattle.tp_rule.specs.Rule.{IsCommitted}
use Rattle.tp_manager.proofs.Rows.Drafts.{commit_commits}
use Rattle.tp_library_tests.proofs.tests.rule.unit_tells_its_tail.Goals as goal

pub commit_exchange-requires-2-clause-tail : goal.commit_exchange-requires-2-clause-tail
commit_exchange-requires-2-clause-tail g c = let hit = c.commit_exchange.ensures.hit c.if-not-commit_exchange.false in let done : IsCommitted (seen_by c.commit_exchange.new.seat) 0 = commit_commits _ _ 0 _ _ _ hit.legal hit.seen in
    λ w less up. let first : w ≡ 0 = omega arith in subst (IsCommitted (seen_by c.claim-2.new.seat)) (sym first) (done.0, done.1, end_stays _ _ 0 (Committed done.0 done.1) c.claim-2.ensures.later done.2)
