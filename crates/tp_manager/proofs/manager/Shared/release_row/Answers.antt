use Rattle.std.proofs.Common.{◌≡◌, sym, ◌∙◌, ap, refl, arith}
use Rattle.tp_model.specs.declared.trace.StepKind.TheVariants as kinds
use Rattle.tp_model.specs.declared.types.Limits.{Limits}
use Rattle.tp_model.specs.Words.{TakenWord, claim_word}
use Rattle.tp_model.proofs.Bridges.{begins_refl, begins_trans, found_later, status_again, status_free, status_killed}
use Rattle.tp_model.proofs.Later.{claim_taken, unit_inside}
use Rattle.tp_rule.specs.Words.{claim_value, unit_value}
use Rattle.tp_rule.specs.Steps.{HasElement}
use Rattle.tp_rule.specs.Tables.{table_limits}
use Rattle.tp_rule.specs.Views.{seen_by, view_of}
use Rattle.tp_rule.specs.declared.view.Hand.{Hand}
use Rattle.tp_manager.specs.Bounds.{free_steps}
use Rattle.tp_manager.specs.CallSteps.{Looked}
use Rattle.tp_manager.proofs.Calls.CallSteps.{acted_by, looked, looked_begins, looked_few, looked_then}
use Rattle.tp_manager.proofs.Rows.Looks.{consumed_now}
use Rattle.tp_manager.proofs.Kills.Releases.{aborted_between, freeing_by, freeing_then, unheld_consumed, unheld_killed, unheld_waiting}
use Rattle.tp_manager.proofs.manager.Shared.release_row.Goals as goal
use Rattle.tp_manager.proofs.manager.Shared.release_row.Goals.{After-load_claim-claim, In-Taken, In-Err}

one : (c : After-load_claim-claim) → Looked (table_limits c.args.self.now.words) 1 (view_of c.args.seat.now) (view_of c.load_claim-claim.new.seat)
one c = looked _ 1 _ _ (acted_by _ kinds.Load _ _ c.requires.steady.steady refl c.load_claim-claim.ensures.grew)

taken : (c : In-Taken) → claim_word (seen_by c.load_claim-claim.new.seat) c.args.row ≡ TakenWord c.in-Taken.attempt c.in-Taken.unit c.in-Taken.round
taken c = sym c.load_claim-claim.ensures.claim ∙ ap claim_value c.in-Taken.is

pub abort_exchange-requires-clause-unit : goal.abort_exchange-requires-clause-unit
abort_exchange-requires-clause-unit c = let l : Limits = table_limits c.args.self.now.words in let at = goal.at.abort_exchange-requires-clause-unit c in let o = one at.After-load_claim-claim in let h = seen_by c.load_claim-claim.new.seat in
    let t = claim_taken l h c.args.row c.in-Taken.attempt c.in-Taken.unit o.walk.steady.shows.legal (taken at.In-Taken) in
    ((t.0, t.1), unit_inside l h c.args.row c.in-Taken.attempt c.in-Taken.unit o.walk.steady.shows.legal (taken at.In-Taken))

pub returns-in-Free-clause-told : goal.returns-in-Free-clause-told
returns-in-Free-clause-told c = let l : Limits = table_limits c.args.self.now.words in let o = one (goal.at.returns-in-Free-clause-told c).After-load_claim-claim in let h = seen_by c.load_claim-claim.new.seat in (
  looked_few l 1 free_steps _ _ (omega arith) o,
  (h, looked_begins l 1 _ _ o, begins_refl h, unheld_waiting l h c.args.row 0 (status_free l h c.args.row o.walk.steady.shows.legal (sym c.load_claim-claim.ensures.claim ∙ ap claim_value c.in-Free.is))),
)

pub returns-in-Again-clause-told : goal.returns-in-Again-clause-told
returns-in-Again-clause-told c = let l : Limits = table_limits c.args.self.now.words in let o = one (goal.at.returns-in-Again-clause-told c).After-load_claim-claim in let h = seen_by c.load_claim-claim.new.seat in (
  looked_few l 1 free_steps _ _ (omega arith) o,
  (h, looked_begins l 1 _ _ o, begins_refl h, unheld_waiting l h c.args.row 0 (status_again l h c.args.row c.in-Again.round o.walk.steady.shows.legal (sym c.load_claim-claim.ensures.claim ∙ ap claim_value c.in-Again.is))),
)

pub returns-in-Killed-clause-told : goal.returns-in-Killed-clause-told
returns-in-Killed-clause-told c = let l : Limits = table_limits c.args.self.now.words in let o = one (goal.at.returns-in-Killed-clause-told c).After-load_claim-claim in let h = seen_by c.load_claim-claim.new.seat in (
  looked_few l 1 free_steps _ _ (omega arith) o,
  (h, looked_begins l 1 _ _ o, begins_refl h, unheld_killed l h c.args.row (status_killed l h c.args.row c.in-Killed.attempt c.in-Killed.unit o.walk.steady.shows.legal (sym c.load_claim-claim.ensures.claim ∙ ap claim_value c.in-Killed.is))),
)

pub returns-in-Ok-clause-told : goal.returns-in-Ok-clause-told
returns-in-Ok-clause-told c = let l : Limits = table_limits c.args.self.now.words in let at = goal.at.returns-in-Ok-clause-told c in let o = one at.After-load_claim-claim in let b = c.requires.row.1 in
    let born : HasElement (seen_by c.load_claim-claim.new.seat) c.args.row = (b.0, found_later _ _ (looked_begins l 1 _ _ o) c.args.row b.0 b.1) in
    freeing_then l 1 1 c.args.row c.in-Taken.unit c.in-Taken.attempt _ _ _ o (freeing_by l c.args.row c.in-Taken.attempt c.in-Taken.unit _ _ o.walk.steady born (taken at.In-Taken) c.in-Ok.ensures.hit)

-- the exchange failed: nothing has changed
missed : (c : In-Err) → Looked (table_limits c.args.self.now.words) 1 (view_of c.args.seat.now) (view_of c.load_claim-claim.new.seat) → Looked (table_limits c.args.self.now.words) 1 (view_of c.load_claim-claim.new.seat) (view_of c.abort_exchange.new.seat)
missed c o = looked _ 1 _ _ (acted_by _ kinds.AbortExchange _ _ o.walk.steady refl (c.in-Err.ensures.miss.other (ap (λ (h : Hand). h.open_unit) o.kept ∙ c.requires.free)))

pub unreachable-requires : goal.unreachable-requires
unreachable-requires c = c.in-Err.ensures.miss.ended (ap unit_value c.in-Undecided.is)

pub returns-in-Committed-clause-told : goal.returns-in-Committed-clause-told
returns-in-Committed-clause-told c = let l : Limits = table_limits c.args.self.now.words in let at = goal.at.returns-in-Committed-clause-told c in let o = one at.After-load_claim-claim in let t = missed at.In-Err o in let h = seen_by c.abort_exchange.new.seat in let all = looked_then l 1 1 _ _ _ o t in (
  all,
  (
    h,
    looked_begins l 2 _ _ all,
    begins_refl h,
    unheld_consumed l h c.args.row c.in-Taken.unit
        (sym (consumed_now l (seen_by c.load_claim-claim.new.seat) h t.walk.steady.shows.legal (looked_begins l 1 _ _ t) c.args.row c.in-Taken.attempt c.in-Taken.unit c.in-Committed.first c.in-Committed.count (taken at.In-Taken) (sym (ap unit_value c.in-Committed.is) ∙ c.in-Err.ensures.miss.found_is))),
  ),
)

pub returns-in-Aborted-clause-told : goal.returns-in-Aborted-clause-told
returns-in-Aborted-clause-told c = let l : Limits = table_limits c.args.self.now.words in let at = goal.at.returns-in-Aborted-clause-told c in let o = one at.After-load_claim-claim in let t = missed at.In-Err o in let h = seen_by c.abort_exchange.new.seat in let all = looked_then l 1 1 _ _ _ o t in
    let p = aborted_between l (seen_by c.load_claim-claim.new.seat) h c.args.row c.in-Taken.attempt c.in-Taken.unit t.walk.steady.shows.legal (looked_begins l 1 _ _ t) (taken at.In-Taken) (sym c.in-Err.ensures.miss.found_is ∙ ap unit_value c.in-Aborted.is) in
    (all, (p.0, begins_trans _ _ _ (looked_begins l 1 _ _ o) p.1, p.2, p.3))
