use Rattle.std.proofs.Common.{◌+◌, sym, ◌∙◌, refl, arith, subst}
use Rattle.tp_model.specs.declared.types.Limits.{Limits}
use Rattle.tp_model.specs.declared.trace.StepKind.TheVariants as kinds
use Rattle.tp_model.specs.History.{status_of}
use Rattle.tp_model.specs.Steps.{IsServerStage}
use Rattle.tp_model.proofs.Bridges.{begins_refl, begins_trans}
use Rattle.tp_rule.specs.Tables.{table_limits}
use Rattle.tp_rule.specs.Views.{seen_by, view_of}
use Rattle.tp_manager.specs.Bounds.{body_steps, claim_row_steps}
use Rattle.tp_manager.specs.Calls.{IsWaiting}
use Rattle.tp_manager.specs.CallSteps.{Looked}
use Rattle.tp_manager.proofs.Calls.CallSteps.{acted_by, looked, looked_begins, looked_few, looked_then}
use Rattle.tp_manager.proofs.Rows.Looks.{there_later}
use Rattle.tp_manager.proofs.Marks.Raises.{not_waiting}
use Rattle.tp_manager.proofs.Claims.Scans.{allows_later, took_by, took_few}
use Rattle.tp_manager.proofs.Claims.GivenRows.{between_from, gone_waiting}
use Rattle.tp_manager.proofs.manager.Shared.claim_row.Goals as goal
use Rattle.tp_manager.proofs.manager.Shared.claim_row.Goals.{After-load_claim-claim, After-stand_of}

-- the step to the claim
claimed : (c : After-load_claim-claim) → Looked (table_limits c.args.self.now.words) 1 (view_of c.args.seat.now) (view_of c.load_claim-claim.new.seat)
claimed c = looked _ 1 _ _ (acted_by _ kinds.Load _ _ c.requires.steady.steady refl c.load_claim-claim.ensures.grew)

-- the steps to the word of the claim's unit
found : (c : After-stand_of) → Looked (table_limits c.args.self.now.words) 1 (view_of c.args.seat.now) (view_of c.load_claim-claim.new.seat) → Looked (table_limits c.args.self.now.words) 2 (view_of c.args.seat.now) (view_of c.stand_of.new.seat)
found c a = looked_then _ 1 1 _ _ _ a c.stand_of.ensures.looked

pub stand_of-requires-clause-steady : goal.stand_of-requires-clause-steady
stand_of-requires-clause-steady c = record { own = c.load_claim-claim.ensures.same ∙ c.requires.steady.own; steady = (claimed (goal.at.stand_of-requires-clause-steady c).After-load_claim-claim).walk.steady }

pub returns-in-Over-clause-told : goal.returns-in-Over-clause-told
returns-in-Over-clause-told c = let l : Limits = table_limits c.args.self.now.words in let at = goal.at.returns-in-Over-clause-told c in let b = found at.After-stand_of (claimed at.After-load_claim-claim) in let h = seen_by c.stand_of.new.seat in (
  looked_few l 2 claim_row_steps _ _ (omega arith) b,
  (h, looked_begins l _ _ _ b, begins_refl h, not_waiting l (status_of l.attempts h c.args.row) c.in-Over.ensures.stands),
)

pub returns-in-Busy-clause-told : goal.returns-in-Busy-clause-told
returns-in-Busy-clause-told c = let l : Limits = table_limits c.args.self.now.words in let at = goal.at.returns-in-Busy-clause-told c in let a = claimed at.After-load_claim-claim in let b = found at.After-stand_of a in let t = c.in-Busy.ensures.stands in (
  looked_few l 2 claim_row_steps _ _ (omega arith) b,
  (t.0, begins_trans _ _ t.0 (looked_begins l _ _ _ a) t.1, t.2, t.3),
)

pub element_at-element-requires-clause-there : goal.element_at-element-requires-clause-there
element_at-element-requires-clause-there c = let at = goal.at.element_at-element-requires-clause-there c in
    there_later (seen_by c.args.seat.now) (seen_by c.stand_of.new.seat) c.args.row c.args.birth (looked_begins _ _ _ _ (found at.After-stand_of (claimed at.After-load_claim-claim))) c.requires.there

pub overflow_add-attempt : goal.overflow_add-attempt
overflow_add-attempt c = let less = c.in-Ready.ensures.stands.1 in let most = c.args.self.now.words.places.valid.attempts.1 in omega arith

pub claim_exchange-requires-clause-row : goal.claim_exchange-requires-clause-row
claim_exchange-requires-clause-row c = let e = c.element_at-element.ensures in
    (c.requires.row, (c.element_at-element.result, e.born, subst IsServerStage (sym e.head.0) c.requires.stage))

pub claim_exchange-requires-clause-found : goal.claim_exchange-requires-clause-found
claim_exchange-requires-clause-found c = allows_later (table_limits c.args.self.now.words) (seen_by c.stand_of.new.seat) (seen_by c.element_at-element.new.seat) _ (c.in-Ready.attempts + 1) (looked_begins _ _ _ _ c.element_at-element.ensures.looked) c.in-Ready.ensures.stands.0

pub returns-in-Err-clause-told : goal.returns-in-Err-clause-told
returns-in-Err-clause-told c = let l : Limits = table_limits c.args.self.now.words in let at = goal.at.returns-in-Err-clause-told c in let first = claimed at.After-load_claim-claim in let e = c.element_at-element.ensures.looked in let miss = c.in-Err.ensures.miss in
    let since = looked_then l 1 body_steps _ _ _ c.stand_of.ensures.looked e in
    let b = acted_by l kinds.ClaimExchange _ _ e.walk.steady refl miss.0 in
    let h = seen_by c.load_claim-claim.new.seat in let g = seen_by c.claim_exchange.new.seat in (
      looked_then l _ 1 _ _ _ (looked_then l 1 (1 + body_steps) _ _ _ first since) (looked l 1 _ _ b),
      between_from (seen_by c.args.seat.now) h g (λ z. ¬ IsWaiting (status_of l.attempts z c.args.row)) (looked_begins l _ _ _ first)
          (gone_waiting l c.args.row h g _ b.walk.steady.shows.legal (begins_trans _ _ _ (looked_begins l _ _ _ since) (looked_begins l 1 _ _ (looked l 1 _ _ b))) c.load_claim-claim.ensures.claim (λ same. miss.1 (miss.2 ∙ same))),
    )

pub returns-in-Ok-clause-told : goal.returns-in-Ok-clause-told
returns-in-Ok-clause-told c = let l : Limits = table_limits c.args.self.now.words in let m = found (goal.at.returns-in-Ok-clause-told c).After-stand_of (claimed (goal.at.returns-in-Ok-clause-told c).After-load_claim-claim) in let e = c.element_at-element.ensures in
    let a = looked_then l _ body_steps _ _ _ m e.looked in let x = c.element_at-element.result in (
      took_few l x.stage c.args.unit (c.in-Ready.attempts + 1) x _ claim_row_steps c.args.row _ _ (omega arith)
          (took_by l x.stage c.args.unit (c.in-Ready.attempts + 1) x _ c.args.row _ _ _ e.head.2 a e.born refl c.in-Ok.ensures.hit),
      e.head.1,
      e.head.2,
      e.head.0,
    )
