use Rattle.std.proofs.Common.{◌≡◌, ◌≤◌, ◌<◌, sym, ◌∙◌, ap, refl, rules, arith, subst}
use Rattle.tp_model.specs.declared.trace.StepKind.TheVariants as kinds
use Rattle.tp_model.specs.declared.types.Limits.{Limits}
use Rattle.tp_model.specs.History.{IsSettled}
use Rattle.tp_model.specs.Words.{TakenWord, claim_word}
use Rattle.tp_model.proofs.Bridges.{begins_refl, begins_trans, status_again, status_free, status_killed}
use Rattle.tp_model.proofs.Later.{unit_inside}
use Rattle.tp_rule.specs.Words.{claim_value, unit_value}
use Rattle.tp_rule.specs.Tables.{table_limits}
use Rattle.tp_rule.specs.Views.{seen_by, view_of}
use Rattle.tp_manager.specs.CallSteps.{Acted}
use Rattle.tp_manager.proofs.Calls.CallSteps.{acted_by, acted_few, acted_then, looked, looked_begins}
use Rattle.tp_manager.proofs.Rows.Looks.{claim_is, consumed_now, held_yet, returned}
use Rattle.tp_manager.proofs.Kills.Requeues.{gone_on, not_held, not_waiting, not_yet}
use Rattle.tp_manager.proofs.manager.Shared.fate_of.Goals as goal
use Rattle.tp_manager.proofs.manager.Shared.fate_of.Goals.{After-load_claim-claim, In-Taken, After-load_unit, After-load_claim-again}

one : (c : After-load_claim-claim) → Acted (table_limits c.args.self.now.words) 1 (view_of c.args.seat.now) (view_of c.load_claim-claim.new.seat)
one c = acted_by _ kinds.Load _ _ c.requires.steady.steady refl c.load_claim-claim.ensures.grew

-- the claim was found, and then its unit
two : (c : After-load_unit) → Acted (table_limits c.args.self.now.words) 1 (view_of c.args.seat.now) (view_of c.load_claim-claim.new.seat) → Acted (table_limits c.args.self.now.words) 1 (view_of c.load_claim-claim.new.seat) (view_of c.load_unit.new.seat)
two c o = acted_by _ kinds.Load _ _ o.walk.steady refl c.load_unit.ensures.grew

taken : (c : In-Taken) → claim_word (seen_by c.load_claim-claim.new.seat) c.args.row ≡ TakenWord c.in-Taken.attempt c.in-Taken.unit c.in-Taken.round
taken c = sym c.load_claim-claim.ensures.claim ∙ ap claim_value c.in-Taken.is

attempts_are : (l k : Limits) → l ≡ k → k.attempts ≡ l.attempts
attempts_are l k same = ap (λ (z : Limits). z.attempts) (sym same)

pub load_unit-requires-clause-unit : goal.load_unit-requires-clause-unit
load_unit-requires-clause-unit c = let at = goal.at.load_unit-requires-clause-unit c in let o = one at.After-load_claim-claim in
    unit_inside (table_limits c.args.self.now.words) (seen_by c.load_claim-claim.new.seat) c.args.row c.in-Taken.attempt c.in-Taken.unit o.walk.steady.shows.legal (taken at.In-Taken)

pub returns-in-Free-clause-acted : goal.returns-in-Free-clause-acted
returns-in-Free-clause-acted c = acted_few _ 1 3 _ _ (omega arith) (one (goal.at.returns-in-Free-clause-acted c).After-load_claim-claim)

pub returns-in-Again-clause-acted : goal.returns-in-Again-clause-acted
returns-in-Again-clause-acted c = acted_few _ 1 3 _ _ (omega arith) (one (goal.at.returns-in-Again-clause-acted c).After-load_claim-claim)

pub returns-in-Killed-clause-acted : goal.returns-in-Killed-clause-acted
returns-in-Killed-clause-acted c = acted_few _ 1 3 _ _ (omega arith) (one (goal.at.returns-in-Killed-clause-acted c).After-load_claim-claim)

pub returns-in-Free-clause-fate : goal.returns-in-Free-clause-fate
returns-in-Free-clause-fate c = let l : Limits = table_limits c.args.self.now.words in let o = one (goal.at.returns-in-Free-clause-fate c).After-load_claim-claim in let h = seen_by c.load_claim-claim.new.seat in
    (h, looked_begins l 1 _ _ (looked l 1 _ _ o), begins_refl h, not_waiting l h c.args.row 0 (status_free l h c.args.row o.walk.steady.shows.legal (sym c.load_claim-claim.ensures.claim ∙ ap claim_value c.in-Free.is)))

pub returns-in-Again-clause-fate : goal.returns-in-Again-clause-fate
returns-in-Again-clause-fate c = let l : Limits = table_limits c.args.self.now.words in let o = one (goal.at.returns-in-Again-clause-fate c).After-load_claim-claim in let h = seen_by c.load_claim-claim.new.seat in
    (h, looked_begins l 1 _ _ (looked l 1 _ _ o), begins_refl h, not_waiting l h c.args.row 0 (status_again l h c.args.row c.in-Again.round o.walk.steady.shows.legal (sym c.load_claim-claim.ensures.claim ∙ ap claim_value c.in-Again.is)))

pub returns-in-Killed-clause-fate : goal.returns-in-Killed-clause-fate
returns-in-Killed-clause-fate c = let l : Limits = table_limits c.args.self.now.words in let o = one (goal.at.returns-in-Killed-clause-fate c).After-load_claim-claim in let h = seen_by c.load_claim-claim.new.seat in
    subst IsSettled (sym (status_killed l h c.args.row c.in-Killed.attempt c.in-Killed.unit o.walk.steady.shows.legal (sym c.load_claim-claim.ensures.claim ∙ ap claim_value c.in-Killed.is))) tt

-- the two looks together
both : (c : After-load_unit) → Acted (table_limits c.args.self.now.words) 1 (view_of c.args.seat.now) (view_of c.load_claim-claim.new.seat) → Acted (table_limits c.args.self.now.words) 2 (view_of c.args.seat.now) (view_of c.load_unit.new.seat)
both c o = let l : Limits = table_limits c.args.self.now.words in acted_then l 1 1 _ _ _ o (looked l 1 _ _ (two c o))

pub returns-in-Undecided-clause-acted : goal.returns-in-Undecided-clause-acted
returns-in-Undecided-clause-acted c = let at = goal.at.returns-in-Undecided-clause-acted c in acted_few _ 2 3 _ _ (omega arith) (both at.After-load_unit (one at.After-load_claim-claim))

pub returns-in-Committed-clause-acted : goal.returns-in-Committed-clause-acted
returns-in-Committed-clause-acted c = let at = goal.at.returns-in-Committed-clause-acted c in acted_few _ 2 3 _ _ (omega arith) (both at.After-load_unit (one at.After-load_claim-claim))

pub returns-then-attempt-self-clause-acted : goal.returns-then-attempt-self-clause-acted
returns-then-attempt-self-clause-acted c = let at = goal.at.returns-then-attempt-self-clause-acted c in acted_few _ 2 3 _ _ (omega arith) (both at.After-load_unit (one at.After-load_claim-claim))

pub returns-in-Undecided-clause-fate : goal.returns-in-Undecided-clause-fate
returns-in-Undecided-clause-fate c = let l : Limits = table_limits c.args.self.now.words in let at = goal.at.returns-in-Undecided-clause-fate c in let o = one at.After-load_claim-claim in let t = looked l 1 _ _ (two at.After-load_unit o) in let h = seen_by c.load_unit.new.seat in (
  h,
  looked_begins l 2 _ _ (looked l 2 _ _ (both at.After-load_unit o)),
  begins_refl h,
  not_held l h c.args.row c.in-Taken.unit c.in-Taken.attempt
      (sym (held_yet l (seen_by c.load_claim-claim.new.seat) h t.walk.steady.shows.legal (looked_begins l 1 _ _ t) c.args.row c.in-Taken.attempt c.in-Taken.unit (taken at.In-Taken) (sym (ap unit_value c.in-Undecided.is) ∙ c.load_unit.ensures.end))),
)

pub returns-in-Committed-clause-fate : goal.returns-in-Committed-clause-fate
returns-in-Committed-clause-fate c = let l : Limits = table_limits c.args.self.now.words in let at = goal.at.returns-in-Committed-clause-fate c in let o = one at.After-load_claim-claim in let t = looked l 1 _ _ (two at.After-load_unit o) in let h = seen_by c.load_unit.new.seat in
    subst IsSettled (consumed_now l (seen_by c.load_claim-claim.new.seat) h t.walk.steady.shows.legal (looked_begins l 1 _ _ t) c.args.row c.in-Taken.attempt c.in-Taken.unit c.in-Committed.first c.in-Committed.count (taken at.In-Taken) (sym (ap unit_value c.in-Committed.is) ∙ c.load_unit.ensures.end)) tt

pub returns-then-attempt-self-clause-fate : goal.returns-then-attempt-self-clause-fate
returns-then-attempt-self-clause-fate c = let l : Limits = table_limits c.args.self.now.words in let at = goal.at.returns-then-attempt-self-clause-fate c in let o = one at.After-load_claim-claim in let h = seen_by c.load_claim-claim.new.seat in
    let less = subst (λ n. c.in-Taken.attempt < n) (attempts_are l c.args.self.now.places.limits c.args.self.now.same) c.if-attempt-self.true in
    (h, looked_begins l 1 _ _ (looked l 1 _ _ o), looked_begins l 1 _ _ (looked l 1 _ _ (two at.After-load_unit o)), not_yet l h c.args.row c.in-Taken.attempt c.in-Taken.unit c.in-Taken.round o.walk.steady.shows.legal (taken at.In-Taken) less)

-- and the last one
last : (c : After-load_claim-again) → Acted (table_limits c.args.self.now.words) 2 (view_of c.args.seat.now) (view_of c.load_unit.new.seat) → Acted (table_limits c.args.self.now.words) 1 (view_of c.load_unit.new.seat) (view_of c.load_claim-again.new.seat)
last c o = acted_by _ kinds.Load _ _ o.walk.steady refl c.load_claim-again.ensures.grew

pub returns-then-ne-clause-acted : goal.returns-then-ne-clause-acted
returns-then-ne-clause-acted c = let l : Limits = table_limits c.args.self.now.words in let at = goal.at.returns-then-ne-clause-acted c in let b = both at.After-load_unit (one at.After-load_claim-claim) in
    acted_then l 2 1 _ _ _ b (looked l 1 _ _ (last at.After-load_claim-again b))

pub returns-else-ne-clause-acted : goal.returns-else-ne-clause-acted
returns-else-ne-clause-acted c = let l : Limits = table_limits c.args.self.now.words in let at = goal.at.returns-else-ne-clause-acted c in let b = both at.After-load_unit (one at.After-load_claim-claim) in
    acted_then l 2 1 _ _ _ b (looked l 1 _ _ (last at.After-load_claim-again b))

pub returns-then-ne-clause-fate : goal.returns-then-ne-clause-fate
returns-then-ne-clause-fate c = let l : Limits = table_limits c.args.self.now.words in let at = goal.at.returns-then-ne-clause-fate c in let o = one at.After-load_claim-claim in let t = two at.After-load_unit o in let b = both at.After-load_unit o in let e = last at.After-load_claim-again b in
    let differs : ¬ (c.load_claim-again.result.tells ≡ c.load_claim-claim.result.tells) = search rules in
    let h = seen_by c.load_claim-claim.new.seat in let from = looked_begins l 1 _ _ (looked l 1 _ _ o) in
    let g = gone_on l h (seen_by c.load_claim-again.new.seat) c.args.row (TakenWord c.in-Taken.attempt c.in-Taken.unit c.in-Taken.round) e.walk.steady.shows.legal (begins_trans h _ _ (looked_begins l 1 _ _ (looked l 1 _ _ t)) (looked_begins l 1 _ _ (looked l 1 _ _ e))) (sym (taken at.In-Taken))
    (λ same. differs (claim_is c.load_claim-again.result.tells c.in-Taken.attempt c.in-Taken.unit c.in-Taken.round (c.load_claim-again.ensures.claim ∙ same) ∙ sym c.in-Taken.is)) in
    (g.0, begins_trans _ h g.0 from g.1, g.2, g.3)

pub returns-else-ne-clause-fate : goal.returns-else-ne-clause-fate
returns-else-ne-clause-fate c = let l : Limits = table_limits c.args.self.now.words in let at = goal.at.returns-else-ne-clause-fate c in let b = both at.After-load_unit (one at.After-load_claim-claim) in let e = last at.After-load_claim-again b in
    let high = subst (λ n. n ≤ c.in-Taken.attempt) (attempts_are l c.args.self.now.places.limits c.args.self.now.same) c.if-attempt-self.false in
    let same : c.load_claim-again.result.tells ≡ c.load_claim-claim.result.tells = search rules in
    let now : claim_word (seen_by c.load_claim-again.new.seat) c.args.row ≡ TakenWord c.in-Taken.attempt c.in-Taken.unit c.in-Taken.round = sym c.load_claim-again.ensures.claim ∙ (ap claim_value same ∙ ap claim_value c.in-Taken.is) in
    let p = (returned l (seen_by c.load_unit.new.seat) (seen_by c.load_claim-again.new.seat) e.walk.steady.shows.legal (looked_begins l 1 _ _ (looked l 1 _ _ e)) c.args.row c.in-Taken.attempt c.in-Taken.unit (sym c.load_unit.ensures.end ∙ ap unit_value c.in-Aborted.is) now).1 high in
    (c.in-Taken.attempt, sym p)
