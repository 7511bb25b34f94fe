use Rattle.std.proofs.Common.{◌≡◌, ◌≤◌, sym, ◌∙◌, ap, arith, subst, refl}
use Rattle.tp_model.specs.declared.types.Limits.{Limits}
use Rattle.tp_model.specs.declared.trace.StepKind.TheVariants as kinds
use Rattle.tp_model.specs.Words.{TakenWord, claim_word}
use Rattle.tp_model.proofs.Bridges.{begins_refl, status_again, status_free}
use Rattle.tp_model.proofs.Later.{unit_inside}
use Rattle.tp_rule.specs.Words.{claim_value, unit_value}
use Rattle.tp_rule.specs.Tables.{table_limits}
use Rattle.tp_rule.specs.Views.{seen_by, view_of}
use Rattle.tp_manager.specs.Looks.{HasStand}
use Rattle.tp_manager.specs.CallSteps.{Looked}
use Rattle.tp_manager.specs.declared.scanning.Stand.TheVariants as stands
use Rattle.tp_manager.proofs.Claims.Scans.{stands_held, stands_killed, stands_last, stands_over, stands_ready, unsettled_held, unsettled_taken, unsettled_waits}
use Rattle.tp_manager.proofs.Calls.CallSteps.{acted_by, looked, looked_begins, looked_few, looked_none}
use Rattle.tp_manager.proofs.manager.Shared.stand_of.Goals as goal
use Rattle.tp_manager.proofs.manager.Shared.stand_of.Goals.{In-Taken, After-load_unit}

taken : (c : In-Taken) → claim_word (seen_by c.args.seat.now) c.args.row ≡ TakenWord c.in-Taken.attempt c.in-Taken.unit c.in-Taken.round
taken c = sym c.requires.found.0 ∙ ap claim_value c.in-Taken.is

one : (c : After-load_unit) → Looked (table_limits c.args.self.now.words) 1 (view_of c.args.seat.now) (view_of c.load_unit.new.seat)
one c = looked _ 1 _ _ (acted_by _ kinds.Load _ _ c.requires.steady.steady refl c.load_unit.ensures.grew)

-- no attempt is left
last : (c : In-Taken) → c.args.self.now.places.limits.attempts ≤ c.in-Taken.attempt → (table_limits c.args.self.now.words).attempts ≤ c.in-Taken.attempt
last c high = subst (λ (z : Limits). z.attempts ≤ c.in-Taken.attempt) (sym c.args.self.now.same) high

pub returns-then-not-whole-clause-looked : goal.returns-then-not-whole-clause-looked
returns-then-not-whole-clause-looked c = looked_few _ 0 1 _ _ (omega arith) (looked_none _ _ c.requires.steady.steady)

pub returns-then-not-whole-clause-stands : goal.returns-then-not-whole-clause-stands
returns-then-not-whole-clause-stands c = let at = (goal.at.returns-then-not-whole-clause-stands c).In-Taken in let h = seen_by c.args.seat.now in let l : Limits = table_limits c.args.self.now.words in
    subst (λ t. HasStand l c.args.row h h (claim_value t) stands.Busy) (sym c.in-Taken.is) (stands_last l c.args.row h h c.in-Taken.attempt c.in-Taken.unit c.in-Taken.round c.requires.steady.steady.shows.legal (begins_refl h) (taken at) (last at c.if-is_last.true))

pub load_unit-requires-clause-unit : goal.load_unit-requires-clause-unit
load_unit-requires-clause-unit c = unit_inside (table_limits c.args.self.now.words) (seen_by c.args.seat.now) c.args.row c.in-Taken.attempt c.in-Taken.unit c.requires.steady.steady.shows.legal (taken (goal.at.load_unit-requires-clause-unit c).In-Taken)

pub returns-then-is_last-2-clause-looked : goal.returns-then-is_last-2-clause-looked
returns-then-is_last-2-clause-looked c = one (goal.at.returns-then-is_last-2-clause-looked c).After-load_unit

pub returns-then-is_last-2-clause-stands : goal.returns-then-is_last-2-clause-stands
returns-then-is_last-2-clause-stands c = let at = goal.at.returns-then-is_last-2-clause-stands c in let h = seen_by c.args.seat.now in let g = seen_by c.load_unit.new.seat in let l : Limits = table_limits c.args.self.now.words in
    subst (λ t. HasStand l c.args.row h g (claim_value t) stands.Busy) (sym c.in-Taken.is)
    (stands_last l c.args.row h g c.in-Taken.attempt c.in-Taken.unit c.in-Taken.round c.requires.steady.steady.shows.legal (looked_begins l 1 _ _ (one at.After-load_unit)) (taken at.In-Taken) (last at.In-Taken c.if-is_last-2.true))

pub returns-in-Free-clause-looked : goal.returns-in-Free-clause-looked
returns-in-Free-clause-looked c = looked_few _ 0 1 _ _ (omega arith) (looked_none _ _ c.requires.steady.steady)

pub returns-in-Again-clause-looked : goal.returns-in-Again-clause-looked
returns-in-Again-clause-looked c = looked_few _ 0 1 _ _ (omega arith) (looked_none _ _ c.requires.steady.steady)

pub returns-in-Killed-clause-looked : goal.returns-in-Killed-clause-looked
returns-in-Killed-clause-looked c = looked_few _ 0 1 _ _ (omega arith) (looked_none _ _ c.requires.steady.steady)

pub returns-in-Killed-clause-stands : goal.returns-in-Killed-clause-stands
returns-in-Killed-clause-stands c = let h = seen_by c.args.seat.now in stands_killed (table_limits c.args.self.now.words) c.args.row h h _ _ _ c.requires.steady.steady.shows.legal (sym c.requires.found.0 ∙ ap claim_value c.in-Killed.is)

pub returns-in-Undecided-clause-looked : goal.returns-in-Undecided-clause-looked
returns-in-Undecided-clause-looked c = one (goal.at.returns-in-Undecided-clause-looked c).After-load_unit

pub returns-in-Undecided-clause-stands : goal.returns-in-Undecided-clause-stands
returns-in-Undecided-clause-stands c = let at = goal.at.returns-in-Undecided-clause-stands c in let h = seen_by c.args.seat.now in let g = seen_by c.load_unit.new.seat in let l : Limits = table_limits c.args.self.now.words in let o = one at.After-load_unit in
    subst (λ t. HasStand l c.args.row h g (claim_value t) stands.Busy) (sym c.in-Taken.is)
    (stands_held l c.args.row h g c.in-Taken.attempt c.in-Taken.unit c.in-Taken.round o.walk.steady.shows.legal (looked_begins l 1 _ _ o) (taken at.In-Taken) (sym (ap unit_value c.in-Undecided.is) ∙ c.load_unit.ensures.end))

pub returns-in-Committed-clause-looked : goal.returns-in-Committed-clause-looked
returns-in-Committed-clause-looked c = one (goal.at.returns-in-Committed-clause-looked c).After-load_unit

pub returns-in-Committed-clause-stands : goal.returns-in-Committed-clause-stands
returns-in-Committed-clause-stands c = let at = goal.at.returns-in-Committed-clause-stands c in let h = seen_by c.args.seat.now in let g = seen_by c.load_unit.new.seat in let l : Limits = table_limits c.args.self.now.words in let o = one at.After-load_unit in
    stands_over l c.args.row h g c.in-Taken.attempt c.in-Taken.unit c.in-Taken.round _ _ o.walk.steady.shows.legal (looked_begins l 1 _ _ o) (taken at.In-Taken) (sym (ap unit_value c.in-Committed.is) ∙ c.load_unit.ensures.end)

pub returns-else-is_last-2-clause-looked : goal.returns-else-is_last-2-clause-looked
returns-else-is_last-2-clause-looked c = one (goal.at.returns-else-is_last-2-clause-looked c).After-load_unit

pub returns-else-is_last-2-clause-stands : goal.returns-else-is_last-2-clause-stands
returns-else-is_last-2-clause-stands c = let at = goal.at.returns-else-is_last-2-clause-stands c in let h = seen_by c.args.seat.now in let g = seen_by c.load_unit.new.seat in let l : Limits = table_limits c.args.self.now.words in
    let e : l.attempts ≡ c.args.self.now.places.limits.attempts = ap (λ (z : Limits). z.attempts) c.args.self.now.same in let less = c.if-is_last-2.false in
    subst (λ t. HasStand l c.args.row h g (claim_value t) (stands.Ready c.in-Taken.attempt)) (sym c.in-Taken.is)
    (stands_ready l c.args.row h g c.in-Taken.attempt c.in-Taken.unit c.in-Taken.round (sym (ap unit_value c.in-Aborted.is) ∙ c.load_unit.ensures.end) (omega arith))

pub returns-in-Free-clause-unsettled : goal.returns-in-Free-clause-unsettled
returns-in-Free-clause-unsettled c = λ _ _. let h = seen_by c.args.seat.now in let l : Limits = table_limits c.args.self.now.words in unsettled_waits l c.args.row h h 0 (begins_refl h) (status_free l h c.args.row c.requires.steady.steady.shows.legal (sym c.requires.found.0 ∙ ap claim_value c.in-Free.is))

pub returns-in-Again-clause-unsettled : goal.returns-in-Again-clause-unsettled
returns-in-Again-clause-unsettled c = λ _ _. let h = seen_by c.args.seat.now in let l : Limits = table_limits c.args.self.now.words in unsettled_waits l c.args.row h h 0 (begins_refl h) (status_again l h c.args.row c.in-Again.round c.requires.steady.steady.shows.legal (sym c.requires.found.0 ∙ ap claim_value c.in-Again.is))

pub returns-in-Undecided-clause-unsettled : goal.returns-in-Undecided-clause-unsettled
returns-in-Undecided-clause-unsettled c = λ _ _. let at = goal.at.returns-in-Undecided-clause-unsettled c in let o = one at.After-load_unit in
    unsettled_held (table_limits c.args.self.now.words) c.args.row _ _ c.in-Taken.attempt c.in-Taken.unit c.in-Taken.round o.walk.steady.shows.legal (looked_begins _ 1 _ _ o) (taken at.In-Taken) (sym (ap unit_value c.in-Undecided.is) ∙ c.load_unit.ensures.end)

pub returns-then-is_last-2-clause-unsettled : goal.returns-then-is_last-2-clause-unsettled
returns-then-is_last-2-clause-unsettled c = λ _ _. let at = goal.at.returns-then-is_last-2-clause-unsettled c in
    unsettled_taken (table_limits c.args.self.now.words) c.args.row _ _ c.in-Taken.attempt c.in-Taken.unit c.in-Taken.round c.requires.steady.steady.shows.legal (looked_begins _ 1 _ _ (one at.After-load_unit)) (taken at.In-Taken) (sym (ap unit_value c.in-Aborted.is) ∙ c.load_unit.ensures.end)

pub returns-else-is_last-2-clause-unsettled : goal.returns-else-is_last-2-clause-unsettled
returns-else-is_last-2-clause-unsettled c = λ _ _. let at = goal.at.returns-else-is_last-2-clause-unsettled c in
    unsettled_taken (table_limits c.args.self.now.words) c.args.row _ _ c.in-Taken.attempt c.in-Taken.unit c.in-Taken.round c.requires.steady.steady.shows.legal (looked_begins _ 1 _ _ (one at.After-load_unit)) (taken at.In-Taken) (sym (ap unit_value c.in-Aborted.is) ∙ c.load_unit.ensures.end)
