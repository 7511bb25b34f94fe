use Rattle.std.proofs.Common.{slice_index, ◌≡◌, ◌+◌, ◌*◌, ◌<◌, ◌≤◌, ℕ, List, length, set, sym, ◌∙◌, ap, refl, arith, subst}
use Rattle.tp_model.specs.declared.types.Limits.{Limits}
use Rattle.tp_model.specs.declared.types.Claimed.TheVariants as claimeds
use Rattle.tp_rule.specs.Tables.{table_limits}
use Rattle.tp_rule.specs.Views.{view_of}
use Rattle.tp_manager.specs.Shown.{ManagerShown, PassShown, Spot, marks_of, shown, spot}
use Rattle.tp_manager.specs.Raises.{RaisesMarks}
use Rattle.tp_manager.proofs.Marks.Rests.{rests_before, rests_shown, spare_before, spare_shown}
use Rattle.tp_manager.specs.Bounds.{claim_steps, claim_steps_left, marked_steps, part_steps, spare_left, try_steps}
use Rattle.tp_manager.specs.RowSteps.{lean_scan_steps}
use Rattle.tp_manager.specs.Calls.{Claims, Takes}
use Rattle.tp_manager.specs.CallSteps.{Steady, StepsTo}
use Rattle.tp_manager.specs.Marks.{IsBehind, Recalls}
use Rattle.tp_manager.proofs.Calls.CallSteps.{follows, remembers}
use Rattle.tp_manager.proofs.Marks.Lows.{begins_in, claim_few, claim_shown, marked_most, recalls_in, remembers_in, rises_in}
use Rattle.tp_manager.proofs.Calls.Passes.{done_walked, drawn_walked, rests_drawn, steady_at}
use Rattle.tp_manager.proofs.Claims.UnitsChosen.{chose_steady, chose_walked, chose_rests, idle_walked, idle_answer, took_walked, took_answer, took_first, took_rests}
use Rattle.tp_rule.specs.declared.view.View.{View}
use Rattle.tp_model.specs.Steps.{block_first}
use Rattle.tp_manager.specs.Leans.{IsLean}
use Rattle.tp_manager.proofs.Calls.Makes.{walked_made}
use Rattle.tp_manager.proofs.Claims.Leans.{lean_claim}
use Rattle.tp_manager.proofs.manager.Manager.claim.Goals as goal
use Rattle.tp_manager.proofs.manager.Manager.claim.Goals.{After-choose_unit}

lim : (c : After-choose_unit) → (view_of c.pass.inside.seat).limits ≡ table_limits c.self.inside.shared.words
lim c = ap (λ (p : PassShown). p.limits) c.pass.view_is ∙ (c.requires.own.1 ∙ (sym (ap (λ (m : ManagerShown). m.limits) c.self.view_is) ∙ sym c.self.inside.shared.same))

limits : (c : After-choose_unit) → table_limits c.self.inside.shared.words ≡ c.args.self.now.limits
limits c = c.self.inside.shared.same ∙ ap (λ (m : ManagerShown). m.limits) c.self.view_is

steady : (c : After-choose_unit) → Steady (table_limits c.self.inside.shared.words) (view_of c.pass.inside.seat)
steady c = steady_at _ _ _ (lim c) c.pass.invariant.0.steady

not : (c : After-choose_unit) → ¬ (c.pass.inside.used ≡ (table_limits c.self.inside.shared.words).units)
not c = subst (λ (z : Limits). ¬ (c.pass.inside.used ≡ z.units)) (sym c.self.inside.shared.same) c.if-pass-units.false

-- the stage is a kind that is remembered
kinds : (c : After-choose_unit) → c.args.stage < length c.pass.inside.lows
kinds c = let all = c.pass.told in let top = c.requires.stage.1 in omega arith

wide : (c : After-choose_unit) → c.args.stage < length c.pass.inside.gaps
wide c = let all = c.pass.told in let top = c.requires.stage.1 in omega arith

begun : (c : After-choose_unit) → c.args.stage < length c.pass.inside.begins
begun c = let all = c.pass.told in let top = c.requires.stage.1 in omega arith

-- the choice of a unit leaves what is remembered
known : (c : After-choose_unit) → Recalls (view_of c.choose_unit.new.seat) c.pass.inside.lows c.pass.inside.gaps c.pass.inside.begins c.pass.inside.units.committed c.pass.inside.streak
known c = remembers c.pass.inside.lows _ _ _ _ _ (chose_walked _ _ _ _ (steady c) c.choose_unit.ensures.chooses) c.pass.invariant.1

most : (l k : Limits) (lows : List ℕ) → l ≡ k → 1 + marked_steps l try_steps lows ≤ claim_steps k
most l k lows same = subst (λ (z : Limits). 1 + marked_steps l try_steps lows ≤ claim_steps z) same
    (let all = marked_most l try_steps lows in let each : 3 + l.rows * try_steps ≡ part_steps l = omega arith in
    subst (λ n. 1 + marked_steps l try_steps lows ≤ 1 + (l.parts * n + spare_left l try_steps 0)) each (omega arith))

few : (c : After-choose_unit) → 1 + marked_steps (table_limits c.self.inside.shared.words) try_steps (marks_of c.pass.inside.lows c.args.stage) ≤ claim_steps_left c.args.self.now.limits (marks_of c.args.pass.now.lows c.args.stage)
few c = let l : Limits = table_limits c.self.inside.shared.words in
    claim_shown l c.args.self.now.limits (marks_of c.pass.inside.lows c.args.stage) (marks_of c.args.pass.now.lows c.args.stage) _ (limits c) (ap (λ (p : PassShown). marks_of p.lows c.args.stage) c.pass.view_is)
    (claim_few l (marks_of c.pass.inside.lows c.args.stage) c.args.stage (view_of c.pass.inside.seat) (lim c) (steady c).known (c.pass.invariant.1.marks c.args.stage))

pub scan-requires-clause-remembers : goal.scan-requires-clause-remembers
scan-requires-clause-remembers c = (known (goal.at.scan-requires-clause-remembers c).After-choose_unit).marks c.args.stage

pub scan-requires-clause-gaps : goal.scan-requires-clause-gaps
scan-requires-clause-gaps c = (known (goal.at.scan-requires-clause-gaps c).After-choose_unit).gaps c.args.stage

pub scan-requires-clause-begins : goal.scan-requires-clause-begins
scan-requires-clause-begins c = let at = (goal.at.scan-requires-clause-begins c).After-choose_unit in
    subst (λ (z : Limits). IsBehind z (marks_of c.pass.inside.lows c.args.stage) (slice_index c.pass.inside.begins c.args.stage)) (lim at) (c.pass.invariant.1.behind c.args.stage)

pub scan-requires-clause-drawn : goal.scan-requires-clause-drawn
scan-requires-clause-drawn c = let at = (goal.at.scan-requires-clause-drawn c).After-choose_unit in
    drawn_walked (table_limits c.self.inside.shared.words) _ _ _ _ c.pass.inside.run.drawn (lim at) (chose_walked _ _ _ _ (steady at) c.choose_unit.ensures.chooses) c.pass.invariant.0.drawn

pub scan-requires-clause-steady : goal.scan-requires-clause-steady
scan-requires-clause-steady c = record {
  own = c.choose_unit.ensures.same ∙ (ap (λ (p : PassShown). p.table) c.pass.view_is ∙ (c.requires.own.0 ∙ sym (ap (λ (m : ManagerShown). m.table) c.self.view_is)));
  steady = chose_steady _ _ _ _ (steady (goal.at.scan-requires-clause-steady c).After-choose_unit) c.choose_unit.ensures.chooses;
}

pub returns-in_default-clause-follows : goal.returns-in_default-clause-follows
returns-in_default-clause-follows c = let at = (goal.at.returns-in_default-clause-follows c).After-choose_unit in let l : Limits = table_limits c.self.inside.shared.words in let told = c.in_default.ensures.told in
    follows (spot c.pass.inside.seat.table c.pass.inside.lows c.pass.inside.run.drawn c.pass.inside.from) (spot c.scan.new.seat.table (set c.pass.inside.lows c.args.stage c.scan.new.lows) c.scan.new.drawn c.pass.inside.from) (rises_in c.pass.inside.lows c.scan.new.lows c.args.stage (kinds at) c.scan.ensures.lows, c.scan.ensures.risen) (view_of c.pass.inside.seat) (view_of c.scan.new.seat) c.args.pass.now c.pass.view_is l _ _
    (idle_walked l _ _ (view_of c.choose_unit.new.seat) (steady at) c.choose_unit.ensures.chooses _ c.args.stage _ told) (claim_steps c.args.self.now.limits) (most l c.args.self.now.limits (marks_of c.pass.inside.lows c.args.stage) (limits at))

pub returns-in_default-clause-few : goal.returns-in_default-clause-few
returns-in_default-clause-few c = let at = (goal.at.returns-in_default-clause-few c).After-choose_unit in let l : Limits = table_limits c.self.inside.shared.words in let told = c.in_default.ensures.told in
    follows (spot c.pass.inside.seat.table c.pass.inside.lows c.pass.inside.run.drawn c.pass.inside.from) (spot c.scan.new.seat.table (set c.pass.inside.lows c.args.stage c.scan.new.lows) c.scan.new.drawn c.pass.inside.from) (rises_in c.pass.inside.lows c.scan.new.lows c.args.stage (kinds at) c.scan.ensures.lows, c.scan.ensures.risen) (view_of c.pass.inside.seat) (view_of c.scan.new.seat) c.args.pass.now c.pass.view_is l _ _
    (idle_walked l _ _ (view_of c.choose_unit.new.seat) (steady at) c.choose_unit.ensures.chooses _ c.args.stage _ told) (claim_steps_left c.args.self.now.limits (marks_of c.args.pass.now.lows c.args.stage)) (few at)

-- so by what is born in each row, up to row e
lean : (c : After-choose_unit) (e : ℕ) (y : View) → IsLean (table_limits c.self.inside.shared.words) (lean_scan_steps (table_limits c.self.inside.shared.words) c.args.stage (marks_of c.pass.inside.lows c.args.stage) e) (view_of c.choose_unit.new.seat) y → Steady (table_limits c.self.inside.shared.words) y
    → StepsTo (1 + lean_scan_steps c.args.self.now.limits c.args.stage (marks_of c.args.pass.now.lows c.args.stage) e c.args.pass.now.seen y.seen) (view_of c.pass.inside.seat) y
lean c e y scan steady_then = let l : Limits = table_limits c.self.inside.shared.words in let v = view_of c.pass.inside.seat in
    subst (λ h. StepsTo (1 + lean_scan_steps c.args.self.now.limits c.args.stage (marks_of c.args.pass.now.lows c.args.stage) e h y.seen) v y) (ap (λ (p : PassShown). p.seen) c.pass.view_is)
    (lean_claim l c.args.self.now.limits c.args.stage e (marks_of c.pass.inside.lows c.args.stage) (marks_of c.args.pass.now.lows c.args.stage) _ v (view_of c.choose_unit.new.seat) y (limits c) (ap (λ (p : PassShown). marks_of p.lows c.args.stage) c.pass.view_is)
    (chose_walked l _ v (view_of c.choose_unit.new.seat) (steady c) c.choose_unit.ensures.chooses) scan steady_then)

pub returns-in_default-clause-lean : goal.returns-in_default-clause-lean
returns-in_default-clause-lean c = let at = (goal.at.returns-in_default-clause-lean c).After-choose_unit in let l : Limits = table_limits c.self.inside.shared.words in let told = c.in_default.ensures.told in
    let v = view_of c.pass.inside.seat in let y = view_of c.scan.new.seat in let walk = idle_walked l _ _ (view_of c.choose_unit.new.seat) (steady at) c.choose_unit.ensures.chooses _ c.args.stage _ told in
    follows (spot c.pass.inside.seat.table c.pass.inside.lows c.pass.inside.run.drawn c.pass.inside.from) (spot c.scan.new.seat.table (set c.pass.inside.lows c.args.stage c.scan.new.lows) c.scan.new.drawn c.pass.inside.from) (rises_in c.pass.inside.lows c.scan.new.lows c.args.stage (kinds at) c.scan.ensures.lows, c.scan.ensures.risen) v y c.args.pass.now c.pass.view_is l _ _
    (walked_made l _ _ v y walk _ (subst (λ (z : Limits). StepsTo (1 + lean_scan_steps c.args.self.now.limits c.args.stage (marks_of c.args.pass.now.lows c.args.stage) (block_first z c.scan.new.drawn) c.args.pass.now.seen y.seen) v y) (limits at) (lean at (block_first l c.scan.new.drawn) y c.in_default.ensures.lean walk.steady))) _ (omega arith)

pub returns-clause-lean : goal.returns-clause-lean
returns-clause-lean c = let at = (goal.at.returns-clause-lean c).After-choose_unit in let l : Limits = table_limits c.self.inside.shared.words in let told = c.in-Some.ensures.told in
    let v = view_of c.pass.inside.seat in let y = view_of c.scan.new.seat in let walk = took_walked l _ _ (view_of c.choose_unit.new.seat) (steady at) c.choose_unit.ensures.chooses _ 0 _ _ _ _ told.0 in
    follows (spot c.pass.inside.seat.table c.pass.inside.lows c.pass.inside.run.drawn c.pass.inside.from) (spot c.scan.new.seat.table (set c.pass.inside.lows c.args.stage c.scan.new.lows) c.scan.new.drawn c.pass.inside.from) (rises_in c.pass.inside.lows c.scan.new.lows c.args.stage (kinds at) c.scan.ensures.lows, c.scan.ensures.risen) v y c.args.pass.now c.pass.view_is l _ _
    (walked_made l _ _ v y walk _ (lean at (c.in-Some.taken.element.id + 1) y c.in-Some.ensures.lean walk.steady)) _ (omega arith)

pub returns-in_default-clause-answer : goal.returns-in_default-clause-answer
returns-in_default-clause-answer c = let at = (goal.at.returns-in_default-clause-answer c).After-choose_unit in let l : Limits = table_limits c.self.inside.shared.words in let told = c.in_default.ensures.told in
    subst (λ (z : Limits). Claims z c.args.stage c.args.pass.now (shown (spot c.scan.new.seat.table (set c.pass.inside.lows c.args.stage c.scan.new.lows) c.scan.new.drawn c.pass.inside.from) (view_of c.scan.new.seat)) claimeds.Idle) (limits at)
    (idle_answer l _ _ (view_of c.choose_unit.new.seat) (steady at) c.choose_unit.ensures.chooses _ c.args.stage _ told _ _ _ _ c.pass.inside.seat (spot c.pass.inside.seat.table c.pass.inside.lows c.pass.inside.run.drawn c.pass.inside.from) (spot c.scan.new.seat.table (set c.pass.inside.lows c.args.stage c.scan.new.lows) c.scan.new.drawn c.pass.inside.from) c.args.pass.now refl (lim at) c.pass.view_is c.pass.invariant.0 (not at))

pub scan-requires-clause-done : goal.scan-requires-clause-done
scan-requires-clause-done c = let at = (goal.at.scan-requires-clause-done c).After-choose_unit in
    done_walked _ 1 _ _ _ c.pass.inside.run.done (lim at) (chose_walked _ _ _ (view_of c.choose_unit.new.seat) (steady at) c.choose_unit.ensures.chooses) c.pass.invariant.0.done

pub invariant_of-pass-in_default : goal.invariant_of-pass-in_default
invariant_of-pass-in_default c = let at = (goal.at.invariant_of-pass-in_default c).After-choose_unit in let l : Limits = table_limits c.self.inside.shared.words in (
  rests_drawn c.scan.new.seat _ _ _ _ c.scan.new.drawn (chose_rests l _ _ c.args.stage _ _ _ _ c.pass.inside.seat c.scan.new.seat (view_of c.choose_unit.new.seat) (steady at) c.choose_unit.ensures.chooses c.in_default.ensures.told (lim at) c.pass.invariant.0) c.scan.ensures.drawn,
  begins_in l c.pass.inside.lows c.scan.new.lows c.pass.inside.begins c.scan.new.begins c.args.stage (view_of c.scan.new.seat) (kinds at) (begun at) c.in_default.ensures.told.walk.steady.pass.1 c.scan.ensures.begins
      (recalls_in c.pass.inside.gaps c.scan.new.gaps c.args.stage (view_of c.scan.new.seat) (wide at) c.scan.ensures.gaps
      (remembers_in l c.pass.inside.lows c.scan.new.lows c.args.stage (view_of c.scan.new.seat) (kinds at) c.in_default.ensures.told.walk.steady c.scan.ensures.lows c.scan.ensures.remembers (remembers c.pass.inside.lows _ _ _ _ _ c.in_default.ensures.told.walk (known at)))),
)

pub invariant_of-pass-2 : goal.invariant_of-pass-2
invariant_of-pass-2 c = let at = (goal.at.invariant_of-pass-2 c).After-choose_unit in let l : Limits = table_limits c.self.inside.shared.words in let told = c.in-Some.ensures.told in (
  rests_drawn c.scan.new.seat _ _ _ _ c.scan.new.drawn (took_rests l _ _ 0 c.args.stage c.in-Some.taken.attempt c.in-Some.taken.root _ _ _ _ _ c.pass.inside.seat c.scan.new.seat (view_of c.choose_unit.new.seat) c.in-Some.taken.element (steady at) c.choose_unit.ensures.chooses told.0 (lim at) told.1 refl (not at) c.pass.invariant.0) c.scan.ensures.drawn,
  begins_in l c.pass.inside.lows c.scan.new.lows c.pass.inside.begins c.scan.new.begins c.args.stage (view_of c.scan.new.seat) (kinds at) (begun at) told.0.walk.steady.pass.1 c.scan.ensures.begins
      (recalls_in c.pass.inside.gaps c.scan.new.gaps c.args.stage (view_of c.scan.new.seat) (wide at) c.scan.ensures.gaps
      (remembers_in l c.pass.inside.lows c.scan.new.lows c.args.stage (view_of c.scan.new.seat) (kinds at) told.0.walk.steady c.scan.ensures.lows c.scan.ensures.remembers (remembers c.pass.inside.lows _ _ _ _ _ told.0.walk (known at)))),
)

pub returns-clause-follows : goal.returns-clause-follows
returns-clause-follows c = let at = (goal.at.returns-clause-follows c).After-choose_unit in let l : Limits = table_limits c.self.inside.shared.words in let told = c.in-Some.ensures.told in
    follows (spot c.pass.inside.seat.table c.pass.inside.lows c.pass.inside.run.drawn c.pass.inside.from) (spot c.scan.new.seat.table (set c.pass.inside.lows c.args.stage c.scan.new.lows) c.scan.new.drawn c.pass.inside.from) (rises_in c.pass.inside.lows c.scan.new.lows c.args.stage (kinds at) c.scan.ensures.lows, c.scan.ensures.risen) (view_of c.pass.inside.seat) (view_of c.scan.new.seat) c.args.pass.now c.pass.view_is l _ _
    (took_walked l _ _ (view_of c.choose_unit.new.seat) (steady at) c.choose_unit.ensures.chooses _ 0 _ _ _ _ told.0) (claim_steps c.args.self.now.limits) (most l c.args.self.now.limits (marks_of c.pass.inside.lows c.args.stage) (limits at))

pub returns-clause-few : goal.returns-clause-few
returns-clause-few c = let at = (goal.at.returns-clause-few c).After-choose_unit in let l : Limits = table_limits c.self.inside.shared.words in let told = c.in-Some.ensures.told in
    follows (spot c.pass.inside.seat.table c.pass.inside.lows c.pass.inside.run.drawn c.pass.inside.from) (spot c.scan.new.seat.table (set c.pass.inside.lows c.args.stage c.scan.new.lows) c.scan.new.drawn c.pass.inside.from) (rises_in c.pass.inside.lows c.scan.new.lows c.args.stage (kinds at) c.scan.ensures.lows, c.scan.ensures.risen) (view_of c.pass.inside.seat) (view_of c.scan.new.seat) c.args.pass.now c.pass.view_is l _ _
    (took_walked l _ _ (view_of c.choose_unit.new.seat) (steady at) c.choose_unit.ensures.chooses _ 0 _ _ _ _ told.0) (claim_steps_left c.args.self.now.limits (marks_of c.args.pass.now.lows c.args.stage)) (few at)

pub returns-clause-answer : goal.returns-clause-answer
returns-clause-answer c = let at = (goal.at.returns-clause-answer c).After-choose_unit in let l : Limits = table_limits c.self.inside.shared.words in let told = c.in-Some.ensures.told in
    let u : ℕ = c.pass.inside.number * c.self.inside.shared.places.limits.units + c.pass.inside.used in
    subst (λ (z : Limits). Takes z c.args.stage (record { unit = u; element = c.in-Some.taken.element; attempt = c.in-Some.taken.attempt }) c.args.pass.now (shown (spot c.scan.new.seat.table (set c.pass.inside.lows c.args.stage c.scan.new.lows) c.scan.new.drawn c.pass.inside.from) (view_of c.scan.new.seat))) (limits at)
    record {
      opens = took_answer l u _ (view_of c.choose_unit.new.seat) (steady at) c.choose_unit.ensures.chooses _ 0 c.args.stage c.in-Some.taken.attempt _ c.in-Some.taken.element told.0 _ _ _ _ c.pass.inside.seat (spot c.pass.inside.seat.table c.pass.inside.lows c.pass.inside.run.drawn c.pass.inside.from) (spot c.scan.new.seat.table (set c.pass.inside.lows c.args.stage c.scan.new.lows) c.scan.new.drawn c.pass.inside.from) c.args.pass.now refl (lim at) c.pass.view_is
          c.pass.invariant.0 (not at) (ap (λ (z : Limits). c.pass.inside.number * z.units + c.pass.inside.used) (sym c.self.inside.shared.same));
      first = took_first l u _ (view_of c.choose_unit.new.seat) (steady at) c.choose_unit.ensures.chooses _ 0 c.args.stage c.in-Some.taken.attempt _ c.in-Some.taken.element told.0 (λ i. i < c.in-Some.taken.element.id) (λ i inside less. told.0.passed i (omega arith) less)
          (spot c.pass.inside.seat.table c.pass.inside.lows c.pass.inside.run.drawn c.pass.inside.from) (spot c.scan.new.seat.table (set c.pass.inside.lows c.args.stage c.scan.new.lows) c.scan.new.drawn c.pass.inside.from) c.args.pass.now c.pass.view_is;
    }

pub returns-in_default-clause-raises : goal.returns-in_default-clause-raises
returns-in_default-clause-raises c = let at = (goal.at.returns-in_default-clause-raises c).After-choose_unit in let l : Limits = table_limits c.self.inside.shared.words in let told = c.in_default.ensures.told in
    let v = view_of c.pass.inside.seat in let w = view_of c.choose_unit.new.seat in let y = view_of c.scan.new.seat in let a = chose_walked l _ v w (steady at) c.choose_unit.ensures.chooses in
    let t : Spot = spot c.pass.inside.seat.table c.pass.inside.lows c.pass.inside.run.drawn c.pass.inside.from in
    subst (λ (z : Limits). RaisesMarks z c.args.stage c.args.pass.now (shown (spot c.scan.new.seat.table (set c.pass.inside.lows c.args.stage c.scan.new.lows) c.scan.new.drawn c.pass.inside.from) y) claimeds.Idle) (limits at)
    record {
      parts = λ p inside came. rests_shown l c.args.stage c.pass.inside.lows c.scan.new.lows (kinds at) c.scan.new.seat.table c.scan.new.drawn c.pass.inside.from t v y c.args.pass.now c.pass.view_is p
          (rests_before l 1 _ _ told.marks v w y a told.walk c.args.stage p _ (c.in_default.ensures.rests p inside tt));
      blocks = λ came. spare_shown l c.args.stage c.pass.inside.lows c.scan.new.lows (kinds at) c.scan.new.seat.table c.scan.new.drawn c.pass.inside.from t v y c.args.pass.now c.pass.view_is
          (spare_before l 1 _ _ told.marks v w y a told.walk c.args.stage _ _ (c.in_default.ensures.spare tt));
    }

pub returns-clause-raises : goal.returns-clause-raises
returns-clause-raises c = let at = (goal.at.returns-clause-raises c).After-choose_unit in let l : Limits = table_limits c.self.inside.shared.words in let told = c.in-Some.ensures.told.0 in
    let u : ℕ = c.pass.inside.number * c.self.inside.shared.places.limits.units + c.pass.inside.used in
    let v = view_of c.pass.inside.seat in let w = view_of c.choose_unit.new.seat in let y = view_of c.scan.new.seat in let a = chose_walked l _ v w (steady at) c.choose_unit.ensures.chooses in
    let t : Spot = spot c.pass.inside.seat.table c.pass.inside.lows c.pass.inside.run.drawn c.pass.inside.from in
    subst (λ (z : Limits). RaisesMarks z c.args.stage c.args.pass.now (shown (spot c.scan.new.seat.table (set c.pass.inside.lows c.args.stage c.scan.new.lows) c.scan.new.drawn c.pass.inside.from) y)
    (claimeds.Work (record { unit = u; element = c.in-Some.taken.element; attempt = c.in-Some.taken.attempt }))) (limits at)
    record {
      parts = λ p inside came. rests_shown l c.args.stage c.pass.inside.lows c.scan.new.lows (kinds at) c.scan.new.seat.table c.scan.new.drawn c.pass.inside.from t v y c.args.pass.now c.pass.view_is p
          (rests_before l 1 _ _ told.marks v w y a told.walk c.args.stage p _ (c.in-Some.ensures.rests p inside came));
      blocks = λ came. spare_shown l c.args.stage c.pass.inside.lows c.scan.new.lows (kinds at) c.scan.new.seat.table c.scan.new.drawn c.pass.inside.from t v y c.args.pass.now c.pass.view_is
          (spare_before l 1 _ _ told.marks v w y a told.walk c.args.stage _ _ (c.in-Some.ensures.spare came));
    }
