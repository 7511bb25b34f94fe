use Rattle.std.proofs.Common.{◌≡◌, ◌+◌, ◌*◌, ◌<◌, ◌≤◌, ℕ, List, length, set, sym, ◌∙◌, ap, refl, arith, subst}
use Rattle.tp_model.specs.declared.types.Limits.{Limits}
use Rattle.tp_model.specs.declared.types.Claimed.TheVariants as claimeds
use Rattle.tp_rule.specs.Tables.{table_limits}
use Rattle.tp_rule.specs.Views.{seen_by, view_of}
use Rattle.tp_manager.specs.Shown.{ManagerShown, PassShown, marks_of, shown, spot, turn_of}
use Rattle.tp_model.specs.declared.types.TheConstants.{BLOCK_ROWS}
use Rattle.tp_manager.proofs.Calls.Makes.{made, made_then, walked_made}
use Rattle.tp_manager.specs.Bounds.{drawn_steps, claim_next_steps, claim_next_steps_left, scan_steps, try_steps}
use Rattle.tp_model.specs.Steps.{rows_of}
use Rattle.tp_model.proofs.Later.{births_inside}
use Rattle.tp_manager.proofs.Families.Cancels.{few_rows}
use Rattle.tp_manager.specs.Calls.{Claims, IsBefore, TakesNext}
use Rattle.tp_manager.specs.CallSteps.{Steady, StepsTo}
use Rattle.tp_manager.specs.Marks.{Recalls}
use Rattle.tp_manager.proofs.Calls.CallSteps.{follows, remembers}
use Rattle.tp_manager.proofs.Marks.Lows.{next_few, next_shown, remembers_in, rises_in}
use Rattle.tp_manager.proofs.Calls.Passes.{done_walked, drawn_walked, rests_drawn, steady_at}
use Rattle.tp_manager.proofs.Claims.UnitsChosen.{chose_steady, chose_walked, chose_rests, idle_walked, idle_answer, took_walked, took_answer, took_first, took_rests}
use Rattle.tp_rule.specs.declared.view.View.{View}
use Rattle.tp_manager.specs.RowSteps.{lean_claim_next_steps, lean_turn_steps}
use Rattle.tp_manager.specs.Leans.{IsLean}
use Rattle.tp_manager.proofs.Claims.LeanTurns.{next_lean}
use Rattle.tp_manager.proofs.manager.Manager.claim_next.Goals as goal
use Rattle.tp_manager.proofs.manager.Manager.claim_next.Goals.{After-choose_unit}

lim : (c : After-choose_unit) → (view_of c.pass.inside.seat).limits ≡ table_limits c.self.inside.shared.words
lim c = ap (λ (p : PassShown). p.limits) c.pass.view_is ∙ (c.requires.own.1 ∙ (sym (ap (λ (m : ManagerShown). m.limits) c.self.view_is) ∙ sym c.self.inside.shared.same))

limits : (c : After-choose_unit) → table_limits c.self.inside.shared.words ≡ c.args.self.now.limits
limits c = c.self.inside.shared.same ∙ ap (λ (m : ManagerShown). m.limits) c.self.view_is

steady : (c : After-choose_unit) → Steady (table_limits c.self.inside.shared.words) (view_of c.pass.inside.seat)
steady c = steady_at _ _ _ (lim c) c.pass.invariant.0.steady

not : (c : After-choose_unit) → ¬ (c.pass.inside.used ≡ (table_limits c.self.inside.shared.words).units)
not c = subst (λ (z : Limits). ¬ (c.pass.inside.used ≡ z.units)) (sym c.self.inside.shared.same) c.if-pass-units.false

-- the stage is a kind that is remembered
kinds : (c : After-choose_unit) → c.args.stage < length c.pass.inside.lows
kinds c = let all = c.pass.told in let top = c.requires.stage.1 in omega arith

-- the choice of a unit leaves what is remembered
known : (c : After-choose_unit) → Recalls (view_of c.choose_unit.new.seat) c.pass.inside.lows c.pass.inside.gaps c.pass.inside.begins c.pass.inside.units.committed c.pass.inside.streak
known c = remembers c.pass.inside.lows _ _ _ _ _ (chose_walked _ _ _ _ (steady c) c.choose_unit.ensures.chooses) c.pass.invariant.1

-- the steps are those of the scan, and the choice
most : (c : After-choose_unit) → 1 + (6 * (table_limits c.self.inside.shared.words).parts + 2 * drawn_steps (table_limits c.self.inside.shared.words).spare + rows_of (table_limits c.self.inside.shared.words) * try_steps) ≤ claim_next_steps c.args.self.now.limits
most c = subst (λ (z : Limits). 1 + (6 * (table_limits c.self.inside.shared.words).parts + 2 * drawn_steps (table_limits c.self.inside.shared.words).spare + rows_of (table_limits c.self.inside.shared.words) * try_steps) ≤ claim_next_steps z) (limits c) (omega arith)

pub scan_turn-requires-clause-remembers : goal.scan_turn-requires-clause-remembers
scan_turn-requires-clause-remembers c = (known (goal.at.scan_turn-requires-clause-remembers c).After-choose_unit).marks c.args.stage

pub scan_turn-requires-clause-drawn : goal.scan_turn-requires-clause-drawn
scan_turn-requires-clause-drawn c = let at = (goal.at.scan_turn-requires-clause-drawn c).After-choose_unit in
    drawn_walked (table_limits c.self.inside.shared.words) _ _ _ _ c.pass.inside.run.drawn (lim at) (chose_walked _ _ _ _ (steady at) c.choose_unit.ensures.chooses) c.pass.invariant.0.drawn

pub scan_turn-requires-clause-steady : goal.scan_turn-requires-clause-steady
scan_turn-requires-clause-steady c = record {
  own = c.choose_unit.ensures.same ∙ (ap (λ (p : PassShown). p.table) c.pass.view_is ∙ (c.requires.own.0 ∙ sym (ap (λ (m : ManagerShown). m.table) c.self.view_is)));
  steady = chose_steady _ _ _ _ (steady (goal.at.scan_turn-requires-clause-steady c).After-choose_unit) c.choose_unit.ensures.chooses;
}

pub returns-in_default-clause-follows : goal.returns-in_default-clause-follows
returns-in_default-clause-follows c = let at = (goal.at.returns-in_default-clause-follows c).After-choose_unit in let l : Limits = table_limits c.self.inside.shared.words in let told = c.in_default.ensures.told in
    follows (spot c.pass.inside.seat.table c.pass.inside.lows c.pass.inside.run.drawn c.pass.inside.from) (spot c.scan_turn.new.seat.table (set c.pass.inside.lows c.args.stage c.scan_turn.new.lows) c.scan_turn.new.drawn c.pass.inside.from) (rises_in c.pass.inside.lows c.scan_turn.new.lows c.args.stage (kinds at) c.scan_turn.ensures.lows, c.scan_turn.ensures.risen) (view_of c.pass.inside.seat) (view_of c.scan_turn.new.seat) c.args.pass.now c.pass.view_is l _ _
    (idle_walked l _ _ (view_of c.choose_unit.new.seat) (steady at) c.choose_unit.ensures.chooses _ c.args.stage _ told) (claim_next_steps c.args.self.now.limits) (most at)

pub returns-in_default-clause-answer : goal.returns-in_default-clause-answer
returns-in_default-clause-answer c = let at = (goal.at.returns-in_default-clause-answer c).After-choose_unit in let l : Limits = table_limits c.self.inside.shared.words in let told = c.in_default.ensures.told in (
  subst (λ (z : Limits). Claims z c.args.stage c.args.pass.now (shown (spot c.scan_turn.new.seat.table (set c.pass.inside.lows c.args.stage c.scan_turn.new.lows) c.scan_turn.new.drawn c.pass.inside.from) (view_of c.scan_turn.new.seat)) claimeds.Idle) (limits at)
      (idle_answer l _ _ (view_of c.choose_unit.new.seat) (steady at) c.choose_unit.ensures.chooses _ c.args.stage _ told _ _ _ _ c.pass.inside.seat (spot c.pass.inside.seat.table c.pass.inside.lows c.pass.inside.run.drawn c.pass.inside.from) (spot c.scan_turn.new.seat.table (set c.pass.inside.lows c.args.stage c.scan_turn.new.lows) c.scan_turn.new.drawn c.pass.inside.from) c.args.pass.now refl (lim at) c.pass.view_is c.pass.invariant.0 (not at)),
  ap (λ (p : PassShown). p.from) c.pass.view_is,
)

pub scan_turn-requires-clause-done : goal.scan_turn-requires-clause-done
scan_turn-requires-clause-done c = let at = (goal.at.scan_turn-requires-clause-done c).After-choose_unit in
    done_walked _ 1 _ _ _ c.pass.inside.run.done (lim at) (chose_walked _ _ _ (view_of c.choose_unit.new.seat) (steady at) c.choose_unit.ensures.chooses) c.pass.invariant.0.done

pub invariant_of-pass-in_default : goal.invariant_of-pass-in_default
invariant_of-pass-in_default c = let at = (goal.at.invariant_of-pass-in_default c).After-choose_unit in let l : Limits = table_limits c.self.inside.shared.words in
    (rests_drawn c.scan_turn.new.seat _ _ _ _ c.scan_turn.new.drawn (chose_rests l _ _ c.args.stage _ _ _ _ c.pass.inside.seat c.scan_turn.new.seat (view_of c.choose_unit.new.seat) (steady at) c.choose_unit.ensures.chooses c.in_default.ensures.told (lim at) c.pass.invariant.0) c.scan_turn.ensures.drawn, remembers_in _ c.pass.inside.lows c.scan_turn.new.lows c.args.stage (view_of c.scan_turn.new.seat) (kinds at) c.in_default.ensures.told.walk.steady c.scan_turn.ensures.lows c.scan_turn.ensures.remembers (remembers c.pass.inside.lows _ _ _ _ _ c.in_default.ensures.told.walk (known at)))

pub invariant_of-pass-2 : goal.invariant_of-pass-2
invariant_of-pass-2 c = let at = (goal.at.invariant_of-pass-2 c).After-choose_unit in let l : Limits = table_limits c.self.inside.shared.words in let told = c.in-Some.ensures.told in
    (rests_drawn c.scan_turn.new.seat _ _ _ _ c.scan_turn.new.drawn (took_rests l _ _ c.in-Some.taken.element.id c.args.stage c.in-Some.taken.attempt c.in-Some.taken.root _ _ _ _ _ c.pass.inside.seat c.scan_turn.new.seat (view_of c.choose_unit.new.seat) c.in-Some.taken.element (steady at) c.choose_unit.ensures.chooses told.0.took (lim at) told.1 refl (not at) c.pass.invariant.0) c.scan_turn.ensures.drawn, remembers_in _ c.pass.inside.lows c.scan_turn.new.lows c.args.stage (view_of c.scan_turn.new.seat) (kinds at) told.0.took.walk.steady c.scan_turn.ensures.lows c.scan_turn.ensures.remembers (remembers c.pass.inside.lows _ _ _ _ _ told.0.took.walk (known at)))

pub returns-clause-follows : goal.returns-clause-follows
returns-clause-follows c = let at = (goal.at.returns-clause-follows c).After-choose_unit in let l : Limits = table_limits c.self.inside.shared.words in let told = c.in-Some.ensures.told in
    follows (spot c.pass.inside.seat.table c.pass.inside.lows c.pass.inside.run.drawn c.pass.inside.from) (spot c.scan_turn.new.seat.table (set c.pass.inside.lows c.args.stage c.scan_turn.new.lows) c.scan_turn.new.drawn c.go_on_behind.new.turns) (rises_in c.pass.inside.lows c.scan_turn.new.lows c.args.stage (kinds at) c.scan_turn.ensures.lows, c.scan_turn.ensures.risen) (view_of c.pass.inside.seat) (view_of c.scan_turn.new.seat) c.args.pass.now c.pass.view_is l _ _
    (took_walked l _ _ (view_of c.choose_unit.new.seat) (steady at) c.choose_unit.ensures.chooses _ c.in-Some.taken.element.id _ _ _ _ told.0.took) (claim_next_steps c.args.self.now.limits) (most at)

-- what it goes on after
turn : (c : After-choose_unit) → c.turn_in-turn.result ≡ turn_of c.args.pass.now c.args.stage
turn c = c.turn_in-turn.ensures ∙ ap (λ (p : PassShown). turn_of p c.args.stage) c.pass.view_is

pub returns-clause-answer : goal.returns-clause-answer
returns-clause-answer c = let at = (goal.at.returns-clause-answer c).After-choose_unit in let l : Limits = table_limits c.self.inside.shared.words in let told = c.in-Some.ensures.told in
    let u : ℕ = c.pass.inside.number * c.self.inside.shared.places.limits.units + c.pass.inside.used in let next : List ℕ = c.go_on_behind.new.turns in
    subst (λ (z : Limits). TakesNext z c.args.stage (record { unit = u; element = c.in-Some.taken.element; attempt = c.in-Some.taken.attempt }) c.args.pass.now (shown (spot c.scan_turn.new.seat.table (set c.pass.inside.lows c.args.stage c.scan_turn.new.lows) c.scan_turn.new.drawn next) (view_of c.scan_turn.new.seat))) (limits at)
    record {
      opens = took_answer l u _ (view_of c.choose_unit.new.seat) (steady at) c.choose_unit.ensures.chooses _ c.in-Some.taken.element.id c.args.stage c.in-Some.taken.attempt _ c.in-Some.taken.element told.0.took _ _ _ _ c.pass.inside.seat (spot c.pass.inside.seat.table c.pass.inside.lows c.pass.inside.run.drawn c.pass.inside.from) (spot c.scan_turn.new.seat.table (set c.pass.inside.lows c.args.stage c.scan_turn.new.lows) c.scan_turn.new.drawn next) c.args.pass.now refl (lim at) c.pass.view_is
          c.pass.invariant.0 (not at) (ap (λ (z : Limits). c.pass.inside.number * z.units + c.pass.inside.used) (sym c.self.inside.shared.same));
      first = took_first l u _ (view_of c.choose_unit.new.seat) (steady at) c.choose_unit.ensures.chooses _ c.in-Some.taken.element.id c.args.stage c.in-Some.taken.attempt _ c.in-Some.taken.element told.0.took (λ i. IsBefore (turn_of c.args.pass.now c.args.stage) c.in-Some.taken.element.id i)
          (λ i inside id. told.0.passed i inside (subst (λ n. IsBefore n c.in-Some.taken.element.id i) (sym (turn at)) id))
          (spot c.pass.inside.seat.table c.pass.inside.lows c.pass.inside.run.drawn c.pass.inside.from) (spot c.scan_turn.new.seat.table (set c.pass.inside.lows c.args.stage c.scan_turn.new.lows) c.scan_turn.new.drawn next) c.args.pass.now c.pass.view_is;
      turn = c.go_on_behind.ensures.turn;
      others = λ other not. c.go_on_behind.ensures.others other not ∙ ap (λ (p : PassShown). turn_of p other) c.pass.view_is;
    }

-- a row has a number that isn't too great
pub go_on_behind-requires-clause-few : goal.go_on_behind-requires-clause-few
go_on_behind-requires-clause-few c = let l : Limits = table_limits c.self.inside.shared.words in let told = c.in-Some.ensures.told in let few = few_rows l c.self.inside.shared.words.places.valid in
    let inside = births_inside l (seen_by c.scan_turn.new.seat) told.0.took.walk.steady.shows.legal c.in-Some.taken.element told.0.took.born in omega arith

-- the steps by the marks are those of the scan, and the choice
abbrev scans : (c : After-choose_unit) → ℕ
scans c = let l : Limits = table_limits c.self.inside.shared.words in 2 * scan_steps l try_steps 3 (marks_of c.pass.inside.lows c.args.stage) l.parts + (2 * drawn_steps l.spare + BLOCK_ROWS * l.spare * try_steps)

left : (c : After-choose_unit) → 1 + scans c ≤ claim_next_steps_left c.args.self.now.limits (marks_of c.args.pass.now.lows c.args.stage)
left c = let l : Limits = table_limits c.self.inside.shared.words in let lows = marks_of c.pass.inside.lows c.args.stage in
    next_shown l c.args.self.now.limits lows (marks_of c.args.pass.now.lows c.args.stage) (1 + scans c) (limits c) (ap (λ (p : PassShown). marks_of p.lows c.args.stage) c.pass.view_is)
    (next_few l lows c.args.stage (view_of c.pass.inside.seat) (lim c) (steady c).known (c.pass.invariant.1.marks c.args.stage))

pub returns-in_default-clause-few : goal.returns-in_default-clause-few
returns-in_default-clause-few c = let at = (goal.at.returns-in_default-clause-few c).After-choose_unit in let l : Limits = table_limits c.self.inside.shared.words in let told = c.in_default.ensures.told in
    let v = view_of c.pass.inside.seat in let w = view_of c.choose_unit.new.seat in let y = view_of c.scan_turn.new.seat in let a = chose_walked l _ v w (steady at) c.choose_unit.ensures.chooses in
    follows (spot c.pass.inside.seat.table c.pass.inside.lows c.pass.inside.run.drawn c.pass.inside.from) (spot c.scan_turn.new.seat.table (set c.pass.inside.lows c.args.stage c.scan_turn.new.lows) c.scan_turn.new.drawn c.pass.inside.from) (rises_in c.pass.inside.lows c.scan_turn.new.lows c.args.stage (kinds at) c.scan_turn.ensures.lows, c.scan_turn.ensures.risen) v y c.args.pass.now c.pass.view_is l _ _
    (walked_made l _ _ v y (idle_walked l _ v w (steady at) c.choose_unit.ensures.chooses _ c.args.stage y told) (1 + scans at) (made_then 1 (scans at) v w y (made l 1 _ v w a) c.scan_turn.ensures.few)) _ (left at)

pub returns-clause-few : goal.returns-clause-few
returns-clause-few c = let at = (goal.at.returns-clause-few c).After-choose_unit in let l : Limits = table_limits c.self.inside.shared.words in let told = c.in-Some.ensures.told in
    let v = view_of c.pass.inside.seat in let w = view_of c.choose_unit.new.seat in let y = view_of c.scan_turn.new.seat in let a = chose_walked l _ v w (steady at) c.choose_unit.ensures.chooses in
    follows (spot c.pass.inside.seat.table c.pass.inside.lows c.pass.inside.run.drawn c.pass.inside.from) (spot c.scan_turn.new.seat.table (set c.pass.inside.lows c.args.stage c.scan_turn.new.lows) c.scan_turn.new.drawn c.go_on_behind.new.turns) (rises_in c.pass.inside.lows c.scan_turn.new.lows c.args.stage (kinds at) c.scan_turn.ensures.lows, c.scan_turn.ensures.risen) v y c.args.pass.now c.pass.view_is l _ _
    (walked_made l _ _ v y (took_walked l _ v w (steady at) c.choose_unit.ensures.chooses _ c.in-Some.taken.element.id c.args.stage _ y _ told.0.took) (1 + scans at) (made_then 1 (scans at) v w y (made l 1 _ v w a) c.scan_turn.ensures.few)) _ (left at)

-- so by what is born in each row
lean : (c : After-choose_unit) (drawn : ℕ) (y : View) → IsLean (table_limits c.self.inside.shared.words) (lean_turn_steps (table_limits c.self.inside.shared.words) c.args.stage (marks_of c.pass.inside.lows c.args.stage) drawn) (view_of c.choose_unit.new.seat) y → Steady (table_limits c.self.inside.shared.words) y
    → StepsTo (lean_claim_next_steps c.args.self.now.limits c.args.stage (marks_of c.args.pass.now.lows c.args.stage) drawn c.args.pass.now.seen y.seen) (view_of c.pass.inside.seat) y
lean c drawn y scan steady_then = let l : Limits = table_limits c.self.inside.shared.words in let v = view_of c.pass.inside.seat in
    subst (λ h. StepsTo (lean_claim_next_steps c.args.self.now.limits c.args.stage (marks_of c.args.pass.now.lows c.args.stage) drawn h y.seen) v y) (ap (λ (p : PassShown). p.seen) c.pass.view_is)
    (next_lean l c.args.self.now.limits c.args.stage drawn (marks_of c.pass.inside.lows c.args.stage) (marks_of c.args.pass.now.lows c.args.stage) _ v (view_of c.choose_unit.new.seat) y (limits c) (ap (λ (p : PassShown). marks_of p.lows c.args.stage) c.pass.view_is)
    (chose_walked l _ v (view_of c.choose_unit.new.seat) (steady c) c.choose_unit.ensures.chooses) scan steady_then)

pub returns-in_default-clause-lean : goal.returns-in_default-clause-lean
returns-in_default-clause-lean c = let at = (goal.at.returns-in_default-clause-lean c).After-choose_unit in let l : Limits = table_limits c.self.inside.shared.words in let told = c.in_default.ensures.told in
    let v = view_of c.pass.inside.seat in let w = view_of c.choose_unit.new.seat in let y = view_of c.scan_turn.new.seat in let walk = idle_walked l _ v w (steady at) c.choose_unit.ensures.chooses _ c.args.stage y told in
    follows (spot c.pass.inside.seat.table c.pass.inside.lows c.pass.inside.run.drawn c.pass.inside.from) (spot c.scan_turn.new.seat.table (set c.pass.inside.lows c.args.stage c.scan_turn.new.lows) c.scan_turn.new.drawn c.pass.inside.from) (rises_in c.pass.inside.lows c.scan_turn.new.lows c.args.stage (kinds at) c.scan_turn.ensures.lows, c.scan_turn.ensures.risen) v y c.args.pass.now c.pass.view_is l _ _
    (walked_made l _ _ v y walk _ (lean at c.scan_turn.new.drawn y c.scan_turn.ensures.lean walk.steady)) _ (omega arith)

pub returns-clause-lean : goal.returns-clause-lean
returns-clause-lean c = let at = (goal.at.returns-clause-lean c).After-choose_unit in let l : Limits = table_limits c.self.inside.shared.words in let told = c.in-Some.ensures.told in
    let v = view_of c.pass.inside.seat in let w = view_of c.choose_unit.new.seat in let y = view_of c.scan_turn.new.seat in let walk = took_walked l _ v w (steady at) c.choose_unit.ensures.chooses _ c.in-Some.taken.element.id c.args.stage _ y _ told.0.took in
    follows (spot c.pass.inside.seat.table c.pass.inside.lows c.pass.inside.run.drawn c.pass.inside.from) (spot c.scan_turn.new.seat.table (set c.pass.inside.lows c.args.stage c.scan_turn.new.lows) c.scan_turn.new.drawn c.go_on_behind.new.turns) (rises_in c.pass.inside.lows c.scan_turn.new.lows c.args.stage (kinds at) c.scan_turn.ensures.lows, c.scan_turn.ensures.risen) v y c.args.pass.now c.pass.view_is l _ _
    (walked_made l _ _ v y walk _ (lean at c.scan_turn.new.drawn y c.scan_turn.ensures.lean walk.steady)) _ (omega arith)
