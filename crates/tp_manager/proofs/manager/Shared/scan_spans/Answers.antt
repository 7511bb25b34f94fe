use Rattle.std.proofs.Common.{◌≡◌, ◌⊎◌, ◌+◌, ◌-◌, ◌*◌, ◌<◌, ◌≤◌, ℕ, List, slice_index, refl, inl, sym, ◌∙◌, ap, ⊎_elim, arith, subst, suc-mul, mul-le-mul_right}
use Rattle.tp_model.specs.declared.types.Limits.{Limits}
use Rattle.tp_rule.specs.Tables.{table_limits}
use Rattle.tp_rule.specs.Views.{SeatShown, view_of}
use Rattle.tp_manager.specs.Bounds.{scan_steps, try_steps}
use Rattle.tp_manager.specs.Shown.{NoneFalls}
use Rattle.tp_manager.specs.CallSteps.{StepsTo}
use Rattle.tp_manager.specs.Marks.{Remembers}
use Rattle.tp_manager.specs.Scans.{Begun, PassedBy}
use Rattle.tp_manager.proofs.Claims.Circles.{split_rows}
use Rattle.tp_manager.proofs.Marks.Lows.{rises_then, scan_next, scan_rises}
use Rattle.tp_manager.proofs.Calls.Makes.{made_few, made_then}
use Rattle.tp_manager.proofs.Calls.Passes.{done_walked}
use Rattle.tp_manager.proofs.Claims.Scans.{passed_widens, took_few, took_then}
use Rattle.tp_manager.proofs.Rows.Seeks.{begun_few, begun_looked, begun_on}
use Rattle.tp_manager.specs.Leans.{IsLeanAmong}
use Rattle.tp_manager.proofs.Calls.CallSteps.{rises_none}
use Rattle.tp_manager.proofs.Claims.LeanTurns.{among_part, among_parts, among_start}
use Rattle.tp_manager.proofs.manager.Shared.scan_spans.Goals as goal
use Rattle.tp_manager.proofs.manager.Shared.scan_spans.Goals.{else-row-end, then-row-end+in_default}

abbrev IsEarlier : ℕ → ℕ → ℕ → Type 0
IsEarlier r a b = ((r ≡ a) × (a ≤ b)) ⊎ ((r ≡ b) × (b < a))

-- the end of the part, or of the rows
ends : (r a b : ℕ) → IsEarlier r a b → (r ≤ a) × (r ≤ b) × (a ≤ r + (a - b))
ends r a b o = ⊎_elim (λ t. (let e = t.0 in let le = t.1 in (omega arith, omega arith, omega arith))) (λ t. (let e = t.0 in let le = t.1 in (omega arith, omega arith, omega arith))) o

-- the steps of the parts so far, and of one more
more : (p n from row end to s : ℕ) → p < n → from ≤ row → row ≤ end → end ≤ to → 3 * p + (row - from) * s + (3 + (end - row) * s) ≤ 3 * n + (to - from) * s
more p n from row end to s less a b d = let e = split_rows from row end s a b in let f : (end - from) * s ≤ (to - from) * s = mul-le-mul_right s (omega arith) in omega arith

pub scan_span-requires-clause-done : goal.scan_span-requires-clause-done
scan_span-requires-clause-done c = let l : Limits = table_limits c.args.self.now.words in
    let gone = begun_looked l (PassedBy l c.args.who.stage) (passed_widens l c.args.who.stage) _ _ _ _ _ c.loop-part.invariant.begun c.requires.steady.steady in
    done_walked l _ gone.marks _ _ c.args.who.done c.requires.steady.steady.pass.1 gone.walk c.requires.done

pub returns-in-Some-clause-told : goal.returns-in-Some-clause-told
returns-in-Some-clause-told c = let l : Limits = table_limits c.args.self.now.words in let i = c.loop-part.invariant in let s = try_steps in let n = c.loop-part.part in let t = c.in-Some.taken in let end = c.earlier-end.result in
    let less : n < l.parts = subst (λ (z : Limits). n < z.parts) (sym c.args.self.now.same) c.loop-part-test.true in let row = c.loop-part.row in let before = c.if-row-end.true in
    let top = ends end _ c.args.to c.earlier-end.ensures in (
      took_few l c.args.who.stage c.args.who.unit t.attempt t.element (3 * n + (row - c.args.from) * s + (3 + (end - row) * s)) (3 * l.parts + (c.args.to - c.args.from) * s) c.args.from _ _ (more n l.parts c.args.from row end c.args.to s less i.from (omega arith) top.1)
          (took_then l c.args.who.stage c.args.who.unit t.attempt t.element (3 * n + (row - c.args.from) * s) (3 + (end - row) * s) c.args.from row _ _ _ i.from i.begun c.in-Some.ensures.told.0),
      c.in-Some.ensures.told.1,
    )

pub loop-part-preserved : goal.loop-part-preserved
loop-part-preserved c = let l : Limits = table_limits c.args.self.now.words in let i = c.loop-part.invariant in let n = c.loop-part.part in let s = try_steps in let P = PassedBy l c.args.who.stage in let W = passed_widens l c.args.who.stage in let lows = c.args.lows.now in
    let from_on = i.from in let reach = i.reach in let inside = i.inside in let end = c.earlier-end.result in let row = c.loop-part.row in
    let next = suc-mul n c.args.self.now.places.limits.rows in let top = ends end _ c.args.to c.earlier-end.ensures in let a = top.0 in let b = top.1 in let d = top.2 in
    let rest : (n + 1) * c.args.self.now.places.limits.rows ≡ n * c.args.self.now.places.limits.rows + c.args.self.now.places.limits.rows = omega arith in
    elim c.if-row-end.branch [
      | then-row-end+in_default w ↦
          let e = w.row-is in let less = w.if-row-end.true in let found = w.scan_span.ensures in record {
            from = omega arith;
            reach = omega arith;
            inside = omega arith;
            same = ap (λ (z : SeatShown). z.table) w.seat-is ∙ (found.same ∙ i.same);
            remembers = subst (λ (z : SeatShown × List ℕ). Remembers c.args.who.stage (view_of z.0) z.1) (λ j. (sym w.seat-is j, sym w.lows-is j)) found.remembers;
            rises = subst (NoneFalls lows) (sym w.lows-is) (rises_then lows c.loop-part.lows _ i.rises found.lows.0);
            rest = λ q low. subst (λ z. slice_index z q ≡ slice_index lows q) (sym w.lows-is) (found.lows.1 q (λ is. absurd (omega arith)) ∙ i.rest q (omega arith));
            few = subst (λ (z : SeatShown). StepsTo (scan_steps l s 3 lows (n + 1)) (view_of c.args.seat.now) (view_of z)) (sym w.seat-is)
                (made_few (scan_steps l s 3 lows n + (3 + (l.rows - slice_index lows n) * s)) (scan_steps l s 3 lows (n + 1)) (view_of c.args.seat.now) (view_of w.scan_span.new.seat) (scan_next l lows s 3 n)
                (made_then (scan_steps l s 3 lows n) (3 + (l.rows - slice_index lows n) * s) (view_of c.args.seat.now) (view_of c.loop-part.seat) (view_of w.scan_span.new.seat) i.few
                (subst (λ m. StepsTo (3 + (l.rows - m) * s) (view_of c.loop-part.seat) (view_of w.scan_span.new.seat)) (i.rest n (omega arith)) found.few)));
            lean = subst (λ (z : SeatShown). IsLeanAmong l c.args.who.stage (3 * (n + 1)) lows (n + 1) c.args.from c.args.to (view_of c.args.seat.now) (view_of z)) (sym w.seat-is)
                (among_part l c.args.who.stage (3 * n) n 3 (3 * (n + 1)) (slice_index c.loop-part.lows n) c.args.from c.args.to row end lows _ _ _ (omega arith) (i.rest n (omega arith)) from_on b i.lean found.lean);
            begun = subst (λ (z : ℕ × SeatShown). Begun l P (3 * (n + 1) + (z.0 - c.args.from) * s) c.args.from z.0 (view_of c.args.seat.now) (view_of z.1)) (λ j. (sym e j, sym w.seat-is j))
                (begun_few l P W (3 * n + (row - c.args.from) * s + (3 + (end - row) * s)) c.args.from (3 * (n + 1) + (end - c.args.from) * s) end _ _ (more n (n + 1) c.args.from row end end s (omega arith) from_on (omega arith) (omega arith))
                (begun_on l P W (3 * n + (row - c.args.from) * s) c.args.from (3 + (end - row) * s) row _ _ _ i.begun end from_on w.in_default.ensures.told));
          }
      | else-row-end w ↦
          let e = w.row-is in let less = w.if-row-end.false in record {
            from = omega arith;
            reach = omega arith;
            inside = omega arith;
            same = ap (λ (z : SeatShown). z.table) w.seat-is ∙ i.same;
            remembers = subst (λ (z : SeatShown × List ℕ). Remembers c.args.who.stage (view_of z.0) z.1) (λ j. (sym w.seat-is j, sym w.lows-is j)) i.remembers;
            rises = subst (NoneFalls lows) (sym w.lows-is) i.rises;
            rest = λ q low. subst (λ z. slice_index z q ≡ slice_index lows q) (sym w.lows-is) (i.rest q (omega arith));
            few = subst (λ (z : SeatShown). StepsTo (scan_steps l s 3 lows (n + 1)) (view_of c.args.seat.now) (view_of z)) (sym w.seat-is)
                (made_few (scan_steps l s 3 lows n) (scan_steps l s 3 lows (n + 1)) (view_of c.args.seat.now) (view_of c.loop-part.seat) (scan_rises l lows s 3 n (n + 1) (omega arith)) i.few);
            lean = subst (λ (z : SeatShown). IsLeanAmong l c.args.who.stage (3 * (n + 1)) lows (n + 1) c.args.from c.args.to (view_of c.args.seat.now) (view_of z)) (sym w.seat-is)
                (among_parts l c.args.who.stage (3 * n) n (3 * (n + 1)) (n + 1) c.args.from c.args.to lows _ _ (omega arith) (omega arith) i.lean);
            begun = subst (λ (z : ℕ × SeatShown). Begun l P (3 * (n + 1) + (z.0 - c.args.from) * s) c.args.from z.0 (view_of c.args.seat.now) (view_of z.1)) (λ j. (sym e j, sym w.seat-is j))
                (begun_few l P W (3 * n + (row - c.args.from) * s) c.args.from (3 * (n + 1) + (row - c.args.from) * s) row _ _ (omega arith) i.begun);
          }
    ]

pub returns-in-Some-clause-few : goal.returns-in-Some-clause-few
returns-in-Some-clause-few c = let l : Limits = table_limits c.args.self.now.words in let i = c.loop-part.invariant in let s = try_steps in let n = c.loop-part.part in let lows = c.args.lows.now in
    let less : n < l.parts = subst (λ (z : Limits). n < z.parts) (sym c.args.self.now.same) c.loop-part-test.true in let next = scan_next l lows s 3 n in let all = scan_rises l lows s 3 (n + 1) l.parts (omega arith) in
    made_few (scan_steps l s 3 lows n + (3 + (l.rows - slice_index lows n) * s)) (scan_steps l s 3 lows l.parts) (view_of c.args.seat.now) (view_of c.scan_span.new.seat) (omega arith)
    (made_then (scan_steps l s 3 lows n) (3 + (l.rows - slice_index lows n) * s) (view_of c.args.seat.now) (view_of c.loop-part.seat) (view_of c.scan_span.new.seat) i.few
    (subst (λ m. StepsTo (3 + (l.rows - m) * s) (view_of c.loop-part.seat) (view_of c.scan_span.new.seat)) (i.rest n (omega arith)) c.scan_span.ensures.few))

pub returns-clause-few : goal.returns-clause-few
returns-clause-few c = let l : Limits = table_limits c.args.self.now.words in let s = try_steps in let n = c.loop-part.part in let lows = c.args.lows.now in
    let count : l.parts ≡ c.args.self.now.places.limits.parts = ap (λ (z : Limits). z.parts) c.args.self.now.same in let high = c.loop-part.auto.part-end in
    made_few (scan_steps l s 3 lows n) (scan_steps l s 3 lows l.parts) (view_of c.args.seat.now) (view_of c.loop-part.seat) (scan_rises l lows s 3 n l.parts (omega arith)) c.loop-part.invariant.few

pub loop-part-init : goal.loop-part-init
loop-part-init c = let span = c.requires.span in let up = span.0 in record {
  from = omega arith;
  reach = omega arith;
  inside = up;
  same = refl;
  remembers = c.requires.remembers;
  rises = rises_none c.args.lows.now;
  rest = λ q low. refl;
  few = omega arith;
  lean = among_start (table_limits c.args.self.now.words) c.args.who.stage (3 * 0) 0 c.args.from c.args.to c.args.lows.now (view_of c.args.seat.now);
  begun = inl (refl, refl);
}

pub returns-in-Some-clause-lean : goal.returns-in-Some-clause-lean
returns-in-Some-clause-lean c = let l : Limits = table_limits c.args.self.now.words in let i = c.loop-part.invariant in let n = c.loop-part.part in let lows = c.args.lows.now in let end = c.earlier-end.result in
    let less : n < l.parts = subst (λ (z : Limits). n < z.parts) (sym c.args.self.now.same) c.loop-part-test.true in let top = ends end _ c.args.to c.earlier-end.ensures in
    among_parts l c.args.who.stage (3 * (n + 1)) (n + 1) (3 * l.parts) l.parts c.args.from c.args.to lows _ _ (omega arith) (omega arith)
    (among_part l c.args.who.stage (3 * n) n 3 (3 * (n + 1)) (slice_index c.loop-part.lows n) c.args.from c.args.to c.loop-part.row end lows _ _ _ (omega arith) (i.rest n (omega arith)) i.from top.1 i.lean c.scan_span.ensures.lean)

pub returns-clause-lean : goal.returns-clause-lean
returns-clause-lean c = let l : Limits = table_limits c.args.self.now.words in let n = c.loop-part.part in let lows = c.args.lows.now in
    let count : l.parts ≡ c.args.self.now.places.limits.parts = ap (λ (z : Limits). z.parts) c.args.self.now.same in let high = c.loop-part.auto.part-end in
    among_parts l c.args.who.stage (3 * n) n (3 * l.parts) l.parts c.args.from c.args.to lows _ _ (omega arith) (omega arith) c.loop-part.invariant.lean
