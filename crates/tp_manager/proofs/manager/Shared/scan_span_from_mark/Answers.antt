use Rattle.tp_manager.proofs.Marks.Lows.{rises_at_then}
use Rattle.std.proofs.Common.{◌≡◌, ◌⊎◌, ◌+◌, ◌-◌, ◌*◌, ◌<◌, ◌≤◌, ℕ, List, slice_index, inl, inr, ⊎_elim, refl, sym, ap, subst, arith, rules, mul-le-mul_right}
use Rattle.tp_model.specs.declared.types.Limits.{Limits}
use Rattle.tp_model.specs.declared.trace.TraceEntry.{TraceEntry}
use Rattle.tp_model.specs.Steps.{IsRowOf}
use Rattle.tp_model.proofs.Bridges.{begins_refl}
use Rattle.tp_rule.specs.Tables.{table_limits}
use Rattle.tp_rule.specs.Views.{seen_by, view_of}
use Rattle.tp_rule.specs.declared.view.Known.TheVariants.{PartMark}
use Rattle.tp_manager.specs.Bounds.{try_steps}
use Rattle.tp_manager.specs.CallSteps.{Looked, Stepped}
use Rattle.tp_manager.specs.BetweenCalls.{RemembersDone}
use Rattle.tp_manager.specs.Marks.{Remembers, Rose, RisesAt}
use Rattle.tp_manager.specs.Scans.{EachRow, PassedBy}
use Rattle.tp_manager.proofs.Calls.CallSteps.{remembers_kind, sought_few}
use mathlib.Core.Logic.{dite}
use native.Mathlib.Decide.{dec_le}
use Rattle.tp_manager.proofs.Claims.Circles.{sought_less}
use Rattle.tp_manager.proofs.Calls.Makes.{made, made_few, made_then}
use Rattle.tp_manager.proofs.Calls.Passes.{done_walked}
use Rattle.tp_manager.proofs.Marks.Raises.{done_passed, goes_walked, over_passed, past_near, rose_both, rose_past, rose_then, took_looked}
use Rattle.tp_manager.proofs.Claims.Scans.{passed_widens, took_few, took_from, took_then}
use Rattle.tp_manager.proofs.Rows.Seeks.{part_on, begun_few, begun_looked, begun_on, rows_more, sought_from, sought_then}
use Rattle.tp_manager.specs.Leans.{IsLeanAt}
use Rattle.tp_manager.proofs.Claims.Leans.{lean_between, lean_row, lean_start}
use Rattle.tp_manager.proofs.Marks.Lows.{rises_at_then}
use Rattle.tp_manager.proofs.Claims.LeanTurns.{lean_span}
use Rattle.tp_manager.proofs.manager.Shared.scan_span_from_mark.Goals as goal
use Rattle.tp_manager.proofs.manager.Shared.scan_span_from_mark.Goals.{After-later-begin, After-loop-row, After-low_at-mark, After-try_row}

-- where the part begins
first : (c : After-low_at-mark) → c.args.part * (table_limits c.args.self.now.words).rows ≡ c.args.part * c.args.self.now.places.limits.rows
first c = ap (λ (z : Limits). c.args.part * z.rows) c.args.self.now.same

wide : (c : After-low_at-mark) → (table_limits c.args.self.now.words).rows ≡ c.args.self.now.places.limits.rows
wide c = ap (λ (z : Limits). z.rows) c.args.self.now.same

abbrev marked : (c : After-later-begin) → ℕ
marked c = c.args.part * c.args.self.now.places.limits.rows + slice_index c.low_at-mark.new.lows c.args.part

-- what the pass remembers as done is so after the load of the mark
still_done : (c : After-later-begin) → RemembersDone (view_of c.low_at-mark.new.seat) c.args.who.done
still_done c = done_walked _ 1 _ _ _ c.args.who.done c.requires.steady.steady.pass.1 c.low_at-mark.ensures.acted.walk c.requires.done

-- what is known finished ends at the mark, or one row after it
knows : (c : After-later-begin) → (marked c ≤ c.past_done-known.result) × (c.past_done-known.result ≤ marked c + 1) × (c.past_done-known.result ≤ c.args.part * c.args.self.now.places.limits.rows + c.args.self.now.places.limits.rows)
knows c = let inside = c.low_at-mark.ensures.low.0 in let w = ap (λ (z : Limits). z.rows) c.args.self.now.same in
    past_near (table_limits c.args.self.now.words) c.past_done-known.result (marked c) _ c.args.who.done (omega arith) c.past_done-known.ensures

-- the scan begins there, or at its first row
abbrev IsLater : ℕ → ℕ → ℕ → Type 0
IsLater r a b = ((r ≡ a) × (b ≤ a)) ⊎ ((r ≡ b) × (a < b))

later_near : (r a b : ℕ) → IsLater r a b → (a ≤ r) × (b ≤ r) × ((n : ℕ) → a ≤ n → b ≤ n → r ≤ n)
later_near r a b o = ⊎_elim (λ t. (let e = t.0 in let le = t.1 in (omega arith, omega arith, λ n p q. omega arith))) (λ t. (let e = t.0 in let le = t.1 in (omega arith, omega arith, λ n p q. omega arith))) o

begins : (c : After-later-begin) → (c.past_done-known.result ≤ c.later-begin.result) × (c.args.from ≤ c.later-begin.result) × (c.later-begin.result ≤ c.args.part * c.args.self.now.places.limits.rows + c.args.self.now.places.limits.rows)
begins c = let n = later_near c.later-begin.result c.past_done-known.result c.args.from c.later-begin.ensures in let k = (knows c).2 in
    let e = ap (λ (z : Limits). c.args.part * z.rows) c.args.self.now.same in let w = ap (λ (z : Limits). z.rows) c.args.self.now.same in let span = c.requires.span in let a = span.1 in let b = span.2 in
    (n.0, n.1, n.2 _ k (omega arith))

-- the rows of the span before the first that is looked at are over
under : (c : After-later-begin) (j : ℕ) → c.args.from ≤ j → j < c.later-begin.result → PassedBy (table_limits c.args.self.now.words) c.args.who.stage j (seen_by c.low_at-mark.new.seat) (seen_by c.low_at-mark.new.seat)
under c j from_on below = let l : Limits = table_limits c.args.self.now.words in let e = ap (λ (z : Limits). c.args.part * z.rows) c.args.self.now.same in let low = c.requires.span.0 in
    let less : j < c.past_done-known.result = ⊎_elim (λ t. (let r = t.0 in omega arith)) (λ t. absurd (let r = t.0 in omega arith)) c.later-begin.ensures in
    dite (dec_le (marked c) j)
    (λ past. done_passed l c.args.who.stage (view_of c.low_at-mark.new.seat) c.past_done-known.result (marked c) _ c.args.who.done c.low_at-mark.ensures.acted.walk.steady.pass.1 (still_done c) c.past_done-known.ensures j past less)
    (λ not. over_passed l c.args.who.stage (seen_by c.low_at-mark.new.seat) c.args.part (slice_index c.low_at-mark.new.lows c.args.part) j c.args.who.valid.0.0 c.low_at-mark.ensures.low.1 (omega arith) (omega arith))

-- the row is of the part, and so is what comes next, but for the part's end
near : (c : After-try_row) → IsRowOf (table_limits c.args.self.now.words) c.args.part c.loop-row.row × (c.try_row.new.row ≤ c.args.part * (table_limits c.args.self.now.words).rows + (table_limits c.args.self.now.words).rows)
near c = let l : Limits = table_limits c.args.self.now.words in let i = c.loop-row.invariant in let low = i.from in let less = c.loop-row-test.true in
    let from_on = (later_near c.later-begin.result c.past_done-known.result c.args.from c.later-begin.ensures).1 in let span = c.requires.span in let a = span.0 in let b = span.2 in
    let own : IsRowOf l c.args.part c.loop-row.row = (c.requires.part, omega arith, omega arith) in (own, part_on l c.loop-row.row c.try_row.new.row c.args.part c.try_row.ensures.on own)

-- the steps from the mark up to the row
since : (c : After-try_row) → Looked (table_limits c.args.self.now.words) (c.loop-row.invariant.begun.0 * try_steps) (view_of c.low_at-mark.new.seat) (view_of c.loop-row.seat)
since c = let l : Limits = table_limits c.args.self.now.words in
    begun_looked l (PassedBy l c.args.who.stage) (passed_widens l c.args.who.stage) _ _ c.loop-row.row _ _ c.loop-row.invariant.begun.3 c.low_at-mark.ensures.acted.walk.steady

-- what is known finished after one more row
rose : (c : After-try_row) (n : ℕ) (ms : List TraceEntry) → Stepped (table_limits c.args.self.now.words) n ms (view_of c.loop-row.seat) (view_of c.try_row.new.seat)
    → Rose c.args.who.stage (view_of c.try_row.new.seat) (c.args.part * c.args.self.now.places.limits.rows + c.low_at-mark.result) c.try_row.new.low
rose c n ms a = let l : Limits = table_limits c.args.self.now.words in let v = view_of c.loop-row.seat in
    rose_then l c.args.who.stage v (view_of c.try_row.new.seat) _ c.loop-row.low c.try_row.new.low (goes_walked l n ms v _ (since c).walk.steady.pass.1 a) c.loop-row.invariant.rose c.try_row.ensures.low.1

-- the mark that was found is no more than what is remembered
found : (c : After-low_at-mark) → c.low_at-mark.result ≤ slice_index c.low_at-mark.new.lows c.args.part
found c = let up = c.low_at-mark.ensures.rose.0 in omega arith

-- which is no row after what is known of no use
under_low : (c : After-later-begin) (lows : List ℕ) (low : ℕ) → lows ≡ c.low_at-mark.new.lows → c.past_done-known.result ≤ low → c.args.part * (table_limits c.args.self.now.words).rows + slice_index lows c.args.part ≤ low
under_low c lows low same up = let behind = (knows c).0 in let e = ap (λ (z : Limits). c.args.part * z.rows) c.args.self.now.same in
    subst (λ z. c.args.part * (table_limits c.args.self.now.words).rows + slice_index z c.args.part ≤ low) (sym same) (omega arith)

more : (c : After-try_row) → c.past_done-known.result ≤ c.try_row.new.low
more c = let up = c.loop-row.invariant.above in let on = c.try_row.ensures.low.1.0 in omega arith

pub raise_low-requires-clause-mark : goal.raise_low-requires-clause-mark
raise_low-requires-clause-mark c = let at = goal.at.raise_low-requires-clause-mark c in let known = PartMark c.args.who.stage c.args.part c.low_at-mark.result in
    (c.in-Some.ensures.told.0.walk.knows known ((since at.After-try_row).walk.knows known c.low_at-mark.ensures.knows), subst (λ lows. c.low_at-mark.result ≤ slice_index lows c.args.part) (sym c.loop-row.invariant.lows) (found at.After-low_at-mark))

pub raise_low-requires-clause-low : goal.raise_low-requires-clause-low
raise_low-requires-clause-low c = let l : Limits = table_limits c.args.self.now.words in let at = (goal.at.raise_low-requires-clause-low c).After-try_row in let t = c.in-Some.ensures.told.0 in
    let on = (near at).1 in let low = c.try_row.ensures.low.0 in (
      omega arith,
      under_low (goal.at.raise_low-requires-clause-low c).After-later-begin c.loop-row.lows c.try_row.new.low c.loop-row.invariant.lows (more at),
      subst (λ z. Rose c.args.who.stage (view_of c.try_row.new.seat) (z + c.low_at-mark.result) c.try_row.new.low) (sym (first (goal.at.raise_low-requires-clause-low c).After-low_at-mark))
          (rose at _ _ t.walk),
    )

pub raise_low-requires-clause-remembers : goal.raise_low-requires-clause-remembers
raise_low-requires-clause-remembers c = let at = (goal.at.raise_low-requires-clause-remembers c).After-try_row in
    subst (Remembers c.args.who.stage (view_of c.try_row.new.seat)) (sym c.loop-row.invariant.lows) (remembers_kind c.args.who.stage c.low_at-mark.new.lows _ _ _ _ _ c.in-Some.ensures.told.0.walk (remembers_kind c.args.who.stage c.low_at-mark.new.lows _ _ _ _ _ (since at).walk c.low_at-mark.ensures.remembers))

pub returns-in-Some-clause-told : goal.returns-in-Some-clause-told
returns-in-Some-clause-told c = let l : Limits = table_limits c.args.self.now.words in let s = try_steps in let at = goal.at.returns-in-Some-clause-told c in let b = c.loop-row.invariant.begun in let k : ℕ = b.0 in let x = b.1 in let start = c.loop-row.invariant.from in
    let near_from = begins at.After-later-begin in let from_on = near_from.1 in let less = c.loop-row-test.true in
    let room : k * s + s ≤ (c.args.to - c.args.from) * s = rows_more k (c.args.to - c.args.from) s (omega arith) in let t = c.in-Some.taken in (
      took_few l c.args.who.stage c.args.who.unit t.attempt t.element ((1 + (k * s + s)) + 1) (2 + (c.args.to - c.args.from) * s) c.args.from _ _ (omega arith)
          (took_looked l c.args.from c.args.who.stage c.args.who.unit t.attempt t.element (1 + (k * s + s)) 1 _ _ _
          (took_from l c.args.who.stage c.args.who.unit t.attempt t.element (k * s + s) c.args.from c.later-begin.result _ _ _ from_on c.low_at-mark.ensures.acted (under at.After-later-begin)
          (took_then l c.args.who.stage c.args.who.unit t.attempt t.element (k * s) s c.later-begin.result c.loop-row.row _ _ _ start b.3 c.in-Some.ensures.told.0)) c.raise_low.ensures.looked c.raise_low.ensures.seen),
      c.in-Some.ensures.told.1,
    )

pub loop-row-init : goal.loop-row-init
loop-row-init c = let at = (goal.at.loop-row-init c).After-later-begin in let b = begins at in let k = knows at in record {
  same = refl;
  lows = refl;
  from = omega arith;
  inside = b.2;
  above = omega arith;
  low = b.0;
  rose = rose_both (table_limits c.args.self.now.words) c.args.who.stage (view_of c.low_at-mark.new.seat) _ (marked at) _
      (subst (λ z. Rose c.args.who.stage (view_of c.low_at-mark.new.seat) (z + c.low_at-mark.result) (z + slice_index c.low_at-mark.new.lows c.args.part)) (ap (λ (z : Limits). c.args.part * z.rows) c.args.self.now.same) c.low_at-mark.ensures.rose)
      (rose_past (table_limits c.args.self.now.words) (view_of c.low_at-mark.new.seat) c.past_done-known.result (marked at) _ c.args.who.done (still_done at) c.past_done-known.ensures k.0 c.args.who.stage);
  lean = (0, omega arith, omega arith, lean_start (table_limits c.args.self.now.words) c.args.who.stage c.later-begin.result (view_of c.low_at-mark.new.seat));
  begun = (0, omega arith, omega arith, inl (refl, refl));
}

-- the rows up to this one, and this one
lean : (c : After-try_row) → IsLeanAt (table_limits c.args.self.now.words) c.args.who.stage 0 c.later-begin.result (c.loop-row.row + 1 - c.later-begin.result) (view_of c.low_at-mark.new.seat) (view_of c.try_row.new.seat)
lean c = let t = c.loop-row.invariant.lean in lean_row (table_limits c.args.self.now.words) c.args.who.stage c.later-begin.result t.0 c.loop-row.row _ _ _ c.loop-row.invariant.from t.1 t.3 c.try_row.ensures.lean

pub loop-row-preserved : goal.loop-row-preserved
loop-row-preserved c = let l : Limits = table_limits c.args.self.now.words in let at = goal.at.loop-row-preserved c in let t = c.in_default.ensures.told in let i = c.loop-row.invariant in let on = c.try_row.ensures.on.on in let n = near at.After-try_row in
    let s = try_steps in let P = PassedBy l c.args.who.stage in let F : ℕ = c.later-begin.result in let b = i.begun in let k : ℕ = b.0 in let x = b.1 in
    let start = i.from in let e = first at.After-low_at-mark in let w = wide at.After-low_at-mark in let top = n.1 in let less = c.loop-row-test.true in record {
      same = search rules;
      lows = i.lows;
      from = omega arith;
      inside = omega arith;
      above = more at.After-try_row;
      low = c.try_row.ensures.low.0;
      rose = rose at.After-try_row _ _ t.walk;
      lean = (c.loop-row.row + 1 - F, omega arith, omega arith, lean at.After-try_row);
      begun = (
        k + 1,
        omega arith,
        omega arith,
        begun_few l P (passed_widens l c.args.who.stage) (k * s + s) F ((k + 1) * s) c.try_row.new.row _ _ (rows_more k (k + 1) s (omega arith)) (begun_on l P (passed_widens l c.args.who.stage) (k * s) F s c.loop-row.row _ _ _ b.3 c.try_row.new.row start t),
      );
    }

-- the steps from the mark to the end of the rows
all_since : (c : After-loop-row) → Looked (table_limits c.args.self.now.words) (c.loop-row.invariant.begun.0 * try_steps) (view_of c.low_at-mark.new.seat) (view_of c.loop-row.seat)
all_since c = let l : Limits = table_limits c.args.self.now.words in
    begun_looked l (PassedBy l c.args.who.stage) (passed_widens l c.args.who.stage) _ _ c.loop-row.row _ _ c.loop-row.invariant.begun.3 c.low_at-mark.ensures.acted.walk.steady

pub raise_low-requires-2-clause-mark : goal.raise_low-requires-2-clause-mark
raise_low-requires-2-clause-mark c = let at = goal.at.raise_low-requires-2-clause-mark c in
    ((all_since at.After-loop-row).walk.knows (PartMark c.args.who.stage c.args.part c.low_at-mark.result) c.low_at-mark.ensures.knows, subst (λ lows. c.low_at-mark.result ≤ slice_index lows c.args.part) (sym c.loop-row.invariant.lows) (found at.After-low_at-mark))

pub raise_low-requires-2-clause-remembers : goal.raise_low-requires-2-clause-remembers
raise_low-requires-2-clause-remembers c = subst (Remembers c.args.who.stage (view_of c.loop-row.seat)) (sym c.loop-row.invariant.lows) (remembers_kind c.args.who.stage c.low_at-mark.new.lows _ _ _ _ _ (all_since (goal.at.raise_low-requires-2-clause-remembers c).After-loop-row).walk c.low_at-mark.ensures.remembers)

pub raise_low-requires-2-clause-low : goal.raise_low-requires-2-clause-low
raise_low-requires-2-clause-low c = let at = (goal.at.raise_low-requires-2-clause-low c).After-low_at-mark in let i = c.loop-row.invariant in let e = first at in let w = wide at in let high = i.inside in let low = i.low in (
  omega arith,
  under_low (goal.at.raise_low-requires-2-clause-low c).After-later-begin c.loop-row.lows c.loop-row.low i.lows i.above,
  subst (λ z. Rose c.args.who.stage (view_of c.loop-row.seat) (z + c.low_at-mark.result) c.loop-row.low) (sym e) i.rose,
)

pub returns-clause-told : goal.returns-clause-told
returns-clause-told c = let l : Limits = table_limits c.args.self.now.words in let s = try_steps in let at = goal.at.returns-clause-told c in let i = c.loop-row.invariant in let b = i.begun in let k : ℕ = b.0 in let most = b.2 in
    let past = c.loop-row-test.false in let from_on = (begins at.After-later-begin).1 in
    let P = PassedBy l c.args.who.stage in let F : ℕ = c.later-begin.result in
    let few : k * s ≤ (c.args.to - c.args.from) * s = mul-le-mul_right s (omega arith) in
    let sought = sought_less l (1 + k * s) P c.args.from c.args.to c.loop-row.row _ _ (omega arith) (sought_from l P (passed_widens l c.args.who.stage) (k * s) c.args.from F c.loop-row.row (view_of c.args.seat.now) (view_of c.low_at-mark.new.seat) (view_of c.loop-row.seat) c.low_at-mark.ensures.acted b.3 (under at.After-later-begin)) in
    sought_few l ((1 + k * s) + 1) (2 + (c.args.to - c.args.from) * s) _ _ _ (omega arith)
    (sought_then l (1 + k * s) 1 (EachRow P c.args.from c.args.to) _ _ _ (λ a b g later each j p q. passed_widens l c.args.who.stage j a a b g (begins_refl a) later (each j p q)) sought c.raise_low-2.ensures.looked)

-- what was remembered of the mark, and the rows from there on
above : (c : After-later-begin) → c.args.part * (table_limits c.args.self.now.words).rows + slice_index c.args.lows.now c.args.part ≤ c.later-begin.result
above c = let up = c.low_at-mark.ensures.lows.0 c.args.part in let k = (knows c).0 in let b = (begins c).0 in let e = ap (λ (z : Limits). c.args.part * z.rows) c.args.self.now.same in omega arith

pub returns-in-Some-clause-few : goal.returns-in-Some-clause-few
returns-in-Some-clause-few c = let l : Limits = table_limits c.args.self.now.words in let s = try_steps in let at = goal.at.returns-in-Some-clause-few c in let b = c.loop-row.invariant.begun in let k : ℕ = b.0 in let x = b.1 in
    let up = above at.After-later-begin in let less = c.loop-row-test.true in let top = c.requires.span.2 in let start = c.loop-row.invariant.from in
    let room : k * s + s ≤ (l.rows - slice_index c.args.lows.now c.args.part) * s = rows_more k (l.rows - slice_index c.args.lows.now c.args.part) s (omega arith) in
    let v = view_of c.args.seat.now in let w = view_of c.low_at-mark.new.seat in let y = view_of c.loop-row.seat in let z = view_of c.try_row.new.seat in
    made_few ((1 + k * s) + (s + 1)) _ v (view_of c.raise_low.new.seat) (omega arith)
    (made_then (1 + k * s) (s + 1) v y (view_of c.raise_low.new.seat) (made_then 1 (k * s) v w y (made l 1 _ v w c.low_at-mark.ensures.acted.walk) (made l (k * s) _ w y (since at.After-try_row).walk))
    (made_then s 1 y z (view_of c.raise_low.new.seat) (made l s _ y z c.in-Some.ensures.told.0.walk) (made l 1 _ z (view_of c.raise_low.new.seat) c.raise_low.ensures.looked.walk)))

pub returns-clause-few : goal.returns-clause-few
returns-clause-few c = let l : Limits = table_limits c.args.self.now.words in let s = try_steps in let at = goal.at.returns-clause-few c in let b = c.loop-row.invariant.begun in let k : ℕ = b.0 in let most = b.2 in
    let up = above at.After-later-begin in let top = c.requires.span.2 in
    let few : k * s ≤ (l.rows - slice_index c.args.lows.now c.args.part) * s = mul-le-mul_right s (omega arith) in
    let v = view_of c.args.seat.now in let w = view_of c.low_at-mark.new.seat in let y = view_of c.loop-row.seat in
    made_few ((1 + k * s) + 1) _ v (view_of c.raise_low-2.new.seat) (omega arith)
    (made_then (1 + k * s) 1 v y (view_of c.raise_low-2.new.seat) (made_then 1 (k * s) v w y (made l 1 _ v w c.low_at-mark.ensures.acted.walk) (made l (k * s) _ w y (all_since at.After-loop-row).walk))
    (made l 1 _ y (view_of c.raise_low-2.new.seat) c.raise_low-2.ensures.looked.walk))

pub returns-in-Some-clause-lows : goal.returns-in-Some-clause-lows
returns-in-Some-clause-lows c = rises_at_then c.args.part c.args.lows.now c.low_at-mark.new.lows c.raise_low.new.lows c.low_at-mark.ensures.lows (subst (λ lows. RisesAt c.args.part lows c.raise_low.new.lows) c.loop-row.invariant.lows c.raise_low.ensures.lows)

pub returns-clause-lows : goal.returns-clause-lows
returns-clause-lows c = rises_at_then c.args.part c.args.lows.now c.low_at-mark.new.lows c.raise_low-2.new.lows c.low_at-mark.ensures.lows (subst (λ lows. RisesAt c.args.part lows c.raise_low-2.new.lows) c.loop-row.invariant.lows c.raise_low-2.ensures.lows)

pub returns-in-Some-clause-lean : goal.returns-in-Some-clause-lean
returns-in-Some-clause-lean c = let l : Limits = table_limits c.args.self.now.words in let at = goal.at.returns-in-Some-clause-lean c in let F : ℕ = c.later-begin.result in let n : ℕ = slice_index c.args.lows.now c.args.part in let m : ℕ = c.loop-row.row + 1 - F in
    let up = above at.After-later-begin in let less = c.loop-row-test.true in let top = c.requires.span.2 in let start = c.loop-row.invariant.from in let from = (begins at.After-later-begin).1 in
    lean_span l c.args.who.stage 2 F m 2 (c.args.part * l.rows + n) (l.rows - n) c.args.from c.args.to (view_of c.args.seat.now) (view_of c.raise_low.new.seat) (omega arith) (omega arith) (omega arith) from (inl (omega arith))
    (lean_between l c.args.who.stage 1 F m 1 2 F m _ _ _ _ _ _ (omega arith) (omega arith) (omega arith) c.low_at-mark.ensures.acted.walk (lean at.After-try_row) c.raise_low.ensures.looked.walk)

pub returns-clause-lean : goal.returns-clause-lean
returns-clause-lean c = let l : Limits = table_limits c.args.self.now.words in let at = goal.at.returns-clause-lean c in let F : ℕ = c.later-begin.result in let n : ℕ = slice_index c.args.lows.now c.args.part in let t = c.loop-row.invariant.lean in let k : ℕ = t.0 in let most = t.2 in
    let up = above at.After-later-begin in let top = c.requires.span.2 in let from = (begins at.After-later-begin).1 in let high = (begins at.After-later-begin).2 in let e = first at.After-low_at-mark in let w = wide at.After-low_at-mark in
    lean_span l c.args.who.stage 2 F k 2 (c.args.part * l.rows + n) (l.rows - n) c.args.from c.args.to (view_of c.args.seat.now) (view_of c.raise_low-2.new.seat) (omega arith) (omega arith) (omega arith) from (dite (dec_le F c.args.to) (λ in_it. inl (omega arith)) (λ out. inr (omega arith)))
    (lean_between l c.args.who.stage 1 F k 1 2 F k _ _ _ _ _ _ (omega arith) (omega arith) (omega arith) c.low_at-mark.ensures.acted.walk t.3 c.raise_low-2.ensures.looked.walk)
