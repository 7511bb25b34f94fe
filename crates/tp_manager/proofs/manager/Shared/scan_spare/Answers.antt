use Rattle.std.proofs.Common.{◌<◌, ◌≡◌, ◌+◌, ◌-◌, ◌*◌, ◌≤◌, ℕ, List, length, slice_index, refl, sym, ◌∙◌, ap, subst, inl, inr, ⊎_elim, arith, rules, mul-le-mul_right}
use Rattle.tp_model.specs.declared.types.Limits.{Limits}
use Rattle.tp_model.specs.declared.types.TheConstants.{BLOCK_ROWS}
use Rattle.tp_model.specs.declared.trace.TraceEntry.{TraceEntry}
use Rattle.tp_model.specs.Steps.{part_rows, rows_of}
use mathlib.Core.Logic.{dite}
use native.Mathlib.Decide.{dec_le}
use Rattle.tp_model.proofs.Bridges.{begins_refl}
use Rattle.tp_rule.specs.Tables.{table_limits}
use Rattle.tp_rule.specs.Views.{seen_by, view_of}
use Rattle.tp_manager.specs.Bounds.{try_steps}
use Rattle.tp_manager.specs.CallSteps.{Looked, Stepped}
use Rattle.tp_manager.specs.Marks.{Remembers, RemembersGaps, Rose, WasOfUse}
use Rattle.tp_manager.specs.Scans.{EachRow, PassedBy}
use Rattle.tp_manager.specs.Spares.{SpareRests}
use Rattle.tp_manager.proofs.Marks.Raises.{goes_walked, over_passed, rose_then, took_looked, use_later}
use Rattle.tp_manager.proofs.Claims.Scans.{none_passed, passed_widens, scan_behind, took_few, took_from, took_then}
use Rattle.tp_manager.proofs.Rows.Seeks.{begun_few, begun_looked, begun_on, rows_more, sought_from, sought_then}
use Rattle.std.proofs.Math.Nat.{add-mul}
use Rattle.tp_rule.specs.declared.view.View.{View}
use Rattle.tp_manager.proofs.Calls.Points.{has_more}
use Rattle.tp_manager.proofs.Claims.Behind.{gaps_set, scan_on, spare_on}
use Rattle.tp_manager.proofs.Marks.Rests.{drawn_walked, spare_behind, spare_rests}
use Rattle.tp_manager.proofs.Claims.Spares.{sought_passed}
use Rattle.tp_manager.proofs.Calls.CallSteps.{gaps_kind, looked_begins, looked_none, remembers_kind, sought_few, walked_begins, walked_then}
use Rattle.tp_rule.specs.declared.view.Known.TheVariants.{PartMark}
use Rattle.tp_manager.specs.Leans.{IsLeanAt, scan_end}
use Rattle.tp_manager.proofs.Claims.Leans.{ends_far, lean_apart, lean_between, lean_row, lean_start, lean_zero}
use Rattle.tp_manager.proofs.manager.Shared.scan_spare.Goals as goal
use Rattle.tp_manager.proofs.manager.Shared.scan_spare.Goals.{After-loop-row, After-low_at-mark, After-part_rows, After-try_row}

abbrev parts : (c : After-low_at-mark) → c.args.self.now.places.limits.parts ≡ (table_limits c.args.self.now.words).parts
parts c = ap (λ (z : Limits). z.parts) (sym c.args.self.now.same)

-- where the spare rows begin
start : (c : After-part_rows) → c.args.self.now.places.limits.parts * (table_limits c.args.self.now.words).rows ≡ c.part_rows.result
start c = ap (λ (z : Limits). c.args.self.now.places.limits.parts * z.rows) c.args.self.now.same ∙ sym c.part_rows.ensures

front : (c : After-part_rows) → part_rows (table_limits c.args.self.now.words) ≡ c.part_rows.result
front c = ap part_rows c.args.self.now.same ∙ sym c.part_rows.ensures

-- what is remembered of the mark is among them
inside : (c : After-low_at-mark) → slice_index c.low_at-mark.new.lows c.args.self.now.places.limits.parts ≤ BLOCK_ROWS * (table_limits c.args.self.now.words).spare
inside c = c.low_at-mark.ensures.low.0.1 (parts c)

-- the pass remembered no more than it does now
above : (c : After-low_at-mark) → slice_index c.args.lows.now (table_limits c.args.self.now.words).parts ≤ slice_index c.low_at-mark.new.lows c.args.self.now.places.limits.parts
above c = subst (λ p. slice_index c.args.lows.now p ≤ slice_index c.low_at-mark.new.lows c.args.self.now.places.limits.parts) (parts c) (c.low_at-mark.ensures.lows.0 c.args.self.now.places.limits.parts)

-- nor less than the mark that was found
found : (c : After-low_at-mark) → c.low_at-mark.result ≤ slice_index c.low_at-mark.new.lows c.args.self.now.places.limits.parts
found c = let up = c.low_at-mark.ensures.rose.0 in omega arith

-- the scan began no row before it
under_low : (c : After-part_rows) (lows : List ℕ) (low : ℕ) → lows ≡ c.low_at-mark.new.lows → c.part_rows.result + slice_index c.low_at-mark.new.lows c.args.self.now.places.limits.parts ≤ low
    → c.args.self.now.places.limits.parts * (table_limits c.args.self.now.words).rows + slice_index lows c.args.self.now.places.limits.parts ≤ low
under_low c lows low same up = let e = start c in subst (λ z. c.args.self.now.places.limits.parts * (table_limits c.args.self.now.words).rows + slice_index z c.args.self.now.places.limits.parts ≤ low) (sym same) (omega arith)

more : (c : After-try_row) → c.part_rows.result + slice_index c.low_at-mark.new.lows c.args.self.now.places.limits.parts ≤ c.try_row.new.low
more c = let up = c.loop-row.invariant.above in let on = c.try_row.ensures.low.1.0 in omega arith

-- the steps from the mark up to the row
since : (c : After-try_row) → Looked (table_limits c.args.self.now.words) ((c.loop-row.row - (c.part_rows.result + slice_index c.low_at-mark.new.lows c.args.self.now.places.limits.parts)) * try_steps) (view_of c.low_at-mark.new.seat) (view_of c.loop-row.seat)
since c = let l : Limits = table_limits c.args.self.now.words in
    begun_looked l (PassedBy l c.args.stage) (passed_widens l c.args.stage) _ _ c.loop-row.row _ _ c.loop-row.invariant.begun c.low_at-mark.ensures.acted.walk.steady

-- what is known of no use after one more row
rose : (c : After-try_row) (n : ℕ) (ms : List TraceEntry) → Stepped (table_limits c.args.self.now.words) n ms (view_of c.loop-row.seat) (view_of c.try_row.new.seat)
    → Rose c.args.stage (view_of c.try_row.new.seat) (part_rows (table_limits c.args.self.now.words) + c.low_at-mark.result) c.try_row.new.low
rose c n ms a = let l : Limits = table_limits c.args.self.now.words in let v = view_of c.loop-row.seat in
    rose_then l c.args.stage v (view_of c.try_row.new.seat) _ c.loop-row.low c.try_row.new.low (goes_walked l n ms v _ (since c).walk.steady.pass.1 a) c.loop-row.invariant.rose c.try_row.ensures.low.1

-- the first row that isn't known of no use, after one more row
stuck : (c : After-try_row) (n : ℕ) (ms : List TraceEntry) → Stepped (table_limits c.args.self.now.words) n ms (view_of c.loop-row.seat) (view_of c.try_row.new.seat) → c.try_row.new.low < c.try_row.new.row
    → WasOfUse (table_limits c.args.self.now.words) c.args.stage c.try_row.new.low (seen_by c.low_at-mark.new.seat) (seen_by c.try_row.new.seat)
stuck c n ms a less = let l : Limits = table_limits c.args.self.now.words in let h = seen_by c.low_at-mark.new.seat in let i = c.loop-row.invariant in
    ⊎_elim (λ t. subst (λ z. WasOfUse l c.args.stage z h (seen_by c.try_row.new.seat)) (sym t.1) (use_later l c.args.stage c.loop-row.low h h _ _ (begins_refl h) (walked_begins l n ms _ _ a) (i.stuck t.0)))
    (λ was. use_later l c.args.stage c.try_row.new.low h (seen_by c.loop-row.seat) _ _ (looked_begins l _ _ _ (since c)) (begins_refl _) was) (c.try_row.ensures.stays less)

-- the steps from the mark to the end of the rows
all_since : (c : After-loop-row) → Looked (table_limits c.args.self.now.words) ((c.loop-row.row - (c.part_rows.result + slice_index c.low_at-mark.new.lows c.args.self.now.places.limits.parts)) * try_steps) (view_of c.low_at-mark.new.seat) (view_of c.loop-row.seat)
all_since c = let l : Limits = table_limits c.args.self.now.words in
    begun_looked l (PassedBy l c.args.stage) (passed_widens l c.args.stage) _ _ c.loop-row.row _ _ c.loop-row.invariant.begun c.low_at-mark.ensures.acted.walk.steady

pub returns-in-Some-clause-rests : goal.returns-in-Some-clause-rests
returns-in-Some-clause-rests c = let l : Limits = table_limits c.args.self.now.words in let at = goal.at.returns-in-Some-clause-rests c in let t = c.in-Some.ensures.told.0 in let w = view_of c.raise_low.new.seat in
    subst (λ p. SpareRests l c.args.stage c.args.end (slice_index c.raise_low.new.lows p) (view_of c.args.seat.now) w) (parts at.After-low_at-mark)
    (spare_rests l 1 _ _ (view_of c.args.seat.now) (view_of c.low_at-mark.new.seat) (view_of c.try_row.new.seat) w c.low_at-mark.ensures.acted
    (walked_then l _ 1 _ _ _ _ _ (walked_then l _ _ _ _ _ _ _ (since at.After-try_row).walk t.walk) c.raise_low.ensures.looked.walk) c.raise_low.ensures.seen
    c.args.stage c.args.self.now.places.limits.parts _ c.try_row.new.low c.try_row.new.row c.args.end (start at.After-part_rows ∙ sym (front at.After-part_rows)) c.raise_low.ensures.rests (stuck at.After-try_row _ _ t.walk) (inl c.in-Some.ensures.behind.0))

pub returns-clause-rests : goal.returns-clause-rests
returns-clause-rests c = let l : Limits = table_limits c.args.self.now.words in let at = goal.at.returns-clause-rests c in let w = view_of c.raise_low-2.new.seat in let i = c.loop-row.invariant in
    let low = i.low in let past = c.loop-row-test.false in
    subst (λ p. SpareRests l c.args.stage c.args.end (slice_index c.raise_low-2.new.lows p) (view_of c.args.seat.now) w) (parts at.After-low_at-mark)
    (spare_rests l 1 _ _ (view_of c.args.seat.now) (view_of c.low_at-mark.new.seat) (view_of c.loop-row.seat) w c.low_at-mark.ensures.acted
    (walked_then l _ 1 _ _ _ _ _ (all_since at.After-loop-row).walk c.raise_low-2.ensures.looked.walk) c.raise_low-2.ensures.seen
    c.args.stage c.args.self.now.places.limits.parts _ c.loop-row.low c.loop-row.row c.args.end (start at.After-part_rows ∙ sym (front at.After-part_rows)) c.raise_low-2.ensures.rests i.stuck
    (dite (dec_le (c.loop-row.low + 1) c.loop-row.row) (λ less. let r : c.loop-row.low < c.loop-row.row = omega arith in inl r) (λ not. inr (omega arith))))

pub raise_low-requires-clause-mark : goal.raise_low-requires-clause-mark
raise_low-requires-clause-mark c = let at = goal.at.raise_low-requires-clause-mark c in let known = PartMark c.args.stage c.args.self.now.places.limits.parts c.low_at-mark.result in
    (c.in-Some.ensures.told.0.walk.knows known ((since at.After-try_row).walk.knows known c.low_at-mark.ensures.knows), subst (λ lows. c.low_at-mark.result ≤ slice_index lows c.args.self.now.places.limits.parts) (sym c.loop-row.invariant.lows) (found at.After-low_at-mark))

pub raise_low-requires-2-clause-mark : goal.raise_low-requires-2-clause-mark
raise_low-requires-2-clause-mark c = let at = goal.at.raise_low-requires-2-clause-mark c in
    ((all_since at.After-loop-row).walk.knows (PartMark c.args.stage c.args.self.now.places.limits.parts c.low_at-mark.result) c.low_at-mark.ensures.knows, subst (λ lows. c.low_at-mark.result ≤ slice_index lows c.args.self.now.places.limits.parts) (sym c.loop-row.invariant.lows) (found at.After-low_at-mark))

pub raise_low-requires-2-clause-remembers : goal.raise_low-requires-2-clause-remembers
raise_low-requires-2-clause-remembers c = subst (Remembers c.args.stage (view_of c.loop-row.seat)) (sym c.loop-row.invariant.lows) (remembers_kind c.args.stage c.low_at-mark.new.lows _ _ _ _ _ (all_since (goal.at.raise_low-requires-2-clause-remembers c).After-loop-row).walk c.low_at-mark.ensures.remembers)

-- what is made from the mark up to the row, and there
lean : (c : After-try_row) → IsLeanAt (table_limits c.args.self.now.words) c.args.stage 0 (c.part_rows.result + slice_index c.low_at-mark.new.lows c.args.self.now.places.limits.parts) (c.loop-row.row + 1 - (c.part_rows.result + slice_index c.low_at-mark.new.lows c.args.self.now.places.limits.parts)) (view_of c.low_at-mark.new.seat) (view_of c.try_row.new.seat)
lean c = let t = c.loop-row.invariant.lean in let F : ℕ = c.part_rows.result + slice_index c.low_at-mark.new.lows c.args.self.now.places.limits.parts in
    lean_row (table_limits c.args.self.now.words) c.args.stage F t.0 c.loop-row.row _ _ _ c.loop-row.invariant.from t.1 t.3 c.try_row.ensures.lean

pub returns-in-Some-clause-lean : goal.returns-in-Some-clause-lean
returns-in-Some-clause-lean c = let l : Limits = table_limits c.args.self.now.words in let at = goal.at.returns-in-Some-clause-lean c in let F : ℕ = c.part_rows.result + slice_index c.low_at-mark.new.lows c.args.self.now.places.limits.parts in let N : ℕ = part_rows l + slice_index c.args.lows.now l.parts in
    let start = c.loop-row.invariant.from in let is = c.in-Some.ensures.behind.1 in let low = above at.After-low_at-mark in let behind = front at.After-part_rows in
    lean_between l c.args.stage 1 F (c.loop-row.row + 1 - F) 1 2 N (c.in-Some.taken.element.id + 1 - N) _ _ _ _ _ _ (omega arith) (omega arith) (omega arith) c.low_at-mark.ensures.acted.walk (lean at.After-try_row) c.raise_low.ensures.looked.walk

pub returns-then-row-end-clause-lean : goal.returns-then-row-end-clause-lean
returns-then-row-end-clause-lean c = let l : Limits = table_limits c.args.self.now.words in let at = goal.at.returns-then-row-end-clause-lean c in let F : ℕ = c.part_rows.result + slice_index c.low_at-mark.new.lows c.args.self.now.places.limits.parts in let N : ℕ = part_rows l + slice_index c.args.lows.now l.parts in
    let start = c.loop-row.invariant.from in let low = above at.After-low_at-mark in let behind = front at.After-part_rows in let less = c.if-row-end.true in
    let on = c.try_row.ensures.on.on in let next : ℕ = c.try_row.new.row in let o = c.scan_behind-found.result in
    let far = ends_far l _ _ next c.args.end c.args.stage c.args.unit _ _ o (omega arith) c.scan_behind-found.ensures.told in
    lean_apart l c.args.stage 2 F (c.loop-row.row + 1 - F) 0 next (scan_end c.args.end o - next) 2 N (scan_end c.args.end o - N) _ _ _ (omega arith) (omega arith) (omega arith) (omega arith)
    (lean_between l c.args.stage 1 F (c.loop-row.row + 1 - F) 1 2 F (c.loop-row.row + 1 - F) _ _ _ _ _ _ (omega arith) (omega arith) (omega arith) c.low_at-mark.ensures.acted.walk (lean at.After-try_row) c.raise_low-then-row-end.ensures.looked.walk) c.scan_behind-found.ensures.lean

pub returns-clause-lean : goal.returns-clause-lean
returns-clause-lean c = let l : Limits = table_limits c.args.self.now.words in let at = goal.at.returns-clause-lean c in let F : ℕ = c.part_rows.result + slice_index c.low_at-mark.new.lows c.args.self.now.places.limits.parts in let N : ℕ = part_rows l + slice_index c.args.lows.now l.parts in let t = c.loop-row.invariant.lean in let k : ℕ = t.0 in let most = t.2 in
    let low = above at.After-low_at-mark in let behind = front at.After-part_rows in dite (dec_le F c.args.end)
    (λ inside. lean_between l c.args.stage 1 F k 1 2 N (c.args.end - N) _ _ _ _ _ _ (omega arith) (omega arith) (omega arith) c.low_at-mark.ensures.acted.walk t.3 c.raise_low-2.ensures.looked.walk)
    (λ out. lean_between l c.args.stage 1 N 0 1 2 N (c.args.end - N) _ _ _ _ _ _ (omega arith) (omega arith) (omega arith) c.low_at-mark.ensures.acted.walk (lean_zero l c.args.stage 0 F N k _ _ (omega arith) t.3) c.raise_low-2.ensures.looked.walk)

pub loop-row-init : goal.loop-row-init
loop-row-init c = let l : Limits = table_limits c.args.self.now.words in let at = goal.at.loop-row-init c in let top = inside at.After-low_at-mark in let f = front at.After-part_rows in record {
  same = refl;
  lows = refl;
  gaps = refl;
  from = omega arith;
  inside = omega arith;
  above = omega arith;
  low = omega arith;
  rose = let e = start at.After-part_rows in subst (λ (z : ℕ × ℕ). Rose c.args.stage (view_of c.low_at-mark.new.seat) (z.0 + c.low_at-mark.result) (z.1 + slice_index c.low_at-mark.new.lows c.args.self.now.places.limits.parts)) (λ i. ((e ∙ sym f) i, e i)) c.low_at-mark.ensures.rose;
  stuck = λ less. absurd (omega arith);
  lean = (0, omega arith, omega arith, lean_start l c.args.stage (c.part_rows.result + slice_index c.low_at-mark.new.lows c.args.self.now.places.limits.parts) (view_of c.low_at-mark.new.seat));
  begun = inl (refl, refl);
}

pub raise_low-requires-clause-remembers : goal.raise_low-requires-clause-remembers
raise_low-requires-clause-remembers c = let at = (goal.at.raise_low-requires-clause-remembers c).After-try_row in
    subst (Remembers c.args.stage (view_of c.try_row.new.seat)) (sym c.loop-row.invariant.lows) (remembers_kind c.args.stage c.low_at-mark.new.lows _ _ _ _ _ c.in-Some.ensures.told.0.walk (remembers_kind c.args.stage c.low_at-mark.new.lows _ _ _ _ _ (since at).walk c.low_at-mark.ensures.remembers))

pub raise_low-requires-clause-low : goal.raise_low-requires-clause-low
raise_low-requires-clause-low c = let l : Limits = table_limits c.args.self.now.words in let at = goal.at.raise_low-requires-clause-low c in let first = start at.After-part_rows in let behind = front at.After-part_rows in
    let low = c.try_row.ensures.low.0 in let top = c.try_row.ensures.on.inside in (
      (λ not. absurd (not (parts at.After-low_at-mark)), λ _. omega arith),
      under_low at.After-part_rows c.loop-row.lows c.try_row.new.low c.loop-row.invariant.lows (more at.After-try_row),
      subst (λ z. Rose c.args.stage (view_of c.try_row.new.seat) (z + c.low_at-mark.result) c.try_row.new.low) (behind ∙ sym first) (rose at.After-try_row _ _ c.in-Some.ensures.told.0.walk),
    )

pub returns-in-Some-clause-told : goal.returns-in-Some-clause-told
returns-in-Some-clause-told c = let l : Limits = table_limits c.args.self.now.words in let s = try_steps in let at = goal.at.returns-in-Some-clause-told c in let t = c.in-Some.taken in
    let F : ℕ = c.part_rows.result + slice_index c.low_at-mark.new.lows c.args.self.now.places.limits.parts in let d : ℕ = c.loop-row.row - F in let from = c.loop-row.invariant.from in let less = c.loop-row-test.true in let top = c.requires.end.1 in
    let low = above at.After-low_at-mark in let behind = front at.After-part_rows in let first = start at.After-part_rows in
    let room : d * s + s ≤ (BLOCK_ROWS * l.spare - slice_index c.args.lows.now l.parts) * s = rows_more d (BLOCK_ROWS * l.spare - slice_index c.args.lows.now l.parts) s (omega arith) in (
      took_few l c.args.stage c.args.unit t.attempt t.element ((1 + (d * s + s)) + 1) (2 + (BLOCK_ROWS * l.spare - slice_index c.args.lows.now l.parts) * s) (part_rows l) _ _ (omega arith)
          (took_looked l (part_rows l) c.args.stage c.args.unit t.attempt t.element (1 + (d * s + s)) 1 _ _ _
          (took_from l c.args.stage c.args.unit t.attempt t.element (d * s + s) (part_rows l) F _ _ _ (omega arith) c.low_at-mark.ensures.acted
          (λ j from_on below. over_passed l c.args.stage (seen_by c.low_at-mark.new.seat) c.args.self.now.places.limits.parts (slice_index c.low_at-mark.new.lows c.args.self.now.places.limits.parts) j c.requires.stage.0 c.low_at-mark.ensures.low.1 (omega arith) (omega arith))
          (took_then l c.args.stage c.args.unit t.attempt t.element (d * s) s F c.loop-row.row _ _ _ from c.loop-row.invariant.begun c.in-Some.ensures.told.0)) c.raise_low.ensures.looked c.raise_low.ensures.seen),
      c.in-Some.ensures.told.1,
    )

pub loop-row-preserved : goal.loop-row-preserved
loop-row-preserved c = let l : Limits = table_limits c.args.self.now.words in let at = goal.at.loop-row-preserved c in let t = c.in_default.ensures.told in let i = c.loop-row.invariant in let on = c.try_row.ensures.on.on in
    let s = try_steps in let P = PassedBy l c.args.stage in let F : ℕ = c.part_rows.result + slice_index c.low_at-mark.new.lows c.args.self.now.places.limits.parts in let d : ℕ = c.loop-row.row - F in let from = i.from in record {
      same = search rules;
      lows = i.lows;
      gaps = i.gaps;
      from = omega arith;
      inside = c.try_row.ensures.on.inside;
      above = more at.After-try_row;
      low = c.try_row.ensures.low.0;
      rose = rose at.After-try_row _ _ t.walk;
      stuck = stuck at.After-try_row _ _ t.walk;
      lean = (c.loop-row.row + 1 - F, omega arith, (let less = c.loop-row-test.true in omega arith), lean at.After-try_row);
      begun = begun_few l P (passed_widens l c.args.stage) (d * s + s) F _ c.try_row.new.row _ _ (rows_more d (c.try_row.new.row - F) s (omega arith)) (begun_on l P (passed_widens l c.args.stage) (d * s) F s c.loop-row.row _ _ _ i.begun c.try_row.new.row from t);
    }

pub raise_low-requires-2-clause-low : goal.raise_low-requires-2-clause-low
raise_low-requires-2-clause-low c = let l : Limits = table_limits c.args.self.now.words in let at = goal.at.raise_low-requires-2-clause-low c in let first = start at.After-part_rows in let behind = front at.After-part_rows in
    let i = c.loop-row.invariant in let low = i.low in let top = i.inside in (
      (λ not. absurd (not (parts at.After-low_at-mark)), λ _. omega arith),
      under_low at.After-part_rows c.loop-row.lows c.loop-row.low i.lows i.above,
      subst (λ z. Rose c.args.stage (view_of c.loop-row.seat) (z + c.low_at-mark.result) c.loop-row.low) (behind ∙ sym first) i.rose,
    )

pub returns-clause-told : goal.returns-clause-told
returns-clause-told c = let l : Limits = table_limits c.args.self.now.words in let s = try_steps in let at = goal.at.returns-clause-told c in let i = c.loop-row.invariant in
    let P = PassedBy l c.args.stage in let F : ℕ = c.part_rows.result + slice_index c.low_at-mark.new.lows c.args.self.now.places.limits.parts in let d : ℕ = c.loop-row.row - F in
    let first = start at.After-part_rows in let behind = front at.After-part_rows in let top = i.inside in let past = c.loop-row-test.false in let low = above at.After-low_at-mark in
    let few : d * s ≤ (BLOCK_ROWS * l.spare - slice_index c.args.lows.now l.parts) * s = mul-le-mul_right s (omega arith) in
    let sought = sought_from l P (passed_widens l c.args.stage) (d * s) (part_rows l) F c.loop-row.row (view_of c.args.seat.now) (view_of c.low_at-mark.new.seat) (view_of c.loop-row.seat) c.low_at-mark.ensures.acted i.begun
    (λ j from_on below. over_passed l c.args.stage (seen_by c.low_at-mark.new.seat) c.args.self.now.places.limits.parts (slice_index c.low_at-mark.new.lows c.args.self.now.places.limits.parts) j c.requires.stage.0 c.low_at-mark.ensures.low.1 (omega arith) (omega arith)) in
    sought_passed l P (passed_widens l c.args.stage) (2 + (BLOCK_ROWS * l.spare - slice_index c.args.lows.now l.parts) * s) (part_rows l) c.loop-row.row (rows_of l) (view_of c.args.seat.now) (view_of c.raise_low-2.new.seat)
    (sought_few l ((1 + d * s) + 1) (2 + (BLOCK_ROWS * l.spare - slice_index c.args.lows.now l.parts) * s) (EachRow P (part_rows l) c.loop-row.row) _ _ (omega arith)
    (sought_then l (1 + d * s) 1 (EachRow P (part_rows l) c.loop-row.row) _ _ _ (λ a b g later each j p q. passed_widens l c.args.stage j a a b g (begins_refl a) later (each j p q)) sought c.raise_low-2.ensures.looked))
    (λ j low high. none_passed l c.args.stage j (seen_by c.args.seat.now) (c.requires.end.2 j (omega arith) high))

-- what the pass remembers of gaps is so after the load of the mark, and later
gaps_then : (c : After-low_at-mark) (gaps : List ℕ) (n : ℕ) (ms : List TraceEntry) (y : View) → gaps ≡ c.args.gaps.now → Stepped (table_limits c.args.self.now.words) n ms (view_of c.low_at-mark.new.seat) y → RemembersGaps c.args.stage y gaps
gaps_then c gaps n ms y same a = subst (RemembersGaps c.args.stage y) (sym same) (gaps_kind c.args.stage c.args.gaps.now _ n ms _ y a (gaps_kind c.args.stage c.args.gaps.now _ _ _ _ _ c.low_at-mark.ensures.acted.walk c.requires.gaps))

pub returns-in-Some-clause-gaps : goal.returns-in-Some-clause-gaps
returns-in-Some-clause-gaps c = let l : Limits = table_limits c.args.self.now.words in let at = goal.at.returns-in-Some-clause-gaps c in
    gaps_then at.After-low_at-mark c.loop-row.gaps _ _ (view_of c.raise_low.new.seat) c.loop-row.invariant.gaps (walked_then l _ 1 _ _ _ _ _ (walked_then l _ _ _ _ _ _ _ (since at.After-try_row).walk c.in-Some.ensures.told.0.walk) c.raise_low.ensures.looked.walk)

pub returns-clause-gaps : goal.returns-clause-gaps
returns-clause-gaps c = let l : Limits = table_limits c.args.self.now.words in let at = goal.at.returns-clause-gaps c in
    gaps_then at.After-low_at-mark c.loop-row.gaps _ _ (view_of c.raise_low-2.new.seat) c.loop-row.invariant.gaps (walked_then l _ 1 _ _ _ _ _ (all_since at.After-loop-row).walk c.raise_low-2.ensures.looked.walk)

-- a row that may be of use: the scan goes on behind it
pub raise_low-requires-then-row-end-clause-remembers : goal.raise_low-requires-then-row-end-clause-remembers
raise_low-requires-then-row-end-clause-remembers c = let at = (goal.at.raise_low-requires-then-row-end-clause-remembers c).After-try_row in
    subst (Remembers c.args.stage (view_of c.try_row.new.seat)) (sym c.loop-row.invariant.lows) (remembers_kind c.args.stage c.low_at-mark.new.lows _ _ _ _ _ c.in_default.ensures.told.walk (remembers_kind c.args.stage c.low_at-mark.new.lows _ _ _ _ _ (since at).walk c.low_at-mark.ensures.remembers))

pub raise_low-requires-then-row-end-clause-low : goal.raise_low-requires-then-row-end-clause-low
raise_low-requires-then-row-end-clause-low c = let at = goal.at.raise_low-requires-then-row-end-clause-low c in let first = start at.After-part_rows in let behind = front at.After-part_rows in
    let low = c.try_row.ensures.low.0 in let top = c.try_row.ensures.on.inside in (
      (λ not. absurd (not (parts at.After-low_at-mark)), λ _. omega arith),
      under_low at.After-part_rows c.loop-row.lows c.try_row.new.low c.loop-row.invariant.lows (more at.After-try_row),
      subst (λ z. Rose c.args.stage (view_of c.try_row.new.seat) (z + c.low_at-mark.result) c.try_row.new.low) (behind ∙ sym first) (rose at.After-try_row _ _ c.in_default.ensures.told.walk),
    )

pub scan_behind-found-requires-clause-gap : goal.scan_behind-found-requires-clause-gap
scan_behind-found-requires-clause-gap c = let l : Limits = table_limits c.args.self.now.words in let at = goal.at.scan_behind-found-requires-clause-gap c in
    gaps_then at.After-low_at-mark c.loop-row.gaps _ _ (view_of c.raise_low-then-row-end.new.seat) c.loop-row.invariant.gaps
    (walked_then l _ 1 _ _ _ _ _ (walked_then l _ _ _ _ _ _ _ (since at.After-try_row).walk c.in_default.ensures.told.walk) c.raise_low-then-row-end.ensures.looked.walk) c.args.self.now.places.limits.parts

pub returns-then-row-end-clause-remembers : goal.returns-then-row-end-clause-remembers
returns-then-row-end-clause-remembers c = let l : Limits = table_limits c.args.self.now.words in
    let w = drawn_walked l c.args.stage c.args.unit _ c.try_row.new.row _ (view_of c.raise_low-then-row-end.new.seat) (view_of c.scan_behind-found.new.seat) c.scan_behind-found.result c.scan_behind-found.ensures.told in
    remembers_kind c.args.stage c.raise_low-then-row-end.new.lows _ _ _ _ _ w.1 c.raise_low-then-row-end.ensures.remembers

pub returns-then-row-end-clause-gaps : goal.returns-then-row-end-clause-gaps
returns-then-row-end-clause-gaps c = let l : Limits = table_limits c.args.self.now.words in let at = goal.at.returns-then-row-end-clause-gaps c in
    let w = drawn_walked l c.args.stage c.args.unit _ c.try_row.new.row _ (view_of c.raise_low-then-row-end.new.seat) (view_of c.scan_behind-found.new.seat) c.scan_behind-found.result c.scan_behind-found.ensures.told in
    let long = c.told-gaps in let same = ap length c.loop-row.invariant.gaps in let few = c.args.self.now.words.places.valid.parts.1 in let count = parts at.After-low_at-mark in
    gaps_set c.args.stage c.args.self.now.places.limits.parts c.scan_behind-found.new.gap c.loop-row.gaps (view_of c.scan_behind-found.new.seat) (omega arith) c.scan_behind-found.ensures.gap
    (gaps_then at.After-low_at-mark c.loop-row.gaps _ _ (view_of c.scan_behind-found.new.seat) c.loop-row.invariant.gaps
    (walked_then l _ _ _ _ _ _ _ (walked_then l _ 1 _ _ _ _ _ (walked_then l _ _ _ _ _ _ _ (since at.After-try_row).walk c.in_default.ensures.told.walk) c.raise_low-then-row-end.ensures.looked.walk) w.1))

pub returns-then-row-end-clause-rests : goal.returns-then-row-end-clause-rests
returns-then-row-end-clause-rests c = let l : Limits = table_limits c.args.self.now.words in let at = goal.at.returns-then-row-end-clause-rests c in let t = c.in_default.ensures.told in let first = c.low_at-mark.ensures.acted in
    let x = view_of c.raise_low-then-row-end.new.seat in let y = view_of c.scan_behind-found.new.seat in
    let w = drawn_walked l c.args.stage c.args.unit _ c.try_row.new.row _ x y c.scan_behind-found.result c.scan_behind-found.ensures.told in
    let a = walked_then l _ 1 _ _ _ _ _ (walked_then l _ _ _ _ _ _ _ (since at.After-try_row).walk t.walk) c.raise_low-then-row-end.ensures.looked.walk in
    subst (λ p. SpareRests l c.args.stage c.args.end (slice_index c.raise_low-then-row-end.new.lows p) (view_of c.args.seat.now) y) (parts at.After-low_at-mark)
    (spare_behind l _ _ _ w.0 (view_of c.args.seat.now) x y (walked_then l 1 _ _ _ _ _ _ first.walk a) w.1 c.args.stage c.args.end _ (has_more _ _ first.step)
    (spare_rests l 1 _ _ (view_of c.args.seat.now) (view_of c.low_at-mark.new.seat) (view_of c.try_row.new.seat) x first a c.raise_low-then-row-end.ensures.seen
    c.args.stage c.args.self.now.places.limits.parts _ c.try_row.new.low c.try_row.new.row c.args.end (start at.After-part_rows ∙ sym (front at.After-part_rows)) c.raise_low-then-row-end.ensures.rests (stuck at.After-try_row _ _ t.walk) (inl c.if-low-row.true)))

pub returns-then-row-end-clause-told : goal.returns-then-row-end-clause-told
returns-then-row-end-clause-told c = let l : Limits = table_limits c.args.self.now.words in let s = try_steps in let P = PassedBy l c.args.stage in let W = passed_widens l c.args.stage in let i = c.loop-row.invariant in let from = i.from in let on = c.try_row.ensures.on.on in
    let at = goal.at.returns-then-row-end-clause-told c in let F : ℕ = c.part_rows.result + slice_index c.low_at-mark.new.lows c.args.self.now.places.limits.parts in let d : ℕ = c.loop-row.row - F in let k : ℕ = c.try_row.new.row - F in
    let low = above at.After-low_at-mark in let behind = front at.After-part_rows in let first = start at.After-part_rows in let top = c.requires.end.1 in
    let begun = begun_few l P W (d * s + s) F (k * s) c.try_row.new.row _ _ (rows_more d k s (omega arith)) (begun_on l P W (d * s) F s c.loop-row.row _ _ _ i.begun c.try_row.new.row from c.in_default.ensures.told) in
    let sought = sought_from l P W (k * s) (part_rows l) F c.try_row.new.row (view_of c.args.seat.now) (view_of c.low_at-mark.new.seat) (view_of c.try_row.new.seat) c.low_at-mark.ensures.acted begun
    (λ j from_on below. over_passed l c.args.stage (seen_by c.low_at-mark.new.seat) c.args.self.now.places.limits.parts (slice_index c.low_at-mark.new.lows c.args.self.now.places.limits.parts) j c.requires.stage.0 c.low_at-mark.ensures.low.1 (omega arith) (omega arith)) in
    let raised = sought_then l (1 + k * s) 1 (EachRow P (part_rows l) c.try_row.new.row) _ _ _ (λ a b g later each j p q. passed_widens l c.args.stage j a a b g (begins_refl a) later (each j p q)) sought c.raise_low-then-row-end.ensures.looked in
    let left : ℕ = BLOCK_ROWS * l.spare - slice_index c.args.lows.now l.parts in
    let room : (k + (c.args.end - c.try_row.new.row)) * s ≤ left * s = mul-le-mul_right s (omega arith) in let both = add-mul k (c.args.end - c.try_row.new.row) s in
    let v = view_of c.args.seat.now in let y = view_of c.scan_behind-found.new.seat in let n : ℕ = (1 + k * s) + 1 in let m : ℕ = (c.args.end - c.try_row.new.row) * s in
    spare_on l c.args.stage (2 + left * s) c.args.unit (part_rows l) c.args.end (rows_of l) v y c.scan_behind-found.result c.requires.end.2 (omega arith)
    (scan_behind l c.args.stage c.args.unit 0 (n + m) (2 + left * s) (part_rows l) c.args.end v v y c.scan_behind-found.result (omega arith) (looked_none l v c.requires.steady.steady)
    (scan_on l c.args.stage c.requires.stage.0 n m c.args.unit (part_rows l) c.try_row.new.row c.args.end v (view_of c.raise_low-then-row-end.new.seat) y c.scan_behind-found.result (omega arith) raised c.scan_behind-found.ensures.told))
