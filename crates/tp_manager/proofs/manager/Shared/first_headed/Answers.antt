use Rattle.std.proofs.Common.{◌≡◌, ◌⊎◌, ◌+◌, ◌-◌, ◌*◌, ◌<◌, ◌≤◌, ℕ, slice_index, ⊎_elim, inl, inr, refl, sym, ◌∙◌, ap, arith, subst, suc-mul}
use mathlib.Core.Logic.{dite}
use native.Mathlib.Decide.{dec_le}
use Rattle.tp_model.specs.declared.types.Limits.{Limits}
use Rattle.tp_model.specs.Steps.{part_rows}
use Rattle.tp_rule.specs.Tables.{table_limits}
use Rattle.tp_rule.specs.Views.{SeatShown, view_of}
use Rattle.tp_manager.specs.CallSteps.{Acted, Steady}
use Rattle.tp_manager.specs.Finds.{HasListed, PassedOver}
use Rattle.tp_manager.specs.Marks.{Remembers}
use Rattle.tp_manager.specs.Scans.{EachRow, Sought}
use Rattle.tp_manager.proofs.Calls.CallSteps.{remembers_kind, sought_by, sought_few}
use Rattle.tp_manager.proofs.Marks.Lows.{lows_inside}
use Rattle.tp_manager.proofs.Rows.Finds.{listed_more, listed_on, listed_sought, none_over, over_remembered, over_widens}
use Rattle.tp_manager.proofs.Rows.Seeks.{rows_more, sought_bare}
use Rattle.tp_manager.proofs.manager.Shared.first_headed.Goals as goal
use Rattle.tp_manager.proofs.manager.Shared.first_headed.Goals.{else-from-end, then-from-end+else-low-limits+else-not-is_bare_to, then-from-end+then-low-limits+else-part-last}

-- the later of two rows
abbrev IsLater : ℕ → ℕ → ℕ → Type 0
IsLater from first row = ((from ≤ row) × (first ≤ row)) × ((row ≡ from) ⊎ (row ≡ first))

later_of : (from first : ℕ) → (row : ℕ) × IsLater from first row
later_of from first = dite (dec_le first from) (λ past. (from, ((omega arith, past), inl refl))) (λ not. (first, ((omega arith, omega arith), inr refl)))

-- it is of the part where the first one is before the part's end
own : (from first rows row : ℕ) → IsLater from first row → from < first + rows → 0 < rows → row < first + rows
own from first rows row is less some = ⊎_elim (λ (e : row ≡ from). let r : row < first + rows = omega arith in r) (λ (e : row ≡ first). let r : row < first + rows = omega arith in r) is.1

-- so the next part goes on at its first row
next_is : (from end row : ℕ) → IsLater from end row → from < end → row ≡ end
next_is from end row is less = ⊎_elim (λ (e : row ≡ from). let low = is.0.1 in absurd (omega arith)) (λ e. e) is.1

-- or still at the one that is looked for
same_is : (from end row : ℕ) → IsLater from end row → end ≤ from → row ≡ from
same_is from end row is past = ⊎_elim (λ e. e) (λ (e : row ≡ end). let low = is.0.0 in let r : row ≡ from = omega arith in r) is.1

pub returns-then-part-last-clause-told : goal.returns-then-part-last-clause-told
returns-then-part-last-clause-told c = let l : Limits = table_limits c.args.self.now.words in let k : Limits = c.args.self.now.places.limits in let same : l ≡ k = c.args.self.now.same in let i = c.loop-part.invariant in let n = c.loop-part.part in
    let a : n * l.rows ≡ n * k.rows = ap (λ (z : Limits). n * z.rows) same in let b : l.rows ≡ k.rows = ap (λ (z : Limits). z.rows) same in
    let part : n < l.parts = subst (λ (z : Limits). n < z.parts) (sym same) c.loop-part-test.true in let begins = i.begins in let some = c.args.self.now.words.places.valid.rows.0 in
    let less = own c.args.from c.loop-part.first k.rows c.later.result (c.later.ensures.most, c.later.ensures.one) c.if-from-end.true (omega arith) in let most = c.later.ensures.most.1 in (
      (part, omega arith, omega arith),
      c.later.ensures.most.0,
      listed_more l n (n + (l.rows - slice_index c.args.lows.now n)) c.args.from c.later.result c.args.lows.now _ _ (omega arith) (i.listed c.later.result c.later.ensures.most c.later.ensures.one),
    )

pub returns-then-not-is_bare_to-clause-told : goal.returns-then-not-is_bare_to-clause-told
returns-then-not-is_bare_to-clause-told c = let l : Limits = table_limits c.args.self.now.words in let k : Limits = c.args.self.now.places.limits in let same : l ≡ k = c.args.self.now.same in let i = c.loop-part.invariant in let n = c.loop-part.part in let lows = c.args.lows.now in
    let low : ℕ = slice_index lows n in let v = view_of c.loop-part.seat in let w = view_of c.is_bare_to.new.seat in let row = c.later-then-not-is_bare_to.result in let is = c.later-then-not-is_bare_to.ensures in
    let a : n * l.rows ≡ n * k.rows = ap (λ (z : Limits). n * z.rows) same in let b : l.rows ≡ k.rows = ap (λ (z : Limits). z.rows) same in
    let part : n < l.parts = subst (λ (z : Limits). n < z.parts) (sym same) c.loop-part-test.true in let begins = i.begins in let left = c.if-low-limits.false in
    let most = lows_inside l lows 0 v i.steady.pass.1 i.steady.known i.remembers n part in let some : low < k.rows = omega arith in
    let less = own c.args.from c.loop-part.first k.rows row (is.most, is.one) c.if-from-end.true (omega arith) in let high = is.most.1 in
    let acted : Acted l 1 v w = c.is_bare_to.ensures.acted (λ e. omega arith) in (
      (part, omega arith, omega arith),
      is.most.0,
      inr (sought_few l (n + 1) (n + (l.rows - low)) (EachRow (PassedOver l) c.args.from row) _ _ (omega arith)
          (listed_sought l n 1 c.args.from row row lows (view_of c.args.seat.now) v w is.most.0 c.requires.remembers (i.listed row is.most is.one)
          (sought_by l 1 (EachRow (PassedOver l) row row) v w acted (λ j from below. absurd (omega arith))))),
    )

pub loop-part-preserved : goal.loop-part-preserved
loop-part-preserved c = let l : Limits = table_limits c.args.self.now.words in let k : Limits = c.args.self.now.places.limits in let same : l ≡ k = c.args.self.now.same in let i = c.loop-part.invariant in let n = c.loop-part.part in let lows = c.args.lows.now in
    let next = suc-mul n k.rows in let begins = i.begins in let from : ℕ = c.args.from in let first : ℕ = c.loop-part.first in
    let a : n * l.rows ≡ n * k.rows = ap (λ (z : Limits). n * z.rows) same in let b : l.rows ≡ k.rows = ap (λ (z : Limits). z.rows) same in
    let part : n < l.parts = subst (λ (z : Limits). n < z.parts) (sym same) c.loop-part-test.true in
    let end : n * l.rows + l.rows ≤ part_rows l = rows_more n l.parts l.rows part in
    let goes_on : first + k.rows ≡ (n + 1) * k.rows = omega arith in let to : first + k.rows ≡ n * l.rows + l.rows = omega arith in
    let is = later_of from first in let row : ℕ = is.0 in let low_row = is.1.0.1 in let from_on = is.1.0.0 in let old : HasListed l n from row lows (view_of c.args.seat.now) (view_of c.loop-part.seat) = i.listed row is.1.0 is.1.1 in
    elim c.if-from-end.branch [
      | then-from-end+else-low-limits+else-not-is_bare_to w ↦
          let left = w.if-low-limits.false in let low : ℕ = slice_index lows n in let v = view_of c.loop-part.seat in let y = view_of w.is_bare_to.new.seat in
          let bare = w.is_bare_to.ensures.bare w.if-not-is_bare_to.false in
          let one : Sought l 1 (EachRow (PassedOver l) row (n * l.rows + l.rows)) v y = sought_bare l (PassedOver l) (over_widens l) row (first + low) (n * l.rows + l.rows) v y bare.0 (none_over l)
          (λ j on below. over_remembered l lows n j 1 bare.0.marks v y i.remembers bare.0.walk (omega arith) (omega arith)) bare.1 in record {
            begins = goes_on;
            inside = i.inside;
            same = ap (λ (z : SeatShown). z.table) w.seat-is ∙ (w.is_bare_to.ensures.same ∙ i.same);
            steady = subst (λ (z : SeatShown). Steady l (view_of z)) (sym w.seat-is) bare.0.walk.steady;
            remembers = subst (λ (z : SeatShown). Remembers 0 (view_of z) lows) (sym w.seat-is) (remembers_kind 0 lows l 1 bare.0.marks v y bare.0.walk i.remembers);
            listed = λ r most which. let at : r ≡ n * l.rows + l.rows = next_is from (first + k.rows) r (most, which) w.if-from-end.true ∙ to in
                inr (subst (λ (z : ℕ × SeatShown). Sought l (n + 1) (EachRow (PassedOver l) from z.0) (view_of c.args.seat.now) (view_of z.1)) (λ j. (sym at j, sym w.seat-is j))
                (listed_sought l n 1 from row (n * l.rows + l.rows) lows (view_of c.args.seat.now) v y from_on c.requires.remembers old one));
          }
      | then-from-end+then-low-limits+else-part-last w ↦
          let finished = w.if-low-limits.true in let other = w.if-part-last.false in
          let count : l.parts ≡ k.parts = ap (λ (z : Limits). z.parts) same in
          let some = c.args.self.now.words.places.valid.rows.0 in let after : n + 1 < l.parts = omega arith in
          let room = rows_more (n + 1) l.parts l.rows after in let next' = suc-mul n l.rows in
          let done : slice_index lows n ≡ l.rows = omega arith in record {
            begins = goes_on;
            inside = i.inside;
            same = ap (λ (z : SeatShown). z.table) w.seat-is ∙ i.same;
            steady = subst (λ (z : SeatShown). Steady l (view_of z)) (sym w.seat-is) i.steady;
            remembers = subst (λ (z : SeatShown). Remembers 0 (view_of z) lows) (sym w.seat-is) i.remembers;
            listed = λ r most which. let at : r ≡ n * l.rows + l.rows = next_is from (first + k.rows) r (most, which) w.if-from-end.true ∙ to in
                subst (λ (z : ℕ × SeatShown). HasListed l (n + 1) from z.0 lows (view_of c.args.seat.now) (view_of z.1)) (λ j. (sym at j, sym w.seat-is j))
                (listed_on l n (n + 1) from row n lows lows _ _ (omega arith) i.steady i.remembers (omega arith) done done (omega arith) old);
          }
      | else-from-end w ↦
          let past = w.if-from-end.false in let some = c.args.self.now.words.places.valid.rows.0 in record {
            begins = goes_on;
            inside = i.inside;
            same = ap (λ (z : SeatShown). z.table) w.seat-is ∙ i.same;
            steady = subst (λ (z : SeatShown). Steady l (view_of z)) (sym w.seat-is) i.steady;
            remembers = subst (λ (z : SeatShown). Remembers 0 (view_of z) lows) (sym w.seat-is) i.remembers;
            listed = λ r most which. let at : r ≡ from = same_is from (first + k.rows) r (most, which) (omega arith) in
                subst (λ (z : ℕ × SeatShown). HasListed l (n + 1) from z.0 lows (view_of c.args.seat.now) (view_of z.1)) (λ j. (sym at j, sym w.seat-is j))
                (listed_more l n (n + 1) from from lows _ _ (omega arith) (i.listed from (omega arith, omega arith) (inl refl)));
          }
    ]
