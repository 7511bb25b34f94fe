use Rattle.std.proofs.Common.{◌≡◌, ◌+◌, ◌-◌, ◌*◌, ◌<◌, ◌≤◌, ℕ, List, slice_index, inr, sym, ◌∙◌, ap, arith, subst, suc-mul}
use Rattle.tp_model.specs.declared.types.Limits.{Limits}
use Rattle.tp_rule.specs.Tables.{table_limits}
use Rattle.tp_rule.specs.Views.{SeatShown, view_of}
use Rattle.tp_manager.specs.Bounds.{error_steps, listed_steps, scan_steps}
use Rattle.tp_manager.specs.Finds.{PassedOver, parts_walk}
use Rattle.tp_manager.specs.Marks.{Remembers}
use Rattle.tp_manager.specs.Scans.{EachRow, Sought}
use Rattle.tp_manager.specs.Shown.{NoneFalls}
use Rattle.tp_manager.proofs.Marks.Lows.{rises_then, scan_next, scan_rises}
use Rattle.tp_manager.proofs.Calls.CallSteps.{sought_few}
use Rattle.tp_manager.proofs.Rows.Finds.{over_on, over_widens}
use Rattle.tp_manager.proofs.Rows.Seeks.{begun_sought, rows_more}
use Rattle.tp_manager.proofs.manager.Shared.find_in_parts.Goals as goal
use Rattle.tp_manager.proofs.manager.Shared.find_in_parts.Goals.{else-lows-part+else-part-last, then-lows-part+in_default-find_in_part}

-- what the next part costs, by what was remembered at first
abbrev part_cost : Limits → List ℕ → ℕ → ℕ
part_cost l lows n = 2 + (l.rows - slice_index lows n) * listed_steps

-- what those before it have cost
abbrev gone : Limits → List ℕ → ℕ → ℕ → ℕ
gone l lows begin n = 2 + (l.rows - slice_index lows begin) * error_steps + (scan_steps l listed_steps 2 lows n - scan_steps l listed_steps 2 lows (begin + 1))

on : (l : Limits) (lows : List ℕ) (begin n : ℕ) → begin + 1 ≤ n → gone l lows begin n + part_cost l lows n ≤ gone l lows begin (n + 1)
on l lows begin n past = let next = scan_next l lows listed_steps 2 n in let up = scan_rises l lows listed_steps 2 (begin + 1) n past in omega arith

pub returns-in-Some-find_in_part-clause-told : goal.returns-in-Some-find_in_part-clause-told
returns-in-Some-find_in_part-clause-told c = let l : Limits = table_limits c.args.self.now.words in let k : Limits = c.args.self.now.places.limits in let same : l ≡ k = c.args.self.now.same in let i = c.loop-part.invariant in let n = c.loop-part.part in let lows = c.args.lows.now in let begin = c.args.begin in
    let told = c.in-Some-find_in_part.ensures.told in let low = told.0 in let high = told.1 in let id = c.in-Some-find_in_part.id in
    let a : n * l.rows ≡ n * k.rows = ap (λ (z : Limits). n * z.rows) same in let begins = i.begins in let past = i.behind in
    let part : n < l.parts = subst (λ (z : Limits). n < z.parts) (sym same) c.loop-part-test.true in
    let end = rows_more n l.parts l.rows part in let room = rows_more begin n l.rows (omega arith) in let start = c.requires.from.2 in
    let from_on : c.args.from ≤ c.loop-part.first = omega arith in let cost = on l lows begin n past in let all = scan_rises l lows listed_steps 2 (n + 1) l.parts (omega arith) in (
      omega arith,
      omega arith,
      told.2,
      sought_few l (gone l lows begin n + part_cost l lows n) (parts_walk l lows begin) (EachRow (PassedOver l) c.args.from id) _ _ (omega arith)
          (begun_sought l (PassedOver l) (over_widens l) (gone l lows begin n) c.args.from (part_cost l lows n) c.loop-part.first (view_of c.args.seat.now) (view_of c.loop-part.seat) (view_of c.find_in_part.new.seat) (inr i.sought) id from_on
          (subst (λ m. Sought l (2 + (l.rows - m) * listed_steps) (EachRow (PassedOver l) c.loop-part.first id) (view_of c.loop-part.seat) (view_of c.find_in_part.new.seat)) (i.rest n (omega arith)) told.3)),
    )

pub loop-part-preserved : goal.loop-part-preserved
loop-part-preserved c = let l : Limits = table_limits c.args.self.now.words in let k : Limits = c.args.self.now.places.limits in let same : l ≡ k = c.args.self.now.same in let i = c.loop-part.invariant in let n = c.loop-part.part in let lows = c.args.lows.now in let begin = c.args.begin in let P = PassedOver l in
    let a : n * l.rows ≡ n * k.rows = ap (λ (z : Limits). n * z.rows) same in let b : l.rows ≡ k.rows = ap (λ (z : Limits). z.rows) same in let begins = i.begins in let past = i.behind in let next = suc-mul n k.rows in
    let room = rows_more begin n l.rows (omega arith) in let start = c.requires.from.2 in let from_on : c.args.from ≤ c.loop-part.first = omega arith in
    let to : c.loop-part.first + k.rows ≡ n * l.rows + l.rows = omega arith in let goes_on : c.loop-part.first + k.rows ≡ (n + 1) * k.rows = omega arith in
    let cost = on l lows begin n past in
    elim c.if-lows-part.branch [
      | then-lows-part+in_default-find_in_part w ↦
          let found = w.find_in_part.ensures in let told = w.in_default-find_in_part.ensures.told in record {
            behind = omega arith;
            begins = goes_on;
            same = ap (λ (z : SeatShown). z.table) w.seat-is ∙ (found.same ∙ i.same);
            remembers = subst (λ (z : SeatShown × List ℕ). Remembers 0 (view_of z.0) z.1) (λ j. (sym w.seat-is j, sym w.lows-is j)) found.remembers;
            rises = subst (NoneFalls lows) (sym w.lows-is) (rises_then lows c.loop-part.lows _ i.rises found.lows.0);
            rest = λ q low. ap (λ z. slice_index z q) w.lows-is ∙ (found.lows.1 q (λ is. absurd (omega arith)) ∙ i.rest q (omega arith));
            sought = sought_few l (gone l lows begin n + part_cost l lows n) (gone l lows begin (n + 1)) (EachRow P c.args.from (c.loop-part.first + k.rows)) _ _ cost
                (subst (λ (z : ℕ × SeatShown). Sought l (gone l lows begin n + part_cost l lows n) (EachRow P c.args.from z.0) (view_of c.args.seat.now) (view_of z.1)) (λ j. (sym to j, sym w.seat-is j))
                (begun_sought l P (over_widens l) (gone l lows begin n) c.args.from (part_cost l lows n) c.loop-part.first (view_of c.args.seat.now) (view_of c.loop-part.seat) (view_of w.find_in_part.new.seat) (inr i.sought) (n * l.rows + l.rows) from_on
                (subst (λ m. Sought l (2 + (l.rows - m) * listed_steps) (EachRow P c.loop-part.first (n * l.rows + l.rows)) (view_of c.loop-part.seat) (view_of w.find_in_part.new.seat)) (i.rest n (omega arith)) told)));
          }
      | else-lows-part+else-part-last w ↦
          let finished = w.if-lows-part.false in let done : slice_index c.loop-part.lows n ≡ l.rows = omega arith in record {
            behind = omega arith;
            begins = goes_on;
            same = ap (λ (z : SeatShown). z.table) w.seat-is ∙ i.same;
            remembers = subst (λ (z : SeatShown × List ℕ). Remembers 0 (view_of z.0) z.1) (λ j. (sym w.seat-is j, sym w.lows-is j)) i.remembers;
            rises = subst (NoneFalls lows) (sym w.lows-is) i.rises;
            rest = λ q low. ap (λ z. slice_index z q) w.lows-is ∙ i.rest q (omega arith);
            sought = sought_few l (gone l lows begin n) (gone l lows begin (n + 1)) (EachRow P c.args.from (c.loop-part.first + k.rows)) _ _ (omega arith)
                (subst (λ (z : ℕ × SeatShown). Sought l (gone l lows begin n) (EachRow P c.args.from z.0) (view_of c.args.seat.now) (view_of z.1)) (λ j. (sym to j, sym w.seat-is j))
                (over_on l (gone l lows begin n) c.args.from c.loop-part.first n c.loop-part.lows (view_of c.args.seat.now) (view_of c.loop-part.seat) i.sought.walk.steady i.remembers (omega arith) done i.sought));
          }
    ]
