use Rattle.std.proofs.Common.{◌≡◌, ◌⊎◌, ◌+◌, ◌-◌, ◌*◌, ◌<◌, ◌≤◌, ℕ, ap, sym, subst, refl, inl, inr, ⊎_elim, arith, rules, mul-le-mul_right}
use Rattle.tp_model.specs.declared.types.Limits.{Limits}
use Rattle.tp_rule.specs.Tables.{table_limits}
use Rattle.tp_rule.specs.Views.{seen_by, view_of}
use Rattle.tp_manager.specs.Bounds.{drawn_steps, try_steps}
use Rattle.tp_manager.specs.CallSteps.{Looked}
use Rattle.tp_manager.specs.Scans.{EachRow, PassedBy}
use Rattle.tp_manager.proofs.Marks.Lows.{drawn_one}
use Rattle.tp_manager.proofs.Calls.Passes.{drawn_walked}
use Rattle.tp_manager.proofs.Claims.Scans.{none_passed, passed_widens, took_few, took_from, took_then}
use Rattle.tp_manager.proofs.Rows.Seeks.{begun_few, begun_looked, begun_on, rows_more, sought_up}
use Rattle.tp_manager.proofs.Calls.CallSteps.{sought_few}
use mathlib.Core.Logic.{dite}
use native.Mathlib.Decide.{dec_le}
use Rattle.tp_model.specs.declared.types.TheConstants.{BLOCK_ROWS}
use Rattle.tp_model.specs.Steps.{part_rows}
use Rattle.tp_rule.specs.declared.view.View.{View}
use Rattle.tp_manager.specs.Leans.{IsLeanAt, IsLeanWithin}
use Rattle.tp_manager.proofs.Claims.Leans.{lean_row, lean_start}
use Rattle.tp_manager.proofs.Claims.LeanTurns.{lean_late, lean_nowhere, lean_span}
use Rattle.tp_manager.proofs.manager.Shared.scan_block_span.Goals as goal
use Rattle.tp_manager.proofs.manager.Shared.scan_block_span.Goals.{After-earlier-end, After-loop-row, After-try_row}

-- the steps at the rows, after the load of the counter
since : (c : After-loop-row) → Looked (table_limits c.args.self.now.words) (c.loop-row.invariant.begun.0 * try_steps) (view_of c.blocks_end.new.seat) (view_of c.loop-row.seat)
since c = let l : Limits = table_limits c.args.self.now.words in
    begun_looked l (PassedBy l c.args.stage) (passed_widens l c.args.stage) _ _ c.loop-row.row _ _ c.loop-row.invariant.begun.3 c.in-Some.ensures.told.1.walk.steady

-- the rows end where the blocks do, or before
abbrev IsEarlier : ℕ → ℕ → ℕ → Type 0
IsEarlier r a b = ((r ≡ a) × (a ≤ b)) ⊎ ((r ≡ b) × (b < a))

earlier_near : (r a b : ℕ) → IsEarlier r a b → (r ≤ a) × (r ≤ b) × ((n : ℕ) → r ≤ n → n < b → a ≤ n)
earlier_near r a b o = ⊎_elim (λ t. (let e = t.0 in let le = t.1 in (omega arith, omega arith, λ n p q. omega arith))) (λ t. (let e = t.0 in let le = t.1 in (omega arith, omega arith, λ n p q. omega arith))) o

pub loop-row-init : goal.loop-row-init
loop-row-init c = let span = c.requires.span in let a = span.1 in let b = span.2 in record {
  same = refl;
  from = omega arith;
  inside = omega arith;
  low = omega arith;
  lean = (0, omega arith, omega arith, lean_start (table_limits c.args.self.now.words) c.args.stage c.args.from (view_of c.blocks_end.new.seat));
  begun = (0, omega arith, omega arith, inl (refl, refl));
}

pub returns-in-Some-try_row-clause-drawn : goal.returns-in-Some-try_row-clause-drawn
returns-in-Some-try_row-clause-drawn c = let l : Limits = table_limits c.args.self.now.words in let a = begun_looked l (PassedBy l c.args.stage) (passed_widens l c.args.stage) (c.loop-row.invariant.begun.0 * try_steps) c.args.from c.loop-row.row (view_of c.blocks_end.new.seat) (view_of c.loop-row.seat) c.loop-row.invariant.begun.3 c.in-Some.ensures.told.1.walk.steady in
    drawn_walked l _ _ _ _ c.blocks_end.new.drawn a.walk.steady.pass.1 c.in-Some-try_row.ensures.told.0.walk (drawn_walked l _ _ _ _ c.blocks_end.new.drawn c.in-Some.ensures.told.1.walk.steady.pass.1 a.walk c.blocks_end.ensures.drawn)

pub returns-in-Some-try_row-clause-told : goal.returns-in-Some-try_row-clause-told
returns-in-Some-try_row-clause-told c = let l : Limits = table_limits c.args.self.now.words in let s = try_steps in let t = c.in-Some-try_row.taken in let b = c.loop-row.invariant.begun in let k : ℕ = b.0 in let x = b.1 in
    let load = c.in-Some.ensures.told in let from = c.loop-row.invariant.from in let less = c.loop-row-test.true in let end = (earlier_near c.earlier-end.result c.in-Some.drawn_end c.args.to c.earlier-end.ensures).1 in
    let one = drawn_one l.spare load.0 in let room : k * s + s ≤ (c.args.to - c.args.from) * s = rows_more k (c.args.to - c.args.from) s (omega arith) in (
      took_few l c.args.stage c.args.unit t.attempt t.element (1 + (k * s + s)) (drawn_steps l.spare + (c.args.to - c.args.from) * s) c.args.from _ _ (omega arith)
          (took_from l c.args.stage c.args.unit t.attempt t.element (k * s + s) c.args.from c.args.from _ _ _ (omega arith) load.1 (λ j low high. absurd (omega arith))
          (took_then l c.args.stage c.args.unit t.attempt t.element (k * s) s c.args.from c.loop-row.row _ _ _ from b.3 c.in-Some-try_row.ensures.told.0)),
      c.in-Some-try_row.ensures.told.1,
    )

-- the rows up to this one, and this one
lean : (c : After-try_row) → IsLeanAt (table_limits c.args.self.now.words) c.args.stage 0 c.args.from (c.loop-row.row + 1 - c.args.from) (view_of c.blocks_end.new.seat) (view_of c.try_row.new.seat)
lean c = let t = c.loop-row.invariant.lean in lean_row (table_limits c.args.self.now.words) c.args.stage c.args.from t.0 c.loop-row.row _ _ _ c.loop-row.invariant.from t.1 t.3 c.try_row.ensures.lean

-- the load of the counter, and then the first rows of those that are drawn
counted : (c : After-earlier-end) (k : ℕ) (y : View) → (k ≡ 0) ⊎ (c.args.from + k ≤ c.earlier-end.result) → IsLeanAt (table_limits c.args.self.now.words) c.args.stage 0 c.args.from k (view_of c.blocks_end.new.seat) y
    → IsLeanWithin (table_limits c.args.self.now.words) c.args.stage (drawn_steps (table_limits c.args.self.now.words).spare) (part_rows (table_limits c.args.self.now.words)) (BLOCK_ROWS * c.blocks_end.new.drawn) c.args.from c.args.to (view_of c.args.seat.now) y
counted c k y le a = let l : Limits = table_limits c.args.self.now.words in let load = c.in-Some.ensures.told in let one = drawn_one l.spare load.0 in let low = c.requires.span.0 in let w = view_of c.blocks_end.new.seat in
    let near = earlier_near c.earlier-end.result c.in-Some.drawn_end c.args.to c.earlier-end.ensures in let under = near.0 in let before = near.1 in let e = c.in-Some.ensures.end in
    lean_late l c.args.stage 1 (part_rows l) (BLOCK_ROWS * c.blocks_end.new.drawn) 0 (drawn_steps l.spare) c.args.from c.args.to _ (view_of c.args.seat.now) w y (omega arith) load.1.walk
    (⊎_elim
    (λ none. lean_nowhere l c.args.stage 0 c.args.from k 0 (part_rows l) (BLOCK_ROWS * c.blocks_end.new.drawn) c.args.from c.args.to w y (omega arith) none a)
    (λ top. lean_span l c.args.stage 0 c.args.from k 0 (part_rows l) (BLOCK_ROWS * c.blocks_end.new.drawn) c.args.from c.args.to w y (omega arith) low (omega arith) (omega arith) (inl (omega arith)) a) le)

pub returns-in-Some-try_row-clause-lean : goal.returns-in-Some-try_row-clause-lean
returns-in-Some-try_row-clause-lean c = let at = goal.at.returns-in-Some-try_row-clause-lean c in let from = c.loop-row.invariant.from in let less = c.loop-row-test.true in
    counted at.After-earlier-end (c.loop-row.row + 1 - c.args.from) (view_of c.try_row.new.seat) (inr (omega arith)) (lean at.After-try_row)

pub returns-clause-lean : goal.returns-clause-lean
returns-clause-lean c = let t = c.loop-row.invariant.lean in let k : ℕ = t.0 in let le = t.2 in
    counted (goal.at.returns-clause-lean c).After-earlier-end k (view_of c.loop-row.seat) (dite (dec_le c.args.from c.earlier-end.result) (λ inside. inr (omega arith)) (λ out. inl (omega arith))) t.3

pub returns-in_default-clause-lean : goal.returns-in_default-clause-lean
returns-in_default-clause-lean c = let l : Limits = table_limits c.args.self.now.words in
    subst (λ z. IsLeanWithin l c.args.stage (drawn_steps l.spare) (part_rows l) (BLOCK_ROWS * c.blocks_end.new.drawn) c.args.from c.args.to (view_of c.args.seat.now) z) (sym (ap view_of c.in_default.ensures.told.1))
    (lean_nowhere l c.args.stage 0 c.args.from 0 (drawn_steps l.spare) (part_rows l) (BLOCK_ROWS * c.blocks_end.new.drawn) c.args.from c.args.to _ _ (omega arith) refl (lean_start l c.args.stage c.args.from (view_of c.args.seat.now)))

pub loop-row-preserved : goal.loop-row-preserved
loop-row-preserved c = let l : Limits = table_limits c.args.self.now.words in let P = PassedBy l c.args.stage in let s = try_steps in let i = c.loop-row.invariant in let b = i.begun in let k : ℕ = b.0 in let x = b.1 in let on = c.try_row.ensures.on.on in let from_on = i.from in
    let less = c.loop-row-test.true in let end = (earlier_near c.earlier-end.result c.in-Some.drawn_end c.args.to c.earlier-end.ensures).1 in record {
      same = search rules;
      from = omega arith;
      inside = c.try_row.ensures.on.inside;
      low = c.try_row.ensures.low.0;
      lean = (c.loop-row.row + 1 - c.args.from, omega arith, omega arith, lean (goal.at.loop-row-preserved c).After-try_row);
      begun = (
        k + 1,
        omega arith,
        omega arith,
        begun_few l P (passed_widens l c.args.stage) (k * s + s) c.args.from ((k + 1) * s) c.try_row.new.row _ _ (rows_more k (k + 1) s (omega arith))
            (begun_on l P (passed_widens l c.args.stage) (k * s) c.args.from s c.loop-row.row _ _ _ b.3 c.try_row.new.row from_on c.in_default-try_row.ensures.told),
      );
    }

pub returns-clause-drawn : goal.returns-clause-drawn
returns-clause-drawn c = let l : Limits = table_limits c.args.self.now.words in
    drawn_walked l _ _ _ _ c.blocks_end.new.drawn c.in-Some.ensures.told.1.walk.steady.pass.1 (since (goal.at.returns-clause-drawn c).After-loop-row).walk c.blocks_end.ensures.drawn

pub returns-clause-told : goal.returns-clause-told
returns-clause-told c = let l : Limits = table_limits c.args.self.now.words in let P = PassedBy l c.args.stage in let s = try_steps in let i = c.loop-row.invariant in let b = i.begun in let k : ℕ = b.0 in let most = b.2 in
    let load = c.in-Some.ensures.told in let one = drawn_one l.spare load.0 in let past = c.loop-row-test.false in let end = (earlier_near c.earlier-end.result c.in-Some.drawn_end c.args.to c.earlier-end.ensures).2 in let top = c.requires.span.2 in
    let few : k * s ≤ (c.args.to - c.args.from) * s = mul-le-mul_right s most in
    inr (sought_few l (1 + k * s) (drawn_steps l.spare + (c.args.to - c.args.from) * s) (EachRow P c.args.from c.args.to) _ _ (omega arith)
    (sought_up l P (passed_widens l c.args.stage) (k * s) c.args.from c.loop-row.row c.args.to _ _ _ load.1 b.3 (λ j low high. none_passed l c.args.stage j (seen_by c.blocks_end.new.seat) (load.4 j (end j (omega arith) high) (omega arith)))))
