use Rattle.std.proofs.Common.{rules, ◌≡◌, ◌+◌, ◌-◌, ◌*◌, ℕ, ⊎_elim, subst, refl, inl, arith}
use Rattle.tp_model.specs.declared.types.Limits.{Limits}
use Rattle.tp_rule.specs.Tables.{table_limits}
use Rattle.tp_rule.specs.Views.{seen_by, view_of}
use Rattle.tp_manager.specs.Bounds.{try_steps}
use Rattle.tp_manager.specs.Leans.{IsLeanAt}
use Rattle.tp_manager.specs.CallSteps.{Looked}
use Rattle.tp_manager.specs.Scans.{Begun, PassedBy}
use Rattle.tp_manager.proofs.Claims.Behind.{begun_both}
use Rattle.tp_manager.proofs.Claims.Leans.{lean_apart, lean_last, lean_less, lean_start}
use Rattle.tp_manager.proofs.Claims.Runs.{of_later}
use Rattle.tp_manager.proofs.Claims.Scans.{passed_widens, took_few, took_then}
use Rattle.tp_manager.proofs.Calls.CallSteps.{looked_begins}
use Rattle.tp_manager.proofs.Rows.Seeks.{begun_few, begun_looked, begun_on}
use Rattle.tp_manager.proofs.manager.Shared.scan_born.Goals as goal
use Rattle.tp_manager.proofs.manager.Shared.scan_born.Goals.{After-past_parked-row, After-take_born}

-- the rows up to this one
begun : (c : After-past_parked-row) → Begun (table_limits c.args.self.now.words) (PassedBy (table_limits c.args.self.now.words) c.args.stage) ((c.loop-row.row - c.args.from) * try_steps + (c.past_parked-row.result - c.loop-row.row + 1)) c.args.from c.past_parked-row.result (view_of c.args.seat.now) (view_of c.past_parked-row.new.seat)
begun c = let l : Limits = table_limits c.args.self.now.words in let i = c.loop-row.invariant in
    begun_both l (PassedBy l c.args.stage) (passed_widens l c.args.stage) ((c.loop-row.row - c.args.from) * try_steps) (c.past_parked-row.result - c.loop-row.row + 1) c.args.from c.loop-row.row c.past_parked-row.result _ _ _ i.from i.begun c.past_parked-row.ensures.told

gone : (c : After-past_parked-row) → Looked (table_limits c.args.self.now.words) ((c.loop-row.row - c.args.from) * try_steps + (c.past_parked-row.result - c.loop-row.row + 1)) (view_of c.args.seat.now) (view_of c.past_parked-row.new.seat)
gone c = let l : Limits = table_limits c.args.self.now.words in begun_looked l (PassedBy l c.args.stage) (passed_widens l c.args.stage) _ c.args.from c.past_parked-row.result _ _ (begun c) c.requires.steady.steady

-- what they cost, and a look more where there is a row behind them
lean : (c : After-past_parked-row) → IsLeanAt (table_limits c.args.self.now.words) c.args.stage 1 c.args.from (c.past_parked-row.result - c.args.from) (view_of c.args.seat.now) (view_of c.past_parked-row.new.seat)
lean c = let l : Limits = table_limits c.args.self.now.words in let i = c.loop-row.invariant in let up = i.from in let r = c.past_parked-row.ensures.row.0 in let row : ℕ = c.loop-row.row in let n : ℕ = c.past_parked-row.result in
    ⊎_elim (λ a. lean_apart l c.args.stage 0 c.args.from (row - c.args.from) 0 row (n - row) 1 c.args.from (n - c.args.from) _ _ _ (omega arith) (omega arith) (omega arith) (omega arith) i.lean a)
    (λ a. lean_apart l c.args.stage 0 c.args.from (row - c.args.from) 1 row (n - row) 1 c.args.from (n - c.args.from) _ _ _ (omega arith) (omega arith) (omega arith) (omega arith) i.lean a.1) c.past_parked-row.ensures.lean

pub loop-row-init : goal.loop-row-init
loop-row-init c = let up = c.requires.rows.0 in let none : c.args.from - c.args.from ≡ 0 = omega arith in record {
  same = refl;
  from = omega arith;
  top = up;
  lean = lean_less (table_limits c.args.self.now.words) c.args.stage 0 c.args.from 0 0 c.args.from (c.args.from - c.args.from) _ _ (omega arith) (omega arith) (omega arith) (lean_start (table_limits c.args.self.now.words) c.args.stage c.args.from (view_of c.args.seat.now));
  begun = inl (refl, refl);
}

pub returns-then-row-to-clause-lean : goal.returns-then-row-to-clause-lean
returns-then-row-to-clause-lean c = let l : Limits = table_limits c.args.self.now.words in let i = c.loop-row.invariant in let up = i.from in let less = c.loop-row-test.true in let end = c.if-row-to.true in let r = c.past_parked-row.ensures.row.0 in let row : ℕ = c.loop-row.row in let n : ℕ = c.past_parked-row.result in
    ⊎_elim (λ a. lean_apart l c.args.stage 0 c.args.from (row - c.args.from) 0 row (n - row) 0 c.args.from (c.args.to - c.args.from) _ _ _ (omega arith) (omega arith) (omega arith) (omega arith) i.lean a)
    (λ a. absurd (let out = a.0 in omega arith)) c.past_parked-row.ensures.lean

pub returns-then-row-to-clause-told : goal.returns-then-row-to-clause-told
returns-then-row-to-clause-told c = let l : Limits = table_limits c.args.self.now.words in let i = c.loop-row.invariant in let up = i.from in let less = c.loop-row-test.true in let end = c.if-row-to.true in let r = c.past_parked-row.ensures.row.0 in
    subst (λ z. Begun l (PassedBy l c.args.stage) ((c.args.to - c.args.from) * try_steps) c.args.from z (view_of c.args.seat.now) (view_of c.past_parked-row.new.seat)) end
    (begun_few l (PassedBy l c.args.stage) (passed_widens l c.args.stage) _ c.args.from ((c.args.to - c.args.from) * try_steps) c.past_parked-row.result _ _ (omega arith) (begun (goal.at.returns-then-row-to-clause-told c).After-past_parked-row))

pub take_born-requires-clause-born : goal.take_born-requires-clause-born
take_born-requires-clause-born c = let l : Limits = table_limits c.args.self.now.words in let i = c.loop-row.invariant in let up = i.from in let r = c.past_parked-row.ensures.row in let low = r.0 in let high = r.1 in
    of_later c.args.stage (seen_by c.args.seat.now) (seen_by c.past_parked-row.new.seat) c.args.from c.args.to (looked_begins l _ _ _ (gone (goal.at.take_born-requires-clause-born c).After-past_parked-row)) c.requires.born c.past_parked-row.result (omega arith) (let not = c.if-row-to.false in omega arith)

-- and what the row behind them costs
whole : (c : After-take_born) → IsLeanAt (table_limits c.args.self.now.words) c.args.stage 1 c.args.from (c.past_parked-row.result - c.args.from) (view_of c.args.seat.now) (view_of c.past_parked-row.new.seat) → IsLeanAt (table_limits c.args.self.now.words) c.args.stage 0 c.args.from (c.past_parked-row.result - c.args.from + 1) (view_of c.args.seat.now) (view_of c.take_born.new.seat)
whole c a = let up = c.loop-row.invariant.from in let low = c.past_parked-row.ensures.row.0 in lean_last (table_limits c.args.self.now.words) c.args.stage c.args.from (c.past_parked-row.result - c.args.from) c.past_parked-row.result _ _ _ (omega arith) a c.take_born.ensures.lean

pub returns-in-Some-clause-lean : goal.returns-in-Some-clause-lean
returns-in-Some-clause-lean c = let at = goal.at.returns-in-Some-clause-lean c in let id = c.in-Some.ensures.inside in let up = c.loop-row.invariant.from in let low = c.past_parked-row.ensures.row.0 in
    lean_less (table_limits c.args.self.now.words) c.args.stage 0 c.args.from (c.past_parked-row.result - c.args.from + 1) 0 c.args.from (c.in-Some.taken.element.id + 1 - c.args.from) _ _ (omega arith) (omega arith) (omega arith) (whole at.After-take_born (lean at.After-past_parked-row))

pub returns-in-Some-clause-told : goal.returns-in-Some-clause-told
returns-in-Some-clause-told c = let l : Limits = table_limits c.args.self.now.words in let s = try_steps in let i = c.loop-row.invariant in let up = i.from in let r = c.past_parked-row.ensures.row in let low = r.0 in let high = r.1 in let not = c.if-row-to.false in let t = c.in-Some.taken in
    let n : ℕ = (c.loop-row.row - c.args.from) * s + (c.past_parked-row.result - c.loop-row.row + 1) in (
      took_few l c.args.stage c.args.unit t.attempt t.element (n + (s - 1)) ((c.args.to - c.args.from) * s) c.args.from _ _ (omega arith)
          (took_then l c.args.stage c.args.unit t.attempt t.element n (s - 1) c.args.from c.past_parked-row.result _ _ _ (omega arith) (begun (goal.at.returns-in-Some-clause-told c).After-past_parked-row) c.in-Some.ensures.told.0),
      c.in-Some.ensures.told.1,
    )

pub loop-row-preserved : goal.loop-row-preserved
loop-row-preserved c = let l : Limits = table_limits c.args.self.now.words in let P = PassedBy l c.args.stage in let s = try_steps in let at = goal.at.loop-row-preserved c in let up = c.loop-row.invariant.from in let r = c.past_parked-row.ensures.row in let low = r.0 in let high = r.1 in let not = c.if-row-to.false in
    let n : ℕ = (c.loop-row.row - c.args.from) * s + (c.past_parked-row.result - c.loop-row.row + 1) in record {
      same = search rules;
      from = omega arith;
      top = omega arith;
      lean = lean_less l c.args.stage 0 c.args.from (c.past_parked-row.result - c.args.from + 1) 0 c.args.from (c.past_parked-row.result + 1 - c.args.from) _ _ (omega arith) (omega arith) (omega arith) (whole at.After-take_born (lean at.After-past_parked-row));
      begun = begun_few l P (passed_widens l c.args.stage) (n + (s - 1)) c.args.from ((c.past_parked-row.result + 1 - c.args.from) * s) (c.past_parked-row.result + 1) _ _ (omega arith)
          (begun_on l P (passed_widens l c.args.stage) n c.args.from (s - 1) c.past_parked-row.result _ _ _ (begun at.After-past_parked-row) (c.past_parked-row.result + 1) (omega arith) c.in_default.ensures.told);
    }

pub returns-clause-lean : goal.returns-clause-lean
returns-clause-lean c = let i = c.loop-row.invariant in let top = i.top in let past = c.loop-row-test.false in
    lean_less (table_limits c.args.self.now.words) c.args.stage 0 c.args.from (c.loop-row.row - c.args.from) 0 c.args.from (c.args.to - c.args.from) _ _ (omega arith) (omega arith) (omega arith) i.lean

pub returns-clause-told : goal.returns-clause-told
returns-clause-told c = let l : Limits = table_limits c.args.self.now.words in let i = c.loop-row.invariant in let top = i.top in let past = c.loop-row-test.false in let same : c.loop-row.row ≡ c.args.to = omega arith in
    subst (λ z. Begun l (PassedBy l c.args.stage) ((z - c.args.from) * try_steps) c.args.from z (view_of c.args.seat.now) (view_of c.loop-row.seat)) same i.begun
