use Rattle.std.proofs.Common.{inl, sym, subst, refl, ◌+◌, ◌-◌, ◌*◌, ◌≤◌, ℕ, arith, rules, mul-le-mul_right}
use Rattle.tp_model.specs.declared.types.Limits.{Limits}
use Rattle.tp_rule.specs.Tables.{table_limits}
use Rattle.tp_manager.specs.Bounds.{try_steps}
use Rattle.tp_manager.specs.Scans.{PassedBy}
use Rattle.tp_manager.proofs.Claims.Behind.{begun_less}
use Rattle.tp_manager.proofs.Claims.Scans.{passed_widens, took_few, took_then}
use Rattle.tp_manager.proofs.Rows.Seeks.{begun_few, begun_on, rows_more}
use Rattle.tp_rule.specs.Views.{seen_by, view_of}
use Rattle.tp_manager.specs.Marks.{AreOfStage}
use Rattle.tp_manager.proofs.Claims.Runs.{of_fewer, of_none}
use Rattle.tp_manager.specs.Leans.{IsLeanAt}
use Rattle.tp_manager.proofs.Claims.Leans.{lean_less, lean_row, lean_start}
use Rattle.tp_manager.proofs.manager.Shared.scan_to.Goals as goal
use Rattle.tp_manager.proofs.manager.Shared.scan_to.Goals.{After-try_row}

pub returns-in-Some-clause-told : goal.returns-in-Some-clause-told
returns-in-Some-clause-told c = let l : Limits = table_limits c.args.self.now.words in let s = try_steps in let i = c.loop-row.invariant in let b = i.begun in let k : ℕ = b.0 in let x = b.1 in let t = c.in-Some.taken in
    let less = c.loop-row-test.true in let room : k * s + s ≤ (c.args.to - c.args.from) * s = rows_more k (c.args.to - c.args.from) s (omega arith) in (
      took_few l c.args.stage c.args.unit t.attempt t.element (k * s + s) ((c.args.to - c.args.from) * s) c.args.from _ _ room
          (took_then l c.args.stage c.args.unit t.attempt t.element (k * s) s c.args.from c.loop-row.row _ _ _ i.from b.3 c.in-Some.ensures.told.0),
      c.in-Some.ensures.told.1,
    )

pub loop-row-init : goal.loop-row-init
loop-row-init c = record {
  same = refl;
  from = omega arith;
  inside = let r = c.requires.rows in omega arith;
  low = omega arith;
  born = let e = c.requires.born in (omega arith, subst (λ z. AreOfStage c.args.stage (seen_by c.args.seat.now) z c.args.from) (sym e) (of_none c.args.stage (seen_by c.args.seat.now) c.args.from));
  lean = (0, omega arith, omega arith, lean_start (table_limits c.args.self.now.words) c.args.stage c.args.from (view_of c.args.seat.now));
  begun = (0, omega arith, omega arith, inl (refl, refl));
}

-- the rows up to this one, and this one
lean : (c : After-try_row) → IsLeanAt (table_limits c.args.self.now.words) c.args.stage 0 c.args.from (c.loop-row.row + 1 - c.args.from) (view_of c.args.seat.now) (view_of c.try_row.new.seat)
lean c = let t = c.loop-row.invariant.lean in lean_row (table_limits c.args.self.now.words) c.args.stage c.args.from t.0 c.loop-row.row _ _ _ c.loop-row.invariant.from t.1 t.3 c.try_row.ensures.lean

pub returns-in-Some-clause-lean : goal.returns-in-Some-clause-lean
returns-in-Some-clause-lean c = let at = c.in-Some.ensures.behind.1 in
    lean_less (table_limits c.args.self.now.words) c.args.stage 0 c.args.from (c.loop-row.row + 1 - c.args.from) 0 c.args.from (c.in-Some.taken.element.id + 1 - c.args.from) _ _ (omega arith) (omega arith) (omega arith) (lean (goal.at.returns-in-Some-clause-lean c).After-try_row)

pub returns-clause-lean : goal.returns-clause-lean
returns-clause-lean c = let t = c.loop-row.invariant.lean in let k : ℕ = t.0 in let le = t.2 in
    lean_less (table_limits c.args.self.now.words) c.args.stage 0 c.args.from k 0 c.args.from (c.args.to - c.args.from) _ _ (omega arith) (omega arith) (omega arith) t.3

pub loop-row-preserved : goal.loop-row-preserved
loop-row-preserved c = let l : Limits = table_limits c.args.self.now.words in let P = PassedBy l c.args.stage in let s = try_steps in let i = c.loop-row.invariant in let b = i.begun in let k : ℕ = b.0 in let x = b.1 in
    let on = c.try_row.ensures.on.on in let from_on = i.from in let less = c.loop-row-test.true in record {
      same = search rules;
      from = omega arith;
      inside = c.try_row.ensures.on.inside;
      low = c.try_row.ensures.low.0;
      born = c.try_row.ensures.born;
      lean = (c.loop-row.row + 1 - c.args.from, omega arith, omega arith, lean (goal.at.loop-row-preserved c).After-try_row);
      begun = (
        k + 1,
        omega arith,
        omega arith,
        begun_few l P (passed_widens l c.args.stage) (k * s + s) c.args.from ((k + 1) * s) c.try_row.new.row _ _ (rows_more k (k + 1) s (omega arith))
            (begun_on l P (passed_widens l c.args.stage) (k * s) c.args.from s c.loop-row.row _ _ _ b.3 c.try_row.new.row from_on c.in_default.ensures.told),
      );
    }

pub returns-clause-told : goal.returns-clause-told
returns-clause-told c = let l : Limits = table_limits c.args.self.now.words in let s = try_steps in let b = c.loop-row.invariant.begun in let k : ℕ = b.0 in let past = c.loop-row-test.false in
    let few : k * s ≤ (c.args.to - c.args.from) * s = mul-le-mul_right s b.2 in
    begun_less l (PassedBy l c.args.stage) (k * s) ((c.args.to - c.args.from) * s) c.args.from c.args.to c.loop-row.row _ _ few c.requires.rows.0 (omega arith) b.3

pub returns-clause-ends : goal.returns-clause-ends
returns-clause-ends c = let i = c.loop-row.invariant in let up = i.born.0 in let inside = i.inside in let past = c.loop-row-test.false in
    (omega arith, of_fewer c.args.stage (seen_by c.loop-row.seat) c.loop-row.born c.loop-row.row c.loop-row.born c.args.to (omega arith) (omega arith) i.born.1)
