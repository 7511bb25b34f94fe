use Rattle.std.proofs.Common.{inl, refl, ◌+◌, ◌-◌, ◌*◌, ◌<◌, ◌≤◌, ℕ, List, arith, rules, mul-le-mul_right}
use Rattle.tp_model.specs.declared.trace.TraceEntry.{TraceEntry}
use Rattle.tp_model.specs.declared.types.Limits.{Limits}
use Rattle.tp_rule.specs.Tables.{table_limits}
use Rattle.tp_rule.specs.Views.{seen_by, view_of}
use Rattle.tp_manager.specs.Bounds.{try_steps}
use Rattle.tp_manager.specs.CallSteps.{Looked, Stepped}
use Rattle.tp_manager.specs.Marks.{AreOfStage, IsGap, Rose}
use Rattle.tp_manager.specs.Scans.{Begun, PassedBy}
use Rattle.tp_manager.proofs.Claims.Behind.{begun_less, longer_gap}
use Rattle.tp_manager.proofs.Claims.Runs.{gap_later, of_fewer, of_later, of_none}
use Rattle.tp_manager.proofs.Claims.Scans.{passed_widens, took_few, took_then}
use Rattle.tp_manager.proofs.Families.Cancels.{few_rows}
use Rattle.tp_manager.proofs.Marks.Raises.{goes_walked, rose_none, rose_then}
use Rattle.tp_manager.proofs.Marks.Useless.{Goes}
use Rattle.tp_manager.proofs.Rows.Seeks.{begun_few, begun_looked, begun_on, rows_more}
use Rattle.tp_manager.specs.Leans.{IsLeanAt}
use Rattle.tp_manager.proofs.Claims.Leans.{lean_less, lean_row, lean_start}
use Rattle.tp_manager.proofs.manager.Shared.scan_run.Goals as goal
use Rattle.tp_manager.proofs.manager.Shared.scan_run.Goals.{After-try_row}

-- the steps up to the row
since : (c : After-try_row) → Looked (table_limits c.args.self.now.words) (c.loop-row.invariant.begun.0 * try_steps) (view_of c.args.seat.now) (view_of c.loop-row.seat)
since c = let l : Limits = table_limits c.args.self.now.words in
    begun_looked l (PassedBy l c.args.who.stage) (passed_widens l c.args.who.stage) _ _ c.loop-row.row _ _ c.loop-row.invariant.begun.3 c.requires.steady.steady

-- the look at one more row goes on
on : (c : After-try_row) (n : ℕ) (ms : List TraceEntry) → Stepped (table_limits c.args.self.now.words) n ms (view_of c.loop-row.seat) (view_of c.try_row.new.seat) → Goes (table_limits c.args.self.now.words) (view_of c.loop-row.seat) (view_of c.try_row.new.seat)
on c n ms a = goes_walked (table_limits c.args.self.now.words) n ms _ _ (since c).walk.steady.pass.1 a

-- the gap is one after it too
gap : (c : After-try_row) (n : ℕ) (ms : List TraceEntry) → Stepped (table_limits c.args.self.now.words) n ms (view_of c.loop-row.seat) (view_of c.try_row.new.seat) → IsGap c.args.who.stage (view_of c.try_row.new.seat) c.loop-row.gap
gap c n ms a = gap_later c.args.who.stage (table_limits c.args.self.now.words) _ _ c.loop-row.gap (on c n ms a) c.loop-row.invariant.gap

-- and so are the rows of the stage before the run
rows : (c : After-try_row) (n : ℕ) (ms : List TraceEntry) → Stepped (table_limits c.args.self.now.words) n ms (view_of c.loop-row.seat) (view_of c.try_row.new.seat) → AreOfStage c.args.who.stage (seen_by c.try_row.new.seat) c.loop-row.start c.loop-row.begin
rows c n ms a = of_later c.args.who.stage (seen_by c.loop-row.seat) (seen_by c.try_row.new.seat) c.loop-row.start c.loop-row.begin (on c n ms a).begins c.loop-row.invariant.start.1

-- a row is none of too many
small : (c : After-try_row) → c.try_row.new.row < 65536
small c = let few = few_rows (table_limits c.args.self.now.words) c.args.self.now.words.places.valid in let top = c.try_row.ensures.on.inside in omega arith

-- and the run is as long, or a row longer
run : (c : After-try_row) (n : ℕ) (ms : List TraceEntry) → Stepped (table_limits c.args.self.now.words) n ms (view_of c.loop-row.seat) (view_of c.try_row.new.seat) → Rose c.args.who.stage (view_of c.try_row.new.seat) c.loop-row.begin c.try_row.new.low
run c n ms a = rose_then (table_limits c.args.self.now.words) c.args.who.stage _ _ c.loop-row.begin c.loop-row.low c.try_row.new.low (on c n ms a) c.loop-row.invariant.run c.try_row.ensures.low.1

-- so are the rows that were passed
begun : (c : After-try_row) → Begun (table_limits c.args.self.now.words) (PassedBy (table_limits c.args.self.now.words) c.args.who.stage) (c.loop-row.invariant.begun.0 * try_steps + try_steps) c.args.from c.try_row.new.row (view_of c.args.seat.now) (view_of c.try_row.new.seat)
    → (k : ℕ) × (k ≤ c.try_row.new.row - c.args.from) × (k ≤ c.args.to - c.args.from) × Begun (table_limits c.args.self.now.words) (PassedBy (table_limits c.args.self.now.words) c.args.who.stage) (k * try_steps) c.args.from c.try_row.new.row (view_of c.args.seat.now) (view_of c.try_row.new.seat)
begun c b = let l : Limits = table_limits c.args.self.now.words in let i = c.loop-row.invariant in let k : ℕ = i.begun.0 in let x = i.begun.1 in let next = c.try_row.ensures.on.on in let from_on = i.from in let less = c.loop-row-test.true in (
  k + 1,
  omega arith,
  omega arith,
  begun_few l (PassedBy l c.args.who.stage) (passed_widens l c.args.who.stage) (k * try_steps + try_steps) c.args.from ((k + 1) * try_steps) c.try_row.new.row _ _ (rows_more k (k + 1) try_steps (omega arith)) b,
)

pub longer-requires-clause-few : goal.longer-requires-clause-few
longer-requires-clause-few c = let few = small (goal.at.longer-requires-clause-few c).After-try_row in let low = c.try_row.ensures.low.0 in (c.loop-row.invariant.start.0, omega arith)

pub returns-in-Some-clause-gap : goal.returns-in-Some-clause-gap
returns-in-Some-clause-gap c = let at = (goal.at.returns-in-Some-clause-gap c).After-try_row in let a = c.in-Some.ensures.told.0.walk in
    longer_gap c.args.who.stage (view_of c.try_row.new.seat) c.loop-row.gap c.longer.result c.loop-row.start c.loop-row.begin c.try_row.new.low c.longer.ensures (gap at _ _ a) (rows at _ _ a) (run at _ _ a)

pub returns-in-Some-clause-told : goal.returns-in-Some-clause-told
returns-in-Some-clause-told c = let l : Limits = table_limits c.args.self.now.words in let s = try_steps in let i = c.loop-row.invariant in let b = i.begun in let k : ℕ = b.0 in let x = b.1 in let t = c.in-Some.taken in
    let less = c.loop-row-test.true in let room : k * s + s ≤ (c.args.to - c.args.from) * s = rows_more k (c.args.to - c.args.from) s (omega arith) in (
      took_few l c.args.who.stage c.args.who.unit t.attempt t.element (k * s + s) ((c.args.to - c.args.from) * s) c.args.from _ _ room
          (took_then l c.args.who.stage c.args.who.unit t.attempt t.element (k * s) s c.args.from c.loop-row.row _ _ _ i.from b.3 c.in-Some.ensures.told.0),
      c.in-Some.ensures.told.1,
    )

pub loop-row-init : goal.loop-row-init
loop-row-init c = record {
  same = refl;
  from = omega arith;
  inside = let r = c.requires.rows in omega arith;
  low = omega arith;
  gap = c.requires.gap;
  run = c.requires.run.0;
  start = let up = c.requires.run.1 in (omega arith, of_fewer c.args.who.stage (seen_by c.args.seat.now) c.args.gap.now.0 c.args.gap.now.1 c.args.gap.now.0 c.args.first (omega arith) up c.requires.gap.0);
  born = (omega arith, of_none c.args.who.stage (seen_by c.args.seat.now) c.args.from);
  lean = (0, omega arith, omega arith, lean_start (table_limits c.args.self.now.words) c.args.who.stage c.args.from (view_of c.args.seat.now));
  begun = (0, omega arith, omega arith, inl (refl, refl));
}

-- the rows up to this one, and this one
lean : (c : After-try_row) → IsLeanAt (table_limits c.args.self.now.words) c.args.who.stage 0 c.args.from (c.loop-row.row + 1 - c.args.from) (view_of c.args.seat.now) (view_of c.try_row.new.seat)
lean c = let t = c.loop-row.invariant.lean in lean_row (table_limits c.args.self.now.words) c.args.who.stage c.args.from t.0 c.loop-row.row _ _ _ c.loop-row.invariant.from t.1 t.3 c.try_row.ensures.lean

pub returns-in-Some-clause-lean : goal.returns-in-Some-clause-lean
returns-in-Some-clause-lean c = let at = c.in-Some.ensures.behind.1 in
    lean_less (table_limits c.args.self.now.words) c.args.who.stage 0 c.args.from (c.loop-row.row + 1 - c.args.from) 0 c.args.from (c.in-Some.taken.element.id + 1 - c.args.from) _ _ (omega arith) (omega arith) (omega arith) (lean (goal.at.returns-in-Some-clause-lean c).After-try_row)

pub returns-clause-lean : goal.returns-clause-lean
returns-clause-lean c = let t = c.loop-row.invariant.lean in let k : ℕ = t.0 in let le = t.2 in
    lean_less (table_limits c.args.self.now.words) c.args.who.stage 0 c.args.from k 0 c.args.from (c.args.to - c.args.from) _ _ (omega arith) (omega arith) (omega arith) t.3

pub loop-row-preserved-then-row-to : goal.loop-row-preserved-then-row-to
loop-row-preserved-then-row-to c = let l : Limits = table_limits c.args.self.now.words in let P = PassedBy l c.args.who.stage in let s = try_steps in let i = c.loop-row.invariant in let b = i.begun in let k : ℕ = b.0 in
    let at = (goal.at.loop-row-preserved-then-row-to c).After-try_row in let next = c.try_row.ensures.on.on in let from_on = i.from in let told = c.in_default.ensures.told in record {
      same = search rules;
      from = omega arith;
      inside = c.try_row.ensures.on.inside;
      low = omega arith;
      gap = longer_gap c.args.who.stage (view_of c.try_row.new.seat) c.loop-row.gap c.longer-then-row-to.result c.loop-row.start c.loop-row.begin c.try_row.new.low c.longer-then-row-to.ensures (gap at _ _ told.walk) (rows at _ _ told.walk) (run at _ _ told.walk);
      run = rose_none l c.args.who.stage (view_of c.try_row.new.seat) c.try_row.new.row;
      start = let few = small at in let up = c.try_row.ensures.born.0 in (omega arith, c.try_row.ensures.born.1);
      born = c.try_row.ensures.born;
      lean = (c.loop-row.row + 1 - c.args.from, (let up = c.try_row.ensures.on.on in omega arith), (let before = c.loop-row-test.true in omega arith), lean at);
      begun = begun at (begun_on l P (passed_widens l c.args.who.stage) (k * s) c.args.from s c.loop-row.row _ _ _ b.3 c.try_row.new.row from_on told);
    }

pub loop-row-preserved : goal.loop-row-preserved
loop-row-preserved c = let l : Limits = table_limits c.args.self.now.words in let P = PassedBy l c.args.who.stage in let s = try_steps in let i = c.loop-row.invariant in let b = i.begun in let k : ℕ = b.0 in
    let at = (goal.at.loop-row-preserved c).After-try_row in let next = c.try_row.ensures.on.on in let from_on = i.from in let told = c.in_default.ensures.told in record {
      same = search rules;
      from = omega arith;
      inside = c.try_row.ensures.on.inside;
      low = c.try_row.ensures.low.0;
      gap = gap at _ _ told.walk;
      run = run at _ _ told.walk;
      start = (i.start.0, rows at _ _ told.walk);
      born = c.try_row.ensures.born;
      lean = (c.loop-row.row + 1 - c.args.from, (let up = c.try_row.ensures.on.on in omega arith), (let before = c.loop-row-test.true in omega arith), lean at);
      begun = begun at (begun_on l P (passed_widens l c.args.who.stage) (k * s) c.args.from s c.loop-row.row _ _ _ b.3 c.try_row.new.row from_on told);
    }

pub returns-clause-gap : goal.returns-clause-gap
returns-clause-gap c = let i = c.loop-row.invariant in
    longer_gap c.args.who.stage (view_of c.loop-row.seat) c.loop-row.gap c.longer-2.result c.loop-row.start c.loop-row.begin c.loop-row.low c.longer-2.ensures i.gap i.start.1 i.run

pub returns-clause-told : goal.returns-clause-told
returns-clause-told c = let l : Limits = table_limits c.args.self.now.words in let s = try_steps in let b = c.loop-row.invariant.begun in let k : ℕ = b.0 in let past = c.loop-row-test.false in
    let few : k * s ≤ (c.args.to - c.args.from) * s = mul-le-mul_right s b.2 in
    begun_less l (PassedBy l c.args.who.stage) (k * s) ((c.args.to - c.args.from) * s) c.args.from c.args.to c.loop-row.row _ _ few c.requires.rows.0 (omega arith) b.3
