use Rattle.std.proofs.Common.{◌≡◌, ◌+◌, ◌-◌, ◌*◌, ◌≤◌, ℕ, List, sym, subst, arith, mul-le-mul_right}
use Rattle.std.proofs.Math.Nat.{add-mul}
use Rattle.tp_model.specs.declared.trace.TraceEntry.{TraceEntry}
use Rattle.tp_model.specs.declared.types.Limits.{Limits}
use Rattle.tp_rule.specs.Tables.{table_limits}
use Rattle.tp_rule.specs.Views.{seen_by, view_of}
use Rattle.tp_rule.specs.declared.view.View.{View}
use Rattle.tp_manager.specs.Bounds.{try_steps}
use Rattle.tp_manager.specs.CallSteps.{Looked, Stepped}
use Rattle.tp_manager.specs.Marks.{IsGap, Rose}
use Rattle.tp_manager.specs.Scans.{PassedBy}
use Rattle.tp_manager.proofs.Claims.Behind.{begun_both, born_between, born_gap, gap_between, later_low, later_near, left_gap, scan_gap}
use Rattle.tp_manager.proofs.Claims.Runs.{gap_later}
use Rattle.tp_manager.proofs.Claims.Scans.{passed_widens, took_few, took_then}
use Rattle.tp_manager.proofs.Marks.Raises.{goes_walked, past_near, rose_both, rose_past}
use Rattle.tp_manager.proofs.Calls.CallSteps.{looked_then}
use Rattle.tp_manager.proofs.Calls.Passes.{done_walked}
use Rattle.tp_manager.proofs.Rows.Seeks.{begun_looked}
use Rattle.tp_manager.proofs.Claims.Leans.{ends_far, lean_apart}
use Rattle.tp_manager.specs.Leans.{scan_end}
use Rattle.tp_manager.proofs.manager.Shared.scan_behind.Goals as goal
use Rattle.tp_manager.proofs.manager.Shared.scan_behind.Goals.{After-from_born, After-past_done-next, After-scan_born, After-scan_to}

-- what is left of the gap, which doesn't begin before the rows
left : (c : After-scan_to) → IsGap c.args.who.stage (view_of c.args.seat.now) c.left_of-left.result × (c.args.from ≤ c.left_of-left.result.1)
left c = left_gap c.args.who.stage (view_of c.args.seat.now) c.args.gap.now c.left_of-left.result c.args.from c.left_of-left.ensures c.requires.gap

-- it is one after any steps
kept : (c : After-scan_to) (n : ℕ) (y : View) → Looked (table_limits c.args.self.now.words) n (view_of c.args.seat.now) y → IsGap c.args.who.stage y c.left_of-left.result
kept c n y a = gap_later c.args.who.stage (table_limits c.args.self.now.words) _ _ c.left_of-left.result (goes_walked (table_limits c.args.self.now.words) n a.marks _ _ c.requires.steady.steady.pass.1 a.walk) (left c).0

-- where the rows before the run of the stage end, and where that does
ends : (c : After-scan_to) → (c.args.from ≤ c.later_to-first.result) × (c.later_to-first.result ≤ c.later_to-begin.result) × (c.later_to-begin.result ≤ c.args.to) × (c.later_to-begin.result ≤ c.left_of-left.result.1)
ends c = let b = later_near c.later_to-begin.result c.left_of-left.result.1 c.args.from c.args.to c.requires.rows.0 c.later_to-begin.ensures in let f = later_near c.later_to-first.result c.left_of-left.result.0 c.args.from c.later_to-begin.result b.0 c.later_to-first.ensures in
    (f.0, f.1, b.1, later_low c.later_to-begin.result c.left_of-left.result.1 c.args.from c.args.to (left c).1 c.later_to-begin.ensures)

-- the steps to the run of the stage, and to its end
to_first : (c : After-from_born) → Looked (table_limits c.args.self.now.words) ((c.later_to-first.result - c.args.from) * try_steps) (view_of c.args.seat.now) (view_of c.scan_to.new.seat)
to_first c = let l : Limits = table_limits c.args.self.now.words in begun_looked l (PassedBy l c.args.who.stage) (passed_widens l c.args.who.stage) _ c.args.from c.later_to-first.result _ _ c.in_default.ensures.told c.requires.steady.steady

to_begin : (c : After-past_done-next) → Looked (table_limits c.args.self.now.words) ((c.later_to-first.result - c.args.from) * try_steps) (view_of c.args.seat.now) (view_of c.scan_to.new.seat) → Looked (table_limits c.args.self.now.words) ((c.later_to-begin.result - c.later_to-first.result) * try_steps) (view_of c.scan_to.new.seat) (view_of c.scan_born.new.seat)
to_begin c a = let l : Limits = table_limits c.args.self.now.words in begun_looked l (PassedBy l c.args.who.stage) (passed_widens l c.args.who.stage) _ c.later_to-first.result c.later_to-begin.result _ _ c.in_default-scan_born.ensures.told a.walk.steady

-- the gap with the rows of the stage that were found before it
grown : (c : After-from_born) → IsGap c.args.who.stage (view_of c.scan_to.new.seat) c.left_of-left.result → IsGap c.args.who.stage (view_of c.scan_to.new.seat) c.from_born.result × (c.from_born.result.1 ≡ c.left_of-left.result.1)
grown c old = born_gap c.args.who.stage (view_of c.scan_to.new.seat) c.left_of-left.result c.from_born.result c.later_to-first.result c.scan_to.new.born c.from_born.ensures c.in_default.ensures.ends.1 old

grown_later : (c : After-from_born) → IsGap c.args.who.stage (view_of c.scan_to.new.seat) c.from_born.result → (n : ℕ) (ms : List TraceEntry) (y : View) → Stepped (table_limits c.args.self.now.words) n ms (view_of c.scan_to.new.seat) y → IsGap c.args.who.stage y c.from_born.result
grown_later c now n ms y a = gap_later c.args.who.stage (table_limits c.args.self.now.words) _ _ c.from_born.result (goes_walked (table_limits c.args.self.now.words) n ms _ _ (to_first c).walk.steady.pass.1 a) now

pub returns-in-Some-clause-gap : goal.returns-in-Some-clause-gap
returns-in-Some-clause-gap c = let at = (goal.at.returns-in-Some-clause-gap c).After-scan_to in let t = c.in-Some.ensures.told.0 in
    gap_later c.args.who.stage (table_limits c.args.self.now.words) _ _ c.left_of-left.result (goes_walked (table_limits c.args.self.now.words) _ t.marks _ _ c.requires.steady.steady.pass.1 t.walk) (left at).0

pub scan_born-requires-clause-born : goal.scan_born-requires-clause-born
scan_born-requires-clause-born c = let at = goal.at.scan_born-requires-clause-born c in let e = ends at.After-scan_to in let up = e.0 in
    born_between c.args.who.stage (seen_by c.scan_to.new.seat) c.left_of-left.result.0 c.left_of-left.result.1 c.args.from c.later_to-begin.result c.later_to-first.result (let on = e.1 in omega arith) e.3 c.later_to-first.ensures (kept at.After-scan_to _ _ (to_first at.After-from_born)).0

pub returns-in-Some-scan_born-clause-gap : goal.returns-in-Some-scan_born-clause-gap
returns-in-Some-scan_born-clause-gap c = let at = goal.at.returns-in-Some-scan_born-clause-gap c in let t = c.in-Some-scan_born.ensures.told.0 in let old = kept at.After-scan_to _ _ (to_first at.After-from_born) in
    grown_later at.After-from_born (grown at.After-from_born old).0 _ t.marks (view_of c.scan_born.new.seat) t.walk

pub returns-in-Some-scan_born-clause-lean : goal.returns-in-Some-scan_born-clause-lean
returns-in-Some-scan_born-clause-lean c = let e = ends (goal.at.returns-in-Some-scan_born-clause-lean c).After-scan_to in let up = e.0 in let on = e.1 in let from : ℕ = c.args.from in let first : ℕ = c.later_to-first.result in let end : ℕ = c.in-Some-scan_born.taken.element.id + 1 in
    let reach = c.in-Some-scan_born.ensures.told.0.reach in
    lean_apart (table_limits c.args.self.now.words) c.args.who.stage 0 from (first - from) 0 first (end - first) 0 from (end - from) _ _ _ (omega arith) (omega arith) (omega arith) (omega arith) c.in_default.ensures.lean c.in-Some-scan_born.ensures.lean

pub returns-in-Some-scan_born-clause-told : goal.returns-in-Some-scan_born-clause-told
returns-in-Some-scan_born-clause-told c = let l : Limits = table_limits c.args.self.now.words in let s = try_steps in let e = ends (goal.at.returns-in-Some-scan_born-clause-told c).After-scan_to in let up = e.0 in let on = e.1 in let high = e.2 in
    let from : ℕ = c.args.from in let first : ℕ = c.later_to-first.result in let begin : ℕ = c.later_to-begin.result in let t = c.in-Some-scan_born.taken in
    let few : ((first - from) + (begin - first)) * s ≤ (c.args.to - from) * s = mul-le-mul_right s (omega arith) in let both = add-mul (first - from) (begin - first) s in (
      took_few l c.args.who.stage c.args.who.unit t.attempt t.element ((first - from) * s + (begin - first) * s) ((c.args.to - from) * s) from _ _ (omega arith)
          (took_then l c.args.who.stage c.args.who.unit t.attempt t.element ((first - from) * s) ((begin - first) * s) from first _ _ _ up c.in_default.ensures.told c.in-Some-scan_born.ensures.told.0),
      c.in-Some-scan_born.ensures.told.1,
    )

pub scan_run-requires-clause-gap : goal.scan_run-requires-clause-gap
scan_run-requires-clause-gap c = let at = goal.at.scan_run-requires-clause-gap c in let first = to_first at.After-from_born in let a = to_begin at.After-past_done-next first in
    grown_later at.After-from_born (grown at.After-from_born (kept at.After-scan_to _ _ first)).0 _ a.marks (view_of c.scan_born.new.seat) a.walk

-- what is left of the rows of no use, and the row that the pass has consumed last where it is the next one
run : (c : After-past_done-next) → Looked (table_limits c.args.self.now.words) ((c.later_to-first.result - c.args.from) * try_steps) (view_of c.args.seat.now) (view_of c.scan_to.new.seat) → ((n : ℕ) (y : View) → Looked (table_limits c.args.self.now.words) n (view_of c.args.seat.now) y → IsGap c.args.who.stage y c.left_of-left.result) → Rose c.args.who.stage (view_of c.scan_born.new.seat) c.later_to-begin.result c.past_done-next.result × (c.past_done-next.result ≤ c.args.to)
run c a kept = let l : Limits = table_limits c.args.self.now.words in let w = view_of c.scan_born.new.seat in let known : ℕ = c.later_to-known.result in let next : ℕ = c.past_done-next.result in
    let near = later_near known c.left_of-left.result.2 c.args.from c.args.to c.requires.rows.0 c.later_to-known.ensures in let on = past_near l next known c.args.to c.args.who.done near.1 c.past_done-next.ensures in
    let walk = looked_then l _ _ _ _ w a (to_begin c a) in
    let done = done_walked l _ _ _ _ c.args.who.done c.requires.steady.steady.pass.1 walk.walk c.requires.done in (
      rose_both l c.args.who.stage w c.later_to-begin.result known next
          (gap_between c.args.who.stage w c.left_of-left.result.1 c.left_of-left.result.2 c.args.from c.args.to c.later_to-begin.result known c.requires.rows.0 c.later_to-begin.ensures c.later_to-known.ensures (kept _ w walk).1)
          (rose_past l w next known c.args.to c.args.who.done done c.past_done-next.ensures on.0 c.args.who.stage),
      on.2,
    )

pub scan_run-requires-clause-run : goal.scan_run-requires-clause-run
scan_run-requires-clause-run c = let at = goal.at.scan_run-requires-clause-run c in let first = to_first at.After-from_born in
    ((run at.After-past_done-next first (kept at.After-scan_to)).0, subst (λ z. c.later_to-begin.result ≤ z) (sym (grown at.After-from_born (kept at.After-scan_to _ _ first)).1) (ends at.After-scan_to).3)

pub returns-clause-lean : goal.returns-clause-lean
returns-clause-lean c = let at = goal.at.returns-clause-lean c in let l : Limits = table_limits c.args.self.now.words in let from : ℕ = c.args.from in let first : ℕ = c.later_to-first.result in let begin : ℕ = c.later_to-begin.result in let next : ℕ = c.past_done-next.result in
    let r = run at.After-past_done-next (to_first at.After-from_born) (kept at.After-scan_to) in let e = ends at.After-scan_to in let up = e.0 in let on = e.1 in let over = r.0.0 in let end : ℕ = scan_end c.args.to c.scan_run.result in
    let far = ends_far l _ _ next c.args.to c.args.who.stage c.args.who.unit _ _ c.scan_run.result r.1 c.scan_run.ensures.told in
    lean_apart l c.args.who.stage 0 from (begin - from) 0 next (end - next) 0 from (end - from) _ _ _ (omega arith) (omega arith) (omega arith) (omega arith)
    (lean_apart l c.args.who.stage 0 from (first - from) 0 first (begin - first) 0 from (begin - from) _ _ _ (omega arith) (omega arith) (omega arith) (omega arith) c.in_default.ensures.lean c.in_default-scan_born.ensures.lean) c.scan_run.ensures.lean

pub returns-clause-told : goal.returns-clause-told
returns-clause-told c = let at = goal.at.returns-clause-told c in let l : Limits = table_limits c.args.self.now.words in let s = try_steps in let P = PassedBy l c.args.who.stage in
    let from : ℕ = c.args.from in let first : ℕ = c.later_to-first.result in let begin : ℕ = c.later_to-begin.result in let next : ℕ = c.past_done-next.result in
    let r = run at.After-past_done-next (to_first at.After-from_born) (kept at.After-scan_to) in let e = ends at.After-scan_to in let up = e.0 in let on = e.1 in let over = r.0.0 in let high = r.1 in
    let few : (((first - from) + (begin - first)) + (c.args.to - next)) * s ≤ (c.args.to - from) * s = mul-le-mul_right s (omega arith) in
    let both = add-mul ((first - from) + (begin - first)) (c.args.to - next) s in let two = add-mul (first - from) (begin - first) s in
    scan_gap l c.args.who.stage c.args.who.valid.0.0 ((first - from) * s + (begin - first) * s) ((c.args.to - next) * s) ((c.args.to - from) * s) c.args.who.unit from begin next c.args.to
    (view_of c.args.seat.now) (view_of c.scan_born.new.seat) (view_of c.scan_run.new.seat) c.scan_run.result c.requires.steady.steady (omega arith) (let low = up in omega arith) over
    (begun_both l P (passed_widens l c.args.who.stage) ((first - from) * s) ((begin - first) * s) from first begin _ _ _ up c.in_default.ensures.told c.in_default-scan_born.ensures.told) r.0 c.scan_run.ensures.told
