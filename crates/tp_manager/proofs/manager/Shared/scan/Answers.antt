use Rattle.std.proofs.Common.{◌∙◌, ◌≤◌, ◌+◌, List, slice_index, arith, subst, sym}
use Rattle.tp_model.specs.declared.types.Limits.{Limits}
use Rattle.tp_model.specs.Steps.{block_first, part_rows, rows_of}
use Rattle.tp_rule.specs.Tables.{table_limits}
use Rattle.tp_rule.specs.Views.{view_of}
use Rattle.tp_manager.specs.Bounds.{scan_steps, spare_left, try_steps}
use Rattle.tp_manager.proofs.Marks.Lows.{spare_rises}
use Rattle.tp_manager.proofs.Claims.Scans.{scan_behind, scan_both}
use Rattle.tp_manager.proofs.Calls.CallSteps.{looked_none}
use Rattle.tp_model.specs.declared.trace.TraceEntry.{TraceEntry}
use Rattle.tp_manager.specs.CallSteps.{Stepped}
use Rattle.tp_manager.specs.Marks.{RestsAt}
use Rattle.tp_manager.proofs.Marks.Rests.{begun_walked, rests_behind, spare_before}
use Rattle.tp_manager.proofs.Claims.Leans.{ends_far, ends_inside, lean_early, lean_marked}
use Rattle.tp_manager.specs.Leans.{scan_end}
use Rattle.tp_manager.proofs.manager.Shared.scan.Goals as goal
use Rattle.tp_manager.proofs.manager.Shared.scan.Goals.{After-scan_blocks}

pub returns-clause-told : goal.returns-clause-told
returns-clause-told c = let l : Limits = table_limits c.args.self.now.words in let v = view_of c.args.seat.now in let y = view_of c.scan_blocks.new.seat in
    let k = scan_steps l try_steps 3 c.args.lows.now l.parts in let n = slice_index c.args.lows.now l.parts in let m = slice_index c.scan_parts.new.lows l.parts in
    let less = spare_rises l try_steps n m (c.scan_parts.ensures.lows l.parts) in
    scan_behind l c.args.who.stage c.args.who.unit 0 (k + spare_left l try_steps m) (k + spare_left l try_steps n) 0 (rows_of l) v v y c.scan_blocks.result (omega arith) (looked_none l v c.requires.steady.steady)
    (scan_both l c.args.who.stage c.args.who.unit k (spare_left l try_steps m) v (view_of c.scan_parts.new.seat) y c.scan_blocks.result c.in_default.ensures.told c.scan_blocks.ensures.told)

pub returns-in-Some-clause-lean : goal.returns-in-Some-clause-lean
returns-in-Some-clause-lean c = lean_early (table_limits c.args.self.now.words) c.args.who.stage (c.in-Some.taken.element.id + 1) c.args.lows.now _ _ c.in-Some.ensures.lean

-- the steps in the parts, and then in the spare blocks
blocks : (c : After-scan_blocks) → (ms : List TraceEntry) × Stepped (table_limits c.args.self.now.words) (spare_left (table_limits c.args.self.now.words) try_steps (slice_index c.scan_parts.new.lows (table_limits c.args.self.now.words).parts)) ms (view_of c.scan_parts.new.seat) (view_of c.scan_blocks.new.seat)
blocks c = let l : Limits = table_limits c.args.self.now.words in
    begun_walked l c.args.who.stage c.args.who.unit (spare_left l try_steps (slice_index c.scan_parts.new.lows l.parts)) (part_rows l) (rows_of l) (view_of c.scan_parts.new.seat) (view_of c.scan_blocks.new.seat) c.scan_blocks.result c.in_default.ensures.told.walk.steady c.scan_blocks.ensures.told

pub returns-clause-lean : goal.returns-clause-lean
returns-clause-lean c = let l : Limits = table_limits c.args.self.now.words in let o = c.scan_blocks.result in let drawn = c.scan_blocks.new.drawn in let walk = (blocks (goal.at.returns-clause-lean c).After-scan_blocks).1 in
    let most : drawn ≤ l.spare = subst (λ (z : Limits). drawn ≤ z.spare) walk.steady.pass.1 c.scan_blocks.ensures.drawn.0 in
    lean_marked l c.args.who.stage (part_rows l) (scan_end (block_first l drawn) o) c.args.lows.now c.scan_parts.new.lows _ _ _ (c.scan_parts.ensures.lows l.parts)
    (ends_far l _ _ (part_rows l) (block_first l drawn) c.args.who.stage c.args.who.unit _ _ o (omega arith) c.scan_blocks.ensures.told) (ends_inside l _ _ (part_rows l) (block_first l drawn) c.args.who.stage c.args.who.unit _ _ o (omega arith) c.scan_blocks.ensures.told)
    c.in_default.ensures.lean c.scan_blocks.ensures.lean

pub returns-clause-rests : goal.returns-clause-rests
returns-clause-rests c = λ p inside came. let l : Limits = table_limits c.args.self.now.words in let w = blocks (goal.at.returns-clause-rests c).After-scan_blocks in let a = c.in_default.ensures.told in
    subst (λ n. RestsAt l c.args.who.stage p n (view_of c.args.seat.now) (view_of c.scan_blocks.new.seat)) (sym (c.scan_blocks.ensures.lows.1 p (λ is. absurd (omega arith))))
    (rests_behind l _ _ a.marks w.0 (view_of c.args.seat.now) (view_of c.scan_parts.new.seat) (view_of c.scan_blocks.new.seat) a.walk w.1 c.args.who.stage p _ a.step (c.in_default.ensures.rests p inside tt))

pub returns-clause-spare : goal.returns-clause-spare
returns-clause-spare c = λ came. let l : Limits = table_limits c.args.self.now.words in let w = blocks (goal.at.returns-clause-spare c).After-scan_blocks in let a = c.in_default.ensures.told in
    spare_before l _ _ a.marks w.0 (view_of c.args.seat.now) (view_of c.scan_parts.new.seat) (view_of c.scan_blocks.new.seat) a.walk w.1 c.args.who.stage _ _ c.scan_blocks.ensures.rests

pub returns-clause-begins : goal.returns-clause-begins
returns-clause-begins c = let b = c.scan_parts.ensures.begins in (b.0, λ p less. let part = b.0 in c.scan_blocks.ensures.lows.1 p (λ is. absurd (omega arith)) ∙ b.1 p less)
