use Rattle.std.proofs.Common.{ℕ, ap, ◌+◌, ◌-◌, ◌*◌, ◌≤◌, slice_index, arith, inl, subst, sym}
use Rattle.tp_model.specs.declared.types.Limits.{Limits}
use Rattle.tp_model.specs.declared.types.TheConstants.{BLOCK_ROWS}
use Rattle.tp_model.specs.Steps.{part_rows, rows_of}
use Rattle.tp_rule.specs.Tables.{table_limits}
use Rattle.tp_rule.specs.Views.{view_of}
use Rattle.tp_manager.specs.Bounds.{drawn_steps, spare_left, try_steps}
use Rattle.tp_manager.proofs.Marks.Lows.{drawn_one}
use Rattle.tp_manager.specs.Marks.{RemembersGaps}
use Rattle.tp_manager.specs.Spares.{SpareRests}
use Rattle.tp_manager.proofs.Marks.Rests.{drawn_walked, spare_before}
use Rattle.tp_manager.proofs.Claims.Spares.{scan_drawn}
use Rattle.tp_rule.specs.Views.{SeatShown}
use Rattle.tp_manager.proofs.Calls.CallSteps.{gaps_kind, remembers_kind}
use Rattle.tp_manager.proofs.Claims.Leans.{lean_behind, lean_free}
use Rattle.tp_manager.specs.Leans.{IsLeanAt, scan_end}
use Rattle.tp_manager.proofs.manager.Shared.scan_blocks.Goals as goal

pub returns-clause-told : goal.returns-clause-told
returns-clause-told c = let l : Limits = table_limits c.args.self.now.words in let load = c.in-Some.ensures.told in let one = drawn_one l.spare load.0 in let n = slice_index c.args.lows.now l.parts in
    scan_drawn l c.args.stage c.args.unit (2 + (BLOCK_ROWS * l.spare - n) * try_steps) (spare_left l try_steps n) (part_rows l) (rows_of l) (view_of c.args.seat.now) (view_of c.blocks_end.new.seat) (view_of c.scan_spare.new.seat) c.scan_spare.result
    (omega arith) load.1 c.scan_spare.ensures.told

pub returns-clause-rests : goal.returns-clause-rests
returns-clause-rests c = let l : Limits = table_limits c.args.self.now.words in let load = c.in-Some.ensures.told.1 in let n = slice_index c.args.lows.now l.parts in let end = c.in-Some.ensures.end in
    let w = drawn_walked l c.args.stage c.args.unit (2 + (BLOCK_ROWS * l.spare - n) * try_steps) (part_rows l) (rows_of l) (view_of c.blocks_end.new.seat) (view_of c.scan_spare.new.seat) c.scan_spare.result c.scan_spare.ensures.told in
    subst (λ e. SpareRests l c.args.stage e (slice_index c.scan_spare.new.lows l.parts) (view_of c.args.seat.now) (view_of c.scan_spare.new.seat)) end
    (spare_before l 1 _ _ w.0 (view_of c.args.seat.now) (view_of c.blocks_end.new.seat) (view_of c.scan_spare.new.seat) load.walk w.1 c.args.stage _ _ c.scan_spare.ensures.rests)

pub returns-clause-lean : goal.returns-clause-lean
returns-clause-lean c = let l : Limits = table_limits c.args.self.now.words in let load = c.in-Some.ensures.told in let one = drawn_one l.spare load.0 in let N : ℕ = part_rows l + slice_index c.args.lows.now l.parts in let o = c.scan_spare.result in
    subst (λ e. IsLeanAt l c.args.stage (3 * drawn_steps l.spare) N (scan_end e o - N) (view_of c.args.seat.now) (view_of c.scan_spare.new.seat)) c.in-Some.ensures.end
    (lean_behind l c.args.stage 1 N (scan_end c.in-Some.end o - N) 2 (3 * drawn_steps l.spare) _ _ _ _ (omega arith) load.1.walk c.scan_spare.ensures.lean)

pub returns-in_default-clause-lean : goal.returns-in_default-clause-lean
returns-in_default-clause-lean c = lean_free (table_limits c.args.self.now.words) c.args.stage _ _ _ (view_of c.args.seat.now) (view_of c.blocks_end.new.seat) (ap view_of c.in_default.ensures.told.1)

pub returns-in_default-clause-rests : goal.returns-in_default-clause-rests
returns-in_default-clause-rests c = let l : Limits = table_limits c.args.self.now.words in let none = c.in_default.ensures.told.0 in let few = c.blocks_end.ensures.drawn.0 in
    let most : c.blocks_end.new.drawn ≤ l.spare = subst (λ (z : Limits). c.blocks_end.new.drawn ≤ z.spare) c.requires.steady.steady.pass.1 (subst (λ (z : SeatShown). c.blocks_end.new.drawn ≤ (view_of z).limits.spare) c.in_default.ensures.told.1 few) in inl (omega arith)

pub scan_spare-requires-clause-remembers : goal.scan_spare-requires-clause-remembers
scan_spare-requires-clause-remembers c = remembers_kind c.args.stage c.args.lows.now _ _ _ _ _ c.in-Some.ensures.told.1.walk c.requires.remembers

pub scan_spare-requires-clause-gaps : goal.scan_spare-requires-clause-gaps
scan_spare-requires-clause-gaps c = gaps_kind c.args.stage c.args.gaps.now _ _ _ _ _ c.in-Some.ensures.told.1.walk c.requires.gaps

pub returns-in_default-clause-gaps : goal.returns-in_default-clause-gaps
returns-in_default-clause-gaps c = subst (λ (z : SeatShown). RemembersGaps c.args.stage (view_of z) c.args.gaps.now) (sym c.in_default.ensures.told.1) c.requires.gaps
