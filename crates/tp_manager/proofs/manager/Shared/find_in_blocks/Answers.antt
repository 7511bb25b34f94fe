use Rattle.std.proofs.Common.{◌+◌, ◌-◌, ◌*◌, slice_index, arith}
use Rattle.tp_model.specs.declared.types.Limits.{Limits}
use Rattle.tp_model.specs.declared.types.TheConstants.{BLOCK_ROWS}
use Rattle.tp_model.specs.Steps.{rows_of}
use Rattle.tp_rule.specs.Tables.{table_limits}
use Rattle.tp_rule.specs.Views.{view_of}
use Rattle.tp_manager.specs.Bounds.{error_steps, spare_left}
use Rattle.tp_manager.proofs.Marks.Lows.{drawn_one}
use Rattle.tp_manager.proofs.Claims.Spares.{find_drawn}
use Rattle.tp_manager.proofs.manager.Shared.find_in_blocks.Goals as goal

pub returns-clause-told : goal.returns-clause-told
returns-clause-told c = let l : Limits = table_limits c.args.self.now.words in let load = c.in-Some.ensures.told in let one = drawn_one l.spare load.0 in let n = slice_index c.args.lows.now l.parts in let s = error_steps in
    find_drawn l (2 + (BLOCK_ROWS * l.spare - n) * s) (spare_left l s n) c.args.from (rows_of l) (view_of c.args.seat.now) (view_of c.blocks_end.new.seat) (view_of c.find_spare.new.seat) c.find_spare.result
    (omega arith) load.1 c.find_spare.ensures.told
