use Rattle.std.proofs.Common.{◌≡◌, ◌+◌, ◌<◌, ◌≤◌, ◌∙◌, MatchOption, ap, slice_index, sym, subst, arith}
use Rattle.tp_model.specs.declared.types.Limits.{Limits}
use Rattle.tp_model.specs.Steps.{part_rows, rows_of}
use Rattle.tp_rule.specs.Tables.{table_limits}
use Rattle.tp_rule.specs.Views.{seen_by, view_of}
use Rattle.tp_manager.specs.Bounds.{error_steps, spare_left}
use Rattle.tp_manager.specs.Finds.{Hits, PassedOver, parts_walk}
use Rattle.tp_manager.specs.Scans.{Begun, EachRow, Sought}
use Rattle.tp_manager.proofs.Rows.Finds.{find_both, finds_behind}
use Rattle.tp_manager.proofs.Rows.Seeks.{rows_more}
use Rattle.tp_manager.proofs.Marks.Lows.{spare_rises}
use Rattle.tp_manager.proofs.Calls.CallSteps.{looked_none}
use Rattle.tp_manager.proofs.manager.Shared.find_walking.Goals as goal

pub returns-clause-told : goal.returns-clause-told
returns-clause-told c = let l : Limits = table_limits c.args.self.now.words in let e : c.part_rows-parts.result ≡ part_rows l = c.part_rows-parts.ensures ∙ ap part_rows (sym c.args.self.now.same) in
    let own = c.requires.from in let inside = own.2 in let room = rows_more c.args.part l.parts l.rows own.0 in
    let t = error_steps in let k = parts_walk l c.args.lows.now c.args.part in let n = slice_index c.args.lows.now l.parts in let m = slice_index c.find_in_parts.new.lows l.parts in
    let fewer = spare_rises l t n m (c.find_in_parts.ensures.lows l.parts) in let v = view_of c.args.seat.now in let w = view_of c.find_in_parts.new.seat in let y = view_of c.find_in_blocks.new.seat in
    finds_behind l 0 (k + spare_left l t m) (k + spare_left l t n) c.args.from (rows_of l) v v y c.find_in_blocks.result (omega arith) (looked_none l v c.requires.steady.steady)
    (find_both l k (spare_left l t m) c.args.from v w y c.find_in_blocks.result (omega arith) c.in_default.ensures.told
    (subst (λ z. MatchOption c.find_in_blocks.result (Begun l (PassedOver l) (spare_left l t m) z (rows_of l) w y)
    (λ id. (z ≤ id) × (id < rows_of l) × Hits l id (seen_by c.find_in_blocks.new.seat) × Sought l (spare_left l t m) (EachRow (PassedOver l) z id) w y)) e c.find_in_blocks.ensures.told))
