use Rattle.std.proofs.Common.{◌+◌, inr, slice_index, sym, subst, arith}
use Rattle.tp_model.specs.declared.types.Limits.{Limits}
use Rattle.tp_model.specs.Steps.{rows_of}
use Rattle.tp_rule.specs.Tables.{table_limits}
use Rattle.tp_rule.specs.Views.{SeatShown, view_of}
use Rattle.tp_manager.specs.Bounds.{error_steps, scan_steps, spare_left, unit_looks}
use Rattle.tp_manager.specs.Finds.{PassedOver}
use Rattle.tp_manager.specs.Scans.{EachRow}
use Rattle.tp_manager.specs.UnitsSeen.{RemembersUnits}
use Rattle.tp_manager.proofs.Calls.CallSteps.{acted_then, looked, sought_few, units_kept}
use Rattle.tp_manager.proofs.Rows.Finds.{begun_behind, begun_steps, none_over, over_widens}
use Rattle.tp_manager.proofs.Rows.Seeks.{sought_bare, sought_behind}
use Rattle.tp_manager.proofs.Rows.UnitsSeen.{over_from}
use Rattle.tp_manager.proofs.manager.Shared.find_past_parts.Goals as goal

pub returns-in_default-clause-units : goal.returns-in_default-clause-units
returns-in_default-clause-units c = subst (λ (z : SeatShown). RemembersUnits (view_of z) c.args.units.now.committed) (sym c.in_default.ensures.told.1) c.requires.units

pub returns-then-end-from-clause-units : goal.returns-then-end-from-clause-units
returns-then-end-from-clause-units c = units_kept c.args.units.now.committed _ _ _ _ _ c.in-Some.ensures.told.1.walk c.requires.units

-- no block is drawn from there on
pub returns-then-end-from-clause-told : goal.returns-then-end-from-clause-told
returns-then-end-from-clause-told c = let l : Limits = table_limits c.args.self.now.words in let from = c.args.from in let told = c.in-Some.ensures.told in let v = view_of c.args.seat.now in let w = view_of c.blocks_end.new.seat in let past = c.if-end-from.true in
    inr (sought_few l 1 (1 + (scan_steps l unit_looks 1 c.args.lows.now l.parts + spare_left l error_steps (slice_index c.args.lows.now l.parts))) (EachRow (PassedOver l) from (rows_of l)) v w (omega arith)
    (sought_bare l (PassedOver l) (over_widens l) from from (rows_of l) v w told.1 (none_over l) (λ i low high. absurd (omega arith)) (λ i low high. told.4 i (omega arith) high)))

pub none_parked-requires-clause-remembers : goal.none_parked-requires-clause-remembers
none_parked-requires-clause-remembers c = units_kept c.args.units.now.committed _ _ _ _ _ c.in-Some.ensures.told.1.walk c.requires.units

pub returns-then-none_parked-clause-told : goal.returns-then-none_parked-clause-told
returns-then-none_parked-clause-told c = let l : Limits = table_limits c.args.self.now.words in let from = c.args.from in let lows = c.args.lows.now in let told = c.in-Some.ensures.told in let v = view_of c.args.seat.now in let w = view_of c.blocks_end.new.seat in let y = view_of c.none_parked.new.seat in
    let n = scan_steps l unit_looks 1 lows l.parts in
    inr (sought_few l (1 + n) (1 + (n + spare_left l error_steps (slice_index lows l.parts))) (EachRow (PassedOver l) from (rows_of l)) v y (omega arith)
    (sought_behind l 1 n (PassedOver l) (over_widens l) from (rows_of l) v w y (looked l 1 v w told.1) (over_from l n from w y (c.none_parked.ensures.none c.if-none_parked.true))))

pub returns-clause-units : goal.returns-clause-units
returns-clause-units c = let l : Limits = table_limits c.args.self.now.words in let w = view_of c.none_parked.new.seat in
    units_kept c.none_parked.new.units.committed l _ _ w (view_of c.find_in_blocks.new.seat) (begun_steps l (spare_left l error_steps (slice_index c.args.lows.now l.parts)) c.args.from (rows_of l) w (view_of c.find_in_blocks.new.seat) c.find_in_blocks.result c.none_parked.ensures.looked.walk.steady c.find_in_blocks.ensures.told).walk c.none_parked.ensures.remembers

pub returns-clause-told : goal.returns-clause-told
returns-clause-told c = let l : Limits = table_limits c.args.self.now.words in let lows = c.args.lows.now in let told = c.in-Some.ensures.told in let v = view_of c.args.seat.now in let w = view_of c.blocks_end.new.seat in let y = view_of c.none_parked.new.seat in
    let n = scan_steps l unit_looks 1 lows l.parts in let m = spare_left l error_steps (slice_index lows l.parts) in
    begun_behind l (1 + n) m (1 + (n + m)) c.args.from (rows_of l) v y (view_of c.find_in_blocks.new.seat) c.find_in_blocks.result (omega arith) (acted_then l 1 n v w y told.1 c.none_parked.ensures.looked) c.find_in_blocks.ensures.told
