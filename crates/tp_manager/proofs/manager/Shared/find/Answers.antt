use Rattle.std.proofs.Common.{◌≡◌, ◌+◌, ◌-◌, ◌≤◌, ◌<◌, ◌∙◌, MatchOption, ap, slice_index, sym, subst, arith}
use Rattle.tp_model.specs.declared.types.Limits.{Limits}
use Rattle.tp_model.specs.Steps.{part_rows, rows_of}
use Rattle.tp_rule.specs.Tables.{table_limits}
use Rattle.tp_rule.specs.Views.{seen_by, view_of}
use Rattle.tp_manager.specs.Bounds.{error_steps, marked_steps, scan_steps, seek_steps, spare_left, unit_looks}
use Rattle.tp_manager.specs.Finds.{Hits, PassedOver, parts_walk}
use Rattle.tp_manager.specs.Scans.{Begun, EachRow, Sought}
use Rattle.tp_manager.proofs.Calls.CallSteps.{looked_none, remembers_kind, sought_few, units_kept}
use Rattle.tp_manager.proofs.Calls.Passes.{drawn_walked}
use Rattle.tp_manager.proofs.Marks.Lows.{bare_before, heads_before}
use Rattle.tp_manager.proofs.Rows.Finds.{begun_finds, find_both, finds_acted, finds_behind, finds_listed, listed_looked, over_widens}
use Rattle.tp_manager.proofs.Rows.Seeks.{sought_behind}
use Rattle.tp_manager.proofs.Rows.UnitsSeen.{over_from}
use Rattle.tp_manager.proofs.manager.Shared.find.Goals as goal

pub returns-then-from-parts-clause-told : goal.returns-then-from-parts-clause-told
returns-then-from-parts-clause-told c = let l : Limits = table_limits c.args.self.now.words in let lows = c.args.lows.now in let all = bare_before l lows c.args.self.now.words.places.valid.parts.0 in
    begun_finds l (1 + (scan_steps l unit_looks 1 lows l.parts + spare_left l error_steps (slice_index lows l.parts))) (marked_steps l seek_steps lows) c.args.from (rows_of l) _ _ c.find_past_parts.result (omega arith) c.requires.from c.find_past_parts.ensures.told

pub find_past_parts-requires-in_default-clause-units : goal.find_past_parts-requires-in_default-clause-units
find_past_parts-requires-in_default-clause-units c = units_kept c.args.units.now.committed _ _ _ _ _ c.in_default.ensures.told.walk c.requires.units

pub returns-in_default-clause-told : goal.returns-in_default-clause-told
returns-in_default-clause-told c = let l : Limits = table_limits c.args.self.now.words in let e : c.part_rows-parts.result ≡ part_rows l = c.part_rows-parts.ensures ∙ ap part_rows (sym c.args.self.now.same) in let less = c.if-from-parts.false in
    let lows = c.args.lows.now in let k = 1 + (scan_steps l unit_looks 1 lows l.parts + spare_left l error_steps (slice_index lows l.parts)) in let all = bare_before l lows c.args.self.now.words.places.valid.parts.0 in
    let v = view_of c.args.seat.now in let w = view_of c.first_headed.new.seat in let y = view_of c.find_past_parts-in_default.new.seat in let o = c.find_past_parts-in_default.result in
    finds_behind l 0 (l.parts + k) (marked_steps l seek_steps lows) c.args.from (rows_of l) v v y o (omega arith) (looked_none l v c.requires.steady.steady)
    (find_both l l.parts k c.args.from v w y o (omega arith) c.in_default.ensures.told
    (subst (λ z. MatchOption o (Begun l (PassedOver l) k z (rows_of l) w y)
    (λ id. (z ≤ id) × (id < rows_of l) × Hits l id (seen_by c.find_past_parts-in_default.new.seat) × Sought l k (EachRow (PassedOver l) z id) w y)) e c.find_past_parts-in_default.ensures.told))

pub none_parked-requires-clause-remembers : goal.none_parked-requires-clause-remembers
none_parked-requires-clause-remembers c = let l : Limits = table_limits c.args.self.now.words in let p = c.in-Some.part in
    units_kept c.args.units.now.committed _ _ _ _ _ (listed_looked l (p + (l.rows - slice_index c.args.lows.now p)) c.args.from c.in-Some.row c.args.lows.now _ _ c.requires.steady.steady c.in-Some.ensures.told.2).walk c.requires.units

pub returns-then-none_parked-clause-told : goal.returns-then-none_parked-clause-told
returns-then-none_parked-clause-told c = let l : Limits = table_limits c.args.self.now.words in let lows = c.args.lows.now in let p = c.in-Some.part in let told = c.in-Some.ensures.told in
    let n = p + (l.rows - slice_index lows p) in let m = scan_steps l unit_looks 1 lows l.parts in let all = heads_before l lows p told.0.0 in
    let v = view_of c.args.seat.now in let w = view_of c.first_headed.new.seat in let y = view_of c.none_parked.new.seat in
    sought_few l (n + m) (marked_steps l seek_steps lows) (EachRow (PassedOver l) c.args.from (rows_of l)) v y (omega arith)
    (sought_behind l n m (PassedOver l) (over_widens l) c.args.from (rows_of l) v w y (listed_looked l n c.args.from c.in-Some.row lows v w c.requires.steady.steady told.2) (over_from l m c.args.from w y (c.none_parked.ensures.none c.if-none_parked.true)))

pub returns-clause-units : goal.returns-clause-units
returns-clause-units c = units_kept c.none_parked.new.units.committed _ _ _ _ _ (finds_acted _ _ c.in-Some.row _ _ _ c.find_walking-2.result c.find_walking-2.ensures.told).walk c.none_parked.ensures.remembers

pub returns-clause-told : goal.returns-clause-told
returns-clause-told c = let l : Limits = table_limits c.args.self.now.words in let lows = c.args.lows.now in let p = c.in-Some.part in let told = c.in-Some.ensures.told in
    let n = p + (l.rows - slice_index lows p) in let m = scan_steps l unit_looks 1 lows l.parts in let k = parts_walk l lows p + spare_left l error_steps (slice_index lows l.parts) in let all = heads_before l lows p told.0.0 in
    let v = view_of c.args.seat.now in let w = view_of c.first_headed.new.seat in let y = view_of c.none_parked.new.seat in let z = view_of c.find_walking-2.new.seat in let o = c.find_walking-2.result in
    finds_listed l n (m + k) (marked_steps l seek_steps lows) c.args.from c.in-Some.row (rows_of l) lows v w z o (omega arith) told.1 c.requires.remembers told.2
    (finds_behind l m k (m + k) c.in-Some.row (rows_of l) w y z o (omega arith) c.none_parked.ensures.looked c.find_walking-2.ensures.told)

-- the walk alone, where all is known finished
pub returns-then-lows-part-clause-told : goal.returns-then-lows-part-clause-told
returns-then-lows-part-clause-told c = let l : Limits = table_limits c.args.self.now.words in let lows = c.args.lows.now in let p = c.in-Some.part in let told = c.in-Some.ensures.told in
    let n = p + (l.rows - slice_index lows p) in let k = parts_walk l lows p + spare_left l error_steps (slice_index lows l.parts) in let all = heads_before l lows p told.0.0 in
    let v = view_of c.args.seat.now in let w = view_of c.first_headed.new.seat in let z = view_of c.find_walking.new.seat in
    finds_listed l n k (marked_steps l seek_steps lows) c.args.from c.in-Some.row (rows_of l) lows v w z c.find_walking.result (omega arith) told.1 c.requires.remembers told.2 c.find_walking.ensures.told

pub returns-then-lows-part-clause-units : goal.returns-then-lows-part-clause-units
returns-then-lows-part-clause-units c = let l : Limits = table_limits c.args.self.now.words in let p = c.in-Some.part in let counts = c.args.units.now.committed in
    let seen = units_kept counts _ _ _ _ _ (listed_looked l (p + (l.rows - slice_index c.args.lows.now p)) c.args.from c.in-Some.row c.args.lows.now _ _ c.requires.steady.steady c.in-Some.ensures.told.2).walk c.requires.units in
    units_kept counts _ _ _ _ _ (finds_acted _ _ c.in-Some.row _ _ _ c.find_walking.result c.find_walking.ensures.told).walk seen

pub returns-then-none_parked-clause-remembers : goal.returns-then-none_parked-clause-remembers
returns-then-none_parked-clause-remembers c = let l : Limits = table_limits c.args.self.now.words in let lows = c.args.lows.now in let p = c.in-Some.part in
    let seen = remembers_kind 0 lows _ _ _ _ _ (listed_looked l (p + (l.rows - slice_index lows p)) c.args.from c.in-Some.row lows _ _ c.requires.steady.steady c.in-Some.ensures.told.2).walk c.requires.remembers in
    remembers_kind 0 lows _ _ _ _ _ c.none_parked.ensures.looked.walk seen

pub returns-then-none_parked-clause-drawn : goal.returns-then-none_parked-clause-drawn
returns-then-none_parked-clause-drawn c = let l : Limits = table_limits c.args.self.now.words in let lows = c.args.lows.now in let p = c.in-Some.part in
    let heads = listed_looked l (p + (l.rows - slice_index lows p)) c.args.from c.in-Some.row lows (view_of c.args.seat.now) (view_of c.first_headed.new.seat) c.requires.steady.steady c.in-Some.ensures.told.2 in
    drawn_walked _ _ _ _ _ c.args.drawn.now heads.walk.steady.pass.1 c.none_parked.ensures.looked.walk (drawn_walked _ _ _ _ _ c.args.drawn.now c.requires.steady.steady.pass.1 heads.walk c.requires.drawn)

pub find_walking-requires-2-clause-remembers : goal.find_walking-requires-2-clause-remembers
find_walking-requires-2-clause-remembers c = let l : Limits = table_limits c.args.self.now.words in let lows = c.args.lows.now in let p = c.in-Some.part in
    let seen = remembers_kind 0 lows _ _ _ _ _ (listed_looked l (p + (l.rows - slice_index lows p)) c.args.from c.in-Some.row lows _ _ c.requires.steady.steady c.in-Some.ensures.told.2).walk c.requires.remembers in
    remembers_kind 0 lows _ _ _ _ _ c.none_parked.ensures.looked.walk seen
