use Rattle.std.proofs.Common.{arith, ◌≡◌}
use Rattle.tp_crew.specs.Rooms.{part_rows_left, units_left}
use Rattle.tp_crew.proofs.Least.{least_more, least_one}
use Rattle.tp_crew.proofs.rooms.least_room.Goals as goal

pub loop-place-init : goal.loop-place-init
loop-place-init c =
    let p = c.index-passes-0.result in
    let units : c.room-least.result.units ≡ units_left c.args.manager.now.limits p = omega (arith, c.room-least.ensures.units) in
    record {
      rows = least_one part_rows_left c.args.passes.now p _ c.requires.some c.index-passes-0.is c.room-least.ensures.rows;
      units = least_one (units_left c.args.manager.now.limits) c.args.passes.now p _ c.requires.some c.index-passes-0.is units;
    }

pub loop-place-preserved : goal.loop-place-preserved
loop-place-preserved c =
    let p = c.index-passes-place.result in
    let at = c.loop-place.place in
    let units : c.room-room.result.units ≡ units_left c.args.manager.now.limits p = omega (arith, c.room-room.ensures.units) in
    record {
      rows = rw (c.min.ensures) (least_more part_rows_left c.args.passes.now at _ _ p c.loop-place-test.true c.index-passes-place.is c.room-room.ensures.rows c.loop-place.invariant.rows);
      units = rw (c.min-in-loop-place.ensures) (least_more (units_left c.args.manager.now.limits) c.args.passes.now at _ _ p c.loop-place-test.true c.index-passes-place.is units c.loop-place.invariant.units);
    }
