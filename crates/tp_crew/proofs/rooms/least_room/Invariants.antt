use Rattle.tp_crew.specs.Rooms.{IsLeastOf, part_rows_left, units_left}
use Rattle.tp_crew.proofs.rooms.least_room.Given as goal

abbrev pub invariant-loop-place : goal.invariant-loop-place
invariant-loop-place l = record {
  rows : IsLeastOf part_rows_left l.passes l.place l.least.rows;
  units : IsLeastOf (units_left l.manager.limits) l.passes l.place l.least.units;
}
