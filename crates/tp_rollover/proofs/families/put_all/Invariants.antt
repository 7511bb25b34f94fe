use Rattle.std.proofs.Common.{◌≡◌, length, take}
use Rattle.tp_rollover.specs.Checks.{AreFrom, AreInTables}
use Rattle.tp_rollover.proofs.families.put_all.Given as goal

abbrev pub invariant-loop-place : goal.invariant-loop-place
invariant-loop-place l = record {
  tables : AreInTables l.new_roots l.old_roots (take l.place l.moved);
  from : AreFrom l.new_roots l.old_roots (take l.place l.moved);
  long : (length l.new_roots ≡ length l.initial.new_roots) × (length l.old_roots ≡ length l.initial.old_roots);
}
