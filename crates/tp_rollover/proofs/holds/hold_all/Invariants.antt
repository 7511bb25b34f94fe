use Rattle.std.proofs.Common.{◌≡◌, drop, length, take}
use Rattle.tp_rollover.specs.Anew.{all_held}
use Rattle.tp_rollover.specs.Bounds.{AllMake, holds_for}
use Rattle.tp_rollover.specs.Lone.{AreLone, lone}
use Rattle.tp_rollover.proofs.holds.hold_all.Given as goal

abbrev pub invariant-loop-place : goal.invariant-loop-place
invariant-loop-place l = record {
  are_lone : AreLone l.manager l.keeper l.passes;
  given : l.keeper.given ≡ l.initial.keeper.given;
  made : AllMake (holds_for l.manager.limits l.initial.keeper.given (take l.place l.survivors)) l.initial.keeper l.initial.passes l.keeper l.passes;
  goes_on : all_held (length l.initial.passes) l.survivors l.moved (lone l.manager l.initial.keeper l.initial.passes)
      ≡ all_held (length l.initial.passes) (drop l.place l.survivors) (drop l.place l.moved) (lone l.manager l.keeper l.passes);
}
