use Rattle.std.proofs.Common.{◌≡◌, ◌*◌, ◌≤◌, All, length, vec_capacity}
use Rattle.tp_rollover.specs.Anew.{all_born}
use Rattle.tp_rollover.specs.Bounds.{AllMake, bear_steps}
use Rattle.tp_rollover.specs.Fits.{HasFamilyPlace}
use Rattle.tp_rollover.specs.Lone.{AreLone, bearing, lone}
use Rattle.tp_rollover.proofs.BirthsAll.{IsSoFar}
use Rattle.tp_rollover.proofs.births.bear_all.Given as goal

abbrev pub invariant-loop-turn : goal.invariant-loop-turn
invariant-loop-turn l = record {
  alone : AreLone l.manager l.keeper l.passes × (l.keeper.given ≡ l.initial.keeper.given);
  few : length l.moved.items ≤ length l.survivors;
  space : vec_capacity l.initial.moved ≤ vec_capacity l.moved;
  families : vec_capacity l.initial.families ≤ vec_capacity l.families;
  turns : l._turn ≤ length l.moved.items;
  made : AllMake (length l.moved.items * bear_steps l.manager.limits l.initial.keeper.given 1) l.initial.keeper l.initial.passes l.keeper l.passes;
  may : All (HasFamilyPlace l.families.items) l.survivors;
  so_far : IsSoFar l.of.limits (length l.initial.passes) l.survivors l.moved.items (bearing l.manager l.keeper l.passes l.cursor l.families.items) (all_born l.of.limits (length l.initial.passes) l.survivors (lone l.manager l.initial.keeper l.initial.passes));
}
