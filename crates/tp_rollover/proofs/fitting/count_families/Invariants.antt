use Rattle.std.proofs.Common.{◌≡◌, ◌<◌, ◌≤◌, All, drop, length, vec_capacity}
use Rattle.std.specs.List.{fold}
use Rattle.tp_rollover.specs.Anew.{family_counted}
use Rattle.tp_rollover.specs.declared.births.Family.{Family}
use Rattle.tp_rollover.specs.declared.survivors.Survivor.{Survivor}
use Rattle.tp_rollover.proofs.fitting.count_families.Given as goal

abbrev pub invariant-loop-place : goal.invariant-loop-place
invariant-loop-place l = record {
  counted : fold family_counted l.families.items (drop l.place l.survivors) ≡ fold family_counted l.initial.families.items l.survivors;
  places : All (λ (s : Survivor). s.root < length l.families.items) l.survivors;
  space : vec_capacity l.initial.families ≤ vec_capacity l.families;
  few : All (λ (f : Family). f.left ≤ l.place) l.families.items;
}
