use Rattle.std.proofs.Common.{◌≡◌, ◌≤◌, replicate, vec_capacity}
use Rattle.tp_rollover.proofs.space.refill.Given as goal

abbrev pub invariant-loop-done : goal.invariant-loop-done
invariant-loop-done g l = record {
  filled : l.places.items ≡ replicate l._done l.one;
  kept : vec_capacity l.initial.places ≤ vec_capacity l.places;
}
