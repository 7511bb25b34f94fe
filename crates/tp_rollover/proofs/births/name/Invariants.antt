use Rattle.std.proofs.Common.{◌≡◌, ◌+◌, ◌++◌, ◌≤◌, length, take, vec_capacity}
use Rattle.tp_rollover.specs.Anew.{named}
use Rattle.tp_rollover.proofs.births.name.Given as goal

abbrev pub invariant-loop-place : goal.invariant-loop-place
invariant-loop-place l = record {
  named : l.moved.items ≡ l.initial.moved.items ++ named l.group.root l.group.first (take l.place l.rest);
  many : length l.moved.items ≡ length l.initial.moved.items + l.place;
  space : vec_capacity l.initial.moved ≤ vec_capacity l.moved;
}
