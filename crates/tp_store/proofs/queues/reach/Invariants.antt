use Rattle.std.proofs.Common.{◌≡◌, ◌≤◌, ◌+◌, ◌-◌, length}
use Rattle.tp_store.specs.Queues.{places_from}
use Rattle.tp_store.proofs.queues.reach.Given as goal

abbrev pub invariant-loop-alloc : goal.invariant-loop-alloc
invariant-loop-alloc l = record {
  same : places_from 0 l.sets.items ≡ places_from 0 l.fn.sets.items;
  more : length l.fn.sets.items ≤ length l.sets.items;
}

abbrev pub decreases-loop-alloc : goal.decreases-loop-alloc
decreases-loop-alloc l = (l.queue + 1) - length l.sets.items
