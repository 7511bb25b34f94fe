use Rattle.std.proofs.Common.{◌≡◌, ◌++◌, ◌-◌, ℕ, filter, take}
use Rattle.tp_store.specs.Listing.{is_among_from, listed}
use Rattle.tp_store.specs.Queues.{AreIdsFrom}
use Rattle.tp_store.specs.declared.group.Group.TheVariants.{Queue}
use Rattle.tp_store.proofs.shelf.all_waiting.Given as goal

abbrev pub invariant-loop-step : goal.invariant-loop-step
invariant-loop-step l = (next : ℕ) × AreIdsFrom l.queues l.queue next l.ids
    × (l.list.items ++ take (l.most - l._step) (filter (is_among_from (Queue l.queue) next) l.elements.entries)
    ≡ listed (Queue l.queue) l.from l.most l.elements.entries)
