use Rattle.std.proofs.Common.{◌≡◌, ◌++◌, ◌-◌, ◌<◌, ℕ, filter, take}
use Rattle.tp_store.specs.Listing.{is_among_from, listed}
use Rattle.tp_store.specs.Queues.{ArePlacesFrom}
use Rattle.tp_store.specs.declared.group.Group.TheVariants.{Family}
use Rattle.tp_store.proofs.shelf.add_members.Given as goal

abbrev pub invariant-loop-step : goal.invariant-loop-step
invariant-loop-step l = (next : ℕ) × (l.root < next) × ArePlacesFrom l.families l.root next l.places
    × (l.list.items ++ take (l.most - l._step) (filter (is_among_from (Family l.root) next) l.elements.entries)
    ≡ l.fn.list.items ++ listed (Family l.root) l.from l.most l.elements.entries)
