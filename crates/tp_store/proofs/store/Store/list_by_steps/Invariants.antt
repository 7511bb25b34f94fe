use Rattle.std.proofs.Common.{◌≡◌, ◌++◌, ◌-◌, filter, take}
use Rattle.tp_store.specs.Listing.{is_among_from, listed}
use Rattle.tp_store.proofs.store.Store.list_by_steps.Given as goal

abbrev pub invariant-loop-step : goal.invariant-loop-step
invariant-loop-step l = l.list.items ++ take (l.most - l._step) (filter (is_among_from l.group l.next) l.self.elements)
    ≡ listed l.group l.fn.from l.most l.self.elements
