use Rattle.std.proofs.Common.{◌≡◌, ◌-◌, List, length}
use Rattle.tp_model.specs.declared.event.Event.{Event}
use Rattle.tp_rollover.specs.Thread.{thread_of}
use Rattle.tp_rollover.specs.Anew.{first_from, has_left}
use Rattle.tp_rollover.proofs.places.first_with.Given as goal

abbrev pub invariant-loop-at : goal.invariant-loop-at
invariant-loop-at l = (h : List Event) → let holds = has_left l.kept (thread_of l.manager.limits l.passes h) l.rows l.units in
    first_from holds l.from (length l.passes - l.from) ≡ first_from holds l.at (length l.passes - l.at)
