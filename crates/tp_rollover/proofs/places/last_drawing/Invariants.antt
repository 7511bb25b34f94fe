use Rattle.std.proofs.Common.{◌≡◌, ◌-◌, List, length}
use Rattle.tp_model.specs.declared.event.Event.{Event}
use Rattle.tp_rollover.specs.Thread.{thread_of}
use Rattle.tp_rollover.specs.Anew.{last_below, would_draw}
use Rattle.tp_rollover.proofs.places.last_drawing.Given as goal

abbrev pub invariant-loop-back : goal.invariant-loop-back
invariant-loop-back l = (h : List Event) → let holds = would_draw l.kept (thread_of l.manager.limits l.passes h) l.rows l.units in
    last_below holds (length l.passes) ≡ last_below holds (length l.passes - l.back)
