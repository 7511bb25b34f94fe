-- How a unit ended, with one more event.
use Rattle.std.proofs.Common.{ℕ, Option}
use Rattle.std.specs.Option.{option_or}
use Rattle.tp_model.specs.declared.event.Event.{Event}
use Rattle.tp_model.specs.History.{UnitEnd, end_by}

-- the end of unit u after the event e, where w was its end before
abbrev pub decide : ℕ → Option UnitEnd → Event → Option UnitEnd
decide u w e = option_or w (end_by u e)
