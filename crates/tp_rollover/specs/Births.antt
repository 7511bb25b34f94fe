-- The births of a rollover.
use Rattle.std.specs.Prelude.{ℕ, Result, Ok, Err, List, length}
use Rattle.tp_rollover.specs.declared.survivors.Survivor.{Survivor}
use Rattle.tp_rollover.specs.declared.births.Group.{Group}
use Rattle.tp_rollover.specs.declared.stops.Stop.{Stop}

-- how many of the elements that are left were born, or all of them where the births stopped
abbrev pub born_of : List Survivor → Result Group Stop → ℕ
born_of rest (Ok group) = group.count
born_of rest (Err stop) = length rest
