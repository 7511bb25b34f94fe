-- How a shelf keeps an element: what may be missing, and how it stands, without the room for each case.
use Rattle.std.specs.Prelude.{ℕ, Bool, true, false, Option, Some, None}
use Rattle.tp_store.specs.declared.element.Status.{Status}
use Rattle.tp_store.specs.declared.element.Status.TheVariants.{Waiting, Held, Consumed, Parked, Killed}
use Rattle.tp_store.specs.declared.kept.Kind.{Kind}
use Rattle.tp_store.specs.declared.kept.Kind.TheVariants as kinds

-- a number, where there is one
abbrev pub if_some : Bool → ℕ → Option ℕ
if_some true n = Some n
if_some false n = None

-- the status of a kind, with its unit and attempts
abbrev pub status_of : Kind → ℕ → ℕ → Status
status_of kinds.Waiting unit attempts = Waiting attempts
status_of kinds.Held unit attempts = Held unit attempts
status_of kinds.Consumed unit attempts = Consumed unit
status_of kinds.Parked unit attempts = Parked attempts
status_of kinds.Killed unit attempts = Killed
