-- What a desk asks of its server.
use Rattle.std.specs.Prelude.{ℕ, List, [], ◌∷◌, ◌++◌, Option, Some, None}
use Rattle.std.specs.Option.{option_map}
use Rattle.tp_model.specs.declared.event.Event.{Event}
use Rattle.tp_model.specs.declared.types.Element.{Element}
use Rattle.tp_model.specs.declared.types.Outcome.{Outcome}
use Rattle.tp_model.specs.declared.types.Outcome.TheVariants as outcomes
use Rattle.tp_model.specs.History.{element_of}
use Rattle.tp_server.specs.Asked.{Asked, Prepare, Undo, commit_asked}
use Rattle.tp_server.specs.Pending.{Pending}
use Rattle.tp_server.specs.declared.turned.Turned.{Turned}
use Rattle.tp_server.specs.declared.turned.Turned.TheVariants as turneds

-- to undo prepared work, if there is any
abbrev pub undo_of : Option Pending → List Asked
undo_of None = []
undo_of (Some p) = Undo ∷ []

-- to keep prepared work where its unit was committed, and else to undo it
abbrev pub settling : Outcome → Option Pending → List Asked
settling (outcomes.Committed first count) pending = commit_asked pending
settling outcomes.Lost pending = undo_of pending
settling outcomes.Full pending = undo_of pending

-- to prepare the work of this element
abbrev pub prepare_of : Option Element → List ℕ → List Asked
prepare_of None registers = []
prepare_of (Some x) registers = Prepare x registers ∷ []

-- to commit the work of this element, which leaves these registers
abbrev pub commit_to : Option Element → List ℕ → List Asked
commit_to x after = commit_asked (option_map (λ y. record { prepared_for = y; registers = after }) x)

-- what a turn asks that had this answer, the last call first. The elements are those of the events that the
-- pass has seen. The server had the first registers before the turn, and has the second after it.
abbrev pub turn_asks : Turned → List Event → List ℕ → List ℕ → List Asked
turn_asks turneds.Idle seen registers after = []
turn_asks turneds.NoUnit seen registers after = []
turn_asks (turneds.Done unit element first count) seen registers after =
    commit_to (element_of seen element) after ++ prepare_of (element_of seen element) registers
turn_asks (turneds.Refused element why) seen registers after = prepare_of (element_of seen element) registers
turn_asks (turneds.Lost element) seen registers after = Undo ∷ prepare_of (element_of seen element) registers
turn_asks (turneds.Full element) seen registers after = Undo ∷ prepare_of (element_of seen element) registers
