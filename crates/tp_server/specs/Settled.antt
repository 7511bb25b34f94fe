-- What a turn comes to by the answer of its commit.
use Rattle.std.specs.Prelude.{ℕ}
use Rattle.tp_model.specs.declared.types.Outcome.{Outcome}
use Rattle.tp_model.specs.declared.types.Outcome.TheVariants as outcomes
use Rattle.tp_model.specs.declared.types.Work.{Work}
use Rattle.tp_server.specs.declared.turned.Turned.{Turned}
use Rattle.tp_server.specs.declared.turned.Turned.TheVariants as turneds

-- the answer of a turn whose unit, which had taken this element, was committed with this answer
abbrev pub settled_as : ℕ → ℕ → Outcome → Turned
settled_as unit element (outcomes.Committed first count) = turneds.Done unit element first count
settled_as unit element outcomes.Lost = turneds.Lost element
settled_as unit element outcomes.Full = turneds.Full element

-- the answer of a turn whose commit had this answer
abbrev pub settled : Work → Outcome → Turned
settled work outcome = settled_as work.unit work.element.id outcome
