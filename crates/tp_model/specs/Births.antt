-- The elements that calls make: a client's request, and the outputs of a unit.
use Rattle.std.specs.Prelude.{ℕ, ◌+◌, Some, None, List, [], ◌∷◌}
use Rattle.tp_model.specs.declared.types.Element.{Element}
use Rattle.tp_model.specs.Drafts.{DraftView}
use Rattle.tp_model.specs.Steps.{IsStage, IsBody}

-- the element that a client's submit makes
abbrev pub request : ℕ → ℕ → List ℕ → Element
request id stage body = record { id = id; stage = stage; root = id; body = body; by = None }

-- a draft is for a stage that an output may go to, and its body is whole
abbrev pub IsWhole : DraftView → Type 0
IsWhole d = IsStage d.stage × IsBody d.body

-- the outputs of unit u that these drafts become, with ids from `id` on
abbrev pub outputs : ℕ → ℕ → ℕ → List DraftView → List Element
outputs u root id [] = []
outputs u root id (d ∷ ds) = record { id = id; stage = d.stage; root = root; body = d.body; by = Some u }
    ∷ outputs u root (id + 1) ds
