-- What a server is asked to do, and what a handler is.
use Rattle.std.specs.Prelude.{◌≡◌, ℕ, Bool, true, List, [], ◌∷◌, ◌++◌, Option, Some, None}
use Rattle.tp_model.specs.declared.types.Element.{Element}
use Rattle.tp_server.specs.Pending.{Pending}

-- one call that changes a server: to prepare the work of this element, with these registers of committed
-- work; to commit this prepared work; or to undo it
pub data Asked : Type 0 where
  Prepare : Element → List ℕ → Asked
  Commit : Pending → Asked
  Undo : Asked

-- whatever was asked before, exactly these were asked since, the last one first
abbrev pub Asks : List Asked → (List Asked → Bool) → (List Asked → Bool) → Type 0
Asks since before after = (all : List Asked) → before all ≡ true → after (since ++ all) ≡ true

-- the commit of prepared work
abbrev pub commit_asked : Option Pending → List Asked
commit_asked None = []
commit_asked (Some p) = Commit p ∷ []

-- what the handler of a server is asked that was asked these: the effect at each prepare, to take note at
-- each commit, and nothing at an undo
abbrev pub handled : List Asked → List Asked
handled [] = []
handled (Prepare element registers ∷ all) = Prepare element registers ∷ handled all
handled (Commit p ∷ all) = Commit p ∷ handled all
handled (Undo ∷ all) = handled all
