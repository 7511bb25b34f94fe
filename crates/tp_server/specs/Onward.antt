-- A fold that goes on where another one ended, as over the next manager after a rollover.
use Rattle.std.specs.Prelude.{◌↔◌, ℕ, List, ◌++◌}
use Rattle.tp_server.specs.Behaviour.{Behaviour, Done, Folds}

-- the fold of one list of work after another is that of the second, from the registers to which the first
-- led
abbrev pub FoldsGoOn : Type 0
FoldsGoOn =
    (behaviour : Behaviour) (start end : List ℕ) (first rest : List Done)
    → Folds behaviour start (first ++ rest) end
    ↔ ((middle : List ℕ) × Folds behaviour start first middle × Folds behaviour middle rest end)
