-- What holds of all sessions.
use Rattle.std.specs.Prelude.{◌≡◌, ℕ, ◌+◌, true, List, ◌++◌, length}
use Rattle.tp_session.specs.Asking.{only_asks}
use Rattle.tp_session.specs.Retold.{AreInOrder}
use Rattle.tp_session.specs.Session.{line_step, lines_step}
use Rattle.tp_session.specs.State.{SessionState}

-- A session goes on from its lines: what some first ones leave, given to others, is what all of them leave; and
-- all are answered what the first ones are, and then the others. So a log of the lines leads where they led.
abbrev pub GoesOnFromLines : Type 0
GoesOnFromLines = (past : ℕ) (first others : List (List ℕ)) (s : SessionState)
    → let before = lines_step past first s in
    let behind = lines_step (past + length first) others before.1 in
    lines_step past (first ++ others) s ≡ (before.0 ++ behind.0, behind.1)

-- Lines that only ask change nothing. (The names of workers stand in their order, as in each session.)
abbrev pub AskingChangesNothing : Type 0
AskingChangesNothing = (n : ℕ) (bytes : List ℕ) (s : SessionState) → AreInOrder s.workers
    → only_asks bytes s ≡ true → (line_step n bytes s).1 ≡ s
