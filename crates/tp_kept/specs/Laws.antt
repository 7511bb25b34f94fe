-- What holds of all that is put down.
use Rattle.std.specs.Prelude.{◌≡◌, ℕ, List, []}
use Rattle.tp_kept.specs.Lines.{downs}
use Rattle.tp_kept.specs.Lives.{Life, answers_of}

-- Bytes are answered as they were sent: that a journal has other bytes for some, and no more of a long line than
-- tells so, changes no answer.
abbrev pub AnswersAsSent : Type 0
AnswersAsSent = (bytes : List ℕ) (l : Life) → answers_of (downs [] bytes) l ≡ answers_of bytes l
