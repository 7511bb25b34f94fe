-- What is recovered of what a crash leaves.
use Rattle.std.specs.Prelude.{◌≡◌, ◌⊎◌, ◌<◌, ◌^◌, ℕ, List, decimal, drop, length}
use Rattle.tp_journal.specs.Text.{HasSealed, HasTorn, IsAtRest, IsBatch, IsDamage, IsRecovered, IsSealed}
use Rattle.tp_journal.specs.Text.{IsText, sealed_batch, text_of, with_batch}

-- A text was acknowledged, a batch was appended, and a crash left a file: what is recovered of it is the
-- text, or the text with the whole batch and its end.
abbrev pub KeepsBatches : Type 0
KeepsBatches =
    (text batch file recovered : List ℕ) → length (with_batch text batch) < 2 ^ 64
    → IsText text → IsSealed text → IsBatch batch → HasTorn text (sealed_batch text batch) file
    → IsRecovered file recovered
    → (recovered ≡ text) ⊎ (recovered ≡ with_batch text batch)

-- Of a file that is at rest its text is recovered.
abbrev pub KeepsText : Type 0
KeepsText =
    (text file recovered : List ℕ) → IsSealed text → IsAtRest text file → IsRecovered file recovered
    → recovered ≡ text

-- A file that a crash has left so is never told to be damaged.
abbrev pub TellsNoCrash : Type 0
TellsNoCrash =
    (text batch file longest : List ℕ) → length (with_batch text batch) < 2 ^ 64
    → IsText text → IsSealed text → IsBatch batch → HasTorn text (sealed_batch text batch) file
    → HasSealed (text_of file) longest
    → IsDamage (decimal (length longest)) (drop (length longest) file) → ⊥
