-- Lines as they are put down in a journal, and as they are taken out of it.
use Rattle.std.specs.Prelude.{◌≡◌, ◌⊎◌, ◌||◌, ℕ, zero, suc, Bool, true, false, All, List, [], ◌∷◌, ◌++◌, if◌then◌else◌}
use Rattle.std.specs.Prelude.{◌==◌, nat_lt, length}
use Rattle.std.specs.List.{list_any}
use Rattle.tp_journal.specs.Text.{is_reserved}
use Rattle.tp_wire.specs.declared.reading.TheConstants.{MAX_KEPT}

-- a byte that marks the line in front of a dump
abbrev pub is_mark : ℕ → Bool
is_mark b = b == 2

-- a byte that no line of a client has in a journal
abbrev pub is_ours : ℕ → Bool
is_ours b = is_reserved b || is_mark b

abbrev pub IsTheirs : ℕ → Type 0
IsTheirs b = is_ours b ≡ false

-- a byte as it is put down: for one of ours, 1, which no line may have either
abbrev pub put_down : ℕ → ℕ
put_down b = if is_ours b then 1 else b

-- a byte more of a line as it is put down, of which no more is kept than tells that it is too long
abbrev pub longer : List ℕ → ℕ → List ℕ
longer line b = if nat_lt (length line) MAX_KEPT then line ++ put_down b ∷ [] else line

-- a line with its end
abbrev pub shut : List ℕ → List ℕ
shut line = line ++ 10 ∷ []

-- a last line has an end too
abbrev pub ended : List ℕ → List ℕ
ended [] = []
ended (b ∷ bs) = shut (b ∷ bs)

-- bytes as they are put down, behind what is there of a line: each line with its end
abbrev pub downs : List ℕ → List ℕ → List ℕ
downs line [] = ended line
downs line (b ∷ bs) = if b == 10 then shut line ++ downs [] bs else downs (longer line b) bs

-- a line is the journal's own: it has the byte that ends a batch
abbrev pub is_own : List ℕ → Bool
is_own line = list_any (λ b. b == 23) line

-- the lines of a text, each with its end, but for a journal's own; behind what is there of a line
abbrev pub given_from : List ℕ → List ℕ → List ℕ
given_from line [] = []
given_from line (b ∷ bs) = if b == 10 then (if is_own line then [] else line ++ 10 ∷ []) ++ given_from [] bs
    else given_from (line ++ b ∷ []) bs

abbrev pub given_in : List ℕ → List ℕ
given_in text = given_from [] text

-- so many empty lines, which stand for those that only asked
unfoldable pub empty_lines : ℕ → List ℕ
empty_lines zero = []
empty_lines (suc n) = empty_lines n ++ 10 ∷ []

-- whole lines: none, or the last one has its end
abbrev pub IsWhole : List ℕ → Type 0
IsWhole lines = (lines ≡ []) ⊎ ((front : List ℕ) × (lines ≡ front ++ 10 ∷ []))

-- whole lines of a client
abbrev pub AreWholeLines : List ℕ → Type 0
AreWholeLines lines = All IsTheirs lines × IsWhole lines

-- The bytes were taken, behind what was there of a line: these lines have ended, and what follows is put down
-- as it would be behind them all.
pub record Puts (bytes line lines line' lines' : List ℕ) : Type 0 where
  pub added : List ℕ
  pub lines_are : lines' ≡ lines ++ added
  pub ended : AreWholeLines added
  pub follows : (more : List ℕ) → downs line (bytes ++ more) ≡ added ++ downs line' more
