-- What a line names so that only the one who is meant does it: a worker's work, and a client's epoch.
use Rattle.std.specs.Prelude.{ℕ, List, [], ◌∷◌, ◌==◌, if◌then◌else◌, Bool, Option, Some, None, codes, false}
use Rattle.std.specs.Prelude.{Result, Ok, Err}
use Rattle.std.specs.List.{slice_split}
use Rattle.std.specs.Str.{bytes_eq}
use Rattle.tp_script.specs.declared.fault.LineFault.{LineFault}
use Rattle.tp_script.specs.declared.fault.LineFault.TheVariants.{Syntax}
use Rattle.tp_script.specs.LineWords.{◌>>=◌, two}
use Rattle.tp_lines.specs.declared.line.Fence.{Fence}
use Rattle.tp_lines.specs.Names.{NameView}
use Rattle.tp_lines.specs.Words.{long_at, name_at, short_at}

-- ---- `=ID:TRY`

-- a word that names work
abbrev pub is_fence : List ℕ → Bool
is_fence [] = false
is_fence (b ∷ bs) = b == 61

-- the words of its numbers
abbrev pub fence_words : List ℕ → Result (List ℕ × List ℕ) LineFault
fence_words [] = Err Syntax
fence_words (b ∷ bs) = if b == 61 then two (slice_split (λ x. x == 58) bs) else Err Syntax

unfoldable pub fence_numbers : List ℕ × List ℕ → Result Fence LineFault
fence_numbers (id, tries) = do
  id ← long_at id
  tries ← short_at tries
  Ok (record { id = id; tries = tries })

-- ---- `NAME/EPOCH`

abbrev pub who_of : List (List ℕ) → Result (List ℕ × Option (List ℕ)) LineFault
who_of (name ∷ []) = Ok (name, None)
who_of (name ∷ epoch ∷ []) = Ok (name, Some epoch)
who_of ws = Err Syntax

-- the words of a name and of an epoch, which may be missing
abbrev pub who_words : List ℕ → Result (List ℕ × Option (List ℕ)) LineFault
who_words w = who_of (slice_split (λ b. b == 47) w)

-- ---- words that may be missing

abbrev pub long_if : Option (List ℕ) → Result (Option ℕ) LineFault
long_if None = Ok None
long_if (Some w) = long_at w >>= λ n. Ok (Some n)

abbrev pub name_if : Option (List ℕ) → Result (Option NameView) LineFault
name_if None = Ok None
name_if (Some w) = name_at w >>= λ n. Ok (Some n)

-- a name, or `-` where there is none
abbrev pub name_unless : List ℕ → Result (Option NameView) LineFault
name_unless w = if bytes_eq w (codes "-") then Ok None else (name_at w >>= λ n. Ok (Some n))
