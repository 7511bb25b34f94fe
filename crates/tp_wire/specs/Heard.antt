-- The lines of a session's bytes, and what is told and not written yet.
use Rattle.std.specs.Prelude.{◌≡◌, ◌==◌, ℕ, Bool, true, false, List, [], ◌∷◌, ◌++◌, All, Option, Some, None}
use Rattle.std.specs.Prelude.{take}
use Rattle.std.specs.Prelude.{IfSome}
use Rattle.std.specs.Io.KnownBytes.{Appends, Consumes}
use Rattle.tp_script.specs.Text.{lines}
use Rattle.tp_wire.specs.declared.reading.TheConstants.{MAX_KEPT}

-- without the last of these, where it is empty
abbrev pub but_empty_last : List (List ℕ) → List (List ℕ)
but_empty_last [] = []
but_empty_last ([] ∷ []) = []
but_empty_last ((b ∷ bs) ∷ []) = (b ∷ bs) ∷ []
but_empty_last (first ∷ (next ∷ others)) = first ∷ but_empty_last (next ∷ others)

-- the lines of bytes, as those of a script. Behind the last byte 10 is a line where there is a byte.
abbrev pub heard : List ℕ → List (List ℕ)
heard bytes = but_empty_last (lines bytes)

-- from known bytes these lines were taken, and then others are left
abbrev pub Hears : Option (List ℕ) → List (List ℕ) → Option (List ℕ) → Type 0
Hears None taken after = Unit {0}
Hears (Some before) taken None = ⊥
Hears (Some before) taken (Some after) = heard before ≡ taken ++ heard after

-- these lines were taken from known bytes, whatever is left
abbrev pub HearsFront : Option (List ℕ) → List (List ℕ) → Type 0
HearsFront before taken = IfSome before (λ bytes. (rest : List (List ℕ)) × (heard bytes ≡ taken ++ rest))

-- these are all lines of known bytes
abbrev pub IsAllOf : Option (List ℕ) → List (List ℕ) → Type 0
IsAllOf before taken = IfSome before (λ bytes. heard bytes ≡ taken)

-- no line is left in known bytes
abbrev pub IsSilent : Option (List ℕ) → Type 0
IsSilent before = IfSome before (λ bytes. heard bytes ≡ [])

-- no byte ends a line
abbrev pub IsInLine : List ℕ → Type 0
IsInLine bytes = All (λ b. (b == 10) ≡ false) bytes

-- these bytes of a line were taken: up to its end, and that too, or all that was there
abbrev pub TakesBytes : Bool → List ℕ → List ℕ → List ℕ → Type 0
TakesBytes true before bytes after = before ≡ bytes ++ 10 ∷ after
TakesBytes false before bytes after = (before ≡ bytes) × (after ≡ [])

-- what was read of a line since its beginning, and what is kept of it
pub record ReadsLine (before after : Option (List ℕ)) (kept : List ℕ) : Type 0 where
  pub bytes : List ℕ
  pub in_line : IsInLine bytes
  pub consumed : Consumes before after bytes
  pub kept_is : kept ≡ take MAX_KEPT bytes

-- the next line was taken, of which the first bytes are kept; or there is none
abbrev pub Next : Bool → Option (List ℕ) → List ℕ → Option (List ℕ) → Type 0
Next true before kept after = (line : List ℕ) × (kept ≡ take MAX_KEPT line) × Hears before (line ∷ []) after
Next false before kept after = Hears before [] after × IsSilent after

-- of this text a front is written, and the rest is among the answers
abbrev pub Tells : Option (List ℕ) → Option (List ℕ) → List ℕ → List ℕ → Type 0
Tells before now answers text = (written : List ℕ) × Appends before now written × (text ≡ written ++ answers)
