-- What was read of a session, and how a line is taken from it.
use Rattle.std.specs.Prelude.{◌≡◌, ◌≤◌, ◌⊎◌, ℕ, ◌+◌, ◌*◌, Bool, true, false, List, ◌++◌, Option, None, Some}
use Rattle.std.specs.Prelude.{IfSome, IsTrue, length, take, drop}
use Rattle.std.specs.Option.{option_map}
use Rattle.tp_wire.specs.Heard.{IsInLine, TakesBytes}
use Rattle.tp_wire.specs.declared.reading.Lines.{Lines}
use Rattle.tp_wire.specs.declared.reading.TheConstants.{MAX_KEPT}

-- what was read and isn't used yet
abbrev pub unused : Lines → List ℕ
unused l = drop l.at l.chunk.items

-- the bytes that are to come: those, and then what the reader has
abbrev pub to_come : Lines → Option (List ℕ) → Option (List ℕ)
to_come l rest = option_map (λ more. unused l ++ more) rest

-- what was taken of a line, of which so much was kept before
pub record TakesLine (ended : Bool) (old new : Lines) : Type 0 where
  pub bytes : List ℕ
  pub in_line : IsInLine bytes
  pub taken : TakesBytes ended (unused old) bytes (unused new)
  pub kept : new.line.items ≡ take MAX_KEPT (old.line.items ++ bytes)

-- how many lines may still come at most: one for each byte that isn't used yet, and for each time that the
-- reader may be asked one for each byte that it may give, and one for a line that its end cuts off
abbrev pub room : Lines → ℕ
room l = l.left * 4097 + length (unused l)

-- the reader has failed, or was asked as often as it may be in a session
abbrev pub IsOver : Bool → ℕ → ℕ → Type 0
IsOver failed most asked = IsTrue failed ⊎ (asked ≡ most)

-- how often a reader with these bytes may still be asked at most: each time it gives a byte, or it is at its
-- end, which is found out once for each line at most and once more
abbrev pub most_asks : Lines → List ℕ → ℕ
most_asks l rest = length rest + length (unused l ++ rest) + 1

-- between the two the reader was asked no more often than that, and so many times besides
abbrev pub Spends : ℕ → Lines → Option (List ℕ) → Lines → Option (List ℕ) → Type 0
Spends n old None new after = Unit {0}
Spends n old (Some before) new None = ⊥
Spends n old (Some before) new (Some after) =
    old.left + most_asks new after ≤ new.left + most_asks old before + n

-- a look for a line that finds the end of the input may have asked once besides
abbrev pub besides : Bool → ℕ
besides true = 0
besides false = 1

-- known bytes are so many that the reader may have to be asked as often as it may be
abbrev pub IsLong : Lines → Option (List ℕ) → Type 0
IsLong l rest = IfSome rest (λ bytes. l.left ≤ most_asks l bytes)
