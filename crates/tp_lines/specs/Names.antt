-- The names of servers, workers and clients.
use Rattle.std.specs.Prelude.{ℕ, ◌==◌, ◌&&◌, ◌||◌, nat_le, Bool, false, List, [], ◌∷◌, length, Option, Some}
use Rattle.std.specs.Prelude.{None}
use Rattle.std.specs.Prelude.{if◌then◌else◌}
use Rattle.std.specs.List.{list_all}
use Rattle.std.specs.Ordering.{nat_cmp}
use Rattle.std.specs.Cmp.Lexicographic.{slice_cmp}
use Rattle.std.specs.declared.cmp.Ordering.{Ordering}
use Rattle.tp_lines.specs.declared.name.TheConstants.{MAX_NAME}

-- a name, by its letters
pub record NameView : Type 0 where
  pub letters : List ℕ

-- A-Z or a-z
abbrev pub is_letter : ℕ → Bool
is_letter b = (nat_le 65 b && nat_le b 90) || (nat_le 97 b && nat_le b 122)

-- such a letter, a digit, a point, a low line or a minus
abbrev pub is_in_name : ℕ → Bool
is_in_name b = is_letter b || ((nat_le 48 b && nat_le b 57) || (b == 46 || (b == 95 || b == 45)))

-- the first byte is a letter
abbrev pub begins_with_letter : List ℕ → Bool
begins_with_letter [] = false
begins_with_letter (b ∷ bs) = is_letter b

-- 1 to 32 such bytes
abbrev pub is_name : List ℕ → Bool
is_name w = begins_with_letter w && (nat_le (length w) MAX_NAME && list_all is_in_name w)

-- names are in the order of their letters
abbrev pub name_cmp : NameView → NameView → Ordering
name_cmp a b = slice_cmp nat_cmp a.letters b.letters

-- the name that a word is, if it is one
abbrev pub name_of : List ℕ → Option NameView
name_of w = if is_name w then Some (record { letters = w }) else None
