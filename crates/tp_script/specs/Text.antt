-- The lines of a script, the words of a line, and what a word says.
use Rattle.std.specs.Prelude.{ℕ, List, Bool, ◌&&◌, Option, Some, None, length, filter, not, nat_le, ◌==◌}
use Rattle.std.specs.Prelude.{if◌then◌else◌}
use Rattle.std.specs.List.{slice_split, list_all}
use Rattle.std.specs.Char.{is_ascii_digit}
use Rattle.std.specs.Str.Parse.{digits_value}

-- a line ends with byte 10
abbrev pub lines : List ℕ → List (List ℕ)
lines script = slice_split (λ b. b == 10) script

-- what is between spaces
abbrev pub words : List ℕ → List (List ℕ)
words line = filter (λ w. not (length w == 0)) (slice_split (λ b. b == 32) line)

-- 1 to 20 digits
abbrev pub is_numeral : List ℕ → Bool
is_numeral word = not (length word == 0) && nat_le (length word) 20 && list_all is_ascii_digit word

-- the number that a word of 1 to 20 digits says, where it is at most this
abbrev pub number : ℕ → List ℕ → Option ℕ
number most word = if is_numeral word && nat_le (digits_value 10 word) most then Some (digits_value 10 word)
    else None
