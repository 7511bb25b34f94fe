-- Names and numbers in a line.
use Rattle.std.specs.Prelude.{ℕ, ◌-◌, ◌^◌, List, ◌∷◌, [], not, ◌==◌, nat_le, Option, Some, None, Result, Ok}
use Rattle.std.specs.Prelude.{Err}
use Rattle.std.specs.Prelude.{if◌then◌else◌}
use Rattle.std.specs.List.{slice_split}
use Rattle.std.specs.Str.{bytes_eq}
use Rattle.tp_store.specs.declared.element.TheConstants.{LAST_STAGE, REPLY_STAGE}
use Rattle.tp_script.specs.declared.fault.LineFault.{LineFault}
use Rattle.tp_script.specs.declared.fault.LineFault.TheVariants.{Syntax, BadNumber, BadName}
use Rattle.tp_script.specs.LineWords.{◌>>=◌, require, known, one_word, two, three, number_at, body_numbers}
use Rattle.tp_lines.specs.Names.{NameView, name_of}

-- a name
abbrev pub name_at : List ℕ → Result NameView LineFault
name_at w = known (name_of w) BadName

-- a number of 64 bits, and one of 16
abbrev pub long_at : List ℕ → Result ℕ LineFault
long_at w = number_at (2 ^ 64 - 1) w

abbrev pub short_at : List ℕ → Result ℕ LineFault
short_at w = number_at (2 ^ 16 - 1) w

-- a stage
unfoldable pub stage_at : List ℕ → Result ℕ LineFault
stage_at w = do
  stage ← number_at LAST_STAGE w
  _ ← require (nat_le 1 stage) BadNumber
  Ok stage

-- a stage that workers take from: any but that of replies
unfoldable pub worker_stage_at : List ℕ → Result ℕ LineFault
worker_stage_at w = do
  stage ← stage_at w
  _ ← require (not (stage == REPLY_STAGE)) BadNumber
  Ok stage

-- a number, or this word where there is none
unfoldable pub number_unless : List ℕ → List ℕ → Result (Option ℕ) LineFault
number_unless none w = if bytes_eq w none then Ok None else do
  n ← long_at w
  Ok (Some n)

-- five parts
abbrev pub five : List (List ℕ) → Result (List ℕ × List ℕ × List ℕ × List ℕ × List ℕ) LineFault
five (a ∷ b ∷ c ∷ d ∷ e ∷ []) = Ok (a, b, c, d, e)
five ws = Err Syntax

-- the number of a stage, and a body
unfoldable pub place_numbers : List ℕ × List ℕ × List ℕ × List ℕ × List ℕ → Result (ℕ × List ℕ) LineFault
place_numbers (stage, key, amount, word_two, word_three) = do
  stage ← short_at stage
  body ← body_numbers (key, amount, word_two, word_three)
  Ok (stage, body)

-- STAGE:W0:W1:W2:W3
unfoldable pub place_at : List ℕ → Result (ℕ × List ℕ) LineFault
place_at w = five (slice_split (λ b. b == 58) w) >>= λ ws. place_numbers ws

-- ---- all the words after the first

-- a name
abbrev pub one_name : List (List ℕ) → Result NameView LineFault
one_name ws = one_word ws >>= λ w. name_at w

-- a number
abbrev pub one_number : List (List ℕ) → Result ℕ LineFault
one_number ws = one_word ws >>= λ w. long_at w

-- three numbers
unfoldable pub three_numbers : List (List ℕ) → Result (ℕ × ℕ × ℕ) LineFault
three_numbers ws = do
  w ← three ws
  a ← long_at w.0
  b ← long_at w.1
  c ← long_at w.2
  Ok (a, b, c)

-- a name and a number
unfoldable pub name_and_number : List (List ℕ) → Result (NameView × ℕ) LineFault
name_and_number ws = do
  w ← two ws
  name ← name_at w.0
  n ← long_at w.1
  Ok (name, n)

-- a name and two numbers
unfoldable pub name_and_two : List (List ℕ) → Result (NameView × ℕ × ℕ) LineFault
name_and_two ws = do
  w ← three ws
  name ← name_at w.0
  a ← long_at w.1
  b ← long_at w.2
  Ok (name, a, b)
