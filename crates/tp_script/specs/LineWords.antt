-- What the words of a line say.
use Rattle.std.specs.Prelude.{ℕ, ◌-◌, ◌^◌, List, [], ◌∷◌, length, Bool, true, false, not, ◌&&◌, Option, Some}
use Rattle.std.specs.Prelude.{None, Result, Ok, Err, nat_le, ◌==◌, if◌then◌else◌, codes, count_by}
use Rattle.std.specs.List.{slice_split, list_all}
use Rattle.std.specs.Str.{bytes_eq}
use Rattle.tp_server.specs.declared.recipe.Act.{Act}
use Rattle.tp_server.specs.declared.recipe.Act.TheVariants.{Add, Take, Pass}
use Rattle.tp_server.specs.declared.recipe.Output.{Output}
use Rattle.tp_server.specs.declared.recipe.KeyFrom.{KeyFrom}
use Rattle.tp_server.specs.declared.recipe.KeyFrom.TheVariants as keys
use Rattle.tp_server.specs.declared.recipe.AmountFrom.{AmountFrom}
use Rattle.tp_server.specs.declared.recipe.AmountFrom.TheVariants as amounts
use Rattle.tp_script.specs.declared.fault.LineFault.{LineFault}
use Rattle.tp_script.specs.declared.fault.LineFault.TheVariants.{Syntax, BadNumber}
use Rattle.tp_script.specs.declared.script.Kind.{Kind}
use Rattle.tp_script.specs.declared.script.Kind.TheVariants.{Eager, Lazy}
use Rattle.tp_script.specs.Text.{number}

-- what follows, unless there is a fault
infixl 10 ◌>>=◌
abbrev pub ◌>>=◌ : {A B : Type 0} → Result A LineFault → (A → Result B LineFault) → Result B LineFault
(Ok x) >>= f = f x
(Err e) >>= f = Err e

-- the fault, unless the test is met
abbrev pub require : Bool → LineFault → Result (Unit {0}) LineFault
require true fault = Ok tt
require false fault = Err fault

-- what is there, or the fault
abbrev pub known : {A : Type 0} → Option A → LineFault → Result A LineFault
known (Some x) fault = Ok x
known None fault = Err fault

-- no word after the first
abbrev pub no_word : List (List ℕ) → Result (Unit {0}) LineFault
no_word [] = Ok tt
no_word ws = Err Syntax

-- the one word after the first
abbrev pub one_word : List (List ℕ) → Result (List ℕ) LineFault
one_word (a ∷ []) = Ok a
one_word ws = Err Syntax

-- the two words after the first
abbrev pub two : List (List ℕ) → Result (List ℕ × List ℕ) LineFault
two (a ∷ b ∷ []) = Ok (a, b)
two ws = Err Syntax

-- the three words after the first
abbrev pub three : List (List ℕ) → Result (List ℕ × List ℕ × List ℕ) LineFault
three (a ∷ b ∷ c ∷ []) = Ok (a, b, c)
three ws = Err Syntax

-- what is said by a line of one word, of two words and of three
abbrev pub of_one_word : {A : Type 0} → (List ℕ → Result A LineFault) → List (List ℕ) → Result A LineFault
of_one_word said ws = one_word ws >>= said

abbrev pub of_two_words : {A : Type 0} → (List ℕ × List ℕ → Result A LineFault) → List (List ℕ)
    → Result A LineFault
of_two_words said ws = two ws >>= said

abbrev pub of_three_words : {A : Type 0} → (List ℕ × List ℕ × List ℕ → Result A LineFault) → List (List ℕ)
    → Result A LineFault
of_three_words said ws = three ws >>= said

-- the four words after the first
abbrev pub four : List (List ℕ) → Result (List ℕ × List ℕ × List ℕ × List ℕ) LineFault
four (a ∷ b ∷ c ∷ d ∷ []) = Ok (a, b, c, d)
four ws = Err Syntax

-- a number word, up to a bound
abbrev pub number_at : ℕ → List ℕ → Result ℕ LineFault
number_at most w = known (number most w) BadNumber

-- a number word that counts from 1
unfoldable pub ordinal_at : List ℕ → Result ℕ LineFault
ordinal_at w = do
  n ← number_at (2 ^ 64 - 1) w
  _ ← require (nat_le 1 n) BadNumber
  Ok n

-- the four words of a body
unfoldable pub body_numbers : List ℕ × List ℕ × List ℕ × List ℕ → Result (List ℕ) LineFault
body_numbers (key, amount, word_two, word_three) = do
  key ← number_at (2 ^ 64 - 1) key
  amount ← number_at (2 ^ 64 - 1) amount
  word_two ← number_at (2 ^ 64 - 1) word_two
  word_three ← number_at (2 ^ 64 - 1) word_three
  Ok (key ∷ amount ∷ word_two ∷ word_three ∷ [])

-- W0:W1:W2:W3
unfoldable pub body_at : List ℕ → Result (List ℕ) LineFault
body_at w = four (slice_split (λ b. b == 58) w) >>= λ ws. body_numbers ws

-- a name is 1 to 8 small letters
abbrev pub is_name : List ℕ → Bool
is_name w = not (length w == 0) && nat_le (length w) 8 && list_all (λ b. nat_le 97 b && nat_le b 122) w

-- `eager` or `lazy`
unfoldable pub kind_at : List ℕ → Result Kind LineFault
kind_at w =
    if bytes_eq w (codes "eager") then Ok Eager else if bytes_eq w (codes "lazy") then Ok Lazy else Err Syntax

-- `add`, `take` or `pass`
unfoldable pub act_named : List ℕ → Result Act LineFault
act_named w = if bytes_eq w (codes "add") then Ok Add else if bytes_eq w (codes "take") then Ok Take
    else if bytes_eq w (codes "pass") then Ok Pass else Err Syntax

-- the place of the amount in a body: `1`, `2` or `3`
unfoldable pub place_at : List ℕ → Result ℕ LineFault
place_at w = if bytes_eq w (codes "1") then Ok 1 else if bytes_eq w (codes "2") then Ok 2
    else if bytes_eq w (codes "3") then Ok 3 else Err Syntax

-- an act, and the place of its amount: 1 where none is said
abbrev pub act_words : List (List ℕ) → Result (List ℕ × List ℕ) LineFault
act_words (act ∷ []) = Ok (act, codes "1")
act_words (act ∷ place ∷ []) = Ok (act, place)
act_words ws = Err Syntax

-- ACT or ACT:PLACE
unfoldable pub act_and_place : List ℕ → Result (Act × ℕ) LineFault
act_and_place w = do
  parts ← act_words (slice_split (λ b. b == 58) w)
  act ← act_named parts.0
  place ← place_at parts.1
  Ok (act, place)

-- the key of an output: `same` or a number
unfoldable pub key_at : List ℕ → Result KeyFrom LineFault
key_at w = if bytes_eq w (codes "same") then Ok keys.Same else do
  n ← number_at (2 ^ 64 - 1) w
  Ok (keys.Fixed n)

-- the amount of an output: `same`, `after` or a number
unfoldable pub amount_at : List ℕ → Result AmountFrom LineFault
amount_at w =
    if bytes_eq w (codes "same") then Ok amounts.Same
    else if bytes_eq w (codes "after") then Ok amounts.After else do
      n ← number_at (2 ^ 64 - 1) w
      Ok (amounts.Fixed n)

-- an output has exactly two colons
abbrev pub has_two_colons : List ℕ → Bool
has_two_colons w = count_by (λ b. b == 58) w == 2

-- STAGE:KEY:AMOUNT
unfoldable pub output_at : List ℕ → Result Output LineFault
output_at w = do
  parts ← three (slice_split (λ b. b == 58) w)
  stage ← number_at 255 parts.0
  key ← key_at parts.1
  amount ← amount_at parts.2
  Ok (record { stage = stage; key = key; amount = amount })

-- one output after the other
unfoldable pub outputs_at : List (List ℕ) → Result (List Output) LineFault
outputs_at [] = Ok []
outputs_at (w ∷ ws) = do
  first ← output_at w
  others ← outputs_at ws
  Ok (first ∷ others)
