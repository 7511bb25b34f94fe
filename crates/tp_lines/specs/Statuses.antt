-- How an element stands, as its line says it.
use Rattle.std.specs.Prelude.{ℕ, List, length, ◌==◌, codes, Result, Ok, Err, if◌then◌else◌}
use Rattle.std.specs.Str.{bytes_eq}
use Rattle.tp_store.specs.declared.element.Status.{Status}
use Rattle.tp_store.specs.declared.element.Status.TheVariants as status
use Rattle.tp_script.specs.declared.fault.LineFault.{LineFault}
use Rattle.tp_script.specs.declared.fault.LineFault.TheVariants.{Syntax}
use Rattle.tp_script.specs.LineWords.{◌>>=◌, require, no_word, one_word, two, number_at}
use Rattle.tp_lines.specs.declared.statuses.Standing.{Standing}
use Rattle.tp_lines.specs.declared.statuses.Standing.TheVariants as standing
use Rattle.tp_lines.specs.Words.{long_at, one_number}

-- how it stands, by its word
unfoldable pub standing_at : List ℕ → Result Standing LineFault
standing_at w =
    if bytes_eq w (codes "waiting") then Ok standing.Waiting
    else if bytes_eq w (codes "held") then Ok standing.Held
    else if bytes_eq w (codes "consumed") then Ok standing.Consumed
    else if bytes_eq w (codes "parked") then Ok standing.Parked
    else if bytes_eq w (codes "killed") then Ok standing.Killed
    else Err Syntax

-- how many numbers stand behind that word
abbrev pub standing_numbers : Standing → ℕ
standing_numbers standing.Waiting = 1
standing_numbers standing.Held = 2
standing_numbers standing.Consumed = 1
standing_numbers standing.Parked = 1
standing_numbers standing.Killed = 0

-- so it stands, with as many numbers behind
unfoldable pub standing_with : List ℕ → List (List ℕ) → Result Standing LineFault
standing_with w numbers = do
  how ← standing_at w
  _ ← require (length numbers == standing_numbers how) Syntax
  Ok how

-- how many attempts there were
abbrev pub attempts_at : List (List ℕ) → Result ℕ LineFault
attempts_at ws = one_word ws >>= λ w. number_at 255 w

-- which unit holds it, and which attempt that is
unfoldable pub held_at : List (List ℕ) → Result Status LineFault
held_at ws = do
  w ← two ws
  unit ← long_at w.0
  attempt ← number_at 255 w.1
  Ok (status.Held unit attempt)

-- its status, by these numbers
abbrev pub status_of : Standing → List (List ℕ) → Result Status LineFault
status_of standing.Waiting ws = attempts_at ws >>= λ n. Ok (status.Waiting n)
status_of standing.Held ws = held_at ws
status_of standing.Consumed ws = one_number ws >>= λ unit. Ok (status.Consumed unit)
status_of standing.Parked ws = attempts_at ws >>= λ n. Ok (status.Parked n)
status_of standing.Killed ws = no_word ws >>= λ _. Ok status.Killed
