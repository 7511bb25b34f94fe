-- How a worker's last unit of work ended, as an `ended` line says it.
use Rattle.std.specs.Prelude.{ℕ, List, ◌∷◌, length, ◌==◌, codes, Result, Ok, Err, if◌then◌else◌}
use Rattle.std.specs.Str.{bytes_eq}
use Rattle.tp_script.specs.declared.fault.LineFault.{LineFault}
use Rattle.tp_script.specs.declared.fault.LineFault.TheVariants.{Syntax}
use Rattle.tp_script.specs.LineWords.{◌>>=◌, require, four}
use Rattle.tp_lines.specs.declared.ends.Ending.{Ending}
use Rattle.tp_lines.specs.declared.ends.Ending.TheVariants as ending
use Rattle.tp_lines.specs.declared.line.HeadLine.{HeadLine}
use Rattle.tp_lines.specs.declared.line.HeadLine.TheVariants as head
use Rattle.tp_lines.specs.declared.line.UnitEnd.{UnitEnd}
use Rattle.tp_lines.specs.declared.line.UnitEnd.TheVariants as end
use Rattle.tp_lines.specs.Words.{long_at, name_at, one_number}

-- how it ended, by its word
unfoldable pub ending_at : List ℕ → Result Ending LineFault
ending_at w =
    if bytes_eq w (codes "done") then Ok ending.Done
    else if bytes_eq w (codes "aborted") then Ok ending.Aborted
    else if bytes_eq w (codes "lost") then Ok ending.Lost
    else Err Syntax

-- how many numbers stand behind that word
abbrev pub ending_numbers : Ending → ℕ
ending_numbers ending.Done = 4
ending_numbers ending.Aborted = 1
ending_numbers ending.Lost = 1

-- so it ended, with as many numbers behind
unfoldable pub ending_with : List ℕ → List (List ℕ) → Result Ending LineFault
ending_with w numbers = do
  how ← ending_at w
  _ ← require (length numbers == ending_numbers how) Syntax
  Ok how

-- NAME and how it ended, and the numbers behind
abbrev pub ended_words : List (List ℕ) → Result (List ℕ × Ending × List (List ℕ)) LineFault
ended_words (name ∷ how ∷ numbers) = ending_with how numbers >>= λ how. Ok (name, how, numbers)
ended_words ws = Err Syntax

-- ID UNIT FIRST COUNT
unfoldable pub done_at : List (List ℕ) → Result UnitEnd LineFault
done_at ws = do
  w ← four ws
  id ← long_at w.0
  unit ← long_at w.1
  first ← long_at w.2
  count ← long_at w.3
  Ok (end.Done id unit first count)

-- how it ended, by these numbers
abbrev pub end_of : Ending → List (List ℕ) → Result UnitEnd LineFault
end_of ending.Done ws = done_at ws
end_of ending.Aborted ws = one_number ws >>= λ id. Ok (end.Aborted id)
end_of ending.Lost ws = one_number ws >>= λ id. Ok (end.Lost id)

-- `ended NAME ..`: the words come first, then the name, then the numbers
unfoldable pub ended_said : List (List ℕ) → Result HeadLine LineFault
ended_said ws = do
  w ← ended_words ws
  name ← name_at w.0
  how ← end_of w.1 w.2
  Ok (head.Ended name how)
