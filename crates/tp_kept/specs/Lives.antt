-- Where the lines of a journal lead to.
use Rattle.std.specs.Prelude.{◌≡◌, ◌==◌, ◌⊎◌, ℕ, ◌+◌, ◌-◌, Bool, true, List, [], ◌∷◌, ◌++◌, codes, decimal}
use Rattle.std.specs.Prelude.{drop, length, take, Option, Some, None, if◌then◌else◌, nat_le}
use Rattle.std.specs.List.{list_any, starts_with}
use Rattle.tp_script.specs.Fault.{◌<>◌}
use Rattle.tp_wire.specs.Heard.{heard}
use Rattle.tp_session.specs.Conversed.{step_of}
use Rattle.tp_session.specs.Dumps.{dump_bytes, dump_of}
use Rattle.tp_session.specs.Session.{finals, has_begun, lines_step}
use Rattle.tp_session.specs.State.{SessionState, begin}
use Rattle.tp_kept.specs.Lines.{IsWhole, is_mark}
use Rattle.tp_kept.specs.Numbers.{behind_number, number_from}

-- how many lines clients have sent, and the session that these have led to
pub record Life : Type 0 where
  pub lines : ℕ
  pub session : SessionState

-- where more lines lead to
abbrev pub goes_on : List ℕ → Life → Life
goes_on bytes l = record {
  lines = l.lines + length (heard bytes);
  session = (step_of l.lines bytes l.session).1;
}

-- what these are answered, and what is told at the end of them all
abbrev pub answers_of : List ℕ → Life → List ℕ
answers_of bytes l = (step_of l.lines bytes l.session).0 ++ finals (step_of l.lines bytes l.session).1

-- ---- short journals

-- the line in front of a dump: how many lines the dump has, and for how many lines of clients it stands
abbrev pub marking : ℕ → ℕ → List ℕ
marking dumped for =
    codes "# covetrivet: " <> decimal dumped <> codes " lines for " <> decimal for <> 2 ∷ 10 ∷ []

-- a session in as many lines as it takes
abbrev pub short : Life → List ℕ
short l = marking (length (dump_of l.session)) l.lines ++ dump_bytes l.session

-- ---- what a start makes of the lines

-- such a line, which is told by its byte 2
abbrev pub is_marking : List ℕ → Bool
is_marking line = list_any is_mark line

-- its numbers
abbrev pub dumped_in : List ℕ → ℕ
dumped_in line = number_from 0 (drop 14 line)

abbrev pub for_in : List ℕ → ℕ
for_in line = number_from 0 (drop 11 (behind_number (drop 14 line)))

-- the session that these lead to
abbrev pub session_behind : List (List ℕ) → SessionState
session_behind lines = (lines_step 0 lines begin).1

-- where they do, where so many are a dump, which stands for so many
abbrev pub life_behind : ℕ → ℕ → List (List ℕ) → Option Life
life_behind dumped for lines = if nat_le dumped (length lines)
    then Some (record { lines = for + (length lines - dumped); session = session_behind lines }) else None

abbrev pub life_of_lines : List (List ℕ) → Option Life
life_of_lines [] = Some (record { lines = 0; session = begin })
life_of_lines (first ∷ others) =
    if is_marking first then life_behind (dumped_in first) (for_in first) others
    else life_behind 0 0 (first ∷ others)

abbrev pub life_of : List ℕ → Option Life
life_of lines = life_of_lines (heard lines)

-- the dump in front of them was restored
abbrev pub is_restored_from : List (List ℕ) → Bool
is_restored_from lines = starts_with (λ a b. a == b) (lines_step 0 lines begin).0 (codes "restored ")

abbrev pub is_restored_in : List (List ℕ) → Bool
is_restored_in [] = true
is_restored_in (first ∷ others) =
    if is_marking first then is_restored_from (take (dumped_in first) others) else true

-- ---- what a journal's lines stand for

-- the dump of a session that had begun, and lines behind it, which have led from that session to this life
pub record IsShortFor (lines : List ℕ) (l : Life) : Type 0 where
  pub before : Life
  pub more : List ℕ
  pub whole : IsWhole more
  pub begun : has_begun before.session.phase ≡ true
  pub lines_are : lines ≡ short before ++ more
  pub goes : l ≡ goes_on more before

-- whole lines that lead to this life
pub record IsLongFor (lines : List ℕ) (l : Life) : Type 0 where
  pub whole : IsWhole lines
  pub leads : life_of lines ≡ Some l

-- lines stand for a life
abbrev pub StandsFor : List ℕ → Life → Type 0
StandsFor lines l = IsLongFor lines l ⊎ IsShortFor lines l
