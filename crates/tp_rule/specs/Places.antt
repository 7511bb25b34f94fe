-- Where the words are in the table.
use Rattle.std.specs.Prelude.{◌≡◌, ℕ, ◌+◌, ◌*◌, ◌<◌, ◌≤◌}
use Rattle.tp_model.specs.declared.types.TheConstants.{BODY_WORDS}
use Rattle.tp_model.specs.declared.types.Limits.{Limits}
use Rattle.tp_model.specs.Steps.{rows_of, units_of}
use Rattle.tp_rule.specs.declared.places.TheConstants.{MARK_KINDS, MARK_LINE, ROW_WORDS}

-- the place of the head of row i, the first of the row's words
abbrev pub head_place : ℕ → ℕ
head_place i = ROW_WORDS * i

-- the place of word k of the body of row i
abbrev pub body_place : ℕ → ℕ → ℕ
body_place i k = head_place i + 1 + k

-- the place of the claim of row i, after its body
abbrev pub claim_place : ℕ → ℕ
claim_place i = body_place i BODY_WORDS

-- the place of the word of unit u, after those of all rows
abbrev pub unit_place : Limits → ℕ → ℕ
unit_place l u = head_place (rows_of l) + u

-- the place of the mark of kind s of part p, or of the spare rows where p is the number of parts, after the
-- words of all units: those of one kind lie side by side
abbrev pub mark_place : Limits → ℕ → ℕ → ℕ
mark_place l s p = head_place (rows_of l) + units_of l + MARK_LINE * s + p

-- the place of the counter of drawn blocks, after all marks
abbrev pub drawn_place : Limits → ℕ
drawn_place l = head_place (rows_of l) + units_of l + MARK_LINE * MARK_KINDS

-- how many words there are
abbrev pub size_of : Limits → ℕ
size_of l = drawn_place l + 1

-- a word of the table
pub data Word : Type 0 where
  HeadWord : ℕ → Word
  BodyWord : ℕ → ℕ → Word
  ClaimWord : ℕ → Word
  UnitWord : ℕ → Word
  MarkWord : ℕ → ℕ → Word
  DrawnWord : Word

-- it is there: its row, its unit or its part is, or it is the mark of the spare rows, and a body has that
-- many words; the counter of drawn blocks always is
abbrev pub IsThere : Limits → Word → Type 0
IsThere l (HeadWord i) = i < rows_of l
IsThere l (BodyWord i k) = (i < rows_of l) × (k < BODY_WORDS)
IsThere l (ClaimWord i) = i < rows_of l
IsThere l (UnitWord u) = u < units_of l
IsThere l (MarkWord s p) = (s < MARK_KINDS) × (p < MARK_LINE) × (p ≤ l.parts)
IsThere l DrawnWord = Unit {0}

-- its place
abbrev pub place_of : Limits → Word → ℕ
place_of l (HeadWord i) = head_place i
place_of l (BodyWord i k) = body_place i k
place_of l (ClaimWord i) = claim_place i
place_of l (UnitWord u) = unit_place l u
place_of l (MarkWord s p) = mark_place l s p
place_of l DrawnWord = drawn_place l

-- places of different words differ
abbrev pub PlacesDiffer : Type 0
PlacesDiffer = (l : Limits) (v w : Word) → IsThere l v → IsThere l w → place_of l v ≡ place_of l w → v ≡ w

-- each word lies in the table
abbrev pub PlacesInside : Type 0
PlacesInside = (l : Limits) (w : Word) → IsThere l w → place_of l w < size_of l
