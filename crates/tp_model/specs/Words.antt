-- The claim word of an element, as a plain value, and how a status is read off it and the word of its unit.
use Rattle.std.specs.Prelude.{◌≡◌, ◌⊎◌, ◌<◌, ℕ, ◌==◌, nat_lt, if◌then◌else◌, Option, Some, None, List}
use Rattle.std.specs.List.{fold}
use Rattle.tp_model.specs.declared.types.Status.{Status}
use Rattle.tp_model.specs.declared.types.Status.TheVariants.{Waiting, Held, Consumed, Parked, Killed}
use Rattle.tp_model.specs.declared.event.Event.{Event}
use Rattle.tp_model.specs.declared.event.Event.TheVariants.{Claim, Kill, Requeue}
use Rattle.tp_model.specs.History.{UnitEnd, Committed, Aborted, end_of}

-- never taken; taken for the n-th time in round r, by unit u; killed after that, with 0 and 0 if it was not
-- taken in round r; or given round r, and not taken since
pub data ClaimWord : Type 0 where
  FreeWord : ClaimWord
  TakenWord : ℕ → ℕ → ℕ → ClaimWord
  KilledWord : ℕ → ℕ → ℕ → ClaimWord
  AgainWord : ℕ → ClaimWord

-- the round in a claim word: 0 is the first
abbrev pub round_in : ClaimWord → ℕ
round_in FreeWord = 0
round_in (TakenWord n u r) = r
round_in (KilledWord n u r) = r
round_in (AgainWord r) = r

-- the claim word after a kill: the attempt, the unit and the round stay
abbrev pub kill_word : ClaimWord → ClaimWord
kill_word FreeWord = KilledWord 0 0 0
kill_word (TakenWord n u r) = KilledWord n u r
kill_word (KilledWord n u r) = KilledWord n u r
kill_word (AgainWord r) = KilledWord 0 0 r

-- the claim word of element i after one more event
abbrev pub claim_word_after : ℕ → ClaimWord → Event → ClaimWord
claim_word_after i w (Claim c u j n) = if j == i then TakenWord n u (round_in w) else w
claim_word_after i w (Kill c j) = if j == i then kill_word w else w
claim_word_after i w (Requeue c j r) = if j == i then AgainWord r else w
claim_word_after i w other = w

-- the claim word of element i
abbrev pub claim_word : List Event → ℕ → ClaimWord
claim_word h i = fold (claim_word_after i) FreeWord h

-- the status of an element that was taken for the n-th time, by unit u, which ended so or is undecided
abbrev pub taken_status : ℕ → ℕ → ℕ → Option UnitEnd → Status
taken_status limit n u None = Held u n
taken_status limit n u (Some (Committed id count)) = Consumed u
taken_status limit n u (Some Aborted) = if nat_lt n limit then Waiting n else Parked n

-- the status of an element with this claim word
abbrev pub word_status : ℕ → List Event → ClaimWord → Status
word_status limit h FreeWord = Waiting 0
word_status limit h (TakenWord n u r) = taken_status limit n u (end_of h u)
word_status limit h (KilledWord n u r) = Killed
word_status limit h (AgainWord r) = Waiting 0

-- the attempt in a claim word
abbrev pub attempt_in : ClaimWord → ℕ
attempt_in FreeWord = 0
attempt_in (TakenWord n u r) = n
attempt_in (KilledWord n u r) = n
attempt_in (AgainWord r) = 0

-- w is a later attempt than v: in a later round, or in the same one
abbrev pub IsPast : ClaimWord → ClaimWord → Type 0
IsPast v w = (round_in v < round_in w) ⊎ ((round_in v ≡ round_in w) × (attempt_in v < attempt_in w))

-- from one claim word to a later one of the same element: the attempt rises, or it is killed, and else it is
-- the same
abbrev pub Rises : ClaimWord → ClaimWord → Type 0
Rises (KilledWord n u r) w = w ≡ KilledWord n u r
Rises v w = (w ≡ v) ⊎ (IsPast v w ⊎ (w ≡ kill_word v))
