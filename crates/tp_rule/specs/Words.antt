-- The words as numbers, and which numbers are words.
use Rattle.std.specs.Prelude.{◌≡◌, ◌⊎◌, ℕ, ◌+◌, ◌*◌, ◌/◌, ◌%◌, ◌≤◌, Option, Some, None}
use Rattle.tp_model.specs.declared.types.Element.{Element}
use Rattle.tp_model.specs.History.{UnitEnd, Committed, Aborted}
use Rattle.tp_model.specs.Words.{ClaimWord, FreeWord, TakenWord, KilledWord, AgainWord}
use Rattle.tp_model.specs.declared.types.TheConstants.{MAX_ATTEMPTS, MAX_OUTPUTS, MAX_ROUNDS, REPLY_STAGE}
use Rattle.tp_rule.specs.declared.bits.TheConstants.{HEAD_EMPTY, HEAD_VOID, HEAD_PRESENT, HEAD_STAGE}
use Rattle.tp_rule.specs.declared.bits.TheConstants.{HEAD_ROOT, HEAD_BY, HEAD_TAIL, CLAIM_FREE, CLAIM_TAKEN}
use Rattle.tp_rule.specs.declared.bits.TheConstants.{CLAIM_KILLED, CLAIM_AGAIN, CLAIM_ATTEMPT, CLAIM_UNIT}
use Rattle.tp_rule.specs.declared.bits.TheConstants.{CLAIM_ROUND, UNIT_UNDECIDED, UNIT_COMMITTED}
use Rattle.tp_rule.specs.declared.bits.TheConstants.{UNIT_ABORTED, UNIT_COUNT, UNIT_FIRST, UNIT_TAIL, MAX_UNIT}
use Rattle.tp_rule.specs.declared.bits.TheConstants.{MAX_ID}
use Rattle.tp_rule.specs.declared.packing.Head.{Head}
use Rattle.tp_rule.specs.declared.packing.Head.TheVariants.{Empty, Void, Filled}
use Rattle.tp_rule.specs.declared.packing.Claim as claims
use Rattle.tp_rule.specs.declared.packing.Claim.TheVariants as claim
use Rattle.tp_rule.specs.declared.packing.UnitWord as units
use Rattle.tp_rule.specs.declared.packing.UnitWord.TheVariants as unit

-- the claim word that a `Claim` speaks of
abbrev pub claim_value : claims.Claim → ClaimWord
claim_value claim.Free = FreeWord
claim_value (claim.Taken n u r) = TakenWord n u r
claim_value (claim.Killed n u r) = KilledWord n u r
claim_value (claim.Again r) = AgainWord r

-- how a unit ended that has this word
abbrev pub unit_value : units.UnitWord → Option UnitEnd
unit_value unit.Undecided = None
unit_value (unit.Committed first count) = Some (Committed first count)
unit_value unit.Aborted = Some Aborted

-- what the head of an element says
abbrev pub head_of : Element → Head
head_of x = Filled x.stage x.root x.by

-- who made the element, as a number: 0 for a client, and u + 1 for unit u
abbrev pub pack_by : Option ℕ → ℕ
pack_by None = 0
pack_by (Some u) = u + 1

-- the head word, without its tail
abbrev pub pack_head : Head → ℕ
pack_head Empty = HEAD_EMPTY
pack_head Void = HEAD_VOID
pack_head (Filled stage root by) = HEAD_PRESENT + HEAD_STAGE * stage + HEAD_ROOT * root + HEAD_BY * pack_by by

-- the head in a head word, and the tail: how many rows right before it have heads of its stage
abbrev pub head_bits : ℕ → ℕ
head_bits word = word % HEAD_TAIL

abbrev pub tail_bits : ℕ → ℕ
tail_bits word = word / HEAD_TAIL

-- the claim word
abbrev pub pack_claim : ClaimWord → ℕ
pack_claim FreeWord = CLAIM_FREE
pack_claim (TakenWord n u r) = CLAIM_TAKEN + CLAIM_ATTEMPT * n + CLAIM_UNIT * u + CLAIM_ROUND * r
pack_claim (KilledWord n u r) = CLAIM_KILLED + CLAIM_ATTEMPT * n + CLAIM_UNIT * u + CLAIM_ROUND * r
pack_claim (AgainWord r) = CLAIM_AGAIN + CLAIM_ROUND * r

-- the word of a unit, without its tail
abbrev pub pack_unit : Option UnitEnd → ℕ
pack_unit None = UNIT_UNDECIDED
pack_unit (Some (Committed first count)) = UNIT_COMMITTED + UNIT_COUNT * count + UNIT_FIRST * first
pack_unit (Some Aborted) = UNIT_ABORTED

-- how a unit ended by its word, and the tail of a committed one: how many units right before it are committed
abbrev pub unit_bits : ℕ → ℕ
unit_bits word = word % UNIT_TAIL

abbrev pub unit_tail_bits : ℕ → ℕ
unit_tail_bits word = word / UNIT_TAIL

-- the values that heads have: a stage that is 1 to 15, an id, and a unit's number with room for 1 more
abbrev pub IsFitHead : Head → Type 0
IsFitHead Empty = Unit {0}
IsFitHead Void = Unit {0}
IsFitHead (Filled stage root by) =
    (1 ≤ stage) × (stage ≤ REPLY_STAGE) × (root ≤ MAX_ID) × (pack_by by ≤ MAX_UNIT + 1)

-- the values that claim words have: an element that was taken is so for the first time or a later one, one
-- that was killed without being taken in its round has no unit, and one that was given a round has one beside
-- the first
abbrev pub IsFitClaim : ClaimWord → Type 0
IsFitClaim FreeWord = Unit {0}
IsFitClaim (TakenWord n u r) = (1 ≤ n) × (n ≤ MAX_ATTEMPTS) × (u ≤ MAX_UNIT) × (r ≤ MAX_ROUNDS)
IsFitClaim (KilledWord n u r) = (n ≤ MAX_ATTEMPTS) × (u ≤ MAX_UNIT) × (n ≡ 0 → u ≡ 0) × (r ≤ MAX_ROUNDS)
IsFitClaim (AgainWord r) = (1 ≤ r) × (r ≤ MAX_ROUNDS)

-- the values that units' words have: a committed unit without outputs has no first one
abbrev pub IsFitUnit : Option UnitEnd → Type 0
IsFitUnit None = Unit {0}
IsFitUnit (Some (Committed first count)) = (count ≤ MAX_OUTPUTS) × (first ≤ MAX_ID) × (count ≡ 0 → first ≡ 0)
IsFitUnit (Some Aborted) = Unit {0}

-- the numbers that are head words: 0, 2, and those with bit 0 and a stage and nothing above bit 36
abbrev pub IsHeadWord : ℕ → Type 0
IsHeadWord word = (word ≡ HEAD_EMPTY) ⊎ ((word ≡ HEAD_VOID) ⊎ ((word % HEAD_STAGE ≡ HEAD_PRESENT)
    × (1 ≤ word % HEAD_ROOT / HEAD_STAGE) × (word / HEAD_BY ≤ MAX_UNIT + 1)))

-- the attempt, the unit and the round in a claim word, and whether it has neither attempt nor unit
abbrev pub claim_attempt : ℕ → ℕ
claim_attempt word = word % CLAIM_UNIT / CLAIM_ATTEMPT

abbrev pub claim_unit : ℕ → ℕ
claim_unit word = word % CLAIM_ROUND / CLAIM_UNIT

abbrev pub claim_round : ℕ → ℕ
claim_round word = word / CLAIM_ROUND

abbrev pub IsUntaken : ℕ → Type 0
IsUntaken word = (claim_attempt word ≡ 0) × (claim_unit word ≡ 0)

-- the kinds of claim words: kind 1 has an attempt, kind 2 has one or no unit either, and kind 3 has neither,
-- and a round
abbrev pub HasKind : ℕ → Type 0
HasKind word = ((word % CLAIM_ATTEMPT ≡ CLAIM_TAKEN) × (1 ≤ claim_attempt word))
    ⊎ (((word % CLAIM_ATTEMPT ≡ CLAIM_KILLED) × ((1 ≤ claim_attempt word) ⊎ IsUntaken word))
    ⊎ ((word % CLAIM_ATTEMPT ≡ CLAIM_AGAIN) × IsUntaken word × (1 ≤ claim_round word)))

-- the numbers that are claim words: 0, and those of these kinds with attempt at most 7, a unit's number and
-- round at most 3
abbrev pub IsClaimWord : ℕ → Type 0
IsClaimWord word = (word ≡ CLAIM_FREE)
    ⊎ ((claim_attempt word ≤ MAX_ATTEMPTS) × (claim_unit word ≤ MAX_UNIT) × (claim_round word ≤ MAX_ROUNDS)
    × HasKind word)

-- the numbers that are words of units: 0, 2, and those of kind 1 with 1 to 4 outputs, or with none and no
-- first one
abbrev pub IsUnitWord : ℕ → Type 0
IsUnitWord word = (word ≡ UNIT_UNDECIDED) ⊎ ((word ≡ UNIT_ABORTED) ⊎ ((word ≡ UNIT_COMMITTED)
    ⊎ ((word % UNIT_COUNT ≡ UNIT_COMMITTED) × (1 ≤ word % UNIT_FIRST / UNIT_COUNT)
    × (word % UNIT_FIRST / UNIT_COUNT ≤ MAX_OUTPUTS) × (word / UNIT_FIRST ≤ MAX_ID))))
