-- What the steps say, of the numbers that the table's steps take and give: a place, one or two numbers, and
-- the number that was found at the place. In each definition v is the view before the step, and w the view
-- after it.
use Rattle.std.specs.Prelude.{◌≡◌, ◌≢◌, ℕ, ◌+◌, ◌*◌, ◌<◌, ◌≤◌, [], Option, Some, None}
use Rattle.tp_model.specs.Words.{TakenWord, AgainWord}
use Rattle.tp_model.specs.declared.types.TheConstants.{BODY_WORDS, REPLY_STAGE}
use Rattle.tp_model.specs.declared.trace.StepKind.TheVariants as kinds
use Rattle.tp_rule.specs.declared.packing.Head.{Head}
use Rattle.tp_rule.specs.declared.packing.Head.TheVariants.{Filled}
use Rattle.tp_rule.specs.declared.bits.TheConstants.{HEAD_TAIL}
use Rattle.tp_rule.specs.Words.{IsFitHead, head_bits, pack_claim, pack_head, tail_bits}
use Rattle.tp_rule.specs.Places.{IsThere, MarkWord, head_place, body_place, claim_place, mark_place}
use Rattle.tp_rule.specs.Places.{drawn_place, unit_place}
use Rattle.tp_rule.specs.Views.{hand, next_row}
use Rattle.tp_rule.specs.Steps.{Found, Grew, Knows, Loads, MayBeBorn, unchanged, drafted, with_word, Drafts}
use Rattle.tp_rule.specs.Steps.{Publishes, Chooses, MakesClaim, MakesCommit, LosesUnit, MakesAbort, MakesKill}
use Rattle.tp_rule.specs.Steps.{MakesRequeue, Misses, IsLow, RaisesMark, NoneDrawn, Shares, Draws, DrawsNone}
use Rattle.tp_rule.specs.Steps.{AreInOrder, Voids}
use Rattle.tp_rule.specs.declared.view.Known.TheVariants.{RowHead, RowTail, PartMark, MarkAbove, BlocksDrawn}
use Rattle.tp_rule.specs.declared.view.View.{View}

abbrev pub Telling : Type 1
Telling = ℕ → ℕ → ℕ → View → ℕ → View → Type 0

abbrev pub loads : Telling
loads word first second v r w = Loads v word r w

-- a load of a head, which the seat remembers, with its tail; where it is empty, an element may be born in its row yet
abbrev pub loads_head : Telling
loads_head word first second v r w = Loads v word r w
    × ((i : ℕ) (head : Head) → word ≡ head_place i → head_bits r ≡ pack_head head → IsFitHead head
    → Knows w (RowHead i head))
    × ((i stage root : ℕ) (by : Option ℕ) → word ≡ head_place i → head_bits r ≡ pack_head (Filled stage root by)
    → IsFitHead (Filled stage root by) → Knows w (RowTail i stage (tail_bits r)))
    × ((i : ℕ) → word ≡ head_place i → r ≡ 0 → MayBeBorn v.limits w.seen i)

-- a load of a unit's word, which tells too that each pass takes its units in order
abbrev pub loads_unit : Telling
loads_unit word first second v r w = Loads v word r w × AreInOrder v.limits w.seen

abbrev pub stores_word : Telling
stores_word word number second v r w = (i : ℕ) × (k : ℕ) × (k < BODY_WORDS) × (word ≡ body_place i k)
    × (w ≡ drafted (with_word k number) v)

abbrev pub stores_head : Telling
stores_head word packed second v r w =
    (stage : ℕ) × (root : ℕ) × (u : ℕ) × (stage ≤ REPLY_STAGE) × (root < 65536)
    × (packed ≡ pack_head (Filled stage root (Some u))) × Drafts v stage root u w

abbrev pub publishes : Telling
publishes word packed second v r w = (stage : ℕ) × (tail : ℕ) × (stage ≤ REPLY_STAGE) × (tail < 65536)
    × (packed ≡ pack_head (Filled stage (next_row v) None) + HEAD_TAIL * tail) × Publishes v stage tail w

abbrev pub chooses : Telling
chooses word first second v r w = (u : ℕ) × (word ≡ unit_place v.limits u) × Chooses v u w

abbrev pub exchanges_claim : Telling
exchanges_claim word old new v r w = (r ≡ old → (u : ℕ) × (i : ℕ) × (n : ℕ) × (k : ℕ)
    × (word ≡ claim_place i) × (new ≡ pack_claim (TakenWord n u k)) × (n ≤ 7) × (u < 65536)
    × MakesClaim v u i n w)
    × (r ≢ old → Misses kinds.ClaimExchange v word r w)

abbrev pub exchanges_commit : Telling
exchanges_commit word old new v r w = (u : ℕ) × (word ≡ unit_place v.limits u) × (r ≡ 0 → MakesCommit v u w)
    × (r ≢ 0 → LosesUnit kinds.CommitExchange v u w)

abbrev pub exchanges_abort : Telling
exchanges_abort word old new v r w = (u : ℕ) × (word ≡ unit_place v.limits u) × (r ≡ 0 → MakesAbort v u w)
    × (r ≢ 0 → (hand v).open_unit ≡ Some u → LosesUnit kinds.AbortExchange v u w)
    × (r ≢ 0 → (hand v).open_unit ≡ None → Grew kinds.AbortExchange unchanged [] v w)
    × (r ≢ 0 → Found v.limits w.seen word r)

abbrev pub exchanges_kill : Telling
exchanges_kill word old new v r w = (r ≡ old → (i : ℕ) × (word ≡ claim_place i) × MakesKill v i w)
    × (r ≢ old → Misses kinds.KillExchange v word r w)

abbrev pub exchanges_requeue : Telling
exchanges_requeue word old new v r w = (r ≡ old → (i : ℕ) × (k : ℕ) × (word ≡ claim_place i)
    × (new ≡ pack_claim (AgainWord k)) × MakesRequeue v i k w)
    × (r ≢ old → Misses kinds.RequeueExchange v word r w)

-- a load of a mark, which the seat remembers, and which has not fallen
abbrev pub loads_mark : Telling
loads_mark word first second v r w = Loads v word r w
    × ((s p : ℕ) → word ≡ mark_place v.limits s p → IsThere v.limits (MarkWord s p)
    → Knows w (PartMark s p r) × IsLow v.limits s w.seen p r
    × ((n : ℕ) → Knows v (PartMark s p n) → n ≤ r))

abbrev pub raises : Telling
raises word old new v r w = (s p : ℕ) → word ≡ mark_place v.limits s p → IsThere v.limits (MarkWord s p)
    → RaisesMark v s p old new w × (r ≡ old → Knows w (PartMark s p new))
    × (r ≢ old → Knows v (PartMark s p old) → Knows w (MarkAbove s p old))

-- a load of the counter of drawn blocks, which the seat remembers, and which has not fallen; nothing is born
-- in the blocks from it on, and those below it are its passes' and others'
abbrev pub loads_drawn : Telling
loads_drawn word first second v r w = Loads v word r w
    × (word ≡ drawn_place v.limits → Knows w (BlocksDrawn r) × (r ≤ v.limits.spare)
    × NoneDrawn v.limits w.seen r × ((n : ℕ) → Knows v (BlocksDrawn n) → n ≤ r) × Shares r w)

abbrev pub draws : Telling
draws word old new v r w = (r ≡ old → Draws v old w) × (r ≢ old → DrawsNone v old r w)

abbrev pub voids : Telling
voids word old new v r w = (i : ℕ) → word ≡ head_place i → Voids v i w
