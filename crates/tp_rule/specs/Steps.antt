-- What each kind of step makes of a seat's view, and what it says. In each definition v is the view before
-- the step, and w the view after it. A view changes in two ways alone: `after` a step, and by a split or a
-- join of seats.
use Rattle.std.specs.Prelude.{◌≡◌, ◌≢◌, ◌⊎◌, ℕ, zero, suc, ◌+◌, ◌-◌, ◌*◌, ◌<◌, ◌≤◌, ◌==◌, if◌then◌else◌, List}
use Rattle.std.specs.Prelude.{[], ◌∷◌, ◌++◌, map, slice_set, Option, Some, None}
use mathlib.Core.List.{IsPrefix}
use Rattle.tp_model.specs.declared.types.Element.{Element}
use Rattle.tp_model.specs.declared.types.Limits.{Limits}
use Rattle.tp_model.specs.declared.types.TheConstants.{BLOCK_ROWS, BODY_WORDS, MAX_ROUNDS}
use Rattle.tp_model.specs.declared.types.Status.TheVariants.{Waiting}
use Rattle.tp_model.specs.declared.event.Event.{Event}
use Rattle.tp_model.specs.declared.event.Event.TheVariants.{Enqueue, Claim, Commit, Abort, Kill, Requeue}
use Rattle.tp_model.specs.declared.trace.StepKind.{StepKind}
use Rattle.tp_model.specs.declared.trace.StepKind.TheVariants as kinds
use Rattle.tp_model.specs.History.{Aborted, Committed, In, IsSettled, IsUnborn, status_of, UnitClaim, UnitEnd}
use Rattle.tp_model.specs.History.{IsUnused, claim_of}
use Rattle.tp_model.specs.History.{births, element_of, end_of, events_by, pass_of}
use Rattle.tp_model.specs.Passes.{AreEnded, Ascend, IsOwnArea, IsOwnOpen, IsRun}
use Rattle.tp_model.specs.Words.{ClaimWord, claim_word, round_in, word_status}
use Rattle.tp_model.specs.Steps.{IsBody, IsStage, IsServerStage, IsKillable, IsParked, IsLegal, IsArea}
use Rattle.tp_model.specs.Steps.{IsBlock, IsPart, IsUnitOf, block_first, rows_of}
use Rattle.tp_rule.specs.declared.packing.Head.{Head}
use Rattle.tp_rule.specs.declared.packing.Head.TheVariants.{Empty, Filled}
use Rattle.tp_rule.specs.Words.{IsFitClaim, head_of}
use Rattle.tp_rule.specs.Places.{IsThere, Word, place_of}
use Rattle.tp_rule.specs.Rule.{Concerns, IsInside, IsOther, IsSettledRow, WordIs}
use Rattle.tp_rule.specs.Views.{IsOnePass, blank_body, hand, next_row}
use Rattle.tp_rule.specs.declared.view.Hand.{Hand}
use Rattle.tp_rule.specs.declared.view.Known.{Known}
use Rattle.tp_rule.specs.declared.view.Known.TheVariants.{RowHead, RowTail, PartMark, MarkAbove, BlocksDrawn}
use Rattle.tp_rule.specs.declared.view.View.{View}

-- the pass with one more entry in its trace
abbrev pub noted : StepKind → List Event → Hand → Hand
noted kind seen a = record a { trace = a.trace ++ record { kind = kind; seen = seen } ∷ [] }

-- the view after a step that makes f of each pass of the seat, and after which the seat has seen `seen` and
-- knows `known`
abbrev pub after : StepKind → (Hand → Hand) → List Event → List Known → View → View
after kind f seen known v = record {
  limits = v.limits;
  seen = seen;
  also_seen = [];
  known = known;
  hands = map (λ a. noted kind seen (f a)) v.hands;
}

-- what a seat knows of words that stay
abbrev pub Knows : View → Known → Type 0
Knows v x = In x v.known

-- no element of row i that is of a stage which kind s is about waits, is held or is parked: where one is
-- born, it is consumed or killed
abbrev pub IsFinishedFor : Limits → ℕ → List Event → ℕ → Type 0
IsFinishedFor l s h i = (x : Element) → element_of h i ≡ Some x → Concerns s x.stage
    → IsSettled (status_of l.attempts h i)

-- so it is in the first n rows of part p, or of the spare rows where p is the number of parts
abbrev pub AreFinishedFor : Limits → ℕ → List Event → ℕ → ℕ → Type 0
AreFinishedFor l s h p n = (i : ℕ) → p * l.rows ≤ i → i < p * l.rows + n → IsFinishedFor l s h i

-- what a seat that knows the mark n of kind s of part p, or of the spare rows, knows of the history h
abbrev pub IsLow : Limits → ℕ → List Event → ℕ → ℕ → Type 0
IsLow l s h p n = IsInside l p n × AreFinishedFor l s h p n

-- what a seat that knows x knows of the history h: a head that isn't empty is that of the element that is
-- born in the row, what is born in a row of a tail is of its stage, no row below a mark has an element of its stages that isn't consumed or killed, a mark
-- that is above a number is in its part, and no more blocks are drawn than there are
abbrev pub IsSo : Limits → List Event → Known → Type 0
IsSo l h (RowHead i head) = head ≢ Empty → (x : Element) → element_of h i ≡ Some x → head ≡ head_of x
IsSo l h (RowTail i stage tail) = (j : ℕ) → j ≤ i → i ≤ j + tail → (x : Element) → element_of h j ≡ Some x
    → x.stage ≡ stage
IsSo l h (PartMark s p n) = IsLow l s h p n
IsSo l h (MarkAbove s p n) = IsInside l p (n + 1)
IsSo l h (BlocksDrawn n) = n ≤ l.spare

-- no element is born in row i, nor in a later one of its part or its spare block
abbrev pub NoneFrom : Limits → List Event → ℕ → Type 0
NoneFrom l h i = (first end j : ℕ) → IsArea l first end → first ≤ i → i ≤ j → j < end → IsUnborn h j

-- pass c made the element x
abbrev pub Made : List Event → ℕ → Element → Type 0
Made h c x = (e : Event) × In e h × (pass_of e ≡ c) × In x (births e)

-- the rows from `first` up to `end` are an area that is seen to be of pass c: its part, or a spare block in
-- which it made an element
abbrev pub IsAreaBy : Limits → List Event → ℕ → ℕ → ℕ → Type 0
IsAreaBy l h c first end = IsPart l c first end
    ⊎ ((b : ℕ) × IsBlock l b first end × (x : Element) × Made h c x × (first ≤ x.id) × (x.id < end))

-- an element may be born in row i yet: none is from it on in its area, and its pass made none behind that
pub record MayBeBorn (l : Limits) (h : List Event) (i : ℕ) : Type 0 where
  pub none : NoneFrom l h i
  pub last : (c first end : ℕ) (x : Element) → IsAreaBy l h c first end → first ≤ i → i < end → Made h c x
      → x.id < end

-- a step that looks at the table: the seat has then seen the history so far, which ends with the step's own
-- events
pub record Grew (kind : StepKind) (f : Hand → Hand) (events : List Event) (v w : View) : Type 0 where
  -- what happened since the seat looked last, before its own events
  pub between : List Event
  -- what is seen is what was seen, and that, and the own events
  pub seen : w.seen ≡ (v.seen ++ between) ++ events
  -- it begins with what a seat that was joined had seen
  pub also_seen : IsPrefix v.also_seen w.seen
  -- it is legal
  pub legal : IsLegal v.limits w.seen
  -- the step has one entry in the trace of each pass of the seat, and changes nothing else but by f, and what
  -- is known
  pub view : w ≡ after kind f w.seen w.known v
  -- a pass's own events are all with its number
  pub mine : (a : Hand) → In a w.hands → a.mine ≡ events_by a.number w.seen
  -- its open unit is its own
  pub open_own : (a : Hand) → In a w.hands → (u : ℕ) → a.open_unit ≡ Some u → IsOwnOpen w.seen a.number u
  -- its other units have ended
  pub ended : (a : Hand) → In a w.hands → AreEnded w.seen a.number a.open_unit
  -- the rows that are left to it are a run
  pub run : (a : Hand) → In a w.hands → IsRun v.limits w.seen a.number a.blocks a.next a.left
  -- what was known is known
  pub knows : (x : Known) → Knows v x → Knows w x
  -- what is known is so by now
  pub is_so : (x : Known) → Knows w x → IsSo v.limits w.seen x
  -- and where a head that is known names a unit that is undecided by now, an element may be born in its row
  pub ahead : (i stage root u : ℕ) → Knows w (RowHead i (Filled stage root (Some u))) → end_of w.seen u ≡ None
      → MayBeBorn v.limits w.seen i
  -- and where it names one that is committed, the row is one of its outputs
  pub output : (i stage root u from count : ℕ) → Knows w (RowHead i (Filled stage root (Some u)))
      → end_of w.seen u ≡ Some (Committed from count) → (from ≤ i) × (i < from + count)

-- a step that changes nothing in the pass but its trace
abbrev pub unchanged : Hand → Hand
unchanged a = a

-- what the number r says, which was found at the place `word` after h
abbrev pub Found : Limits → List Event → ℕ → ℕ → Type 0
Found l h word r = (w : Word) → IsThere l w → word ≡ place_of l w → WordIs h w r

-- no element is born in spare block n, nor in a later one
abbrev pub NoneDrawn : Limits → List Event → ℕ → Type 0
NoneDrawn l h n = (i : ℕ) → block_first l n ≤ i → i < rows_of l → IsUnborn h i

-- the seat stands for every pass of the table
abbrev pub HasEveryPass : View → Type 0
HasEveryPass v = (c : ℕ) → c < v.limits.parts → (a : Hand) × In a v.hands × (a.number ≡ c)

-- where n spare blocks are drawn: each that a pass of the seat has drawn is one of them, and no other pass's,
-- and where the seat stands for every pass, each of them is one that a pass has drawn
pub record Shares (n : ℕ) (v : View) : Type 0 where
  pub below : (a : Hand) → In a v.hands → Ascend 0 n a.blocks
  pub alone : (a a' : Hand) (b : ℕ) → In a v.hands → In a' v.hands → In b a.blocks → In b a'.blocks
      → a.number ≡ a'.number
  pub all : HasEveryPass v → (b : ℕ) → b < n → (a : Hand) × In a v.hands × In b a.blocks

-- a load, which found r at the place `word`
abbrev pub Loads : View → ℕ → ℕ → View → Type 0
Loads v word r w = Grew kinds.Load unchanged [] v w × Found v.limits w.seen word r

-- a pass takes its units in order, each when the one before it has ended: so where one is undecided, no later
-- one was taken
abbrev pub AreInOrder : Limits → List Event → Type 0
AreInOrder l h = (c u w : ℕ) → IsUnitOf l c u → IsUnitOf l c w → u < w → end_of h u ≡ None → IsUnused h w

-- draft stores, which see nothing

-- the view after a draft store
abbrev pub drafted : (Hand → Hand) → View → View
drafted f v = after kinds.DraftStore f v.seen v.known v

-- word k of the body of the next row is stored
abbrev pub with_word : ℕ → ℕ → Hand → Hand
with_word k x a = record a { next_body = slice_set a.next_body k x }

-- how many stores a word of a body takes: none where it is 0
abbrev pub stores_of_word : ℕ → ℕ
stores_of_word x = if x == 0 then 0 else 1

-- how many a whole body takes
abbrev pub stores_of : List ℕ → ℕ
stores_of [] = 0
stores_of (x ∷ xs) = stores_of_word x + stores_of xs

-- the store of word k of that body, which is left out exactly where the word is 0
pub record Fills (v : View) (k x : ℕ) (w : View) : Type 0 where
  pub does : ((w ≡ drafted (with_word k x) v) × (stores_of_word x ≡ 1)) ⊎ ((w ≡ v) × (x ≡ 0))

-- the body of the next row is stored
abbrev pub with_body : List ℕ → Hand → Hand
with_body body a = record a { next_body = body }

-- the view after n stores to the body of the next row, whatever they stored
abbrev pub stored : ℕ → View → View
stored zero v = v
stored (suc n) v = drafted unchanged (stored n v)

-- and where there are any, by the last of them this body is there
abbrev pub bodied : ℕ → List ℕ → View → View
bodied zero body v = v
bodied (suc n) body v = drafted (with_body body) (stored n v)

-- the body of the next row is stored, in one store for each of its words that isn't 0
pub record Bodied (body : List ℕ) (v w : View) : Type 0 where
  pub stores : ℕ
  pub exact : stores ≡ stores_of body
  pub few : stores ≤ BODY_WORDS
  pub view : w ≡ bodied stores body v
  -- so nothing else has changed in the pass but its trace
  pub pass : IsOnePass w × (w.limits ≡ v.limits)
  pub hand_is : hand w ≡ record (hand v) { trace = (hand w).trace; next_body = body }

-- the element that the next row holds once its head is stored
abbrev pub next_element : View → ℕ → ℕ → Option ℕ → Element
next_element v stage root by = record {
  id = next_row v;
  stage = stage;
  root = root;
  body = (hand v).next_body;
  by = by;
}

-- the next row has become a draft of the open unit
abbrev pub with_draft : Element → Hand → Hand
with_draft x a = record a {
  next = a.next + 1;
  left = a.left - 1;
  tail = 0;
  next_body = blank_body;
  drafts = a.drafts
      ++ x ∷ [];
}

-- a whole body is in the next row
abbrev pub HasBodyStored : View → Type 0
HasBodyStored v = IsOnePass v × IsBody (hand v).next_body

-- the store of the head of a draft of unit u
abbrev pub Drafts : View → ℕ → ℕ → ℕ → View → Type 0
Drafts v stage root u w = w ≡ drafted (with_draft (next_element v stage root (Some u))) v

-- publish

-- the event of a publish: the next row is a client's element, and its own root
abbrev pub birth : View → ℕ → Event
birth v stage = Enqueue (hand v).number (next_element v stage (next_row v) None)

-- how many rows right before the next one were published in this stage
abbrev pub tail_before : ℕ → Hand → ℕ
tail_before stage a = if stage == a.tail_stage then a.tail else 0

-- the next row is born, in this stage, and tells of so many rows before it
abbrev pub with_birth : ℕ → ℕ → Event → Hand → Hand
with_birth stage tail e a = record a {
  mine = a.mine ++ e ∷ [];
  first_draft = a.next + 1;
  next = a.next + 1;
  left = a.left - 1;
  tail = tail + 1;
  tail_stage = stage;
  next_body = blank_body;
  drafts = [];
}

abbrev pub Publishes : View → ℕ → ℕ → View → Type 0
Publishes v stage tail w = Grew kinds.Publish (with_birth stage tail (birth v stage)) (birth v stage ∷ []) v w

-- unit choice

abbrev pub with_spare : ℕ → Hand → Hand
with_spare u a = record a { spare_unit = Some u }

abbrev pub Chooses : View → ℕ → View → Type 0
Chooses v u w = Grew kinds.UnitChoice (with_spare u) [] v w

-- exchanges

-- where the claim word w was found, the n-th attempt may begin: the element waits
abbrev pub AllowsClaim : Limits → List Event → ClaimWord → ℕ → Type 0
AllowsClaim l h w n = (1 ≤ n) × (word_status l.attempts h w ≡ Waiting (n - 1))

-- where the claim word w was found, the element may be killed: it waits or is parked
abbrev pub AllowsKill : Limits → List Event → ClaimWord → Type 0
AllowsKill l h w = IsKillable (word_status l.attempts h w)

-- where the claim word w was found, the element may be given another round: it is parked, and has rounds left
abbrev pub AllowsRequeue : Limits → List Event → ClaimWord → Type 0
AllowsRequeue l h w = IsParked (word_status l.attempts h w) × (round_in w < MAX_ROUNDS)

-- row i has an element
abbrev pub HasElement : List Event → ℕ → Type 0
HasElement h i = (x : Element) × (element_of h i ≡ Some x)

-- row i has an element of a stage that servers take from
abbrev pub HasWork : List Event → ℕ → Type 0
HasWork h i = (x : Element) × (element_of h i ≡ Some x) × IsServerStage x.stage

-- y may be an output of unit u for a request with this root
abbrev pub IsOut : ℕ → ℕ → Element → Type 0
IsOut u root y = IsStage y.stage × (y.by ≡ Some u) × (y.root ≡ root) × IsBody y.body

-- the pass claimed unit u, and its drafts may be the unit's outputs
pub record IsOwnWork (v : View) (u : ℕ) : Type 0 where
  -- the claim of the unit
  pub taking : UnitClaim
  pub claimed : claim_of v.seen u ≡ Some taking
  -- the pass made it
  pub own : taking.pass ≡ (hand v).number
  -- the element that it took
  pub item : Element
  pub taken : element_of v.seen taking.item ≡ Some item
  -- each draft names the unit and has the root of that element
  pub outputs : (y : Element) → In y (hand v).drafts → IsOut u item.root y

-- unit u was claimed
abbrev pub IsClaimed : List Event → ℕ → Type 0
IsClaimed h u = (t : UnitClaim) × (claim_of h u ≡ Some t)

-- an exchange that failed and changed nothing; the number r was found
abbrev pub Misses : StepKind → View → ℕ → ℕ → View → Type 0
Misses kind v word r w = Grew kind unchanged [] v w × Found v.limits w.seen word r

-- the pass has one more event
abbrev pub with_event : Event → Hand → Hand
with_event e a = record a { mine = a.mine ++ e ∷ [] }

-- the event of a claim exchange
abbrev pub claimed : View → ℕ → ℕ → ℕ → Event
claimed v u i n = Claim (hand v).number u i n

-- the spare unit is claimed, and open
abbrev pub with_claim : ℕ → Event → Hand → Hand
with_claim u e a = record a {
  mine = a.mine ++ e ∷ [];
  claimed = a.claimed + 1;
  spare_unit = None;
  open_unit = Some u;
}

abbrev pub MakesClaim : View → ℕ → ℕ → ℕ → View → Type 0
MakesClaim v u i n w = Grew kinds.ClaimExchange (with_claim u (claimed v u i n)) (claimed v u i n ∷ []) v w

-- an exchange of a claim word that failed: the claim word is not the one that was found before, but this one
abbrev pub FindsOther : StepKind → View → ℕ → ClaimWord → ClaimWord → View → Type 0
FindsOther kind v i found now w = Grew kind unchanged [] v w × (now ≢ found) × (now ≡ claim_word w.seen i)
    × IsFitClaim now

-- the event of a commit exchange: the drafts are born
abbrev pub commit_event : View → ℕ → Event
commit_event v u = Commit (hand v).number u (hand v).drafts

-- the open unit has ended by the pass's own event; its drafts are drafts no more
abbrev pub with_end : Event → Hand → Hand
with_end e a = record a { mine = a.mine ++ e ∷ []; first_draft = a.next; drafts = []; open_unit = None }

-- the open unit was aborted by another; its drafts are given up
abbrev pub with_lost : Hand → Hand
with_lost a = record a { first_draft = a.next; drafts = []; open_unit = None }

abbrev pub MakesCommit : View → ℕ → View → Type 0
MakesCommit v u w = Grew kinds.CommitExchange (with_end (commit_event v u)) (commit_event v u ∷ []) v w

-- an exchange on the open unit that failed: another pass had aborted it
abbrev pub LosesUnit : StepKind → View → ℕ → View → Type 0
LosesUnit kind v u w = Grew kind with_lost [] v w × (end_of w.seen u ≡ Some Aborted)
    × ¬ In (Abort (hand v).number u) w.seen

abbrev pub MakesAbort : View → ℕ → View → Type 0
MakesAbort v u w = Grew kinds.AbortExchange (with_end (Abort (hand v).number u)) (Abort (hand v).number u
    ∷ []) v w

-- an abort exchange that failed: the unit had ended, in this way; where it is the pass's own, another had
-- aborted it
pub record FindsEnded (v : View) (u : ℕ) (found : Option UnitEnd) (w : View) : Type 0 where
  pub ended : found ≢ None
  pub found_is : found ≡ end_of w.seen u
  pub own : (hand v).open_unit ≡ Some u → LosesUnit kinds.AbortExchange v u w
  pub other : (hand v).open_unit ≡ None → Grew kinds.AbortExchange unchanged [] v w

abbrev pub MakesKill : View → ℕ → View → Type 0
MakesKill v i w = Grew kinds.KillExchange (with_event (Kill (hand v).number i)) (Kill (hand v).number i
    ∷ []) v w

abbrev pub MakesRequeue : View → ℕ → ℕ → View → Type 0
MakesRequeue v i r w = Grew kinds.RequeueExchange (with_event (Requeue (hand v).number i r))
    (Requeue (hand v).number i r ∷ []) v w

-- raise

-- the seat has found in row i the head of a draft whose unit it saw aborted
abbrev pub HasDead : View → ℕ → Type 0
HasDead v i = (stage : ℕ) × (root : ℕ) × (u : ℕ) × Knows v (RowHead i (Filled stage root (Some u)))
    × (end_of v.seen u ≡ Some Aborted)

-- the seat knows that row i is finished: it saw its element consumed or killed, or a draft that is never born
abbrev pub KnowsFinished : View → ℕ → Type 0
KnowsFinished v i = IsSettledRow v.limits v.seen i ⊎ HasDead v i

-- the seat has found in row i a head of no use to marks of kind s: a void one, or one of a stage that they
-- aren't about
abbrev pub FoundAside : View → ℕ → ℕ → Type 0
FoundAside v s i = (head : Head) × Knows v (RowHead i head) × IsOther s head

-- or row i is in the tail of a head of such a stage
abbrev pub TailAside : View → ℕ → ℕ → Type 0
TailAside v s i = (k : ℕ) × (stage : ℕ) × (tail : ℕ) × Knows v (RowTail k stage tail) × (i ≤ k) × (k ≤ i + tail)
    × ¬ Concerns s stage

abbrev pub HasAside : View → ℕ → ℕ → Type 0
HasAside v s i = FoundAside v s i ⊎ TailAside v s i

-- the seat knows that row i is of no use to kind s
abbrev pub KnowsUseless : View → ℕ → ℕ → Type 0
KnowsUseless v s i = KnowsFinished v i ⊎ HasAside v s i

-- the exchange of the mark of kind s of part p, or of the spare rows, from m to n, after which nothing more
-- is seen. What was known is known, and nothing besides but the mark n, or that it is above m
abbrev pub RaisesMark : View → ℕ → ℕ → ℕ → ℕ → View → Type 0
RaisesMark v s p m n w = (w ≡ after kinds.Raise unchanged v.seen w.known v) × ((x : Known) → Knows v x
    → Knows w x)
    × ((x : Known) → Knows w x → Knows v x ⊎ ((x ≡ PartMark s p n) ⊎ (x ≡ MarkAbove s p m)))

-- draw

-- spare block b, which begins with row `first`, is drawn, and its rows are the run
abbrev pub with_block : ℕ → ℕ → Hand → Hand
with_block b first a = record a {
  first_draft = first;
  next = first;
  left = BLOCK_ROWS;
  passed_from = a.next;
  passed_to = a.next + a.left;
  tail = 0;
  next_body = blank_body;
  blocks = a.blocks ++ b ∷ [];
}

-- the view after an exchange of the counter of drawn blocks, which is n by then: that is known, and nothing
-- more is seen
abbrev pub drew : (Hand → Hand) → ℕ → View → View
drew f n v = after kinds.Draw f v.seen (BlocksDrawn n ∷ v.known) v

-- the exchange by which spare block b is drawn. No row of it is born in what is seen, and the pass may use
-- each
abbrev pub Draws : View → ℕ → View → Type 0
Draws v b w = (w ≡ drew (with_block b (block_first v.limits b)) (b + 1) v)
    × IsRun v.limits v.seen (hand w).number (hand w).blocks (hand w).next (hand w).left

-- the exchange that failed, since not b but n blocks are drawn, which is no fewer than were known to be
pub record DrawsNone (v : View) (b n : ℕ) (w : View) : Type 0 where
  pub view : w ≡ drew unchanged n v
  pub other : n ≢ b
  pub inside : n ≤ v.limits.spare
  pub rises : (m : ℕ) → Knows v (BlocksDrawn m) → m ≤ n

-- void

-- row i is in an area of the pass that its run has left
abbrev pub IsLeftBehind : Limits → Hand → ℕ → Type 0
IsLeftBehind l a i =
    (first : ℕ) × (end : ℕ) × IsOwnArea l a.number a.blocks first end × (first ≤ i) × (i < end)
    × (end ≢ a.next + a.left)

-- the seat knows that no row is empty that the pass left unused when it drew its last block
abbrev pub HasCleared : View → Type 0
HasCleared v = (i : ℕ) → (hand v).passed_from ≤ i → i < (hand v).passed_to
    → (head : Head) × (head ≢ Empty) × Knows v (RowHead i head)

-- the exchange of the head of row i, from empty to void, after which nothing more is seen: the head isn't
-- empty by then, and the seat knows it
abbrev pub Voids : View → ℕ → View → Type 0
Voids v i w = (head : Head) × (head ≢ Empty) × (w ≡ after kinds.Void unchanged v.seen (RowHead i head
    ∷ v.known) v) × IsSo v.limits v.seen (RowHead i head)

-- splits and joins of seats, each a load

abbrev pub rest_of : List Hand → List Hand
rest_of [] = []
rest_of (a ∷ hands) = hands

abbrev pub front_of : List Hand → List Hand
front_of [] = []
front_of (a ∷ hands) = a ∷ []

-- the view of a seat that stands for these passes
abbrev pub with_hands : List Hand → View → View
with_hands hands v = record {
  limits = v.limits;
  seen = v.seen;
  also_seen = v.also_seen;
  known = v.known;
  hands = hands;
}

-- these passes with one more load in their traces
abbrev pub looked : View → List Hand → List Hand
looked v hands = map (noted kinds.SeatLoad v.seen) hands

-- the new seat after the first pass is handed out; the load is the first entry of its trace
abbrev pub handed_out : View → View
handed_out v = with_hands (looked v (front_of v.hands)) v

-- the seat that it was handed out from
abbrev pub handed_on : View → View
handed_on v = with_hands (rest_of v.hands) v

-- the seat that keeps its first pass alone, which made the load
abbrev pub kept : View → View
kept v = with_hands (looked v (front_of v.hands)) v

-- the new seat for the others
abbrev pub parted : View → View
parted v = with_hands (rest_of v.hands) v

-- the seat v after the seat w was joined to it; v's passes made the load, and what either knew is known
abbrev pub joined : View → View → View
joined v w = record {
  limits = v.limits;
  seen = v.seen;
  also_seen = w.seen;
  known = v.known ++ w.known;
  hands = looked v v.hands ++ w.hands;
}

-- two seats that met, where each was v and w before: both have seen the same legal history, which begins with
-- what either had seen
pub record SeatsMeet (v w v' w' : View) : Type 0 where
  pub same : v'.seen ≡ w'.seen
  pub legal : IsLegal v.limits v'.seen
  pub first_saw : IsPrefix v.seen v'.seen
  pub second_saw : IsPrefix w.seen v'.seen
  -- the first made the three steps, and the second was there at the one between; nothing else changed
  pub first_one : IsOnePass v'
  pub first_is : hand v' ≡ noted kinds.SeatLoad v'.seen
      (noted kinds.Load v'.seen (noted kinds.SeatLoad v.seen (hand v)))
  pub second_one : IsOnePass w'
  pub second_is : hand w' ≡ noted kinds.Load v'.seen (hand w)
  pub limits : (v'.limits ≡ v.limits) × (w'.limits ≡ v.limits)
  -- the events of each are all with its number, and its open unit is its own
  pub mine : ((hand v').mine ≡ events_by (hand v').number v'.seen)
      × ((hand w').mine ≡ events_by (hand w').number w'.seen)
  pub open_own : ((u : ℕ) → (hand v').open_unit ≡ Some u → IsOwnOpen v'.seen (hand v').number u)
      × ((u : ℕ) → (hand w').open_unit ≡ Some u → IsOwnOpen w'.seen (hand w').number u)
  -- and their other units have ended
  pub ended : AreEnded v'.seen (hand v').number (hand v').open_unit
      × AreEnded w'.seen (hand w').number (hand w').open_unit
  -- the rows that are left to each are a run
  pub run : IsRun v.limits v'.seen (hand v').number (hand v').blocks (hand v').next (hand v').left
      × IsRun v.limits w'.seen (hand w').number (hand w').blocks (hand w').next (hand w').left
  -- what either knew both know
  pub knows : ((x : Known) → Knows v x → Knows v' x) × ((x : Known) → Knows w x → Knows w' x)
  pub is_so : ((x : Known) → Knows v' x → IsSo v.limits v'.seen x) × ((x : Known) → Knows w' x
      → IsSo v.limits w'.seen x)
