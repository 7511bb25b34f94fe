-- The rule: at every moment there is one legal history behind the words. It is read from the bottom of this
-- page up. In each record l are the table's limits, h is the history, and ws are the words.
use Rattle.std.specs.Prelude.{◌≡◌, ◌≢◌, ◌⊎◌, ℕ, zero, suc, ◌+◌, ◌*◌, ◌<◌, ◌≤◌, List, [], ◌∷◌, length}
use Rattle.std.specs.Prelude.{slice_index, Option, Some, None}
use mathlib.Core.Option.{some}
use mathlib.Core.List.{IsPrefix}
use lib.ListN.{get_elem?}
use Rattle.atomic_table.specs.Table.{State}
use Rattle.tp_model.specs.History.{Aborted, Committed, In, IsSettled, IsUnborn, IsUnused, births, element_of}
use Rattle.tp_model.specs.History.{end_of, events_by, status_of}
use Rattle.tp_model.specs.Passes.{AreEnded, Ascend, IsOwnArea, IsOwnOpen}
use Rattle.tp_model.specs.Steps.{IsArea, IsBody, IsLegal, IsRowOfBlock, block_first, rows_of}
use Rattle.tp_model.specs.Words.{claim_word}
use Rattle.tp_model.specs.declared.event.Event.{Event}
use Rattle.tp_model.specs.declared.types.Element.{Element}
use Rattle.tp_model.specs.declared.types.Limits.{Limits}
use Rattle.tp_model.specs.declared.types.TheConstants.{BLOCK_ROWS, BODY_WORDS, REPLY_STAGE}
use Rattle.tp_rule.specs.declared.view.Hand.{Hand}
use Rattle.tp_rule.specs.declared.view.Known.{Known}
use Rattle.tp_rule.specs.declared.view.Known.TheVariants.{RowHead, RowTail, PartMark, MarkAbove, BlocksDrawn}
use Rattle.tp_rule.specs.declared.view.View.{View}
use Rattle.tp_rule.specs.Places.{Word, HeadWord, BodyWord, ClaimWord, UnitWord, MarkWord, DrawnWord, IsThere}
use Rattle.tp_rule.specs.Places.{head_place, body_place, mark_place, drawn_place, place_of, size_of}
use Rattle.tp_rule.specs.Words.{IsFitHead, IsFitClaim, IsFitUnit, head_bits, head_of, pack_claim, pack_head}
use Rattle.tp_rule.specs.Words.{pack_unit, tail_bits, unit_bits, unit_tail_bits}
use Rattle.tp_rule.specs.declared.packing.Head.{Head}
use Rattle.tp_rule.specs.declared.packing.Head.TheVariants.{Empty, Void, Filled}

-- the words of the body of row i are these
abbrev pub HoldsBody : List ℕ → ℕ → List ℕ → Type 0
HoldsBody ws i body = (k : ℕ) → k < length body → slice_index ws (body_place i k) ≡ slice_index body k

-- no word of the body of row i was stored, so each is 0
abbrev pub IsUnwritten : List ℕ → ℕ → Type 0
IsUnwritten ws i = (k : ℕ) → k < BODY_WORDS → slice_index ws (body_place i k) ≡ 0

-- the head of row i is this one
abbrev pub HasHead : List ℕ → ℕ → Head → Type 0
HasHead ws i head = head_bits (slice_index ws (head_place i)) ≡ pack_head head

-- it is of this stage
abbrev pub HasStage : List ℕ → ℕ → ℕ → Type 0
HasStage ws stage i = (root : ℕ) × (by : Option ℕ) × IsFitHead (Filled stage root by)
    × HasHead ws i (Filled stage root by)

-- and so are those of so many rows right before it
abbrev pub HaveStage : List ℕ → ℕ → ℕ → ℕ → Type 0
HaveStage ws stage i tail = (j : ℕ) → j ≤ i → i ≤ j + tail → HasStage ws stage j

-- so many rows right before the next one, of those from `first` on, have heads of this stage
abbrev pub HasTail : List ℕ → ℕ → ℕ → ℕ → ℕ → Type 0
HasTail ws first next tail stage = (j : ℕ) → j < next → next ≤ j + tail → (first ≤ j) × HasStage ws stage j

-- the head of row x.id and the words of its body hold the element x, whose body is whole
abbrev pub Holds : List ℕ → Element → Type 0
Holds ws x = HasHead ws x.id (head_of x) × HoldsBody ws x.id x.body × IsBody x.body

-- these elements have the ids i, i + 1, ..
abbrev pub HaveIdsFrom : ℕ → List Element → Type 0
HaveIdsFrom i [] = Unit {0}
HaveIdsFrom i (x ∷ xs) = (x.id ≡ i) × HaveIdsFrom (i + 1) xs

-- the head of a row that is not born is empty or void, or names a unit
abbrev pub IsDraft : Head → Type 0
IsDraft Empty = Unit {0}
IsDraft Void = Unit {0}
IsDraft (Filled stage root by) = ¬ (by ≡ None)

-- how many spare blocks are drawn
abbrev pub drawn_in : Limits → List ℕ → ℕ
drawn_in l ws = slice_index ws (drawn_place l)

-- what is so of the rows of a pass, whose run lies in the area of the rows from `first` up to `end`
pub record RowsHold (h : List Event) (ws : List ℕ) (first end first_draft next left : ℕ) (body : List ℕ)
    (drafts : List Element) : Type 0 where
  -- there is one row for each draft
  pub counted : first_draft + length drafts ≡ next
  -- the run lies in the area
  pub begins : first ≤ first_draft
  -- and reaches to its end
  pub ends : next + left ≡ end
  -- no row of it from the first draft on is born
  pub unborn : (i : ℕ) → first_draft ≤ i → i < next + left → IsUnborn h i
  -- the head of each row of the area before the next one is not empty
  pub full : (i : ℕ) → first ≤ i → i < next → slice_index ws (head_place i) ≢ 0
  -- the head of each row that is left is empty
  pub empty : (i : ℕ) → next ≤ i → i < next + left → slice_index ws (head_place i) ≡ 0
  -- and no word of those after the next one was stored
  pub unwritten : (i : ℕ) → next + 1 ≤ i → i < next + left → IsUnwritten ws i
  -- the pass remembers the words of a whole body
  pub body_whole : IsBody body
  -- which are in the next row
  pub body_there : 0 < left → HoldsBody ws next body
  -- the drafts are in the rows from the first draft on, one after another
  pub run : HaveIdsFrom first_draft drafts
  -- the words of each draft's row hold it
  pub written : (x : Element) → In x drafts → Holds ws x

-- what is so of the units of pass c
pub record UnitsHold (l : Limits) (h : List Event) (c claimed : ℕ)
    (spare_unit open_unit : Option ℕ) : Type 0 where
  -- no more units are claimed than the pass has
  pub used_below : claimed ≤ l.units
  -- no unit after those is in a claim
  pub unused : (u : ℕ) → c * l.units + claimed ≤ u → u < c * l.units + l.units → IsUnused h u
  -- a spare unit is the first of those after
  pub spare_next : (u : ℕ) → spare_unit ≡ Some u → (u ≡ c * l.units + claimed) × (claimed < l.units)
  -- an open unit was claimed by this pass, is not committed, and was not aborted by this pass
  pub open_own : (u : ℕ) → open_unit ≡ Some u → IsOwnOpen h c u
  -- every other unit that the pass has claimed is decided
  pub closed : AreEnded h c open_unit
  -- and so is each one before those that it hasn't, but the open one, which is the last
  pub in_order : (u : ℕ) → c * l.units ≤ u → u < c * l.units + claimed → end_of h u ≡ None
      → (open_unit ≡ Some u) × (u + 1 ≡ c * l.units + claimed)

-- the head of row i names unit u
abbrev pub NamesUnit : List ℕ → ℕ → ℕ → ℕ → ℕ → Type 0
NamesUnit ws i stage root u = IsFitHead (Filled stage root (Some u)) × HasHead ws i (Filled stage root (Some u))

-- what is so of all areas of a pass: of its part, and of each block that it has drawn
pub record AreasHold (l : Limits) (h : List Event) (ws : List ℕ) (a : Hand) : Type 0 where
  -- its run is in the last of them
  pub last : (first end : ℕ) → IsOwnArea l a.number a.blocks first end → end ≤ a.next + a.left
  -- a head there that names an undecided unit is a draft's of the open one
  pub decided : (first end i stage root u : ℕ) → IsOwnArea l a.number a.blocks first end → first ≤ i → i < end
      → NamesUnit ws i stage root u → end_of h u ≡ None
      → (a.first_draft ≤ i) × (i < a.next) × (a.open_unit ≡ Some u)
  -- one that names a committed unit is of an output of that
  pub output : (first end i stage root u from count : ℕ) → IsOwnArea l a.number a.blocks first end → first ≤ i
      → i < end → NamesUnit ws i stage root u → end_of h u ≡ Some (Committed from count)
      → (from ≤ i) × (i < from + count)
  -- no head is empty in those that its run has left, but in the rows that it left unused at last
  pub cleared : (first end i : ℕ) → IsOwnArea l a.number a.blocks first end → end ≢ a.next + a.left
      → first ≤ i
      → i < end → (slice_index ws (head_place i) ≢ 0) ⊎ ((a.passed_from ≤ i) × (i < a.passed_to))
  -- nor there, before the area of an element that it made
  pub headed : (first end i : ℕ) (e : Event) (x : Element) → IsOwnArea l a.number a.blocks first end
      → first ≤ i → i < end → In e a.mine → In x (births e) → end ≤ x.id → slice_index ws (head_place i) ≢ 0

-- what is so of one pass
pub record HandHolds (l : Limits) (h : List Event) (ws : List ℕ) (a : Hand) : Type 0 where
  -- it is one of the table's passes
  pub given : a.number < l.parts
  -- its own events are all of the history's events with its number
  pub mine : a.mine ≡ events_by a.number h
  -- the spare blocks that it has drawn ascend, and are below the counter
  pub blocks : Ascend 0 (drawn_in l ws) a.blocks
  -- each element that it made in a spare block is in one of those
  pub spares : (e : Event) (x : Element) (b : ℕ) → In e a.mine → In x (births e) → IsRowOfBlock l b x.id
      → In b a.blocks
  -- its run lies in one of its areas
  pub first : ℕ
  pub end : ℕ
  pub area : IsOwnArea l a.number a.blocks first end
  -- its rows are as it remembers them
  pub rows : RowsHold h ws first end a.first_draft a.next a.left a.next_body a.drafts
  -- and so are those right before the next one
  pub tail : HasTail ws first a.next a.tail a.tail_stage
  -- its units are as it remembers them
  pub units : UnitsHold l h a.number a.claimed a.spare_unit a.open_unit
  -- and the heads in all its areas are in order
  pub areas : AreasHold l h ws a

-- no two of these passes have one number
abbrev pub IsApart : List Hand → Type 0
IsApart [] = Unit {0}
IsApart (a ∷ hands) = ((b : Hand) → In b hands → ¬ (b.number ≡ a.number)) × IsApart hands

-- what was found in a word that stays is still so or has only risen
abbrev pub StillSo : Limits → List ℕ → Known → Type 0
StillSo l ws (RowHead i head) = (i < rows_of l) × IsFitHead head × (head ≢ Empty → HasHead ws i head)
StillSo l ws (RowTail i stage tail) = (i < rows_of l) × HaveStage ws stage i tail
StillSo l ws (PartMark s p n) = IsThere l (MarkWord s p) × (n ≤ slice_index ws (mark_place l s p))
StillSo l ws (MarkAbove s p n) = IsThere l (MarkWord s p) × (n < slice_index ws (mark_place l s p))
StillSo l ws (BlocksDrawn n) = n ≤ drawn_in l ws

-- which seat stands for a pass, and which pass has drawn a spare block
pub record Owners : Type 0 where
  pub seat : ℕ → ℕ
  pub drawer : ℕ → ℕ

-- what is so of seat j with the view v
pub record SeatHolds (l : Limits) (h : List Event) (ws : List ℕ) (owner : Owners) (j : ℕ)
    (v : View) : Type 0 where
  -- a seat that stands for a pass knows the limits
  pub limits : (a : Hand) → In a v.hands → v.limits ≡ l
  -- what it has seen begins the history
  pub seen : IsPrefix v.seen h
  -- so does what the seat that was joined to it had seen
  pub also_seen : IsPrefix v.also_seen h
  -- what it knows of words that stay is still so
  pub known : (x : Known) → In x v.known → StillSo l ws x
  -- it stands for no pass twice
  pub apart : IsApart v.hands
  -- it is the one seat that stands for its passes
  pub owns : (a : Hand) → In a v.hands → owner.seat a.number ≡ j
  -- each block that one of its passes has drawn is that pass's alone
  pub draws : (a : Hand) → In a v.hands → (b : ℕ) → In b a.blocks → owner.drawer b ≡ a.number
  -- each of its passes is as the seat knows it
  pub hands : (a : Hand) → In a v.hands → HandHolds l h ws a

-- what the head of row i says, where the number n is there
pub record HeadTold (h : List Event) (i n : ℕ) : Type 0 where
  pub head : Head
  -- the number's head is the packing of a value that a head can hold
  pub packed : head_bits n ≡ pack_head head
  pub fit : IsFitHead head
  -- and it has no tail where the head is empty
  pub bare : head ≡ Empty → n ≡ 0
  -- where an element is born in the row, it is that element's head
  pub born : (x : Element) → element_of h i ≡ Some x → head ≡ head_of x
  -- where none is born, it is empty or void, or names a unit
  pub draft : IsUnborn h i → IsDraft head

-- unit u is committed
abbrev pub IsCommitted : List Event → ℕ → Type 0
IsCommitted h u = (from : ℕ) × (count : ℕ) × (end_of h u ≡ Some (Committed from count))

-- and so are this many units right before it
abbrev pub AreCommitted : List Event → ℕ → ℕ → Type 0
AreCommitted h u tail = (w : ℕ) → w < u → u ≤ w + tail → IsCommitted h w

-- what the word of unit u says, where the number n is there
pub record UnitTold (h : List Event) (u n : ℕ) : Type 0 where
  -- it says how the unit ended
  pub packed : unit_bits n ≡ pack_unit (end_of h u)
  pub fit : IsFitUnit (end_of h u)
  -- it has no tail where that is undecided
  pub bare : end_of h u ≡ None → n ≡ 0
  -- the units of its tail are committed
  pub before : AreCommitted h u (unit_tail_bits n)

-- what each word says of the history h, where the number n is there
abbrev pub WordIs : List Event → Word → ℕ → Type 0
-- a head: what it says, which is that of the element where one is born
WordIs h (HeadWord i) n = HeadTold h i n
-- a word of a body: that of the element, where one is born
WordIs h (BodyWord i k) n = (x : Element) → element_of h i ≡ Some x → n ≡ slice_index x.body k
-- a claim: the packing of what the history says of the element's claims and kill
WordIs h (ClaimWord i) n = (n ≡ pack_claim (claim_word h i)) × IsFitClaim (claim_word h i)
-- a unit's word: how the unit ended
WordIs h (UnitWord u) n = UnitTold h u n
-- a mark: that hangs on other words too, and is said of all words together
WordIs h (MarkWord s p) n = Unit {0}
-- the counter of drawn blocks: the same
WordIs h DrawnWord n = Unit {0}

-- row i has an element that is consumed or killed
abbrev pub IsSettledRow : Limits → List Event → ℕ → Type 0
IsSettledRow l h i = (x : Element) × (element_of h i ≡ Some x) × IsSettled (status_of l.attempts h i)

-- row i has a draft of a unit that was aborted, which is never born
abbrev pub IsDead : List Event → List ℕ → ℕ → Type 0
IsDead h ws i = (stage : ℕ) × (root : ℕ) × (u : ℕ) × NamesUnit ws i stage root u × (end_of h u ≡ Some Aborted)

-- row i is finished
abbrev pub IsFinished : Limits → List Event → List ℕ → ℕ → Type 0
IsFinished l h ws i = IsSettledRow l h i ⊎ IsDead h ws i

-- the stages that marks of kind s are about: those of kind 0 are about all but replies, and those of any
-- other kind about the stage with that number
abbrev pub Concerns : ℕ → ℕ → Type 0
Concerns zero stage = ¬ (stage ≡ REPLY_STAGE)
Concerns (suc s) stage = stage ≡ suc s

-- a head is of no use to marks of kind s: it is void, or of a stage that they aren't about
abbrev pub IsOther : ℕ → Head → Type 0
IsOther s Empty = ⊥
IsOther s Void = Unit {0}
IsOther s (Filled stage root by) = ¬ Concerns s stage

-- row i has such a head: it stays, whether its element is born or not
abbrev pub IsAside : List ℕ → ℕ → ℕ → Type 0
IsAside ws s i = (head : Head) × IsFitHead head × HasHead ws i head × IsOther s head

-- row i is of no use to a look that begins at marks of kind s
abbrev pub IsUseless : Limits → ℕ → List Event → List ℕ → ℕ → Type 0
IsUseless l s h ws i = IsFinished l h ws i ⊎ IsAside ws s i

-- a part has as many as n rows; or there are as many spare rows, where p is the number of parts: they
-- follow the last one
abbrev pub IsInside : Limits → ℕ → ℕ → Type 0
IsInside l p n = (¬ (p ≡ l.parts) → n ≤ l.rows) × (p ≡ l.parts → n ≤ BLOCK_ROWS * l.spare)

-- what the mark n of kind s of part p, or of the spare rows, says: each of its rows below it is of no use
pub record MarkHolds (l : Limits) (s : ℕ) (h : List Event) (ws : List ℕ) (p n : ℕ) : Type 0 where
  pub inside : IsInside l p n
  pub below : (i : ℕ) → p * l.rows ≤ i → i < p * l.rows + n → IsUseless l s h ws i

-- what is so of the words after the history h
pub record World (l : Limits) (h : List Event) (ws : List ℕ) : Type 0 where
  -- each event of the history may come after those before it
  pub legal : IsLegal l h
  -- there are as many words as the limits say
  pub wide : length ws ≡ size_of l
  -- each word says what the history says
  pub tells : (w : Word) → IsThere l w → WordIs h w (slice_index ws (place_of l w))
  -- the rows below each mark are of no use to its kind
  pub marks : (s p : ℕ) → IsThere l (MarkWord s p) → MarkHolds l s h ws p (slice_index ws (mark_place l s p))
  -- no more blocks are drawn than there are
  pub drawn : drawn_in l ws ≤ l.spare
  -- the rows of blocks that aren't drawn have empty heads
  pub bare : (i : ℕ) → block_first l (drawn_in l ws) ≤ i → i < rows_of l → slice_index ws (head_place i) ≡ 0
  -- and no word of their bodies was stored
  pub unwritten : (i : ℕ) → block_first l (drawn_in l ws) ≤ i → i < rows_of l → IsUnwritten ws i
  -- after an empty head there are only empty and void ones in its area
  pub behind : (first end i j : ℕ) → IsArea l first end → first ≤ i → i ≤ j → j < end
      → slice_index ws (head_place i) ≡ 0
      → (slice_index ws (head_place j) ≡ 0) ⊎ (slice_index ws (head_place j) ≡ pack_head Void)
  -- the rows of each head's tail have heads of its stage
  pub tails : (i stage : ℕ) → i < rows_of l → HasStage ws stage i
      → HaveStage ws stage i (tail_bits (slice_index ws (head_place i)))

-- some seat has a pass of which P is so
abbrev pub AtSeat : (Hand → Type 0) → List View → Type 0
AtSeat P views = (j : ℕ) × (v : View) × (a : Hand) × (get_elem? views j ≡ some v) × In a v.hands × P a

-- pass c is one of a seat's
abbrev pub IsSeated : List View → ℕ → Type 0
IsSeated views c = AtSeat (λ (a : Hand). a.number ≡ c) views

-- a pass of some seat has drawn spare block b
abbrev pub IsDrawn : List View → ℕ → Type 0
IsDrawn views b = AtSeat (λ (a : Hand). In b a.blocks) views

-- the rule
pub record Rule (l : Limits) (s : State (Unit {0}) View) : Type 0 where
  -- the one history behind the words
  pub history : List Event
  -- which seat stands for each pass, and which pass has drawn each block
  pub owner : Owners
  -- the words say what the history says
  pub world : World l history s.words
  -- each seat has seen a beginning of the history, and its passes are as it knows them
  pub seats : (j : ℕ) (v : View) → get_elem? s.views j ≡ some v → SeatHolds l history s.words owner j v
  -- every pass is one of some seat's
  pub complete : (c : ℕ) → c < l.parts → IsSeated s.views c
  -- each spare block below the counter is one that some seat's pass has drawn
  pub drawers : (b : ℕ) → b < drawn_in l s.words → IsDrawn s.views b
