-- What the view of a pass keeps over some of a call's steps. In each definition l are the table's limits, v
-- is the view before, and w the view after.
use Rattle.std.specs.Prelude.{◌≡◌, ℕ, ◌+◌, ◌≤◌, List, [], ◌++◌, length, drop}
use Rattle.std.specs.Prelude.{None}
use mathlib.Core.List.{IsPrefix}
use Rattle.tp_model.specs.declared.types.Limits.{Limits}
use Rattle.tp_model.specs.declared.event.Event.{Event}
use Rattle.tp_model.specs.declared.trace.TraceEntry.{TraceEntry}
use Rattle.tp_model.specs.Passes.{HasLook, PassView, IsPassView, opening_of}
use Rattle.tp_rule.specs.Tables.{IsSeatOf, table_limits}
use Rattle.tp_rule.specs.Views.{IsOnePass, SeatShown, blank_body, hand, view_of}
use Rattle.tp_rule.specs.declared.words.Words.{Words}
use Rattle.tp_rule.specs.declared.view.Hand.{Hand}
use Rattle.tp_rule.specs.declared.view.View.{View}
use Rattle.tp_rule.specs.Steps.{IsSo, Knows}
use Rattle.tp_rule.specs.declared.view.Known.{Known}

-- what a seat that stands for one pass shows of it
abbrev pub pass_in : View → PassView
pass_in v = record {
  number = (hand v).number;
  seen = v.seen;
  mine = (hand v).mine;
  open_unit = (hand v).open_unit;
  next = (hand v).next;
  left = (hand v).left;
  blocks = (hand v).blocks;
  trace = (hand v).trace;
}

-- what the seat knows is so in what it has seen
abbrev pub IsKnown : Limits → View → Type 0
IsKnown l v = (x : Known) → Knows v x → IsSo l v.seen x

-- the seat stands for one pass, knows the limits, and shows what a pass shows
pub record Steady (l : Limits) (v : View) : Type 0 where
  pub pass : IsOnePass v × (v.limits ≡ l)
  pub shows : IsPassView l (pass_in v)
  pub known : IsKnown l v

-- the seat is one of the table's, and steady: what each function that makes steps asks for
pub record IsSteady (words : Words) (seat : SeatShown) : Type 0 where
  pub own : IsSeatOf words seat
  pub steady : Steady (table_limits words) (view_of seat)

-- these steps lead from v to w, and there are at most n
pub record Stepped (l : Limits) (n : ℕ) (marks : List TraceEntry) (v w : View) : Type 0 where
  pub traced : (hand w).trace ≡ (hand v).trace ++ marks
  pub few : length marks ≤ n
  pub opens : IsPrefix v.seen (opening_of v.seen marks)
  pub closes : IsPrefix (opening_of v.seen marks) w.seen
  pub number : (hand w).number ≡ (hand v).number
  pub limits : v.limits ≡ l
  pub steady : Steady l w
  -- what was known is known
  pub knows : (x : Known) → Knows v x → Knows w x

-- no word of the body of the pass's next row is stored
abbrev pub IsBlank : View → Type 0
IsBlank v = (hand v).next_body ≡ blank_body

-- the pass with this trace
abbrev pub with_trace : List TraceEntry → Hand → Hand
with_trace t a = record a { trace = t }

-- at most n steps have changed nothing in the pass but its trace
pub record Looked (l : Limits) (n : ℕ) (v w : View) : Type 0 where
  pub marks : List TraceEntry
  pub walk : Stepped l n marks v w
  pub kept : hand w ≡ with_trace (hand w).trace (hand v)

-- the rows that it left unused when it drew its last block are those
abbrev pub SamePassed : Hand → Hand → Type 0
SamePassed a b = (b.passed_from ≡ a.passed_from) × (b.passed_to ≡ a.passed_to)

-- it has published as many of the rows right before its next one in one stage
abbrev pub SameTail : Hand → Hand → Type 0
SameTail a b = (b.tail ≡ a.tail) × (b.tail_stage ≡ a.tail_stage)

-- the pass has used none of the rows that are left to it
abbrev pub SameRun : Hand → Hand → Type 0
SameRun a b = (b.next ≡ a.next) × (b.left ≡ a.left) × (b.blocks ≡ a.blocks) × SamePassed a b × SameTail a b

-- the pass has used k of them
abbrev pub UsedRows : ℕ → Hand → Hand → Type 0
UsedRows k a b = (b.next ≡ a.next + k) × (b.left + k ≡ a.left) × (b.blocks ≡ a.blocks) × SamePassed a b

-- at most n steps have changed nothing in the pass but that it has made these events, and let go of what it
-- had
pub record Gained (l : Limits) (n : ℕ) (es : List Event) (v w : View) : Type 0 where
  pub marks : List TraceEntry
  pub walk : Stepped l n marks v w
  pub run : SameRun (hand v) (hand w)
  pub claimed : (hand w).claimed ≡ (hand v).claimed
  pub mine : (hand w).mine ≡ (hand v).mine ++ es
  pub drafts : (hand v).drafts ≡ [] → (hand w).drafts ≡ []
  pub body : (hand w).next_body ≡ (hand v).next_body
  pub open_unit : (hand v).open_unit ≡ None → (hand w).open_unit ≡ None

-- at most n steps have changed nothing in the pass but its trace, and one of them looks
pub record Acted (l : Limits) (n : ℕ) (v w : View) : Type 0 where
  pub marks : List TraceEntry
  pub walk : Stepped l n marks v w
  pub kept : hand w ≡ with_trace (hand w).trace (hand v)
  pub step : HasLook marks

-- at most n steps lead from v to w
abbrev pub StepsTo : ℕ → View → View → Type 0
StepsTo n v w = length (hand w).trace ≤ length (hand v).trace + n

-- what was seen at the opening of the steps from v to w
abbrev pub opening_in : View → View → List Event
opening_in v w = opening_of v.seen (drop (length (hand v).trace) (hand w).trace)

-- in at most n steps the pass has done nothing, and has seen nothing more
pub record Tried (l : Limits) (n : ℕ) (v w : View) : Type 0 where
  pub marks : List TraceEntry
  pub walk : Stepped l n marks v w
  pub hand_is : hand w ≡ with_trace (hand w).trace (hand v)
  pub seen : w.seen ≡ v.seen
