-- The marks that a pass remembers: what it knows of the rows below them, how they rise, and where they rest.
-- In each definition l are the table's limits, v is the view before, and w the view after.
use Rattle.std.specs.Prelude.{◌≡◌, ◌≢◌, ◌⊎◌, ℕ, ◌+◌, ◌*◌, ◌<◌, ◌≤◌, List}
use Rattle.std.specs.Prelude.{Option, Some, None, slice_index}
use mathlib.Core.List.{IsPrefix}
use Rattle.tp_model.specs.declared.types.Element.{Element}
use Rattle.tp_model.specs.declared.types.Limits.{Limits}
use Rattle.tp_model.specs.declared.event.Event.{Event}
use Rattle.tp_model.specs.History.{IsSettled, element_of, status_of}
use Rattle.tp_model.specs.Steps.{IsServerStage}
use Rattle.tp_rule.specs.Rule.{AreCommitted, IsInside}
use Rattle.tp_rule.specs.declared.view.View.{View}
use Rattle.tp_manager.specs.declared.seeker.Taken.{Taken}
use Rattle.tp_rule.specs.Steps.{KnowsUseless, Knows}
use Rattle.tp_rule.specs.declared.view.Known.TheVariants.{MarkAbove, PartMark}
use Rattle.tp_manager.specs.Shown.{NoneFalls, marks_of}
use Rattle.tp_manager.specs.Raises.{IsOfUse}
use Rattle.tp_manager.specs.UnitsSeen.{RemembersUnits}
use Rattle.tp_manager.specs.declared.streak.Streak.{Streak}
use Rattle.tp_manager.specs.CallSteps.{opening_in}

-- the seat knows each row from a on and below b of no use to kind c: so a mark of that kind may rise from a
-- to b
abbrev pub Rose : ℕ → View → ℕ → ℕ → Type 0
Rose c v a b = (a ≤ b) × ((i : ℕ) → a ≤ i → i < b → KnowsUseless v c i)

-- a raise to n of the mark of a server stage failed, since another pass had raised it above the number that
-- was found; and so each row from that number on and below n is known of no use
pub record Missed (l : Limits) (c : ℕ) (v : View) (p n : ℕ) : Type 0 where
  pub stage : IsServerStage c
  pub found : ℕ
  pub knows : Knows v (PartMark c p found)
  pub above : Knows v (MarkAbove c p found)
  pub inside : IsInside l p n
  pub rose : Rose c v (p * l.rows + found) (p * l.rows + n)

-- the pass may remember the mark n of part p: the seat knows it, or a raise to it failed
abbrev pub MayRemember : Limits → ℕ → View → ℕ → ℕ → Type 0
MayRemember l c v p n = Knows v (PartMark c p n) ⊎ Missed l c v p n

-- the marks of kind c that the pass remembers are such
abbrev pub Remembers : ℕ → View → List ℕ → Type 0
Remembers c v lows = (p : ℕ) → 0 < slice_index lows p → MayRemember v.limits c v p (slice_index lows p)

-- so of all kinds
abbrev pub RemembersAll : View → List (List ℕ) → Type 0
RemembersAll v lows = (c : ℕ) → Remembers c v (marks_of lows c)

-- an element of the stage is born in row i
abbrev pub IsOfStage : ℕ → List Event → ℕ → Type 0
IsOfStage stage h i = (x : Element) × (element_of h i ≡ Some x) × (x.stage ≡ stage)

-- and in each row from a on and below b
abbrev pub AreOfStage : ℕ → List Event → ℕ → ℕ → Type 0
AreOfStage stage h a b = (i : ℕ) → a ≤ i → i < b → IsOfStage stage h i

-- a gap of kind c, by three rows: the seat knows each row from the second on and below the third of no use to
-- that kind, whatever lies before them; and in each from the first on and below the second an element of that
-- stage is born
abbrev pub IsGap : ℕ → View → ℕ × ℕ × ℕ → Type 0
IsGap c v gap = AreOfStage c v.seen gap.0 gap.1 × Rose c v gap.1 gap.2

-- the gap of part p, or of the spare rows, as a pass keeps it: its three rows beside each other
abbrev pub gap_in : List ℕ → ℕ → ℕ × ℕ × ℕ
gap_in gaps p = (slice_index gaps (3 * p), slice_index gaps (3 * p + 1), slice_index gaps (3 * p + 2))

-- the gaps of kind c that the pass remembers are such
abbrev pub RemembersGaps : ℕ → View → List ℕ → Type 0
RemembersGaps c v gaps = (p : ℕ) → IsGap c v (gap_in gaps p)

-- of the first n parts every row is below the mark that is remembered
abbrev pub AreFinished : Limits → List ℕ → ℕ → Type 0
AreFinished l lows n = (p : ℕ) → p < n → slice_index lows p ≡ l.rows

-- the parts before this one are finished, and it is one
abbrev pub IsBehind : Limits → List ℕ → ℕ → Type 0
IsBehind l lows part = (part < l.parts) × AreFinished l lows part

-- what a pass remembers of all kinds: marks, gaps behind them, and a part before which all are finished; of
-- units; and of those that it has committed last
pub record Recalls (v : View) (lows runs : List (List ℕ)) (begins units : List ℕ) (s : Streak) : Type 0 where
  pub marks : RemembersAll v lows
  pub gaps : (c : ℕ) → RemembersGaps c v (marks_of runs c)
  pub behind : (c : ℕ) → IsBehind v.limits (marks_of lows c) (slice_index begins c)
  pub committed : RemembersUnits v units
  pub streak : AreCommitted v.seen s.end s.length

-- no mark that the pass remembers fell, and it remembers no other than that of part p
abbrev pub RisesAt : ℕ → List ℕ → List ℕ → Type 0
RisesAt p lows lows' = NoneFalls lows lows' × ((q : ℕ) → q ≢ p → slice_index lows' q ≡ slice_index lows q)

-- the element of row i was neither consumed nor killed in some history from a to b
abbrev pub WasUnsettled : Limits → ℕ → List Event → List Event → Type 0
WasUnsettled l i a b = (p : List Event) × IsPrefix a p × IsPrefix p b × ¬ IsSettled (status_of l.attempts p i)

-- row i may have been of use to claims of the stage in some history from a to b
abbrev pub WasOfUse : Limits → ℕ → ℕ → List Event → List Event → Type 0
WasOfUse l stage i a b = (p : List Event) × IsPrefix a p × IsPrefix p b × IsOfUse l stage i p

-- row i may have been of use at a point of these steps
abbrev pub WasOfUseIn : Limits → ℕ → ℕ → View → View → Type 0
WasOfUseIn l stage i v w = WasOfUse l stage i (opening_in v w) w.seen

-- the mark n of part p is the part's end, or its row may have been of use at a point of the steps from v to w
abbrev pub RestsAt : Limits → ℕ → ℕ → ℕ → View → View → Type 0
RestsAt l stage p n v w = (n ≡ l.rows) ⊎ WasOfUseIn l stage (p * l.rows + n) v w

-- a scan came to row i: it found nothing, or took the element of that row or of one after it
abbrev pub CameTo : ℕ → Option Taken → Type 0
CameTo i None = Unit {0}
CameTo i (Some t) = i ≤ t.element.id

-- so these marks rest in each part that a scan came to
abbrev pub RestInParts : Limits → ℕ → List ℕ → View → View → Option Taken → Type 0
RestInParts l stage lows v w found = (p : ℕ) → p < l.parts → CameTo (p * l.rows) found
    → RestsAt l stage p (slice_index lows p) v w
