-- What is so of passes and keepers between two calls.
use Rattle.std.specs.Prelude.{◌≡◌, ℕ, ◌-◌, ◌<◌, ◌≤◌, List, []}
use Rattle.std.specs.Prelude.{map, Option, Some, None}
use Rattle.tp_model.specs.declared.types.Element.{Element}
use Rattle.tp_model.specs.declared.types.Limits.{Limits}
use Rattle.tp_model.specs.declared.event.Event.{Event}
use Rattle.tp_model.specs.History.{IsClaim, element_of, events_by}
use Rattle.tp_model.specs.Steps.{AreLimits, IsLegal}
use Rattle.tp_rule.specs.Rule.{IsSettledRow}
use Rattle.tp_rule.specs.Views.{SeatShown, fresh_from, hand, view_of}
use Rattle.tp_rule.specs.declared.view.Hand.{Hand}
use Rattle.tp_rule.specs.declared.view.View.{View}
use Rattle.tp_manager.specs.declared.manager.Run.{Run}
use Rattle.tp_manager.specs.declared.manager.Task.{Task}
use Rattle.tp_rule.specs.Steps.{tail_before, Knows, HasCleared}
use Rattle.tp_rule.specs.declared.view.Known.TheVariants.{BlocksDrawn}
use Rattle.tp_manager.specs.Calls.{claims_in}
use Rattle.tp_manager.specs.CallSteps.{IsKnown, Steady, IsBlank, with_trace}

-- the number of the open unit
abbrev pub unit_in : Option Task → Option ℕ
unit_in None = None
unit_in (Some t) = Some t.unit

-- pass c took an element of this root and in this row with this unit
abbrev pub IsTask : List Event → ℕ → Option Task → Type 0
IsTask h c None = Unit {0}
IsTask h c (Some t) = (i : ℕ) × (n : ℕ) × (x : Element) × IsClaim h c t.unit i n
    × (element_of h i ≡ Some x) × (x.root ≡ t.root) × (i ≡ t.row)

-- the seat knows that this many spare blocks are drawn, where these are any
abbrev pub RemembersDrawn : View → ℕ → Type 0
RemembersDrawn v drawn = (drawn ≤ v.limits.spare) × (0 < drawn → Knows v (BlocksDrawn drawn))

-- the element of the row that is done is consumed or killed in what the seat has seen
abbrev pub RemembersDone : View → Option ℕ → Type 0
RemembersDone v last = (i : ℕ) → last ≡ Some i → IsSettledRow v.limits v.seen i

-- what is so of every pass between two calls
pub record Rests (seat : SeatShown) (number : ℕ) (run : Run) (used : ℕ) (task : Option Task) : Type 0 where
  pub steady : Steady (view_of seat).limits (view_of seat)
  pub number_is : (hand (view_of seat)).number ≡ number
  pub run_is : ((hand (view_of seat)).next ≡ run.next) × ((hand (view_of seat)).left ≡ run.left)
  -- it has published that many rows right before the next one in that stage
  pub tail : run.tail ≤ tail_before run.tail_stage (hand (view_of seat))
  pub drawn : RemembersDrawn (view_of seat) run.drawn
  pub done : RemembersDone (view_of seat) run.done
  pub used_is : (hand (view_of seat)).claimed ≡ used
  pub used_below : used ≤ (view_of seat).limits.units
  -- each used unit is in an own claim
  pub claims : claims_in (hand (view_of seat)).mine ≡ used
  pub no_drafts : (hand (view_of seat)).drafts ≡ []
  -- no row is empty that it left unused when it drew its last block
  pub cleared : HasCleared (view_of seat)
  -- nothing is stored of the next row
  pub blank : IsBlank (view_of seat)
  pub open_is : (hand (view_of seat)).open_unit ≡ unit_in task
  pub work : IsTask (view_of seat).seen number task

-- the passes without their traces
abbrev pub untraced : List Hand → List Hand
untraced hands = map (with_trace []) hands

-- what is so of every keeper: its seat stands for the passes that are not given out. They have done nothing
-- but look, and what they have seen is a legal history without an event of theirs
pub record Keeps (seat : SeatShown) (limits : Limits) (given : ℕ) : Type 0 where
  pub valid : AreLimits limits
  pub limits_are : (view_of seat).limits ≡ limits
  pub below : given ≤ limits.parts
  pub rest : untraced (view_of seat).hands ≡ fresh_from limits given (limits.parts - given)
  pub legal : IsLegal limits (view_of seat).seen
  pub known : IsKnown limits (view_of seat)
  pub none : (c : ℕ) → given ≤ c → events_by c (view_of seat).seen ≡ []
