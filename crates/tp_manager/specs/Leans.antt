-- Bounds by what is born in each row. In each definition l are the table's limits, v is the view before some
-- steps, and w the view after them.
use Rattle.std.specs.Prelude.{ℕ, ◌+◌, ◌*◌, if◌then◌else◌, nat_lt, List, Option, Some, None}
use mathlib.Core.List.{IsPrefix}
use Rattle.tp_model.specs.declared.types.Limits.{Limits}
use Rattle.tp_model.specs.declared.types.TheConstants.{BLOCK_ROWS}
use Rattle.tp_model.specs.declared.event.Event.{Event}
use Rattle.tp_model.specs.Steps.{part_rows}
use Rattle.tp_rule.specs.Steps.{IsSo, Knows}
use Rattle.tp_rule.specs.declared.view.Known.{Known}
use Rattle.tp_rule.specs.declared.view.View.{View}
use Rattle.tp_manager.specs.declared.seeker.Taken.{Taken}
use Rattle.tp_manager.specs.Bounds.{drawn_steps}
use Rattle.tp_manager.specs.RowSteps.{sum_left, sum_rows, try_steps_at, until}
use Rattle.tp_manager.specs.CallSteps.{StepsTo}

-- the history h goes on from what is seen in view w, and what is known there is so in it
pub record IsAfter (l : Limits) (w : View) (h : List Event) : Type 0 where
  pub begins : IsPrefix w.seen h
  pub so : (x : Known) → Knows w x → IsSo l h x

-- there are at most as many steps as n says of what is seen before them, and of whatever is seen after them
pub record IsLean (l : Limits) (n : List Event → List Event → ℕ) (v w : View) : Type 0 where
  pub few : (h : List Event) → IsAfter l w h → StepsTo (n v.seen h) v w
  pub begins : IsPrefix v.seen w.seen
  pub knows : (x : Known) → Knows v x → Knows w x

-- at most k, and what a claim of the stage makes at each of n rows from row i on
abbrev pub IsLeanAt : Limits → ℕ → ℕ → ℕ → ℕ → View → View → Type 0
IsLeanAt l stage k i n v w = IsLean l (λ a h. k + sum_rows (try_steps_at stage a h) i n) v w

-- and at each row of the first n parts that is not below these marks, but for those from row `end` on
abbrev pub IsLeanIn : Limits → ℕ → ℕ → List ℕ → ℕ → ℕ → View → View → Type 0
IsLeanIn l stage k lows n end v w =
    IsLean l (λ a h. k + sum_left l (until end (try_steps_at stage a h)) lows n) v w

-- the row at which a scan of the rows before `to` ended: it came to this
abbrev pub scan_end : ℕ → Option Taken → ℕ
scan_end to None = to
scan_end to (Some t) = t.element.id + 1

-- f at the rows from `from` on and before `to`, and nothing elsewhere
abbrev pub within : ℕ → ℕ → (ℕ → ℕ) → ℕ → ℕ
within from to f i = if nat_lt i from then 0 else until to f i

-- at most k, and what a claim of the stage makes at those of n rows from row i on
abbrev pub IsLeanWithin : Limits → ℕ → ℕ → ℕ → ℕ → ℕ → ℕ → View → View → Type 0
IsLeanWithin l stage k i n from to v w =
    IsLean l (λ a h. k + sum_rows (within from to (try_steps_at stage a h)) i n) v w

-- and at those of the rows of the first n parts that are not below these marks
abbrev pub IsLeanAmong : Limits → ℕ → ℕ → List ℕ → ℕ → ℕ → ℕ → View → View → Type 0
IsLeanAmong l stage k lows n from to v w =
    IsLean l (λ a h. k + sum_left l (within from to (try_steps_at stage a h)) lows n) v w

-- what a look for work makes at those of all rows, where so many spare blocks are found drawn
abbrev pub span_steps : Limits → ℕ → List ℕ → ℕ → ℕ → ℕ → List Event → List Event → ℕ
span_steps l stage lows drawn from to a h = let f = within from to (try_steps_at stage a h) in
    sum_left l f lows l.parts + sum_rows f (part_rows l) (BLOCK_ROWS * drawn) + 3 * l.parts
    + drawn_steps l.spare
