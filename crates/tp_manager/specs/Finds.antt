-- What a listing finds on its way. In each definition l are the table's limits, a is the history before, and
-- b the history after.
use Rattle.std.specs.Prelude.{◌≡◌, ◌⊎◌, ℕ, ◌+◌, ◌-◌, ◌*◌, ◌<◌, ◌≤◌, List, MatchOption, Option, Some, slice_index}
use mathlib.Core.List.{IsPrefix}
use Rattle.tp_model.specs.declared.types.Element.{Element}
use Rattle.tp_model.specs.declared.types.Limits.{Limits}
use Rattle.tp_model.specs.declared.event.Event.{Event}
use Rattle.tp_model.specs.History.{IsSettled, element_of, status_of}
use Rattle.tp_rule.specs.declared.view.View.{View}
use Rattle.tp_model.specs.Steps.{IsParked, part_rows}
use Rattle.tp_manager.specs.Bounds.{error_steps, listed_steps, scan_steps}
use Rattle.tp_manager.specs.Scans.{EachRow, Sought}
use Rattle.tp_manager.specs.Requeues.{IsBetween}
use Rattle.tp_manager.specs.declared.error_queue.Fate.{Fate}
use Rattle.tp_manager.specs.declared.error_queue.Fate.TheVariants.{Error, Over, Other}

-- the element of row i is parked
abbrev pub Hits : Limits → ℕ → List Event → Type 0
Hits l i h = (x : Element) × (element_of h i ≡ Some x)
    × IsParked (status_of l.attempts h i)

-- so the element of row i was found: parked, or over, or at some history from a to b not parked
abbrev pub HasFate : Limits → ℕ → List Event → List Event → Fate → Type 0
HasFate l i a b Error = IsParked (status_of l.attempts b i)
HasFate l i a b Over = IsSettled (status_of l.attempts b i)
HasFate l i a b Other = IsBetween a b (λ h. ¬ IsParked (status_of l.attempts h i))

-- if row i had an element in history a, that wasn't parked in some history from a to b
abbrev pub PassedOver : Limits → ℕ → List Event → List Event → Type 0
PassedOver l i a b = (x : Element) → element_of a i ≡ Some x
    → (p : List Event) × IsPrefix a p × IsPrefix p b × ¬ IsParked (status_of l.attempts p i)

-- in at most n steps, which lead from the view v to w: the first of the rows from `from` on and below `end`
-- whose element was parked, where each before it was passed over; or none, where all were
abbrev pub Finds : Limits → ℕ → ℕ → ℕ → View → View → Option ℕ → Type 0
Finds l n from end v w result = MatchOption result
    (Sought l n (EachRow (PassedOver l) from end) v w)
    (λ id. (from ≤ id) × (id < end) × Hits l id w.seen × Sought l n (EachRow (PassedOver l) from id) v w)

-- a row below a mark that a pass remembers
abbrev pub IsBelowMark : Limits → List ℕ → ℕ → Type 0
IsBelowMark l lows i = (p : ℕ) × (p * l.rows ≤ i) × (i < p * l.rows + slice_index lows p)

-- how far a listing of the parts has come: before its first look it has left out rows below the marks alone
abbrev pub HasListed : Limits → ℕ → ℕ → ℕ → List ℕ → View → View → Type 0
HasListed l n from row lows v w = ((w ≡ v) × (row < part_rows l)
    × ((i : ℕ) → from ≤ i → i < row → IsBelowMark l lows i))
    ⊎ Sought l n (EachRow (PassedOver l) from row) v w

-- a walk over a part whose first head was looked at before, and over those behind it
abbrev pub parts_walk : Limits → List ℕ → ℕ → ℕ
parts_walk l lows part = 2 + (l.rows - slice_index lows part) * error_steps
    + (scan_steps l listed_steps 2 lows l.parts - scan_steps l listed_steps 2 lows (part + 1))
