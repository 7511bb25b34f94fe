-- How a claim goes by several parts.
use Rattle.std.specs.Prelude.{◌≡◌, ◌⊎◌, ℕ, ◌<◌, ◌≤◌, List, slice_index}
use Rattle.tp_model.specs.declared.types.Limits.{Limits}
use Rattle.tp_rule.specs.declared.view.View.{View}
use Rattle.tp_manager.specs.CallSteps.{Looked}
use Rattle.tp_manager.specs.Marks.{RestsAt}
use Rattle.tp_manager.specs.Scans.{Begun, OfPart, PassedBy}
use Rattle.tp_manager.specs.Shown.{NoneFalls}

-- by at most n looks a claim of the stage goes by the parts from `from` on and before `end`, none of which the
-- pass knew finished. The marks that it remembers are `lows` before, and lows' after, which differ in those
-- parts alone
pub record GoesBy (l : Limits) (stage from end n : ℕ) (lows lows' : List ℕ) (v w : View) : Type 0 where
  pub part : (from ≤ end) × (end ≤ l.parts)
  pub left : (q : ℕ) → from ≤ q → q < end → ¬ (slice_index lows q ≡ l.rows)
  pub others : (q : ℕ) → (q < from) ⊎ (end ≤ q) → slice_index lows' q ≡ slice_index lows q
  pub rises : NoneFalls lows lows'
  pub rests : (q : ℕ) → from ≤ q → q < end → RestsAt l stage q (slice_index lows' q) v w
  pub few : Looked l n v w
  pub told : Begun l (OfPart l (PassedBy l stage)) n from end v w
