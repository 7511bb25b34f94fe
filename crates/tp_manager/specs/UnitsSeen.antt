-- What a pass knows of units. In each definition l are the table's limits, v is a view, and a is the history
-- before and b the one after.
use Rattle.std.specs.Prelude.{◌≡◌, ℕ, ◌+◌, ◌*◌, ◌<◌, List, Some, slice_index}
use Rattle.tp_model.specs.declared.event.Event.{Event}
use Rattle.tp_model.specs.declared.types.Limits.{Limits}
use Rattle.tp_model.specs.History.{Aborted, end_of}
use Rattle.tp_model.specs.Steps.{IsUnitOf}
use Rattle.tp_rule.specs.Rule.{IsCommitted}
use Rattle.tp_rule.specs.declared.view.View.{View}

-- of the units of each part so many of the first ones were seen to be committed
abbrev pub RemembersUnits : View → List ℕ → Type 0
RemembersUnits v counts = (c u : ℕ) → IsUnitOf v.limits c u
    → u < c * v.limits.units + slice_index counts c → IsCommitted v.seen u

-- no unit of part c is aborted in history a
abbrev pub NoneAborted : Limits → ℕ → List Event → List Event → Type 0
NoneAborted l c a b = (u : ℕ) → IsUnitOf l c u → ¬ (end_of a u ≡ Some Aborted)
