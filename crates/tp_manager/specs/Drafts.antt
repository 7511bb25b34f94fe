-- The drafts that a pass stores, the rows that it draws for them, and the end of their unit. In each
-- definition l are the table's limits, v is the view before, and w the view after.
use Rattle.std.specs.Prelude.{◌≡◌, ℕ, List, [], ◌++◌, length}
use Rattle.std.specs.Prelude.{Some, None}
use mathlib.Core.List.{IsPrefix}
use Rattle.tp_model.specs.declared.types.Element.{Element}
use Rattle.tp_model.specs.declared.types.Limits.{Limits}
use Rattle.tp_model.specs.declared.event.Event.{Event}
use Rattle.tp_model.specs.declared.trace.TraceEntry.{TraceEntry}
use Rattle.tp_model.specs.Drafts.{DraftView}
use Rattle.tp_model.specs.Steps.{block_first}
use Rattle.tp_rule.specs.Views.{hand}
use Rattle.tp_rule.specs.declared.view.View.{View}
use Rattle.tp_rule.specs.Steps.{with_block}
use Rattle.tp_manager.specs.Bounds.{draft_steps}
use Rattle.tp_manager.specs.CallSteps.{Stepped, IsBlank, with_trace, UsedRows}

-- in at most n steps the pass has drawn spare block b, whose rows are its run by now
pub record Drew (l : Limits) (n b : ℕ) (v w : View) : Type 0 where
  pub marks : List TraceEntry
  pub walk : Stepped l n marks v w
  pub hand_is : hand w ≡ with_trace (hand w).trace (with_block b (block_first l b) (hand v))
  pub seen : w.seen ≡ v.seen

-- in at most n steps the pass has used k rows and closed its open unit, with its own events es at the end
pub record Shut (l : Limits) (n k : ℕ) (es : List Event) (v w : View) : Type 0 where
  pub marks : List TraceEntry
  pub walk : Stepped l n marks v w
  pub before : List Event
  pub begins : IsPrefix v.seen before
  pub ends : w.seen ≡ before ++ es
  pub run : UsedRows k (hand v) (hand w)
  pub claimed : (hand w).claimed ≡ (hand v).claimed
  pub mine : (hand w).mine ≡ (hand v).mine ++ es
  pub drafts : (hand w).drafts ≡ []
  pub blank : IsBlank v → IsBlank w
  pub open_unit : (hand w).open_unit ≡ None

-- the output that a draft becomes in row i
abbrev pub output : ℕ → ℕ → ℕ → DraftView → Element
output u root i d = record { id = i; stage = d.stage; root = root; body = d.body; by = Some u }

-- the pass has stored the drafts xs, and has seen nothing more
pub record Wrote (l : Limits) (xs : List Element) (v w : View) : Type 0 where
  pub marks : List TraceEntry
  pub walk : Stepped l (draft_steps (length xs)) marks v w
  pub seen : w.seen ≡ v.seen
  pub run : UsedRows (length xs) (hand v) (hand w)
  pub claimed : (hand w).claimed ≡ (hand v).claimed
  pub mine : (hand w).mine ≡ (hand v).mine
  pub drafts : (hand w).drafts ≡ (hand v).drafts ++ xs
  pub blank : IsBlank v → IsBlank w
  pub open_unit : (hand w).open_unit ≡ (hand v).open_unit
