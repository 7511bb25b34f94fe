-- A receipt: a seat that stands for no pass, and has seen what the pass had that left it. v and w are the view
-- of the pass before and after, and r is that of the receipt.
use Rattle.std.specs.Prelude.{◌≡◌, ℕ, [], Some}
use mathlib.Core.List.{IsPrefix}
use Rattle.tp_model.specs.History.{events_by}
use Rattle.tp_model.specs.Passes.{AreEnded, IsOwnOpen, IsRun}
use Rattle.tp_model.specs.Steps.{IsLegal}
use Rattle.tp_model.specs.declared.trace.StepKind.TheVariants as kinds
use Rattle.tp_rule.specs.Steps.{IsSo, Knows, looked, noted, with_hands}
use Rattle.tp_rule.specs.Views.{IsOnePass, hand}
use Rattle.tp_rule.specs.declared.view.Known.{Known}
use Rattle.tp_rule.specs.declared.view.View.{View}

-- the seat stands for no pass
abbrev pub IsReceipt : View → Type 0
IsReceipt r = r.hands ≡ []

-- the pass has left the receipt: it has one more load in its trace, and both know and have seen what it had
pub record SeatLeaves (v w r : View) : Type 0 where
  pub stays : w ≡ with_hands (looked v v.hands) v
  pub leaves : r ≡ with_hands [] v

-- the pass has followed the receipt: what either had seen begins what it has seen
pub record SeatFollows (v r w : View) : Type 0 where
  pub legal : IsLegal v.limits w.seen
  pub own_saw : IsPrefix v.seen w.seen
  pub receipt_saw : IsPrefix r.seen w.seen
  -- it made the two steps, and nothing else changed
  pub one : IsOnePass w
  pub is : hand w ≡ noted kinds.Load w.seen (noted kinds.SeatLoad v.seen (hand v))
  pub limits : w.limits ≡ v.limits
  -- its events are all with its number, its open unit is its own, and its other units have ended
  pub mine : (hand w).mine ≡ events_by (hand w).number w.seen
  pub open_own : (u : ℕ) → (hand w).open_unit ≡ Some u → IsOwnOpen w.seen (hand w).number u
  pub ended : AreEnded w.seen (hand w).number (hand w).open_unit
  -- the rows that are left to it are a run
  pub run : IsRun v.limits w.seen (hand w).number (hand w).blocks (hand w).next (hand w).left
  -- what it knew it knows
  pub knows : (x : Known) → Knows v x → Knows w x
  pub is_so : (x : Known) → Knows w x → IsSo v.limits w.seen x
