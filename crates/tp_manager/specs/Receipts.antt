-- What a receipt is, and what leaving and following one leaves. `old` and `new` are what the pass shows
-- before and after the call.
use Rattle.std.specs.Prelude.{◌≡◌, List, [], ◌∷◌, ◌++◌}
use mathlib.Core.List.{IsPrefix}
use Rattle.atomic_table.specs.Seated.{TableId}
use Rattle.tp_model.specs.declared.event.Event.{Event}
use Rattle.tp_manager.specs.Meetings.{load, seat_load}
use Rattle.tp_manager.specs.Shown.{ManagerShown, PassShown}

-- a receipt shows at which table it was left, and what the pass had seen then
pub record ReceiptShown : Type 0 where
  pub table : TableId
  pub seen : List Event

-- it was left by a pass of this manager
abbrev pub IsReceiptOf : ManagerShown → ReceiptShown → Type 0
IsReceiptOf m receipt = receipt.table ≡ m.table

-- the receipt has seen what the pass had, which made one load, and has changed in nothing else
pub record LeavesReceipt (old new : PassShown) (receipt : ReceiptShown) : Type 0 where
  pub seen : receipt.seen ≡ old.seen
  pub same : new ≡ record old { trace = old.trace ++ seat_load old.seen ∷ [] }

-- the pass has seen what the receipt had; it made two loads, of which the second looked, and has seen more,
-- and has changed in nothing else
pub record FollowsReceipt (receipt : ReceiptShown) (old new : PassShown) : Type 0 where
  pub saw : IsPrefix receipt.seen new.seen
  pub same : new ≡ record old {
    seen = new.seen;
    trace = old.trace ++ seat_load old.seen ∷ load new.seen ∷ [];
  }
