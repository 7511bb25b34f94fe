-- What desks ask of their servers.
use Rattle.std.specs.Prelude.{◌≡◌, ℕ, Bool, List, [], ◌++◌, Option}
use Rattle.tp_model.specs.declared.types.Limits.{Limits}
use Rattle.tp_server.specs.Asked.{Asked, Asks}
use Rattle.tp_server.specs.Behaviour.{Behaviour}
use Rattle.tp_server.specs.Pending.{Pending}
use Rattle.tp_manager.specs.Shown.{ManagerShown, PassShown}
use Rattle.tp_desk.specs.Asking.{turn_asks}
use Rattle.tp_server.specs.declared.order.Order.{Order}
use Rattle.tp_server.specs.declared.turned.Turned.{Turned}
use Rattle.tp_workers.specs.declared.tally.Shift.{Shift}
use Rattle.tp_workers.specs.Calling.{MadeCalls}
use Rattle.tp_workers.specs.Desks.{DeskPlace, TakesTurn, place}
use Rattle.tp_workers.specs.Tally.{turn_count}

-- A turn was taken at this place, and what it asks was added to what had been asked there, the last call
-- first.
pub record TurnAsks (order : Order) (l : Limits) (old : DeskPlace × List Asked) (turned : Turned)
    (new : DeskPlace × List Asked) : Type 0 where
  pub turn : TakesTurn order l old.0 turned new.0
  pub adds : new.1 ≡ turn_asks turned new.0.pass.seen old.0.registers new.0.registers ++ old.1

-- Turns were taken in this order, which are counted so, and the server was asked exactly what they ask. The
-- first four arguments say of a box what its server shows, and what it may have been asked.
pub record AsksTurns {B : Type 0} (behaviour : B → Behaviour) (registers : B → List ℕ)
    (pending : B → Option Pending) (asked : B → List Asked → Bool) (m : ManagerShown) (order : Order)
    (old : PassShown × B) (counts : Shift) (new : PassShown × B) : Type 0 where
  pub taken : ℕ
  pub since : List Asked
  pub calls : MadeCalls (TurnAsks order m.limits) turn_count taken
      (place behaviour registers pending old, []) counts (place behaviour registers pending new, since)
  pub asks : Asks since (asked old.1) (asked new.1)
