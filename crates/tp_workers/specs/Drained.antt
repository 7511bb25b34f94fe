-- What desks do in a drain. The first three arguments say of a box what its server shows.
use Rattle.std.specs.Prelude.{◌≡◌, ℕ, ◌+◌, ◌≤◌, List, Option}
use Rattle.tp_model.specs.Steps.{AreLimits}
use Rattle.tp_model.specs.declared.types.Limits.{Limits}
use Rattle.tp_server.specs.Behaviour.{Behaviour}
use Rattle.tp_server.specs.Pending.{Pending}
use Rattle.tp_manager.specs.Shown.{ManagerShown, PassShown}
use Rattle.tp_server.specs.declared.order.Order.{Order}
use Rattle.tp_server.specs.declared.turned.Turned.{Turned}
use Rattle.tp_desk.specs.Serving.{Leaves}
use Rattle.tp_workers.specs.declared.tally.Shift.{Shift}
use Rattle.tp_workers.specs.Calling.{MadeCalls}
use Rattle.tp_workers.specs.Desks.{IsDeskOf, DeskPlace, TakesTurn, place}
use Rattle.tp_workers.specs.Gains.{commits_in}
use Rattle.tp_workers.specs.Tally.{claimed_in_all, turn_count}
use Rattle.tp_model.specs.declared.types.TheConstants.{MAX_UNITS}

-- turns were taken there, whose claims were in this order, and the last found nothing to claim
pub record EndsIdle (order : Order) (l : Limits) (old new : DeskPlace) : Type 0 where
  pub taken : ℕ
  pub counts : Shift
  pub before : DeskPlace
  pub calls : MadeCalls (TakesTurn order l) turn_count taken old counts before
  pub last : Turned
  pub turn : TakesTurn order l before last new
  pub idle : claimed_in_all (turn_count last) ≡ 0

module _ {B : Type 0} (behaviour : B → Behaviour) (registers : B → List ℕ) (pending : B → Option Pending)
    (m : ManagerShown)
    (order : Order) where
  -- a desk of this pass and this server took one turn, which is counted
  pub record TookTurn (old : PassShown × B) (counts : Shift) (new : PassShown × B) : Type 0 where
    pub turned : Turned
    pub turn : TakesTurn order m.limits (place behaviour registers pending old) turned
        (place behaviour registers pending new)
    pub limits : AreLimits m.limits
    pub counted : counts ≡ turn_count turned
    pub leaves : Leaves (behaviour old.1) (registers old.1) (registers new.1) old.0 new.0
    pub ready : IsDeskOf behaviour registers pending m new

  -- Desks of this pass and this server took turns until one found nothing to claim, and the counts are this
  -- last turn's alone.
  pub record LastTurn (old : PassShown × B) (counts : Shift) (new : PassShown × B) : Type 0 where
    pub ends : EndsIdle order m.limits (place behaviour registers pending old)
        (place behaviour registers pending new)
    pub counted : counts ≡ turn_count ends.last

  -- Desks of this pass and this server took turns until one found nothing to claim, and committed at most as
  -- many units as a pass can have. The registers of committed work are what the server's effects over what
  -- the pass has consumed since led to.
  pub record DeskDrained (old : PassShown × B) (counts : Shift) (new : PassShown × B) : Type 0 where
    pub taken : ℕ
    pub calls : MadeCalls (TakesTurn order m.limits) turn_count taken (place behaviour registers pending old)
        counts
        (place behaviour registers pending new)
    pub done : counts.done + commits_in old.0 ≡ commits_in new.0
    pub few : counts.done ≤ MAX_UNITS
    pub idle : EndsIdle order m.limits (place behaviour registers pending old)
        (place behaviour registers pending new)
    pub leaves : Leaves (behaviour old.1) (registers old.1) (registers new.1) old.0 new.0
    pub behaviour_is : behaviour new.1 ≡ behaviour old.1
    pub ready : IsDeskOf behaviour registers pending m new
