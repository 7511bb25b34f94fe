-- What desks do in a shift.
use Rattle.std.specs.Prelude.{◌≡◌, ℕ, ◌+◌, ◌≤◌, List, Option, None}
use Rattle.tp_model.specs.declared.types.Limits.{Limits}
use Rattle.tp_server.specs.Behaviour.{Behaviour}
use Rattle.tp_server.specs.Pending.{Pending}
use Rattle.tp_manager.specs.Calls.{Follows}
use Rattle.tp_manager.specs.Shown.{ManagerShown, PassShown}
use Rattle.tp_desk.specs.declared.desk.Desk.{Desk}
use Rattle.tp_server.specs.declared.order.Order.{Order}
use Rattle.tp_server.specs.declared.turned.Turned.{Turned}
use Rattle.tp_desk.specs.Orders.{KeepsTurn}
use Rattle.tp_desk.specs.Serving.{Leaves}
use Rattle.tp_desk.specs.Steady.{SteadyDesk, shown}
use Rattle.tp_desk.specs.Turns.{Turns, turn_steps}
use Rattle.tp_workers.specs.declared.plan.Plan.{Plan}
use Rattle.tp_workers.specs.declared.tally.Shift.{Shift}
use Rattle.tp_workers.specs.Calling.{AllButLast, MadeCalls}
use Rattle.tp_workers.specs.Free.{IsFreePass}
use Rattle.tp_workers.specs.Gains.{commits_in}
use Rattle.tp_workers.specs.Tally.{turn_count}

-- what a pass and its server show
pub record DeskPlace : Type 0 where
  pub pass : PassShown
  pub behaviour : Behaviour
  pub registers : List ℕ

-- a turn was taken there, whose claim was in this order, with this answer
pub record TakesTurn (order : Order) (l : Limits) (old : DeskPlace) (turned : Turned) (new : DeskPlace)
    : Type 0 where
  pub answer : Turns order l old.behaviour old.registers old.pass new.pass turned new.registers
  pub follows : Follows (turn_steps order l) old.pass new.pass
  pub keeps_turn : KeepsTurn order old.pass new.pass
  pub behaviour_is : new.behaviour ≡ old.behaviour

-- the answer of a turn that found a unit, and of one that claimed an element
abbrev pub HadUnit : Turned → Type 0
HadUnit turned = (turn_count turned).nounit ≡ 0

abbrev pub HadWork : Turned → Type 0
HadWork turned = (turn_count turned).idle + (turn_count turned).nounit ≡ 0

-- At most as many turns as planned were taken there, in the planned order. It stopped with the first one that
-- found no unit left, and else took all.
pub record TakesTurns (plan : Plan) (l : Limits) (old : DeskPlace) (counts : Shift) (new : DeskPlace)
    : Type 0 where
  pub taken : ℕ
  pub calls : MadeCalls (TakesTurn plan.order l) turn_count taken old counts new
  pub at_most : taken ≤ plan.turns
  pub all_taken : counts.nounit ≡ 0 → taken ≡ plan.turns
  pub stops : AllButLast HadUnit calls.answers

-- the same, where it stopped also with the first one that found nothing to wait
pub record DeskWorksOn (plan : Plan) (l : Limits) (old : DeskPlace) (counts : Shift) (new : DeskPlace)
    : Type 0 where
  pub taken : ℕ
  pub calls : MadeCalls (TakesTurn plan.order l) turn_count taken old counts new
  pub at_most : taken ≤ plan.turns
  pub all_taken : counts.idle + counts.nounit ≡ 0 → taken ≡ plan.turns
  pub stops : AllButLast HadWork calls.answers

-- The first three arguments say of a box what its server shows: its behaviour, the registers of its committed
-- work, and its prepared work.
module _ {B : Type 0} (behaviour : B → Behaviour) (registers : B → List ℕ) (pending : B
    → Option Pending) where
  abbrev pub place : PassShown × B → DeskPlace
  place x = record { pass = x.0; behaviour = behaviour x.1; registers = registers x.1 }

  -- a desk can be made of this pass and this server: the pass is free, and nothing is prepared
  pub record IsDeskOf (m : ManagerShown) (x : PassShown × B) : Type 0 where
    pub pass : IsFreePass m x.0
    pub unprepared : pending x.1 ≡ None

  -- A desk of this pass and this server took its turns, and they left them so. The registers of committed
  -- work are what the effects of the server over what the pass has consumed since led to.
  pub record DeskRan (m : ManagerShown) (plan : Plan) (old : PassShown × B) (counts : Shift) (new : PassShown
      × B) : Type 0 where
    pub turns_taken : TakesTurns plan m.limits (place old) counts (place new)
    pub done : counts.done + commits_in old.0 ≡ commits_in new.0
    pub leaves : Leaves (behaviour old.1) (registers old.1) (registers new.1) old.0 new.0
    pub behaviour_is : behaviour new.1 ≡ behaviour old.1
    pub ready : IsDeskOf m new

  -- The same of a desk that stopped where it found nothing to wait.
  pub record DeskWorked (m : ManagerShown) (plan : Plan) (old : PassShown × B) (counts : Shift)
      (new : PassShown × B) : Type 0 where
    pub turns_taken : DeskWorksOn plan m.limits (place old) counts (place new)
    pub done : counts.done + commits_in old.0 ≡ commits_in new.0
    pub leaves : Leaves (behaviour old.1) (registers old.1) (registers new.1) old.0 new.0
    pub behaviour_is : behaviour new.1 ≡ behaviour old.1
    pub ready : IsDeskOf m new

-- The same of a desk itself. Where no box is in sight, a server's members are named of a pair.
module _ {X : Type 0} {F : X → Type 0} (behaviour : (x : X) × F x → Behaviour) (registers : (x : X) × F x
    → List ℕ)
    (pending : (x : X) × F x → Option Pending) where
  -- what the pass and the server of a desk show
  abbrev pub desk_place : Desk X F → DeskPlace
  desk_place d = place (shown behaviour) (shown registers) (shown pending) (d.pass.now, d.server.now)

  -- the desk is steady, and has no work in hand
  pub record IsResting (d : Desk X F) : Type 0 where
    pub steady : SteadyDesk (shown behaviour) (shown registers) (shown pending) d
    pub free : d.work ≡ None
