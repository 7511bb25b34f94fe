-- What the calls of a desk answer and add, by what the manager's calls do. In each definition `old` is what
-- the pass shows before the call, and `new` what it shows after it.
use Rattle.std.specs.Prelude.{◌≡◌, ℕ, ◌+◌, List, Option, Some, None, Ok, Err}
use Rattle.tp_model.specs.declared.types.Claimed.TheVariants as claimeds
use Rattle.tp_model.specs.declared.types.Ended.{Ended}
use Rattle.tp_model.specs.declared.types.Limits.{Limits}
use Rattle.tp_model.specs.declared.types.Outcome.{Outcome}
use Rattle.tp_model.specs.declared.types.Outcome.TheVariants as outcomes
use Rattle.tp_model.specs.declared.types.Work.{Work}
use Rattle.tp_server.specs.declared.recipe.Declined.{Declined}
use Rattle.tp_server.specs.Behaviour.{Allows, Behaviour}
use Rattle.tp_server.specs.Effect.{Effect}
use Rattle.tp_server.specs.Pending.{Pending, registers_of}
use Rattle.tp_manager.specs.Bounds.{commit_steps}
use Rattle.tp_manager.specs.Calls.{AnswersAbort, Follows, Settles}
use Rattle.tp_manager.specs.Shown.{PassShown}
use Rattle.tp_desk.specs.Orders.{ClaimsBy, KeepsTurn, steps_by}
use Rattle.tp_server.specs.declared.order.Order.{Order}
use Rattle.tp_server.specs.declared.turned.Turned.{Turned}
use Rattle.tp_server.specs.declared.turned.Turned.TheVariants as turneds
use Rattle.tp_model.specs.declared.types.TheConstants.{MAX_OUTPUTS}

-- the registers after a commit with this answer: those of the effect where the work was committed, and else
-- the old ones
abbrev pub kept_by : Outcome → List ℕ → List ℕ → List ℕ
kept_by (outcomes.Committed first count) registers after = after
kept_by outcomes.Lost registers after = registers
kept_by outcomes.Full registers after = registers

-- the work was committed with the drafts of its effect, this is the answer, and these registers are left
abbrev pub Finishes : Behaviour → List ℕ → Work → PassShown → PassShown → Outcome → List ℕ → Type 0
Finishes behaviour registers work old new outcome left =
    (effect : Effect) × Allows behaviour registers work.element (Ok effect)
    × Settles effect.drafts old new outcome
    × (left ≡ kept_by outcome registers effect.registers)

-- the unit was given up, by an abort that answered one thing or the other
abbrev pub GivesUpUnit : PassShown → PassShown → Type 0
GivesUpUnit old new = (ended : Ended) × AnswersAbort old new ended

-- the server declines the work, and the unit was given up
abbrev pub Declines : Behaviour → List ℕ → Work → Declined → PassShown → PassShown → Type 0
Declines behaviour registers work why old new = Allows behaviour registers work.element (Err why)
    × GivesUpUnit old new

-- what becomes of work that was claimed, and the registers that are left
abbrev pub WorksOff : Behaviour → List ℕ → Work → PassShown → PassShown → Turned → List ℕ → Type 0
WorksOff behaviour registers work old new turneds.Idle left = ⊥
WorksOff behaviour registers work old new turneds.NoUnit left = ⊥
WorksOff behaviour registers work old new (turneds.Done unit element first count) left =
    (unit ≡ work.unit) × (element ≡ work.element.id)
    × Finishes behaviour registers work old new (outcomes.Committed first count) left
WorksOff behaviour registers work old new (turneds.Refused element why) left =
    (element ≡ work.element.id) × Declines behaviour registers work why old new × (left ≡ registers)
WorksOff behaviour registers work old new (turneds.Lost element) left =
    (element ≡ work.element.id) × Finishes behaviour registers work old new outcomes.Lost left
WorksOff behaviour registers work old new (turneds.Full element) left =
    (element ≡ work.element.id) × Finishes behaviour registers work old new outcomes.Full left

-- an element was claimed, this became of it, and these registers are left. What each of the two calls did is
-- said by what the pass showed between them.
pub record Works (order : Order) (l : Limits) (behaviour : Behaviour) (registers : List ℕ)
    (old new : PassShown)
    (turned : Turned) (left : List ℕ) : Type 0 where
  pub work : Work
  pub between : PassShown
  pub limits : between.limits ≡ l
  pub takes : ClaimsBy order l behaviour.stage old between (claimeds.Work work)
  pub claims : Follows (steps_by order l) old between
  pub keeps_turn : KeepsTurn order old between
  pub off : WorksOff behaviour registers work between new turned left
  pub ends : Follows (commit_steps l MAX_OUTPUTS) between new
  pub same_turn : new.from ≡ between.from

-- a turn answers and adds as one claim in this order, and where that took work, as one commit, or one abort
-- where the server declines it; and these registers are left
abbrev pub Turns : Order → Limits → Behaviour → List ℕ → PassShown → PassShown → Turned → List ℕ → Type 0
Turns order l behaviour registers old new turneds.Idle left =
    ClaimsBy order l behaviour.stage old new claimeds.Idle × (left ≡ registers)
Turns order l behaviour registers old new turneds.NoUnit left =
    ClaimsBy order l behaviour.stage old new claimeds.NoUnit × (left ≡ registers)
Turns order l behaviour registers old new (turneds.Done unit element first count) left =
    Works order l behaviour registers old new (turneds.Done unit element first count) left
Turns order l behaviour registers old new (turneds.Refused element why) left =
    Works order l behaviour registers old new (turneds.Refused element why) left
Turns order l behaviour registers old new (turneds.Lost element) left =
    Works order l behaviour registers old new (turneds.Lost element) left
Turns order l behaviour registers old new (turneds.Full element) left =
    Works order l behaviour registers old new (turneds.Full element) left

-- how many atomic steps a turn makes at most: those of a claim, and of a commit of four drafts
abbrev pub turn_steps : Order → Limits → ℕ
turn_steps order l = steps_by order l + commit_steps l MAX_OUTPUTS

-- the registers of committed work after a commit with this answer
abbrev pub registers_left : Outcome → List ℕ → Option Pending → Option (List ℕ)
registers_left (outcomes.Committed first count) registers pending = registers_of pending
registers_left outcomes.Lost registers pending = Some registers
registers_left outcomes.Full registers pending = Some registers

-- the unit was given up where one was open, and else nothing was done
abbrev pub EndsOpen : Option ℕ → PassShown → PassShown → Type 0
EndsOpen (Some u) old new = GivesUpUnit old new
EndsOpen None old new = new ≡ old
