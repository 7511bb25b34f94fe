-- The work that a desk has in hand, and what holds of it between calls.
use Rattle.std.specs.Prelude.{◌≡◌, ℕ, List, Option, None, Some, IsSome}
use Rattle.tp_model.specs.Drafts.{DraftView}
use Rattle.tp_model.specs.History.{IsBorn, IsClaim}
use Rattle.tp_model.specs.declared.types.Claimed.{Claimed}
use Rattle.tp_model.specs.declared.types.Claimed.TheVariants as claimeds
use Rattle.tp_model.specs.declared.types.Work.{Work}
use Rattle.tp_server.specs.Behaviour.{Behaviour, IsMade}
use Rattle.tp_server.specs.Pending.{Pending}
use Rattle.tp_manager.specs.Shown.{PassShown}
use Rattle.tp_desk.specs.Serving.{AreUnitsEnded, Serves, gained}

-- the pass has the unit of this work open, claimed it since it showed `first`, and the work is prepared or
-- not
pub record HoldsWork (behaviour : Behaviour) (registers : List ℕ) (pending : Option Pending)
    (work : Work) (drafts : List DraftView) (first pass : PassShown) : Type 0 where
  pub open_unit : pass.open_unit ≡ Some work.unit
  pub claimed : IsClaim (gained first.mine pass.mine) pass.number work.unit work.element.id work.attempt
  pub is_born : IsBorn pass.seen work.element
  pub prepared : IsSome pending → IsMade behaviour registers work.element pending drafts

-- the pass has no unit open, and nothing is prepared
pub record IsFree (pending : Option Pending) (pass : PassShown) : Type 0 where
  pub open_unit : pass.open_unit ≡ None
  pub unprepared : pending ≡ None

-- the work in hand, if there is any
abbrev pub InHand : Behaviour → List ℕ → Option Pending → Option Work → List DraftView → PassShown
    → PassShown → Type 0
InHand behaviour registers pending None drafts first pass = IsFree pending pass
InHand behaviour registers pending (Some work) drafts first pass =
    HoldsWork behaviour registers pending work drafts first pass

-- What holds between the calls of a desk that began with a pass and a server which showed `first` and
-- `start`: the server's registers are led to by what the desk has committed, the work in hand is what the
-- pass and the server say, and each unit that the desk claimed has ended but for the one in hand.
pub record IsDeskSteady (behaviour : Behaviour) (registers : List ℕ) (pending : Option Pending)
    (start : List ℕ)
    (first pass : PassShown) (work : Option Work) (drafts : List DraftView) : Type 0 where
  pub serves : Serves behaviour start registers first pass
  pub in_hand : InHand behaviour registers pending work drafts first pass
  pub ended : AreUnitsEnded pass.open_unit (gained first.mine pass.mine) pass.seen

-- the work that a claim puts in hand
abbrev pub work_of : Claimed → Option Work
work_of (claimeds.Work work) = Some work
work_of claimeds.Idle = None
work_of claimeds.NoUnit = None
