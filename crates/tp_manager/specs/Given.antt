-- What a claim of a given element answers. In each definition l are the table's limits, `old` is what the
-- pass shows before the call, and `new` what it shows after it.
use Rattle.std.specs.Prelude.{◌≡◌, ◌≢◌, ℕ, ◌<◌, Some, List}
use Rattle.tp_model.specs.declared.types.TheConstants.{REPLY_STAGE}
use Rattle.tp_model.specs.declared.types.Element.{Element}
use Rattle.tp_model.specs.declared.types.Limits.{Limits}
use Rattle.tp_model.specs.declared.types.Refusal.{Refusal}
use Rattle.tp_model.specs.declared.types.Refusal.TheVariants as refusals
use Rattle.tp_model.specs.declared.types.Work.{Work}
use Rattle.tp_model.specs.declared.event.Event.{Event}
use Rattle.tp_model.specs.History.{IsUnborn, element_of, status_of}
use Rattle.tp_model.specs.Steps.{IsServerStage}
use Rattle.tp_manager.specs.Shown.{PassShown}
use Rattle.tp_manager.specs.Calls.{AtPoint, IsQuiet, IsWaiting, Opens, claims_in}

-- the pass has a new unit open, which took the element with this id, of a server's stage
pub record TakesId (l : Limits) (id : ℕ) (work : Work) (old new : PassShown) : Type 0 where
  pub opens : Opens l work.element.stage work old new
  pub id_is : work.element.id ≡ id
  pub server : IsServerStage work.element.stage

-- an element with this id is born, and is a reply
abbrev pub HasReplyStage : ℕ → List Event → Type 0
HasReplyStage id h = (x : Element) × (element_of h id ≡ Some x) × (x.stage ≡ REPLY_STAGE)

-- an element with this id is born, is no reply, and doesn't wait
abbrev pub HasUnwaiting : Limits → ℕ → List Event → Type 0
HasUnwaiting l id h = (x : Element) × (element_of h id ≡ Some x) × (x.stage ≢ REPLY_STAGE)
    × ¬ IsWaiting (status_of l.attempts h id)

-- the pass had a unit left, and has used none; and this was so at a point
abbrev pub TookNone : Limits → PassShown → PassShown → (List Event → Type 0) → Type 0
TookNone l old new Holds = (claims_in old.mine < l.units) × IsQuiet old new × AtPoint old new Holds

-- why a claim of a given element was refused
abbrev pub ClaimIdFails : Limits → ℕ → PassShown → PassShown → Refusal → Type 0
ClaimIdFails l id old new refusals.NoUnit = (claims_in old.mine ≡ l.units) × (new ≡ old)
ClaimIdFails l id old new refusals.NotThere = TookNone l old new (λ h. IsUnborn h id)
ClaimIdFails l id old new refusals.BadStage = TookNone l old new (HasReplyStage id)
ClaimIdFails l id old new refusals.NotWaiting = TookNone l old new (HasUnwaiting l id)
ClaimIdFails l id old new other = ⊥
