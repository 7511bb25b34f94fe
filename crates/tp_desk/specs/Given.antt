-- What a desk's claim of a given element answers. In each definition l are the manager's limits, `old` is
-- what the pass shows before the call, and `new` what it shows after it.
use Rattle.std.specs.Prelude.{◌≡◌, ◌≢◌, ℕ, ◌+◌, List, Result, MatchResult, Some}
use Rattle.tp_model.specs.declared.types.Element.{Element}
use Rattle.tp_model.specs.declared.types.Limits.{Limits}
use Rattle.tp_model.specs.declared.types.Refusal.{Refusal}
use Rattle.tp_model.specs.declared.types.Refusal.TheVariants as refusals
use Rattle.tp_model.specs.declared.types.Work.{Work}
use Rattle.tp_model.specs.declared.event.Event.{Event}
use Rattle.tp_model.specs.History.{IsUnborn, element_of, status_of}
use Rattle.tp_manager.specs.Bounds.{claim_id_steps, read_steps}
use Rattle.tp_manager.specs.Calls.{IsWaiting, Opens, claims_in}
use Rattle.tp_manager.specs.Given.{TookNone}
use Rattle.tp_manager.specs.Shown.{PassShown}

-- an element with this id is born, and is of another stage
abbrev pub HasOtherStage : ℕ → ℕ → List Event → Type 0
HasOtherStage stage id h = (x : Element) × (element_of h id ≡ Some x) × (x.stage ≢ stage)

-- an element with this id is born, is of this stage, and doesn't wait
abbrev pub HasUnwaitingOf : Limits → ℕ → ℕ → List Event → Type 0
HasUnwaitingOf l stage id h = (x : Element) × (element_of h id ≡ Some x) × (x.stage ≡ stage)
    × ¬ IsWaiting (status_of l.attempts h id)

-- why the claim was refused
abbrev pub GivenFails : Limits → ℕ → ℕ → PassShown → PassShown → Refusal → Type 0
GivenFails l stage id old new refusals.NoUnit = (claims_in old.mine ≡ l.units) × (new ≡ old)
GivenFails l stage id old new refusals.NotThere = TookNone l old new (λ h. IsUnborn h id)
GivenFails l stage id old new refusals.BadStage = TookNone l old new (HasOtherStage stage id)
GivenFails l stage id old new refusals.NotWaiting = TookNone l old new (HasUnwaitingOf l stage id)
GivenFails l stage id old new other = ⊥

-- the element with this id, of this stage, was taken into a new unit of the pass; or the claim was refused
abbrev pub ClaimsGiven : Limits → ℕ → ℕ → PassShown → PassShown → Result Work Refusal → Type 0
ClaimsGiven l stage id old new result = MatchResult result
    (λ work. Opens l stage work old new × (work.element.id ≡ id))
    (GivenFails l stage id old new)

-- how many atomic steps it makes at most: it reads the element, and claims it
abbrev pub given_steps : Limits → ℕ
given_steps l = read_steps l + claim_id_steps
