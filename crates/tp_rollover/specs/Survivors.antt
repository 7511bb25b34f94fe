-- What is alive in a manager, described so that another one can go on with it. h is the history of the
-- manager in which it is alive, g that of the one in which it stands again.
use Rattle.std.specs.Prelude.{◌≡◌, ℕ, ◌+◌, ◌≤◌, IfSome, Option, None, Some, List, [], ◌∷◌, map}
use Rattle.std.specs.List.{All, AllZip}
use Rattle.tp_model.specs.declared.types.Element.{Element}
use Rattle.tp_model.specs.declared.types.Limits.{Limits}
use Rattle.tp_model.specs.declared.types.Status.{Status}
use Rattle.tp_model.specs.declared.types.Status.TheVariants.{Waiting, Held, Parked}
use Rattle.tp_model.specs.declared.event.Event.{Event}
use Rattle.tp_model.specs.History.{In, IsBorn, element_of, rounds, status_of}
use Rattle.tp_model.specs.Steps.{IsKillable}
use Rattle.tp_manager.specs.Shown.{KeeperShown, PassShown}
use Rattle.tp_rollover.specs.Thread.{AreTogether}
use Rattle.tp_rollover.specs.Checks.{AreFamilies, AreOnly, MovedAscend}
use Rattle.tp_rollover.specs.Hands.{AreHolders, HasInHand, HasOpen, holder_of}
use Rattle.tp_rollover.specs.declared.moved.Moved.{Moved}
use Rattle.tp_rollover.specs.declared.survivors.Survivor.{Survivor}

-- an element with this status is alive: it waits, is parked, or a pass has it in hand
abbrev pub IsLiving : Status → Type 0
IsLiving (Waiting n) = Unit {0}
IsLiving (Held u n) = Unit {0}
IsLiving (Parked n) = Unit {0}
IsLiving other = ⊥

-- it is held in no attempt: no element is
abbrev pub HasNoAttempt : Status → Type 0
HasNoAttempt (Held u n) = n ≡ 0
HasNoAttempt other = ⊥

-- An element with the first status is described by the second one. Where a pass holds it, that is how it
-- waited before: the pass is the one whose unit it is.
abbrev pub IsStanding : Limits → Status → Status → Option ℕ → Type 0
IsStanding l is status None = (is ≡ status) × IsKillable status
IsStanding l is status (Some c) = (u n : ℕ) × (is ≡ Held u (n + 1)) × (status ≡ Waiting n)
    × (c ≡ holder_of l u)

-- the element is alive, and is described as it stands, with its root
pub record IsSurvivor (l : Limits) (h : List Event) (s : Survivor) : Type 0 where
  pub item : Element
  pub born : element_of h s.id ≡ Some item
  pub root : item.root ≡ s.root
  pub stage : item.stage ≡ s.stage
  pub body : item.body ≡ s.body
  pub stands : IsStanding l (status_of l.attempts h s.id) s.status s.holder
  pub rounds_are : rounds h s.id ≡ s.rounds
  pub request : Element
  pub began : element_of h s.root ≡ Some request
  pub root_stage : request.stage ≡ s.root_stage
  pub root_body : request.body ≡ s.root_body

-- these numbers ascend
abbrev pub Ascending : ℕ → List ℕ → Type 0
Ascending low [] = Unit {0}
Ascending low (n ∷ ns) = (low ≤ n) × Ascending (n + 1) ns

-- these are all that are alive, each once, by ascending ids
pub record AreSurvivors (l : Limits) (h : List Event) (survivors : List Survivor) : Type 0 where
  pub each : (x : Element) → IsBorn h x → IsLiving (status_of l.attempts h x.id)
      → (s : Survivor) × In s survivors × (s.id ≡ x.id)
  pub described : (s : Survivor) → In s survivors → IsSurvivor l h s
  pub once : Ascending 0 (map (λ (s : Survivor). s.id) survivors)

-- no pass holds any of these
abbrev pub AreUnheld : List Survivor → Type 0
AreUnheld survivors = All (λ (s : Survivor). s.holder ≡ None) survivors

-- each pass that holds one of these has a unit open
abbrev pub AreInHand : List PassShown → List Survivor → Type 0
AreInHand passes survivors = All (λ (s : Survivor). IfSome s.holder (HasOpen passes)) survivors

-- What was described stands so again, under the id that it has now: with its stage, its body, its attempts
-- and rounds, held by the pass of the same number in the same attempt where it was held. Its root is a
-- client's element, which is like the one described, and itself where it was so.
pub record StandsAgain (k : Limits) (g : List Event) (s : Survivor) (m : Moved) : Type 0 where
  pub named : (m.old ≡ s.id) × (m.old_root ≡ s.root)
  pub holder : m.holder ≡ s.holder
  pub item : Element
  pub born : element_of g m.new ≡ Some item
  pub root : item.root ≡ m.new_root
  pub stage : item.stage ≡ s.stage
  pub body : item.body ≡ s.body
  pub stands : IsStanding k (status_of k.attempts g m.new) s.status s.holder
  pub rounds_are : rounds g m.new ≡ s.rounds
  pub request : Element
  pub began : element_of g m.new_root ≡ Some request
  pub by_client : request.by ≡ None
  pub root_stage : request.stage ≡ s.root_stage
  pub root_body : request.body ≡ s.root_body
  pub itself : s.id ≡ s.root → m.new ≡ m.new_root

-- All of them do, in their order. The ids ascend as they did, two are of one family exactly where they were,
-- and whatever else was born is consumed.
pub record StandAgain (k : Limits) (g : List Event) (survivors : List Survivor) (moved : List Moved)
    : Type 0 where
  pub each : AllZip (StandsAgain k g) survivors moved
  pub once : MovedAscend moved
  pub families : AreFamilies moved
  pub rest : AreOnly k moved g

-- pass c is described as the holder of one
abbrev pub IsHolder : ℕ → List Survivor → Type 0
IsHolder c survivors = (s : Survivor) × In s survivors × (s.holder ≡ Some c)

-- a pass that is to hold one has it in hand
abbrev pub IsInHand : Limits → List Event → List PassShown → Survivor → Moved → Type 0
IsInHand k g passes s m = IfSome s.holder (λ c. HasInHand k g passes c m.new)

-- each has what it is to hold, and the others have nothing in hand
pub record AreHands (k : Limits) (g : List Event) (passes : List PassShown) (survivors : List Survivor)
    (moved : List Moved) : Type 0 where
  pub held : AllZip (IsInHand k g passes) survivors moved
  pub free : (p : PassShown) → In p passes → ¬ IsHolder p.number survivors → p.open_unit ≡ None

-- that is so after what all passes of the manager have seen
pub record Restores (k : Limits) (keeper : KeeperShown) (passes : List PassShown) (survivors : List Survivor)
    (moved : List Moved) : Type 0 where
  pub again : StandAgain k keeper.seen survivors moved
  pub hands : AreHands k keeper.seen passes survivors moved
  pub holders : AreHolders k keeper.seen passes moved
  pub together : AreTogether k keeper passes keeper.seen
