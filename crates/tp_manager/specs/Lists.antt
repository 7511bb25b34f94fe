-- What the listings answer. In each definition `old` is what the pass shows before the call, and `new` what
-- it shows after it.
use Rattle.std.specs.Prelude.{◌≡◌, ℕ, ◌+◌, ◌<◌, ◌≤◌, ◌==◌, ◌&&◌, not, List, Option, Some, None, count_by}
use Rattle.tp_model.specs.declared.types.TheConstants.{REPLY_STAGE}
use Rattle.tp_model.specs.declared.types.Element.{Element}
use Rattle.tp_model.specs.declared.types.Limits.{Limits}
use Rattle.tp_model.specs.declared.types.Look.{Look}
use Rattle.tp_model.specs.declared.types.Status.TheVariants.{Killed}
use Rattle.tp_model.specs.declared.event.Event.{Event}
use Rattle.tp_model.specs.Counts.{is_killed}
use Rattle.tp_model.specs.Families.{family}
use Rattle.tp_model.specs.History.{element_of, status_of}
use Rattle.tp_model.specs.Steps.{IsParked}
use Rattle.tp_manager.specs.Shown.{PassShown}
use Rattle.tp_manager.specs.Calls.{AtPoint, IsLook, IsQuiet, IsWaiting, opening}
use Rattle.tp_manager.specs.Releases.{Collects}

-- the element is a reply to the request with this root
abbrev pub IsReply : ℕ → Element → Type 0
IsReply root x = (x.stage ≡ REPLY_STAGE) × (x.root ≡ root)

-- a reply of this root with this id is born, and waits
abbrev pub HasReply : Limits → ℕ → ℕ → List Event → Type 0
HasReply l root id h = (x : Element) × (element_of h id ≡ Some x) × IsReply root x
    × IsWaiting (status_of l.attempts h id)

-- an element with this id is born, and parked
abbrev pub HasError : Limits → ℕ → List Event → Type 0
HasError l id h = (x : Element) × (element_of h id ≡ Some x) × IsParked (status_of l.attempts h id)

-- each reply of the root that was born at the opening with one of these ids had a point at which it was
-- killed
abbrev pub AllKilled : Limits → ℕ → (ℕ → Type 0) → PassShown → PassShown → Type 0
AllKilled l root Ids old new = (x : Element) → element_of (opening old new) x.id ≡ Some x → IsReply root x
    → Ids x.id
    → AtPoint old new (λ h. status_of l.attempts h x.id ≡ Killed)

-- each element that was born at the opening with one of these ids had a point at which it wasn't parked
abbrev pub NoneParked : Limits → (ℕ → Type 0) → PassShown → PassShown → Type 0
NoneParked l Ids old new = (x : Element) → element_of (opening old new) x.id ≡ Some x → Ids x.id
    → AtPoint old new (λ h. ¬ IsParked (status_of l.attempts h x.id))

-- a reply of the root waited at a point, and each before it from `from` on was killed at one
pub record NextReply (l : Limits) (root from id : ℕ) (old new : PassShown) : Type 0 where
  pub from_on : from ≤ id
  pub waits : AtPoint old new (HasReply l root id)
  pub before : AllKilled l root (λ i. (from ≤ i) × (i < id)) old new

-- an element was parked at a point, and each before it from `from` on wasn't at one
pub record NextError (l : Limits) (from id : ℕ) (old new : PassShown) : Type 0 where
  pub from_on : from ≤ id
  pub parked : AtPoint old new (HasError l id)
  pub before : NoneParked l (λ i. (from ≤ i) × (i < id)) old new

-- no element of this root with an id from `from` on was born at the opening
abbrev pub NoneOfFamily : ℕ → ℕ → PassShown → PassShown → Type 0
NoneOfFamily root from old new = (x : Element) → element_of (opening old new) x.id ≡ Some x → x.root ≡ root
    → ¬ (from ≤ x.id)

-- an element of the root stood so at a point, and each one with an id from `from` on that was born at the
-- opening has no lesser id
pub record NextOfFamily (l : Limits) (root from : ℕ) (look : Look) (old new : PassShown) : Type 0 where
  pub from_on : from ≤ look.element.id
  pub root_is : look.element.root ≡ root
  pub looks : AtPoint old new (IsLook l look.element.id look)
  pub least : (x : Element) → element_of (opening old new) x.id ≡ Some x → x.root ≡ root → from ≤ x.id
      → look.element.id ≤ x.id

-- the pass has killed this reply of the root, and nothing else; and each one with a lesser id was killed at a
-- point
pub record CollectsNext (l : Limits) (root : ℕ) (x : Element) (old new : PassShown) : Type 0 where
  pub collects : Collects x.id x old new
  pub root_is : x.root ≡ root
  pub before : AllKilled l root (λ i. i < x.id) old new

-- this many replies of the root were killed between two histories
abbrev pub killed_between : Limits → ℕ → List Event → List Event → ℕ
killed_between l root a b = count_by (λ x. x.stage == REPLY_STAGE && (is_killed (status_of l.attempts b x.id)
    && not (is_killed (status_of l.attempts a x.id)))) (family b root)

-- how often a collection of the next reply walks where this many were killed meanwhile: once for each of
-- them, its own among them, and once more where it takes none
abbrev pub walks_of : Option Element → ℕ → ℕ
walks_of (Some x) killed = killed
walks_of None killed = killed + 1

-- the pass has done nothing, and each reply of the root was killed at a point
abbrev pub NoneCollected : Limits → ℕ → PassShown → PassShown → Type 0
NoneCollected l root old new = IsQuiet old new × AllKilled l root (λ i. Unit {0}) old new
