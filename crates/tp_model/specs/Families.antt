-- The elements that a client's request has led to, and when the work on them is over for good.
use Rattle.std.specs.Prelude.{◌≡◌, ◌≢◌, ◌⊎◌, ℕ, ◌+◌, ◌<◌, ◌≤◌, ◌==◌, Bool, true, Some, None, List, ◌∷◌, ◌++◌}
use Rattle.std.specs.Prelude.{filter, All}
use mathlib.Core.List.{IsPrefix}
use Rattle.tp_model.specs.declared.types.TheConstants.{REPLY_STAGE}
use Rattle.tp_model.specs.declared.types.Element.{Element}
use Rattle.tp_model.specs.declared.types.Limits.{Limits}
use Rattle.tp_model.specs.declared.event.Event.{Event}
use Rattle.tp_model.specs.declared.event.Event.TheVariants.{Claim, Commit}
use Rattle.tp_model.specs.declared.types.Status.TheVariants.{Consumed}
use Rattle.tp_model.specs.History.{born, element_of, status_of, IsBorn, IsSettled, UnitClaim, claim_of}
use Rattle.tp_model.specs.History.{Committed, end_of}
use Rattle.tp_model.specs.Steps.{IsLegal}
use Rattle.tp_model.specs.Laws.{item_of}

-- the born elements with this root
abbrev pub family : List Event → ℕ → List Element
family h root = filter (λ e. e.root == root) (born h)

-- each element of this family that is no reply is consumed or killed
abbrev pub IsSettledFamily : ℕ → List Event → ℕ → Type 0
IsSettledFamily limit h root = All (λ e. e.stage ≢ REPLY_STAGE → IsSettled (status_of limit h e.id))
    (family h root)

-- the element with this id is born, and is a client's
abbrev pub IsRequest : List Event → ℕ → Type 0
IsRequest h root = (x : Element) × (element_of h root ≡ Some x) × (x.by ≡ None)

-- element i is born, and of this family
abbrev pub IsOfFamily : List Event → ℕ → ℕ → Type 0
IsOfFamily h root i = (x : Element) × (element_of h i ≡ Some x) × (x.root ≡ root)

-- element x is an output of a committed unit that took another element of its family
pub record ComesFrom (limit : ℕ) (h : List Event) (x : Element) : Type 0 where
  pub unit : ℕ
  pub parent : Element
  pub by : x.by ≡ Some unit
  pub born : IsBorn h parent
  pub root : parent.root ≡ x.root
  pub consumed : status_of limit h parent.id ≡ Consumed unit
  pub first : ℕ
  pub count : ℕ
  pub ended : end_of h unit ≡ Some (Committed first count)
  pub low : first ≤ x.id
  pub high : x.id < first + count

-- a family is a tree: each element of it is its root, which is a client's, or comes from another one of the
-- family
abbrev pub FamilyIsTree : Type 0
FamilyIsTree = (l : Limits) (h : List Event) (x : Element) → IsLegal l h → IsBorn h x
    → ((x.id ≡ x.root) × (x.by ≡ None)) ⊎ ComesFrom l.attempts h x

-- who has these ids has the root, and where a unit consumed the element of one of them, each output of that
-- unit
pub record IsClosedFrom (limit : ℕ) (h : List Event) (root : ℕ) (Has : ℕ → Type 0) : Type 0 where
  pub root_too : Has root
  pub outputs_too : (i u first count j : ℕ) → Has i → status_of limit h i ≡ Consumed u
      → end_of h u ≡ Some (Committed first count) → first ≤ j → j < first + count → Has j

-- and so has the whole family: who goes on from each consumed element to its outputs leaves out none
abbrev pub ClosedHasFamily : Type 0
ClosedHasFamily = (l : Limits) (h : List Event) (root : ℕ) (has : ℕ → Bool) → IsLegal l h
    → IsClosedFrom l.attempts h root (λ i. has i ≡ true)
    → (x : Element) → IsBorn h x → x.root ≡ root → has x.id ≡ true

-- and goes to no other: the outputs of a unit are of the family of the element that it took
abbrev pub OutputsAreOfFamily : Type 0
OutputsAreOfFamily = (l : Limits) (h : List Event) (t : UnitClaim) (y : Element) (u first count j : ℕ)
    → IsLegal l h → claim_of h u ≡ Some t → element_of h t.item ≡ Some y
    → end_of h u ≡ Some (Committed first count)
    → first ≤ j → j < first + count → (x : Element) × (element_of h j ≡ Some x) × (x.root ≡ y.root)
    × (x.by ≡ Some u)

-- the event is a Claim of an element of the family, or a Commit of a unit that claimed one
abbrev pub WorksOn : List Event → ℕ → Event → Type 0
WorksOn h root (Claim c u i n) = IsOfFamily h root i
WorksOn h root (Commit c u outs) = (i : ℕ) × (item_of h u ≡ Some i) × IsOfFamily h root i
WorksOn h root other = ⊥

-- once the family of a client's element is settled, no later event claims an element of it, or commits a unit
-- that claimed one
abbrev pub NeverWorkedOn : Type 0
NeverWorkedOn =
    (l : Limits) (h between after : List Event) (e : Event) (root : ℕ)
    → let k = (h ++ between) ++ e ∷ after in
    IsLegal l k → IsRequest h root → IsSettledFamily l.attempts h root → ¬ WorksOn k root e

-- it stays settled, and is the same list: nothing is born in it
abbrev pub SettledFamilyStays : Type 0
SettledFamilyStays =
    (l : Limits) (h g : List Event) (root : ℕ)
    → IsLegal l g → IsPrefix h g → IsRequest h root → IsSettledFamily l.attempts h root
    → IsSettledFamily l.attempts g root × (family g root ≡ family h root)
