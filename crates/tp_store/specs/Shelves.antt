-- The elements of a store, and that its indexes say of each what it is.
use Rattle.std.specs.Prelude.{◌≡◌, ◌==◌, ◌&&◌, nat_le, nat_lt, if◌then◌else◌, ◌⊎◌, ◌≤◌, ◌^◌, ℕ, Bool, false, Option, Some, None, List}
use Rattle.std.specs.Ordering.{nat_cmp}
use Rattle.std.specs.List.Sorted.{IsStrictlySortedBy}
use Rattle.std.specs.Map.{keys_of}
use Rattle.tp_store.specs.declared.element.Element.{Element}
use Rattle.tp_store.specs.declared.element.Groups.{Groups}
use Rattle.tp_store.specs.declared.indexes.Indexes.{Indexes}
use Rattle.tp_store.specs.Elements.{Entry, alive_of, element_at, family_of, is_group, owned_of}
use Rattle.tp_store.specs.Elements.{queue_of, reply_of, unless_own}
use Rattle.tp_store.specs.Indexes.{has, IsFirstFrom}
use Rattle.tp_store.specs.Indexing.{Places}

-- in which group the element with an id stands
abbrev pub Grouping : Type 0
Grouping = ℕ → Element → Option ℕ

-- the group of an element, and none where there is no element
abbrev pub group_at : Grouping → ℕ → Option Element → Option ℕ
group_at of id None = None
group_at of id (Some e) = of id e

-- its groups
abbrev pub groups_at : ℕ → Option Element → Groups
groups_at id x = record {
  queue = group_at (λ i. queue_of) id x;
  reply = group_at (λ i. reply_of) id x;
  owned = group_at (λ i. owned_of) id x;
  family = group_at (unless_own family_of) id x;
  alive = group_at (unless_own alive_of) id x;
}

-- whether the element with this id, if there is one, stands in this group
abbrev pub stands : Grouping → ℕ → ℕ → Option Element → Bool
stands of group id None = false
stands of group id (Some e) = is_group group (of id e)

-- an index says of each element which group it stands in
abbrev pub IsIndexOf : Grouping → List Entry → Places → Type 0
IsIndexOf of elements places = (group id : ℕ) → has places group id ≡ stands of group id (element_at id elements)

-- the ids ascend
abbrev pub AreSorted : List Entry → Type 0
AreSorted elements = IsStrictlySortedBy nat_cmp (keys_of elements)

-- the ids ascend and have 64 bits, and each index is right
pub record AreIndexed (elements : List Entry) (x : Indexes) : Type 0 where
  pub sorted : AreSorted elements
  pub fits : (id : ℕ) → 2 ^ 64 ≤ id → element_at id elements ≡ None
  pub queue : IsIndexOf (λ i. queue_of) elements x.queues
  pub reply : IsIndexOf (λ i. reply_of) elements x.replies
  pub owned : IsIndexOf (λ i. owned_of) elements x.owned
  pub family : IsIndexOf (unless_own family_of) elements x.families
  pub alive : IsIndexOf (unless_own alive_of) elements x.alive

-- a request's own element, where it is one of a group from an id on
abbrev pub own_of : (Element → Option ℕ) → ℕ → ℕ → Option Element → Option Entry
own_of of root from None = None
own_of of root from (Some e) = if nat_le from root && is_group root (of e) then Some (root, e) else None

-- the one of two that has the lesser id
abbrev pub earlier : Option Entry → Option Entry → Option Entry
earlier None other = other
earlier (Some x) None = Some x
earlier (Some x) (Some y) = if nat_lt y.0 x.0 then Some y else Some x

-- the first place of a group from this id on, and the element there
abbrev pub IsFoundBy : List Entry → Places → ℕ → ℕ → Option Entry → Type 0
IsFoundBy elements places group from None = IsFirstFrom places group from None
    ⊎ ((id : ℕ) × IsFirstFrom places group from (Some id) × (element_at id elements ≡ None))
IsFoundBy elements places group from (Some e) = IsFirstFrom places group from (Some e.0)
    × (element_at e.0 elements ≡ Some e.1)

-- the element x is at this id now, if it is one, and all others are where they were
abbrev pub IsPutAt : ℕ → Option Element → List Entry → List Entry → Type 0
IsPutAt id x old new = (q : ℕ) → element_at q new ≡ (if id == q then x else element_at q old)

-- this is one of the elements
abbrev pub IsThere : List Entry → Entry → Type 0
IsThere elements e = element_at e.0 elements ≡ Some e.1

-- what wasn't there is not there
abbrev pub IsFewer : List Entry → List Entry → Type 0
IsFewer old new = (id : ℕ) → element_at id old ≡ None → element_at id new ≡ None
