-- What an element is to the calls: the queue that it waits in, and its request.
use Rattle.std.specs.Prelude.{ℕ, ◌==◌, ◌&&◌, nat_le, Bool, true, false, if◌then◌else◌, Option, Some, None, List}
use Rattle.std.specs.Ordering.{nat_cmp}
use Rattle.std.specs.BTreeMap.{is_at, insert_entry}
use Rattle.std.specs.Map.{lookup, remove_entry}
use Rattle.std.specs.List.{find}
use Rattle.tp_store.specs.declared.element.TheConstants.{REPLY_STAGE}
use Rattle.tp_store.specs.declared.element.Element.{Element}
use Rattle.tp_store.specs.declared.element.Groups.{Groups}
use Rattle.tp_store.specs.declared.element.Status.{Status}
use Rattle.tp_store.specs.declared.element.Status.TheVariants.{Waiting, Held, Parked}

-- an element with its id
abbrev pub Entry : Type 0
Entry = ℕ × Element

-- ---- how an element stands

abbrev pub is_waiting : Status → Bool
is_waiting (Waiting n) = true
is_waiting other = false

-- work on it may go on: it waits, is held or is parked
abbrev pub is_alive : Status → Bool
is_alive (Waiting n) = true
is_alive (Held u n) = true
is_alive (Parked n) = true
is_alive other = false

-- this unit of work holds it
abbrev pub is_held_by : ℕ → Status → Bool
is_held_by unit (Held u n) = u == unit
is_held_by unit other = false

-- the same element, where it stands so
abbrev pub standing : Status → Element → Element
standing status e = record e { status = status }

-- ---- the groups that it stands in

-- the queue: its stage's where it waits, and 0, the error queue, where it is parked
abbrev pub queue_in : ℕ → Status → Option ℕ
queue_in stage (Waiting n) = Some stage
queue_in stage (Parked n) = Some 0
queue_in stage other = None

abbrev pub queue_of : Element → Option ℕ
queue_of e = queue_in e.stage e.status

-- whether it is a reply that waits
abbrev pub is_reply : Element → Bool
is_reply e = e.stage == REPLY_STAGE && is_waiting e.status

-- the request of a reply that waits
abbrev pub reply_of : Element → Option ℕ
reply_of e = if is_reply e then Some e.root else None

-- whose reply it is, where it waits
abbrev pub owned_of : Element → Option ℕ
owned_of e = if is_reply e then e.owner else None

-- its request
abbrev pub family_of : Element → Option ℕ
family_of e = Some e.root

-- its request, where work on it may go on
abbrev pub alive_of : Element → Option ℕ
alive_of e = if is_alive e.status then Some e.root else None

-- where an index has it: a request's own element is found by its id, and no index of requests has it
abbrev pub unless_own : (Element → Option ℕ) → ℕ → Element → Option ℕ
unless_own of id e = if e.root == id then None else of e

-- the groups in which the indexes have it
abbrev pub groups_of : ℕ → Element → Groups
groups_of id e = record {
  queue = queue_of e;
  reply = reply_of e;
  owned = owned_of e;
  family = unless_own family_of id e;
  alive = unless_own alive_of id e;
}

-- ---- the elements, in the order of their births

-- the element with this id
abbrev pub element_at : ℕ → List Entry → Option Element
element_at id elements = lookup (is_at (nat_cmp id)) elements

-- the elements, with this one at this id
abbrev pub put : ℕ → Element → List Entry → List Entry
put id e elements = insert_entry nat_cmp elements id e

-- the elements without that of this id
abbrev pub without : ℕ → List Entry → List Entry
without id elements = remove_entry (is_at (nat_cmp id)) elements

-- whether this is the group
abbrev pub is_group : ℕ → Option ℕ → Bool
is_group group None = false
is_group group (Some g) = g == group

-- whether an element stands in a group, from this id on
abbrev pub is_in_from : (Element → Option ℕ) → ℕ → ℕ → Entry → Bool
is_in_from of group from e = nat_le from e.0 && is_group group (of e.1)

-- the first one from this id on that stands in a group
abbrev pub first_in : (Element → Option ℕ) → ℕ → ℕ → List Entry → Option Entry
first_in of group from elements = find (is_in_from of group from) elements
