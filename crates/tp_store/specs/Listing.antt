-- Groups of elements, and what is listed of them.
use Rattle.std.specs.Prelude.{ℕ, ◌&&◌, nat_le, Bool, true, Option, List, filter, take}
use Rattle.std.specs.List.{find}
use Rattle.tp_store.specs.declared.element.Element.{Element}
use Rattle.tp_store.specs.declared.group.Group.{Group}
use Rattle.tp_store.specs.declared.group.Group.TheVariants.{Queue, Replies, Owned, Family, All}
use Rattle.tp_store.specs.Elements.{Entry, family_of, is_group, owned_of, queue_of, reply_of}

-- whether an element is one of a group
abbrev pub is_among : Group → Element → Bool
is_among (Queue queue) e = is_group queue (queue_of e)
is_among (Replies root) e = is_group root (reply_of e)
is_among (Owned owner) e = is_group owner (owned_of e)
is_among (Family root) e = is_group root (family_of e)
is_among All e = true

-- whether it is one of those from an id on
abbrev pub is_among_from : Group → ℕ → Entry → Bool
is_among_from group from e = nat_le from e.0 && is_among group e.1

-- the first of a group from an id on
abbrev pub first_of : Group → ℕ → List Entry → Option Entry
first_of group from elements = find (is_among_from group from) elements

-- those of a group from an id on, at most so many
abbrev pub listed : Group → ℕ → ℕ → List Entry → List Entry
listed group from most elements = take most (filter (is_among_from group from) elements)
