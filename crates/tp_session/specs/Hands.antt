-- What servers and workers have in hand.
use Rattle.std.specs.Prelude.{ℕ, ◌+◌, ◌==◌, ◌&&◌, Bool, false, Option, Some, None, if◌then◌else◌}
use Rattle.tp_lines.specs.declared.line.Fence.{Fence}
use Rattle.tp_store.specs.Elements.{element_at, is_held_by}
use Rattle.tp_store.specs.State.{State}
use Rattle.tp_store.specs.declared.answers.Work.{Work}
use Rattle.tp_store.specs.declared.element.Element.{Element}
use Rattle.tp_store.specs.declared.element.Status.{Status}
use Rattle.tp_store.specs.declared.element.Status.TheVariants.{Held}
use Rattle.tp_answers.specs.declared.told.HandTold.{HandTold}
use Rattle.tp_answers.specs.declared.told.HandTold.TheVariants as hand
use Rattle.tp_session.specs.declared.hand.Hand.{Hand}

-- which try at its element work is, of all its rounds
abbrev pub tries_in : Work → ℕ
tries_in w = w.element.earlier + w.attempt

-- what was taken
abbrev pub hand_of : Work → Hand
hand_of w = record { id = w.id; unit = w.unit; tries = tries_in w }

-- whether just this is in hand
abbrev pub is_in_hand : Fence → Option Hand → Bool
is_in_hand f None = false
is_in_hand f (Some h) = h.id == f.id && h.tries == f.tries

-- the element, where the unit that took it holds it still
abbrev pub held_as : Hand → Option Element → Option Element
held_as h None = None
held_as h (Some e) = if is_held_by h.unit e.status then Some e else None

abbrev pub held_of : Hand → State → Option Element
held_of h s = held_as h (element_at h.id s.elements)

-- in which attempt
abbrev pub attempt_in : Status → ℕ
attempt_in (Held u n) = n
attempt_in other = 0

-- what is told of it
abbrev pub told_hand : Hand → Option Element → HandTold
told_hand h None = hand.Lost h.id h.tries
told_hand h (Some e) = hand.Open h.id h.unit (attempt_in e.status) e.root e.body h.tries

abbrev pub hand_told : Option Hand → State → HandTold
hand_told None s = hand.Nothing
hand_told (Some h) s = told_hand h (held_of h s)
