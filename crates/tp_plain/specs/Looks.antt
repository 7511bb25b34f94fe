-- The looks of a manager of one thread: the status of each born element.
use Rattle.std.specs.Prelude.{◌≡◌, ◌<◌, length, slice_index_or, ℕ, ◌==◌, nat_lt, Bool, true, false, not, ◌&&◌}
use Rattle.std.specs.Prelude.{◌||◌, if◌then◌else◌, Option, Some, None, List, map}
use Rattle.tp_model.specs.declared.types.TheConstants.{REPLY_STAGE}
use Rattle.tp_model.specs.declared.types.Element.{Element}
use Rattle.tp_model.specs.declared.types.Look.{Look}
use Rattle.tp_model.specs.declared.types.Status.{Status}
use Rattle.tp_model.specs.declared.types.Status.TheVariants.{Waiting, Held, Consumed, Parked, Killed}
use Rattle.tp_model.specs.declared.event.Event.{Event}
use Rattle.tp_model.specs.Counts.{is_waiting}
use Rattle.tp_model.specs.History.{born, rounds, status_after, status_of}
use Rattle.tp_model.specs.Steps.{rows_of}
use Rattle.tp_model.specs.declared.types.Limits.{Limits}

-- each born element, as it is read
abbrev pub look_at : ℕ → List Event → Element → Look
look_at limit h e = record { element = e; status = status_of limit h e.id }

-- a look after one more event
abbrev pub look_after : ℕ → Event → Look → Look
look_after limit e l = record { element = l.element; status = status_after limit l.element.id l.status e }

-- a look at an element that was just born
abbrev pub fresh_look : Element → Look
fresh_look x = record { element = x; status = Waiting 0 }

-- whether a look shows an element of this stage that waits
abbrev pub waits_in : ℕ → Look → Bool
waits_in stage l = (l.element.stage == stage) && is_waiting l.status

-- whether id i comes before id j where the ids are a circle, which begins at `from`
abbrev pub comes_before : ℕ → ℕ → ℕ → Bool
comes_before from i j = if nat_lt i from then nat_lt j from && nat_lt i j else nat_lt j from || nat_lt i j

-- of a look found before and another one, the one to be claimed first from there on; from 0 on it is the one
-- with the lesser id
abbrev pub sooner : ℕ → ℕ → Option Look → Look → Option Look
sooner from stage None l = if waits_in stage l then Some l else None
sooner from stage (Some b) l = if waits_in stage l && comes_before from l.element.id b.element.id then Some l
    else Some b

-- how many attempts an element that waits has had
abbrev pub attempts_in : Status → ℕ
attempts_in (Waiting n) = n
attempts_in (Held u n) = 0
attempts_in (Consumed u) = 0
attempts_in (Parked n) = 0
attempts_in Killed = 0

-- whether a look shows an element that unit u holds
abbrev pub is_held_by : ℕ → Status → Bool
is_held_by u (Waiting n) = false
is_held_by u (Held v n) = u == v
is_held_by u (Consumed v) = false
is_held_by u (Parked n) = false
is_held_by u Killed = false

-- whether a look shows an element that unit u consumed
abbrev pub is_consumed_by : ℕ → Status → Bool
is_consumed_by u (Waiting n) = false
is_consumed_by u (Held v n) = false
is_consumed_by u (Consumed v) = u == v
is_consumed_by u (Parked n) = false
is_consumed_by u Killed = false

-- whether an element with this status is consumed or killed
abbrev pub is_settled : Status → Bool
is_settled (Waiting n) = false
is_settled (Held u n) = false
is_settled (Consumed u) = true
is_settled (Parked n) = false
is_settled Killed = true

-- whether an element with this status is of the family, no reply, and not settled
abbrev pub is_unsettled_of : ℕ → Status → Element → Bool
is_unsettled_of root st e = (e.root == root) && (not (e.stage == REPLY_STAGE) && not (is_settled st))

-- the looks at all born elements
abbrev pub looks_after_all : ℕ → List Event → List Look
looks_after_all limit h = map (look_at limit h) (born h)

-- for each id below the capacity, how many rounds the element with this id was given
pub record KeepsRounds (l : Limits) (h : List Event) (kept : List ℕ) : Type 0 where
  pub as_many : length kept ≡ rows_of l
  pub each : (i : ℕ) → i < rows_of l → slice_index_or kept i 0 ≡ rounds h i
