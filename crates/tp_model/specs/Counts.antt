-- What is counted and listed over a history.
use Rattle.std.specs.Prelude.{ℕ, ◌==◌, Bool, true, false, Option, None, List, filter, count_by}
use Rattle.std.specs.List.{filter_map}
use Rattle.std.specs.Option.{option_and_then}
use Rattle.tp_model.specs.declared.types.Counts.{Counts}
use Rattle.tp_model.specs.declared.types.Element.{Element}
use Rattle.tp_model.specs.declared.types.Status.{Status}
use Rattle.tp_model.specs.declared.types.Status.TheVariants.{Waiting, Held, Consumed, Parked, Killed}
use Rattle.tp_model.specs.declared.event.Event.{Event}
use Rattle.tp_model.specs.declared.event.Event.TheVariants.{Commit}
use Rattle.tp_model.specs.History.{born, element_of, UnitClaim, claim_of, status_of}

-- the born element that the unit of a Commit among `events` claimed there
abbrev pub taken_by : List Event → List Event → Event → Option Element
taken_by events h (Commit c u outs) = option_and_then (λ (t : UnitClaim). element_of h t.item)
    (claim_of events u)
taken_by events h other = None

-- the elements that these events consumed, in the order of their Commits
abbrev pub taken : List Event → List Event → List Element
taken events h = filter_map (taken_by events h) events

-- it waits
abbrev pub is_waiting : Status → Bool
is_waiting (Waiting n) = true
is_waiting other = false

-- an undecided unit holds it
abbrev pub is_held : Status → Bool
is_held (Held u n) = true
is_held other = false

-- a committed unit took it
abbrev pub is_consumed : Status → Bool
is_consumed (Consumed u) = true
is_consumed other = false

-- it is parked
abbrev pub is_parked : Status → Bool
is_parked (Parked n) = true
is_parked other = false

-- it was killed
abbrev pub is_killed : Status → Bool
is_killed Killed = true
is_killed other = false

-- how many of these elements have such a status after a history
abbrev pub count_of : ℕ → List Event → List Element → (Status → Bool) → ℕ
count_of limit h elements test = count_by (λ e. test (status_of limit h e.id)) elements

-- how many of these elements have each kind of status after a history
abbrev pub counts_among : ℕ → List Event → List Element → Counts
counts_among limit h elements =
    record {
      waiting = count_of limit h elements is_waiting;
      held = count_of limit h elements is_held;
      consumed = count_of limit h elements is_consumed;
      parked = count_of limit h elements is_parked;
      killed = count_of limit h elements is_killed;
    }

-- the counts of all born elements
abbrev pub counts : ℕ → List Event → Counts
counts limit h = counts_among limit h (born h)

-- those of these elements that are of one stage
abbrev pub in_stage : ℕ → List Element → List Element
in_stage stage elements = filter (λ e. e.stage == stage) elements

-- the counts of the born elements of one stage
abbrev pub counts_in : ℕ → List Event → ℕ → Counts
counts_in limit h stage = counts_among limit h (in_stage stage (born h))
