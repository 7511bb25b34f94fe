-- A store that is built again from what was told of it, one thing after another.
use Rattle.std.specs.Prelude.{ℕ, ◌+◌, ◌-◌, ◌^◌, ◌==◌, ◌&&◌, nat_le, nat_lt, Bool, true, is_none, if◌then◌else◌, Option, None, Some, Result, Ok, Err, List, [], ◌∷◌, ◌++◌, length, slice_index_or, slice_set}
use Rattle.tp_store.specs.declared.element.TheConstants.{LAST_STAGE, MAX_ROUNDS, REPLY_STAGE}
use Rattle.tp_store.specs.declared.element.Element.{Element}
use Rattle.tp_store.specs.declared.element.Status.{Status}
use Rattle.tp_store.specs.declared.element.Status.TheVariants.{Held}
use Rattle.tp_store.specs.declared.answers.Refusal.{Refusal}
use Rattle.tp_store.specs.declared.answers.Refusal.TheVariants.{Unsound}
use Rattle.tp_store.specs.declared.counts.Counts.{Counts}
use Rattle.tp_store.specs.declared.group.Group.TheVariants.{All}
use Rattle.tp_store.specs.declared.store.Limits.{Limits}
use Rattle.tp_store.specs.Counting.{TallyView, no_counts, tallied}
use Rattle.tp_store.specs.Elements.{put}
use Rattle.tp_store.specs.Ends.{is_over}
use Rattle.tp_store.specs.Listing.{first_of}
use Rattle.tp_store.specs.Runs.{Call, run}
use Rattle.tp_store.specs.Soundness.{IsSound, is_for_reply, unit_in}
use Rattle.tp_store.specs.State.{State, start}

-- what is told changes the store to this where it is sound, and is refused where it isn't
abbrev pub if_sound : Bool → State → State → Result (Unit {0}) Refusal × State
if_sound sound new s = if sound then (Ok tt, new) else (Err Unsound, s)

-- a stage that there is
abbrev pub is_stage : ℕ → Bool
is_stage stage = nat_le 1 stage && nat_le stage LAST_STAGE

-- ---- numbers

-- so many ids and units were drawn
abbrev pub with_numbers : ℕ → ℕ → State → State
with_numbers next units s = record s { next = next; units = units }

abbrev pub set_numbers_of : ℕ → ℕ → State → Result (Unit {0}) Refusal × State
set_numbers_of next units s = if_sound (nat_le s.next next && nat_le s.units units) (with_numbers next units s) s

-- ---- elements

-- whether this unit, if it is one, was drawn
abbrev pub is_drawn : ℕ → Option ℕ → Bool
is_drawn units None = true
is_drawn units (Some unit) = nat_lt unit units

-- whether this may be the request of an element: its own id where a client submitted it, and an earlier one
-- where a unit made it
abbrev pub is_root : ℕ → Option ℕ → ℕ → Bool
is_root id None root = root == id
is_root id (Some unit) root = nat_lt root id

-- whether an element of this stage may stand so: a unit that holds it is at least the first to do so, and
-- replies are neither held nor parked
abbrev pub is_attempt : Status → Bool
is_attempt (Held unit n) = nat_le 1 n
is_attempt other = true

abbrev pub is_standing : ℕ → Status → Bool
is_standing stage status = is_attempt status && (if stage == REPLY_STAGE then is_for_reply status else true)

-- whether an element may be as it is, where so many units were drawn
abbrev pub is_possible : ℕ → ℕ → Element → Bool
is_possible units id e = is_stage e.stage && (nat_le e.rounds MAX_ROUNDS && (is_root id e.by e.root
    && (is_drawn units e.by && (is_drawn units (unit_in e.status) && is_standing e.stage e.status))))

-- whether its id was drawn, and no element from that on has come back, nor any request that is over
abbrev pub is_next : ℕ → State → Bool
is_next id s = nat_lt id s.next && (is_none (first_of All id s.elements) && length s.ended == 0)

-- the element is there, and counted as one more that stands so
abbrev pub with_element : ℕ → Element → State → State
with_element id e s = record s {
  elements = put id e s.elements;
  tally = tallied e.stage None e.status s.tally;
}

abbrev pub put_back_of : ℕ → Element → State → Result (Unit {0}) Refusal × State
put_back_of id e s = if_sound (is_next id s && is_possible s.units id e) (with_element id e s) s

-- ---- requests that are over

abbrev pub with_over : ℕ → State → State
with_over root s = record s { ended = s.ended ++ root ∷ [] }

abbrev pub put_over_of : ℕ → State → Result (Unit {0}) Refusal × State
put_over_of root s = if_sound (nat_lt root s.next && is_over root s.elements) (with_over root s) s

-- ---- what is settled

-- whether a count may go up to this one, and the count of all by as much
abbrev pub is_rise : ℕ → ℕ → ℕ → Bool
is_rise from to all = nat_le from to && nat_lt (all + (to - from)) (2 ^ 64)

-- so many were ever consumed and killed
abbrev pub settled : ℕ → ℕ → Counts → Counts
settled consumed killed c = record c { consumed = consumed; killed = killed }

-- the counts of a stage
abbrev pub counts_of : ℕ → TallyView → Counts
counts_of stage t = slice_index_or t.stages stage no_counts

abbrev pub is_settling : ℕ → ℕ → ℕ → TallyView → Bool
is_settling stage consumed killed t = is_rise (counts_of stage t).consumed consumed t.total.consumed
    && is_rise (counts_of stage t).killed killed t.total.killed

-- so many of a stage, and as many more of all
abbrev pub with_settled : ℕ → ℕ → ℕ → TallyView → TallyView
with_settled stage consumed killed t = record {
  total = settled (t.total.consumed + (consumed - (counts_of stage t).consumed))
      (t.total.killed + (killed - (counts_of stage t).killed)) t.total;
  stages = slice_set t.stages stage (settled consumed killed (counts_of stage t));
}

abbrev pub set_settled_of : ℕ → ℕ → ℕ → State → Result (Unit {0}) Refusal × State
set_settled_of stage consumed killed s = if_sound (is_stage stage && is_settling stage consumed killed s.tally)
    (record s { tally = with_settled stage consumed killed s.tally }) s

-- ---- what is told

-- one thing that is told
pub data Told : Type 0 where
  Numbers : ℕ → ℕ → Told
  Back : ℕ → Element → Told
  Over : ℕ → Told
  Settled : ℕ → ℕ → ℕ → Told

-- what it leaves
abbrev pub taken_back : Told → State → State
taken_back (Numbers next units) s = (set_numbers_of next units s).1
taken_back (Back id e) s = (put_back_of id e s).1
taken_back (Over root) s = (put_over_of root s).1
taken_back (Settled stage consumed killed) s = (set_settled_of stage consumed killed s).1

-- what these leave, one after another
abbrev pub all_back : List Told → State → State
all_back [] s = s
all_back (told ∷ others) s = all_back others (taken_back told s)

-- whatever is told, a sound store stays sound
abbrev pub StaysSound : Type 0
StaysSound = (told : Told) (s : State) → IsSound s → IsSound (taken_back told s)

-- and so is one that is built of it, and each run of calls behind
abbrev pub RestoredIsSound : Type 0
RestoredIsSound = (limits : Limits) (told : List Told) (calls : List Call)
    → IsSound (run calls (all_back told (start limits)))
