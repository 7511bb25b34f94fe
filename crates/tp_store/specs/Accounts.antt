-- The account of a store: how many elements there are of each kind.
use Rattle.std.specs.Prelude.{◌≡◌, ℕ, ◌+◌, ◌-◌, ◌^◌, ◌==◌, ◌&&◌, ◌<◌, ◌≤◌, Bool, true, false, List, count_by}
use Rattle.std.specs.Prelude.{slice_index_or, sum_by}
use Rattle.std.specs.List.{AllByRecursion}
use Rattle.std.specs.Map.{values_of}
use Rattle.tp_store.specs.declared.counts.Counts.{Counts}
use Rattle.tp_store.specs.declared.element.Element.{Element}
use Rattle.tp_store.specs.declared.element.Status.{Status}
use Rattle.tp_store.specs.declared.element.Status.TheVariants.{Held, Parked}
use Rattle.tp_store.specs.declared.element.TheConstants.{LAST_STAGE}
use Rattle.tp_store.specs.declared.store.Limits.{Limits}
use Rattle.tp_store.specs.Counting.{no_counts}
use Rattle.tp_store.specs.Elements.{is_waiting}
use Rattle.tp_store.specs.Runs.{Call, Commit, run}
use Rattle.tp_store.specs.State.{State, start}

abbrev pub is_held : Status → Bool
is_held (Held u n) = true
is_held other = false

abbrev pub is_parked : Status → Bool
is_parked (Parked n) = true
is_parked other = false

-- how many elements of all kinds are counted
abbrev pub all_in : Counts → ℕ
all_in c = c.waiting + c.held + c.consumed + c.parked + c.killed

-- these counts added up, each kind by itself
abbrev pub added : List Counts → Counts
added cs = record {
  waiting = sum_by (λ c. c.waiting) cs;
  held = sum_by (λ c. c.held) cs;
  consumed = sum_by (λ c. c.consumed) cs;
  parked = sum_by (λ c. c.parked) cs;
  killed = sum_by (λ c. c.killed) cs;
}

-- how many elements that are there stand so
abbrev pub standing_so : (Status → Bool) → State → ℕ
standing_so is s = count_by (λ (e : Element). is e.status) (values_of s.elements)

-- and are of one stage
abbrev pub staying_so : ℕ → (Status → Bool) → State → ℕ
staying_so stage is s = count_by (λ (e : Element). e.stage == stage && is e.status) (values_of s.elements)

-- the counts of a stage
abbrev pub counts_at : ℕ → State → Counts
counts_at stage s = slice_index_or s.tally.stages stage no_counts

-- each element that was born is counted once. Those that are counted as waiting, held and parked are those
-- that are there and stand so, in all and in each stage. The stages add up to what there is in all
pub record IsAccount (s : State) : Type 0 where
  pub all : all_in s.tally.total ≡ s.next
  pub waiting : s.tally.total.waiting ≡ standing_so is_waiting s
  pub held : s.tally.total.held ≡ standing_so is_held s
  pub parked : s.tally.total.parked ≡ standing_so is_parked s
  pub stage_waiting : (n : ℕ) → n ≤ LAST_STAGE → (counts_at n s).waiting ≡ staying_so n is_waiting s
  pub stage_held : (n : ℕ) → n ≤ LAST_STAGE → (counts_at n s).held ≡ staying_so n is_held s
  pub stage_parked : (n : ℕ) → n ≤ LAST_STAGE → (counts_at n s).parked ≡ staying_so n is_parked s
  pub stages : added s.tally.stages ≡ s.tally.total

-- the drafts of a call are of stages that there are
abbrev pub HasStages : Call → Type 0
HasStages (Commit id unit drafts) = AllByRecursion (λ d. d.stage ≤ LAST_STAGE) drafts
HasStages other = Unit {0}

-- so it is behind each run of calls, until the numbers of 64 bits are used up
abbrev pub AccountsHold : Type 0
AccountsHold = (limits : Limits) (calls : List Call) → AllByRecursion HasStages calls
    → let s = run calls (start limits) in s.next < 2 ^ 64 - 1 → IsAccount s
