-- The closing account of a history, and what it comes to.
use Rattle.std.specs.Prelude.{◌≡◌, ◌≢◌, ◌<◌, ℕ, ◌+◌, ◌-◌, ◌==◌, ◌&&◌, ◌||◌, nat_le, Bool, true, List, map}
use Rattle.std.specs.Prelude.{take, length, sum_by, count_by, slice_index_or}
use Rattle.std.specs.List.{filter_map, range_with_len}
use Rattle.tp_model.specs.declared.types.TheConstants.{MAX_STAGE, STAGES}
use Rattle.tp_model.specs.declared.types.Account.{Account}
use Rattle.tp_model.specs.declared.types.Counts.{Counts}
use Rattle.tp_model.specs.declared.types.Element.{Element}
use Rattle.tp_model.specs.declared.types.Limits.{Limits}
use Rattle.tp_model.specs.declared.types.Status.{Status}
use Rattle.tp_model.specs.declared.types.Status.TheVariants.{Waiting, Held, Consumed, Parked, Killed}
use Rattle.tp_model.specs.declared.event.Event.{Event}
use Rattle.tp_model.specs.Counts.{taken, is_waiting, is_held, is_consumed, in_stage, counts_among, counts}
use Rattle.tp_model.specs.Counts.{counts_in}
use Rattle.tp_model.specs.History.{In, born, element_of, status_of, IsBorn, events_by}
use Rattle.tp_model.specs.Steps.{IsLegal, IsStage, rows_of}

-- the stages of an account, in order
abbrev pub all_stages : List ℕ
all_stages = range_with_len 1 STAGES

-- the account of these elements after a history
abbrev pub account_among : ℕ → List Event → List Element → Account
account_among limit h elements =
    record {
      total = counts_among limit h elements;
      stages = map (λ s. counts_among limit h (in_stage s elements)) all_stages;
    }

-- the account of all born elements
abbrev pub account_of : ℕ → List Event → Account
account_of limit h = account_among limit h (born h)

-- the elements that are born in the rows below n, row by row
abbrev pub elements_below : List Event → ℕ → List Element
elements_below h n = filter_map (element_of h) (range_with_len 0 n)

-- these counts, and one more element of this status
abbrev pub one_more : Status → Counts → Counts
one_more (Waiting n) c = record {
  waiting = c.waiting + 1;
  held = c.held;
  consumed = c.consumed;
  parked = c.parked;
  killed = c.killed;
}
one_more (Held u n) c = record {
  waiting = c.waiting;
  held = c.held + 1;
  consumed = c.consumed;
  parked = c.parked;
  killed = c.killed;
}
one_more (Consumed u) c = record {
  waiting = c.waiting;
  held = c.held;
  consumed = c.consumed + 1;
  parked = c.parked;
  killed = c.killed;
}
one_more (Parked n) c = record {
  waiting = c.waiting;
  held = c.held;
  consumed = c.consumed;
  parked = c.parked + 1;
  killed = c.killed;
}
one_more Killed c = record {
  waiting = c.waiting;
  held = c.held;
  consumed = c.consumed;
  parked = c.parked;
  killed = c.killed + 1;
}

-- how many elements are counted, of whichever kind
abbrev pub all_in : Counts → ℕ
all_in c = c.waiting + c.held + c.consumed + c.parked + c.killed

-- these counts added up, each kind by itself
abbrev pub added : List Counts → Counts
added cs =
    record {
      waiting = sum_by (λ c. c.waiting) cs;
      held = sum_by (λ c. c.held) cs;
      consumed = sum_by (λ c. c.consumed) cs;
      parked = sum_by (λ c. c.parked) cs;
      killed = sum_by (λ c. c.killed) cs;
    }

-- in all and in each stage, the five counts add up to the born elements
abbrev pub CountsAddUp : Type 0
CountsAddUp =
    (limit : ℕ) (h : List Event)
    → (all_in (counts limit h) ≡ length (born h))
    × ((s : ℕ) → all_in (counts_in limit h s) ≡ length (in_stage s (born h)))

-- how many elements of the servers' stages, the first 14, wait or are held
abbrev pub open_in : Account → ℕ
open_in a = sum_by (λ c. c.waiting + c.held) (take 14 a.stages)

-- an element of a server's stage that waits or is held
abbrev pub is_open : ℕ → List Event → Element → Bool
is_open limit h x = nat_le x.stage MAX_STAGE
    && (is_waiting (status_of limit h x.id) || is_held (status_of limit h x.id))

-- those that an account has open are the born elements that are
abbrev pub OpenAddsUp : Type 0
OpenAddsUp = (l : Limits) (h : List Event) → IsLegal l h
    → open_in (account_of l.attempts h) ≡ count_by (is_open l.attempts h) (born h)

-- the counts of the stages add up to those in all
abbrev pub StagesAddUp : Type 0
StagesAddUp = (l : Limits) (h : List Event) → IsLegal l h
    → added (account_of l.attempts h).stages ≡ counts l.attempts h

-- those of stage s are at index s - 1
abbrev pub StagesInPlace : Type 0
StagesInPlace =
    (limit : ℕ) (h : List Event) (s : ℕ) (default : Counts)
    → IsStage s → slice_index_or (account_of limit h).stages (s - 1) default ≡ counts_in limit h s

-- who goes through the rows finds each born element, and each once: its account is that of the history
abbrev pub CountsByRows : Type 0
CountsByRows =
    (l : Limits) (h : List Event) → IsLegal l h
    → account_among l.attempts h (elements_below h (rows_of l)) ≡ account_of l.attempts h

-- the elements that a pass consumed, in the order of its Commits
abbrev pub taken_of : List Event → ℕ → List Element
taken_of h c = taken (events_by c h) h

-- how often one of these has the id of x
abbrev pub times : Element → List Element → ℕ
times x elements = count_by (λ e. e.id == x.id) elements

-- x is born, and a committed unit took it
pub record IsConsumed (limit : ℕ) (h : List Event) (x : Element) : Type 0 where
  pub born : IsBorn h x
  pub consumed : is_consumed (status_of limit h x.id) ≡ true

-- one pass alone consumed x, and once
pub record IsTakenOnce (l : Limits) (h : List Event) (x : Element) : Type 0 where
  pub pass : ℕ
  pub given : pass < l.parts
  pub taken : In x (taken_of h pass)
  pub once : times x (taken_of h pass) ≡ 1
  pub alone : (other : ℕ) → other ≢ pass → times x (taken_of h other) ≡ 0

-- each consumed element is one that one pass alone consumed, and once
abbrev pub ConsumedIsTaken : Type 0
ConsumedIsTaken = (l : Limits) (h : List Event) (x : Element) → IsLegal l h → IsConsumed l.attempts h x
    → IsTakenOnce l h x

-- and what a pass consumed is a consumed element
abbrev pub TakenIsConsumed : Type 0
TakenIsConsumed = (l : Limits) (h : List Event) (c : ℕ) (x : Element) → IsLegal l h → In x (taken_of h c)
    → IsConsumed l.attempts h x
