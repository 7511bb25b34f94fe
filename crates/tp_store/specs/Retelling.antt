-- What a store tells of itself, of which it is built again.
use Rattle.std.specs.Prelude.{◌≡◌, ℕ, ◌+◌, ◌-◌, ◌^◌, ◌<◌, true, Result, Ok, List, [], ◌∷◌, ◌++◌, map}
use Rattle.std.specs.List.{AllByRecursion}
use Rattle.tp_store.specs.declared.answers.Refusal.{Refusal}
use Rattle.tp_store.specs.declared.counts.Counts.{Counts}
use Rattle.tp_store.specs.declared.store.Limits.{Limits}
use Rattle.tp_store.specs.Elements.{Entry}
use Rattle.tp_store.specs.Restoring.{all_back, is_stage, put_back_of, put_over_of, set_numbers_of}
use Rattle.tp_store.specs.Restoring.{set_settled_of, taken_back, Told, Numbers, Back, Over, Settled}
use Rattle.tp_store.specs.Runs.{Call, Commit, run}
use Rattle.tp_store.specs.State.{State, start}

-- what is answered to one thing that is told
abbrev pub answered : Told → State → Result (Unit {0}) Refusal
answered (Numbers next units) s = (set_numbers_of next units s).0
answered (Back id e) s = (put_back_of id e s).0
answered (Over root) s = (put_over_of root s).0
answered (Settled stage consumed killed) s = (set_settled_of stage consumed killed s).0

-- each of these is taken in, one after another
abbrev pub AreTaken : List Told → State → Type 0
AreTaken [] s = Unit {0}
AreTaken (told ∷ others) s = (answered told s ≡ Ok tt) × AreTaken others (taken_back told s)

-- what was ever settled in each stage, of which these are the counts from one stage on
abbrev pub settled_from : ℕ → List Counts → List Told
settled_from stage [] = []
settled_from stage (c ∷ cs) = Settled stage c.consumed c.killed ∷ settled_from (stage + 1) cs

-- no element is of stage 0
abbrev pub settled_in : List Counts → List Told
settled_in [] = []
settled_in (none ∷ cs) = settled_from 1 cs

-- all that a store tells: its numbers, its elements in the order of their ids, the requests that are over in
-- the order of their ends, and what was ever settled in each stage
abbrev pub told_of : State → List Told
told_of s = Numbers s.next s.units ∷ (map (λ (e : Entry). Back e.0 e.1) s.elements
    ++ (map Over s.ended ++ settled_in s.tally.stages))

-- the drafts of a call are of stages that there are, from 1 on, as each draft is
abbrev pub HasDraftStages : Call → Type 0
HasDraftStages (Commit id unit drafts) = AllByRecursion (λ d. is_stage d.stage ≡ true) drafts
HasDraftStages other = Unit {0}

-- a store that calls have led to, told in full to an empty one of the same limits, is taken in, and is there
-- again exactly, until the numbers of 64 bits are used up
abbrev pub ToldAndTakenBack : Type 0
ToldAndTakenBack = (limits : Limits) (calls : List Call) → AllByRecursion HasDraftStages calls
    → let s = run calls (start limits) in s.next < 2 ^ 64 - 1
    → AreTaken (told_of s) (start s.limits) × (all_back (told_of s) (start s.limits) ≡ s)
