-- What the calls answer, and what they leave. In each definition `old` is what the pass shows before the
-- call, and `new` what it shows after it.
use Rattle.std.specs.Prelude.{◌≡◌, ℕ, ◌+◌, ◌*◌, ◌<◌, ◌≤◌, ◌⊎◌, List, [], ◌∷◌, ◌++◌, length, drop, Some, None}
use Rattle.std.specs.Prelude.{Result, Ok, Err}
use mathlib.Core.List.{IsPrefix}
use Rattle.tp_model.specs.declared.types.Element.{Element}
use Rattle.tp_model.specs.declared.types.Limits.{Limits}
use Rattle.tp_model.specs.declared.types.Look.{Look}
use Rattle.tp_model.specs.declared.types.Claimed.{Claimed}
use Rattle.tp_model.specs.declared.types.Claimed.TheVariants as claimeds
use Rattle.tp_model.specs.Drafts.{DraftView}
use Rattle.tp_model.specs.declared.types.Ended.{Ended}
use Rattle.tp_model.specs.declared.types.Ended.TheVariants as endeds
use Rattle.tp_model.specs.declared.types.Outcome.{Outcome}
use Rattle.tp_model.specs.declared.types.Outcome.TheVariants as outcomes
use Rattle.tp_model.specs.declared.types.Work.{Work}
use Rattle.tp_model.specs.declared.types.Status.{Status}
use Rattle.tp_model.specs.declared.types.Status.TheVariants.{Waiting, Held}
use Rattle.tp_model.specs.declared.types.Status.TheVariants as statuses
use Rattle.tp_model.specs.declared.types.Refusal.{Refusal}
use Rattle.tp_model.specs.declared.types.Refusal.TheVariants as refusals
use Rattle.tp_model.specs.declared.types.TheConstants.{BLOCK_ROWS}
use Rattle.tp_model.specs.declared.event.Event.{Event}
use Rattle.tp_model.specs.declared.event.Event.TheVariants.{Enqueue, Claim, Commit, Abort, Kill}
use Rattle.tp_model.specs.declared.trace.TraceEntry.{TraceEntry}
use Rattle.tp_model.specs.History.{In, IsClaim, IsUnborn, UnitEnd, claim_of, element_of, end_of, first_id}
use Rattle.tp_model.specs.History.{status_of}
use Rattle.tp_model.specs.Births.{outputs, request}
use Rattle.tp_model.specs.Steps.{IsServerStage, block_first, tries}
use Rattle.tp_model.specs.Passes.{HasLook, IsPassView, IsPoint, opening_of}
use Rattle.tp_manager.specs.Shown.{AllRise, PassShown, turn_of, view_in}

-- the steps of a call
abbrev pub steps_of : PassShown → PassShown → List TraceEntry
steps_of old new = drop (length old.trace) new.trace

-- the opening of a call
abbrev pub opening : PassShown → PassShown → List Event
opening old new = opening_of old.seen (steps_of old new)

-- what every call leaves: what a pass shows. It has the same number, its trace has grown by the call's steps,
-- of which there are at most n, and it has seen what it had seen, and more
pub record Follows (n : ℕ) (old new : PassShown) : Type 0 where
  pub shows : IsPassView new.limits (view_in new)
  pub number : new.number ≡ old.number
  pub traced : new.trace ≡ old.trace ++ steps_of old new
  pub few : length (steps_of old new) ≤ n
  pub opened : IsPrefix old.seen (opening old new)
  pub closed : IsPrefix (opening old new) new.seen
  -- the marks that it remembers have not fallen, nor has the number of spare blocks that it has seen drawn
  pub lows : AllRise old.lows new.lows
  pub drawn : old.seen_blocks ≤ new.seen_blocks

-- one of the call's steps looks
abbrev pub HasLooked : PassShown → PassShown → Type 0
HasLooked old new = HasLook (steps_of old new)

-- there is a point of the call at which this is so
abbrev pub AtPoint : PassShown → PassShown → (List Event → Type 0) → Type 0
AtPoint old new Holds = (point : List Event) × IsPoint (opening old new) new.seen point × Holds point

-- the pass has used none of the rows that are left to it, and has drawn no spare block
abbrev pub KeepsRun : PassShown → PassShown → Type 0
KeepsRun old new = (new.next ≡ old.next) × (new.left ≡ old.left) × (new.blocks ≡ old.blocks)

-- the pass has used k of the rows that were left to it, from row `first` on
pub record UsesRun (k first : ℕ) (old new : PassShown) : Type 0 where
  pub room : k ≤ old.left
  pub first_is : first ≡ old.next
  pub next : new.next ≡ first + k
  pub left : new.left + k ≡ old.left
  pub blocks : new.blocks ≡ old.blocks

-- too few were left to it: it has drawn a spare block, and used the first k rows of that; what was left stays
-- unused
pub record UsesBlock (k first : ℕ) (old new : PassShown) : Type 0 where
  pub few : old.left < k
  pub block : ℕ
  pub first_is : first ≡ block_first old.limits block
  pub next : new.next ≡ first + k
  pub left : new.left + k ≡ BLOCK_ROWS
  pub blocks : new.blocks ≡ old.blocks ++ block ∷ []
  -- which it hadn't seen drawn before, and has now
  pub fresh : old.seen_blocks ≤ block
  pub seen : block < new.seen_blocks

-- the pass has used k rows, from row `first` on
abbrev pub UsesRows : ℕ → ℕ → PassShown → PassShown → Type 0
UsesRows k first old new = UsesRun k first old new ⊎ UsesBlock k first old new

-- the pass has too few rows left for k more, and has found all spare blocks drawn: it has changed in nothing
-- else but by the exchanges that failed, of which there is none where there are no spare blocks
pub record FindsNoBlock (k : ℕ) (old new : PassShown) : Type 0 where
  pub few : old.left < k
  pub same : new ≡ record old { trace = new.trace; seen_blocks = old.limits.spare }
  pub none : old.limits.spare ≡ 0 → new ≡ old

-- the pass made no event, its open unit is the same, and it has used no row
pub record IsQuiet (old new : PassShown) : Type 0 where
  pub mine : new.mine ≡ old.mine
  pub open_unit : new.open_unit ≡ old.open_unit
  pub run : KeepsRun old new

-- the pass made this event, which is the last that it has seen
pub record Adds (e : Event) (old new : PassShown) : Type 0 where
  pub mine : new.mine ≡ old.mine ++ e ∷ []
  pub before : List Event
  pub seen : new.seen ≡ before ++ e ∷ []
  pub begins : IsPrefix old.seen before

-- the look shows the born element with this id, and its status
abbrev pub IsLook : Limits → ℕ → Look → List Event → Type 0
IsLook l id look h = (element_of h id ≡ Some look.element) × (look.status ≡ status_of l.attempts h id)

-- what a read answers: a look at one point, at an element that is born in what is seen at its exit
abbrev pub Reads : Limits → ℕ → PassShown → PassShown → Look → Type 0
Reads l id old new look = AtPoint old new (IsLook l id look) × (element_of new.seen id ≡ Some look.element)

-- the pass has used its next row for a client's element, which is born
pub record Submits (id stage : ℕ) (body : List ℕ) (old new : PassShown) : Type 0 where
  pub stage_is : IsServerStage stage
  pub adds : Adds (Enqueue old.number (request id stage body)) old new
  pub is_born : element_of new.seen id ≡ Some (request id stage body)
  pub open_unit : new.open_unit ≡ old.open_unit
  pub run : UsesRows 1 id old new

-- why a submit was refused: the stage is no server's, or else there is no row for the pass
abbrev pub SubmitRefused : ℕ → PassShown → PassShown → Refusal → Type 0
SubmitRefused stage old new e = ((e ≡ refusals.BadStage) × (¬ IsServerStage stage) × (new ≡ old))
    ⊎ ((e ≡ refusals.Full) × IsServerStage stage × FindsNoBlock 1 old new)

-- how many claims there are among the events
abbrev pub one_claim : Event → ℕ
one_claim (Claim c u i n) = 1
one_claim other = 0

abbrev pub claims_in : List Event → ℕ
claims_in [] = 0
claims_in (e ∷ h) = one_claim e + claims_in h

-- an element with this status waits
abbrev pub IsWaiting : Status → Type 0
IsWaiting s = (n : ℕ) × (s ≡ Waiting n)

-- each element of the stage that was born at the opening has a point at which it wasn't waiting
abbrev pub FoundNone : Limits → ℕ → PassShown → PassShown → Type 0
FoundNone l stage old new = (x : Element) → element_of (opening old new) x.id ≡ Some x → x.stage ≡ stage
    → AtPoint old new (λ h. ¬ IsWaiting (status_of l.attempts h x.id))

-- the same of each with a lesser id than this one
abbrev pub FoundNoneBelow : Limits → ℕ → ℕ → PassShown → PassShown → Type 0
FoundNoneBelow l stage id old new = (x : Element) → element_of (opening old new) x.id ≡ Some x
    → x.stage ≡ stage
    → x.id < id → AtPoint old new (λ h. ¬ IsWaiting (status_of l.attempts h x.id))

-- where the ids are a circle, which goes on from `from`, i comes before this id
abbrev pub IsBefore : ℕ → ℕ → ℕ → Type 0
IsBefore from id i = ((from ≤ i) × (i < id)) ⊎ ((id < from) × ((from ≤ i) ⊎ (i < id)))

-- the same of each whose id comes before this one
abbrev pub FoundNoneBefore : Limits → ℕ → ℕ → ℕ → PassShown → PassShown → Type 0
FoundNoneBefore l stage from id old new = (x : Element) → element_of (opening old new) x.id ≡ Some x
    → x.stage ≡ stage
    → IsBefore from id x.id → AtPoint old new (λ h. ¬ IsWaiting (status_of l.attempts h x.id))

-- the pass has a new unit open, which took the element
pub record Opens (l : Limits) (stage : ℕ) (work : Work) (old new : PassShown) : Type 0 where
  pub room : claims_in old.mine < l.units
  pub unit_is : work.unit ≡ old.number * l.units + claims_in old.mine
  -- no claim of the pass before was of that unit
  pub fresh : claim_of old.mine work.unit ≡ None
  pub adds : Adds (Claim old.number work.unit work.element.id work.attempt) old new
  pub is_born : element_of new.seen work.element.id ≡ Some work.element
  pub of_stage : work.element.stage ≡ stage
  pub open_unit : new.open_unit ≡ Some work.unit
  pub run : KeepsRun old new

-- and it is the first of the stage that was found to wait
pub record Takes (l : Limits) (stage : ℕ) (work : Work) (old new : PassShown) : Type 0 where
  pub opens : Opens l stage work old new
  pub first : FoundNoneBelow l stage work.element.id old new

-- or the first after the one of the stage that the pass took last in its turn, and is now that one
pub record TakesNext (l : Limits) (stage : ℕ) (work : Work) (old new : PassShown) : Type 0 where
  pub opens : Opens l stage work old new
  pub first : FoundNoneBefore l stage (turn_of old stage) work.element.id old new
  pub turn : turn_of new stage ≡ work.element.id + 1
  pub others : (other : ℕ) → ¬ (other ≡ stage) → turn_of new other ≡ turn_of old other

-- what a claim answers
abbrev pub Claims : Limits → ℕ → PassShown → PassShown → Claimed → Type 0
Claims l stage old new claimeds.NoUnit = (claims_in old.mine ≡ l.units) × (new ≡ old)
Claims l stage old new claimeds.Idle = (claims_in old.mine < l.units) × IsQuiet old new × HasLooked old new
    × FoundNone l stage old new
Claims l stage old new (claimeds.Work work) = Takes l stage work old new

-- and a claim in turn
abbrev pub ClaimsNext : Limits → ℕ → PassShown → PassShown → Claimed → Type 0
ClaimsNext l stage old new claimeds.NoUnit = (claims_in old.mine ≡ l.units) × (new ≡ old)
ClaimsNext l stage old new claimeds.Idle = Claims l stage old new claimeds.Idle × (new.from ≡ old.from)
ClaimsNext l stage old new (claimeds.Work work) = TakesNext l stage work old new

-- another pass than c aborted unit u
abbrev pub EndedByOther : ℕ → ℕ → List Event → Type 0
EndedByOther c u h = (d : ℕ) × In (Abort d u) h × ¬ (d ≡ c)

-- unit u was committed or aborted
abbrev pub HasEnded : List Event → ℕ → Type 0
HasEnded h u = (how : UnitEnd) × (end_of h u ≡ Some how)

-- the pass had unit u open, has none open now, and has seen how u ended
pub record Closes (u : ℕ) (old new : PassShown) : Type 0 where
  pub was_open : old.open_unit ≡ Some u
  pub open_unit : new.open_unit ≡ None
  pub ended : HasEnded new.seen u

-- the pass made no event, since another had aborted its unit
abbrev pub Loses : ℕ → PassShown → PassShown → Type 0
Loses u old new = (new.mine ≡ old.mine) × EndedByOther old.number u new.seen

-- what an abort answers
abbrev pub AnswersAbort : PassShown → PassShown → Ended → Type 0
AnswersAbort old new endeds.Aborted = (u : ℕ) × Closes u old new × KeepsRun old new
    × Adds (Abort old.number u) old new
AnswersAbort old new endeds.AlreadyAborted = (u : ℕ) × Closes u old new × KeepsRun old new × Loses u old new

-- the element that unit u of pass c took has this root
abbrev pub IsRoot : List Event → ℕ → ℕ → ℕ → Type 0
IsRoot h c u root = (i : ℕ) × (n : ℕ) × (x : Element) × IsClaim h c u i n
    × (element_of h i ≡ Some x) × (x.root ≡ root)

-- the element that the unit took is consumed by it
abbrev pub HasConsumed : Limits → ℕ → ℕ → List Event → Type 0
HasConsumed l c u h = (i : ℕ) × (n : ℕ) × IsClaim h c u i n × (status_of l.attempts h i ≡ statuses.Consumed u)

-- the unit is committed with the drafts, which are born in the rows that the pass has used for them
pub record Commits (first count : ℕ) (drafts : List DraftView) (old new : PassShown) : Type 0 where
  pub unit : ℕ
  pub root : ℕ
  pub row : ℕ
  pub root_is : IsRoot old.seen old.number unit root
  pub closes : Closes unit old new
  pub run : UsesRows (length drafts) row old new
  pub adds : Adds (Commit old.number unit (outputs unit root row drafts)) old new
  pub consumed : HasConsumed old.limits old.number unit new.seen
  pub first_is : first ≡ first_id (outputs unit root row drafts)
  pub count_is : count ≡ length drafts

-- what a commit answers
abbrev pub Settles : List DraftView → PassShown → PassShown → Outcome → Type 0
Settles drafts old new outcomes.Full = (old.left < length drafts) × (new.seen_blocks ≡ old.limits.spare)
    × ((u : ℕ) × Closes u old new × KeepsRun old new × (Adds (Abort old.number u) old new ⊎ Loses u old new))
Settles drafts old new outcomes.Lost = (u : ℕ) × Closes u old new × (row : ℕ)
    × UsesRows (length drafts) row old new
    × Loses u old new
Settles drafts old new (outcomes.Committed first count) = Commits first count drafts old new

-- and one that tells of Full what the unit had come to
abbrev pub SettlesApart : List DraftView → PassShown → PassShown → Result Outcome Ended → Type 0
SettlesApart drafts old new (Ok outcomes.Full) = ⊥
SettlesApart drafts old new (Ok outcome) = Settles drafts old new outcome
SettlesApart drafts old new (Err ended) = (old.left < length drafts) × (new.seen_blocks ≡ old.limits.spare)
    × AnswersAbort old new ended

-- the event is an Abort by pass c, between two histories, of a unit that held element i where the Abort
-- stands
pub record IsOfHolder (l : Limits) (c i : ℕ) (from to : List Event) (e : Event) : Type 0 where
  pub unit : ℕ
  pub attempt : ℕ
  pub before : List Event
  pub is_abort : e ≡ Abort c unit
  pub begins : IsPrefix from before
  pub held : status_of l.attempts before i ≡ Held unit attempt
  pub within : IsPrefix (before ++ e ∷ []) to

-- each of these events is one
abbrev pub AreOfHolders : Limits → ℕ → ℕ → List Event → List Event → List Event → Type 0
AreOfHolders l c i from to aborts = (e : Event) → In e aborts → IsOfHolder l c i from to e

-- the pass has aborted this many units that held the element, at most one for each of its attempts in all
-- rounds, and then killed it
pub record Kills (l : Limits) (id count : ℕ) (old new : PassShown) : Type 0 where
  pub aborts : List Event
  pub counted : length aborts ≡ count
  pub few : count ≤ tries l.attempts
  pub held : AreOfHolders l old.number id old.seen new.seen aborts
  pub mine : new.mine ≡ (old.mine ++ aborts) ++ Kill old.number id ∷ []
  pub before : List Event
  pub begins : IsPrefix old.seen before
  pub seen : new.seen ≡ before ++ Kill old.number id ∷ []
  pub open_unit : new.open_unit ≡ old.open_unit
  pub run : KeepsRun old new

-- the pass has aborted units that held the element, at most one for each of its attempts in all rounds, and
-- has done nothing else
pub record OnlyAborts (l : Limits) (id : ℕ) (old new : PassShown) : Type 0 where
  pub aborts : List Event
  pub few : length aborts ≤ tries l.attempts
  pub held : AreOfHolders l old.number id old.seen new.seen aborts
  pub mine : new.mine ≡ old.mine ++ aborts
  pub open_unit : new.open_unit ≡ old.open_unit
  pub run : KeepsRun old new

-- an element with this id is born, and has this status
abbrev pub HasStatus : Limits → ℕ → Status → List Event → Type 0
HasStatus l id s h = (x : Element) × (element_of h id ≡ Some x) × (status_of l.attempts h id ≡ s)

-- why a kill was refused
abbrev pub KillFails : Limits → ℕ → PassShown → PassShown → Refusal → Type 0
KillFails l id old new refusals.NotThere = IsQuiet old new × AtPoint old new (λ h. IsUnborn h id)
KillFails l id old new (refusals.Consumed u) = OnlyAborts l id old new
    × AtPoint old new (HasStatus l id (statuses.Consumed u))
KillFails l id old new refusals.AlreadyKilled = OnlyAborts l id old new
    × AtPoint old new (HasStatus l id statuses.Killed)
KillFails l id old new other = ⊥
