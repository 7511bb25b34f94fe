-- Runs of a manager of one thread: which answers its calls may give, and what state they leave.
use Rattle.std.specs.Prelude.{◌≡◌, ◌≢◌, ◌⊎◌, ◌↔◌, ℕ, zero, suc, ◌+◌, ◌-◌, ◌*◌, ◌<◌, ◌≤◌, ◌==◌, nat_lt, ◌&&◌}
use Rattle.std.specs.Prelude.{Bool, if◌then◌else◌, Option, Some, None, Result, List, [], ◌∷◌, ◌++◌, length}
use Rattle.std.specs.Prelude.{map, replicate, slice_index, slice_index_or, slice_set, MatchResult}
use Rattle.std.specs.List.{range_with_len}
use Rattle.std.specs.Option.{option_and_then, option_map_or}
use mathlib.Core.List.{IsPrefix}
use Rattle.tp_model.specs.declared.types.Element.{Element}
use Rattle.tp_model.specs.declared.types.Limits.{Limits}
use Rattle.tp_model.specs.Drafts.{DraftView}
use Rattle.tp_model.specs.declared.types.Look.{Look}
use Rattle.tp_model.specs.declared.types.Work.{Work}
use Rattle.tp_model.specs.declared.types.Status.TheVariants.{Waiting, Held, Consumed, Killed}
use Rattle.tp_model.specs.declared.types.Killed.{Killed as KilledAnswer}
use Rattle.tp_model.specs.declared.types.Cancelled.{Cancelled}
use Rattle.tp_model.specs.declared.types.Released.{Released}
use Rattle.tp_model.specs.declared.types.Claimed.{Claimed}
use Rattle.tp_model.specs.declared.types.Claimed.TheVariants as claimed
use Rattle.tp_model.specs.declared.types.Outcome.{Outcome}
use Rattle.tp_model.specs.declared.types.Outcome.TheVariants as outcome
use Rattle.tp_model.specs.declared.types.Ended.{Ended}
use Rattle.tp_model.specs.declared.types.Ended.TheVariants as ended
use Rattle.tp_model.specs.declared.types.Refusal.{Refusal}
use Rattle.tp_model.specs.declared.types.Refusal.TheVariants as refusal
use Rattle.tp_plain.specs.declared.pass_state.PassState.{PassState}
use Rattle.tp_model.specs.declared.event.Event.{Event}
use Rattle.tp_model.specs.declared.event.Event.TheVariants.{Enqueue, Claim, Commit, Abort, Kill, Requeue}
use Rattle.tp_model.specs.History.{In, element_of, status_of, rounds, IsSettled, UnitClaim, claim_of, Aborted}
use Rattle.tp_model.specs.History.{end_of}
use Rattle.tp_model.specs.Families.{IsRequest, IsSettledFamily}
use Rattle.tp_model.specs.Orders.{AreSomeOf, IsWalk}
use Rattle.tp_model.specs.Births.{request, outputs}
use Rattle.tp_model.specs.Steps.{IsParked, IsServerStage, Step, IsLegal, block_first}
use Rattle.tp_model.specs.declared.types.TheConstants.{BLOCK_ROWS, MAX_ROUNDS, REPLY_STAGE}

-- what a manager of one thread is between two calls: its limits, its history, what each of its passes has
-- used, and how many spare blocks are drawn
pub record State : Type 0 where
  pub limits : Limits
  pub history : List Event
  pub passes : List PassState
  pub drawn : ℕ

-- no pass
abbrev pub no_pass : PassState
no_pass = record { next = 0; left = 0; claimed = 0; holding = None; turns = replicate 16 0 }

-- pass c, which has done nothing: this many rows are left to it, all those of its part
abbrev pub fresh_pass : ℕ → ℕ → PassState
fresh_pass rows c = record {
  next = c * rows;
  left = rows;
  claimed = 0;
  holding = None;
  turns = replicate 16 0;
}

-- a manager to which nothing happened
abbrev pub start : Limits → State
start l = record {
  limits = l;
  history = [];
  passes = map (fresh_pass l.rows) (range_with_len 0 l.parts);
  drawn = 0;
}

-- what pass c has used
abbrev pub pass_at : State → ℕ → PassState
pass_at s c = slice_index_or s.passes c no_pass

-- the unit that pass c uses next
abbrev pub next_unit : State → ℕ → ℕ
next_unit s c = c * s.limits.units + (pass_at s c).claimed

-- the row at which the next claim in turn of a stage by pass c begins
abbrev pub turn_of_pass : State → ℕ → ℕ → ℕ
turn_of_pass s c stage = slice_index (pass_at s c).turns stage

-- what a pass holds after a claim with this answer
abbrev pub held_after : Claimed → Option ℕ
held_after (claimed.Work w) = Some w.unit
held_after claimed.Idle = None
held_after claimed.NoUnit = None

-- one call, with its answer
pub data Call : Type 0 where
  CallSubmit : ℕ → ℕ → List ℕ → Result ℕ Refusal → Call
  CallClaim : ℕ → ℕ → Result Claimed Refusal → Call
  CallClaimNext : ℕ → ℕ → Result Claimed Refusal → Call
  CallClaimId : ℕ → ℕ → Result Work Refusal → Call
  CallCommit : ℕ → List DraftView → Result Outcome Refusal → Call
  CallAbort : ℕ → Ended → Call
  CallKill : ℕ → ℕ → Result KilledAnswer Refusal → Call
  CallCancel : ℕ → ℕ → Result Cancelled Refusal → Call
  CallRelease : ℕ → ℕ → Result Released Refusal → Call
  CallCollect : ℕ → ℕ → Result Element Refusal → Call
  CallRequeue : ℕ → ℕ → Result ℕ Refusal → Call
  CallRead : ℕ → Result Look Refusal → Call

-- the state after an event of pass c, which has then used this
abbrev pub moved : State → Event → ℕ → PassState → State
moved s e c used = record {
  limits = s.limits;
  history = s.history ++ e ∷ [];
  passes = slice_set s.passes c used;
  drawn = s.drawn;
}

-- the state after a call of pass c without an event, which has then used this
abbrev pub with_pass : State → ℕ → PassState → State
with_pass s c used = record {
  limits = s.limits;
  history = s.history;
  passes = slice_set s.passes c used;
  drawn = s.drawn;
}

-- whether pass c draws the next spare block for k rows: its run has fewer, and a block is left
abbrev pub draws_block : State → ℕ → ℕ → Bool
draws_block s c k = nat_lt (pass_at s c).left k && nat_lt s.drawn s.limits.spare

-- pass c when it goes on to use k rows: a block that it draws for them is its run, and the rest of the old
-- run stays unused
abbrev pub ready : State → ℕ → ℕ → PassState
ready s c k =
    record {
      next = if draws_block s c k then block_first s.limits s.drawn else (pass_at s c).next;
      left = if draws_block s c k then BLOCK_ROWS else (pass_at s c).left;
      claimed = (pass_at s c).claimed;
      holding = (pass_at s c).holding;
      turns = (pass_at s c).turns;
    }

-- the id of the first of k rows that pass c uses next
abbrev pub first_row : State → ℕ → ℕ → ℕ
first_row s c k = (ready s c k).next

-- the state with that block drawn
abbrev pub with_draw : State → ℕ → ℕ → State
with_draw s c k = record {
  limits = s.limits;
  history = s.history;
  passes = s.passes;
  drawn = if draws_block s c k
      then s.drawn + 1 else s.drawn;
}

-- pass c has k rows to use
abbrev pub HasPlainRoom : State → ℕ → ℕ → Type 0
HasPlainRoom s c k = k ≤ (ready s c k).left

-- its run has fewer than k rows, and all spare blocks are drawn
abbrev pub IsFull : State → ℕ → ℕ → Type 0
IsFull s c k = ((pass_at s c).left < k) × (s.drawn ≡ s.limits.spare)

-- a pass with k rows more used
abbrev pub used_up : PassState → ℕ → PassState
used_up used k = record used { next = used.next + k; left = used.left - k }

-- a submit went through: the pass's next row is a new request
pub record PlainSubmits (s : State) (c stage : ℕ) (body : List ℕ) (id : ℕ) (t : State) : Type 0 where
  pub room : HasPlainRoom s c 1
  pub next : id ≡ first_row s c 1
  pub step : Step s.limits s.history (Enqueue c (request id stage body))
  pub after : t ≡ moved (with_draw s c 1) (Enqueue c (request id stage body)) c (used_up (ready s c 1) 1)

-- a submit is refused for its stage, then for the lack of a row, then as out of memory
abbrev pub RefusesSubmit : State → ℕ → ℕ → Refusal → Type 0
RefusesSubmit s c stage refusal.NoMemory = IsServerStage stage × HasPlainRoom s c 1
RefusesSubmit s c stage refusal.BadStage = ¬ IsServerStage stage
RefusesSubmit s c stage refusal.Full = IsServerStage stage × IsFull s c 1
RefusesSubmit s c stage other = ⊥

-- element e of this stage waits, with this many attempts so far
pub record Waits (s : State) (stage : ℕ) (e : Element) (attempts : ℕ) : Type 0 where
  pub born : element_of s.history e.id ≡ Some e
  pub stage_is : e.stage ≡ stage
  pub waits : status_of s.limits.attempts s.history e.id ≡ Waiting attempts

-- pass c after it took the work, with these places for its claims in turn
abbrev pub having_taken : State → ℕ → Work → List ℕ → PassState
having_taken s c w turns = record (pass_at s c) {
  claimed = (pass_at s c).claimed + 1;
  holding = Some w.unit;
  turns = turns;
}

-- a claim took work: of the waiting elements of the stage the one with the least id, by the pass's next unit
pub record PlainTakes (s : State) (c stage : ℕ) (w : Work) (t : State) : Type 0 where
  pub room : (pass_at s c).claimed < s.limits.units
  pub next : w.unit ≡ next_unit s c
  pub waiting : Waits s stage w.element (w.attempt - 1)
  pub least : (e : Element) (n : ℕ) → Waits s stage e n → w.element.id ≤ e.id
  pub step : Step s.limits s.history (Claim c w.unit w.element.id w.attempt)
  pub after : t ≡ moved s (Claim c w.unit w.element.id w.attempt) c (having_taken s c w (pass_at s c).turns)

-- where the ids are a circle, which begins at `from`, i comes before this id
abbrev pub IsPlainBefore : ℕ → ℕ → ℕ → Type 0
IsPlainBefore from id i = ((from ≤ i) × (i < id)) ⊎ ((id < from) × ((from ≤ i) ⊎ (i < id)))

-- a claim in turn took work: of the waiting elements of the stage the first after the one that the pass took
-- last by such a claim, where after the last id comes the first; and the next one begins after it
pub record PlainTakesNext (s : State) (c stage : ℕ) (w : Work) (t : State) : Type 0 where
  pub room : (pass_at s c).claimed < s.limits.units
  pub next : w.unit ≡ next_unit s c
  pub waiting : Waits s stage w.element (w.attempt - 1)
  pub first : (e : Element) (n : ℕ) → Waits s stage e n
      → ¬ IsPlainBefore (turn_of_pass s c stage) w.element.id e.id
  pub step : Step s.limits s.history (Claim c w.unit w.element.id w.attempt)
  pub after : t ≡ moved s (Claim c w.unit w.element.id w.attempt) c
      (having_taken s c w (slice_set (pass_at s c).turns stage (w.element.id + 1)))

-- a claim takes work, or is idle where nothing waits, or finds the pass's units used up
abbrev pub PlainClaims : State → ℕ → ℕ → Claimed → State → Type 0
PlainClaims s c stage (claimed.Work w) t = PlainTakes s c stage w t
PlainClaims s c stage claimed.Idle t =
    (t ≡ s) × ((pass_at s c).claimed < s.limits.units) × ((e : Element) (n : ℕ)
    → ¬ Waits s stage e n)
PlainClaims s c stage claimed.NoUnit t = (t ≡ s) × (s.limits.units ≤ (pass_at s c).claimed)

-- a claim in turn does so too
abbrev pub PlainClaimsNext : State → ℕ → ℕ → Claimed → State → Type 0
PlainClaimsNext s c stage (claimed.Work w) t = PlainTakesNext s c stage w t
PlainClaimsNext s c stage claimed.Idle t = PlainClaims s c stage claimed.Idle t
PlainClaimsNext s c stage claimed.NoUnit t = PlainClaims s c stage claimed.NoUnit t

-- a claim of a given element took it, by the pass's next unit
pub record PlainTakesId (s : State) (c i : ℕ) (w : Work) (t : State) : Type 0 where
  pub room : (pass_at s c).claimed < s.limits.units
  pub next : w.unit ≡ next_unit s c
  pub id_is : w.element.id ≡ i
  pub server : IsServerStage w.element.stage
  pub waiting : Waits s w.element.stage w.element (w.attempt - 1)
  pub step : Step s.limits s.history (Claim c w.unit w.element.id w.attempt)
  pub after : t ≡ moved s (Claim c w.unit w.element.id w.attempt) c (having_taken s c w (pass_at s c).turns)

-- it is refused where the pass's units are used up, then where no such element is born, where it is a reply,
-- and where it doesn't wait
abbrev pub RefusesClaimId : State → ℕ → ℕ → Refusal → Type 0
RefusesClaimId s c i refusal.NoUnit = s.limits.units ≤ (pass_at s c).claimed
RefusesClaimId s c i refusal.NotThere = ((pass_at s c).claimed < s.limits.units)
    × (element_of s.history i ≡ None)
RefusesClaimId s c i refusal.BadStage = ((pass_at s c).claimed < s.limits.units)
    × (e : Element) × (element_of s.history i ≡ Some e) × (e.stage ≡ REPLY_STAGE)
RefusesClaimId s c i refusal.NotWaiting = ((pass_at s c).claimed < s.limits.units)
    × (e : Element) × (element_of s.history i ≡ Some e) × (e.stage ≢ REPLY_STAGE)
    × ((n : ℕ) → status_of s.limits.attempts s.history i ≢ Waiting n)
RefusesClaimId s c i other = ⊥

-- the pass without a unit in hand
abbrev pub freed : PassState → PassState
freed used = record used { holding = None }

-- and with k rows more used
abbrev pub freed_after_use : PassState → ℕ → PassState
freed_after_use used k = freed (used_up used k)

-- the root of the element that unit u claimed
abbrev pub root_of : List Event → ℕ → ℕ
root_of h u = option_map_or (λ (e : Element). e.root)
    (option_and_then (λ (t : UnitClaim). element_of h t.item) (claim_of h u)) 0

-- the outputs that a commit of unit u by pass c makes of these drafts
abbrev pub made_of : State → ℕ → ℕ → List DraftView → List Element
made_of s c u drafts = outputs u (root_of s.history u) (first_row s c (length drafts)) drafts

-- a commit went through: the drafts are born in the pass's next rows, with the root of the element that the
-- unit claimed
pub record PlainCommits (s : State) (c u : ℕ) (drafts : List DraftView) (first count : ℕ)
    (t : State) : Type 0 where
  pub room : HasPlainRoom s c (length drafts)
  pub count_is : count ≡ length drafts
  pub first_is : first ≡ (if length drafts == 0 then 0 else first_row s c (length drafts))
  pub step : Step s.limits s.history (Commit c u (made_of s c u drafts))
  pub after : t ≡ moved (with_draw s c (length drafts))
      (Commit c u (made_of s c u drafts)) c (freed_after_use (ready s c (length drafts)) (length drafts))

-- the unit in hand ends by an Abort, unless another pass has aborted it
abbrev pub EndsByAbort : State → ℕ → ℕ → State → Type 0
EndsByAbort s c u t =
    (Step s.limits s.history (Abort c u) × (t ≡ moved s (Abort c u) c (freed (pass_at s c))))
    ⊎ ((end_of s.history u ≡ Some Aborted) × (t ≡ with_pass s c (freed (pass_at s c))))

-- a commit is full where too few rows are left and no block, then lost where another pass has aborted the
-- unit, and else goes through
abbrev pub AnswersCommit : State → ℕ → ℕ → List DraftView → Outcome → State → Type 0
AnswersCommit s c u drafts (outcome.Committed first count) t = PlainCommits s c u drafts first count t
AnswersCommit s c u drafts outcome.Lost t =
    HasPlainRoom s c (length drafts) × (end_of s.history u ≡ Some Aborted)
    × (t ≡ with_pass (with_draw s c (length drafts)) c (freed_after_use (ready s c (length drafts))
    (length drafts)))
AnswersCommit s c u drafts outcome.Full t = IsFull s c (length drafts) × EndsByAbort s c u t

-- a commit that is neither full nor lost is refused only as out of memory
abbrev pub RefusesCommit : State → ℕ → ℕ → List DraftView → Refusal → Type 0
RefusesCommit s c u drafts refusal.NoMemory = HasPlainRoom s c (length drafts)
    × (end_of s.history u ≢ Some Aborted)
RefusesCommit s c u drafts other = ⊥

-- an abort goes through, unless another pass has aborted the unit
abbrev pub GivesUp : State → ℕ → ℕ → Ended → State → Type 0
GivesUp s c u ended.Aborted t = Step s.limits s.history (Abort c u)
    × (t ≡ moved s (Abort c u) c (freed (pass_at s c)))
GivesUp s c u ended.AlreadyAborted t = (end_of s.history u ≡ Some Aborted)
    × (t ≡ with_pass s c (freed (pass_at s c)))

-- a look shows the born element with this id, and its status
pub record Shows (s : State) (id : ℕ) (look : Look) : Type 0 where
  pub element : element_of s.history id ≡ Some look.element
  pub status : look.status ≡ status_of s.limits.attempts s.history id

-- a read is refused where no such element is born
abbrev pub RefusesRead : State → ℕ → Refusal → Type 0
RefusesRead s id refusal.NotThere = element_of s.history id ≡ None
RefusesRead s id other = ⊥

-- the state with an event more, and the passes as they were
abbrev pub extended : State → Event → State
extended s e = record { limits = s.limits; history = s.history ++ e ∷ []; passes = s.passes; drawn = s.drawn }

-- a kill by pass c went through, after this many Aborts of its own: none where nobody held the element, and
-- else one, of the unit that held it
abbrev pub PlainKills : State → ℕ → ℕ → ℕ → State → Type 0
PlainKills s c i zero t = Step s.limits s.history (Kill c i) × (t ≡ extended s (Kill c i))
PlainKills s c i (suc zero) t =
    (u : ℕ) × (n : ℕ) × (status_of s.limits.attempts s.history i ≡ Held u n)
    × Step s.limits s.history (Abort c u)
    × Step s.limits (s.history ++ Abort c u ∷ []) (Kill c i) × (t ≡ extended (extended s (Abort c u))
    (Kill c i))
PlainKills s c i (suc (suc k)) t = ⊥

-- a kill is refused where no such element is born, or it is consumed or killed
abbrev pub RefusesKill : State → ℕ → Refusal → Type 0
RefusesKill s i refusal.NotThere = element_of s.history i ≡ None
RefusesKill s i (refusal.Consumed u) = (e : Element) × (element_of s.history i ≡ Some e)
    × (status_of s.limits.attempts s.history i ≡ Consumed u)
RefusesKill s i refusal.AlreadyKilled = (e : Element) × (element_of s.history i ≡ Some e)
    × (status_of s.limits.attempts s.history i ≡ Killed)
RefusesKill s i other = ⊥

-- element i is born, of this family, no reply, and neither consumed nor killed
pub record IsUnsettled (s : State) (root i : ℕ) : Type 0 where
  pub item : Element
  pub born : element_of s.history i ≡ Some item
  pub family : item.root ≡ root
  pub no_reply : item.stage ≢ REPLY_STAGE
  pub unsettled : ¬ IsSettled (status_of s.limits.attempts s.history i)

-- kills by pass c of these elements went through, one after another
abbrev pub KillsEach : State → ℕ → List ℕ → State → Type 0
KillsEach s c [] t = t ≡ s
KillsEach s c (i ∷ ids) t = (aborts : ℕ) × (mid : State) × PlainKills s c i aborts mid × KillsEach mid c ids t

-- a cancel by pass c went through: root is a client's element; what was unsettled of its family, and no
-- reply, is killed, in the order of a walk through the family; and so the family is settled
pub record PlainCancels (s : State) (c root killed : ℕ) (t : State) : Type 0 where
  pub request : IsRequest s.history root
  pub ids : List ℕ
  pub walk : List ℕ
  pub in_order : IsWalk s.limits.attempts s.history root [] walk
  pub some_of : AreSomeOf ids walk
  pub exactly : (i : ℕ) → In i ids ↔ IsUnsettled s root i
  pub counted : killed ≡ length ids
  pub kills : KillsEach s c ids t
  pub settled : IsSettledFamily t.limits.attempts t.history root

-- a cancel is refused where root is no client's element
abbrev pub RefusesCancel : State → ℕ → Refusal → Type 0
RefusesCancel s root refusal.NotThere = ¬ IsRequest s.history root
RefusesCancel s root other = ⊥

-- a release by pass c went through: the unit that held the element in this attempt is aborted
abbrev pub PlainReleases : State → ℕ → ℕ → ℕ → ℕ → State → Type 0
PlainReleases s c i u n t = (status_of s.limits.attempts s.history i ≡ Held u n)
    × Step s.limits s.history (Abort c u) × (t ≡ extended s (Abort c u))

-- a release is refused where no such element is born, or no unit holds it
abbrev pub RefusesRelease : State → ℕ → Refusal → Type 0
RefusesRelease s i refusal.NotThere = element_of s.history i ≡ None
RefusesRelease s i refusal.NotHeld = (e : Element) × (element_of s.history i ≡ Some e)
    × ((u n : ℕ) → status_of s.limits.attempts s.history i ≢ Held u n)
RefusesRelease s i other = ⊥

-- a collect by pass c went through: the reply is killed
abbrev pub PlainCollects : State → ℕ → ℕ → Element → State → Type 0
PlainCollects s c i e t = (element_of s.history i ≡ Some e) × (e.stage ≡ REPLY_STAGE)
    × Step s.limits s.history (Kill c i) × (t ≡ extended s (Kill c i))

-- a collect is refused where no such element is born, or it is no reply, or is and was killed
abbrev pub RefusesCollect : State → ℕ → Refusal → Type 0
RefusesCollect s i refusal.NotThere = element_of s.history i ≡ None
RefusesCollect s i refusal.BadStage = (e : Element) × (element_of s.history i ≡ Some e)
    × (e.stage ≢ REPLY_STAGE)
RefusesCollect s i refusal.AlreadyKilled = (e : Element) × (element_of s.history i ≡ Some e)
    × (e.stage ≡ REPLY_STAGE) × (status_of s.limits.attempts s.history i ≡ Killed)
RefusesCollect s i other = ⊥

-- a requeue by pass c went through: the element is given its next round
abbrev pub PlainRequeues : State → ℕ → ℕ → ℕ → State → Type 0
PlainRequeues s c i r t = Step s.limits s.history (Requeue c i r) × (t ≡ extended s (Requeue c i r))

-- a requeue is refused where no such element is born, or it isn't parked, or is and has had all its rounds
abbrev pub RefusesRequeue : State → ℕ → Refusal → Type 0
RefusesRequeue s i refusal.NotThere = element_of s.history i ≡ None
RefusesRequeue s i refusal.NotParked = (e : Element) × (element_of s.history i ≡ Some e)
    × ¬ IsParked (status_of s.limits.attempts s.history i)
RefusesRequeue s i refusal.NoRound = (e : Element) × (element_of s.history i ≡ Some e)
    × IsParked (status_of s.limits.attempts s.history i) × (rounds s.history i ≡ MAX_ROUNDS)
RefusesRequeue s i other = ⊥

-- the call, asked of a manager in state s, may have this answer and leave it in state t
abbrev pub Answers : State → Call → State → Type 0
Answers s (CallSubmit c stage body r) t = MatchResult r (λ id. PlainSubmits s c stage body id t)
    (λ why. RefusesSubmit s c stage why × (t ≡ s))
Answers s (CallClaim c stage r) t = MatchResult r (λ a. PlainClaims s c stage a t) (λ why. ⊥)
Answers s (CallClaimId c i r) t = MatchResult r (λ w. PlainTakesId s c i w t) (λ why. RefusesClaimId s c i why
    × (t ≡ s))
Answers s (CallClaimNext c stage r) t = MatchResult r (λ a. PlainClaimsNext s c stage a t) (λ why. ⊥)
Answers s (CallCommit c drafts r) t = (u : ℕ) × ((pass_at s c).holding ≡ Some u)
    × MatchResult r (λ a. AnswersCommit s c u drafts a t) (λ why. RefusesCommit s c u drafts why × (t ≡ s))
Answers s (CallAbort c a) t = (u : ℕ) × ((pass_at s c).holding ≡ Some u) × GivesUp s c u a t
Answers s (CallKill c i r) t =
    MatchResult r (λ k. PlainKills s c i k.units_aborted t) (λ why. RefusesKill s i why
    × (t ≡ s))
Answers s (CallCancel c root r) t = MatchResult r (λ k. PlainCancels s c root k.killed t)
    (λ why. RefusesCancel s root why × (t ≡ s))
Answers s (CallRelease c i r) t = MatchResult r (λ a. PlainReleases s c i a.unit a.attempt t)
    (λ why. RefusesRelease s i why × (t ≡ s))
Answers s (CallCollect c i r) t = MatchResult r (λ e. PlainCollects s c i e t) (λ why. RefusesCollect s i why
    × (t ≡ s))
Answers s (CallRequeue c i r) t = MatchResult r (λ round. PlainRequeues s c i round t)
    (λ why. RefusesRequeue s i why × (t ≡ s))
Answers s (CallRead id r) t = MatchResult r (Shows s id) (RefusesRead s id) × (t ≡ s)

-- these calls were asked one after another, from state s to state t
abbrev pub Run : State → List Call → State → Type 0
Run s [] t = t ≡ s
Run s (call ∷ calls) t = (mid : State) × Answers s call mid × Run mid calls t

-- a run of calls from the start leaves a legal history
abbrev pub RunsAreLegal : Type 0
RunsAreLegal = (l : Limits) (calls : List Call) (t : State) → Run (start l) calls t → (t.limits ≡ l)
    × IsLegal l t.history

-- a run only adds events
abbrev pub RunsGrow : Type 0
RunsGrow = (s : State) (calls : List Call) (t : State) → Run s calls t → IsPrefix s.history t.history
