-- What the script's own client is answered, and what its pass did for it. `old` is what the pass shows before
-- the command, and `new` what it shows after it.
use Rattle.std.specs.Prelude.{◌≡◌, ◌⊎◌, ℕ, zero, suc, ◌+◌, ◌≤◌, ◌<◌, List, [], ◌∷◌}
use Rattle.tp_model.specs.declared.types.Counts.{Counts}
use Rattle.tp_model.specs.declared.types.Element.{Element}
use Rattle.tp_model.specs.declared.types.Limits.{Limits}
use Rattle.tp_model.specs.declared.types.Look.{Look}
use Rattle.tp_model.specs.declared.types.Refusal.TheVariants as refusals
use Rattle.tp_model.specs.Accounts.{one_more}
use Rattle.tp_model.specs.History.{IsUnborn}
use Rattle.tp_model.specs.Steps.{rows_of}
use Rattle.tp_manager.specs.Bounds.{kill_steps, cancel_steps, collect_next_steps, family_steps}
use Rattle.tp_manager.specs.Bounds.{next_error_steps, read_steps, release_steps, reply_steps, requeue_steps}
use Rattle.tp_manager.specs.Bounds.{submit_steps}
use Rattle.tp_manager.specs.Calls.{AtPoint, Follows, HasLooked, IsQuiet, KillFails, Kills, Reads}
use Rattle.tp_manager.specs.Calls.{SubmitRefused, Submits}
use Rattle.tp_manager.specs.Cancels.{CancelFails, Cancels}
use Rattle.tp_manager.specs.Lists.{AllKilled, CollectsNext, NextError, NextOfFamily, NextReply, NoneCollected}
use Rattle.tp_manager.specs.Lists.{NoneOfFamily, NoneParked}
use Rattle.tp_manager.specs.Releases.{ReleaseFails, Releases}
use Rattle.tp_manager.specs.Requeues.{RequeueFails, Requeues}
use Rattle.tp_manager.specs.Shown.{PassShown}
use Rattle.tp_report.specs.declared.answer.Answer.{Answer}
use Rattle.tp_report.specs.declared.answer.Answer.TheVariants as answer
use Rattle.tp_report.specs.Answer.{answer_text, collected_text, counts_text, errors_text, family_text, line}
use Rattle.tp_report.specs.Answer.{replies_text}
use Rattle.tp_script.specs.declared.script.ClientAct.{ClientAct}
use Rattle.tp_script.specs.declared.script.ClientAct.TheVariants as acts

-- ---- one call

-- a call of at most n steps was made, which is no claim in turn: those begin where they did
pub record Called (l : Limits) (n : ℕ) (old new : PassShown) : Type 0 where
  pub follows : Follows n old new
  pub limits : new.limits ≡ l
  pub turn : new.from ≡ old.from

-- where there is a row for the id, the call has looked at the table, and answers from no earlier look
abbrev pub LooksAt : Limits → ℕ → PassShown → PassShown → Type 0
LooksAt l id old new = id < rows_of l → HasLooked old new

-- a submit
abbrev pub Submitted : ℕ → List ℕ → PassShown → PassShown → Answer → Type 0
Submitted stage body old new (answer.Submitted id) = Submits id stage body old new
Submitted stage body old new (answer.Refused why) = SubmitRefused stage old new why
Submitted stage body old new other = ⊥

abbrev pub TellsSubmit : Limits → ℕ → List ℕ → PassShown → PassShown → Answer → Type 0
TellsSubmit l stage body old new a = Called l (submit_steps l) old new × Submitted stage body old new a

-- a kill
abbrev pub ToldKilled : Limits → ℕ → PassShown → PassShown → Answer → Type 0
ToldKilled l id old new (answer.Killed i aborted) = (i ≡ id) × Kills l id aborted old new
ToldKilled l id old new (answer.Refused why) = KillFails l id old new why
ToldKilled l id old new other = ⊥

abbrev pub TellsKill : Limits → ℕ → PassShown → PassShown → Answer → Type 0
TellsKill l id old new a = Called l (kill_steps l) old new × LooksAt l id old new × ToldKilled l id old new a

-- a cancel
abbrev pub ToldCancelled : Limits → ℕ → PassShown → PassShown → Answer → Type 0
ToldCancelled l root old new (answer.Cancelled r killed) = (r ≡ root) × Cancels l root killed old new
ToldCancelled l root old new (answer.Refused why) = CancelFails root old new why
ToldCancelled l root old new other = ⊥

abbrev pub TellsCancel : Limits → ℕ → PassShown → PassShown → Answer → Type 0
TellsCancel l root old new a = Called l (cancel_steps l) old new × LooksAt l root old new
    × ToldCancelled l root old new a

-- a requeue
abbrev pub Requeued : Limits → ℕ → PassShown → PassShown → Answer → Type 0
Requeued l id old new (answer.Requeued i round) = (i ≡ id) × Requeues id round old new
Requeued l id old new (answer.Refused why) = RequeueFails l id old new why
Requeued l id old new other = ⊥

abbrev pub TellsRequeue : Limits → ℕ → PassShown → PassShown → Answer → Type 0
TellsRequeue l id old new a = Called l requeue_steps old new × LooksAt l id old new × Requeued l id old new a

-- a release
abbrev pub ToldReleased : Limits → ℕ → PassShown → PassShown → Answer → Type 0
ToldReleased l id old new (answer.Released i unit attempt) = (i ≡ id) × Releases l id unit attempt old new
ToldReleased l id old new (answer.Refused why) = ReleaseFails l id old new why
ToldReleased l id old new other = ⊥

abbrev pub TellsRelease : Limits → ℕ → PassShown → PassShown → Answer → Type 0
TellsRelease l id old new a =
    Called l release_steps old new × LooksAt l id old new × ToldReleased l id old new a

-- a read
abbrev pub HasRead : Limits → ℕ → PassShown → PassShown → Answer → Type 0
HasRead l id old new (answer.Read look) = Reads l id old new look
HasRead l id old new (answer.Refused why) = (why ≡ refusals.NotThere) × AtPoint old new (λ h. IsUnborn h id)
HasRead l id old new other = ⊥

abbrev pub TellsRead : Limits → ℕ → PassShown → PassShown → Answer → Type 0
TellsRead l id old new a = Called l (read_steps l) old new × IsQuiet old new × LooksAt l id old new
    × HasRead l id old new a

-- ---- several calls, one after another

-- a listing from this id on found this reply to the request, which waited, and then its element was read
pub record FindsReply (l : Limits) (root from : ℕ) (e : Element) (old new : PassShown) : Type 0 where
  pub between : PassShown
  pub called : Called l (reply_steps l) old between
  pub quiet : IsQuiet old between
  pub looks : LooksAt l from old between
  pub next : NextReply l root from e.id old between
  pub look : Look
  pub read : TellsRead l e.id between new (answer.Read look)
  pub shows : look.element ≡ e

-- a listing from this id on found no reply that waited
abbrev pub FindsNoReply : Limits → ℕ → ℕ → PassShown → PassShown → Type 0
FindsNoReply l root from old new = Called l (reply_steps l) old new × IsQuiet old new × LooksAt l from old new
    × AllKilled l root (λ i. from ≤ i) old new

-- the replies to the request from this id on, one found after the other, until none was or no id is left
abbrev pub TellsReplies : Limits → ℕ → ℕ → PassShown → List Element → PassShown → Type 0
TellsReplies l root from old [] new = FindsNoReply l root from old new ⊎ ((rows_of l ≤ from) × (new ≡ old))
TellsReplies l root from old (e ∷ rest) new = (between : PassShown) × FindsReply l root from e old between
    × TellsReplies l root (e.id + 1) between rest new

-- the replies to the request, one taken after the other, until none waits
abbrev pub TellsCollected : Limits → ℕ → PassShown → List Element → PassShown → Type 0
TellsCollected l root old [] new = Called l (collect_next_steps l) old new × LooksAt l root old new
    × NoneCollected l root old new
TellsCollected l root old (e ∷ rest) new = (between : PassShown) × Called l (collect_next_steps l) old between
    × LooksAt l root old between × CollectsNext l root e old between × TellsCollected l root between rest new

-- a listing from this id on found this element of the request, which stood so
abbrev pub FindsMember : Limits → ℕ → ℕ → Look → PassShown → PassShown → Type 0
FindsMember l root from look old new = Called l (family_steps l) old new × IsQuiet old new
    × LooksAt l from old new
    × NextOfFamily l root from look old new

-- a listing from this id on found no element of the request
abbrev pub FindsNoMember : Limits → ℕ → ℕ → PassShown → PassShown → Type 0
FindsNoMember l root from old new = Called l (family_steps l) old new × IsQuiet old new
    × LooksAt l from old new
    × NoneOfFamily root from old new

-- the elements of the request from this id on, one found after the other, until none was or no id is left
abbrev pub TellsFamily : Limits → ℕ → ℕ → PassShown → List Look → PassShown → Type 0
TellsFamily l root from old [] new = FindsNoMember l root from old new ⊎ ((rows_of l ≤ from) × (new ≡ old))
TellsFamily l root from old (look ∷ rest) new = (between : PassShown)
    × FindsMember l root from look old between
    × TellsFamily l root (look.element.id + 1) between rest new

-- the next parked element from this id on was found
pub record FindsError (l : Limits) (from id : ℕ) (old new : PassShown) : Type 0 where
  pub called : Called l (next_error_steps l) old new
  pub quiet : IsQuiet old new
  pub looks : LooksAt l from old new
  pub next : NextError l from id old new

-- a listing from this id on found none, or no id is left
abbrev pub FindsNoError : Limits → ℕ → PassShown → PassShown → Type 0
FindsNoError l from old new =
    (Called l (next_error_steps l) old new × IsQuiet old new × LooksAt l from old new
    × NoneParked l (λ i. from ≤ i) old new)
    ⊎ ((rows_of l ≤ from) × (new ≡ old))

-- the parked elements from this id on, one found after the other
abbrev pub TellsErrors : Limits → ℕ → PassShown → List ℕ → PassShown → Type 0
TellsErrors l from old [] new = FindsNoError l from old new
TellsErrors l from old (id ∷ rest) new = (between : PassShown) × FindsError l from id old between
    × TellsErrors l (id + 1) between rest new

-- these counts, and what a read answered
abbrev pub with_read : Answer → Counts → Counts
with_read (answer.Read look) c = one_more look.status c
with_read other c = c

-- the ids below this one were read, one after another, and counted so
abbrev pub TellsCount : Limits → ℕ → PassShown → Counts → PassShown → Type 0
TellsCount l zero old c new =
    (c ≡ record { waiting = 0; held = 0; consumed = 0; parked = 0; killed = 0 }) × (new ≡ old)
TellsCount l (suc id) old c new = (before : Counts) × (between : PassShown) × (a : Answer)
    × TellsCount l id old before between × TellsRead l id between new a × (c ≡ with_read a before)

-- ---- the client's line

-- the line is the answer of such a call
pub record AnswerLine (Tells : PassShown → PassShown → Answer → Type 0)
    (old : PassShown) (text : List ℕ) (new : PassShown) : Type 0 where
  pub answer : Answer
  pub tells : Tells old new answer
  pub text_is : text ≡ line (answer_text answer)

-- the line has what such calls found
pub record FoundLine {A : Type 0} (Tells : PassShown → A → PassShown → Type 0) (told : A → List ℕ)
    (old : PassShown) (text : List ℕ) (new : PassShown) : Type 0 where
  pub found : A
  pub tells : Tells old found new
  pub text_is : text ≡ line (told found)

-- the line of what the client is to do
abbrev pub TellsClient : Limits → ClientAct → PassShown → List ℕ → PassShown → Type 0
TellsClient l (acts.Submit stage body) = AnswerLine (TellsSubmit l stage body)
TellsClient l (acts.Kill id) = AnswerLine (TellsKill l id)
TellsClient l (acts.Cancel root) = AnswerLine (TellsCancel l root)
TellsClient l (acts.Requeue id) = AnswerLine (TellsRequeue l id)
TellsClient l (acts.Release id) = AnswerLine (TellsRelease l id)
TellsClient l (acts.Collect root) = FoundLine (TellsCollected l root) (collected_text root)
TellsClient l (acts.Family root) = FoundLine (TellsFamily l root 0) (family_text root)
TellsClient l (acts.Read id) = AnswerLine (TellsRead l id)
TellsClient l (acts.Reply root) = FoundLine (TellsReplies l root 0) (replies_text root)
TellsClient l acts.Errors = FoundLine (TellsErrors l 0) errors_text
TellsClient l acts.Count = FoundLine (TellsCount l (rows_of l)) counts_text
