-- A command that is one call.
use Rattle.std.proofs.Common.{◌≡◌, ℕ, List, Ok, Err, ◌∙◌, ap, subst}
use Rattle.tp_model.specs.declared.types.Limits.{Limits}
use Rattle.tp_model.specs.declared.event.Event.{Event}
use Rattle.tp_plain.specs.Computed.{cancel_of, kill_of, read_of, release_of, requeue_of, submit_of}
use Rattle.tp_plain.specs.OneThread.{State}
use Rattle.tp_manager.specs.Shown.{KeeperShown, PassShown}
use Rattle.tp_report.specs.declared.answer.Answer.{Answer}
use Rattle.tp_report.specs.declared.answer.Answer.TheVariants as answer
use Rattle.tp_report.specs.Answer.{answer_text, line}
use Rattle.tp_rollover.specs.AloneLaws.{CancelAnswers, KillAnswers, Law, ReadAnswers, ReleaseAnswers, RequeueAnswers, SubmitAnswers}
use Rattle.tp_rollover.specs.Thread.{thread_of}
use Rattle.tp_rollover.proofs.AloneSubmits.{alone_submit}
use Rattle.tp_rollover.proofs.AloneKills.{alone_kill}
use Rattle.tp_rollover.proofs.AloneCancels.{alone_cancel}
use Rattle.tp_rollover.proofs.AloneRequeues.{alone_requeue}
use Rattle.tp_rollover.proofs.AloneReleases.{alone_release}
use Rattle.tp_rollover.proofs.AloneLooks.{alone_read}
use Rattle.tp_commands.specs.Asked.{AnswerLine, Called, TellsCancel, TellsKill, TellsRead, TellsRelease, TellsRequeue, TellsSubmit}
use Rattle.tp_reference.specs.PlainClient.{cancelled_as, client, killed_as, read_as, released_as, requeued_as, submitted_as, told_as}
use Rattle.tp_exact.specs.Acts.{Acts}
use Rattle.tp_exact.proofs.Parts.{whole}

-- the line of a computed answer
pub told : {R : Type 0} (tell : R → Answer) (r : R) (m : State) (computed : R × State) (text : List ℕ) → text ≡ line (answer_text (tell r)) → (r, m) ≡ computed → (text, m) ≡ told_as tell computed
told tell r m computed text is same = subst (λ z. (text, m) ≡ told_as tell z) same (ap (λ t. (t, m)) is)

module _ (l : Limits) (keeper keeper' : KeeperShown) (olds news : List PassShown) (h h' : List Event) (old new : PassShown) (text : List ℕ) (a : Acts l keeper keeper' olds news h h' client old new) where
  abbrev was : State
  was = thread_of l olds h

  abbrev is : State
  is = thread_of l news h'

  one : {R : Type 0} (tell : R → Answer) (Answers : Limits → PassShown → PassShown → R → Type 0) (computed : State → ℕ → R × State) → Law Answers computed
      → (n : ℕ) (r : R) → Called l n old new → Answers l old new r → text ≡ line (answer_text (tell r)) → (text, is) ≡ told_as tell (computed was client)
  one tell Answers computed law n r f says text_is = told tell r is (computed was client) text text_is (law l keeper keeper' olds news h h' n client old new r (whole l keeper keeper' olds news h h' client n old new a f) f.turn says)

  pub submits : (stage : ℕ) (body : List ℕ) → AnswerLine (TellsSubmit l stage body) old text new → (text, is) ≡ told_as submitted_as (submit_of was client stage body)
  submits stage body t = go t.answer t.tells t.text_is
    where
      go : (x : Answer) → TellsSubmit l stage body old new x → text ≡ line (answer_text x) → (text, is) ≡ told_as submitted_as (submit_of was client stage body)
      go (answer.Submitted id) tells text_is = one submitted_as (λ l. SubmitAnswers stage body) (λ s c. submit_of s c stage body) (alone_submit stage body) _ (Ok id) tells.0 tells.1 text_is
      go (answer.Refused why) tells text_is = one submitted_as (λ l. SubmitAnswers stage body) (λ s c. submit_of s c stage body) (alone_submit stage body) _ (Err why) tells.0 tells.1 text_is
      go other tells text_is = absurd tells.1

  pub kills : (id : ℕ) → AnswerLine (TellsKill l id) old text new → (text, is) ≡ told_as (killed_as id) (kill_of was client id)
  kills id t = go t.answer t.tells t.text_is
    where
      go : (x : Answer) → TellsKill l id old new x → text ≡ line (answer_text x) → (text, is) ≡ told_as (killed_as id) (kill_of was client id)
      go (answer.Killed i aborted) tells text_is = one (killed_as id) (KillAnswers id) (λ s c. kill_of s c id) (alone_kill id) _ (Ok (record { units_aborted = aborted })) tells.0 tells.2.1 (text_is ∙ ap (λ j. line (answer_text (answer.Killed j aborted))) tells.2.0)
      go (answer.Refused why) tells text_is = one (killed_as id) (KillAnswers id) (λ s c. kill_of s c id) (alone_kill id) _ (Err why) tells.0 tells.2 text_is
      go other tells text_is = absurd tells.2

  pub cancels : (root : ℕ) → AnswerLine (TellsCancel l root) old text new → (text, is) ≡ told_as (cancelled_as root) (cancel_of was client root)
  cancels root t = go t.answer t.tells t.text_is
    where
      go : (x : Answer) → TellsCancel l root old new x → text ≡ line (answer_text x) → (text, is) ≡ told_as (cancelled_as root) (cancel_of was client root)
      go (answer.Cancelled i killed) tells text_is = one (cancelled_as root) (CancelAnswers root) (λ s c. cancel_of s c root) (alone_cancel root) _ (Ok (record { killed = killed })) tells.0 tells.2.1 (text_is ∙ ap (λ j. line (answer_text (answer.Cancelled j killed))) tells.2.0)
      go (answer.Refused why) tells text_is = one (cancelled_as root) (CancelAnswers root) (λ s c. cancel_of s c root) (alone_cancel root) _ (Err why) tells.0 tells.2 text_is
      go other tells text_is = absurd tells.2

  pub requeues : (id : ℕ) → AnswerLine (TellsRequeue l id) old text new → (text, is) ≡ told_as (requeued_as id) (requeue_of was client id)
  requeues id t = go t.answer t.tells t.text_is
    where
      go : (x : Answer) → TellsRequeue l id old new x → text ≡ line (answer_text x) → (text, is) ≡ told_as (requeued_as id) (requeue_of was client id)
      go (answer.Requeued i round) tells text_is = one (requeued_as id) (RequeueAnswers id) (λ s c. requeue_of s c id) (alone_requeue id) _ (Ok round) tells.0 tells.2.1 (text_is ∙ ap (λ j. line (answer_text (answer.Requeued j round))) tells.2.0)
      go (answer.Refused why) tells text_is = one (requeued_as id) (RequeueAnswers id) (λ s c. requeue_of s c id) (alone_requeue id) _ (Err why) tells.0 tells.2 text_is
      go other tells text_is = absurd tells.2

  pub releases : (id : ℕ) → AnswerLine (TellsRelease l id) old text new → (text, is) ≡ told_as (released_as id) (release_of was client id)
  releases id t = go t.answer t.tells t.text_is
    where
      go : (x : Answer) → TellsRelease l id old new x → text ≡ line (answer_text x) → (text, is) ≡ told_as (released_as id) (release_of was client id)
      go (answer.Released i unit attempt) tells text_is = one (released_as id) (ReleaseAnswers id) (λ s c. release_of s c id) (alone_release id) _ (Ok (record { unit = unit; attempt = attempt })) tells.0 tells.2.1 (text_is ∙ ap (λ j. line (answer_text (answer.Released j unit attempt))) tells.2.0)
      go (answer.Refused why) tells text_is = one (released_as id) (ReleaseAnswers id) (λ s c. release_of s c id) (alone_release id) _ (Err why) tells.0 tells.2 text_is
      go other tells text_is = absurd tells.2

  pub reads : (id : ℕ) → AnswerLine (TellsRead l id) old text new → (text, is) ≡ told_as read_as (read_of was id, was)
  reads id t = go t.answer t.tells t.text_is
    where
      go : (x : Answer) → TellsRead l id old new x → text ≡ line (answer_text x) → (text, is) ≡ told_as read_as (read_of was id, was)
      go (answer.Read look) tells text_is = one read_as (ReadAnswers id) (λ s c. (read_of s id, s)) (alone_read id) _ (Ok look) tells.0 (tells.1, tells.3) text_is
      go (answer.Refused why) tells text_is = one read_as (ReadAnswers id) (λ s c. (read_of s id, s)) (alone_read id) _ (Err why) tells.0 (tells.1, tells.3) text_is
      go other tells text_is = absurd tells.3
