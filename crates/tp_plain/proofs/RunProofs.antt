-- Runs keep the history legal, and only lengthen it.
use Rattle.std.proofs.Common.{◌≡◌, ℕ, zero, suc, Ok, Err, List, [], ◌∷◌, ◌++◌, refl, sym, ◌∙◌, ap, subst, inl, inr, append_assoc, slice_set}
use Rattle.std.proofs.lemmas.List.{append-nil}
use mathlib.Core.List.{IsPrefix}
use Rattle.tp_model.specs.Drafts.{DraftView}
use Rattle.tp_model.specs.declared.types.Limits.{Limits}
use Rattle.tp_plain.specs.declared.pass_state.PassState.{PassState}
use Rattle.tp_model.specs.declared.types.Claimed.{Claimed}
use Rattle.tp_model.specs.declared.types.Claimed.TheVariants as claimed
use Rattle.tp_model.specs.declared.types.Outcome.{Outcome}
use Rattle.tp_model.specs.declared.types.Outcome.TheVariants as outcome
use Rattle.tp_model.specs.declared.types.Ended.{Ended}
use Rattle.tp_model.specs.declared.types.Ended.TheVariants as ended
use Rattle.tp_model.specs.declared.event.Event.{Event}
use Rattle.tp_model.specs.declared.event.Event.TheVariants.{Claim, Abort, Kill, Requeue}
use Rattle.tp_model.specs.Families.{IsRequest, IsSettledFamily, WorksOn}
use Rattle.tp_model.specs.Steps.{Step, IsLegal}
use Rattle.tp_plain.specs.OneThread.{State, start, Call, CallSubmit, CallClaim, CallClaimId, CallClaimNext, CallCommit, CallAbort, CallKill, CallCancel, CallRelease, CallCollect, CallRequeue, CallRead, extended, PlainKills, KillsEach, Answers, AnswersCommit, GivesUp, PlainClaims, PlainClaimsNext, Run, RunsAreLegal, RunsGrow}
use Rattle.tp_plain.specs.Cancelled.{CancelledForGood}
use Rattle.tp_model.proofs.Bridges.{found_later}
use Rattle.tp_model.proofs.Families.{settled_family_stays, never_worked_on}
use Rattle.tp_model.proofs.Histories.{legal_empty, legal_more}

-- t has the same limits, and the history of s with steps after it
record Goes (s t : State) : Type 0 where
  limits : t.limits ≡ s.limits
  more : IsPrefix s.history t.history
  legal : IsLegal s.limits s.history → IsLegal s.limits t.history

stays : (s t : State) → t ≡ s → Goes s t
stays s t same =
    record {
      limits = ap (λ (x : State). x.limits) same;
      more = ([], append-nil s.history ∙ sym (ap (λ (x : State). x.history) same));
      legal = λ legal. subst (IsLegal s.limits) (sym (ap (λ (x : State). x.history) same)) legal;
    }

moves : (s t : State) (drawn : ℕ) (e : Event) (c : ℕ) (used : PassState) → Step s.limits s.history e → t ≡ record { limits = s.limits; history = s.history ++ e ∷ []; passes = slice_set s.passes c used; drawn = drawn } → Goes s t
moves s t drawn e c used step same =
    record {
      limits = ap (λ (x : State). x.limits) same;
      more = (e ∷ [], sym (ap (λ (x : State). x.history) same));
      legal = λ legal. subst (IsLegal s.limits) (sym (ap (λ (x : State). x.history) same)) (legal_more s.limits s.history e legal step);
    }

passes_alone : (s t : State) (drawn c : ℕ) (used : PassState) → t ≡ record { limits = s.limits; history = s.history; passes = slice_set s.passes c used; drawn = drawn } → Goes s t
passes_alone s t drawn c used same =
    record {
      limits = ap (λ (x : State). x.limits) same;
      more = ([], append-nil s.history ∙ sym (ap (λ (x : State). x.history) same));
      legal = λ legal. subst (IsLegal s.limits) (sym (ap (λ (x : State). x.history) same)) legal;
    }

goes_claim : (s : State) (c stage : ℕ) (a : Claimed) (t : State) → PlainClaims s c stage a t → Goes s t
goes_claim s c stage (claimed.Work w) t is = moves s t _ (Claim c w.unit w.element.id w.attempt) c _ is.step is.after
goes_claim s c stage claimed.Idle t is = stays s t is.0
goes_claim s c stage claimed.NoUnit t is = stays s t is.0

goes_claim_next : (s : State) (c stage : ℕ) (a : Claimed) (t : State) → PlainClaimsNext s c stage a t → Goes s t
goes_claim_next s c stage (claimed.Work w) t is = moves s t _ (Claim c w.unit w.element.id w.attempt) c _ is.step is.after
goes_claim_next s c stage claimed.Idle t is = stays s t is.0
goes_claim_next s c stage claimed.NoUnit t is = stays s t is.0

goes_commit : (s : State) (c u : ℕ) (drafts : List DraftView) (a : Outcome) (t : State) → AnswersCommit s c u drafts a t → Goes s t
goes_commit s c u drafts (outcome.Committed id count) t is = moves s t _ _ c _ is.step is.after
goes_commit s c u drafts outcome.Lost t is = passes_alone s t _ c _ is.2
goes_commit s c u drafts outcome.Full t is = elim is.1 [ inl p ↦ moves s t _ (Abort c u) c _ p.0 p.1 | inr p ↦ passes_alone s t _ c _ p.1 ]

goes_abort : (s : State) (c u : ℕ) (a : Ended) (t : State) → GivesUp s c u a t → Goes s t
goes_abort s c u ended.Aborted t is = moves s t _ (Abort c u) c _ is.0 is.1
goes_abort s c u ended.AlreadyAborted t is = passes_alone s t _ c _ is.1

extends : (s t : State) (e : Event) → Step s.limits s.history e → t ≡ extended s e → Goes s t
extends s t e step same =
    record {
      limits = ap (λ (x : State). x.limits) same;
      more = (e ∷ [], sym (ap (λ (x : State). x.history) same));
      legal = λ legal. subst (IsLegal s.limits) (sym (ap (λ (x : State). x.history) same)) (legal_more s.limits s.history e legal step);
    }

goes_on : (s m t : State) → Goes s m → Goes m t → Goes s t
goes_on s m t one rest =
    record {
      limits = rest.limits ∙ one.limits;
      more = (one.more.0 ++ rest.more.0, sym (append_assoc s.history one.more.0 rest.more.0) ∙ (ap (λ x. x ++ rest.more.0) one.more.1 ∙ rest.more.1));
      legal = λ legal. subst (λ l. IsLegal l t.history) one.limits (rest.legal (subst (λ l. IsLegal l m.history) (sym one.limits) (one.legal legal)));
    }

goes_kill : (s : State) (c i k : ℕ) (t : State) → PlainKills s c i k t → Goes s t
goes_kill s c i zero t is = extends s t (Kill c i) is.0 is.1
goes_kill s c i (suc zero) t is =
    goes_on s (extended s (Abort c is.0)) t (extends s (extended s (Abort c is.0)) (Abort c is.0) is.3 refl) (extends (extended s (Abort c is.0)) t (Kill c i) is.4 is.5)
goes_kill s c i (suc (suc k)) t is = absurd is

goes_each : (s : State) (c : ℕ) (ids : List ℕ) (t : State) → KillsEach s c ids t → Goes s t
goes_each s c [] t is = stays s t is
goes_each s c (i ∷ ids) t is = goes_on s is.1 t (goes_kill s c i is.0 is.1 is.2) (goes_each is.1 c ids t is.3)

goes : (s : State) (call : Call) (t : State) → Answers s call t → Goes s t
goes s (CallSubmit c stage body (Ok id)) t is = moves s t _ _ c _ is.step is.after
goes s (CallSubmit c stage body (Err why)) t is = stays s t is.1
goes s (CallClaim c stage (Ok a)) t is = goes_claim s c stage a t is
goes s (CallClaim c stage (Err why)) t is = absurd is
goes s (CallClaimId c i (Ok w)) t is = moves s t _ (Claim c w.unit w.element.id w.attempt) c _ is.step is.after
goes s (CallClaimId c i (Err why)) t is = stays s t is.1
goes s (CallClaimNext c stage (Ok a)) t is = goes_claim_next s c stage a t is
goes s (CallClaimNext c stage (Err why)) t is = absurd is
goes s (CallCommit c drafts (Ok a)) t is = goes_commit s c is.0 drafts a t is.2
goes s (CallCommit c drafts (Err why)) t is = stays s t is.2.1
goes s (CallAbort c a) t is = goes_abort s c is.0 a t is.2
goes s (CallKill c i (Ok k)) t is = goes_kill s c i k.units_aborted t is
goes s (CallKill c i (Err why)) t is = stays s t is.1
goes s (CallCancel c root (Ok k)) t is = goes_each s c is.ids t is.kills
goes s (CallCancel c root (Err why)) t is = stays s t is.1
goes s (CallRelease c i (Ok a)) t is = extends s t (Abort c a.unit) is.1 is.2
goes s (CallRelease c i (Err why)) t is = stays s t is.1
goes s (CallCollect c i (Ok e)) t is = extends s t (Kill c i) is.2 is.3
goes s (CallCollect c i (Err why)) t is = stays s t is.1
goes s (CallRequeue c i (Ok r)) t is = extends s t (Requeue c i r) is.0 is.1
goes s (CallRequeue c i (Err why)) t is = stays s t is.1
goes s (CallRead id r) t is = stays s t is.1

goes_all : (s : State) (calls : List Call) (t : State) → Run s calls t → Goes s t
goes_all s [] t is = stays s t is
goes_all s (call ∷ calls) t is =
    goes_on s is.0 t (goes s call is.0 is.1) (goes_all is.0 calls t is.2)

pub runs_are_legal : RunsAreLegal
runs_are_legal l calls t is = let all = goes_all (start l) calls t is in (all.limits, all.legal (legal_empty l))

pub runs_grow : RunsGrow
runs_grow s calls t is = (goes_all s calls t is).more

pub cancelled_for_good : CancelledForGood
cancelled_for_good l before s c root answer t after u run is on =
    let start_on = goes_all (start l) before s run in
    let one = goes s (CallCancel c root (Ok answer)) t is in
    let rest = goes_all t after u on in
    let same : t.limits ≡ l = one.limits ∙ start_on.limits in
    let before_it : IsLegal s.limits s.history = rw start_on.limits (start_on.legal (legal_empty l)) in
    let legal : IsLegal l u.history = subst (λ x. IsLegal x u.history) same (rest.legal (rw one.limits (one.legal before_it))) in
    let settled : IsSettledFamily l.attempts t.history root = subst (λ (x : Limits). IsSettledFamily x.attempts t.history root) same is.settled in
    let request : IsRequest t.history root = (is.request.0, found_later s.history t.history one.more root is.request.0 is.request.1, is.request.2) in
    let stays = settled_family_stays l t.history u.history root legal rest.more request settled in
    record {
      settled = stays.0;
      same = stays.1;
      never = λ between later e cut.
          (subst (λ k. ¬ WorksOn k root e) cut (never_worked_on l t.history between later e root (rw cut legal) request settled));
    }
