-- What the computed answers are, case by case.
use Rattle.std.proofs.Common.{◌≡◌, ℕ, suc, ◌+◌, ◌<◌, nat_le, true, Some, None, Ok, Err, List, length, slice_set, refl, sym, ◌∙◌, ap}
use Rattle.std.proofs.lemmas.Bool.{le-leb, and_from}
use Rattle.tp_model.specs.declared.types.Look.{Look}
use Rattle.tp_model.specs.declared.types.Status.{Status}
use Rattle.tp_model.specs.declared.types.Claimed.TheVariants as claimed
use Rattle.tp_model.specs.declared.types.Outcome.TheVariants as outcome
use Rattle.tp_model.specs.declared.types.Ended.TheVariants as ended
use Rattle.tp_model.specs.declared.types.Refusal.TheVariants as refusal
use Rattle.tp_model.specs.declared.event.Event.TheVariants.{Abort}
use Rattle.tp_model.specs.Drafts.{DraftView}
use Rattle.tp_model.specs.History.{Aborted, element_of, end_of, status_of}
use Rattle.tp_model.specs.Steps.{IsServerStage}
use Rattle.tp_plain.specs.OneThread.{State, pass_at, turn_of_pass, HasPlainRoom, first_row, moved, with_pass, with_draw, ready, freed, freed_after_use}
use Rattle.tp_plain.specs.Computed.{is_server_stage, submit_of, with_request, next_waiting, work_on, with_claimed, claim_of_stage, claim_next_of_stage, abort_of, committed_by, commit_of, read_of}
use Rattle.tp_model.proofs.Bridges.{element_of-id}

module _ (s : State) (c : ℕ) where
  pub submit_goes : (stage : ℕ) (body : List ℕ) → IsServerStage stage → HasPlainRoom s c 1
      → submit_of s c stage body ≡ (Ok (first_row s c 1), with_request s c stage body)
  submit_goes stage body good room =
      let staged : is_server_stage stage ≡ true = and_from (nat_le 1 stage) (nat_le stage 14) (le-leb 1 stage good.0) (le-leb stage 14 good.1) in
      rw (staged, le-leb 1 (ready s c 1).left room) refl

  pub claim_works : (stage : ℕ) (look : Look) → (pass_at s c).claimed < s.limits.units → next_waiting s 0 stage ≡ Some look
      → claim_of_stage s c stage ≡ (claimed.Work (work_on s c look), with_claimed s c look (pass_at s c).turns)
  claim_works stage look room is = rw (le-leb (suc (pass_at s c).claimed) s.limits.units room, is) refl

  pub claim_idle : (stage : ℕ) → (pass_at s c).claimed < s.limits.units → next_waiting s 0 stage ≡ None → claim_of_stage s c stage ≡ (claimed.Idle, s)
  claim_idle stage room none = rw (le-leb (suc (pass_at s c).claimed) s.limits.units room, none) refl

  pub claim_next_works : (stage : ℕ) (look : Look) → (pass_at s c).claimed < s.limits.units → next_waiting s (turn_of_pass s c stage) stage ≡ Some look
      → claim_next_of_stage s c stage ≡ (claimed.Work (work_on s c look), with_claimed s c look (slice_set (pass_at s c).turns stage (look.element.id + 1)))
  claim_next_works stage look room is = rw (le-leb (suc (pass_at s c).claimed) s.limits.units room, is) refl

  pub claim_next_idle : (stage : ℕ) → (pass_at s c).claimed < s.limits.units → next_waiting s (turn_of_pass s c stage) stage ≡ None
      → claim_next_of_stage s c stage ≡ (claimed.Idle, s)
  claim_next_idle stage room none = rw (le-leb (suc (pass_at s c).claimed) s.limits.units room, none) refl

  module _ (u : ℕ) where
    pub abort_goes : (pass_at s c).holding ≡ Some u → end_of s.history u ≡ None
        → abort_of s c ≡ (ended.Aborted, moved s (Abort c u) c (freed (pass_at s c)))
    abort_goes hand undecided = rw (hand, undecided) refl

    pub abort_already : (pass_at s c).holding ≡ Some u → end_of s.history u ≡ Some Aborted
        → abort_of s c ≡ (ended.AlreadyAborted, with_pass s c (freed (pass_at s c)))
    abort_already hand gone = rw (hand, gone) refl

    pub commit_goes : (ds : List DraftView) → (pass_at s c).holding ≡ Some u → end_of s.history u ≡ None → HasPlainRoom s c (length ds)
        → commit_of s c ds ≡ committed_by s c u ds
    commit_goes ds hand undecided room = rw (le-leb (length ds) (ready s c (length ds)).left room, hand, undecided) refl

    pub commit_lost : (ds : List DraftView) → (pass_at s c).holding ≡ Some u → end_of s.history u ≡ Some Aborted → HasPlainRoom s c (length ds)
        → commit_of s c ds ≡ (outcome.Lost, with_pass (with_draw s c (length ds)) c (freed_after_use (ready s c (length ds)) (length ds)))
    commit_lost ds hand gone room = rw (le-leb (length ds) (ready s c (length ds)).left room, hand, gone) refl

-- a read of what is born, and of what isn't
module _ (s : State) (id : ℕ) where
  pub read_shows : (look : Look) → element_of s.history id ≡ Some look.element → look.status ≡ status_of s.limits.attempts s.history id → read_of s id ≡ Ok look
  read_shows look is status =
      let same : look.element.id ≡ id = element_of-id s.history id look.element is in
      let stands : status_of s.limits.attempts s.history look.element.id ≡ look.status = ap (status_of s.limits.attempts s.history) same ∙ sym status in
      rw is (ap (λ (st : Status). Ok (record { element = look.element; status = st })) stands)

  pub read_misses : element_of s.history id ≡ None → read_of s id ≡ Err refusal.NotThere
  read_misses none = rw none refl
