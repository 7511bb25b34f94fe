-- A requeue where nobody else acts.
use Rattle.std.proofs.Common.{◌≡◌, ℕ, ◌+◌, ◌<◌, Some, None, List, [], ◌∷◌, ◌++◌, Ok, Err, refl, sym, ◌∙◌, ap, arith}
use Rattle.tp_model.specs.declared.types.Element.{Element}
use Rattle.tp_model.specs.declared.types.Limits.{Limits}
use Rattle.tp_model.specs.declared.types.Refusal.TheVariants as refusal
use Rattle.tp_model.specs.declared.types.Status.{Status}
use Rattle.tp_model.specs.declared.types.Status.TheVariants.{Waiting, Held, Consumed, Parked, Killed}
use Rattle.tp_model.specs.declared.event.Event.{Event}
use Rattle.tp_model.specs.declared.event.Event.TheVariants.{Requeue}
use Rattle.tp_model.specs.History.{IsUnborn, element_of, rounds, status_of}
use Rattle.tp_model.specs.Steps.{IsParked}
use Rattle.tp_plain.specs.OneThread.{State, extended}
use Rattle.tp_plain.specs.Computed.{requeue_at, requeue_of}
use Rattle.tp_plain.proofs.Requeues.{requeue_goes, requeue_over}
use Rattle.tp_manager.specs.Requeues.{HasNoRound, HasUnparked, Requeues}
use Rattle.tp_manager.specs.Shown.{KeeperShown, PassShown}
use Rattle.tp_rollover.specs.Thread.{Alone, thread_of}
use Rattle.tp_rollover.specs.AloneLaws.{AloneRequeue}
use Rattle.tp_rollover.proofs.AloneApart.{end_is, number_is}
use Rattle.tp_rollover.proofs.AlonePoints.{point_quiet}
use Rattle.tp_rollover.proofs.AloneSubmits.{both}
use Rattle.tp_rollover.proofs.AloneThreads.{added_leaves, quiet_leaves, step_of, was}

not_there : (s : State) (c i : ℕ) → element_of s.history i ≡ None → requeue_of s c i ≡ (Err refusal.NotThere, s)
not_there s c i none = rw none refl

not_parked : (s : State) (c i : ℕ) (e : Element) → element_of s.history i ≡ Some e → ¬ IsParked (status_of s.limits.attempts s.history i) → requeue_of s c i ≡ (Err refusal.NotParked, s)
not_parked s c i e born not = rw born (go (status_of s.limits.attempts s.history i) not)
  where
    go : (st : Status) → ¬ IsParked st → requeue_at s c i (rounds s.history i) st ≡ (Err refusal.NotParked, s)
    go (Waiting n) non = refl
    go (Held u n) non = refl
    go (Consumed u) non = refl
    go (Parked n) non = absurd (non (n, refl))
    go Killed non = refl

module _ (l : Limits) (keeper keeper' : KeeperShown) (olds news : List PassShown) (h h' : List Event) (n c : ℕ) (old new : PassShown) (a : Alone l keeper keeper' olds news h h' n c old new) (turn : new.from ≡ old.from) (id : ℕ) where
  abbrev before : State
  before = was l keeper keeper' olds news h h' n c old new a

  goes : (round : ℕ) → Requeues id round old new → (Ok round, thread_of l news h') ≡ requeue_of before c id
  goes round says =
      let made : new.mine ≡ old.mine ++ Requeue c id round ∷ [] = says.adds.mine ∙ ap (λ d. old.mine ++ Requeue d id round ∷ []) (number_is l keeper keeper' olds news h h' n c old new a) in
      let last : h' ≡ h ++ Requeue c id round ∷ [] = end_is l keeper keeper' olds news h h' n c old new a _ made in
      let step = step_of l keeper keeper' olds news h h' n c old new a (Requeue c id round) last in
      let next : round ≡ rounds h id + 1 = step.next in
      let high = says.high in
      let less : rounds h id < 3 = omega arith in
      let left : thread_of l news h' ≡ extended before (Requeue c id (rounds h id + 1)) =
      added_leaves l keeper keeper' olds news h h' n c old new a turn (Requeue c id round ∷ []) made refl says.open_unit says.run
      ∙ ap (λ r. extended before (Requeue c id r)) next in
      both (Ok round) (Ok (rounds h id + 1)) (thread_of l news h') (extended before (Requeue c id (rounds h id + 1))) (ap (λ r. Ok r) next) left
      ∙ sym (requeue_goes before c id (rounds h id) step.parked.0 step.item step.born step.parked.1 refl less)

pub alone_requeue : AloneRequeue
alone_requeue id l keeper keeper' olds news h h' n c old new (Ok round) a turn says = goes l keeper keeper' olds news h h' n c old new a turn id round says
alone_requeue id l keeper keeper' olds news h h' n c old new (Err refusal.NotThere) a turn says =
    ap (λ t. (Err refusal.NotThere, t)) (quiet_leaves l keeper keeper' olds news h h' n c old new a turn says.0)
    ∙ sym (not_there (was l keeper keeper' olds news h h' n c old new a) c id (point_quiet l keeper keeper' olds news h h' n c old new a (λ g. IsUnborn g id) says.1 says.0))
alone_requeue id l keeper keeper' olds news h h' n c old new (Err refusal.NotParked) a turn says =
    let at = point_quiet l keeper keeper' olds news h h' n c old new a (HasUnparked l id) says.1 says.0 in
    ap (λ t. (Err refusal.NotParked, t)) (quiet_leaves l keeper keeper' olds news h h' n c old new a turn says.0)
    ∙ sym (not_parked (was l keeper keeper' olds news h h' n c old new a) c id at.0 at.1 at.2)
alone_requeue id l keeper keeper' olds news h h' n c old new (Err refusal.NoRound) a turn says =
    let at = point_quiet l keeper keeper' olds news h h' n c old new a (HasNoRound l id) says.1 says.0 in
    let many : rounds h id ≡ 3 = at.3 in
    ap (λ t. (Err refusal.NoRound, t)) (quiet_leaves l keeper keeper' olds news h h' n c old new a turn says.0)
    ∙ sym (requeue_over (was l keeper keeper' olds news h h' n c old new a) c id (rounds h id) at.2.0 at.0 at.1 at.2.1 refl (omega arith))
alone_requeue id l keeper keeper' olds news h h' n c old new (Err refusal.NoMemory) a turn says = absurd says
alone_requeue id l keeper keeper' olds news h h' n c old new (Err refusal.BadLimits) a turn says = absurd says
alone_requeue id l keeper keeper' olds news h h' n c old new (Err refusal.BadStage) a turn says = absurd says
alone_requeue id l keeper keeper' olds news h h' n c old new (Err (refusal.Consumed u)) a turn says = absurd says
alone_requeue id l keeper keeper' olds news h h' n c old new (Err refusal.AlreadyKilled) a turn says = absurd says
alone_requeue id l keeper keeper' olds news h h' n c old new (Err refusal.Full) a turn says = absurd says
alone_requeue id l keeper keeper' olds news h h' n c old new (Err refusal.NotHeld) a turn says = absurd says
alone_requeue id l keeper keeper' olds news h h' n c old new (Err refusal.NotWaiting) a turn says = absurd says
alone_requeue id l keeper keeper' olds news h h' n c old new (Err refusal.NoUnit) a turn says = absurd says
