-- A release and a collect where nobody else acts.
use Rattle.std.proofs.Common.{◌≡◌, ◌≢◌, ℕ, cond, Result, Some, None, List, [], ◌∷◌, ◌++◌, Ok, Err, refl, sym, ◌∙◌, ap, subst, ⊎_elim}
use Rattle.std.proofs.lemmas.List.{append_cancel_right}
use Rattle.std.proofs.lemmas.Bool.{eq-eqb}
use Rattle.std.proofs.lemmas.Bool.Decides.{eqb_tells}
use Rattle.tp_model.specs.declared.types.Element.{Element}
use Rattle.tp_model.specs.declared.types.Limits.{Limits}
use Rattle.tp_model.specs.declared.types.Refusal.{Refusal}
use Rattle.tp_model.specs.declared.types.Refusal.TheVariants as refusal
use Rattle.tp_model.specs.declared.types.Released.{Released}
use Rattle.tp_model.specs.declared.types.Status.{Status}
use Rattle.tp_model.specs.declared.types.Status.TheVariants.{Waiting, Held, Consumed, Parked, Killed}
use Rattle.tp_model.specs.Counts.{is_killed}
use Rattle.tp_model.specs.declared.event.Event.{Event}
use Rattle.tp_model.specs.declared.event.Event.TheVariants.{Abort, Kill}
use Rattle.tp_model.specs.History.{IsUnborn, element_of, status_of}
use Rattle.tp_model.specs.Steps.{IsKillable}
use Rattle.tp_model.proofs.Bridges.{found_later}
use Rattle.tp_plain.specs.OneThread.{State, extended}
use Rattle.tp_plain.specs.Computed.{collect_at, collect_found, collect_of, release_at, release_found, release_of}
use Rattle.tp_plain.proofs.Collects.{collect_goes}
use Rattle.tp_manager.specs.Calls.{HasStatus}
use Rattle.tp_manager.specs.Releases.{Collects, HasKilledReply, HasNoReply, HasUnheld, IsHeld, Releases}
use Rattle.tp_manager.specs.Shown.{KeeperShown, PassShown}
use Rattle.tp_rollover.specs.Thread.{Alone, thread_of}
use Rattle.tp_rollover.specs.AloneLaws.{AloneCollect, AloneRelease}
use Rattle.tp_rollover.proofs.AloneApart.{end_is, number_is, seen_is}
use Rattle.tp_rollover.proofs.AlonePoints.{point_quiet}
use Rattle.tp_rollover.proofs.AloneThreads.{added_leaves, quiet_leaves, step_of, was}

release_misses : (s : State) (c i : ℕ) → element_of s.history i ≡ None → release_of s c i ≡ (Err refusal.NotThere, s)
release_misses s c i none = rw none refl

release_unheld : (s : State) (c i : ℕ) (e : Element) → element_of s.history i ≡ Some e → ¬ IsHeld (status_of s.limits.attempts s.history i) → release_of s c i ≡ (Err refusal.NotHeld, s)
release_unheld s c i e born not = ap (release_found s c i) born ∙ go (status_of s.limits.attempts s.history i) not
  where
    go : (st : Status) → ¬ IsHeld st → release_at s c st ≡ (Err refusal.NotHeld, s)
    go (Waiting n) non = refl
    go (Held u n) non = absurd (non (u, n, refl))
    go (Consumed u) non = refl
    go (Parked n) non = refl
    go Killed non = refl

release_goes : (s : State) (c i u n : ℕ) (e : Element) → element_of s.history i ≡ Some e → status_of s.limits.attempts s.history i ≡ Held u n
    → release_of s c i ≡ (Ok (record { unit = u; attempt = n }), extended s (Abort c u))
release_goes s c i u n e born held = ap (release_found s c i) born ∙ ap (release_at s c) held

collect_misses : (s : State) (c i : ℕ) → element_of s.history i ≡ None → collect_of s c i ≡ (Err refusal.NotThere, s)
collect_misses s c i none = rw none refl

collect_stage : (s : State) (c i : ℕ) (e : Element) → element_of s.history i ≡ Some e → e.stage ≢ 15 → collect_of s c i ≡ (Err refusal.BadStage, s)
collect_stage s c i e born other = ap (collect_found s c i) born
    ∙ ⊎_elim (λ t. absurd (other t.1)) (λ t. ap (λ b. cond {A = Result Element Refusal × State} b (collect_at s c i e (is_killed (status_of s.limits.attempts s.history i))) (Err refusal.BadStage, s)) t.0) (eqb_tells e.stage 15)

collect_killed : (s : State) (c i : ℕ) (e : Element) → element_of s.history i ≡ Some e → status_of s.limits.attempts s.history i ≡ Killed → e.stage ≡ 15 → collect_of s c i ≡ (Err refusal.AlreadyKilled, s)
collect_killed s c i e born dead reply = ap (collect_found s c i) born
    ∙ (ap (λ b. cond {A = Result Element Refusal × State} b (collect_at s c i e (is_killed (status_of s.limits.attempts s.history i))) (Err refusal.BadStage, s)) (eq-eqb e.stage 15 reply)
    ∙ ap (λ st. collect_at s c i e (is_killed st)) dead)

module _ (l : Limits) (keeper keeper' : KeeperShown) (olds news : List PassShown) (h h' : List Event) (n c : ℕ) (old new : PassShown) (a : Alone l keeper keeper' olds news h h' n c old new) (turn : new.from ≡ old.from) (id : ℕ) where
  abbrev before : State
  before = was l keeper keeper' olds news h h' n c old new a

  released : (r : Released) → Releases l id r.unit r.attempt old new → (Ok r, thread_of l news h') ≡ release_of before c id
  released r says =
      let made : new.mine ≡ old.mine ++ Abort c r.unit ∷ [] = says.adds.mine ∙ ap (λ d. old.mine ++ Abort d r.unit ∷ []) (number_is l keeper keeper' olds news h h' n c old new a) in
      let seen : new.seen ≡ says.adds.before ++ Abort c r.unit ∷ [] = says.adds.seen ∙ ap (λ d. says.adds.before ++ Abort d r.unit ∷ []) (number_is l keeper keeper' olds news h h' n c old new a) in
      let start : says.adds.before ≡ h = append_cancel_right says.adds.before h (Abort c r.unit ∷ []) (sym seen ∙ seen_is l keeper keeper' olds news h h' n c old new a (Abort c r.unit ∷ []) made) in
      let held : HasStatus l id (Held r.unit r.attempt) h = subst (HasStatus l id (Held r.unit r.attempt)) start says.held in
      ap (λ t. (Ok r, t)) (added_leaves l keeper keeper' olds news h h' n c old new a turn (Abort c r.unit ∷ []) made refl says.open_unit says.run)
      ∙ sym (release_goes before c id r.unit r.attempt held.0 held.1 held.2)

  collected : (x : Element) → Collects id x old new → (Ok x, thread_of l news h') ≡ collect_of before c id
  collected x says =
      let made : new.mine ≡ old.mine ++ Kill c id ∷ [] = says.adds.mine ∙ ap (λ d. old.mine ++ Kill d id ∷ []) (number_is l keeper keeper' olds news h h' n c old new a) in
      let last : h' ≡ h ++ Kill c id ∷ [] = end_is l keeper keeper' olds news h h' n c old new a (Kill c id ∷ []) made in
      let step = step_of l keeper keeper' olds news h h' n c old new a (Kill c id) last in
      let alive : status_of l.attempts h id ≢ Killed = λ dead. subst IsKillable dead step.free in
      let now : element_of (h ++ Kill c id ∷ []) id ≡ Some x = ap (λ g. element_of g id) (sym (seen_is l keeper keeper' olds news h h' n c old new a (Kill c id ∷ []) made)) ∙ says.is_born in
      let same : Some step.item ≡ Some x = sym (found_later h (h ++ Kill c id ∷ []) (Kill c id ∷ [], refl) id step.item step.born) ∙ now in
      let born : element_of h id ≡ Some x = step.born ∙ same in
      ap (λ t. (Ok x, t)) (added_leaves l keeper keeper' olds news h h' n c old new a turn (Kill c id ∷ []) made refl says.open_unit says.run)
      ∙ sym (collect_goes before c id x a.before.legal born says.is_reply alive)

pub alone_release : AloneRelease
alone_release id l keeper keeper' olds news h h' n c old new (Ok r) a turn says = released l keeper keeper' olds news h h' n c old new a turn id r says
alone_release id l keeper keeper' olds news h h' n c old new (Err refusal.NotThere) a turn says =
    ap (λ t. (Err refusal.NotThere, t)) (quiet_leaves l keeper keeper' olds news h h' n c old new a turn says.0)
    ∙ sym (release_misses (was l keeper keeper' olds news h h' n c old new a) c id (point_quiet l keeper keeper' olds news h h' n c old new a (λ g. IsUnborn g id) says.1 says.0))
alone_release id l keeper keeper' olds news h h' n c old new (Err refusal.NotHeld) a turn says =
    let at = point_quiet l keeper keeper' olds news h h' n c old new a (HasUnheld l id) says.1 says.0 in
    ap (λ t. (Err refusal.NotHeld, t)) (quiet_leaves l keeper keeper' olds news h h' n c old new a turn says.0)
    ∙ sym (release_unheld (was l keeper keeper' olds news h h' n c old new a) c id at.0 at.1 at.2)
alone_release id l keeper keeper' olds news h h' n c old new (Err refusal.NoMemory) a turn says = absurd says
alone_release id l keeper keeper' olds news h h' n c old new (Err refusal.BadLimits) a turn says = absurd says
alone_release id l keeper keeper' olds news h h' n c old new (Err refusal.BadStage) a turn says = absurd says
alone_release id l keeper keeper' olds news h h' n c old new (Err (refusal.Consumed u)) a turn says = absurd says
alone_release id l keeper keeper' olds news h h' n c old new (Err refusal.AlreadyKilled) a turn says = absurd says
alone_release id l keeper keeper' olds news h h' n c old new (Err refusal.Full) a turn says = absurd says
alone_release id l keeper keeper' olds news h h' n c old new (Err refusal.NotParked) a turn says = absurd says
alone_release id l keeper keeper' olds news h h' n c old new (Err refusal.NoRound) a turn says = absurd says
alone_release id l keeper keeper' olds news h h' n c old new (Err refusal.NotWaiting) a turn says = absurd says
alone_release id l keeper keeper' olds news h h' n c old new (Err refusal.NoUnit) a turn says = absurd says

pub alone_collect : AloneCollect
alone_collect id l keeper keeper' olds news h h' n c old new (Ok x) a turn says = collected l keeper keeper' olds news h h' n c old new a turn id x says
alone_collect id l keeper keeper' olds news h h' n c old new (Err refusal.NotThere) a turn says =
    ap (λ t. (Err refusal.NotThere, t)) (quiet_leaves l keeper keeper' olds news h h' n c old new a turn says.0)
    ∙ sym (collect_misses (was l keeper keeper' olds news h h' n c old new a) c id (point_quiet l keeper keeper' olds news h h' n c old new a (λ g. IsUnborn g id) says.1 says.0))
alone_collect id l keeper keeper' olds news h h' n c old new (Err refusal.BadStage) a turn says =
    let at = point_quiet l keeper keeper' olds news h h' n c old new a (HasNoReply id) says.1 says.0 in
    ap (λ t. (Err refusal.BadStage, t)) (quiet_leaves l keeper keeper' olds news h h' n c old new a turn says.0)
    ∙ sym (collect_stage (was l keeper keeper' olds news h h' n c old new a) c id at.0 at.1 at.2)
alone_collect id l keeper keeper' olds news h h' n c old new (Err refusal.AlreadyKilled) a turn says =
    let at = point_quiet l keeper keeper' olds news h h' n c old new a (HasKilledReply l id) says.1 says.0 in
    ap (λ t. (Err refusal.AlreadyKilled, t)) (quiet_leaves l keeper keeper' olds news h h' n c old new a turn says.0)
    ∙ sym (collect_killed (was l keeper keeper' olds news h h' n c old new a) c id at.0 at.1 at.3 at.2)
alone_collect id l keeper keeper' olds news h h' n c old new (Err refusal.NoMemory) a turn says = absurd says
alone_collect id l keeper keeper' olds news h h' n c old new (Err refusal.BadLimits) a turn says = absurd says
alone_collect id l keeper keeper' olds news h h' n c old new (Err (refusal.Consumed u)) a turn says = absurd says
alone_collect id l keeper keeper' olds news h h' n c old new (Err refusal.Full) a turn says = absurd says
alone_collect id l keeper keeper' olds news h h' n c old new (Err refusal.NotParked) a turn says = absurd says
alone_collect id l keeper keeper' olds news h h' n c old new (Err refusal.NoRound) a turn says = absurd says
alone_collect id l keeper keeper' olds news h h' n c old new (Err refusal.NotHeld) a turn says = absurd says
alone_collect id l keeper keeper' olds news h h' n c old new (Err refusal.NotWaiting) a turn says = absurd says
alone_collect id l keeper keeper' olds news h h' n c old new (Err refusal.NoUnit) a turn says = absurd says
