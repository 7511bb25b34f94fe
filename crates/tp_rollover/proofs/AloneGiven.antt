-- A claim of a given element where nobody else acts.
use Rattle.std.proofs.Common.{◌≡◌, ◌≢◌, ℕ, suc, ◌-◌, ◌<◌, ◌≤◌, cond, Some, None, Result, Ok, Err, refl, sym, ◌∙◌, ap, arith}
use Rattle.std.proofs.lemmas.Bool.{eq-eqb, le-leb, le-ltb}
use Rattle.tp_model.specs.declared.types.Element.{Element}
use Rattle.tp_model.specs.declared.types.Look.{Look}
use Rattle.tp_model.specs.declared.types.Refusal.{Refusal}
use Rattle.tp_model.specs.declared.types.Refusal.TheVariants as refusal
use Rattle.tp_model.specs.declared.types.Status.{Status}
use Rattle.tp_model.specs.declared.types.Status.TheVariants.{Waiting, Held, Consumed, Parked, Killed}
use Rattle.tp_model.specs.declared.types.Work.{Work}
use Rattle.tp_model.specs.History.{IsUnborn, element_of, status_of}
use Rattle.tp_plain.specs.declared.pass_state.PassState.{PassState}
use Rattle.tp_plain.specs.OneThread.{State, pass_at}
use Rattle.tp_plain.specs.Computed.{claim_id_at, claim_id_of, with_claimed, work_on}
use Rattle.tp_plain.proofs.Given.{computes}
use Rattle.tp_manager.specs.Calls.{IsWaiting, claims_in}
use Rattle.tp_manager.specs.Given.{HasReplyStage, HasUnwaiting}
use Rattle.tp_rollover.specs.Thread.{thread_of, turns_in}
use Rattle.tp_rollover.specs.AloneLaws.{AloneClaimId}
use Rattle.tp_rollover.proofs.AloneClaims.{born, claimed_is, left, look, room, used_is, waits, work_is}
use Rattle.tp_rollover.proofs.AlonePoints.{point_quiet}
use Rattle.tp_rollover.proofs.AloneSubmits.{both, same_quiet}
use Rattle.tp_rollover.proofs.AloneThreads.{quiet_leaves, was}

no_unit : (s : State) (c i : ℕ) → s.limits.units ≤ (pass_at s c).claimed → claim_id_of s c i ≡ (Err refusal.NoUnit, s)
no_unit s c i used = rw (le-ltb (pass_at s c).claimed s.limits.units used) refl

not_there : (s : State) (c i : ℕ) → (pass_at s c).claimed < s.limits.units → element_of s.history i ≡ None → claim_id_of s c i ≡ (Err refusal.NotThere, s)
not_there s c i room none = rw (le-leb (suc (pass_at s c).claimed) s.limits.units room, none) refl

a_reply : (s : State) (c i : ℕ) (e : Element) → (pass_at s c).claimed < s.limits.units → element_of s.history i ≡ Some e → e.stage ≡ 15 → claim_id_of s c i ≡ (Err refusal.BadStage, s)
a_reply s c i e room is reply = rw (le-leb (suc (pass_at s c).claimed) s.limits.units room, is)
    (ap (λ b. cond {A = Result Work Refusal × State} b (Err refusal.BadStage, s) (claim_id_at s c e (status_of s.limits.attempts s.history i))) (eq-eqb e.stage 15 reply))

not_waiting : (s : State) (c : ℕ) (e : Element) (st : Status) → ¬ IsWaiting st → claim_id_at s c e st ≡ (Err refusal.NotWaiting, s)
not_waiting s c e (Waiting n) non = absurd (non (n, refl))
not_waiting s c e (Held u n) non = refl
not_waiting s c e (Consumed u) non = refl
not_waiting s c e (Parked n) non = refl
not_waiting s c e Killed non = refl

pub alone_claim_id : AloneClaimId
alone_claim_id id l keeper keeper' olds news h h' n c old new (Ok work) a turn says =
    let before : State = was l keeper keeper' olds news h h' n c old new a in
    let stage : ℕ = work.element.stage in
    let same : turns_in new.from ≡ (pass_at before c).turns = ap turns_in turn ∙ sym (ap (λ (p : PassState). p.turns) (used_is l keeper keeper' olds news h h' n c old new a stage)) in
    let y : Look = look l keeper keeper' olds news h h' n c old new a stage work says.opens in
    let is : element_of h id ≡ Some work.element = ap (element_of h) (sym says.id_is) ∙ born l keeper keeper' olds news h h' n c old new a stage work says.opens in
    let stands : status_of l.attempts h id ≡ Waiting (work.attempt - 1) = ap (status_of l.attempts h) (sym says.id_is) ∙ (waits l keeper keeper' olds news h h' n c old new a stage work says.opens).waits in
    let other : work.element.stage ≢ 15 = λ reply. (let top = says.server.1 in omega arith) in
    both (Ok work) (Ok (work_on before c y)) (thread_of l news h') (with_claimed before c y (pass_at before c).turns) (ap (λ w. Ok w) (work_is l keeper keeper' olds news h h' n c old new a stage work says.opens))
    (left l keeper keeper' olds news h h' n c old new a stage work says.opens (pass_at before c).turns same)
    ∙ sym (computes before c id work.element (room l keeper keeper' olds news h h' n c old new a stage work says.opens) is other ∙ ap (claim_id_at before c work.element) stands)
alone_claim_id id l keeper keeper' olds news h h' n c old new (Err refusal.NoUnit) a turn says =
    let before : State = was l keeper keeper' olds news h h' n c old new a in
    let at : (pass_at before c).claimed ≡ claims_in old.mine = claimed_is l keeper keeper' olds news h h' n c old new a 0 in
    let used = says.0 in
    ap (λ t. (Err refusal.NoUnit, t)) (quiet_leaves l keeper keeper' olds news h h' n c old new a turn (same_quiet old new says.1)) ∙ sym (no_unit before c id (omega arith))
alone_claim_id id l keeper keeper' olds news h h' n c old new (Err refusal.NotThere) a turn says =
    let before : State = was l keeper keeper' olds news h h' n c old new a in
    let at : (pass_at before c).claimed ≡ claims_in old.mine = claimed_is l keeper keeper' olds news h h' n c old new a 0 in
    let less = says.0 in
    let p = point_quiet l keeper keeper' olds news h h' n c old new a (λ g. IsUnborn g id) says.2 says.1 in
    ap (λ t. (Err refusal.NotThere, t)) (quiet_leaves l keeper keeper' olds news h h' n c old new a turn says.1) ∙ sym (not_there before c id (omega arith) p)
alone_claim_id id l keeper keeper' olds news h h' n c old new (Err refusal.BadStage) a turn says =
    let before : State = was l keeper keeper' olds news h h' n c old new a in
    let at : (pass_at before c).claimed ≡ claims_in old.mine = claimed_is l keeper keeper' olds news h h' n c old new a 0 in
    let less = says.0 in
    let p = point_quiet l keeper keeper' olds news h h' n c old new a (HasReplyStage id) says.2 says.1 in
    ap (λ t. (Err refusal.BadStage, t)) (quiet_leaves l keeper keeper' olds news h h' n c old new a turn says.1) ∙ sym (a_reply before c id p.0 (omega arith) p.1 p.2)
alone_claim_id id l keeper keeper' olds news h h' n c old new (Err refusal.NotWaiting) a turn says =
    let before : State = was l keeper keeper' olds news h h' n c old new a in
    let at : (pass_at before c).claimed ≡ claims_in old.mine = claimed_is l keeper keeper' olds news h h' n c old new a 0 in
    let less = says.0 in
    let p = point_quiet l keeper keeper' olds news h h' n c old new a (HasUnwaiting l id) says.2 says.1 in
    ap (λ t. (Err refusal.NotWaiting, t)) (quiet_leaves l keeper keeper' olds news h h' n c old new a turn says.1) ∙ sym (computes before c id p.0 (omega arith) p.1 p.2 ∙ not_waiting before c p.0 (status_of l.attempts h id) p.3)
alone_claim_id id l keeper keeper' olds news h h' n c old new (Err refusal.NoMemory) a turn says = absurd says
alone_claim_id id l keeper keeper' olds news h h' n c old new (Err refusal.BadLimits) a turn says = absurd says
alone_claim_id id l keeper keeper' olds news h h' n c old new (Err (refusal.Consumed u)) a turn says = absurd says
alone_claim_id id l keeper keeper' olds news h h' n c old new (Err refusal.AlreadyKilled) a turn says = absurd says
alone_claim_id id l keeper keeper' olds news h h' n c old new (Err refusal.Full) a turn says = absurd says
alone_claim_id id l keeper keeper' olds news h h' n c old new (Err refusal.NotParked) a turn says = absurd says
alone_claim_id id l keeper keeper' olds news h h' n c old new (Err refusal.NoRound) a turn says = absurd says
alone_claim_id id l keeper keeper' olds news h h' n c old new (Err refusal.NotHeld) a turn says = absurd says
