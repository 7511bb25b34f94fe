-- The computed answers are allowed ones.
use Rattle.std.proofs.Common.{◌≡◌, ◌≢◌, ℕ, suc, ◌+◌, ◌<◌, ◌≤◌, nat_le, nat_lt, ◌&&◌, ◌==◌, ⊎_elim, Bool, true, false, cond, if◌then◌else◌, Option, Some, None, Result, Ok, Err, subst, List, length, refl, sym, ◌∙◌, ap, inl, inr, arith}
use Rattle.std.proofs.lemmas.Bool.{leb-true, ltb-false, eqb-true, eqb-false, and_from, le-leb}
use Rattle.std.proofs.lemmas.Bool.Decides.{nat_tests}
use Rattle.std.specs.List.{find, All}
use Rattle.tp_model.specs.declared.types.Element.{Element}
use Rattle.tp_model.specs.declared.types.Look.{Look}
use Rattle.tp_model.specs.declared.types.Status.{Status}
use Rattle.tp_model.specs.declared.types.Status.TheVariants.{Waiting, Held, Consumed, Parked, Killed}
use Rattle.tp_model.specs.declared.types.Refusal.{Refusal}
use Rattle.tp_model.specs.declared.types.Refusal.TheVariants as refusal
use Rattle.tp_model.specs.declared.types.Claimed.{Claimed}
use Rattle.tp_model.specs.declared.types.Outcome.{Outcome}
use Rattle.tp_model.specs.declared.types.Claimed.TheVariants as claimed
use Rattle.tp_model.specs.declared.types.Outcome.TheVariants as outcome
use Rattle.tp_model.specs.declared.event.Event.TheVariants.{Abort, Requeue}
use Rattle.tp_model.specs.Counts.{is_killed}
use Rattle.tp_model.specs.Drafts.{DraftView}
use Rattle.tp_model.specs.History.{element_of, UnitClaim, UnitEnd, Committed, Aborted, end_of, rounds, status_of}
use Rattle.tp_model.specs.Steps.{IsServerStage, IsBody, IsOpen, Step}
use Rattle.tp_model.specs.Births.{IsWhole}
use Rattle.tp_plain.specs.OneThread.{Answers, CallSubmit, CallClaim, CallClaimNext, CallCommit, CallAbort, CallKill, CallRelease, CallCollect, CallRequeue, CallRead, EndsByAbort, State, extended, pass_at, turn_of_pass, first_row, ready, HasPlainRoom}
use Rattle.tp_plain.specs.Looks.{is_held_by, looks_after_all}
use Rattle.tp_plain.specs.Reached.{IsReachable}
use Rattle.tp_plain.specs.Computed.{is_server_stage, has_room, submit_of, with_request, next_waiting, claim_found, claim_of_stage, claim_next_found, claim_next_of_stage, abort_at, abort_of, commit_at, commit_of, unit_in_hand, kill_at, kill_found, release_at, release_found, collect_at, collect_found, requeue_at, requeue_found, read_found, ComputedAreAllowed}
use Rattle.tp_model.proofs.Bridges.{element_of-id}
use Rattle.tp_model.proofs.Replies.{StandsAsReply, reply_stands}
use Rattle.tp_model.proofs.WordProofs.{rounds_by_words}
use Rattle.tp_plain.proofs.PassStates.{may_submit}
use Rattle.tp_plain.proofs.Given.{claim_id_allowed}
use Rattle.tp_plain.proofs.Claims.{idle, claim_takes, claim_next_takes}
use Rattle.tp_plain.proofs.UnitEnds.{aborted_of, is_full}
use Rattle.tp_plain.proofs.Commits.{left_by_commit}
use Rattle.tp_plain.proofs.Kills.{may_abort, may_kill_after}
use Rattle.tp_plain.proofs.Cancels.{cancel_allowed}

and_parts : (a b : Bool) → (a && b) ≡ true → (a ≡ true) × (b ≡ true)
and_parts true b is = (refl, is)
and_parts false b is = absurd (cc (is))

stage_is : (stage : ℕ) → is_server_stage stage ≡ true → IsServerStage stage
stage_is stage is = let p = and_parts (nat_le 1 stage) (nat_le stage 14) is in (leb-true 1 stage p.0, leb-true stage 14 p.1)

is_stage : (stage : ℕ) → IsServerStage stage → is_server_stage stage ≡ true
is_stage stage good = and_from (nat_le 1 stage) (nat_le stage 14) (le-leb 1 stage good.0) (le-leb stage 14 good.1)

module _ (s : State) (c : ℕ) (reached : IsReachable s) (is_pass : c < s.limits.parts) where
  submit_allowed : (stage : ℕ) (body : List ℕ) → IsBody body → Answers s (CallSubmit c stage body (submit_of s c stage body).0) (submit_of s c stage body).1
  submit_allowed stage body whole = go (is_server_stage stage) (has_room s c 1) refl refl
    where
      go : (staged room : Bool) → is_server_stage stage ≡ staged → has_room s c 1 ≡ room
          → let computed : Result ℕ Refusal × State = cond {A = Result ℕ Refusal × State} staged (cond {A = Result ℕ Refusal × State} room (Ok (first_row s c 1), with_request s c stage body) (Err refusal.Full, s)) (Err refusal.BadStage, s) in
          Answers s (CallSubmit c stage body computed.0) computed.1
      go true true staged room =
          let below : HasPlainRoom s c 1 = leb-true 1 (ready s c 1).left room in
          record { room = below; next = refl; step = may_submit s c stage body reached is_pass (stage_is stage staged) whole below; after = refl }
      go true false staged room = ((stage_is stage staged, is_full s c 1 reached (omega arith) (ready s c 1) refl (let none : (ready s c 1).left ≤ 0 = ltb-false 0 (ready s c 1).left room in omega arith)), refl)
      go false room staged _ = ((λ good. let clash : false ≡ true = sym staged ∙ is_stage stage good in cc), refl)

  claim_allowed : (stage : ℕ) → IsServerStage stage → (pass_at s c).holding ≡ None → Answers s (CallClaim c stage (Ok (claim_of_stage s c stage).0)) (claim_of_stage s c stage).1
  claim_allowed stage good free = go (nat_lt (pass_at s c).claimed s.limits.units) (next_waiting s 0 stage) refl refl
    where
      go : (room : Bool) (found : Option Look) → nat_lt (pass_at s c).claimed s.limits.units ≡ room → next_waiting s 0 stage ≡ found
          → let computed : Claimed × State = cond {A = Claimed × State} room (claim_found s c found) (claimed.NoUnit, s) in Answers s (CallClaim c stage (Ok computed.0)) computed.1
      go true None room is = (refl, leb-true (suc (pass_at s c).claimed) s.limits.units room, idle s 0 stage reached.legal is)
      go true (Some look) room is = claim_takes s c stage look reached is_pass good (leb-true (suc (pass_at s c).claimed) s.limits.units room) free is
      go false found room is = (refl, ltb-false (pass_at s c).claimed s.limits.units room)

  claim_next_allowed : (stage : ℕ) → IsServerStage stage → (pass_at s c).holding ≡ None
      → Answers s (CallClaimNext c stage (Ok (claim_next_of_stage s c stage).0)) (claim_next_of_stage s c stage).1
  claim_next_allowed stage good free = go (nat_lt (pass_at s c).claimed s.limits.units) (next_waiting s (turn_of_pass s c stage) stage) refl refl
    where
      go : (room : Bool) (found : Option Look) → nat_lt (pass_at s c).claimed s.limits.units ≡ room → next_waiting s (turn_of_pass s c stage) stage ≡ found
          → let computed : Claimed × State = cond {A = Claimed × State} room (claim_next_found s c stage found) (claimed.NoUnit, s) in
          Answers s (CallClaimNext c stage (Ok computed.0)) computed.1
      go true None room is = (refl, leb-true (suc (pass_at s c).claimed) s.limits.units room, idle s (turn_of_pass s c stage) stage reached.legal is)
      go true (Some look) room is = claim_next_takes s c stage look reached is_pass good (leb-true (suc (pass_at s c).claimed) s.limits.units room) free is
      go false found room is = (refl, ltb-false (pass_at s c).claimed s.limits.units room)

  module _ (u : ℕ) (hand : (pass_at s c).holding ≡ Some u) where
    in_hand : unit_in_hand s c ≡ u
    in_hand = rw hand refl

    -- the unit in the hand, unless it was aborted, is open
    open_unit : end_of s.history u ≢ Some Aborted → (t : UnitClaim) × IsOpen s.history u t × (t.pass ≡ c)
    open_unit whole = (reached.fits c is_pass).held u hand whole

    not_committed : (first count : ℕ) → end_of s.history u ≡ Some (Committed first count) → ⊥
    not_committed first count is =
        let o = open_unit (λ gone. let clash : Some (Committed first count) ≡ Some Aborted = sym is ∙ gone in cc) in
        let clash : None ≡ Some (Committed first count) = sym o.1.unfinished ∙ is in cc

    may_abort_own : end_of s.history u ≡ None → Step s.limits s.history (Abort c u)
    may_abort_own undecided =
        let o = open_unit (λ gone. let clash : None ≡ Some Aborted = sym undecided ∙ gone in cc) in
        record { pass = is_pass; taking = o.0; open_unit = o.1 }

    abort_leaves_it : (x : Option UnitEnd) → end_of s.history u ≡ x → EndsByAbort s c u (abort_at s c u x).1
    abort_leaves_it None is = inl (may_abort_own is, refl)
    abort_leaves_it (Some (Committed first count)) is = absurd (not_committed first count is)
    abort_leaves_it (Some Aborted) is = inr (is, refl)

    abort_allowed : Answers s (CallAbort c (abort_of s c).0) (abort_of s c).1
    abort_allowed =
        subst (λ v. Answers s (CallAbort c (abort_at s c v (end_of s.history v)).0) (abort_at s c v (end_of s.history v)).1) (sym in_hand) (go (end_of s.history u) refl)
      where
        go : (x : Option UnitEnd) → end_of s.history u ≡ x → Answers s (CallAbort c (abort_at s c u x).0) (abort_at s c u x).1
        go None is = (u, hand, (may_abort_own is, refl))
        go (Some (Committed first count)) is = absurd (not_committed first count is)
        go (Some Aborted) is = (u, hand, (is, refl))

    commit_allowed : (drafts : List DraftView) → length drafts ≤ 4 → All IsWhole drafts → Answers s (CallCommit c drafts (Ok (commit_of s c drafts).0)) (commit_of s c drafts).1
    commit_allowed drafts few staged =
        subst P (sym in_hand) (go (has_room s c (length drafts)) (end_of s.history u) refl refl)
      where
        computed : ℕ → Outcome × State
        computed v =
            if has_room s c (length drafts) then commit_at s c v drafts (end_of s.history v) else (outcome.Full, (abort_at s c v (end_of s.history v)).1)

        P : ℕ → Type 0
        P v = Answers s (CallCommit c drafts (Ok (computed v).0)) (computed v).1

        held : (found : Option Look) → find (λ (l : Look). is_held_by u l.status) (looks_after_all s.limits.attempts s.history) ≡ found → end_of s.history u ≡ None
            → HasPlainRoom s c (length drafts) → Answers s (CallCommit c drafts (Ok (commit_at s c u drafts None).0)) (commit_at s c u drafts None).1
        held None is undecided room =
            let gone = aborted_of s (looks_after_all s.limits.attempts s.history) reached refl c u is_pass hand is in
            let clash : None ≡ Some Aborted = sym undecided ∙ gone in cc
        held (Some look) is undecided room =
            let left = left_by_commit s (looks_after_all s.limits.attempts s.history) c reached refl is_pass u look is drafts staged few hand room in
            (u, hand, record { room = room; count_is = refl; first_is = refl; step = left.3.step; after = refl })

        go : (room : Bool) (x : Option UnitEnd) → has_room s c (length drafts) ≡ room → end_of s.history u ≡ x
            → let computed : Outcome × State = cond {A = Outcome × State} room (commit_at s c u drafts x) (outcome.Full, (abort_at s c u x).1) in Answers s (CallCommit c drafts (Ok computed.0)) computed.1
        go true None room is =
            held (find (λ (l : Look). is_held_by u l.status) (looks_after_all s.limits.attempts s.history)) refl is (leb-true (length drafts) (ready s c (length drafts)).left room)
        go true (Some (Committed first count)) room is = absurd (not_committed first count is)
        go true (Some Aborted) room is = (u, hand, (leb-true (length drafts) (ready s c (length drafts)).left room, is, refl))
        go false x room is =
            let over : (ready s c (length drafts)).left < length drafts = grind (arith, nat_tests) in
            (u, hand, (is_full s c (length drafts) reached few (ready s c (length drafts)) refl over, abort_leaves_it x is))

  kill_allowed : (i : ℕ) → Answers s (CallKill c i (kill_found s c i (element_of s.history i)).0) (kill_found s c i (element_of s.history i)).1
  kill_allowed i = found (element_of s.history i) refl
    where
      at : (e : Element) → element_of s.history i ≡ Some e → (st : Status) → status_of s.limits.attempts s.history i ≡ st → Answers s (CallKill c i (kill_at s c i st).0) (kill_at s c i st).1
      at e born (Waiting n) is = (record { pass = is_pass; item = e; born = born; free = rw is tt }, refl)
      at e born (Held u n) is =
          (u, n, is, may_abort s.limits s.history c i u n is_pass reached.legal is, may_kill_after s.limits s.history c i u n e is_pass born is, refl)
      at e born (Consumed u) is = ((e, born, is), refl)
      at e born (Parked n) is = (record { pass = is_pass; item = e; born = born; free = rw is tt }, refl)
      at e born Killed is = ((e, born, is), refl)

      found : (o : Option Element) → element_of s.history i ≡ o → Answers s (CallKill c i (kill_found s c i o).0) (kill_found s c i o).1
      found None is = (is, refl)
      found (Some e) is = at e is (status_of s.limits.attempts s.history i) refl

  release_allowed : (i : ℕ) → Answers s (CallRelease c i (release_found s c i (element_of s.history i)).0) (release_found s c i (element_of s.history i)).1
  release_allowed i = found (element_of s.history i) refl
    where
      at : (e : Element) → element_of s.history i ≡ Some e → (st : Status) → status_of s.limits.attempts s.history i ≡ st → Answers s (CallRelease c i (release_at s c st).0) (release_at s c st).1
      at e born (Waiting n) is = ((e, born, λ u n held. (let q = sym is ∙ held in cc)), refl)
      at e born (Held u n) is = (is, may_abort s.limits s.history c i u n is_pass reached.legal is, refl)
      at e born (Consumed u) is = ((e, born, λ u n held. (let q = sym is ∙ held in cc)), refl)
      at e born (Parked n) is = ((e, born, λ u n held. (let q = sym is ∙ held in cc)), refl)
      at e born Killed is = ((e, born, λ u n held. (let q = sym is ∙ held in cc)), refl)

      found : (o : Option Element) → element_of s.history i ≡ o → Answers s (CallRelease c i (release_found s c i o).0) (release_found s c i o).1
      found None is = (is, refl)
      found (Some e) is = at e is (status_of s.limits.attempts s.history i) refl

  collect_allowed : (i : ℕ) → Answers s (CallCollect c i (collect_found s c i (element_of s.history i)).0) (collect_found s c i (element_of s.history i)).1
  collect_allowed i = found (element_of s.history i) refl
    where
      at : (e : Element) → element_of s.history i ≡ Some e → e.stage ≡ 15 → (st : Status) → status_of s.limits.attempts s.history i ≡ st → StandsAsReply st → Answers s (CallCollect c i (collect_at s c i e (is_killed st)).0) (collect_at s c i e (is_killed st)).1
      at e born reply (Waiting n) is so = (born, reply, record { pass = is_pass; item = e; born = born; free = rw is tt }, refl)
      at e born reply (Held u n) is so = absurd (⊎_elim (λ p. cc) (λ p. cc) so)
      at e born reply (Consumed u) is so = absurd (⊎_elim (λ p. cc) (λ p. cc) so)
      at e born reply (Parked n) is so = absurd (⊎_elim (λ p. cc) (λ p. cc) so)
      at e born reply Killed is so = ((e, born, reply, is), refl)

      staged : (e : Element) → element_of s.history i ≡ Some e → (b : Bool) → (e.stage == 15) ≡ b
          → let answer : Result Element Refusal × State = cond b (collect_at s c i e (is_killed (status_of s.limits.attempts s.history i))) (Err refusal.BadStage, s) in Answers s (CallCollect c i answer.0) answer.1
      staged e born true is = let reply : e.stage ≡ 15 = eqb-true e.stage 15 is in
          at e born reply (status_of s.limits.attempts s.history i) refl (reply_stands s.limits s.history reached.legal i e born reply)
      staged e born false is = ((e, born, eqb-false e.stage 15 is), refl)

      found : (o : Option Element) → element_of s.history i ≡ o → Answers s (CallCollect c i (collect_found s c i o).0) (collect_found s c i o).1
      found None is = (is, refl)
      found (Some e) is = staged e is (e.stage == 15) refl

  requeue_allowed : (i : ℕ) → Answers s (CallRequeue c i (requeue_found s c i (element_of s.history i)).0) (requeue_found s c i (element_of s.history i)).1
  requeue_allowed i = found (element_of s.history i) refl
    where
      parked : (e : Element) (n : ℕ) → element_of s.history i ≡ Some e → status_of s.limits.attempts s.history i ≡ Parked n → (b : Bool) → nat_lt (rounds s.history i) 3 ≡ b
          → let answer : Result ℕ Refusal × State = cond b (Ok (rounds s.history i + 1), extended s (Requeue c i (rounds s.history i + 1))) (Err refusal.NoRound, s) in Answers s (CallRequeue c i answer.0) answer.1
      parked e n born is true less = (record { pass = is_pass; item = e; born = born; parked = (n, is); next = refl; few = (let below : rounds s.history i < 3 = grind (arith, nat_tests) in let at : rounds s.history i + 1 ≤ 3 = omega arith in at) }, refl)
      parked e n born is false less = ((e, born, (n, is), (let above : 3 ≤ rounds s.history i = grind (arith, nat_tests) in let most : rounds s.history i ≤ 3 = (rounds_by_words s.limits s.history i reached.legal).1 in let at : rounds s.history i ≡ 3 = omega arith in at)), refl)

      at : (e : Element) → element_of s.history i ≡ Some e → (st : Status) → status_of s.limits.attempts s.history i ≡ st → Answers s (CallRequeue c i (requeue_at s c i (rounds s.history i) st).0) (requeue_at s c i (rounds s.history i) st).1
      at e born (Waiting n) is = ((e, born, λ p. (let q = sym is ∙ p.1 in cc)), refl)
      at e born (Held u n) is = ((e, born, λ p. (let q = sym is ∙ p.1 in cc)), refl)
      at e born (Consumed u) is = ((e, born, λ p. (let q = sym is ∙ p.1 in cc)), refl)
      at e born (Parked n) is = parked e n born is (nat_lt (rounds s.history i) 3) refl
      at e born Killed is = ((e, born, λ p. (let q = sym is ∙ p.1 in cc)), refl)

      found : (o : Option Element) → element_of s.history i ≡ o → Answers s (CallRequeue c i (requeue_found s c i o).0) (requeue_found s c i o).1
      found None is = (is, refl)
      found (Some e) is = at e is (status_of s.limits.attempts s.history i) refl

  read_allowed : (id : ℕ) → Answers s (CallRead id (read_found s (element_of s.history id))) s
  read_allowed id = go (element_of s.history id) refl
    where
      go : (o : Option Element) → element_of s.history id ≡ o → Answers s (CallRead id (read_found s o)) s
      go None is = (is, refl)
      go (Some e) is = (record { element = is; status = ap (status_of s.limits.attempts s.history) (element_of-id s.history id e is) }, refl)

pub computed_are_allowed : ComputedAreAllowed
computed_are_allowed s c reached is_pass =
    record {
      submit = submit_allowed s c reached is_pass;
      claim = claim_allowed s c reached is_pass;
      claim_next = claim_next_allowed s c reached is_pass;
      claim_id = claim_id_allowed s c reached is_pass;
      commit = λ u drafts hand few staged. commit_allowed s c reached is_pass u hand drafts few staged;
      abort = λ u hand. abort_allowed s c reached is_pass u hand;
      kill = kill_allowed s c reached is_pass;
      cancel = λ root. cancel_allowed s c root is_pass reached.legal;
      release = release_allowed s c reached is_pass;
      collect = collect_allowed s c reached is_pass;
      requeue = requeue_allowed s c reached is_pass;
      read = read_allowed s c reached is_pass;
    }
