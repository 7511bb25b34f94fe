-- Each call goes on with the history of the model, and so does each run.
use Rattle.std.proofs.Common.{◌≡◌, ◌≢◌, inr, ◌==◌, ◌≤◌, ◌<◌, ◌+◌, ℕ, Bool, true, false, nat_lt, cond, Option, Some, None, Result, Ok, Err, List, [], ◌∷◌, ◌++◌, length, filter, refl, sym, ◌∙◌, ap, subst, append_assoc, arith}
use Rattle.std.specs.List.{AllByRecursion}
use Rattle.std.specs.Option.{option_or}
use Rattle.std.specs.Ordering.{nat_cmp}
use Rattle.std.specs.Map.{keys_of}
use Rattle.std.proofs.lemmas.Map.Keys.{sorted_head, sorted_tail}
use Rattle.std.proofs.lemmas.Bool.Decides.{nat_tests}
use Rattle.tp_model.specs.Drafts.{DraftView}
use Rattle.tp_model.specs.Steps.{IsBody, IsKillable}
use Rattle.tp_model.specs.declared.event.Event.{Event}
use Rattle.tp_model.specs.declared.event.Event.TheVariants as event
use Rattle.tp_model.specs.declared.types.Limits.{Limits as ModelLimits}
use Rattle.tp_model.proofs.Bridges.{append_nil}
use Rattle.tp_model.proofs.Histories.{legal_empty}
use Rattle.tp_store.specs.declared.answers.Outcome.TheVariants as outcomes
use Rattle.tp_store.specs.declared.answers.Refusal.{Refusal}
use Rattle.tp_store.specs.declared.answers.Work.{Work}
use Rattle.tp_store.specs.declared.element.Element.{Element}
use Rattle.tp_store.specs.declared.element.Status.{Status}
use Rattle.tp_store.specs.declared.element.Status.TheVariants.{Waiting, Held, Consumed, Parked, Killed}
use Rattle.tp_store.specs.declared.element.TheConstants.{MAX_ROUNDS, REPLY_STAGE}
use Rattle.tp_store.specs.declared.store.Limits.{Limits}
use Rattle.tp_store.specs.Calls.{abort_as, abort_at, alive_in, as_claimed, cancel_at, cancel_by, claim_first, claim_from_of, claim_of, collect_as, collect_at, commit_at, consumed, give_up, given_up, hand_out_as, is_open, is_server_stage, kill_all, kill_as, kill_at, killed, of_client, of_unit, release_as, release_at, requeue_as, requeue_at, submit_of, take_at}
use Rattle.tp_store.specs.Elements.{Entry, element_at, first_in, is_alive, put, queue_of, standing, is_held_by}
use Rattle.tp_store.specs.Ends.{is_over}
use Rattle.tp_store.specs.Modelled.{aborted, all_cancelled, all_killed, as_status, claimed, collected, committed, events, HasRoom, history, IsModelled, killed_as, killed_at, released, requeued, row, submitted, taken}
use Rattle.tp_store.specs.Runs.{after, Call, Submit, Claim, ClaimFrom, Take, Commit, Abort, Release, Kill, Cancel, Requeue, Collect, SetLimits, limits_after, run}
use Rattle.tp_store.specs.Soundness.{IsSound}
use Rattle.tp_store.specs.State.{State, swept, with_births, with_change, with_end, with_limits, start}
use Rattle.tp_store.proofs.ModelBirths.{knows_committed, knows_submitted}
use Rattle.tp_store.proofs.Leading.{AreAlive, calls_follow, cancel_kills, found_filter, kills_one, none_open, others_alive, sorted_filter}
use Rattle.tp_store.proofs.Changing.{with_units}
use Rattle.tp_store.specs.Shelves.{AreSorted}
use Rattle.tp_store.proofs.Following.{alters_to, commit_alters, commit_ends, commit_taken, held_is, held_stage, led_give_up, queued_stage, root_low, submit_bears}
use Rattle.tp_store.proofs.Forgetting.{Loses, loses_both, loses_end, loses_swept}
use Rattle.tp_store.proofs.Knowing.{Knows, knows_fewer}
use Rattle.tp_store.proofs.Looking.{first_is, put_looks}
use Rattle.tp_store.proofs.Telling.{knows_given, knows_killed, knows_requeued, knows_taken}

as_number : (m n : ℕ) → (m == n) ≡ true → m ≡ n
as_number m n h = grind (arith, nat_tests)

apart : (m n : ℕ) → (m == n) ≡ false → m ≢ n
apart m n h e = absurd (grind (arith, nat_tests))

-- room in a store that has drawn as many numbers
room_same : (l : ModelLimits) (s t : State) → s.next ≡ t.next → s.units ≡ t.units → s.limits ≡ t.limits → HasRoom l t → HasRoom l s
room_same l s t next units limits room = record {
  rows = let a = room.rows in omega arith;
  parts = let a = room.parts in omega arith;
  units = room.units;
  attempts = room.attempts ∙ ap (λ (x : Limits). x.attempts) (sym limits);
}

knows_loses : (l : ModelLimits) (h : List Event) (s t : State) → Loses s t → Knows l h s → Knows l h t
knows_loses l h s t loses k = knows_fewer l h s t loses.known loses.next loses.units k

module _ (l : ModelLimits) where
  -- ---- a kill, by its events

  module _ (h : List Event) (s : State) (sound : IsSound s) (room : HasRoom l s) (k : Knows l h s) where
    nothing : Knows l (h ++ []) s
    nothing = subst (λ g. Knows l g s) (sym (append_nil h)) k

    -- an attempt is given up, and then the element is killed
    held_killed : (id u n : ℕ) (e : Element) → element_at id s.elements ≡ Some e → e.status ≡ Held u n → Knows l (h ++ killed_as l.rows id e (Held u n)) (killed id e s)
    held_killed id u n e found held = subst (λ g. Knows l g (killed id e s)) (append_assoc h (event.Abort 0 (u + 1) ∷ []) _) (knows_fewer l _ (killed id given s1) (killed id e s) known refl refl two)
      where
        given : Element
        given = standing (given_up s.limits.attempts n) e

        s1 : State
        s1 = give_up id e n s

        itself : (n : ℕ) → (n == n) ≡ true
        itself n = grind (arith, nat_tests)

        one : Knows l (h ++ event.Abort 0 (u + 1) ∷ []) s1
        one = knows_given l h s sound room k id u n e found held

        free : (b : Bool) → IsKillable (as_status e.stage (cond b (Waiting n) (Parked n)))
        free true = tt
        free false = tt

        two : Knows l ((h ++ event.Abort 0 (u + 1) ∷ []) ++ event.Kill 0 (row l.rows e.by id) ∷ []) (killed id given s1)
        two = knows_killed l (h ++ event.Abort 0 (u + 1) ∷ []) s1 (led_give_up s sound id e u n found held).0 (room_same l s1 s refl refl refl room) one s1.units id given Killed (put_looks id given s.elements id ∙ rw (itself id) refl) (omega arith) (free (nat_lt n s.limits.attempts)) refl

        known : (q : ℕ) (d : Element) → element_at q (put id (standing Killed e) s.elements) ≡ Some d → element_at q (put id (standing Killed given) (put id given s.elements)) ≡ Some d
        known q d there = put_looks id (standing Killed given) (put id given s.elements) q ∙ go (id == q) (element_at q (put id given s.elements)) (put_looks id given s.elements q) (sym (put_looks id (standing Killed e) s.elements q) ∙ there)
          where
            go : (b : Bool) (x : Option Element) → x ≡ cond b (Some given) (element_at q s.elements) → cond b (Some (standing Killed e)) (element_at q s.elements) ≡ Some d → cond b (Some (standing Killed given)) x ≡ Some d
            go true x is same = same
            go false x is same = is ∙ same

    pub kill_one : (id : ℕ) (e : Element) → element_at id s.elements ≡ Some e → (status : Status) → e.status ≡ status → is_alive status ≡ true → Knows l (h ++ killed_as l.rows id e status) (killed id e s)
    kill_one id e found (Waiting n) is alive = knows_killed l h s sound room k s.units id e Killed found (omega arith) (rw is tt) refl
    kill_one id e found (Parked n) is alive = knows_killed l h s sound room k s.units id e Killed found (omega arith) (rw is tt) refl
    kill_one id e found (Held u n) is alive = held_killed id u n e found is
    kill_one id e found (Consumed u) is alive = absurd cc
    kill_one id e found Killed is alive = absurd cc

  pub kill_each : (xs : List Entry) (h : List Event) (s : State) → IsSound s → HasRoom l s → Knows l h s → AreSorted xs → AreAlive s xs → Knows l (h ++ all_killed l.rows xs) (kill_all xs s)
  kill_each [] h s sound room k sorted all = nothing h s sound room k
  kill_each (x ∷ xs) h s sound room k sorted all =
      let one = kill_one h s sound room k x.0 x.1 all.0.0 x.1.status refl all.0.1 in
      let led = kills_one s x.0 x.1 sound all.0.0 all.0.1 in
      let more = kill_each xs (h ++ killed_as l.rows x.0 x.1 x.1.status) (killed x.0 x.1 s) led.alters.sound (room_same l (killed x.0 x.1 s) s refl refl refl room) one (sorted_tail nat_cmp x.0 (keys_of xs) sorted) (others_alive s x xs (sorted_head nat_cmp x.0 (keys_of xs) sorted) all.1) in
      subst (λ g. Knows l g (kill_all (x ∷ xs) s)) (append_assoc h (killed_as l.rows x.0 x.1 x.1.status) (all_killed l.rows xs)) more

  -- ---- the calls

  module _ (h : List Event) (s : State) (sound : IsSound s) (room : HasRoom l s) (k : Knows l h s) where
    -- what ends a request forgets some
    ended : (g : List Event) (t : State) (root : ℕ) → IsSound t → root < t.next → Knows l g t → Knows l g (swept (with_end root t))
    ended g t root fit low kt =
        let ends = loses_end root t low fit in
        knows_loses l g t (swept (with_end root t)) (loses_both t (with_end root t) (swept (with_end root t)) fit ends (loses_swept (with_end root t) ends.sound)) kt

    rec_out : (id : ℕ) (e : Element) → element_at id s.elements ≡ Some e → e.stage ≢ REPLY_STAGE → (status : Status) → e.status ≡ status → HasRoom l (hand_out_as id e status s).1 → Knows l (h ++ taken l.rows (hand_out_as id e status s).0) (hand_out_as id e status s).1
    rec_out id e found server (Waiting n) is later = knows_taken l h s sound room k id n e found is server later.parts
    rec_out id e found server (Held u n) is later = nothing h s sound room k
    rec_out id e found server (Consumed u) is later = nothing h s sound room k
    rec_out id e found server (Parked n) is later = nothing h s sound room k
    rec_out id e found server Killed is later = nothing h s sound room k

    rec_claim : (stage from : ℕ) → is_server_stage stage ≡ true → (x : Option Entry) → first_in queue_of stage from s.elements ≡ x → HasRoom l (claim_first x s).1 → Knows l (h ++ claimed l.rows (claim_first x s).0) (claim_first x s).1
    rec_claim stage from server None is later = nothing h s sound room k
    rec_claim stage from server (Some x) is later =
        let f = first_is queue_of stage from s.elements sound.sorted x is in
        as_out (hand_out_as x.0 x.1 x.1.status s) (rec_out x.0 x.1 f.found (queued_stage s sound x.1.stage stage x.1.status server f.member) x.1.status refl) later
      where
        as_out : (r : Result Work Refusal × State) → (HasRoom l r.1 → Knows l (h ++ taken l.rows r.0) r.1) → HasRoom l (as_claimed r).1 → Knows l (h ++ claimed l.rows (as_claimed r).0) (as_claimed r).1
        as_out (Ok w, t) on later = on later
        as_out (Err why, t) on later = on later

    rec_claim_from : (stage from : ℕ) → is_server_stage stage ≡ true → (x : Option Entry) → first_in queue_of stage from s.elements ≡ x → let y = option_or x (first_in queue_of stage 0 s.elements) in HasRoom l (claim_first y s).1 → Knows l (h ++ claimed l.rows (claim_first y s).0) (claim_first y s).1
    rec_claim_from stage from server None is later = rec_claim stage 0 server (first_in queue_of stage 0 s.elements) refl later
    rec_claim_from stage from server (Some x) is later = rec_claim stage from server (Some x) is later

    rec_take : (id : ℕ) (x : Option Element) → element_at id s.elements ≡ x → HasRoom l (take_at id x s).1 → Knows l (h ++ taken l.rows (take_at id x s).0) (take_at id x s).1
    rec_take id None is later = nothing h s sound room k
    rec_take id (Some e) is later = go (e.stage == REPLY_STAGE) refl later
      where
        go : (b : Bool) → (e.stage == REPLY_STAGE) ≡ b → HasRoom l (take_at id (Some e) s).1 → Knows l (h ++ taken l.rows (take_at id (Some e) s).0) (take_at id (Some e) s).1
        go true r later = rw r (nothing h s sound room k)
        go false r later = rw r (rec_out id e is (apart e.stage REPLY_STAGE r) e.status refl (rw r at later))

    rec_abort : (id unit : ℕ) (x : Option Element) → element_at id s.elements ≡ x → Knows l (h ++ aborted unit (abort_at id unit x s).0) (abort_at id unit x s).1
    rec_abort id unit None is = nothing h s sound room k
    rec_abort id unit (Some e) is = go e.status refl
      where
        by_unit : (u n : ℕ) → e.status ≡ Held u n → (b : Bool) → (u == unit) ≡ b → Knows l (h ++ aborted unit (abort_as id unit e (Held u n) s).0) (abort_as id unit e (Held u n) s).1
        by_unit u n held true same = rw same (subst (λ v. Knows l (h ++ event.Abort 0 (v + 1) ∷ []) (give_up id e n s)) (as_number u unit same) (knows_given l h s sound room k id u n e is held))
        by_unit u n held false same = rw same (nothing h s sound room k)

        go : (status : Status) → e.status ≡ status → Knows l (h ++ aborted unit (abort_as id unit e status s).0) (abort_as id unit e status s).1
        go (Held u n) held = by_unit u n held (u == unit) refl
        go (Waiting n) held = nothing h s sound room k
        go (Consumed u) held = nothing h s sound room k
        go (Parked n) held = nothing h s sound room k
        go Killed held = nothing h s sound room k

    rec_release : (id : ℕ) (x : Option Element) → element_at id s.elements ≡ x → Knows l (h ++ released (release_at id x s).0) (release_at id x s).1
    rec_release id None is = nothing h s sound room k
    rec_release id (Some e) is = go e.status refl
      where
        go : (status : Status) → e.status ≡ status → Knows l (h ++ released (release_as id e status s).0) (release_as id e status s).1
        go (Held u n) held = knows_given l h s sound room k id u n e is held
        go (Waiting n) held = nothing h s sound room k
        go (Consumed u) held = nothing h s sound room k
        go (Parked n) held = nothing h s sound room k
        go Killed held = nothing h s sound room k

    rec_kill : (id : ℕ) (x : Option Element) → element_at id s.elements ≡ x → Knows l (h ++ killed_at l.rows id x) (kill_at id x s).1
    rec_kill id None is = nothing h s sound room k
    rec_kill id (Some e) is = go e.status refl
      where
        dead : (status : Status) → e.status ≡ status → is_alive status ≡ true → Knows l (h ++ killed_as l.rows id e status) (swept (with_end e.root (killed id e s)))
        dead status was alive = ended _ (killed id e s) e.root (kills_one s id e sound is (rw was alive)).alters.sound (root_low s sound id e is) (kill_one h s sound room k id e is status was alive)

        go : (status : Status) → e.status ≡ status → Knows l (h ++ killed_as l.rows id e status) (kill_as id e status s).1
        go (Waiting n) was = dead (Waiting n) was refl
        go (Held u n) was = dead (Held u n) was refl
        go (Parked n) was = dead (Parked n) was refl
        go (Consumed u) was = nothing h s sound room k
        go Killed was = nothing h s sound room k

    rec_cancel : (root : ℕ) (x : Option Element) → element_at root s.elements ≡ x → Knows l (h ++ all_cancelled l.rows root s (cancel_at x root s).0) (cancel_at x root s).1
    rec_cancel root None is = nothing h s sound room k
    rec_cancel root (Some e) is = go e.by
      where
        open_still : (b : Bool) → is_over root s.elements ≡ b → Knows l (h ++ all_cancelled l.rows root s (cancel_by None root s).0) (cancel_by None root s).1
        open_still true over = rw (over, none_open root s.elements over) (nothing h s sound room k)
        open_still false over =
            let kills = cancel_kills s root sound in
            let low = (sound.each root e is).drawn in
            let next = kills.alters.next in
            rw over (ended _ (kill_all (filter (is_open root) s.elements) s) root kills.alters.sound (omega arith) (kill_each (filter (is_open root) s.elements) h s sound room k (sorted_filter root s.elements sound.sorted) (found_filter root s.elements sound.sorted)))

        go : (by : Option ℕ) → Knows l (h ++ all_cancelled l.rows root s (cancel_by by root s).0) (cancel_by by root s).1
        go (Some unit) = nothing h s sound room k
        go None = open_still (is_over root s.elements) refl

    rec_requeue : (id : ℕ) (x : Option Element) → element_at id s.elements ≡ x → Knows l (h ++ requeued l.rows id x (requeue_at id x s).0) (requeue_at id x s).1
    rec_requeue id None is = nothing h s sound room k
    rec_requeue id (Some e) is = go e.status refl
      where
        below : (m n : ℕ) → nat_lt m n ≡ true → m + 1 ≤ n
        below m n h = grind (arith, nat_tests)

        parked : (n : ℕ) → e.status ≡ Parked n → (b : Bool) → nat_lt e.rounds MAX_ROUNDS ≡ b → Knows l (h ++ requeued l.rows id (Some e) (requeue_as id e (Parked n) s).0) (requeue_as id e (Parked n) s).1
        parked n was true few = rw few (knows_requeued l h s sound room k id n e is was (below e.rounds MAX_ROUNDS few))
        parked n was false few = rw few (nothing h s sound room k)

        go : (status : Status) → e.status ≡ status → Knows l (h ++ requeued l.rows id (Some e) (requeue_as id e status s).0) (requeue_as id e status s).1
        go (Parked n) was = parked n was (nat_lt e.rounds MAX_ROUNDS) refl
        go (Waiting n) was = nothing h s sound room k
        go (Held u n) was = nothing h s sound room k
        go (Consumed u) was = nothing h s sound room k
        go Killed was = nothing h s sound room k

    rec_collect : (id : ℕ) (x : Option Element) → element_at id s.elements ≡ x → Knows l (h ++ collected l.rows id (collect_at id x s).0) (collect_at id x s).1
    rec_collect id None is = nothing h s sound room k
    rec_collect id (Some e) is = go (e.stage == REPLY_STAGE) refl
      where
        reply : e.stage ≡ REPLY_STAGE → (status : Status) → e.status ≡ status → Knows l (h ++ collected l.rows id (collect_as id e status s).0) (collect_as id e status s).1
        reply r (Waiting n) was = ended _ t e.root fit (root_low s sound id e is) (knows_killed l h s sound room k (s.units + 1) id e (Consumed s.units) is (omega arith) (rw was tt) (rw r refl))
          where
            t : State
            t = with_units (s.units + 1) (with_change id e (standing (Consumed s.units) e) s)

            fit : IsSound t
            fit = (alters_to s sound (s.units + 1) id e (Consumed s.units) (omega arith) is (rw was tt) (rw was (inr (inr (r, s.units, refl)))) (λ u h. drawn u h) (λ r. refl)).sound
              where
                drawn : (u : ℕ) → Some s.units ≡ Some u → u < s.units + 1
                drawn u h = let same : s.units ≡ u = cc in omega arith
        reply r (Held u n) was = nothing h s sound room k
        reply r (Consumed u) was = nothing h s sound room k
        reply r (Parked n) was = nothing h s sound room k
        reply r Killed was = nothing h s sound room k

        go : (b : Bool) → (e.stage == REPLY_STAGE) ≡ b → Knows l (h ++ collected l.rows id (collect_at id (Some e) s).0) (collect_at id (Some e) s).1
        go true r = rw r (reply (as_number e.stage REPLY_STAGE r) e.status refl)
        go false r = rw r (nothing h s sound room k)

    rec_submit : (stage : ℕ) (body : List ℕ) (owner : Option ℕ) → IsBody body → HasRoom l (submit_of stage body owner s).1 → Knows l (h ++ submitted l.rows stage body owner (submit_of stage body owner s).0) (submit_of stage body owner s).1
    rec_submit stage body owner whole later = go (is_server_stage stage) (nat_lt (alive_in s) s.limits.most) refl refl later
      where
        b : State
        b = with_births (of_client s.next owner) (record { stage = stage; body = body } ∷ []) s

        loses : Loses b (swept b)
        loses = loses_swept b (submit_bears s sound stage body owner).sound

        go : (x y : Bool) → is_server_stage stage ≡ x → nat_lt (alive_in s) s.limits.most ≡ y → HasRoom l (submit_of stage body owner s).1 → Knows l (h ++ submitted l.rows stage body owner (submit_of stage body owner s).0) (submit_of stage body owner s).1
        go false y server few later = rw server (nothing h s sound room k)
        go true false server few later = rw (server, few) (nothing h s sound room k)
        go true true server few later =
            let rows = (rw (server, few) at later).rows in
            let next = loses.next in
            rw (server, few) (knows_loses l _ b (swept b) loses (knows_submitted l h s sound room k stage body owner server whole (omega arith)))

    rec_commit : (id unit : ℕ) (drafts : List DraftView) → IsModelled s.limits.attempts (Commit id unit drafts) → (x : Option Element) → element_at id s.elements ≡ x → HasRoom l (commit_at id unit x drafts s).1 → Knows l (h ++ committed l.rows unit x drafts (commit_at id unit x drafts s).0) (commit_at id unit x drafts s).1
    rec_commit id unit drafts fit None is later = nothing h s sound room k
    rec_commit id unit drafts fit (Some e) is later = go (is_held_by unit e.status) refl later
      where
        done : (n : ℕ) → e.status ≡ Held unit n → HasRoom l (consumed id unit e drafts s) → Knows l (h ++ committed l.rows unit (Some e) drafts (Ok (outcomes.Committed s.next (length drafts)))) (consumed id unit e drafts s)
        done n held later = knows_loses l _ t (swept (with_end e.root t)) loses (knows_committed l h s sound room k id unit n e drafts is held (held_stage s sound id e unit n is held) fit.0 fit.1 (let rows = later.rows in let next = loses.next in omega arith) (let taken = commit_taken s sound id unit n e drafts is held in let parts = room.parts in omega arith))
          where
            t : State
            t = with_change id e (standing (Consumed unit) e) (with_births (of_unit unit e) drafts s)

            ends : Loses t (with_end e.root t)
            ends = commit_ends s sound id unit n e drafts is held

            loses : Loses t (swept (with_end e.root t))
            loses = loses_both t (with_end e.root t) (swept (with_end e.root t)) (commit_alters s sound id unit n e drafts is held).sound ends (loses_swept (with_end e.root t) ends.sound)

        go : (c : Bool) → is_held_by unit e.status ≡ c → HasRoom l (commit_at id unit (Some e) drafts s).1 → Knows l (h ++ committed l.rows unit (Some e) drafts (commit_at id unit (Some e) drafts s).0) (commit_at id unit (Some e) drafts s).1
        go true held later = let n = held_is s sound unit e.status held in rw held (done n.0 n.1 (rw held at later))
        go false held later = rw held (nothing h s sound room k)

    pub records : (call : Call) → IsModelled s.limits.attempts call → HasRoom l (after call s) → Knows l (h ++ events l.rows call s) (after call s)
    records (Submit stage body owner) fit later = rec_submit stage body owner fit later
    records (Claim stage) fit later = go (is_server_stage stage) refl later
      where
        go : (b : Bool) → is_server_stage stage ≡ b → HasRoom l (claim_of stage s).1 → Knows l (h ++ claimed l.rows (claim_of stage s).0) (claim_of stage s).1
        go true server later = rw server (rec_claim stage 0 server (first_in queue_of stage 0 s.elements) refl (rw server at later))
        go false server later = rw server (nothing h s sound room k)
    records (ClaimFrom stage from) fit later = go (is_server_stage stage) refl later
      where
        go : (b : Bool) → is_server_stage stage ≡ b → HasRoom l (claim_from_of stage from s).1 → Knows l (h ++ claimed l.rows (claim_from_of stage from s).0) (claim_from_of stage from s).1
        go true server later = rw server (rec_claim_from stage from server (first_in queue_of stage from s.elements) refl (rw server at later))
        go false server later = rw server (nothing h s sound room k)
    records (Take id) fit later = rec_take id (element_at id s.elements) refl later
    records (Commit id unit drafts) fit later = rec_commit id unit drafts fit (element_at id s.elements) refl later
    records (Abort id unit) fit later = rec_abort id unit (element_at id s.elements) refl
    records (Release id) fit later = rec_release id (element_at id s.elements) refl
    records (Kill id) fit later = rec_kill id (element_at id s.elements) refl
    records (Cancel root) fit later = rec_cancel root (element_at root s.elements) refl
    records (Requeue id) fit later = rec_requeue id (element_at id s.elements) refl
    records (Collect id) fit later = rec_collect id (element_at id s.elements) refl
    records (SetLimits limits) fit later = knows_fewer l (h ++ []) s (with_limits limits s) (λ id e found. found) refl refl (nothing h s sound room k)

  -- ---- runs

  -- the number of attempts stays
  attempts_after : (call : Call) (s : State) → IsModelled s.limits.attempts call → (limits_after call s).attempts ≡ s.limits.attempts
  attempts_after (SetLimits limits) s fit = fit
  attempts_after (Submit stage body owner) s fit = refl
  attempts_after (Claim stage) s fit = refl
  attempts_after (ClaimFrom stage from) s fit = refl
  attempts_after (Take id) s fit = refl
  attempts_after (Commit id unit drafts) s fit = refl
  attempts_after (Abort id unit) s fit = refl
  attempts_after (Release id) s fit = refl
  attempts_after (Kill id) s fit = refl
  attempts_after (Cancel root) s fit = refl
  attempts_after (Requeue id) s fit = refl
  attempts_after (Collect id) s fit = refl

  -- and calls are as the model knows them then too
  fit_after : (call : Call) (s : State) (calls : List Call) → IsSound s → AllByRecursion (IsModelled s.limits.attempts) (call ∷ calls) → ((after call s).limits.attempts ≡ s.limits.attempts) × AllByRecursion (IsModelled (after call s).limits.attempts) calls
  fit_after call s calls sound fit =
      let same : (after call s).limits.attempts ≡ s.limits.attempts = ap (λ (x : Limits). x.attempts) (calls_follow call s sound).2 ∙ attempts_after call s fit.0 in
      (same, subst (λ n. AllByRecursion (IsModelled n) calls) (sym same) fit.1)

  -- what has room behind a run had room before it
  pub room_before : (calls : List Call) (s : State) → IsSound s → AllByRecursion (IsModelled s.limits.attempts) calls → HasRoom l (run calls s) → HasRoom l s
  room_before [] s sound fit room = room
  room_before (call ∷ calls) s sound fit room =
      let led = calls_follow call s sound in
      let next = fit_after call s calls sound fit in
      let later = room_before calls (after call s) led.0 next.1 room in
      record {
        rows = let a = later.rows in let b = led.1.next in omega arith;
        parts = let a = later.parts in let b = led.1.units in omega arith;
        units = later.units;
        attempts = later.attempts ∙ next.0;
      }

  pub records_run : (calls : List Call) (h : List Event) (s : State) → IsSound s → AllByRecursion (IsModelled s.limits.attempts) calls → HasRoom l (run calls s) → Knows l h s → Knows l (h ++ history l.rows calls s) (run calls s)
  records_run [] h s sound fit room k = nothing h s sound room k
  records_run (call ∷ calls) h s sound fit room k =
      let led = calls_follow call s sound in
      let next = fit_after call s calls sound fit in
      let one = records h s sound (room_before (call ∷ calls) s sound fit room) k call fit.0 (room_before calls (after call s) led.0 next.1 room) in
      let all = records_run calls (h ++ events l.rows call s) (after call s) led.0 next.1 room one in
      subst (λ g. Knows l g (run calls (after call s))) (append_assoc h (events l.rows call s) (history l.rows calls (after call s))) all

pub knows_start : (l : ModelLimits) (limits : Limits) → Knows l [] (start limits)
knows_start l limits = record {
  legal = legal_empty l;
  tells = λ id e found. absurd cc;
  stage = λ id e found. absurd cc;
  rows = λ i x is. absurd cc;
  units = λ v high. refl;
}
