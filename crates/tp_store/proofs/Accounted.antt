-- The account of a store behind each call, and behind each run.
use Rattle.std.proofs.Common.{◌≡◌, inr, ◌==◌, ◌≤◌, ◌<◌, ◌+◌, ◌-◌, ◌*◌, ◌^◌, ℕ, Bool, true, false, nat_lt, nat_le, Option, Some, None, Result, Ok, Err, List, [], ◌∷◌, length, filter, refl, ◌∙◌, ap, arith}
use Rattle.std.specs.List.{AllByRecursion}
use Rattle.std.specs.Option.{option_or}
use Rattle.std.specs.Ordering.{nat_cmp}
use Rattle.std.specs.Map.{keys_of}
use Rattle.std.proofs.lemmas.Map.Keys.{sorted_head, sorted_tail}
use Rattle.std.proofs.lemmas.Bool.Decides.{nat_tests}
use Rattle.std.proofs.lemmas.List.{get_or-replicate, length-replicate}
use Rattle.std.proofs.lemmas.List.Folds.{sum_by-replicate}
use Rattle.tp_model.specs.Drafts.{DraftView}
use Rattle.tp_store.specs.declared.answers.Refusal.{Refusal}
use Rattle.tp_store.specs.declared.answers.Work.{Work}
use Rattle.tp_store.specs.declared.counts.Counts.{Counts}
use Rattle.tp_store.specs.declared.element.Element.{Element}
use Rattle.tp_store.specs.declared.element.Status.{Status}
use Rattle.tp_store.specs.declared.element.Status.TheVariants.{Waiting, Held, Consumed, Parked, Killed}
use Rattle.tp_store.specs.declared.element.TheConstants.{LAST_STAGE, MAX_ROUNDS, REPLY_STAGE}
use Rattle.tp_store.specs.declared.ends.TheConstants.{FORGET_STEPS}
use Rattle.tp_store.specs.declared.store.Limits.{Limits}
use Rattle.tp_store.specs.Accounts.{AccountsHold, added, HasStages, IsAccount, is_held, is_parked}
use Rattle.tp_store.specs.Calls.{abort_as, abort_at, again, alive_in, as_claimed, cancel_at, cancel_by, claim_first, claim_from_of, claim_of, collect_as, collect_at, commit_at, consumed, give_up, hand_out_as, is_open, is_server_stage, kill_all, kill_as, kill_at, killed, of_client, of_unit, release_as, release_at, requeue_as, requeue_at, submit_of, take_at}
use Rattle.tp_store.specs.Counting.{no_counts, no_tally}
use Rattle.tp_store.specs.Elements.{Entry, element_at, first_in, is_alive, is_waiting, queue_of, standing, is_held_by}
use Rattle.tp_store.specs.Ends.{is_over}
use Rattle.tp_store.specs.Runs.{after, Call, Submit, Claim, ClaimFrom, Take, Commit, Abort, Release, Kill, Cancel, Requeue, Collect, SetLimits, run}
use Rattle.tp_store.specs.Soundness.{IsSound}
use Rattle.tp_store.specs.State.{State, swept, with_births, with_change, with_end, start}
use Rattle.tp_store.proofs.AccountSteps.{acc_births, acc_change, acc_end, acc_steps, Accounted, as_number, HasStagesFrom}
use Rattle.tp_store.proofs.Accounting.{AddsUp, IsShown, IsTurn}
use Rattle.tp_store.specs.Restoring.{is_attempt}
use Rattle.tp_store.proofs.Settling.{none_settled}
use Rattle.tp_store.proofs.Leading.{AreAlive, calls_follow, cancel_kills, found_filter, kills_one, others_alive, sorted_filter, start_sound}
use Rattle.tp_store.proofs.Changing.{with_units}
use Rattle.tp_store.specs.Shelves.{AreSorted}
use Rattle.tp_store.proofs.Following.{alters_to, commit_alters, commit_bears, commit_ends, held_is, root_low, submit_bears}
use Rattle.tp_store.proofs.Forgetting.{Loses, loses_swept}
use Rattle.tp_store.proofs.Looking.{first_is}

module _ (low : ℕ) (lowest : low ≤ 1) where
  -- ---- the calls

  module _ (s : State) (sound : IsSound s) (few : s.next < 2 ^ 64 - 1) (acc : Accounted low s) where
    acc_to : (units id : ℕ) (e : Element) (status : Status) → element_at id s.elements ≡ Some e → is_attempt status ≡ true → IsTurn e.status status → Accounted low (with_units units (with_change id e (standing status e) s))
    acc_to units id e status found attempt turn = acc_change low s units id e (standing status e) sound few acc found refl attempt turn

    one_at_least : (n : ℕ) → nat_le 1 (n + 1) ≡ true
    one_at_least n = grind (arith, nat_tests)

    acc_out : (id : ℕ) (e : Element) → element_at id s.elements ≡ Some e → (status : Status) → e.status ≡ status → Accounted low (hand_out_as id e status s).1
    acc_out id e found (Waiting n) is = acc_to (s.units + 1) id e (Held s.units (n + 1)) found (one_at_least n) (rw is tt)
    acc_out id e found (Held u n) is = acc
    acc_out id e found (Consumed u) is = acc
    acc_out id e found (Parked n) is = acc
    acc_out id e found Killed is = acc

    acc_claim : (stage from : ℕ) (x : Option Entry) → first_in queue_of stage from s.elements ≡ x → Accounted low (claim_first x s).1
    acc_claim stage from None is = acc
    acc_claim stage from (Some x) is = as_out (hand_out_as x.0 x.1 x.1.status s) (acc_out x.0 x.1 (first_is queue_of stage from s.elements sound.sorted x is).found x.1.status refl)
      where
        as_out : (r : Result Work Refusal × State) → Accounted low r.1 → Accounted low (as_claimed r).1
        as_out (Ok w, t) a = a
        as_out (Err why, t) a = a

    acc_claim_from : (stage from : ℕ) (x : Option Entry) → first_in queue_of stage from s.elements ≡ x → Accounted low (claim_first (option_or x (first_in queue_of stage 0 s.elements)) s).1
    acc_claim_from stage from None is = acc_claim stage 0 (first_in queue_of stage 0 s.elements) refl
    acc_claim_from stage from (Some x) is = acc_claim stage from (Some x) is

    acc_take : (id : ℕ) (x : Option Element) → element_at id s.elements ≡ x → Accounted low (take_at id x s).1
    acc_take id None is = acc
    acc_take id (Some e) is = go (e.stage == REPLY_STAGE) refl
      where
        go : (b : Bool) → (e.stage == REPLY_STAGE) ≡ b → Accounted low (take_at id (Some e) s).1
        go true r = rw r acc
        go false r = rw r (acc_out id e is e.status refl)

    acc_give_up : (id u n : ℕ) (e : Element) → element_at id s.elements ≡ Some e → e.status ≡ Held u n → Accounted low (give_up id e n s)
    acc_give_up id u n e found held = go (nat_lt n s.limits.attempts) refl
      where
        go : (b : Bool) → nat_lt n s.limits.attempts ≡ b → Accounted low (give_up id e n s)
        go true h = rw h (acc_to s.units id e (Waiting n) found refl (rw held tt))
        go false h = rw h (acc_to s.units id e (Parked n) found refl (rw held tt))

    acc_abort : (id unit : ℕ) (x : Option Element) → element_at id s.elements ≡ x → Accounted low (abort_at id unit x s).1
    acc_abort id unit None is = acc
    acc_abort id unit (Some e) is = go e.status refl
      where
        by_unit : (u n : ℕ) → e.status ≡ Held u n → (b : Bool) → (u == unit) ≡ b → Accounted low (abort_as id unit e (Held u n) s).1
        by_unit u n held true same = rw same (acc_give_up id u n e is held)
        by_unit u n held false same = rw same acc

        go : (status : Status) → e.status ≡ status → Accounted low (abort_as id unit e status s).1
        go (Held u n) held = by_unit u n held (u == unit) refl
        go (Waiting n) held = acc
        go (Consumed u) held = acc
        go (Parked n) held = acc
        go Killed held = acc

    acc_release : (id : ℕ) (x : Option Element) → element_at id s.elements ≡ x → Accounted low (release_at id x s).1
    acc_release id None is = acc
    acc_release id (Some e) is = go e.status refl
      where
        go : (status : Status) → e.status ≡ status → Accounted low (release_as id e status s).1
        go (Held u n) held = acc_give_up id u n e is held
        go (Waiting n) held = acc
        go (Consumed u) held = acc
        go (Parked n) held = acc
        go Killed held = acc

    killed_turn : (x : Status) → is_alive x ≡ true → IsTurn x Killed
    killed_turn (Waiting n) h = tt
    killed_turn (Held u n) h = tt
    killed_turn (Parked n) h = tt
    killed_turn (Consumed u) h = absurd cc
    killed_turn Killed h = absurd cc

    acc_killed : (id : ℕ) (e : Element) → element_at id s.elements ≡ Some e → is_alive e.status ≡ true → Accounted low (killed id e s)
    acc_killed id e found alive = acc_to s.units id e Killed found refl (killed_turn e.status alive)

    acc_kill : (id : ℕ) (x : Option Element) → element_at id s.elements ≡ x → Accounted low (kill_at id x s).1
    acc_kill id None is = acc
    acc_kill id (Some e) is = go e.status refl
      where
        dead : is_alive e.status ≡ true → Accounted low (swept (with_end e.root (killed id e s)))
        dead alive = acc_end low e.root (killed id e s) (kills_one s id e sound is alive).alters.sound (root_low s sound id e is) (acc_killed id e is alive)

        go : (status : Status) → e.status ≡ status → Accounted low (kill_as id e status s).1
        go (Waiting n) was = dead (rw was refl)
        go (Held u n) was = dead (rw was refl)
        go (Parked n) was = dead (rw was refl)
        go (Consumed u) was = acc
        go Killed was = acc

    acc_requeue : (id : ℕ) (x : Option Element) → element_at id s.elements ≡ x → Accounted low (requeue_at id x s).1
    acc_requeue id None is = acc
    acc_requeue id (Some e) is = go e.status refl
      where
        parked : (n : ℕ) → e.status ≡ Parked n → (b : Bool) → nat_lt e.rounds MAX_ROUNDS ≡ b → Accounted low (requeue_as id e (Parked n) s).1
        parked n was true h = rw h (acc_change low s s.units id e (again n e) sound few acc is refl refl (rw was tt))
        parked n was false h = rw h acc

        go : (status : Status) → e.status ≡ status → Accounted low (requeue_as id e status s).1
        go (Parked n) was = parked n was (nat_lt e.rounds MAX_ROUNDS) refl
        go (Waiting n) was = acc
        go (Held u n) was = acc
        go (Consumed u) was = acc
        go Killed was = acc

    acc_collect : (id : ℕ) (x : Option Element) → element_at id s.elements ≡ x → Accounted low (collect_at id x s).1
    acc_collect id None is = acc
    acc_collect id (Some e) is = go (e.stage == REPLY_STAGE) refl
      where
        reply : e.stage ≡ REPLY_STAGE → (status : Status) → e.status ≡ status → Accounted low (collect_as id e status s).1
        reply r (Waiting n) was = acc_end low e.root t fit (root_low s sound id e is) (acc_to (s.units + 1) id e (Consumed s.units) is refl (rw was tt))
          where
            t : State
            t = with_units (s.units + 1) (with_change id e (standing (Consumed s.units) e) s)

            fit : IsSound t
            fit = (alters_to s sound (s.units + 1) id e (Consumed s.units) (omega arith) is (rw was tt) (rw was (inr (inr (r, s.units, refl)))) (λ u h. drawn u h) (λ r. refl)).sound
              where
                drawn : (u : ℕ) → Some s.units ≡ Some u → u < s.units + 1
                drawn u h = let same : s.units ≡ u = cc in omega arith
        reply r (Held u n) was = acc
        reply r (Consumed u) was = acc
        reply r (Parked n) was = acc
        reply r Killed was = acc

        go : (b : Bool) → (e.stage == REPLY_STAGE) ≡ b → Accounted low (collect_at id (Some e) s).1
        go true r = rw r (reply (as_number e.stage REPLY_STAGE r) e.status refl)
        go false r = rw r acc

    acc_submit : (stage : ℕ) (body : List ℕ) (owner : Option ℕ) → (submit_of stage body owner s).1.next < 2 ^ 64 - 1 → Accounted low (submit_of stage body owner s).1
    acc_submit stage body owner later = go (is_server_stage stage) (nat_lt (alive_in s) s.limits.most) refl refl later
      where
        b : State
        b = with_births (of_client s.next owner) (record { stage = stage; body = body } ∷ []) s

        there : (n : ℕ) → is_server_stage n ≡ true → (1 ≤ n) × (n ≤ LAST_STAGE)
        there n server = (grind (arith, nat_tests), grind (arith, nat_tests))

        own_root : (n k : ℕ) → k < 1 → (n == (n + k)) ≡ true
        own_root n k h = grind (arith, nat_tests)

        go : (x y : Bool) → is_server_stage stage ≡ x → nat_lt (alive_in s) s.limits.most ≡ y → (submit_of stage body owner s).1.next < 2 ^ 64 - 1 → Accounted low (submit_of stage body owner s).1
        go false y server room later = rw server acc
        go true false server room later = rw (server, room) acc
        go true true server room later =
            let high = rw (server, room) at later in
            let stage_is = there stage server in
            let next = (loses_swept b (submit_bears s sound stage body owner).sound).next in
            rw (server, room) (acc_steps low FORGET_STEPS b (submit_bears s sound stage body owner).sound (acc_births low (of_client s.next owner) (record { stage = stage; body = body } ∷ []) s sound ((omega arith, stage_is.1), tt) (λ k inside. own_root s.next k inside) (omega arith) acc))

    acc_commit : (id unit : ℕ) (drafts : List DraftView) → HasStagesFrom low (Commit id unit drafts) → (x : Option Element) → element_at id s.elements ≡ x → (commit_at id unit x drafts s).1.next < 2 ^ 64 - 1 → Accounted low (commit_at id unit x drafts s).1
    acc_commit id unit drafts stages None is later = acc
    acc_commit id unit drafts stages (Some e) is later = go (is_held_by unit e.status) refl later
      where
        done : (n : ℕ) → e.status ≡ Held unit n → (consumed id unit e drafts s).next < 2 ^ 64 - 1 → Accounted low (consumed id unit e drafts s)
        done n held later = acc_end low e.root t alters_sound (let a = before in omega arith) (acc_change low b b.units id e (standing (Consumed unit) e) bears_sound next_few (acc_births low (of_unit unit e) drafts s sound stages (λ k inside. unit_root k) next_few acc) found refl refl (rw held tt))
          where
            b : State
            b = with_births (of_unit unit e) drafts s

            t : State
            t = with_change id e (standing (Consumed unit) e) b

            bears_sound : IsSound b
            bears_sound = (commit_bears s sound id unit n e drafts is held).sound

            found : element_at id b.elements ≡ Some e
            found = (commit_bears s sound id unit n e drafts is held).keeps id e is

            alters_sound : IsSound t
            alters_sound = (commit_alters s sound id unit n e drafts is held).sound

            ends : Loses t (with_end e.root t)
            ends = commit_ends s sound id unit n e drafts is held

            next_few : s.next + length drafts < 2 ^ 64 - 1
            next_few = let a = (loses_swept (with_end e.root t) ends.sound).next in omega arith

            before : e.root < s.next
            before = root_low s sound id e is

            below : (m n : ℕ) → m < n → nat_lt m n ≡ true
            below m n h = grind (arith, nat_tests)

            unit_root : (k : ℕ) → nat_lt e.root (s.next + k) ≡ true
            unit_root k = let a = before in below e.root (s.next + k) (omega arith)

        go : (c : Bool) → is_held_by unit e.status ≡ c → (commit_at id unit (Some e) drafts s).1.next < 2 ^ 64 - 1 → Accounted low (commit_at id unit (Some e) drafts s).1
        go true held later = let n = held_is s sound unit e.status held in rw held (done n.0 n.1 (rw held at later))
        go false held later = rw held acc

  -- each of these is killed
  acc_kill_all : (xs : List Entry) (s : State) → IsSound s → s.next < 2 ^ 64 - 1 → Accounted low s → AreSorted xs → AreAlive s xs → Accounted low (kill_all xs s)
  acc_kill_all [] s sound few acc sorted all = acc
  acc_kill_all (x ∷ xs) s sound few acc sorted all =
      acc_kill_all xs (killed x.0 x.1 s) (kills_one s x.0 x.1 sound all.0.0 all.0.1).alters.sound few (acc_killed s sound few acc x.0 x.1 all.0.0 all.0.1) (sorted_tail nat_cmp x.0 (keys_of xs) sorted) (others_alive s x xs (sorted_head nat_cmp x.0 (keys_of xs) sorted) all.1)

  acc_cancel : (s : State) → IsSound s → s.next < 2 ^ 64 - 1 → Accounted low s → (root : ℕ) (x : Option Element) → element_at root s.elements ≡ x → Accounted low (cancel_at x root s).1
  acc_cancel s sound few acc root None is = acc
  acc_cancel s sound few acc root (Some e) is = go e.by
    where
      open_still : (b : Bool) → is_over root s.elements ≡ b → Accounted low (cancel_by None root s).1
      open_still true over = rw over acc
      open_still false over =
          let kills = cancel_kills s root sound in
          let drawn = (sound.each root e is).drawn in
          let next = kills.alters.next in
          rw over (acc_end low root (kill_all (filter (is_open root) s.elements) s) kills.alters.sound (omega arith) (acc_kill_all (filter (is_open root) s.elements) s sound few acc (sorted_filter root s.elements sound.sorted) (found_filter root s.elements sound.sorted)))

      go : (by : Option ℕ) → Accounted low (cancel_by by root s).1
      go (Some unit) = acc
      go None = open_still (is_over root s.elements) refl

  acc_after : (call : Call) (s : State) → IsSound s → s.next < 2 ^ 64 - 1 → HasStagesFrom low call → (after call s).next < 2 ^ 64 - 1 → Accounted low s → Accounted low (after call s)
  acc_after (Submit stage body owner) s sound few fit later acc = acc_submit s sound few acc stage body owner later
  acc_after (Claim stage) s sound few fit later acc = go (is_server_stage stage) refl
    where
      go : (b : Bool) → is_server_stage stage ≡ b → Accounted low (claim_of stage s).1
      go true server = rw server (acc_claim s sound few acc stage 0 (first_in queue_of stage 0 s.elements) refl)
      go false server = rw server acc
  acc_after (ClaimFrom stage from) s sound few fit later acc = go (is_server_stage stage) refl
    where
      go : (b : Bool) → is_server_stage stage ≡ b → Accounted low (claim_from_of stage from s).1
      go true server = rw server (acc_claim_from s sound few acc stage from (first_in queue_of stage from s.elements) refl)
      go false server = rw server acc
  acc_after (Take id) s sound few fit later acc = acc_take s sound few acc id (element_at id s.elements) refl
  acc_after (Commit id unit drafts) s sound few fit later acc = acc_commit s sound few acc id unit drafts fit (element_at id s.elements) refl later
  acc_after (Abort id unit) s sound few fit later acc = acc_abort s sound few acc id unit (element_at id s.elements) refl
  acc_after (Release id) s sound few fit later acc = acc_release s sound few acc id (element_at id s.elements) refl
  acc_after (Kill id) s sound few fit later acc = acc_kill s sound few acc id (element_at id s.elements) refl
  acc_after (Cancel root) s sound few fit later acc = acc_cancel s sound few acc root (element_at root s.elements) refl
  acc_after (Requeue id) s sound few fit later acc = acc_requeue s sound few acc id (element_at id s.elements) refl
  acc_after (SetLimits limits) s sound few fit later acc = record { told = acc.told; each = acc.each; settled = acc.settled }
  acc_after (Collect id) s sound few fit later acc = acc_collect s sound few acc id (element_at id s.elements) refl

  -- ---- runs

  next_before : (calls : List Call) (s : State) → IsSound s → s.next ≤ (run calls s).next
  next_before [] s sound = omega arith
  next_before (call ∷ calls) s sound = let led = calls_follow call s sound in let a = led.1.next in let b = next_before calls (after call s) led.0 in omega arith

  pub acc_run : (calls : List Call) (s : State) → IsSound s → AllByRecursion (HasStagesFrom low) calls → (run calls s).next < 2 ^ 64 - 1 → Accounted low s → Accounted low (run calls s)
  acc_run [] s sound fit few acc = acc
  acc_run (call ∷ calls) s sound fit few acc =
      let led = calls_follow call s sound in
      let next = led.1.next in
      let low = next_before calls (after call s) led.0 in
      acc_run calls (after call s) led.0 fit.1 few (acc_after call s sound (omega arith) fit.0 (omega arith) acc)

nothing_times : (n x : ℕ) → x ≡ 0 → n * x ≡ x
nothing_times n x h = rw h (omega arith)

pub start_accounted : (low : ℕ) → low ≤ 1 → (limits : Limits) → Accounted low (start limits)
start_accounted low lowest limits = record {
  told = record {
    long = length-replicate (LAST_STAGE + 1) no_counts;
    all = refl;
    add_waiting = adds (λ c. c.waiting) refl;
    add_held = adds (λ c. c.held) refl;
    add_consumed = adds (λ c. c.consumed) refl;
    add_parked = adds (λ c. c.parked) refl;
    add_killed = adds (λ c. c.killed) refl;
    waiting = shown (λ c. c.waiting) is_waiting refl;
    held = shown (λ c. c.held) is_held refl;
    parked = shown (λ c. c.parked) is_parked refl;
  };
  each = λ id e found. absurd cc;
  settled = none_settled low lowest;
}
  where
    adds : (get : Counts → ℕ) → get no_counts ≡ 0 → AddsUp get no_tally
    adds get zero_is = sum_by-replicate get (LAST_STAGE + 1) no_counts ∙ nothing_times (LAST_STAGE + 1) (get no_counts) zero_is

    shown : (get : Counts → ℕ) (is : Status → Bool) → get no_counts ≡ 0 → IsShown get is no_tally []
    shown get is zero_is = record {
      total = zero_is;
      stage = λ n low. ap get (get_or-replicate (LAST_STAGE + 1) n no_counts no_counts (omega arith)) ∙ zero_is;
    }

same_counts : (c d : Counts) → c.waiting ≡ d.waiting → c.held ≡ d.held → c.consumed ≡ d.consumed → c.parked ≡ d.parked → c.killed ≡ d.killed → c ≡ d
same_counts c d p q r s t = all c.waiting c.held c.consumed c.parked c.killed d.waiting d.held d.consumed d.parked d.killed p q r s t
  where
    as_counts : ℕ → ℕ → ℕ → ℕ → ℕ → Counts
    as_counts a b c d e = record { waiting = a; held = b; consumed = c; parked = d; killed = e }

    all : (a b c d e v w x y z : ℕ) → a ≡ v → b ≡ w → c ≡ x → d ≡ y → e ≡ z → as_counts a b c d e ≡ as_counts v w x y z
    all a b c d e v w x y z p q r s t = cc

account_of : (s : State) → Accounted 0 s → IsAccount s
account_of s acc = let t = acc.told in record {
  all = t.all;
  waiting = t.waiting.total;
  held = t.held.total;
  parked = t.parked.total;
  stage_waiting = t.waiting.stage;
  stage_held = t.held.stage;
  stage_parked = t.parked.stage;
  stages = same_counts (added s.tally.stages) s.tally.total t.add_waiting t.add_held t.add_consumed t.add_parked t.add_killed;
}

stages_from : (calls : List Call) → AllByRecursion HasStages calls → AllByRecursion (HasStagesFrom 0) calls
stages_from [] all = tt
stages_from (call ∷ calls) all = (one call all.0, stages_from calls all.1)
  where
    drafts_from : (ds : List DraftView) → AllByRecursion (λ d. d.stage ≤ LAST_STAGE) ds → AllByRecursion (λ d. (0 ≤ d.stage) × (d.stage ≤ LAST_STAGE)) ds
    drafts_from [] all = tt
    drafts_from (d ∷ ds) all = ((omega arith, all.0), drafts_from ds all.1)

    one : (call : Call) → HasStages call → HasStagesFrom 0 call
    one (Submit stage body owner) fit = tt
    one (Claim stage) fit = tt
    one (ClaimFrom stage from) fit = tt
    one (Take id) fit = tt
    one (Commit id unit drafts) fit = drafts_from drafts fit
    one (Abort id unit) fit = tt
    one (Release id) fit = tt
    one (Kill id) fit = tt
    one (Cancel root) fit = tt
    one (Requeue id) fit = tt
    one (Collect id) fit = tt
    one (SetLimits limits) fit = tt

pub accounts_hold : AccountsHold
accounts_hold limits calls fit few = account_of (run calls (start limits)) (acc_run 0 (omega arith) calls (start limits) (start_sound limits) (stages_from calls fit) few (start_accounted 0 (omega arith) limits))
