-- Nothing that is accepted is ever stuck.
use Rattle.std.proofs.Common.{◌≡◌, ◌≢◌, ◌⊎◌, inl, inr, ◌==◌, ◌<◌, ◌+◌, ℕ, Bool, true, false, nat_lt, Option, Some, None, Result, Ok, Err, IsOk, [], ◌∷◌, refl, ◌∙◌, subst, arith}
use Rattle.std.specs.Option.{option_or}
use Rattle.std.proofs.lemmas.Bool.Decides.{nat_tests}
use Rattle.tp_model.specs.Drafts.{DraftView}
use Rattle.tp_store.specs.declared.answers.Refusal.{Refusal}
use Rattle.tp_store.specs.declared.answers.Work.{Work}
use Rattle.tp_store.specs.declared.element.TheConstants.{MAX_ROUNDS, REPLY_STAGE}
use Rattle.tp_store.specs.declared.element.Element.{Element}
use Rattle.tp_store.specs.declared.element.Status.{Status}
use Rattle.tp_store.specs.declared.element.Status.TheVariants.{Waiting, Held, Consumed, Parked, Killed}
use Rattle.tp_store.specs.Calls.{again, alive_in, as_claimed, claim_first, claim_from_of, claim_of, given_up, hand_out_as, is_server_stage, kill_as, of_client, of_unit, take_at, take_of, work_on}
use Rattle.tp_store.specs.Elements.{Entry, element_at, first_in, is_alive, is_group, queue_in, queue_of, standing}
use Rattle.tp_store.specs.Ends.{is_over}
use Rattle.tp_store.specs.Progress.{AbortsHeld, ClaimsFirst, CollectsReplies, CommitsHeld, HandsOut, IsHandedOut, IsOnFirst, KillsAlive, NeverIdle, OutputsWait, RequeuesParked, SubmitsWait, TakesWaiting, Waits}
use Rattle.tp_store.specs.State.{State, made, swept, with_births, with_change, with_end}
use Rattle.tp_store.proofs.Changing.{all_there, Alters, Bears}
use Rattle.tp_store.proofs.Following.{commit_alters, commit_bears, commit_ends, submit_bears}
use Rattle.tp_store.proofs.Forgetting.{Loses, loses_both, loses_swept}
use Rattle.tp_store.proofs.Looking.{first_is, none_is, put_looks}
use Rattle.tp_store.proofs.Overs.{differ, live_from}

same_group : (g : ℕ) → (g == g) ≡ true
same_group g = grind (arith, nat_tests)

-- what waits stands in the queue of its stage
queued : (s : State) (id n : ℕ) (e : Element) → Waits s id n e → is_group e.stage (queue_of e) ≡ true
queued s id n e w = rw w.waits (same_group e.stage)

-- what stands in the queue of a server's stage waits there
waits_in : (stage group : ℕ) (status : Status) → is_server_stage group ≡ true → is_group group (queue_in stage status) ≡ true → (n : ℕ) × (status ≡ Waiting n) × (stage ≡ group)
waits_in stage group (Waiting n) server h = (n, refl, grind (arith, nat_tests))
waits_in stage group (Parked n) server h = absurd (grind (arith, nat_tests))
waits_in stage group (Held u n) server h = absurd cc
waits_in stage group (Consumed u) server h = absurd cc
waits_in stage group Killed server h = absurd cc

pub never_idle : NeverIdle
never_idle s id n e w = go (is_server_stage e.stage) refl (first_in queue_of e.stage 0 s.elements) refl
  where
    some : (x : Entry) (status : Status) → (as_claimed (hand_out_as x.0 x.1 status s)).0 ≢ Ok None
    some x (Waiting n) h = cc
    some x (Held u n) h = cc
    some x (Consumed u) h = cc
    some x (Parked n) h = cc
    some x Killed h = cc

    go : (b : Bool) → is_server_stage e.stage ≡ b → (x : Option Entry) → first_in queue_of e.stage 0 s.elements ≡ x → (claim_of e.stage s).0 ≢ Ok None
    go true server (Some x) h = rw (server, h) (some x x.1.status)
    go false server x h = rw server (λ c. cc)
    go true server None h = absurd (differ (none_is queue_of e.stage 0 s.elements h id e w.found (omega arith)) (queued s id n e w))
      where
        differ : {b : Bool} → b ≡ false → b ≡ true → ⊥
        differ e f = absurd cc

pub claims_first : ClaimsFirst
claims_first s id n e sound w server = go (first_in queue_of e.stage 0 s.elements) refl
  where
    handed : (x : Entry) (m : ℕ) (status : Status) → status ≡ Waiting m → (as_claimed (hand_out_as x.0 x.1 status s)).0 ≡ Ok (Some (work_on s.units x.0 m (standing (Held s.units (m + 1)) x.1)))
    handed x m status is = rw is refl

    go : (x : Option Entry) → first_in queue_of e.stage 0 s.elements ≡ x → (work : Work) × ((claim_of e.stage s).0 ≡ Ok (Some work)) × IsOnFirst s e.stage work
    go None h = absurd (differ (none_is queue_of e.stage 0 s.elements h id e w.found (omega arith)) (queued s id n e w))
      where
        differ : {b : Bool} → b ≡ false → b ≡ true → ⊥
        differ e f = absurd cc
    go (Some x) h =
        let f = first_is queue_of e.stage 0 s.elements sound.sorted x h in
        let q = waits_in x.1.stage e.stage x.1.status server f.member in (
          work_on s.units x.0 q.0 (standing (Held s.units (q.0 + 1)) x.1),
          rw (server, h) (handed x q.0 x.1.status q.1),
          record {
            attempts = q.0;
            old = x.1;
            waited = record { found = f.found; waits = q.1 };
            stage_is = q.2;
            attempt = refl;
            held = refl;
            first = λ i m d waits same. f.least i d waits.found (omega arith) (rw (← same) (queued s i m d waits));
          },
        )

-- ---- what is handed out

module _ (s : State) where
  handed_as : (id : ℕ) (e : Element) (status : Status) (work : Work) → (hand_out_as id e status s).0 ≡ Ok work → IsHandedOut (hand_out_as id e status s).1 work
  handed_as id e (Waiting n) work h =
      let same : work_on s.units id n (standing (Held s.units (n + 1)) e) ≡ work = cc in
      subst (IsHandedOut (hand_out_as id e (Waiting n) s).1) same (put_looks id (standing (Held s.units (n + 1)) e) s.elements id ∙ rw (same_group id) refl, refl)
  handed_as id e (Held u n) work h = absurd cc
  handed_as id e (Consumed u) work h = absurd cc
  handed_as id e (Parked n) work h = absurd cc
  handed_as id e Killed work h = absurd cc

  claimed : (r : Result Work Refusal × State) (work : Work) → (r.0 ≡ Ok work → IsHandedOut r.1 work) → (as_claimed r).0 ≡ Ok (Some work) → IsHandedOut (as_claimed r).1 work
  claimed (Ok w, t) work on h = on (cc)
  claimed (Err why, t) work on h = absurd cc

  first_handed : (x : Option Entry) (work : Work) → (claim_first x s).0 ≡ Ok (Some work) → IsHandedOut (claim_first x s).1 work
  first_handed None work h = absurd cc
  first_handed (Some x) work h = claimed (hand_out_as x.0 x.1 x.1.status s) work (handed_as x.0 x.1 x.1.status work) h

  claim_handed : (stage : ℕ) (work : Work) → (claim_of stage s).0 ≡ Ok (Some work) → IsHandedOut (claim_of stage s).1 work
  claim_handed stage work h = go (is_server_stage stage) refl h
    where
      go : (b : Bool) → is_server_stage stage ≡ b → (claim_of stage s).0 ≡ Ok (Some work) → IsHandedOut (claim_of stage s).1 work
      go true server h = rw server (first_handed (first_in queue_of stage 0 s.elements) work (rw server at h))
      go false server h = absurd (let no = rw server at h in cc)

  claim_from_handed : (stage from : ℕ) (work : Work) → (claim_from_of stage from s).0 ≡ Ok (Some work) → IsHandedOut (claim_from_of stage from s).1 work
  claim_from_handed stage from work h = go (is_server_stage stage) refl h
    where
      go : (b : Bool) → is_server_stage stage ≡ b → (claim_from_of stage from s).0 ≡ Ok (Some work) → IsHandedOut (claim_from_of stage from s).1 work
      go true server h = rw server (first_handed (option_or (first_in queue_of stage from s.elements) (first_in queue_of stage 0 s.elements)) work (rw server at h))
      go false server h = absurd (let no = rw server at h in cc)

  take_handed : (id : ℕ) (work : Work) → (take_of id s).0 ≡ Ok work → IsHandedOut (take_of id s).1 work
  take_handed id work h = go (element_at id s.elements) h
    where
      at : (e : Element) (b : Bool) → (e.stage == REPLY_STAGE) ≡ b → (take_at id (Some e) s).0 ≡ Ok work → IsHandedOut (take_at id (Some e) s).1 work
      at e true r h = absurd (let no = rw r at h in cc)
      at e false r h = rw r (handed_as id e e.status work (rw r at h))

      go : (x : Option Element) → (take_at id x s).0 ≡ Ok work → IsHandedOut (take_at id x s).1 work
      go None h = absurd cc
      go (Some e) h = at e (e.stage == REPLY_STAGE) refl h

pub hands_out : HandsOut
hands_out s stage from id work sound = (claim_handed s stage work, claim_from_handed s stage from work, take_handed s id work)

-- ---- what can be done

not_same : (m n : ℕ) → m ≢ n → (m == n) ≡ false
not_same m n h = grind (arith, nat_tests)

pub takes_waiting : TakesWaiting
takes_waiting s id n e w server = rw (w.found, not_same e.stage REPLY_STAGE server, w.waits) refl

pub collects_replies : CollectsReplies
collects_replies s id n e w reply = rw (w.found, reply, w.waits) refl

pub commits_held : CommitsHeld
commits_held s id unit n e drafts h = rw (h.found, h.held, same_group unit) refl

pub aborts_held : AbortsHeld
aborts_held s id unit n e h = rw (h.found, h.held, same_group unit) (refl, put_looks id (standing (given_up s.limits.attempts n) e) s.elements id ∙ rw (same_group id) refl)

pub requeues_parked : RequeuesParked
requeues_parked s id n e found parked few = rw (found, parked, below e.rounds MAX_ROUNDS few) (refl, put_looks id (again n e) s.elements id ∙ rw (same_group id) refl)
  where
    below : (m n : ℕ) → m < n → nat_lt m n ≡ true
    below m n h = grind (arith, nat_tests)

pub kills_alive : KillsAlive
kills_alive s id e found alive = rw found (go e.status alive)
  where
    go : (x : Status) → is_alive x ≡ true → IsOk (kill_as id e x s).0
    go (Waiting n) h = refl
    go (Held u n) h = refl
    go (Parked n) h = refl
    go (Consumed u) h = absurd cc
    go Killed h = absurd cc

-- ---- what is born waits

-- an alive element outlasts a sweep
alive_stays : (t u : State) (id : ℕ) (e : Element) → Loses t u → element_at id t.elements ≡ Some e → is_over e.root t.elements ≡ false → element_at id u.elements ≡ Some e
alive_stays t u id e loses found live = go (loses.stays id e found)
  where
    go : (element_at id u.elements ≡ Some e) ⊎ ((element_at id u.elements ≡ None) × (is_over e.root t.elements ≡ true)) → element_at id u.elements ≡ Some e
    go (inl there) = there
    go (inr gone) = differ live gone.1

pub submits_wait : SubmitsWait
submits_wait s stage body owner sound server room = rw (server, below (alive_in s) s.limits.most room) (refl, alive_stays b (swept b) s.next new (loses_swept b bears.sound) found (live_from s.next s.next new b.elements found refl refl))
  where
    below : (m n : ℕ) → m < n → nat_lt m n ≡ true
    below m n h = grind (arith, nat_tests)

    draft : DraftView
    draft = record { stage = stage; body = body }

    b : State
    b = with_births (of_client s.next owner) (draft ∷ []) s

    new : Element
    new = made (of_client s.next owner) draft

    bears : Bears s b
    bears = submit_bears s sound stage body owner

    found : element_at s.next b.elements ≡ Some new
    found = subst (λ q. element_at q b.elements ≡ Some new) (omega arith) (all_there (of_client s.next owner) s.next (draft ∷ []) s.elements 0 draft refl)

pub outputs_wait : OutputsWait
outputs_wait s id unit n e drafts k d sound h at = rw (h.found, h.held, same_group unit) (alive_stays t (swept (with_end e.root t)) (s.next + k) new (loses_both t (with_end e.root t) (swept (with_end e.root t)) alters.sound ends (loses_swept (with_end e.root t) ends.sound)) found (live_from e.root (s.next + k) new t.elements found refl refl))
  where
    b : State
    b = with_births (of_unit unit e) drafts s

    t : State
    t = with_change id e (standing (Consumed unit) e) b

    new : Element
    new = made (of_unit unit e) d

    bears : Bears s b
    bears = commit_bears s sound id unit n e drafts h.found h.held

    alters : Alters b t
    alters = commit_alters s sound id unit n e drafts h.found h.held

    ends : Loses t (with_end e.root t)
    ends = commit_ends s sound id unit n e drafts h.found h.held

    found : element_at (s.next + k) t.elements ≡ Some new
    found = put_looks id (standing (Consumed unit) e) b.elements (s.next + k) ∙ rw (apart id (s.next + k) (let low = (sound.each id e h.found).drawn in omega arith)) (all_there (of_unit unit e) s.next drafts s.elements k d at)
      where
        apart : (m n : ℕ) → m < n → (m == n) ≡ false
        apart m n h = grind (arith, nat_tests)
