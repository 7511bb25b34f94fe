-- What each call leaves follows what was before it.
use Rattle.std.proofs.Common.{◌≡◌, inl, inr, ◌==◌, ◌≤◌, ◌<◌, ◌+◌, ℕ, zero, suc, Bool, true, false, nat_lt, Option, Some, None, Result, Ok, Err, List, [], ◌∷◌, slice_get, refl, sym, ◌∙◌, ap, arith}
use Rattle.std.specs.Option.{option_or}
use Rattle.std.proofs.lemmas.Bool.Decides.{nat_tests}
use Rattle.tp_model.specs.Drafts.{DraftView}
use Rattle.tp_store.specs.declared.element.TheConstants.{MAX_ROUNDS, REPLY_STAGE}
use Rattle.tp_store.specs.declared.element.Element.{Element}
use Rattle.tp_store.specs.declared.element.Status.{Status}
use Rattle.tp_store.specs.declared.element.Status.TheVariants.{Waiting, Held, Consumed, Parked, Killed}
use Rattle.tp_store.specs.declared.answers.Refusal.{Refusal}
use Rattle.tp_store.specs.declared.answers.Work.{Work}
use Rattle.tp_store.specs.Calls.{abort_as, abort_at, again, alive_in, as_claimed, claim_first, collect_as, collect_at, commit_at, consumed, give_up, kill_at, release_at, requeue_at, take_at, hand_out_as, is_server_stage, kill_as, killed, of_client, of_unit, release_as, requeue_as}
use Rattle.tp_store.specs.Calls.{submit_of}
use Rattle.tp_store.specs.Changes.{earlier_after, Follows, Goes, rounds_after, Turns}
use Rattle.tp_store.specs.Elements.{Entry, element_at, first_in, is_group, queue_in, queue_of, standing, is_held_by}
use Rattle.tp_store.specs.Soundness.{IsSound, IsSoundElement, is_for_reply, unit_in}
use Rattle.tp_store.specs.State.{State, swept, with_births, with_change, with_end}
use Rattle.tp_store.proofs.Changing.{Alters, alters_change, alters_none, Bears, bears_births, bears_none, follows, index_below, with_units}
use Rattle.tp_store.proofs.Forgetting.{Loses, loses_both, loses_end, loses_none, loses_swept}
use Rattle.tp_store.proofs.Keeping.{KeepsAlive, keeps_end, keeps_none, keeps_swept}
use Rattle.tp_store.proofs.Looking.{first_is}
use Rattle.tp_store.proofs.Overs.{differ, live_from}

-- a store behind a call is sound, and follows
abbrev pub Led : State → State → Type 0
Led s u = IsSound u × Follows s u × KeepsAlive s u × (u.limits ≡ s.limits)

pub led_none : (s : State) → IsSound s → Led s s
led_none s sound = follows s s s s (bears_none s sound) (alters_none s sound) (loses_none s sound) (keeps_none s s)

-- an element that stands anew is sound
pub standing_sound : (s : State) (units id : ℕ) (e : Element) (status : Status) → s.units ≤ units → IsSoundElement s id e → ((u : ℕ) → unit_in status ≡ Some u → u < units) → (e.stage ≡ REPLY_STAGE → is_for_reply status ≡ true) → IsSoundElement (with_units units s) id (standing status e)
standing_sound s units id e status more is taken reply = record {
  drawn = is.drawn;
  root = is.root;
  rounds = is.rounds;
  made_by = λ u h. let low = is.made_by u h in omega arith;
  taken_by = taken;
  reply = reply;
}

-- it goes there, but where it is parked before and waits then
abbrev pub IsPlain : Status → Status → Type 0
IsPlain (Parked n) (Waiting m) = ⊥
IsPlain old new = Unit {0}

pub goes_to : (e : Element) (status : Status) → IsPlain e.status status → Turns e.stage e.status status → Goes e (standing status e)
goes_to e status plain turn = record { contents = refl; status = inr turn; rounds = go e.status status plain; earlier = before e.status status plain }
  where
    go : (x y : Status) → IsPlain x y → e.rounds ≡ rounds_after x y e.rounds
    go (Parked n) (Waiting m) plain = absurd plain
    go (Parked n) (Held u m) plain = refl
    go (Parked n) (Consumed u) plain = refl
    go (Parked n) (Parked m) plain = refl
    go (Parked n) Killed plain = refl
    go (Waiting n) y plain = refl
    go (Held u n) y plain = refl
    go (Consumed u) y plain = refl
    go Killed y plain = refl

    before : (x y : Status) → IsPlain x y → e.earlier ≡ earlier_after x y e.earlier
    before (Parked n) (Waiting m) plain = absurd plain
    before (Parked n) (Held u m) plain = refl
    before (Parked n) (Consumed u) plain = refl
    before (Parked n) (Parked m) plain = refl
    before (Parked n) Killed plain = refl
    before (Waiting n) y plain = refl
    before (Held u n) y plain = refl
    before (Consumed u) y plain = refl
    before Killed y plain = refl

module _ (s : State) (sound : IsSound s) where
  -- an element stands anew, and more units may have been drawn
  pub alters_to : (units id : ℕ) (e : Element) (status : Status) → s.units ≤ units → element_at id s.elements ≡ Some e → IsPlain e.status status → Turns e.stage e.status status → ((u : ℕ) → unit_in status ≡ Some u → u < units) → (e.stage ≡ REPLY_STAGE → is_for_reply status ≡ true)
      → Alters s (with_units units (with_change id e (standing status e) s))
  alters_to units id e status more found plain turn taken reply = alters_change s units id e (standing status e) more sound found (goes_to e status plain turn) (standing_sound s units id e status more (sound.each id e found) taken reply)

  -- and so in a call that does no more
  led_change : (t : State) → Alters s t → Led s t
  led_change t alters = follows s s t t (bears_none s sound) alters (loses_none t alters.sound) (keeps_none s t)

  -- or one that notes the end of the element's request, and sweeps
  pub led_end : (t : State) (root : ℕ) → Alters s t → t.ended ≡ s.ended → root < s.next → Led s (swept (with_end root t))
  led_end t root alters ended low =
      let ends = loses_end root t (let same = alters.next in omega arith) alters.sound in
      follows s s t (swept (with_end root t)) (bears_none s sound) alters (loses_both t (with_end root t) (swept (with_end root t)) alters.sound ends (loses_swept (with_end root t) ends.sound)) (keeps_end s t root sound ends.sound alters.limits ended)

  pub root_low : (id : ℕ) (e : Element) → element_at id s.elements ≡ Some e → e.root < s.next
  root_low id e found = let fit = sound.each id e found in let a = fit.drawn in let b = fit.root in omega arith

  -- a unit takes it
  pub led_out : (id : ℕ) (e : Element) → element_at id s.elements ≡ Some e → (e.stage ≡ REPLY_STAGE → ⊥) → (status : Status) → e.status ≡ status → Led s (hand_out_as id e status s).1
  led_out id e found server (Waiting n) is = led_change _ (alters_to (s.units + 1) id e (Held s.units (n + 1)) (omega arith) found (rw is tt) (rw is (inl (s.units, refl))) (λ u h. taken u h) (λ r. absurd (server r)))
    where
      taken : (u : ℕ) → Some s.units ≡ Some u → u < s.units + 1
      taken u h = let same : s.units ≡ u = cc in omega arith
  led_out id e found server (Held u n) is = led_none s sound
  led_out id e found server (Consumed u) is = led_none s sound
  led_out id e found server (Parked n) is = led_none s sound
  led_out id e found server Killed is = led_none s sound

  -- what stands in a server's queue is no reply
  pub queued_stage : (stage group : ℕ) (status : Status) → is_server_stage group ≡ true → is_group group (queue_in stage status) ≡ true → stage ≡ REPLY_STAGE → ⊥
  queued_stage stage group (Waiting n) server h r = absurd (grind (arith, nat_tests))
  queued_stage stage group (Parked n) server h r = absurd (grind (arith, nat_tests))
  queued_stage stage group (Held u n) server h r = absurd cc
  queued_stage stage group (Consumed u) server h r = absurd cc
  queued_stage stage group Killed server h r = absurd cc

  pub led_claim : (stage from : ℕ) → is_server_stage stage ≡ true → (x : Option Entry) → first_in queue_of stage from s.elements ≡ x → Led s (claim_first x s).1
  led_claim stage from server None h = led_none s sound
  led_claim stage from server (Some x) h =
      let f = first_is queue_of stage from s.elements sound.sorted x h in
      claimed (hand_out_as x.0 x.1 x.1.status s) (led_out x.0 x.1 f.found (queued_stage x.1.stage stage x.1.status server f.member) x.1.status refl)
    where
      claimed : (r : Result Work Refusal × State) → Led s r.1 → Led s (as_claimed r).1
      claimed (Ok work, t) led = led
      claimed (Err why, t) led = led

  pub led_claim_from : (stage from : ℕ) → is_server_stage stage ≡ true → (x : Option Entry) → first_in queue_of stage from s.elements ≡ x → Led s (claim_first (option_or x (first_in queue_of stage 0 s.elements)) s).1
  led_claim_from stage from server None h = led_claim stage 0 server (first_in queue_of stage 0 s.elements) refl
  led_claim_from stage from server (Some x) h = led_claim stage from server (Some x) h

  pub led_take : (id : ℕ) (x : Option Element) → element_at id s.elements ≡ x → Led s (take_at id x s).1
  led_take id None h = led_none s sound
  led_take id (Some e) h = go (e.stage == REPLY_STAGE) refl
    where
      apart : (a b : ℕ) → (a == b) ≡ false → a ≡ b → ⊥
      apart a b h e = absurd (grind (arith, nat_tests))

      go : (b : Bool) → (e.stage == REPLY_STAGE) ≡ b → Led s (take_at id (Some e) s).1
      go true r = rw r (led_none s sound)
      go false r = rw r (led_out id e h (apart e.stage REPLY_STAGE r) e.status refl)

  -- what is held isn't a reply
  pub held_stage : (id : ℕ) (e : Element) (u n : ℕ) → element_at id s.elements ≡ Some e → e.status ≡ Held u n → e.stage ≡ REPLY_STAGE → ⊥
  held_stage id e u n found is r = differ refl (sym (ap is_for_reply is) ∙ (sound.each id e found).reply r)

  pub led_give_up : (id : ℕ) (e : Element) (u n : ℕ) → element_at id s.elements ≡ Some e → e.status ≡ Held u n → Led s (give_up id e n s)
  led_give_up id e u n found is = go (nat_lt n s.limits.attempts) refl
    where
      go : (b : Bool) → nat_lt n s.limits.attempts ≡ b → Led s (give_up id e n s)
      go true h = rw h (led_change _ (alters_to s.units id e (Waiting n) (omega arith) found (rw is tt) (rw is (inr (inl refl))) (λ v h. absurd cc) (λ r. refl)))
      go false h = rw h (led_change _ (alters_to s.units id e (Parked n) (omega arith) found (rw is tt) (rw is (inr (inr (inl refl)))) (λ v h. absurd cc) (λ r. absurd (held_stage id e u n found is r))))

  pub led_abort : (id unit : ℕ) (x : Option Element) → element_at id s.elements ≡ x → Led s (abort_at id unit x s).1
  led_abort id unit None h = led_none s sound
  led_abort id unit (Some e) h = go e.status refl
    where
      held : (u n : ℕ) → e.status ≡ Held u n → (b : Bool) → (u == unit) ≡ b → Led s (abort_as id unit e (Held u n) s).1
      held u n is true same = rw same (led_give_up id e u n h is)
      held u n is false same = rw same (led_none s sound)

      go : (status : Status) → e.status ≡ status → Led s (abort_as id unit e status s).1
      go (Held u n) is = held u n is (u == unit) refl
      go (Waiting n) is = led_none s sound
      go (Consumed u) is = led_none s sound
      go (Parked n) is = led_none s sound
      go Killed is = led_none s sound

  pub led_release : (id : ℕ) (x : Option Element) → element_at id s.elements ≡ x → Led s (release_at id x s).1
  led_release id None h = led_none s sound
  led_release id (Some e) h = go e.status refl
    where
      go : (status : Status) → e.status ≡ status → Led s (release_as id e status s).1
      go (Held u n) is = led_give_up id e u n h is
      go (Waiting n) is = led_none s sound
      go (Consumed u) is = led_none s sound
      go (Parked n) is = led_none s sound
      go Killed is = led_none s sound

  pub led_kill : (id : ℕ) (x : Option Element) → element_at id s.elements ≡ x → Led s (kill_at id x s).1
  led_kill id None h = led_none s sound
  led_kill id (Some e) h = go e.status refl
    where
      dead : (status : Status) → e.status ≡ status → IsPlain status Killed → Turns e.stage status Killed → Led s (swept (with_end e.root (killed id e s)))
      dead status is plain turn = led_end (killed id e s) e.root (alters_to s.units id e Killed (omega arith) h (rw is plain) (rw is turn) (λ v h. absurd cc) (λ r. refl)) refl (root_low id e h)

      go : (status : Status) → e.status ≡ status → Led s (kill_as id e status s).1
      go (Waiting n) is = dead (Waiting n) is tt (inr (inl refl))
      go (Held u n) is = dead (Held u n) is tt (inr (inr (inr refl)))
      go (Parked n) is = dead (Parked n) is tt (inr refl)
      go (Consumed u) is = led_none s sound
      go Killed is = led_none s sound

  pub led_requeue : (id : ℕ) (x : Option Element) → element_at id s.elements ≡ x → Led s (requeue_at id x s).1
  led_requeue id None h = led_none s sound
  led_requeue id (Some e) h = go e.status refl
    where
      below : (m n : ℕ) → nat_lt m n ≡ true → m + 1 ≤ n
      below m n h = grind (arith, nat_tests)

      parked : (n : ℕ) → e.status ≡ Parked n → (b : Bool) → nat_lt e.rounds MAX_ROUNDS ≡ b → Led s (requeue_as id e (Parked n) s).1
      parked n is false few = rw few (led_none s sound)
      parked n is true few = rw few (led_change _ (alters_change s s.units id e (again n e) (omega arith) sound h goes fit))
        where
          goes : Goes e (again n e)
          goes = record { contents = refl; status = rw is (inr (inl refl)); rounds = rw is refl; earlier = rw is refl }

          fit : IsSoundElement s id (again n e)
          fit = let old = sound.each id e h in record { drawn = old.drawn; root = old.root; rounds = below e.rounds MAX_ROUNDS few; made_by = old.made_by; taken_by = λ v h. absurd cc; reply = λ r. refl }

      go : (status : Status) → e.status ≡ status → Led s (requeue_as id e status s).1
      go (Parked n) is = parked n is (nat_lt e.rounds MAX_ROUNDS) refl
      go (Waiting n) is = led_none s sound
      go (Held u n) is = led_none s sound
      go (Consumed u) is = led_none s sound
      go Killed is = led_none s sound

  pub led_collect : (id : ℕ) (x : Option Element) → element_at id s.elements ≡ x → Led s (collect_at id x s).1
  led_collect id None h = led_none s sound
  led_collect id (Some e) h = go (e.stage == REPLY_STAGE) refl
    where
      as_number : (m n : ℕ) → (m == n) ≡ true → m ≡ n
      as_number m n h = grind (arith, nat_tests)

      reply : e.stage ≡ REPLY_STAGE → (status : Status) → e.status ≡ status → Led s (collect_as id e status s).1
      reply r (Waiting n) is = led_end (with_units (s.units + 1) (with_change id e (standing (Consumed s.units) e) s)) e.root (alters_to (s.units + 1) id e (Consumed s.units) (omega arith) h (rw is tt) (rw is (inr (inr (r, s.units, refl)))) (λ u h. taken u h) (λ r. refl)) refl (root_low id e h)
        where
          taken : (u : ℕ) → Some s.units ≡ Some u → u < s.units + 1
          taken u h = let same : s.units ≡ u = cc in omega arith
      reply r (Held u n) is = led_none s sound
      reply r (Consumed u) is = led_none s sound
      reply r (Parked n) is = led_none s sound
      reply r Killed is = led_none s sound

      go : (b : Bool) → (e.stage == REPLY_STAGE) ≡ b → Led s (collect_at id (Some e) s).1
      go true r = rw r (reply (as_number e.stage REPLY_STAGE r) e.status refl)
      go false r = rw r (led_none s sound)

  pub submit_bears : (stage : ℕ) (body : List ℕ) (owner : Option ℕ) → Bears s (with_births (of_client s.next owner) (record { stage = stage; body = body } ∷ []) s)
  submit_bears stage body owner = bears_births (of_client s.next owner) drafts s sound (omega arith) (λ u h. absurd cc) (λ k d at. inl (place k d at))
    where
      drafts : List DraftView
      drafts = record { stage = stage; body = body } ∷ []

      place : (k : ℕ) (d : DraftView) → slice_get drafts k ≡ Some d → s.next ≡ s.next + k
      place zero d at = omega arith
      place (suc k) d at = absurd (let low = index_below drafts (suc k) d at in omega arith)

  pub led_submit : (stage : ℕ) (body : List ℕ) (owner : Option ℕ) → Led s (submit_of stage body owner s).1
  led_submit stage body owner = go (is_server_stage stage) (nat_lt (alive_in s) s.limits.most) refl refl
    where
      go : (b c : Bool) → is_server_stage stage ≡ b → nat_lt (alive_in s) s.limits.most ≡ c → Led s (submit_of stage body owner s).1
      go false c server room = rw server (led_none s sound)
      go true false server room = rw (server, room) (led_none s sound)
      go true true server room = let bears = submit_bears stage body owner in rw (server, room) (follows s _ _ _ bears (alters_none _ bears.sound) (loses_swept _ bears.sound) (keeps_swept s _ sound bears.sound refl refl))

  module _ (id unit n : ℕ) (e : Element) (drafts : List DraftView) (h : element_at id s.elements ≡ Some e) (is : e.status ≡ Held unit n) where
    -- the unit was drawn
    pub commit_taken : unit < s.units
    commit_taken = (sound.each id e h).taken_by unit (ap unit_in is)

    commit_by : (u : ℕ) → Some unit ≡ Some u → u < s.units
    commit_by u h = let same : unit ≡ u = cc in let low = commit_taken in omega arith

    -- a commit's births, what becomes of its element, and the end of the request
    pub commit_bears : Bears s (with_births (of_unit unit e) drafts s)
    commit_bears = bears_births (of_unit unit e) drafts s sound (let a = (sound.each id e h).drawn in let c = (sound.each id e h).root in omega arith) commit_by (λ k d at. inr (live_from e.root id e s.elements h refl (rw is refl)))

    pub commit_alters : Alters (with_births (of_unit unit e) drafts s) (with_change id e (standing (Consumed unit) e) (with_births (of_unit unit e) drafts s))
    commit_alters =
        let found = commit_bears.keeps id e h in
        alters_change (with_births (of_unit unit e) drafts s) s.units id e (standing (Consumed unit) e) (omega arith) commit_bears.sound found (goes_to e (Consumed unit) (rw is tt) (rw is (inl refl))) (standing_sound (with_births (of_unit unit e) drafts s) s.units id e (Consumed unit) (omega arith) (commit_bears.sound.each id e found) commit_by (λ r. refl))

    pub commit_ends : Loses (with_change id e (standing (Consumed unit) e) (with_births (of_unit unit e) drafts s)) (with_end e.root (with_change id e (standing (Consumed unit) e) (with_births (of_unit unit e) drafts s)))
    commit_ends = loses_end e.root (with_change id e (standing (Consumed unit) e) (with_births (of_unit unit e) drafts s)) (let a = (sound.each id e h).drawn in let c = (sound.each id e h).root in omega arith) commit_alters.sound

    led_consumed : Led s (consumed id unit e drafts s)
    led_consumed =
        let b = with_births (of_unit unit e) drafts s in
        let t = with_change id e (standing (Consumed unit) e) b in
        follows s b t (swept (with_end e.root t)) commit_bears commit_alters (loses_both t (with_end e.root t) (swept (with_end e.root t)) commit_alters.sound commit_ends (loses_swept (with_end e.root t) commit_ends.sound)) (keeps_end s t e.root sound commit_ends.sound refl refl)

  -- what a unit holds
  pub held_is : (unit : ℕ) (status : Status) → is_held_by unit status ≡ true → (n : ℕ) × (status ≡ Held unit n)
  held_is unit (Held u n) h = (n, ap (λ v. Held v n) (as_number u unit h))
    where
      as_number : (m n : ℕ) → (m == n) ≡ true → m ≡ n
      as_number m n h = grind (arith, nat_tests)
  held_is unit (Waiting n) h = absurd cc
  held_is unit (Consumed u) h = absurd cc
  held_is unit (Parked n) h = absurd cc
  held_is unit Killed h = absurd cc

  pub led_commit : (id unit : ℕ) (drafts : List DraftView) (x : Option Element) → element_at id s.elements ≡ x → Led s (commit_at id unit x drafts s).1
  led_commit id unit drafts None h = led_none s sound
  led_commit id unit drafts (Some e) h = go (is_held_by unit e.status) refl
    where
      go : (c : Bool) → is_held_by unit e.status ≡ c → Led s (commit_at id unit (Some e) drafts s).1
      go true held = rw held (let n = held_is unit e.status held in led_consumed id unit n.0 e drafts h n.1)
      go false held = rw held (led_none s sound)
