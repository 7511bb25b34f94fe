-- What a cancel leaves, and what each call does.
use Rattle.std.proofs.Common.{◌≡◌, ◌⊎◌, inl, inr, ◌==◌, ◌&&◌, ℕ, Bool, true, false, not, cond, Option, Some, None, is_none, List, [], ◌∷◌, filter, nat_le, refl, sym, ◌∙◌, ap, subst, arith}
use Rattle.std.specs.List.{AllByRecursion}
use Rattle.std.specs.Ordering.{nat_cmp}
use Rattle.std.specs.Map.{keys_of}
use Rattle.std.specs.BTreeMap.{is_at}
use Rattle.std.specs.declared.cmp.Ordering.TheVariants.{Less}
use Rattle.std.proofs.lemmas.Bool.Decides.{nat_tests}
use Rattle.std.proofs.lemmas.Map.Keys.{sorted_head, sorted_tail}
use Rattle.tp_store.specs.declared.store.Limits.{Limits}
use Rattle.tp_store.specs.declared.element.TheConstants.{REPLY_STAGE}
use Rattle.tp_store.specs.declared.element.Element.{Element}
use Rattle.tp_store.specs.declared.element.Status.{Status}
use Rattle.tp_store.specs.declared.element.Status.TheVariants.{Waiting, Held, Consumed, Parked, Killed}
use Rattle.tp_store.specs.Calls.{cancel_at, cancel_by, claim_from_of, claim_of, is_open, is_server_stage, kill_all, killed}
use Rattle.tp_store.specs.Changes.{CallsFollow, Follows, Goes, RunsAreSound, Turns}
use Rattle.tp_store.specs.Elements.{Entry, element_at, alive_of, first_in, is_alive, is_in_from, put, queue_of, standing}
use Rattle.tp_store.specs.Lasting.{AliveStays}
use Rattle.tp_store.specs.Ends.{is_over}
use Rattle.tp_store.specs.Runs.{after, Call, Submit, Claim, ClaimFrom, Take, Commit, Abort, Release, Kill, Cancel, Requeue, Collect, SetLimits, limits_after, run}
use Rattle.tp_store.specs.Soundness.{IsSound}
use Rattle.tp_store.specs.State.{State, with_limits, start}
use Rattle.tp_store.proofs.Forgetting.{sound_later}
use Rattle.tp_store.proofs.Keeping.{KeepsAlive}
use Rattle.tp_store.proofs.Changing.{goes_same, Alters, alters_none}
use Rattle.tp_store.specs.Shelves.{AreSorted}
use Rattle.tp_store.proofs.Finding.{IsBelow}
use Rattle.tp_store.proofs.Following.{alters_to, goes_to, IsPlain, Led, led_abort, led_claim, led_claim_from, led_collect, led_commit, led_end, led_kill, led_none, led_release, led_requeue, led_submit, led_take}
use Rattle.tp_store.proofs.Looking.{put_looks, sorted_cons, sorted_none}

as_number : (m n : ℕ) → (m == n) ≡ true → m ≡ n
as_number m n h = grind (arith, nat_tests)

-- an element is the same, or it was alive and is killed
abbrev pub IsOrKilled : Element → Element → Type 0
IsOrKilled e now = (now ≡ e) ⊎ ((is_alive e.status ≡ true) × (now ≡ standing Killed e))

-- each element is so, and there is no other
pub record Kills (s t : State) : Type 0 where
  pub alters : Alters s t
  pub units : t.units ≡ s.units
  pub forth : (id : ℕ) (e : Element) → element_at id s.elements ≡ Some e → (now : Element) × (element_at id t.elements ≡ Some now) × IsOrKilled e now

killed_goes : (e now : Element) → IsOrKilled e now → Goes e now
killed_goes e now (inl same) = subst (Goes e) (sym same) (goes_same e)
killed_goes e now (inr (alive, is)) = subst (Goes e) (sym is) (goes_to e Killed (plain e.status alive) (turn e.status alive))
  where
    plain : (x : Status) → is_alive x ≡ true → IsPlain x Killed
    plain (Waiting n) h = tt
    plain (Held u n) h = tt
    plain (Parked n) h = tt
    plain (Consumed u) h = tt
    plain Killed h = tt

    turn : (x : Status) → is_alive x ≡ true → Turns e.stage x Killed
    turn (Waiting n) h = inr (inl refl)
    turn (Held u n) h = inr (inr (inr refl))
    turn (Parked n) h = inr refl
    turn (Consumed u) h = absurd cc
    turn Killed h = absurd cc

kills_both : (a b c : State) → Kills a b → Kills b c → Kills a c
kills_both a b c one two = record {
  alters = record {
    limits = two.alters.limits ∙ one.alters.limits;
    next = two.alters.next ∙ one.alters.next;
    units = let x = one.units in let y = two.units in omega arith;
    forth = λ id e found. let f = forth id e found in record { now = f.0; found = f.1; goes = killed_goes e f.0 f.2 };
    back = λ id e found. let y = two.alters.back id e found in let x = one.alters.back id y.0 y.1 in (x.0, x.1, y.2 ∙ x.2);
    sound = two.alters.sound;
  };
  units = two.units ∙ one.units;
  forth = forth;
}
  where
    join : (e f g : Element) → IsOrKilled e f → IsOrKilled f g → IsOrKilled e g
    join e f g (inl same) second = subst (λ x. IsOrKilled x g) same second
    join e f g (inr first) (inl same) = inr (first.0, same ∙ first.1)
    join e f g (inr first) (inr second) = absurd (let dead : is_alive f.status ≡ false = ap (λ (x : Element). is_alive x.status) first.1 in let alive = second.0 in cc)

    forth : (id : ℕ) (e : Element) → element_at id a.elements ≡ Some e → (now : Element) × (element_at id c.elements ≡ Some now) × IsOrKilled e now
    forth id e found = let x = one.forth id e found in let y = two.forth id x.0 x.1 in (y.0, y.1, join e x.0 y.0 x.2 y.2)

kills_none : (s : State) → IsSound s → Kills s s
kills_none s sound = record { alters = alters_none s sound; units = refl; forth = λ id e found. (e, found, inl refl) }

pub kills_one : (s : State) (id : ℕ) (e : Element) → IsSound s → element_at id s.elements ≡ Some e → is_alive e.status ≡ true → Kills s (killed id e s)
kills_one s id e sound found alive = record {
  alters = alters_to s sound s.units id e Killed (omega arith) found goes.0 goes.1 (λ u h. absurd cc) (λ r. refl);
  units = refl;
  forth = λ q d there. forth q d there (id == q) refl;
}
  where
    both : (x : Status) → is_alive x ≡ true → IsPlain x Killed × Turns e.stage x Killed
    both (Waiting n) h = (tt, inr (inl refl))
    both (Held u n) h = (tt, inr (inr (inr refl)))
    both (Parked n) h = (tt, inr refl)
    both (Consumed u) h = absurd cc
    both Killed h = absurd cc

    goes : IsPlain e.status Killed × Turns e.stage e.status Killed
    goes = both e.status alive

    looks : (q : ℕ) → element_at q (put id (standing Killed e) s.elements) ≡ cond (id == q) (Some (standing Killed e)) (element_at q s.elements)
    looks = put_looks id (standing Killed e) s.elements

    forth : (q : ℕ) (d : Element) → element_at q s.elements ≡ Some d → (b : Bool) → (id == q) ≡ b → (now : Element) × (element_at q (put id (standing Killed e) s.elements) ≡ Some now) × IsOrKilled d now
    forth q d there true h =
        let place = as_number id q h in
        let both : Some e ≡ Some d = sym found ∙ (ap (λ i. element_at i s.elements) place ∙ there) in
        let same : e ≡ d = cc in
        (standing Killed e, looks q ∙ rw h refl, subst (λ x. IsOrKilled x (standing Killed e)) same (inr (alive, refl)))
    forth q d there false h = (d, looks q ∙ rw h there, inl refl)

-- these are elements of the store, and alive
abbrev pub AreAlive : State → List Entry → Type 0
AreAlive s xs = AllByRecursion (λ x. (element_at x.0 s.elements ≡ Some x.1) × (is_alive x.1.status ≡ true)) xs

apart_from : (k y : ℕ) → nat_cmp k y ≡ Less → (k == y) ≡ false
apart_from k y h = grind (arith, nat_tests)

pub others_alive : (s : State) (x : Entry) (xs : List Entry) → IsBelow x.0 (keys_of xs) → AreAlive s xs → AreAlive (killed x.0 x.1 s) xs
others_alive s x [] below all = tt
others_alive s x (y ∷ xs) below all = ((put_looks x.0 (standing Killed x.1) s.elements y.0 ∙ rw (apart_from x.0 y.0 below.0) all.0.0, all.0.1), others_alive s x xs below.1 all.1)

pub kills_all : (xs : List Entry) (s : State) → IsSound s → AreSorted xs → AreAlive s xs → Kills s (kill_all xs s)
kills_all [] s sound sorted all = kills_none s sound
kills_all (x ∷ xs) s sound sorted all =
    let one = kills_one s x.0 x.1 sound all.0.0 all.0.1 in
    let below = sorted_head nat_cmp x.0 (keys_of xs) sorted in
    kills_both s (killed x.0 x.1 s) (kill_all xs (killed x.0 x.1 s)) one (kills_all xs (killed x.0 x.1 s) one.alters.sound (sorted_tail nat_cmp x.0 (keys_of xs) sorted) (others_alive s x xs below all.1))

-- ---- those that are open of a request

module _ (root : ℕ) where
  below_filter : (k : ℕ) (es : List Entry) → IsBelow k (keys_of es) → IsBelow k (keys_of (filter (is_open root) es))
  below_filter k [] below = tt
  below_filter k (x ∷ es) below = go (below_filter k es below.1) (is_open root x) refl
    where
      go : IsBelow k (keys_of (filter (is_open root) es)) → (b : Bool) → is_open root x ≡ b → IsBelow k (keys_of (filter (is_open root) (x ∷ es)))
      go on true h = rw h (below.0, on)
      go on false h = rw h on

  pub sorted_filter : (es : List Entry) → AreSorted es → AreSorted (filter (is_open root) es)
  sorted_filter [] sorted = sorted
  sorted_filter (x ∷ es) sorted = go (sorted_filter es (sorted_tail nat_cmp x.0 (keys_of es) sorted)) (is_open root x) refl
    where
      go : AreSorted (filter (is_open root) es) → (b : Bool) → is_open root x ≡ b → AreSorted (filter (is_open root) (x ∷ es))
      go on true h = rw h (sorted_cons x (filter (is_open root) es) (below_filter x.0 es (sorted_head nat_cmp x.0 (keys_of es) sorted)) on)
      go on false h = rw h on

  open_alive : (x : Entry) → is_open root x ≡ true → is_alive x.1.status ≡ true
  open_alive x h = go (is_alive x.1.status) refl h
    where
      go : (b : Bool) → is_alive x.1.status ≡ b → is_open root x ≡ true → is_alive x.1.status ≡ true
      go true h is = h
      go false h is = absurd (never (nat_le 0 x.0) (not (x.1.stage == REPLY_STAGE)) (rw h at is))
        where
          never : (a c : Bool) → ((a && false) && c) ≡ true → ⊥
          never true c h = cc
          never false c h = cc

  -- each of them is found
  abbrev pub AreFound : List Entry → List Entry → Type 0
  AreFound es xs = AllByRecursion (λ x. (element_at x.0 es ≡ Some x.1) × (is_alive x.1.status ≡ true)) xs

  found_more : (y : Entry) (es xs : List Entry) → IsBelow y.0 (keys_of xs) → AreFound es xs → AreFound (y ∷ es) xs
  found_more y es [] below all = tt
  found_more y es (x ∷ xs) below all = ((rw (past x.0 y.0 below.0) all.0.0, all.0.1), found_more y es xs below.1 all.1)
    where
      past : (q k : ℕ) → nat_cmp k q ≡ Less → is_at (nat_cmp q) k ≡ false
      past q k h = grind (arith, nat_tests)

  pub found_filter : (es : List Entry) → AreSorted es → AreFound es (filter (is_open root) es)
  found_filter [] sorted = tt
  found_filter (x ∷ es) sorted = go (found_more x es (filter (is_open root) es) below (found_filter es (sorted_tail nat_cmp x.0 (keys_of es) sorted))) (is_open root x) refl
    where
      below : IsBelow x.0 (keys_of (filter (is_open root) es))
      below = below_filter x.0 es (sorted_head nat_cmp x.0 (keys_of es) sorted)

      itself : (n : ℕ) → is_at (nat_cmp n) n ≡ true
      itself n = grind (arith, nat_tests)

      go : AreFound (x ∷ es) (filter (is_open root) es) → (b : Bool) → is_open root x ≡ b → AreFound (x ∷ es) (filter (is_open root) (x ∷ es))
      go on true h = rw h ((rw (itself x.0) refl, open_alive x h), on)
      go on false h = rw h on

-- nothing is open of a request that is over
pub none_open : (root : ℕ) (es : List Entry) → is_over root es ≡ true → filter (is_open root) es ≡ []
none_open root es over = unfound es (first_in alive_of root 0 es) refl over
  where
    no_open : (es : List Entry) → first_in alive_of root 0 es ≡ None → filter (is_open root) es ≡ []
    no_open [] h = refl
    no_open (x ∷ es) h = go (no_open es) (is_in_from alive_of root 0 x) refl h
      where
        go : (first_in alive_of root 0 es ≡ None → filter (is_open root) es ≡ []) → (b : Bool) → is_in_from alive_of root 0 x ≡ b → cond b (Some x) (first_in alive_of root 0 es) ≡ None → filter (is_open root) (x ∷ es) ≡ []
        go on true b h = absurd cc
        go on false b h = rw b (on h)

    unfound : (es : List Entry) (x : Option Entry) → first_in alive_of root 0 es ≡ x → is_none x ≡ true → filter (is_open root) es ≡ []
    unfound es None h over = no_open es h
    unfound es (Some x) h over = absurd cc

pub cancel_kills : (s : State) (root : ℕ) → IsSound s → Kills s (kill_all (filter (is_open root) s.elements) s)
cancel_kills s root sound = kills_all (filter (is_open root) s.elements) s sound (sorted_filter root s.elements sound.sorted) (found_filter root s.elements sound.sorted)

ended_kills : (xs : List Entry) (s : State) → (kill_all xs s).ended ≡ s.ended
ended_kills [] s = refl
ended_kills (x ∷ xs) s = ended_kills xs (killed x.0 x.1 s)

led_cancel : (s : State) (sound : IsSound s) (root : ℕ) (x : Option Element) → element_at root s.elements ≡ x → Led s (cancel_at x root s).1
led_cancel s sound root None h = led_none s sound
led_cancel s sound root (Some e) h = go e.by
  where
    go : (by : Option ℕ) → Led s (cancel_by by root s).1
    go None = over (is_over root s.elements) refl
      where
        over : (b : Bool) → is_over root s.elements ≡ b → Led s (cancel_by None root s).1
        over true is = rw is (led_none s sound)
        over false is = rw is (led_end s sound (kill_all (filter (is_open root) s.elements) s) root (cancel_kills s root sound).alters (ended_kills (filter (is_open root) s.elements) s) (sound.each root e h).drawn)
    go (Some unit) = led_none s sound

-- ---- each call

-- other limits change nothing else
led_limits : (limits : Limits) (s : State) → IsSound s → IsSound (with_limits limits s) × Follows s (with_limits limits s) × KeepsAlive s (with_limits limits s) × (limits ≡ limits)
led_limits limits s sound = (
  record { sorted = sound.sorted; each = λ id e found. sound_later s (with_limits limits s) id e (omega arith) (omega arith) (sound.each id e found); ended = sound.ended },
  record {
    next = omega arith;
    units = omega arith;
    stays = λ id e found. inl (record { now = e; found = found; goes = goes_same e });
    births = λ id e found none. absurd cc;
  },
  λ keep id e found live. record { now = e; found = found; goes = goes_same e },
  refl,
)

pub leads : (call : Call) (s : State) → IsSound s → IsSound (after call s) × Follows s (after call s) × KeepsAlive s (after call s) × ((after call s).limits ≡ limits_after call s)
leads (SetLimits limits) s sound = led_limits limits s sound
leads (Submit stage body owner) s sound = led_submit s sound stage body owner
leads (Claim stage) s sound = go (is_server_stage stage) refl
  where
    go : (b : Bool) → is_server_stage stage ≡ b → Led s (claim_of stage s).1
    go true server = rw server (led_claim s sound stage 0 server (first_in queue_of stage 0 s.elements) refl)
    go false server = rw server (led_none s sound)
leads (ClaimFrom stage from) s sound = go (is_server_stage stage) refl
  where
    go : (b : Bool) → is_server_stage stage ≡ b → Led s (claim_from_of stage from s).1
    go true server = rw server (led_claim_from s sound stage from server (first_in queue_of stage from s.elements) refl)
    go false server = rw server (led_none s sound)
leads (Take id) s sound = led_take s sound id (element_at id s.elements) refl
leads (Commit id unit drafts) s sound = led_commit s sound id unit drafts (element_at id s.elements) refl
leads (Abort id unit) s sound = led_abort s sound id unit (element_at id s.elements) refl
leads (Release id) s sound = led_release s sound id (element_at id s.elements) refl
leads (Kill id) s sound = led_kill s sound id (element_at id s.elements) refl
leads (Cancel root) s sound = led_cancel s sound root (element_at root s.elements) refl
leads (Requeue id) s sound = led_requeue s sound id (element_at id s.elements) refl
leads (Collect id) s sound = led_collect s sound id (element_at id s.elements) refl

pub calls_follow : CallsFollow
calls_follow call s sound = let led = leads call s sound in (led.0, led.1, led.3)

pub alive_stays : AliveStays
alive_stays call s id e sound keep found live = (leads call s sound).2 keep id e found live

pub start_sound : (limits : Limits) → IsSound (start limits)
start_sound limits = record { sorted = sorted_none; each = λ id e found. absurd cc; ended = tt }

pub run_sound : (calls : List Call) (s : State) → IsSound s → IsSound (run calls s)
run_sound [] s sound = sound
run_sound (call ∷ calls) s sound = run_sound calls (after call s) (calls_follow call s sound).0

pub runs_are_sound : RunsAreSound
runs_are_sound limits calls = run_sound calls (start limits) (start_sound limits)
