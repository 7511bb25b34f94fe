-- Attempts and rounds that are given anew do what they did, and leave all other elements as they were.
use Rattle.std.proofs.Common.{◌≡◌, ◌≢◌, ◌⊎◌, ℕ, zero, suc, ◌+◌, ◌-◌, ◌<◌, ◌≤◌, if◌then◌else◌, nat_lt, Bool, true, false, Option, Some, List, [], ◌∷◌, inl, inr, ⊎_elim, refl, sym, ◌∙◌, ap, subst, arith, slice_index_or, nat_le}
use Rattle.std.proofs.lemmas.Bool.{and_parts, leb-true, ltb-false}
use Rattle.std.specs.List.{AllZip}
use Rattle.std.specs.Option.{option_and_then}
use Rattle.tp_model.specs.declared.types.Limits.{Limits}
use Rattle.tp_model.specs.declared.types.Status.{Status}
use Rattle.tp_model.specs.declared.types.Status.TheVariants.{Waiting, Held, Consumed, Parked, Killed}
use Rattle.tp_model.specs.History.{In, here, there, element_of, rounds}
use Rattle.tp_plain.specs.OneThread.{State, no_pass, pass_at}
use Rattle.tp_plain.specs.declared.pass_state.PassState.{PassState}
use Rattle.tp_plain.specs.Reached.{IsReachable}
use Rattle.tp_rollover.specs.Anew.{all_replayed, attempted, attempts_made, first_from, has_left, renewed, replayed, requeued, least_units, units_unclaimed}
use Rattle.tp_rollover.specs.Bounds.{attempts_had}
use Rattle.tp_rollover.specs.Checks.{AscendFrom, IsNamed}
use Rattle.tp_rollover.specs.declared.moved.Moved.{Moved}
use Rattle.tp_rollover.specs.declared.survivors.Survivor.{Survivor}
use Rattle.tp_rollover.proofs.Endings.{Attempted, attempted_so, renewed_so}
use Rattle.tp_rollover.specs.Holds.{status_in}
use Rattle.tp_rollover.proofs.Sound.{IsAtRest}
use Rattle.tp_rollover.proofs.Climbing.{HasKept, first_is, kept_more, kept_same}
use Rattle.tp_rollover.proofs.Idling.{AreIdle, and_then_some, attempt_idle, requeue_idle, same_some}

-- element i alone has changed
pub record Changes (kept : List Bool) (s t : State) (i : ℕ) : Type 0 where
  pub reached : IsReachable t
  pub idle : AreIdle t
  pub limits : t.limits ≡ s.limits
  pub others : (j : ℕ) → j ≢ i → status_in t j ≡ status_in s j
  pub elements : (j : ℕ) → element_of t.history j ≡ element_of s.history j
  pub rounds_are : (j : ℕ) → j ≢ i → rounds t.history j ≡ rounds s.history j
  pub keeps : HasKept kept s → HasKept kept t

same_state : (kept : List Bool) (s : State) (i : ℕ) → IsReachable s → AreIdle s → Changes kept s s i
same_state kept s i reached idle = record { keeps = λ h. h; reached = reached; idle = idle; limits = refl; others = λ j not. refl; elements = λ j. refl; rounds_are = λ j not. refl }

changes_on : (kept : List Bool) (s t u : State) (i : ℕ) → Changes kept s t i → Changes kept t u i → Changes kept s u i
changes_on kept s t u i a b = record {
  keeps = λ h. b.keeps (a.keeps h);
  reached = b.reached;
  idle = b.idle;
  limits = b.limits ∙ a.limits;
  others = λ j not. b.others j not ∙ a.others j not;
  elements = λ j. b.elements j ∙ a.elements j;
  rounds_are = λ j not. b.rounds_are j not ∙ a.rounds_are j not;
}

-- so many more attempts were had, of an element that had this many
abbrev HasTried : ℕ → ℕ → ℕ → Status → Type 0
HasTried limit a n st = ((a + n < limit) × (st ≡ Waiting (a + n))) ⊎ ((a + n ≡ limit) × (st ≡ Parked (a + n)))

record Tries (kept : List Bool) (s t : State) (i a n : ℕ) : Type 0 where
  pub changes : Changes kept s t i
  pub same_rounds : rounds t.history i ≡ rounds s.history i
  pub tried : HasTried s.limits.attempts a n (status_in t i)

-- one is as it was born, and one is as it was described
abbrev pub IsNew : State → Survivor → Moved → Type 0
IsNew s one m = (status_in s m.new ≡ Waiting 0) × (rounds s.history m.new ≡ 0)

abbrev pub IsAsWas : State → Survivor → Moved → Type 0
IsAsWas s one m = (status_in s m.new ≡ one.status) × (rounds s.history m.new ≡ one.rounds)

pub record AllReplay (kept : List Bool) (s t : State) (xs : List Survivor) (ms : List Moved) : Type 0 where
  pub reached : IsReachable t
  pub idle : AreIdle t
  pub limits : t.limits ≡ s.limits
  pub each : AllZip (IsAsWas t) xs ms
  pub others : (j : ℕ) → ¬ IsNamed (λ m. m.new) j ms → (status_in t j ≡ status_in s j) × (rounds t.history j ≡ rounds s.history j)
  pub elements : (j : ℕ) → element_of t.history j ≡ element_of s.history j
  pub keeps : HasKept kept s → HasKept kept t

module _ (p : ℕ) (kept : List Bool) where
  abbrev next_of : State → ℕ → Option ℕ
  next_of s from = first_from (has_left kept s 0 1) from (p - from)

  next_inside : (s : State) (from c : ℕ) → next_of s from ≡ Some c → c < p
  next_inside s from c is = let t = first_is (has_left kept s 0 1) from (p - from) c is in let low = t.0 in let high = t.1 in omega arith

  next_units : (s : State) (from c : ℕ) → next_of s from ≡ Some c → least_units kept 1 c ≤ units_unclaimed s c
  next_units s from c is = leb-true (least_units kept 1 c) (units_unclaimed s c) (and_parts (nat_le 0 (pass_at s c).left) (nat_le (least_units kept 1 c) (units_unclaimed s c)) (first_is (has_left kept s 0 1) from (p - from) c is).2).1

  abbrev then_on : ℕ → ℕ → ℕ → State → Option (ℕ × State)
  then_on i n c s = option_and_then (λ after. attempts_made p kept i n (c, after)) (attempted c i s)

  -- one that is parked isn't tried
  parked_stops : (i n b : ℕ) (x y : ℕ × State) → attempts_made p kept i n x ≡ Some y → IsReachable x.1 → AreIdle x.1 → p ≤ x.1.limits.parts → status_in x.1 i ≡ Parked b → (n ≡ 0) × (x ≡ y)
  parked_stops i zero b x y is reached idle many parked = (refl, same_some x y is)
  parked_stops i (suc n) b x y is reached idle many parked =
      let at = and_then_some (λ c. then_on i n c x.1) (next_of x.1 x.0) y is in
      let after = and_then_some (λ after. attempts_made p kept i n (at.0, after)) (attempted at.0 i x.1) y at.2 in
      let inside = next_inside x.1 x.0 at.0 at.1 in
      let tried = attempted_so x.1 at.0 i after.0 reached (omega arith) idle after.1 in
      absurd (let was = tried.was in let q : Parked b ≡ Waiting tried.tries = sym parked ∙ was in cc)

  abbrev TriesFor : ℕ → ℕ → Type 0
  TriesFor i n = (a : ℕ) (x y : ℕ × State) → attempts_made p kept i n x ≡ Some y → IsReachable x.1 → AreIdle x.1 → p ≤ x.1.limits.parts → status_in x.1 i ≡ Waiting a → a < x.1.limits.attempts → Tries kept x.1 y.1 i a n

  one_more : (i n : ℕ) → TriesFor i n → TriesFor i (suc n)
  one_more i n more a x y is reached idle many waits less =
      go (nat_lt (a + 1) x.1.limits.attempts) refl
    where
      at : (c : ℕ) × (next_of x.1 x.0 ≡ Some c) × (then_on i n c x.1 ≡ Some y)
      at = and_then_some (λ c. then_on i n c x.1) (next_of x.1 x.0) y is

      after : (t : State) × (attempted at.0 i x.1 ≡ Some t) × (attempts_made p kept i n (at.0, t) ≡ Some y)
      after = and_then_some (λ after. attempts_made p kept i n (at.0, after)) (attempted at.0 i x.1) y at.2

      t : State
      t = after.0

      tried : Attempted x.1 t at.0 i
      tried = let inside = next_inside x.1 x.0 at.0 at.1 in attempted_so x.1 at.0 i t reached (omega arith) idle after.1

      changes : Changes kept x.1 t i
      changes = record { reached = tried.reached; idle = attempt_idle x.1 at.0 i t after.1 idle; limits = tried.limits; others = tried.others; elements = tried.elements; rounds_are = λ j not. tried.rounds_are j; keeps = λ has. kept_more kept x.1 t at.0 tried.limits has (next_units x.1 x.0 at.0 at.1) tried.claimed tried.claims }

      had : tried.tries ≡ a
      had = let was = tried.was in let q : Waiting a ≡ Waiting tried.tries = sym waits ∙ was in cc

      status_is : status_in t i ≡ (if nat_lt (a + 1) x.1.limits.attempts then Waiting (a + 1) else Parked (a + 1))
      status_is = tried.is ∙ ap (λ n. if nat_lt (n + 1) x.1.limits.attempts then Waiting (n + 1) else Parked (n + 1)) had

      still_many : p ≤ t.limits.parts
      still_many = let e = ap (λ (l : Limits). l.parts) tried.limits in omega arith

      same_limit : t.limits.attempts ≡ x.1.limits.attempts
      same_limit = ap (λ (l : Limits). l.attempts) tried.limits

      go : (b : Bool) → nat_lt (a + 1) x.1.limits.attempts ≡ b → Tries kept x.1 y.1 i a (suc n)
      go true below =
          let st : status_in t i ≡ Waiting (a + 1) = status_is ∙ ap (λ b. if b then Waiting (a + 1) else Parked (a + 1)) below in
          let low = leb-true (suc (a + 1)) x.1.limits.attempts below in
          let e = same_limit in
          let rest = more (a + 1) (at.0, t) y after.2 tried.reached changes.idle still_many st (omega arith) in
          record {
            changes = changes_on kept x.1 t y.1 i changes rest.changes;
            same_rounds = rest.same_rounds ∙ tried.rounds_are i;
            tried = ⊎_elim (λ q. inl (let h = q.0 in (omega arith), q.1 ∙ ap Waiting (let z : a + 1 + n ≡ a + suc n = omega arith in z)))
                (λ q. inr (let h = q.0 in (omega arith), q.1 ∙ ap Parked (let z : a + 1 + n ≡ a + suc n = omega arith in z)))
                rest.tried;
          }
      go false over =
          let st : status_in t i ≡ Parked (a + 1) = status_is ∙ ap (λ b. if b then Waiting (a + 1) else Parked (a + 1)) over in
          let high = ltb-false (a + 1) x.1.limits.attempts over in
          let stops = parked_stops i n (a + 1) (at.0, t) y after.2 tried.reached changes.idle still_many st in
          let same : t ≡ y.1 = ap (λ (z : ℕ × State). z.1) stops.1 in
          let none = stops.0 in
          subst (λ (z : State). Tries kept x.1 z i a (suc n)) same (record {
            changes = changes;
            same_rounds = tried.rounds_are i;
            tried = inr (omega arith, st ∙ ap Parked (let z : a + 1 ≡ a + suc n = omega arith in z));
          })

  tries_so : (i n : ℕ) → TriesFor i n
  tries_so i zero a x y is reached idle many waits less =
      subst (λ (z : ℕ × State). Tries kept x.1 z.1 i a zero) (same_some x y is)
      (record { changes = same_state kept x.1 i reached idle; same_rounds = refl; tried = inl (omega arith, waits ∙ ap Waiting (let z : a ≡ a + zero = omega arith in z)) })
  tries_so i (suc n) a x y is reached idle many waits less = one_more i n (tries_so i n) a x y is reached idle many waits less

  -- ---- further rounds

  record Renews (s t : State) (i n : ℕ) : Type 0 where
    pub changes : Changes kept s t i
    pub waits : status_in t i ≡ Waiting 0
    pub more : rounds t.history i ≡ rounds s.history i + n

  abbrev RenewsFor : ℕ → ℕ → ℕ → Type 0
  RenewsFor i limit n = (x y : ℕ × State) → renewed p kept i limit n x ≡ Some y → IsReachable x.1 → AreIdle x.1 → p ≤ x.1.limits.parts → limit ≡ x.1.limits.attempts → status_in x.1 i ≡ Waiting 0 → Renews x.1 y.1 i n

  one_round : (i limit n : ℕ) → RenewsFor i limit n → RenewsFor i limit (suc n)
  one_round i limit n more x y is reached idle many same waits =
      let done = and_then_some (λ (done : ℕ × State). option_and_then (λ after. renewed p kept i limit n (done.0, after)) (requeued 0 i done.1)) (attempts_made p kept i limit x) y is in
      let after = and_then_some (λ after. renewed p kept i limit n (done.0.0, after)) (requeued 0 i done.0.1) y done.2 in
      let some = reached.limits.attempts in
      let some' = reached.limits.parts in
      let tried = tries_so i limit 0 x done.0 done.1 reached idle many waits (omega arith) in
      let lim = tried.changes.limits in
      let parts = ap (λ (l : Limits). l.parts) lim in
      let again = renewed_so done.0.1 0 i tried.changes.reached (omega arith) after.0 after.1 in
      let first : Changes kept done.0.1 after.0 i = record { reached = again.reached; idle = requeue_idle done.0.1 0 i after.0 after.1 tried.changes.idle; limits = again.limits; others = again.others; elements = again.elements; rounds_are = again.rounds_are; keeps = λ has. kept_same kept done.0.1 after.0 again.limits has (λ d. ap (λ (ps : List PassState). (slice_index_or ps d no_pass).claimed) again.passes) } in
      let parts' = ap (λ (l : Limits). l.parts) again.limits in
      let limits' = ap (λ (l : Limits). l.attempts) (again.limits ∙ lim) in
      let rest = more (done.0.0, after.0) y after.2 again.reached first.idle (omega arith) (same ∙ sym limits') again.is in
      record {
        changes = changes_on kept x.1 done.0.1 y.1 i tried.changes (changes_on kept done.0.1 after.0 y.1 i first rest.changes);
        waits = rest.waits;
        more = (let a = rest.more in let b = again.more in let d = tried.same_rounds in omega arith);
      }

  renews_so : (i limit n : ℕ) → RenewsFor i limit n
  renews_so i limit zero x y is reached idle many same waits =
      subst (λ (z : ℕ × State). Renews x.1 z.1 i zero) (same_some x y is)
      (record { changes = same_state kept x.1 i reached idle; waits = waits; more = omega arith })
  renews_so i limit (suc n) x y is reached idle many same waits = one_round i limit n (renews_so i limit n) x y is reached idle many same waits

  -- ---- what was described

  record Replays (s t : State) (i : ℕ) (one : Survivor) : Type 0 where
    pub changes : Changes kept s t i
    pub status : status_in t i ≡ one.status
    pub more : rounds t.history i ≡ rounds s.history i + one.rounds

  as_was : (limit : ℕ) (st is : Status) → IsAtRest limit st → HasTried limit 0 (attempts_had st) is → is ≡ st
  as_was limit (Waiting n) is rest tried = ⊎_elim (λ q. q.1 ∙ ap Waiting (let z : 0 + n ≡ n = omega arith in z)) (λ q. absurd (let e = q.0 in omega (arith, e, rest))) tried
  as_was limit (Held u n) is rest tried = absurd rest
  as_was limit (Consumed u) is rest tried = absurd rest
  as_was limit (Parked n) is rest tried = ⊎_elim (λ q. absurd (let e = q.0 in omega (arith, e, rest))) (λ q. q.1 ∙ ap Parked (let z : 0 + n ≡ n = omega arith in z)) tried
  as_was limit Killed is rest tried = absurd rest

  replays_so : (limit : ℕ) (one : Survivor) (i : ℕ) (x y : ℕ × State) → replayed p kept limit one i x ≡ Some y → IsReachable x.1 → AreIdle x.1 → p ≤ x.1.limits.parts → limit ≡ x.1.limits.attempts → IsAtRest limit one.status
      → status_in x.1 i ≡ Waiting 0 → Replays x.1 y.1 i one
  replays_so limit one i x y is reached idle many same rest waits =
      let had = and_then_some (attempts_made p kept i (attempts_had one.status)) (renewed p kept i limit one.rounds x) y is in
      let first = renews_so i limit one.rounds x had.0 had.1 reached idle many same waits in
      let parts = ap (λ (l : Limits). l.parts) first.changes.limits in
      let limits = ap (λ (l : Limits). l.attempts) first.changes.limits in
      let some = reached.limits.attempts in
      let next = tries_so i (attempts_had one.status) 0 had.0 y had.2 first.changes.reached first.changes.idle (omega arith) first.waits (omega arith) in
      record {
        changes = changes_on kept x.1 had.0.1 y.1 i first.changes next.changes;
        status = as_was had.0.1.limits.attempts one.status (status_in y.1 i) (subst (λ n. IsAtRest n one.status) (same ∙ sym limits) rest) next.tried;
        more = next.same_rounds ∙ first.more;
      }

  -- ---- all of it

  above : (low : ℕ) (ms : List Moved) (m : Moved) → AscendFrom (λ m. m.new) low ms → In m ms → low ≤ m.new
  above low [] m up p = elim p [ ]
  above low (x ∷ ms) m up here = up.0
  above low (x ∷ ms) m up (there p) = let less = above (x.new + 1) ms m up.1 p in let first = up.0 in omega (arith, less, first)

  -- those behind it are new still
  still : (s t : State) (i low : ℕ) → i < low → ((j : ℕ) → j ≢ i → (status_in t j ≡ status_in s j) × (rounds t.history j ≡ rounds s.history j)) → (xs : List Survivor) (ms : List Moved) → AscendFrom (λ m. m.new) low ms → AllZip (IsNew s) xs ms → AllZip (IsNew t) xs ms
  still s t i low less others [] [] up all = tt
  still s t i low less others [] (m ∷ ms) up all = absurd all
  still s t i low less others (x ∷ xs) [] up all = absurd all
  still s t i low less others (x ∷ xs) (m ∷ ms) up all =
      let first = up.0 in
      let o = others m.new (λ same. omega (arith, less, first, same)) in
      ((o.0 ∙ all.0.0, o.1 ∙ all.0.1), still s t i (m.new + 1) (omega (arith, less, first)) others xs ms up.1 all.1)

  abbrev AllFor : ℕ → List Survivor → List Moved → Type 0
  AllFor limit xs ms = (low : ℕ) (x : ℕ × State) (t : State) → all_replayed p kept limit xs ms x ≡ Some t → IsReachable x.1 → AreIdle x.1 → p ≤ x.1.limits.parts → limit ≡ x.1.limits.attempts
      → ((one : Survivor) → In one xs → IsAtRest limit one.status) → AscendFrom (λ m. m.new) low ms → AllZip (IsNew x.1) xs ms → AllReplay kept x.1 t xs ms

  one_and : (limit : ℕ) (one : Survivor) (xs : List Survivor) (m : Moved) (ms : List Moved) → AllFor limit xs ms → AllFor limit (one ∷ xs) (m ∷ ms)
  one_and limit one xs m ms more low x t is reached idle many same rest up all =
      let did = and_then_some (all_replayed p kept limit xs ms) (replayed p kept limit one m.new x) t is in
      let first = replays_so limit one m.new x did.0 did.1 reached idle many same (rest one here) all.0.0 in
      let parts = ap (λ (l : Limits). l.parts) first.changes.limits in
      let limits = ap (λ (l : Limits). l.attempts) first.changes.limits in
      let next = more (m.new + 1) did.0 t did.2 first.changes.reached first.changes.idle (omega arith) (same ∙ sym limits) (λ o p. rest o (there p)) up.1
      (still x.1 did.0.1 m.new (m.new + 1) (omega arith) (λ j not. (first.changes.others j not, first.changes.rounds_are j not)) xs ms up.1 all.1) in
      let unnamed : ¬ IsNamed (λ m. m.new) m.new ms = λ named. (let less = above (m.new + 1) ms named.0 up.1 named.1 in let at = named.2 in omega (arith, less, at)) in
      let kept_one = next.others m.new unnamed in
      record {
        reached = next.reached;
        idle = next.idle;
        limits = next.limits ∙ first.changes.limits;
        each = ((kept_one.0 ∙ first.status, kept_one.1 ∙ (first.more ∙ (let z = all.0.1 in omega arith))), next.each);
        others = λ j no. (let o = next.others j (λ named. no (named.0, there named.1, named.2)) in let not : j ≢ m.new = λ at. no (m, here, sym at) in (o.0 ∙ first.changes.others j not, o.1 ∙ first.changes.rounds_are j not));
        elements = λ j. next.elements j ∙ first.changes.elements j;
        keeps = λ h. next.keeps (first.changes.keeps h);
      }

  pub all_replay : (limit : ℕ) (xs : List Survivor) (ms : List Moved) → AllFor limit xs ms
  all_replay limit [] [] low x t is reached idle many same rest up all =
      subst (λ (z : State). AllReplay kept x.1 z [] []) (same_some x.1 t is)
      (record { keeps = λ h. h; reached = reached; idle = idle; limits = refl; each = tt; others = λ j no. (refl, refl); elements = λ j. refl })
  all_replay limit [] (m ∷ ms) low x t is reached idle many same rest up all = absurd all
  all_replay limit (one ∷ xs) [] low x t is reached idle many same rest up all = absurd all
  all_replay limit (one ∷ xs) (m ∷ ms) low x t is reached idle many same rest up all = one_and limit one xs m ms (all_replay limit xs ms) low x t is reached idle many same rest up all
