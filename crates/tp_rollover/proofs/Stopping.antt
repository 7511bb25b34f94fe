-- Looks at what is alive stop for want of memory alone: what was alive is found there, with its root and its
-- rounds, and what holds it.
use Rattle.std.proofs.Common.{◌≡◌, ℕ, ◌+◌, ◌<◌, ◌≤◌, IfErr, IfSome, Option, Some, None, Result, Ok, Err, List, [], ◌∷◌, ◌++◌, length, get_or, refl, sym, ◌∙◌, ap, subst, inl, inr, ⊎_elim, arith}
use Rattle.std.specs.Result.{IsErrAnd}
use Rattle.std.proofs.lemmas.Bool.Decides.{eqb_tells, leb_tells}
use Rattle.std.proofs.lemmas.List.Elements.{All-cons, All-nil}
use Rattle.tp_model.specs.declared.types.Limits.{Limits}
use Rattle.tp_model.specs.declared.types.Look.{Look}
use Rattle.tp_model.specs.declared.types.Status.{Status}
use Rattle.tp_model.specs.declared.types.Status.TheVariants.{Waiting, Held, Consumed, Parked, Killed}
use Rattle.tp_model.specs.declared.event.Event.{Event}
use Rattle.tp_model.specs.declared.event.Event.TheVariants.{Claim}
use Rattle.tp_model.specs.History.{In, IsUnborn, UnitClaim, claim_of, end_of, events_by, here, status_of, there}
use Rattle.tp_model.specs.Steps.{IsLegal, IsOpen, Step}
use Rattle.tp_model.proofs.Bridges.{begins_trans, claim_either, is_born}
use Rattle.tp_model.proofs.Descents.{root_born}
use Rattle.tp_model.proofs.Histories.{by_steps, open_holds}
use Rattle.tp_model.proofs.Later.{claims_inside}
use Rattle.tp_model.proofs.Takings.{own_claim}
use Rattle.tp_plain.proofs.Commits.{held_claimed}
use Rattle.tp_plain.proofs.UnitEnds.{held_undecided}
use Rattle.tp_manager.specs.Accounts.{AreNumberedFrom}
use Rattle.tp_manager.specs.Calls.{IsLook}
use Rattle.tp_manager.specs.Shown.{KeeperShown, PassShown}
use Rattle.tp_rollover.specs.Thread.{AreTogether, Stays}
use Rattle.tp_rollover.specs.Finding.{AreLiving, StandsLiving, StopsFirst, StopsLooking}
use Rattle.tp_rollover.specs.Hands.{HasOpen, holder_of}
use Rattle.tp_rollover.specs.Survivors.{AreInHand, AreSurvivors, HasNoAttempt, IsLiving, IsStanding}
use Rattle.tp_rollover.specs.Told.{HoldsAsSeen, ToldFirst, seen_first}
use Rattle.tp_rollover.specs.declared.stops.Stop.{Stop}
use Rattle.tp_rollover.specs.declared.stops.Stop.TheVariants.{NoMemory, Full, Unequal}
use Rattle.tp_rollover.specs.declared.survivors.Survivor.{Survivor}
use Rattle.tp_rollover.proofs.Lists.{in_at}
use Rattle.tp_rollover.proofs.Seen.{told_first, told_second}
use Rattle.tp_rollover.proofs.Standing.{unit_pass}

-- ---- what is alive is there

pub unborn_dies : (limit id : ℕ) (h : List Event) → IsUnborn h id → StandsLiving limit id h → ⊥
unborn_dies limit id h none living = let born = living.born in cc

no_attempt : (s : Status) → HasNoAttempt s → (u : ℕ) × (s ≡ Held u 0)
no_attempt (Waiting n) not = absurd not
no_attempt (Held u n) zero = (u, ap (Held u) zero)
no_attempt (Consumed u) not = absurd not
no_attempt (Parked n) not = absurd not
no_attempt Killed not = absurd not

module _ (l : Limits) where
  -- each claim is an attempt
  claims_tried : (h : List Event) → IsLegal l h → (u : ℕ) (t : UnitClaim) → claim_of h u ≡ Some t → 1 ≤ t.attempt
  claims_tried h legal = by_steps l (λ z. (u : ℕ) (t : UnitClaim) → claim_of z u ≡ Some t → 1 ≤ t.attempt) (λ u t p. absurd cc) more h legal
    where
      more : (h : List Event) (e : Event) → IsLegal l h → Step l h e → ((u : ℕ) (t : UnitClaim) → claim_of h u ≡ Some t → 1 ≤ t.attempt) → (u : ℕ) (t : UnitClaim) → claim_of (h ++ e ∷ []) u ≡ Some t → 1 ≤ t.attempt
      more h e legal step old u t p = ⊎_elim (λ q. old u t q) (λ q. let may : Step l h (Claim t.pass u t.item t.attempt) = subst (Step l h) (sym q) step in may.attempt) (claim_either h e t.pass u t.item t.attempt p)

  same_attempt : (u n m : ℕ) → Held u n ≡ Held u m → n ≡ m
  same_attempt u n m e = cc

  held_tried : (h : List Event) (i u n : ℕ) → IsLegal l h → status_of l.attempts h i ≡ Held u n → 1 ≤ n
  held_tried h i u n legal is =
      let t = held_claimed l h i u n legal is in
      let open_one : IsOpen h u t.0 = record { claimed = t.1; unfinished = held_undecided l h i u n legal is } in
      let held = open_holds l h legal u t.0 open_one in
      let same = same_attempt u n t.0.attempt (sym is ∙ (ap (status_of l.attempts h) (sym t.2) ∙ held)) in
      let some = claims_tried h legal u t.0 t.1 in
      omega (arith, same, some)

  -- so it stands somehow
  pub stands_somehow : (h : List Event) (id : ℕ) (look : Look) → IsLook l id look h → (IsLiving look.status → HasNoAttempt look.status) → IsLegal l h → StandsLiving l.attempts id h → ⊥
  stands_somehow h id look is none legal living =
      let none_held = no_attempt look.status (none (subst IsLiving (sym is.1) living.living)) in
      let some = held_tried h id none_held.0 0 legal (sym is.1 ∙ none_held.1) in
      omega (arith, some)

  -- and its root is born
  pub root_there : (h : List Event) (id : ℕ) (look : Look) → IsLook l id look h → IsUnborn h look.element.root → IsLegal l h → ⊥
  root_there h id look is none legal = let t = root_born l h legal look.element (is_born h id look.element is.0) in let born = t.1 in cc

  -- ---- why looks stop

  -- its root isn't there
  pub stops_root : (id : ℕ) (look : Look) (p q r : PassShown) → Stays p q → Stays q r → HoldsAsSeen p q (IsLook l id look) → HoldsAsSeen q r (λ h. IsUnborn h look.element.root)
      → StopsLooking p r (λ h. IsLegal l h × StandsLiving l.attempts id h) Unequal
  stops_root id look p q r a b is none same held =
      root_there p.seen id look (told_first (IsLook l id look) p.seen q.seen r.seen a.sees b.sees is same) (told_second (λ h. IsUnborn h look.element.root) p.seen q.seen r.seen a.sees b.sees none same) held.0

  -- nor are its rounds
  pub stops_rounds : (id : ℕ) (p q r t : PassShown) → Stays p q → Stays q r → Stays r t → HoldsAsSeen r t (λ h. IsUnborn h id) → StopsLooking p t (λ h. IsLegal l h × StandsLiving l.attempts id h) Unequal
  stops_rounds id p q r t a b c none same held =
      unborn_dies l.attempts id p.seen (told_second (λ h. IsUnborn h id) p.seen r.seen t.seen (begins_trans p.seen q.seen r.seen a.sees b.sees) c.sees none same) held.1

  -- at one of these
  pub stops_at : (ids : List ℕ) (i d : ℕ) (p q r : PassShown) (stop : Stop) → i < length ids → Stays p q → Stays q r
      → StopsLooking q r (λ h. IsLegal l h × StandsLiving l.attempts (get_or ids i d) h) stop → StopsLooking p r (λ h. IsLegal l h × AreLiving l.attempts ids h) stop
  stops_at ids i d p q r NoMemory less a b stops = tt
  stops_at ids i d p q r Full less a b stops = stops
  stops_at ids i d p q r Unequal less a b stops = λ same all.
      told_second (λ h. ¬ (IsLegal l h × StandsLiving l.attempts (get_or ids i d) h)) p.seen q.seen r.seen a.sees b.sees stops same
      (all.0, all.1 (get_or ids i d) (in_at ids i d less))

  -- after these were found
  pub stops_found : (ids : List ℕ) (p q r : PassShown) (stop : Stop) → Stays p q → Stays q r → HoldsAsSeen p q (AreLiving l.attempts ids)
      → StopsLooking q r (λ h. IsLegal l h × AreLiving l.attempts ids h) stop → StopsLooking p r (IsLegal l) stop
  stops_found ids p q r NoMemory a b living stops = tt
  stops_found ids p q r Full a b living stops = stops
  stops_found ids p q r Unequal a b living stops = λ same legal.
      told_second (λ h. ¬ (IsLegal l h × AreLiving l.attempts ids h)) p.seen q.seen r.seen a.sees b.sees stops same
      (legal, told_first (AreLiving l.attempts ids) p.seen q.seen r.seen a.sees b.sees living same)

-- what stopped is answered as it is
pub err_as : {X : Type 0} (r : Result X Stop) (why : Stop) (P : Stop → Type 0) → IsErrAnd r (λ e. e ≡ why) → P why → IfErr r P
err_as (Ok x) why P is p = tt
err_as (Err e) why P is p = subst P (sym is) p

pub if_err : {X : Type 0} (r : Result X Stop) (P Q : Stop → Type 0) → ((e : Stop) → P e → Q e) → IfErr r P → IfErr r Q
if_err (Ok x) P Q f p = p
if_err (Err e) P Q f p = f e p

pub first_stops : {X : Type 0} (r : Result X Stop) (Holds : List Event → Type 0) (ps qs : List PassShown) (p q : PassShown) → ps ≡ p ∷ qs → IfErr r (StopsLooking p q Holds) → IfErr r (StopsFirst ps (q ∷ qs) Holds)
first_stops (Ok x) Holds ps qs p q is stops = stops
first_stops (Err NoMemory) Holds ps qs p q is stops = tt
first_stops (Err Full) Holds ps qs p q is stops = stops
first_stops (Err Unequal) Holds ps qs p q is stops = subst (λ z. ToldFirst z (q ∷ qs) (λ h. ¬ Holds h)) (sym is) stops

-- where nothing happened, and the history is legal, they stop for want of memory alone
pub memory_alone : {X : Type 0} (r : Result X Stop) (Holds : List Event → Type 0) (ps qs : List PassShown) → seen_first qs ≡ seen_first ps → Holds (seen_first ps) → IfErr r (StopsFirst ps qs Holds) → IfErr r (λ stop. stop ≡ NoMemory)
memory_alone (Ok x) Holds ps qs same holds stops = stops
memory_alone (Err NoMemory) Holds ps qs same holds stops = refl
memory_alone (Err Full) Holds ps qs same holds stops = absurd stops
memory_alone (Err Unequal) Holds ps qs same holds stops = absurd (stops same holds)

-- ---- each pass that holds an element has a unit open

find_number : (ps : List PassShown) (k c : ℕ) → AreNumberedFrom k ps → k ≤ c → c < k + length ps → (p : PassShown) × In p ps × (p.number ≡ c)
find_number [] k c from low high = absurd (omega (arith, low, high))
find_number (p ∷ ps) k c from low high = elim (eqb_tells c k) [
  | inl same ↦ (p, here, from.0 ∙ sym same.1)
  | inr other ↦ let not = other.1 in let t = find_number ps (k + 1) c from.1 (omega (arith, low, not)) (omega (arith, high)) in (t.0, there t.1, t.2)
]

module _ (l : Limits) (keeper : KeeperShown) (ps : List PassShown) (h : List Event) (together : AreTogether l keeper ps h) where
  given_out : (u : ℕ) (t : UnitClaim) → claim_of h u ≡ Some t → t.pass < keeper.given
  given_out u t is = elim (leb_tells (t.pass + 1) keeper.given) [
    | inl less ↦ let below : t.pass + 1 ≤ keeper.given = less.1 in omega (arith, below)
    | inr more ↦ let low : keeper.given < t.pass + 1 = more.1 in
        absurd (let own = own_claim h u t is in let none = ap (λ g. claim_of g u) (together.others t.pass (omega (arith, low))) in none_claimed t own none)
  ]
    where
      none_claimed : (t : UnitClaim) → claim_of (events_by t.pass h) u ≡ Some t → claim_of (events_by t.pass h) u ≡ claim_of [] u → ⊥
      none_claimed t own none = cc

  pub holder_open : (i u n : ℕ) → status_of l.attempts h i ≡ Held u n → HasOpen ps (holder_of l u)
  holder_open i u n is =
      let t = held_claimed l h i u n together.legal is in
      let pass = unit_pass l t.0.pass u (claims_inside l h together.legal u t.0 t.1) in
      let less = given_out u t.0 t.1 in
      let p = find_number ps 0 t.0.pass together.all.1 (omega arith) (let long = together.all.0 in omega (arith, less, long)) in
      let is_open = has_unit p.0 (together.each p.0 p.1).seen (together.each p.0 p.1).shows.ended t.0 p.2 t.1 in
      (p.0, p.1, p.2 ∙ sym pass, u, is_open)
    where
      has_unit : (p : PassShown) → p.seen ≡ h → ((u i n : ℕ) → claim_of p.seen u ≡ Some (record { pass = p.number; item = i; attempt = n }) → ¬ (p.open_unit ≡ Some u) → ¬ (end_of p.seen u ≡ None)) → (t : UnitClaim) → p.number ≡ t.pass → claim_of h u ≡ Some t → p.open_unit ≡ Some u
      has_unit p seen ended t number claimed = go p.open_unit refl
        where
          claim : claim_of p.seen u ≡ Some (record { pass = p.number; item = t.item; attempt = t.attempt })
          claim = ap (λ g. claim_of g u) seen ∙ (claimed ∙ ap (λ c. Some (record { pass = c; item = t.item; attempt = t.attempt })) (sym number))

          undecided : end_of p.seen u ≡ None
          undecided = ap (λ g. end_of g u) seen ∙ held_undecided l h i u n together.legal is

          go : (o : Option ℕ) → p.open_unit ≡ o → p.open_unit ≡ Some u
          go None none = absurd (ended u t.item t.attempt claim (λ some. none_some u (sym none ∙ some)) undecided)
            where
              none_some : (a : ℕ) → None ≡ Some a → ⊥
              none_some a e = cc
          go (Some v) some = elim (eqb_tells v u) [
            | inl same ↦ some ∙ ap Some same.1
            | inr other ↦ absurd (ended u t.item t.attempt claim (λ q. other.1 (same_some v u (sym some ∙ q))) undecided)
          ]
            where
              same_some : (a b : ℕ) → Some a ≡ Some b → a ≡ b
              same_some a b e = cc

  one_in_hand : (s : Survivor) → IsStanding l (status_of l.attempts h s.id) s.status s.holder → IfSome s.holder (HasOpen ps)
  one_in_hand s stands = go s.holder stands
    where
      go : (o : Option ℕ) → IsStanding l (status_of l.attempts h s.id) s.status o → IfSome o (HasOpen ps)
      go None stands = tt
      go (Some c) (u, n, held, waits, by) = subst (HasOpen ps) (sym by) (holder_open s.id u (n + 1) held)

  all_in_hand : (ss : List Survivor) → ((s : Survivor) → In s ss → IfSome s.holder (HasOpen ps)) → AreInHand ps ss
  all_in_hand [] each = All-nil (λ (s : Survivor). IfSome s.holder (HasOpen ps))
  all_in_hand (s ∷ ss) each = All-cons (λ (s : Survivor). IfSome s.holder (HasOpen ps)) s ss (each s here) (all_in_hand ss (λ z p. each z (there p)))

  pub found_in_hand : (ss : List Survivor) → AreSurvivors l h ss → AreInHand ps ss
  found_in_hand ss found = all_in_hand ss (λ s p. one_in_hand s (found.described s p).stands)
