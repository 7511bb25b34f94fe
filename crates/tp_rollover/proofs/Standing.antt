-- What was described stands again once it is held, and each pass has in hand what it is to hold.
use Rattle.std.proofs.Common.{◌≡◌, ◌≢◌, ◌⊎◌, ℕ, zero, suc, ◌+◌, ◌-◌, ◌*◌, ◌/◌, ◌<◌, ◌≤◌, All, IfSome, true, is_some, Option, Some, None, List, [], ◌∷◌, length, map, get_or, inl, inr, ⊎_elim, refl, sym, ◌∙◌, ap, subst, arith}
use Rattle.std.proofs.Math.Nat.{max-eq_left}
use Rattle.std.proofs.lemmas.List.{length-append, length-map}
use Rattle.std.proofs.lemmas.Nat.{div-mul-add}
use Rattle.std.proofs.lemmas.Bool.Decides.{eqb_tells}
use Rattle.std.specs.List.{AllZip}
use Rattle.tp_model.specs.declared.types.Limits.{Limits}
use Rattle.tp_model.specs.declared.types.Status.{Status}
use Rattle.tp_model.specs.declared.event.Event.{Event}
use Rattle.tp_model.specs.Counts.{is_consumed}
use Rattle.tp_model.specs.History.{In, here, there}
use Rattle.tp_model.specs.Steps.{IsKillable, IsUnitOf, rows_of}
use Rattle.tp_plain.specs.OneThread.{State, pass_at}
use Rattle.tp_plain.specs.declared.pass_state.PassState.{PassState}
use Rattle.tp_manager.specs.Accounts.{AreNumberedFrom}
use Rattle.tp_manager.specs.Shown.{PassShown}
use Rattle.tp_rollover.specs.Thread.{Stays, not_given, state_of, thread_of}
use Rattle.tp_rollover.proofs.AloneApart.{number_in, numbered}
use Rattle.tp_rollover.specs.Alike.{StandUnheld, StandsUnheld}
use Rattle.tp_rollover.specs.Checks.{AreOnly, IsNamed}
use Rattle.tp_rollover.specs.Hands.{HasInHand, HasOpen, holder_of}
use Rattle.tp_rollover.specs.Holds.{HoldAgain, IsInHandOf, StandsFor, StandsHeld, status_in}
use Rattle.tp_rollover.specs.Survivors.{AreHands, AreInHand, IsInHand, IsStanding, StandAgain, StandsAgain}
use Rattle.tp_rollover.specs.declared.moved.Moved.{Moved}
use Rattle.tp_rollover.specs.declared.survivors.Survivor.{Survivor}
use Rattle.tp_rollover.proofs.BirthsPlaces.{from_pass}
use Rattle.tp_rollover.proofs.Carrying.{each_of}
use Rattle.tp_rollover.proofs.Lists.{in_at, zip_of_right}

-- a unit of a pass is that pass's
pub own_unit : (l : Limits) (c i : ℕ) → i < l.units → c ≡ holder_of l (c * l.units + i)
own_unit l c i less =
    sym (div-mul-add c l.units i less)
    ∙ ap (λ d. (c * l.units + i) / d) (sym (max-eq_left (let some : 1 ≤ l.units = omega (arith, less) in some)))

within : (m u k : ℕ) → m ≤ u → u < m + k → (m + (u - m) ≡ u) × (u - m < k)
within m u k low high = (omega (arith, low), omega (arith, low, high))

pub unit_pass : (l : Limits) (c u : ℕ) → IsUnitOf l c u → holder_of l u ≡ c
unit_pass l c u unit =
    let in_it = within (c * l.units) u l.units unit.1 unit.2 in
    ap (holder_of l) (sym in_it.0) ∙ sym (own_unit l c (u - c * l.units) in_it.1)

stands_as : (p : ℕ) (t : State) (i : ℕ) (status : Status) (holder : Option ℕ) → IsKillable status → StandsFor p t i status holder → IsStanding t.limits (status_in t i) status holder
stands_as p t i status None alive stands = (stands, alive)
stands_as p t i status (Some c) alive x = (c * t.limits.units + x.place, x.tries, x.is, x.was, own_unit t.limits c x.place x.inside)

one_or_more : (i : ℕ) (m : Moved) (ms : List Moved) → IsNamed (λ m. m.new) i ms ⊎ (¬ IsNamed (λ m. m.new) i ms) → (m.new ≡ i) ⊎ (m.new ≢ i) → IsNamed (λ m. m.new) i (m ∷ ms) ⊎ (¬ IsNamed (λ m. m.new) i (m ∷ ms))
one_or_more i m ms rest (inl same) = inl (m, here, same)
one_or_more i m ms (inl named) (inr other) = inl (named.0, there named.1, named.2)
one_or_more i m ms (inr none) (inr other) = inr (λ named. go named.0 named.1 named.2)
  where
    go : (x : Moved) → In x (m ∷ ms) → x.new ≡ i → ⊥
    go x here same = other same
    go x (there p) same = none (x, p, same)

named_or_not : (i : ℕ) (ms : List Moved) → IsNamed (λ m. m.new) i ms ⊎ (¬ IsNamed (λ m. m.new) i ms)
named_or_not i [] = inr (λ named. elim named.1 [ ])
named_or_not i (m ∷ ms) = one_or_more i m ms (named_or_not i ms) (⊎_elim (λ t. inl t.1) (λ t. inr t.1) (eqb_tells m.new i))

module _ (p : ℕ) (s t : State) (survivors : List Survivor) (moved : List Moved) (again : StandUnheld s.limits s.history survivors moved) (holds : HoldAgain p s t survivors moved) where
  one_stands : (x : Survivor) (m : Moved) → StandsUnheld s.limits.attempts s.history x m → StandsHeld p t x m → StandsAgain t.limits t.history x m
  one_stands x m a held = record {
    named = a.named;
    holder = a.holder;
    item = a.item;
    born = holds.born m.new ∙ a.born;
    root = a.root;
    stage = a.stage;
    body = a.body;
    stands = stands_as p t m.new x.status x.holder a.alive held;
    rounds_are = holds.rounds_are m.new ∙ a.rounds_are;
    request = a.request;
    began = holds.born m.new_root ∙ a.began;
    by_client = a.by_client;
    root_stage = a.root_stage;
    root_body = a.root_body;
    itself = a.itself;
  }

  stand_each : (xs : List Survivor) (ms : List Moved) → AllZip (StandsUnheld s.limits.attempts s.history) xs ms → AllZip (StandsHeld p t) xs ms → AllZip (StandsAgain t.limits t.history) xs ms
  stand_each [] [] a b = tt
  stand_each [] (m ∷ ms) a b = absurd a
  stand_each (x ∷ xs) [] a b = absurd a
  stand_each (x ∷ xs) (m ∷ ms) a b = (one_stands x m a.0 b.0, stand_each xs ms a.1 b.1)

  only : AreOnly t.limits moved t.history
  only y is less = ⊎_elim
      (λ named. inl named)
      (λ used. ⊎_elim (λ named. inl named) (λ none. inr (ap is_consumed (holds.others y.id none) ∙ used)) (named_or_not y.id moved))
      (again.rest y (sym (holds.born y.id) ∙ is) (subst (λ l. y.id < rows_of l) holds.limits less))

  pub stand_again : StandAgain t.limits t.history survivors moved
  stand_again = record { each = stand_each survivors moved again.each holds.each; once = again.once; families = again.families; rest = only }

-- the pass with a number stands at that place
pub number_at : (a : ℕ) (ps : List PassShown) (i : ℕ) (d : PassShown) → AreNumberedFrom a ps → i < length ps → (get_or ps i d).number ≡ a + i
number_at a [] i d all less = absurd (omega (arith, less))
number_at a (q ∷ ps) zero d all less = let e = all.0 in omega (arith, e)
number_at a (q ∷ ps) (suc i) d all less = let e = number_at (a + 1) ps i d all.1 (omega (arith, less)) in omega (arith, e)

pub at_number : (a : ℕ) (ps : List PassShown) (q d : PassShown) → AreNumberedFrom a ps → In q ps → get_or ps (q.number - a) d ≡ q
at_number a [] q d all p = elim p [ ]
at_number a (x ∷ ps) q d all here = ap (λ i. get_or (x ∷ ps) i d) (let e = all.0 in let z : x.number - a ≡ 0 = omega (arith, e) in z)
at_number a (x ∷ ps) q d all (there p) =
    let low = (number_in (a + 1) ps q all.1 p).0 in
    ap (λ i. get_or (x ∷ ps) i d) (let z : q.number - a ≡ suc (q.number - (a + 1)) = omega (arith, low) in z) ∙ at_number (a + 1) ps q d all.1 p

-- over the passes that the manager of one thread is of
module _ (k : Limits) (ps : List PassShown) (g : List Event) (from : AreNumberedFrom 0 ps) where
  pub hand_at : (c : ℕ) (d : PassShown) → c < length ps → (pass_at (thread_of k ps g) c).holding ≡ (get_or ps c d).open_unit
  hand_at c d less = ap (λ (z : PassState). z.holding) (from_pass ps (not_given k (length ps)) c d less)

  inside : (q : PassShown) → In q ps → q.number < length ps
  inside q p = let less = (number_in 0 ps q from p).1 in omega (arith, less)

  pub hand_of : (q : PassShown) → In q ps → (pass_at (thread_of k ps g) q.number).holding ≡ q.open_unit
  hand_of q p = hand_at q.number q (inside q p) ∙ ap (λ (z : PassShown). z.open_unit) (ap (λ i. get_or ps i q) (let e : q.number ≡ q.number - 0 = omega arith in e) ∙ at_number 0 ps q q from p)

  -- the pass with this number
  pub one_at : (c : ℕ) → c < length ps → (q : PassShown) × In q ps × (q.number ≡ c)
  one_at c less = numbered 0 c ps from (omega arith) (omega (arith, less))

  in_hand : (i c : ℕ) (status : Status) → IsInHandOf (length ps) (thread_of k ps g) i status c → HasInHand k g ps c i
  in_hand i c status x =
      let q = one_at c x.one_of in
      record {
        pass = q.0;
        among = q.1;
        number = q.2;
        unit = c * k.units + x.place;
        attempt = x.tries + 1;
        in_hand = sym (hand_of q.0 q.1) ∙ (ap (λ d. (pass_at (thread_of k ps g) d).holding) q.2 ∙ x.in_hand);
        holds = x.is;
      }

  hand_for : (i : ℕ) (status : Status) (holder : Option ℕ) → StandsFor (length ps) (thread_of k ps g) i status holder → IfSome holder (λ c. HasInHand k g ps c i)
  hand_for i status None stands = tt
  hand_for i status (Some c) stands = in_hand i c status stands

  hands_for : (xs : List Survivor) (ms : List Moved) → AllZip (StandsHeld (length ps) (thread_of k ps g)) xs ms → AllZip (IsInHand k g ps) xs ms
  hands_for [] [] all = tt
  hands_for [] (m ∷ ms) all = absurd all
  hands_for (x ∷ xs) [] all = absurd all
  hands_for (x ∷ xs) (m ∷ ms) all = (hand_for m.new x.status x.holder all.0, hands_for xs ms all.1)

  -- where none had anything in hand before
  pub are_hands : (s : State) (survivors : List Survivor) (moved : List Moved) → ((c : ℕ) → c < length ps → (pass_at s c).holding ≡ None) → HoldAgain (length ps) s (thread_of k ps g) survivors moved
      → AreHands k g ps survivors moved
  are_hands s survivors moved free holds = record {
    held = hands_for survivors moved holds.each;
    free = λ q p none. sym (hand_of q p) ∙ (holds.idle q.number none ∙ free q.number (inside q p));
  }

-- where none of the passes has a unit open
pub none_in_hand : (k : Limits) (ps : List PassShown) (g : List Event) → AreNumberedFrom 0 ps → All (λ (q : PassShown). q.open_unit ≡ None) ps → (c : ℕ) → c < length ps → (pass_at (thread_of k ps g) c).holding ≡ None
none_in_hand k ps g from free c less =
    let q = one_at k ps g from c less in
    ap (λ d. (pass_at (thread_of k ps g) d).holding) (sym q.2) ∙ (hand_of k ps g from q.0 q.1 ∙ each_of (λ (q : PassShown). q.open_unit ≡ None) ps q.0 free q.1)

-- they are among those of the manager of one thread
pub thread_long : (l : Limits) (ps : List PassShown) (h : List Event) → length ps ≤ length (thread_of l ps h).passes
thread_long l ps h =
    let e = length-append (map state_of ps) (not_given l (length ps)) in
    let f = length-map ps state_of in
    omega (arith, e, f)

-- the pass at a place has a unit open
some_is : (o : Option ℕ) → is_some o ≡ true → (u : ℕ) × (o ≡ Some u)
some_is None is = absurd cc
some_is (Some u) is = (u, refl)

-- also where the passes have done nothing but look
open_stays : (ps qs : List PassShown) → AllZip Stays ps qs → (c : ℕ) → HasOpen qs c → HasOpen ps c
open_stays ps qs zip c has = let t = zip_of_right Stays ps qs has.0 zip has.1 in (t.0, t.1, sym t.2.number ∙ has.2, has.3, sym t.2.quiet.open_unit ∙ has.4)

one_stays : (ps qs : List PassShown) → AllZip Stays ps qs → (holder : Option ℕ) → IfSome holder (HasOpen qs) → IfSome holder (HasOpen ps)
one_stays ps qs zip None has = tt
one_stays ps qs zip (Some c) has = open_stays ps qs zip c has

pub in_hand_stays : (ps qs : List PassShown) (survivors : List Survivor) → AllZip Stays ps qs → AreInHand qs survivors → AreInHand ps survivors
in_hand_stays ps qs survivors zip has = λ k d less. one_stays ps qs zip (get_or survivors k d).holder (has k d less)
