-- What was described in one manager and stands again in another was carried over.
use Rattle.std.proofs.Common.{◌≡◌, IfOk, IfSome, Result, Ok, Err, ℕ, Option, Some, None, List, [], ◌∷◌, ◌+◌, map, refl, sym, ◌∙◌, ap, subst, All, suc, arith}
use Rattle.std.specs.List.{AllZip}
use Rattle.tp_model.specs.declared.types.Element.{Element}
use Rattle.tp_model.specs.declared.types.Limits.{Limits}
use Rattle.tp_model.specs.declared.types.Status.{Status}
use Rattle.tp_model.specs.declared.types.Status.TheVariants.{Waiting, Held, Consumed, Parked, Killed}
use Rattle.tp_model.specs.declared.event.Event.{Event}
use Rattle.tp_model.specs.History.{In, here, there, IsBorn, element_of, rounds, status_of}
use Rattle.tp_model.specs.Steps.{IsKillable, IsLegal}
use Rattle.tp_model.proofs.Later.{births_inside}
use Rattle.tp_manager.specs.Shown.{PassShown}
use Rattle.tp_rollover.specs.Thread.{Stays}
use Rattle.tp_rollover.specs.Alike.{AllStandUnheld, StandsUnheld}
use Rattle.tp_rollover.specs.Checks.{IsNamed}
use Rattle.tp_rollover.specs.Finding.{AreAlive, AreAliveOf, AreDescribed, AreSurvivorsOf, IsDescribed, StandsAlive, StandsLiving}
use Rattle.tp_rollover.specs.Hands.{AreHolders, HandsGoOn, HasInHand, HasOpen, PassHolds, NamesHolder, IsNamedHolder, holder_of}
use Rattle.tp_rollover.specs.Rolls.{IsCarried, IsSame}
use Rattle.tp_rollover.specs.Survivors.{AreHands, AreInHand, AreSurvivors, Ascending, IsHolder, IsInHand, IsLiving, IsStanding, StandAgain, StandsAgain}
use Rattle.tp_rollover.specs.Told.{HoldsAsSeen}
use Rattle.tp_rollover.specs.declared.moved.Moved.{Moved}
use Rattle.tp_rollover.specs.declared.survivors.Survivor.{Survivor}
use Rattle.tp_rollover.proofs.Lists.{zip_of_left, zip_of_right}
use Rattle.tp_rollover.proofs.Seen.{told_first, told_second}

-- the ids of what was described
ids_are : (limit : Limits) (h : List Event) (ids : List ℕ) (ss : List Survivor) → AreDescribed limit h ids ss → map (λ (s : Survivor). s.id) ss ≡ ids
ids_are limit h [] [] all = refl
ids_are limit h [] (s ∷ ss) all = absurd all
ids_are limit h (i ∷ ids) [] all = absurd all
ids_are limit h (i ∷ ids) (s ∷ ss) all = let a = all.0.0 in let b = ids_are limit h ids ss all.1 in cc

-- all that were found alive, described
pub all_described : (l : Limits) (h : List Event) (ids : List ℕ) (survivors : List Survivor) → IsLegal l h → AreAlive l ids h → AreDescribed l h ids survivors → Ascending 0 ids → AreSurvivors l h survivors
all_described l h ids survivors legal found described once = record {
  each = λ x born alive. let t = zip_of_left (IsDescribed l h) ids survivors x.id described (found x born (births_inside l h legal x born) alive) in (t.0, t.1, t.2.0);
  described = λ s p. (zip_of_right (IsDescribed l h) ids survivors s described p).2.1;
  once = subst (Ascending 0) (sym (ids_are l h ids survivors described)) once;
}

-- so it is told by looks, one after another
pub survivors_told : {X E : Type 0} (r : Result X E) (items : X → List Survivor) (l : Limits) (n : ℕ) (ids : List ℕ) (p q t : PassShown) → Stays p q → Stays q t → Ascending 0 ids → HoldsAsSeen p q (AreAliveOf l n ids)
    → IfOk r (λ x. HoldsAsSeen q t (λ h. AreDescribed l h ids (items x))) → IfOk r (λ x. HoldsAsSeen p t (λ h. AreSurvivorsOf l n h (items x)))
survivors_told (Err e) items l n ids p q t a b once found described = described
survivors_told (Ok x) items l n ids p q t a b once found described = λ same legal counts.
    all_described l p.seen ids (items x) legal (told_first (AreAliveOf l n ids) p.seen q.seen t.seen a.sees b.sees found same legal counts)
    (told_second (λ h. AreDescribed l h ids (items x)) p.seen q.seen t.seen a.sees b.sees described same) once

-- what stands unheld waits or is parked
pub stand_alive : (limit : ℕ) (g : List Event) (survivors : List Survivor) (moved : List Moved) → AllStandUnheld limit g survivors moved → (m : Moved) → In m moved → StandsAlive limit m.new g
stand_alive limit g survivors moved all m p =
    let t = (zip_of_right (StandsUnheld limit g) survivors moved m all p).2 in
    record { item = t.item; born = t.born; alive = subst IsKillable (sym t.status) t.alive }

-- each that was alive is named
pub all_are_named : (l k : Limits) (h g : List Event) (survivors : List Survivor) (moved : List Moved) → AreSurvivors l h survivors → AllZip (StandsAgain k g) survivors moved
    → (x : Element) → IsBorn h x → IsLiving (status_of l.attempts h x.id) → IsNamed (λ m. m.old) x.id moved
all_are_named l k h g survivors moved found all x born alive =
    let s = found.each x born alive in
    let t = zip_of_left (StandsAgain k g) survivors moved s.0 all s.1 in
    (t.0, t.1, t.2.named.0 ∙ s.2)

-- what is described so is alive
standing_lives : (l : Limits) (is status : Status) (holder : Option ℕ) → IsStanding l is status holder → IsLiving is
standing_lives l is status None a = subst IsLiving (sym a.0) (lives status a.1)
  where
    lives : (s : Status) → IsKillable s → IsLiving s
    lives (Waiting n) b = tt
    lives (Held u n) b = absurd b
    lives (Consumed u) b = absurd b
    lives (Parked n) b = tt
    lives Killed b = absurd b
standing_lives l is status (Some c) a = subst IsLiving (sym a.2) tt

unheld_same : (l k : Limits) (status : Status) → IsKillable status → IsSame l k status status
unheld_same l k (Waiting n) a = refl
unheld_same l k (Held u n) a = absurd a
unheld_same l k (Consumed u) a = absurd a
unheld_same l k (Parked n) a = refl
unheld_same l k Killed a = absurd a

as_often : (n m : ℕ) (status : Status) → status ≡ Waiting n → status ≡ Waiting m → m ≡ n
as_often n m status a b = let e : Waiting m ≡ Waiting n = sym b ∙ a in cc

-- two that are described alike stand alike
same_standing : (l k : Limits) (is is' status : Status) (holder : Option ℕ) → IsStanding l is status holder → IsStanding k is' status holder → IsSame l k is is'
same_standing l k is is' status None a b = subst (λ z. IsSame l k z is') (sym a.0) (subst (IsSame l k status) (sym b.0) (unheld_same l k status a.1))
same_standing l k is is' status (Some c) a b =
    let often : b.1 ≡ a.1 = as_often a.1 b.1 status a.3 b.3 in
    subst (λ z. IsSame l k z is') (sym a.2) (b.0, b.2 ∙ ap (λ n. Held b.0 (n + 1)) often, sym b.4 ∙ a.4)

-- and each that is named was carried over
pub all_carried : (l k : Limits) (h g : List Event) (survivors : List Survivor) (moved : List Moved) → AreSurvivors l h survivors → StandAgain k g survivors moved → (m : Moved) → In m moved → IsCarried l k h g m
all_carried l k h g survivors moved found again m p =
    let z = zip_of_right (StandsAgain k g) survivors moved m again.each p in
    let d = found.described z.0 z.1 in
    let t = z.2 in
    let old : m.old ≡ z.0.id = t.named.0 in
    record {
      old = d.item;
      new = t.item;
      was = (ap (λ i. element_of h i) old ∙ d.born, d.root ∙ sym t.named.1);
      is = (t.born, t.root);
      stage = t.stage ∙ sym d.stage;
      body = t.body ∙ sym d.body;
      same = subst (λ i. IsSame l k (status_of l.attempts h i) (status_of k.attempts g m.new)) (sym old)
          (same_standing l k (status_of l.attempts h z.0.id) (status_of k.attempts g m.new) z.0.status z.0.holder d.stands t.stands);
      rounds_are = t.rounds_are ∙ (sym d.rounds_are ∙ ap (λ i. rounds h i) (sym old));
      request = (t.request, t.began, t.by_client);
      itself = λ e. t.itself (sym old ∙ (e ∙ t.named.1));
    }

-- so it was alive
same_lives : (l k : Limits) (is is' : Status) → IsSame l k is is' → IsLiving is
same_lives l k (Waiting n) is' a = tt
same_lives l k (Held u n) is' a = tt
same_lives l k (Consumed u) is' a = absurd a
same_lives l k (Parked n) is' a = tt
same_lives l k Killed is' a = absurd a

pub carried_lives : (l k : Limits) (h g : List Event) (m : Moved) → IsCarried l k h g m → IsLiving (status_of l.attempts h m.old)
carried_lives l k h g m c = same_lives l k (status_of l.attempts h m.old) (status_of k.attempts g m.new) c.same

pub carried_living : (l k : Limits) (h g : List Event) (m : Moved) → IsCarried l k h g m → StandsLiving l.attempts m.old h
carried_living l k h g m c = record { item = c.old; born = c.was.0; living = carried_lives l k h g m c }

-- ---- what is in hand

pub each_of : {A : Type 0} (P : A → Type 0) (xs : List A) (x : A) → All P xs → In x xs → P x
each_of P [] x all q = elim q [ ]
each_of P (y ∷ xs) x all here = all 0 x (omega arith)
each_of P (y ∷ xs) x all (there q) = each_of P xs x (λ k d less. all (suc k) d (omega (arith, less))) q

zip_both : {A B : Type 0} (R Q : A → B → Type 0) (xs : List A) (ys : List B) → AllZip R xs ys → AllZip Q xs ys → AllZip (λ x y. R x y × Q x y) xs ys
zip_both R Q [] [] a b = tt
zip_both R Q [] (y ∷ ys) a b = absurd a
zip_both R Q (x ∷ xs) [] a b = absurd a
zip_both R Q (x ∷ xs) (y ∷ ys) a b = ((a.0, b.0), zip_both R Q xs ys a.1 b.1)

same_unit : (u n v m : ℕ) → Held u n ≡ Held v m → v ≡ u
same_unit u n v m e = cc

-- the holder is the pass whose unit it is
holder_is : (l : Limits) (is status : Status) (holder : Option ℕ) (u n : ℕ) → IsStanding l is status holder → is ≡ Held u n → holder ≡ Some (holder_of l u)
holder_is l is status None u n a held = absurd (subst IsKillable (sym a.0 ∙ held) a.1)
holder_is l is status (Some c) u n a held = ap Some (a.4 ∙ ap (holder_of l) (same_unit u n a.0 (a.1 + 1) (sym held ∙ a.2)))

-- who is described as the holder of one is named so
pub are_holders : (k : Limits) (g : List Event) (ps : List PassShown) (survivors : List Survivor) (moved : List Moved) → AllZip (StandsAgain k g) survivors moved → AreHands k g ps survivors moved → AreHolders k g ps moved
are_holders k g ps survivors moved all hands = record {
  held = λ m p.
      (let z = zip_of_right (λ s x. StandsAgain k g s x × IsInHand k g ps s x) survivors moved m (zip_both (StandsAgain k g) (IsInHand k g ps) survivors moved all hands.held) p in
      subst (λ o. IfSome o (λ c. HasInHand k g ps c m.new)) (sym z.2.0.holder) z.2.1);
  free = λ q p none. hands.free q p (λ holds. none (named q.number holds));
}
  where
    named : (c : ℕ) → IsHolder c survivors → IsNamedHolder c moved
    named c holds = let t = zip_of_left (StandsAgain k g) survivors moved holds.0 all holds.1 in (t.0, t.1, t.2.holder ∙ holds.2)

killable_held : (l : Limits) (status : Status) → IsKillable status → NamesHolder l status None
killable_held l (Waiting n) a = refl
killable_held l (Held u n) a = absurd a
killable_held l (Consumed u) a = absurd a
killable_held l (Parked n) a = refl
killable_held l Killed a = absurd a

standing_held : (l : Limits) (is status : Status) (holder : Option ℕ) → IsStanding l is status holder → NamesHolder l is holder
standing_held l is status None a = subst (λ z. NamesHolder l z None) (sym a.0) (killable_held l status a.1)
standing_held l is status (Some c) a = subst (λ z. NamesHolder l z (Some c)) (sym a.2) (ap Some a.4)

module _ (l k : Limits) (h g : List Event) (olds news : List PassShown) (survivors : List Survivor) (moved : List Moved) (found : AreSurvivors l h survivors) (again : StandAgain k g survivors moved)
    (had : AreInHand olds survivors) (hands : AreHands k g news survivors moved) where
  holder : (s : Survivor) (m : Moved) (u n : ℕ) → In s survivors → m.old ≡ s.id → status_of l.attempts h m.old ≡ Held u n → s.holder ≡ Some (holder_of l u)
  holder s m u n p same held = holder_is l (status_of l.attempts h s.id) s.status s.holder u n (found.described s p).stands (ap (status_of l.attempts h) (sym same) ∙ held)

  pub hands_go_on : HandsGoOn l k h g olds news moved
  hands_go_on = record {
    named = λ m p.
        (let z = zip_of_right (StandsAgain k g) survivors moved m again.each p in
        let d = found.described z.0 z.1 in
        subst (NamesHolder l (status_of l.attempts h m.old)) (sym z.2.holder)
        (subst (λ i. NamesHolder l (status_of l.attempts h i) z.0.holder) (sym z.2.named.0) (standing_held l (status_of l.attempts h z.0.id) z.0.status z.0.holder d.stands)));
    had = λ m p u n held.
        (let z = zip_of_right (StandsAgain k g) survivors moved m again.each p in
        subst (λ o. IfSome o (HasOpen olds)) (holder z.0 m u n z.1 z.2.named.0 held) (each_of (λ (s : Survivor). IfSome s.holder (HasOpen olds)) survivors z.0 had z.1));
    held = λ m p u n held.
        (let z = zip_of_right (λ s x. StandsAgain k g s x × IsInHand k g news s x) survivors moved m (zip_both (StandsAgain k g) (IsInHand k g news) survivors moved again.each hands.held) p in
        subst (λ o. IfSome o (λ c. HasInHand k g news c m.new)) (holder z.0 m u n z.1 z.2.0.named.0 held) z.2.1);
    free = λ q p none. hands.free q p (λ holds. none (holder_of_one q.number holds));
  }
    where
      holder_of_one : (c : ℕ) → IsHolder c survivors → PassHolds l h c
      holder_of_one c holds =
          let s = holds.0 in
          let stands = subst (IsStanding l (status_of l.attempts h s.id) s.status) holds.2 (found.described s holds.1).stands in
          (s.id, stands.0, stands.1 + 1, stands.2, sym stands.4)
