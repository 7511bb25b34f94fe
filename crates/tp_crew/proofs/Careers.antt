-- Careers of boxes, stint by stint.
use Rattle.std.proofs.Common.{◌≡◌, ◌≤◌, ◌∙◌, ℕ, zero, suc, ◌+◌, List, [], ◌∷◌, ◌++◌, Option, Some, refl, ap, subst, arith, length, take, zip}
use Rattle.std.specs.Prelude.{slice_get}
use Rattle.std.specs.List.{AllZip, sum_by}
use Rattle.std.proofs.lemmas.List.Sums.{sum_by-append}
use Rattle.std.specs.declared.alloc.Global.{Global}
use Rattle.std.specs.declared.dyn_box.DynBox.{DynBox}
use Rattle.tp_model.specs.Counts.{taken}
use Rattle.tp_model.specs.declared.types.Element.{Element}
use Rattle.tp_server.specs.Behaviour.{Behaviour}
use Rattle.tp_server.specs.Books.{Raises}
use Rattle.tp_server.specs.Pending.{Pending}
use Rattle.tp_manager.specs.Shown.{PassShown}
use Rattle.tp_desk.specs.Serving.{gained}
use Rattle.tp_desk.proofs.Books.{serves_raised}
use Rattle.tp_crew.specs.declared.crew.Crew.{Crew}
use Rattle.tp_crew.specs.Careers.{Career, CareersAddUp, HasBecome, HasCome, Stint, consumed_in}
use Rattle.tp_crew.specs.Crew.{IsSteadyCrew, folds}
use Rattle.tp_crew.specs.CrewPasses.{HasServed, desks_in}

-- what stands at one place of two lists side by side
zip_place : {A B : Type 0} (xs : List A) (ys : List B) (k : ℕ) (y : B) → length ys ≤ length xs → slice_get ys k ≡ Some y
    → (x : A) × (slice_get (zip xs ys) k ≡ Some (x, y))
zip_place [] [] k y long at = absurd cc
zip_place [] (b ∷ ys) k y long at = absurd (omega (arith, long))
zip_place (a ∷ xs) [] k y long at = absurd cc
zip_place (a ∷ xs) (b ∷ ys) zero y long at = (a, cc)
zip_place (a ∷ xs) (b ∷ ys) (suc k) y long at = zip_place xs ys k y (omega (arith, long)) at

zip_second : {A B : Type 0} (xs : List A) (ys : List B) (k : ℕ) (p : A × B) → slice_get (zip xs ys) k ≡ Some p → slice_get ys k ≡ Some p.1
zip_second [] ys k p at = absurd cc
zip_second (a ∷ xs) [] k p at = absurd cc
zip_second {A = A} {B = B} (a ∷ xs) (b ∷ ys) zero p at =
    let e : (a, b) ≡ p = cc in
    ap (λ (q : A × B). Some q.1) e
zip_second (a ∷ xs) (b ∷ ys) (suc k) p at = zip_second xs ys k p at

each_place : {A B : Type 0} (R : A → B → Type 0) (xs : List A) (ys : List B) (k : ℕ) (x : A) → AllZip R xs ys → slice_get xs k ≡ Some x
    → (y : B) × (slice_get ys k ≡ Some y) × R x y
each_place R [] ys k x all at = absurd cc
each_place R (a ∷ xs) [] k x all at = absurd all
each_place R (a ∷ xs) (b ∷ ys) zero x all at = let e : a ≡ x = cc in (b, refl, subst (λ z. R z b) e all.0)
each_place R (a ∷ xs) (b ∷ ys) (suc k) x all at = each_place R xs ys k x all.1 at

module _ {B : Type 0} (behaviour : B → Behaviour) (registers : B → List ℕ) where
  -- one stint more
  pub career_more : (stints : List Stint) (u v w : B) (p q : PassShown) → Career behaviour registers stints u v → HasServed behaviour registers (p, v) (q, w)
      → Career behaviour registers (stints ++ (p, q) ∷ []) u w
  career_more [] u v w p q career served = (w, subst (λ z. HasServed behaviour registers (p, z) (q, w)) career served, refl)
  career_more (s ∷ stints) u v w p q career served = (career.0, career.1, career_more stints career.0 v w p q career.2 served)

  pub career_raised : (b : Behaviour) (measure : List ℕ → ℕ) (worth : Element → ℕ) (stints : List Stint) (u w : B) → Raises b measure worth → behaviour u ≡ b
      → Career behaviour registers stints u w → measure (registers w) ≡ measure (registers u) + sum_by worth (consumed_in stints)
  career_raised b measure worth [] u w raises is career = let e = ap (λ z. measure (registers z)) career in omega (arith, e)
  career_raised b measure worth (s ∷ stints) u w raises is career =
      let v = career.0 in
      let serves = rw is at career.1.leaves.serves in
      let first = serves_raised {worth = worth} raises serves in
      let rest = career_raised b measure worth stints v w raises (career.1.behaviour_is ∙ is) career.2 in
      let both = sum_by-append worth (taken (gained s.0.mine s.1.mine) s.1.seen) (consumed_in stints) in
      omega (arith, first, rest, both)

module _ {X : Type 0} {F : X → Type 0} (behaviour : DynBox X Global F → Behaviour) (registers : DynBox X Global F → List ℕ)
    (pending : DynBox X Global F → Option Pending) where
  abbrev Boxed : Type 0
  Boxed = DynBox X Global F

  -- a career begins where folds begin
  desks_long : (ps : List PassShown) (n : ℕ) → 1 + n ≤ length ps → n ≤ length (desks_in n ps)
  desks_long [] n long = absurd (omega (arith, long))
  desks_long (p ∷ ps) n long = take_long ps n (omega (arith, long))
    where
      take_long : (qs : List PassShown) (k : ℕ) → k ≤ length qs → k ≤ length (take k qs)
      take_long qs zero l = omega arith
      take_long [] (suc k) l = absurd (omega (arith, l))
      take_long (q ∷ qs) (suc k) l = let e = take_long qs k (omega (arith, l)) in omega (arith, e)

  begins_at : (c : Crew X F) (ps : List PassShown) (us : List Boxed) (k : ℕ) (u v : Boxed) (stints : List Stint) → 1 + length us ≤ length ps
      → folds c ≡ zip (desks_in (length us) ps) us → slice_get us k ≡ Some v → Career behaviour registers stints u v → HasCome behaviour registers k u stints c
  begins_at c ps us k u v stints long begun at career =
      let place = zip_place (desks_in (length us) ps) us k v (desks_long ps (length us) long) at in
      record { pass = place.0; box = v; began = ap (λ l. slice_get l k) begun ∙ place.1; career = career }

  enough : (c : Crew X F) → IsSteadyCrew behaviour registers pending c → 1 + length c.boxes.items ≤ length c.managed.passes.items
  enough c h = let e = h.count in omega (arith, e)

  pub has_begun : (c : Crew X F) (k : ℕ) (u : Boxed) → IsSteadyCrew behaviour registers pending c
      → folds c ≡ zip (desks_in (length c.boxes.items) c.managed.passes.items) c.boxes.items → slice_get c.boxes.items k ≡ Some u → HasCome behaviour registers k u [] c
  has_begun c k u h begun at = begins_at c c.managed.passes.items c.boxes.items k u u [] (enough c h) begun at refl

  -- what it has done in the crew's manager is one stint more
  pub has_become : (c : Crew X F) (k : ℕ) (u : Boxed) (stints : List Stint) → IsSteadyCrew behaviour registers pending c → HasCome behaviour registers k u stints c
      → (more : List Stint) × HasBecome behaviour registers k u more c
  has_become c k u stints h come =
      let us = c.boxes.items in
      let now = each_place (HasServed behaviour registers) (folds c) (zip (desks_in (length us) c.managed.passes.items) us) k (come.pass, come.box) h.served come.began in (
        stints ++ (come.pass, now.0.0) ∷ [],
        record {
          box = now.0.1;
          stands = zip_second (desks_in (length us) c.managed.passes.items) us k now.0 now.1;
          career = career_more behaviour registers stints u come.box now.0.1 come.pass now.0.0 come.career now.2;
        },
      )

  -- and in the next manager it goes on from there
  pub has_rolled : (old new : Crew X F) (k : ℕ) (u : Boxed) (stints : List Stint) → IsSteadyCrew behaviour registers pending old → IsSteadyCrew behaviour registers pending new
      → new.boxes ≡ old.boxes → folds new ≡ zip (desks_in (length new.boxes.items) new.managed.passes.items) new.boxes.items
      → HasCome behaviour registers k u stints old → (more : List Stint) × HasCome behaviour registers k u more new
  has_rolled old new k u stints h h' boxes begun come =
      let now = has_become old k u stints h come in
      (now.0, begins_at new new.managed.passes.items new.boxes.items k u now.1.box now.0 (enough new h') begun (ap (λ v. slice_get v.items k) boxes ∙ now.1.stands) now.1.career)

pub careers_add_up : {X : Type 0} {F : X → Type 0} (behaviour : DynBox X Global F → Behaviour) (registers : DynBox X Global F → List ℕ) → CareersAddUp behaviour registers
careers_add_up behaviour registers b measure worth stints u w raises is career = career_raised behaviour registers b measure worth stints u w raises is career

-- where folds go on as they were, so do careers
pub come_same : {X : Type 0} {F : X → Type 0} (behaviour : DynBox X Global F → Behaviour) (registers : DynBox X Global F → List ℕ) (old new : Crew X F) (k : ℕ)
    (u : DynBox X Global F) (stints : List Stint) → new.starts ≡ old.starts → HasCome behaviour registers k u stints old → HasCome behaviour registers k u stints new
come_same behaviour registers old new k u stints same come = record {
  pass = come.pass;
  box = come.box;
  began = rw (same) come.began;
  career = come.career;
}
