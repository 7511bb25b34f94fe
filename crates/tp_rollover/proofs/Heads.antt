-- The first of the passes, and the others.
use Rattle.std.proofs.Common.{◌≡◌, ◌≢◌, ℕ, true, zero, Option, Result, Ok, Err, IfOk, OnOk, Some, suc, ◌+◌, ◌<◌, All, None, List, [], ◌∷◌, length, get_or, refl, sym, ◌∙◌, ap, subst, inl, inr, arith}
use Rattle.std.proofs.lemmas.Bool.Decides.{eqb_tells}
use Rattle.std.proofs.lemmas.List.Elements.{All-cons}
use Rattle.std.specs.List.{AllZip}
use Rattle.std.specs.Option.{is_some}
use Rattle.tp_model.specs.declared.event.Event.{Event}
use Rattle.tp_manager.specs.Shown.{PassShown}
use Rattle.tp_rollover.specs.Thread.{Stays}
use Rattle.tp_rollover.specs.Told.{HoldsAsSeen, ToldFirst}
use Rattle.tp_rollover.proofs.Seen.{stays_refl}

pub tail_all : {A : Type 0} (P : A → Type 0) (x : A) (xs : List A) → All P (x ∷ xs) → All P xs
tail_all P x xs all k d less = all (suc k) d (omega (arith, less))

-- with another one as the first
pub all_again : {A : Type 0} (P : A → Type 0) (xs ys : List A) (x z : A) → xs ≡ x ∷ ys → All P xs → P z → All P (z ∷ ys)
all_again P xs ys x z is all at = All-cons P z ys at (tail_all P x ys (subst (All P) is all))

pub stay_same : (ps : List PassShown) → AllZip Stays ps ps
stay_same [] = tt
stay_same (p ∷ ps) = (stays_refl p, stay_same ps)

pub stays_again : (ps qs : List PassShown) (p q : PassShown) → ps ≡ p ∷ qs → Stays p q → AllZip Stays ps (q ∷ qs)
stays_again ps qs p q is stays = subst (λ z. AllZip Stays z (q ∷ qs)) (sym is) (stays, stay_same qs)

-- no unit is open in one more

pub default_same : {A : Type 0} (xs : List A) (i : ℕ) (d e : A) → i < length xs → get_or xs i d ≡ get_or xs i e
default_same [] i d e less = absurd (omega (arith, less))
default_same (x ∷ xs) zero d e less = refl
default_same (x ∷ xs) (suc i) d e less = default_same xs i d e (omega (arith, less))

pub free_more : (ps : List PassShown) (i : ℕ) (p : PassShown) → i < length ps → ((k : ℕ) (d : PassShown) → k < i → (get_or ps k d).open_unit ≡ None)
    → p ≡ get_or ps i p → p.open_unit ≡ None → (k : ℕ) (d : PassShown) → k < i + 1 → (get_or ps k d).open_unit ≡ None
free_more ps i p less before is free k d low =
    elim (eqb_tells k i) [
      | inl q ↦ ap (λ (z : PassShown). z.open_unit) (ap (λ n. get_or ps n d) q.1 ∙ (default_same ps i d p less ∙ sym is)) ∙ free
      | inr q ↦ let not : k ≢ i = q.1 in before k d (omega arith)
    ]

-- one that has a unit open shows that not all are free
open_some : (o : Option ℕ) → is_some o ≡ true → o ≡ None → ⊥
open_some None some free = absurd cc
open_some (Some u) some free = absurd cc

pub not_free : (ps : List PassShown) (i : ℕ) (p : PassShown) → i < length ps → p ≡ get_or ps i p → is_some p.open_unit ≡ true
    → All (λ (z : PassShown). z.open_unit ≡ None) ps → ⊥
not_free ps i p less is some free = open_some p.open_unit some (ap (λ (z : PassShown). z.open_unit) is ∙ free i p less)

-- what the first of the passes was told
pub first_told : {X E : Type 0} (r : Result X E) (Holds : X → List Event → Type 0) (ps qs : List PassShown) (p q : PassShown) → ps ≡ p ∷ qs → IfOk r (λ x. HoldsAsSeen p q (Holds x))
    → IfOk r (λ x. ToldFirst ps (q ∷ qs) (Holds x))
first_told (Ok x) Holds ps qs p q is told = subst (λ z. ToldFirst z (q ∷ qs) (Holds x)) (sym is) told
first_told (Err e) Holds ps qs p q is told = told

pub first_done : {X E : Type 0} (r : Result X E) (Holds : List Event → Type 0) (ps qs : List PassShown) (p q : PassShown) → ps ≡ p ∷ qs → OnOk r (HoldsAsSeen p q Holds) → OnOk r (ToldFirst ps (q ∷ qs) Holds)
first_done (Ok x) Holds ps qs p q is told = subst (λ z. ToldFirst z (q ∷ qs) Holds) (sym is) told
first_done (Err e) Holds ps qs p q is told = told
