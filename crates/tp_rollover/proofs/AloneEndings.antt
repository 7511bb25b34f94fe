-- Aborts and Kills: what they leave as it was.
use Rattle.std.proofs.Common.{◌≡◌, ◌≢◌, ◌⊎◌, ℕ, ◌+◌, nat_lt, if◌then◌else◌, Bool, true, false, cond, List, [], ◌∷◌, ◌++◌, filter, refl, sym, ◌∙◌, ap, subst, inl, inr, ⊎_elim, append_assoc, arith}
use mathlib.Core.List.{IsPrefix}
use Rattle.std.proofs.lemmas.Bool.Decides.{eqb_tells}
use Rattle.tp_model.specs.declared.types.Status.{Status}
use Rattle.tp_model.specs.declared.types.Status.TheVariants.{Waiting, Held, Consumed, Parked, Killed}
use Rattle.tp_model.specs.declared.event.Event.{Event}
use Rattle.tp_model.specs.declared.event.Event.TheVariants.{Abort, Kill}
use Rattle.tp_model.specs.History.{In, IsSettled, here, there, aborted, element_of, status_of}
use Rattle.tp_model.specs.Orders.{IsWalk}
use Rattle.tp_model.proofs.Bridges.{append_nil, in_right}
use Rattle.tp_model.proofs.Histories.{status_of-snoc}
use Rattle.tp_model.proofs.Lists.{if_other}
use Rattle.tp_plain.proofs.Cancels.{same_elements}
use Rattle.tp_manager.specs.Cancels.{kills_among}
use Rattle.tp_rollover.proofs.AloneKills.{after_abort}
use Rattle.tp_rollover.proofs.AloneWalks.{AreEndings, walk_apart}

-- lists

pub two_places : {A : Type 0} (xs ys b b' : List A) (x y : A) → xs ++ x ∷ b ≡ ys ++ y ∷ b' → (xs ≡ ys) ⊎ (IsPrefix (xs ++ x ∷ []) ys ⊎ IsPrefix (ys ++ y ∷ []) xs)
two_places [] [] b b' x y e = inl refl
two_places [] (z ∷ ys) b b' x y e = inr (inl (ys, (let same : x ≡ z = cc in ap (λ w. w ∷ ys) same)))
two_places (z ∷ xs) [] b b' x y e = inr (inr (xs, (let same : y ≡ z = cc in ap (λ w. w ∷ xs) same)))
two_places (z ∷ xs) (w ∷ ys) b b' x y e =
    let same : z ≡ w = cc in
    ⊎_elim
    (λ q. inl (ap (λ v. v ∷ xs) same ∙ ap (λ zs. w ∷ zs) q))
    (λ q. inr (⊎_elim
    (λ p. inl (p.0, ap (λ v. v ∷ ((xs ++ x ∷ []) ++ p.0)) same ∙ ap (λ zs. w ∷ zs) p.1))
    (λ p. inr (p.0, ap (λ v. v ∷ ((ys ++ y ∷ []) ++ p.0)) (sym same) ∙ ap (λ zs. z ∷ zs) p.1)) q))
    (two_places xs ys b b' x y cc)

pub filter_alike : (p q : ℕ → Bool) (xs : List ℕ) → ((j : ℕ) → In j xs → p j ≡ q j) → filter p xs ≡ filter q xs
filter_alike p q [] same = refl
filter_alike p q (x ∷ xs) same =
    let rest = filter_alike p q xs (λ j r. same j (there r)) in
    ap (λ b. cond b (x ∷ filter p xs) (filter p xs)) (same x here) ∙ ap (λ zs. cond (q x) (x ∷ zs) zs) rest

pub kills_append : (es fs : List Event) → kills_among (es ++ fs) ≡ kills_among es + kills_among fs
kills_append [] fs = omega arith
kills_append (e ∷ es) fs = let rest = kills_append es fs in omega arith

-- what stands apart of the Kills stays as it is

after_either : (limit n : ℕ) (b : Bool) → ¬ IsSettled (cond b (Waiting n) (Parked n))
after_either limit n true = λ s. s
after_either limit n false = λ s. s

open_aborted : (limit c u i : ℕ) (h : List Event) (st : Status) → status_of limit h i ≡ st → ¬ IsSettled st → ¬ IsSettled (status_of limit (h ++ Abort c u ∷ []) i)
open_aborted limit c u i h (Waiting m) is not = λ s. subst IsSettled (status_of-snoc limit h (Abort c u) i ∙ ap (aborted limit u) is) s
open_aborted limit c u i h (Held v m) is not =
    elim (eqb_tells u v) [
      | inl p ↦ (λ s. after_either limit m (nat_lt m limit) (subst IsSettled (after_abort limit c u m i h (is ∙ ap (λ z. Held z m) (sym p.1))) s))
      | inr p ↦ (λ s. not (subst IsSettled (status_of-snoc limit h (Abort c u) i ∙ (ap (aborted limit u) is ∙ if_other u v (if nat_lt m limit then Waiting m else Parked m) (Held v m) p.1)) s))
    ]
open_aborted limit c u i h (Consumed v) is not = absurd (not tt)
open_aborted limit c u i h (Parked m) is not = λ s. subst IsSettled (status_of-snoc limit h (Abort c u) i ∙ ap (aborted limit u) is) s
open_aborted limit c u i h Killed is not = absurd (not tt)

pub stays_open : (limit c i : ℕ) (h es : List Event) → ((e : Event) → In e es → ((u : ℕ) × (e ≡ Abort c u)) ⊎ ((j : ℕ) × (e ≡ Kill c j) × (j ≢ i)))
    → ¬ IsSettled (status_of limit h i) → ¬ IsSettled (status_of limit (h ++ es) i)
stays_open limit c i h [] all not = subst (λ z. ¬ IsSettled (status_of limit z i)) (sym (append_nil h)) not
stays_open limit c i h (e ∷ es) all not =
    subst (λ z. ¬ IsSettled (status_of limit z i)) (append_assoc h (e ∷ []) es)
    (stays_open limit c i (h ++ e ∷ []) es (λ x p. all x (there p))
    (⊎_elim
    (λ a. subst (λ z. ¬ IsSettled (status_of limit (h ++ z ∷ []) i)) (sym a.1) (open_aborted limit c a.0 i h (status_of limit h i) refl not))
    (λ k. subst (λ z. ¬ IsSettled (status_of limit (h ++ z ∷ []) i)) (sym k.1)
    (λ s. not (subst IsSettled (status_of-snoc limit h (Kill c k.0) i ∙ if_other k.0 i Killed (status_of limit h i) k.2) s)))
    (all e here)))

pub same_born : (c : ℕ) (h es : List Event) (i : ℕ) → AreEndings c es → element_of (h ++ es) i ≡ element_of h i
same_born c h [] i all = ap (λ z. element_of z i) (append_nil h)
same_born c h (e ∷ es) i all =
    ap (λ z. element_of z i) (sym (append_assoc h (e ∷ []) es))
    ∙ (same_born c (h ++ e ∷ []) es i (λ x p. all x (there p))
    ∙ ⊎_elim
    (λ a. ap (λ z. element_of (h ++ z ∷ []) i) a.1 ∙ same_elements h (Abort c a.0) refl i)
    (λ k. ap (λ z. element_of (h ++ z ∷ []) i) k.1 ∙ same_elements h (Kill c k.0) refl i)
    (all e here))

-- no two are the same
abbrev pub Distinct : List ℕ → Type 0
Distinct [] = Unit {0}
Distinct (i ∷ ids) = (¬ In i ids) × Distinct ids

pub distinct : (limit root : ℕ) (h : List Event) (gone ids : List ℕ) → IsWalk limit h root gone ids → Distinct ids
distinct limit root h gone [] w = tt
distinct limit root h gone (i ∷ ids) w =
    ((λ p. walk_apart limit root h (gone ++ i ∷ []) ids w.1 i p (in_right gone here)), distinct limit root h (gone ++ i ∷ []) ids w.1)
