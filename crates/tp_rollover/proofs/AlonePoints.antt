-- The points of a call where nobody else acts.
use Rattle.std.proofs.Common.{◌≡◌, ◌⊎◌, ℕ, List, [], ◌∷◌, ◌++◌, refl, sym, ◌∙◌, ap, subst, inl, inr, ⊎_elim, append_assoc}
use Rattle.std.proofs.lemmas.List.{append_cancel_left}
use mathlib.Core.List.{IsPrefix}
use Rattle.tp_model.specs.declared.types.Limits.{Limits}
use Rattle.tp_model.specs.declared.event.Event.{Event}
use Rattle.tp_model.proofs.Bridges.{append_nil, begins_trans}
use Rattle.tp_manager.specs.Calls.{AtPoint, IsQuiet, opening}
use Rattle.tp_manager.specs.Shown.{KeeperShown, PassShown}
use Rattle.tp_rollover.specs.Thread.{Alone}
use Rattle.tp_rollover.proofs.AloneApart.{old_seen, seen_is}

-- a list of one element in two parts
parts_of_one : {A : Type 0} (xs ys : List A) (x : A) → xs ++ ys ≡ x ∷ [] → (xs ≡ []) ⊎ (xs ≡ x ∷ [])
parts_of_one [] ys x e = inl refl
parts_of_one (z ∷ []) ys x e = inr (let same : z ≡ x = cc in ap (λ w. w ∷ []) same)
parts_of_one (z ∷ w ∷ xs) ys x e = absurd cc

parts_of_none : {A : Type 0} (xs ys : List A) → xs ++ ys ≡ [] → xs ≡ []
parts_of_none [] ys e = refl
parts_of_none (z ∷ xs) ys e = absurd cc

module _ (l : Limits) (keeper keeper' : KeeperShown) (olds news : List PassShown) (h h' : List Event) (n c : ℕ) (old new : PassShown) (a : Alone l keeper keeper' olds news h h' n c old new) where
  pub opens : IsPrefix h (opening old new)
  opens = subst (λ z. IsPrefix z (opening old new)) (old_seen l keeper keeper' olds news h h' n c old new a).seen a.follows.opened

  module _ (P : List Event → Type 0) (at : AtPoint old new P) where
    -- each point is h with some of the call's own events, the first
    pub point_at : (es : List Event) → new.mine ≡ old.mine ++ es → (xs ys : List Event) × (xs ++ ys ≡ es) × P (h ++ xs)
    point_at es made =
        let from : IsPrefix h at.0 = begins_trans h (opening old new) at.0 opens at.1.opened in
        let to : IsPrefix at.0 new.seen = at.1.seen in
        let whole : h ++ (from.0 ++ to.0) ≡ h ++ es = sym (append_assoc h from.0 to.0) ∙ (ap (λ z. z ++ to.0) from.1 ∙ (to.1 ∙ seen_is l keeper keeper' olds news h h' n c old new a es made)) in
        (from.0, to.0, append_cancel_left h (from.0 ++ to.0) es whole, subst P (sym from.1) at.2)

    pub point_quiet : IsQuiet old new → P h
    point_quiet quiet =
        let t = point_at [] (quiet.mine ∙ sym (append_nil old.mine)) in
        subst P (ap (λ z. h ++ z) (parts_of_none t.0 t.1 t.2) ∙ append_nil h) t.3

    pub point_one : (e : Event) → new.mine ≡ old.mine ++ e ∷ [] → P h ⊎ P (h ++ e ∷ [])
    point_one e made =
        let t = point_at (e ∷ []) made in
        ⊎_elim (λ none. inl (subst P (ap (λ z. h ++ z) none ∙ append_nil h) t.3)) (λ all. inr (subst P (ap (λ z. h ++ z) all) t.3)) (parts_of_one t.0 t.1 e t.2)
