-- What a sweep leaves, where at least one request is kept behind its end: each on which work went on.
use Rattle.std.proofs.Common.{◌≡◌, ◌≢◌, ◌==◌, ◌≤◌, ℕ, zero, suc, Bool, true, false, nat_le, Option, Some, None, List, [], ◌∷◌, ◌++◌, length, refl, sym, ◌∙◌, ap, subst, arith}
use Rattle.std.specs.List.{AllByRecursion}
use Rattle.std.proofs.lemmas.Bool.Decides.{nat_tests}
use Rattle.tp_store.specs.declared.element.Element.{Element}
use Rattle.tp_store.specs.declared.ends.TheConstants.{FORGET_STEPS}
use Rattle.tp_store.specs.Changes.{Remains}
use Rattle.tp_store.specs.Elements.{Entry, element_at, family_of, first_in, without}
use Rattle.tp_store.specs.Ends.{ended_in, forget, forget_first, forget_one, is_over}
use Rattle.tp_store.specs.Soundness.{HasEnded, IsSound}
use Rattle.tp_store.specs.State.{State, swept, with_end}
use Rattle.tp_store.proofs.Forgetting.{in_family, loses_steps, with_shelf}
use Rattle.tp_store.proofs.Looking.{first_is, without_looks}
use Rattle.tp_store.proofs.Overs.{differ}

-- none of these but the last may be this request
abbrev pub IsLastAtMost : ℕ → List ℕ → Type 0
IsLastAtMost r [] = Unit {0}
IsLastAtMost r (x ∷ []) = Unit {0}
IsLastAtMost r (x ∷ y ∷ zs) = (x ≢ r) × IsLastAtMost r (y ∷ zs)

last_alone : (r : ℕ) (xs : List ℕ) → AllByRecursion (λ x. x ≢ r) xs → IsLastAtMost r xs
last_alone r [] all = tt
last_alone r (x ∷ []) all = tt
last_alone r (x ∷ y ∷ zs) all = (all.0, last_alone r (y ∷ zs) all.1)

last_more : (r root : ℕ) (xs : List ℕ) → AllByRecursion (λ x. x ≢ r) xs → IsLastAtMost r (xs ++ root ∷ [])
last_more r root [] all = tt
last_more r root (x ∷ []) all = (all.0, tt)
last_more r root (x ∷ y ∷ zs) all = (all.0, last_more r root (y ∷ zs) all.1)

-- a request on which work goes on is none of those that ended
live_apart : (s : State) (r : ℕ) (xs : List ℕ) → is_over r s.elements ≡ false → AllByRecursion (HasEnded s) xs → AllByRecursion (λ x. x ≢ r) xs
live_apart s r [] live all = tt
live_apart s r (x ∷ xs) live all = (λ same. differ live (subst (λ y. is_over y s.elements ≡ true) same all.0.1), live_apart s r xs live all.1)

last_ended : (s t : State) (r root : ℕ) → IsSound s → is_over r s.elements ≡ false → t.ended ≡ s.ended → IsLastAtMost r (ended_in root t.elements t.ended)
last_ended s t r root sound live same = go (is_over root t.elements) refl
  where
    go : (b : Bool) → is_over root t.elements ≡ b → IsLastAtMost r (ended_in root t.elements t.ended)
    go true h = rw (h, same) (last_more r root s.ended (live_apart s r s.ended live sound.ended))
    go false h = rw (h, same) (last_alone r s.ended (live_apart s r s.ended live sound.ended))

-- each element of a request that stays found
pub record IsLeft (r : ℕ) (s t : State) : Type 0 where
  pub last : IsLastAtMost r t.ended
  pub found : (id : ℕ) (e : Element) → element_at id s.elements ≡ Some e → e.root ≡ r → element_at id t.elements ≡ Some e

left_step : (r : ℕ) (s : State) → IsSound s → 1 ≤ s.limits.keep → IsLastAtMost r s.ended → IsLeft r s (with_shelf s (forget_one s.limits.keep (record { elements = s.elements; ended = s.ended })))
left_step r s sound keep last = go (nat_le (length s.ended) s.limits.keep) refl s.ended refl
  where
    not_one : (n : ℕ) → 1 ≤ n → nat_le 1 n ≡ false → ⊥
    not_one n low h = absurd (grind (arith, nat_tests))

    as_number : (m n : ℕ) → (m == n) ≡ true → m ≡ n
    as_number m n h = grind (arith, nat_tests)

    first : (x y : ℕ) (zs : List ℕ) → s.ended ≡ x ∷ y ∷ zs → IsLastAtMost r (x ∷ y ∷ zs) → (f : Option Entry) → first_in family_of x 0 s.elements ≡ f → IsLeft r s (with_shelf s (forget_first f (y ∷ zs) (record { elements = s.elements; ended = s.ended })))
    first x y zs is last None h = record { last = last.1; found = λ id e found same. found }
    first x y zs is last (Some f) h = record { last = rw is last; found = λ id e found same. still id e found same (f.0 == id) refl }
      where
        still : (id : ℕ) (e : Element) → element_at id s.elements ≡ Some e → e.root ≡ r → (b : Bool) → (f.0 == id) ≡ b → element_at id (without f.0 s.elements) ≡ Some e
        still id e found same false here = without_looks f.0 s.elements sound.sorted id ∙ rw here found
        still id e found same true here =
            let member = first_is family_of x 0 s.elements sound.sorted f h in
            let place = as_number f.0 id here in
            let both : Some f.1 ≡ Some e = sym member.found ∙ (ap (λ i. element_at i s.elements) place ∙ found) in
            let one : f.1 ≡ e = cc in
            absurd (last.0 (sym (in_family x f.1.root member.member) ∙ (ap (λ (d : Element). d.root) one ∙ same)))

    go : (b : Bool) → nat_le (length s.ended) s.limits.keep ≡ b → (roots : List ℕ) → s.ended ≡ roots → IsLeft r s (with_shelf s (forget_one s.limits.keep (record { elements = s.elements; ended = s.ended })))
    go true h roots is = rw h (record { last = last; found = λ id e found same. found })
    go false h [] is = rw (h, is) (record { last = tt; found = λ id e found same. found })
    go false h (x ∷ []) is = absurd (not_one s.limits.keep keep (sym (ap (λ (xs : List ℕ). nat_le (length xs) s.limits.keep) is) ∙ h))
    go false h (x ∷ y ∷ zs) is = rw (h, is) (rw (← is) (first x y zs is (rw is at last) (first_in family_of x 0 s.elements) refl))

left_steps : (n r : ℕ) (s : State) → IsSound s → 1 ≤ s.limits.keep → IsLastAtMost r s.ended → IsLeft r s (with_shelf s (forget n s.limits.keep (record { elements = s.elements; ended = s.ended })))
unfolding forget
left_steps zero r s sound keep last = record { last = last; found = λ id e found same. found }
left_steps (suc n) r s sound keep last =
    let before = left_steps n r s sound keep last in
    let one = left_step r _ (loses_steps n s sound).sound keep before.last in
    record { last = one.last; found = λ id e found same. one.found id e (before.found id e found same) same }

-- each element of a request on which work went on before a call is found behind its last sweep, if before it
abbrev pub Keeps : State → State → State → Type 0
Keeps s t u = 1 ≤ s.limits.keep → (id : ℕ) (e : Element) → element_at id t.elements ≡ Some e → is_over e.root s.elements ≡ false → element_at id u.elements ≡ Some e

-- and so behind the call
abbrev pub KeepsAlive : State → State → Type 0
KeepsAlive s u = 1 ≤ s.limits.keep → (id : ℕ) (e : Element) → element_at id s.elements ≡ Some e → is_over e.root s.elements ≡ false → Remains u id e

pub keeps_none : (s t : State) → Keeps s t t
keeps_none s t keep id e found live = found

pub keeps_swept : (s t : State) → IsSound s → IsSound t → t.limits ≡ s.limits → t.ended ≡ s.ended → Keeps s t (swept t)
keeps_swept s t sound fit limits ended keep id e found live = (left_steps FORGET_STEPS e.root t fit (rw limits keep) (rw ended (last_alone e.root s.ended (live_apart s e.root s.ended live sound.ended)))).found id e found refl

pub keeps_end : (s t : State) (root : ℕ) → IsSound s → IsSound (with_end root t) → t.limits ≡ s.limits → t.ended ≡ s.ended → Keeps s t (swept (with_end root t))
keeps_end s t root sound fit limits ended keep id e found live = (left_steps FORGET_STEPS e.root (with_end root t) fit (rw limits keep) (last_ended s t e.root root sound live ended)).found id e found refl
