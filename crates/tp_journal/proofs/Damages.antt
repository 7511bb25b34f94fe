-- What tells of damage.
use Rattle.std.proofs.Common.{◌≡◌, inl, inr, ⊎_elim, ℕ, zero, suc, ◌+◌, ◌-◌, ◌<◌, ◌≤◌, true, false, nat_eq, List, [], ◌∷◌, ◌++◌, get_or, length, take, drop, sym, ◌∙◌, ap, subst, arith, length-append, take-append-drop, append_assoc}
use Rattle.std.specs.Prelude.{All}
use Rattle.std.proofs.lemmas.Bool.Decides.{nat_tests}
use Rattle.std.proofs.lemmas.List.{drop_more, take_at, drop_at}
use Rattle.std.proofs.lemmas.List.Elements.{All-get_or}
use Rattle.tp_journal.specs.Text.{BeginsElsewhere, IsDamage, IsSet, IsText}

abbrev pub IsZero : ℕ → Type 0
IsZero b = b ≡ 0

pub eq-true : (a b : ℕ) → nat_eq a b ≡ true → a ≡ b
eq-true a b is = grind (arith, nat_tests)

pub eq-false : (a b : ℕ) → nat_eq a b ≡ false → a ≡ b → ⊥
eq-false a b is same = grind (arith, nat_tests)

set-zero : (b : ℕ) → IsSet b → b ≡ 0 → ⊥
set-zero b set is = grind (arith, nat_tests)

pub end-split : (rest : List ℕ) (at : ℕ) → 1 ≤ at → at < length rest → get_or rest (at - 1) 0 ≡ 23 → get_or rest at 0 ≡ 10 → rest ≡ take (at - 1) rest ++ 23 ∷ 10 ∷ drop (at + 1) rest
end-split rest at some inside first second =
    let one : drop (at - 1) rest ≡ 23 ∷ drop at rest = drop_more rest (at - 1) 0 (omega (arith, some, inside)) ∙ ap (λ (b : ℕ). b ∷ drop (at - 1 + 1) rest) first ∙ ap (λ (n : ℕ). 23 ∷ drop n rest) (omega (arith, some)) in
    let two : drop at rest ≡ 10 ∷ drop (at + 1) rest = drop_more rest at 0 inside ∙ ap (λ (b : ℕ). b ∷ drop (at + 1) rest) second in
    sym (take-append-drop (at - 1) rest) ∙ ap (λ (l : List ℕ). take (at - 1) rest ++ l) (one ∙ ap (λ (l : List ℕ). 23 ∷ l) two)

pub back-told : (begin rest : List ℕ) (at used : ℕ) → 1 ≤ at → at < length rest → get_or rest (at - 1) 0 ≡ 23 → get_or rest at 0 ≡ 10 → used ≤ length (drop (at + 1) rest) → 0 < used → IsSet (get_or (drop (at + 1) rest) (used - 1) 0) → IsDamage begin rest
back-told begin rest at used some inside first second le any last = record {
  front = take (at - 1) rest;
  back = drop (at + 1) rest;
  split = end-split rest at some inside first second;
  told = inl (inr (λ all. set-zero _ last (All-get_or IsZero (drop (at + 1) rest) (used - 1) 0 (omega (arith, le, any)) all)));
}

pub front-told : (begin rest : List ℕ) (at : ℕ) → 1 ≤ at → at < length rest → get_or rest (at - 1) 0 ≡ 23 → get_or rest at 0 ≡ 10 → IsText (take (at - 1) rest) → IsDamage begin rest
front-told begin rest at some inside first second text = record {
  front = take (at - 1) rest;
  back = drop (at + 1) rest;
  split = end-split rest at some inside first second;
  told = inl (inl text);
}

pub elsewhere-told : (begin rest : List ℕ) (at : ℕ) → 1 ≤ at → at < length rest → get_or rest (at - 1) 0 ≡ 23 → get_or rest at 0 ≡ 10 → BeginsElsewhere begin (take (at - 1) rest) → IsDamage begin rest
elsewhere-told begin rest at some inside first second told = record {
  front = take (at - 1) rest;
  back = drop (at + 1) rest;
  split = end-split rest at some inside first second;
  told = inr told;
}

module _ (begin rest : List ℕ) (d : IsDamage begin rest) (at : ℕ) (here : at ≡ length d.front + 1) where
  front-is : take (at - 1) rest ≡ d.front
  front-is = ap (take (at - 1)) d.split ∙ take_at d.front (23 ∷ 10 ∷ d.back) (at - 1) (omega (arith, here))

  back-is : drop (at + 1) rest ≡ d.back
  back-is = ap (drop (at + 1)) (d.split ∙ sym (append_assoc d.front (23 ∷ 10 ∷ []) d.back)) ∙ drop_at (d.front ++ 23 ∷ 10 ∷ []) d.back (at + 1) (omega (arith, here, length-append d.front (23 ∷ 10 ∷ [])))

  pub not-told : (set : ℕ) → (All IsZero (drop (at + 1) rest)) → set ≤ length (take (at - 1) rest) → (set ≡ length (take (at - 1) rest) → ⊥) → (set < length (take (at - 1) rest) → get_or (take (at - 1) rest) set 0 ≡ 0)
      → (BeginsElsewhere begin (take (at - 1) rest) → ⊥) → ⊥
  not-told set zeros le differs next here_begun = ⊎_elim (λ missing. ⊎_elim
      (λ text. set-zero _ (All-get_or IsSet (take (at - 1) rest) set 0 (omega (arith, le, differs)) (subst IsText (sym front-is) text)) (next (omega (arith, le, differs))))
      (λ some. some (subst (All IsZero) back-is zeros))
      missing)
      (λ other. here_begun (subst (BeginsElsewhere begin) (sym front-is) other))
      d.told

pub all-zero : (n : ℕ) (l : List ℕ) → n ≤ 0 → All IsZero (drop n l) → All IsZero l
all-zero zero l le all = all
all-zero (suc n) l le all = absurd (omega (arith, le))
