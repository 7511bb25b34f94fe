-- What workers of a list were told, place by place.
use Rattle.std.proofs.Common.{◌≡◌, ◌+◌, List, [], ◌∷◌, ◌++◌, refl, sym, ◌∙◌, ap, ap₂, subst, arith, length, length-append, get_or, slice_set, zip}
use Rattle.tp_workers.specs.declared.tally.Shift.{Shift}
use Rattle.tp_workers.specs.Tally.{empty_shift, plus, sum_of}
use Rattle.tp_workers.specs.Ran.{AreTold, RanEach, RanList}
use Rattle.tp_workers.proofs.Counts.{none_plus, plus_assoc, plus_none}
use Rattle.tp_workers.proofs.Ran.{zip_append}

sum_append : (a b : List Shift) → sum_of (a ++ b) ≡ plus (sum_of a) (sum_of b)
sum_append [] b = sym (none_plus (sum_of b))
sum_append (s ∷ a) b = ap (plus s) (sum_append a b) ∙ sym (plus_assoc s (sum_of a) (sum_of b))

list_append : {T : Type 0} (R : T → Shift → T → Type 0) (xs : List T) (a : List Shift) (ys xs' : List T) (b : List Shift) (ys' : List T)
    → RanList R xs a ys → RanList R xs' b ys' → RanList R (xs ++ xs') (a ++ b) (ys ++ ys')
list_append R [] [] [] xs' b ys' h k = k
list_append R [] [] (y ∷ ys) xs' b ys' h k = absurd h
list_append R [] (s ∷ a) ys xs' b ys' h k = absurd h
list_append R (x ∷ xs) [] ys xs' b ys' h k = absurd h
list_append R (x ∷ xs) (s ∷ a) [] xs' b ys' h k = absurd h
list_append R (x ∷ xs) (s ∷ a) (y ∷ ys) xs' b ys' h k = (h.0, list_append R xs a ys xs' b ys' h.1 k)

-- a weaker relation
pub list_weaker : {T : Type 0} (R Q : T → Shift → T → Type 0) → ((x : T) (s : Shift) (y : T) → R x s y → Q x s y)
    → (xs : List T) (a : List Shift) (ys : List T) → RanList R xs a ys → RanList Q xs a ys
list_weaker R Q w [] [] [] h = tt
list_weaker R Q w [] [] (y ∷ ys) h = absurd h
list_weaker R Q w [] (s ∷ a) ys h = absurd h
list_weaker R Q w (x ∷ xs) [] ys h = absurd h
list_weaker R Q w (x ∷ xs) (s ∷ a) [] h = absurd h
list_weaker R Q w (x ∷ xs) (s ∷ a) (y ∷ ys) h = (w x s y h.0, list_weaker R Q w xs a ys h.1)

module _ {T U : Type 0} (R : T × U → Shift → T × U → Type 0) where
  -- no worker, one, and those of two parts
  pub told_none : (xs : List T) (ys : List U) (places : List Shift) (s : Shift) → length xs ≡ 0 → length xs ≡ length ys → s ≡ empty_shift
      → AreTold R xs ys places s xs ys places
  told_none [] [] [] s z e n = record { kept = refl; each = λ long. tt; sum = λ long. n }
  told_none [] [] (p ∷ places) s z e n =
      record { kept = refl; each = λ long. absurd (omega (arith, long)); sum = λ long. absurd (omega (arith, long)) }
  told_none [] (y ∷ ys) places s z e n = absurd (omega (arith, e))
  told_none (x ∷ xs) ys places s z e n = absurd (omega (arith, z))

  pub told_single : (xs : List T) (ys : List U) (x dx : T) (y dy : U) (places told : List Shift) (s : Shift) → length xs ≡ 1 → length xs ≡ length ys
      → length told ≡ length places → (length places ≡ 1 → told ≡ s ∷ []) → R (get_or xs 0 dx, get_or ys 0 dy) s (x, y)
      → AreTold R xs ys places s (slice_set xs 0 x) (slice_set ys 0 y) told
  told_single [] ys x dx y dy places told s one e kept tell h = absurd (omega (arith, one))
  told_single (a ∷ []) [] x dx y dy places told s one e kept tell h = absurd (omega (arith, e))
  told_single (a ∷ []) (b ∷ []) x dx y dy places told s one e kept tell h = record {
    kept = kept;
    each = λ long. subst (λ (t : List Shift). RanList R ((a, b) ∷ []) t ((x, y) ∷ [])) (sym (tell long)) (h, tt);
    sum = λ long. sym (plus_none s) ∙ ap sum_of (sym (tell long));
  }
  told_single (a ∷ []) (b ∷ c ∷ ys) x dx y dy places told s one e kept tell h = absurd (omega (arith, e))
  told_single (a ∷ c ∷ xs) ys x dx y dy places told s one e kept tell h = absurd (omega (arith, one))

  pub told_append : (xs us : List T) (ys vs : List U) (xs' us' : List T) (ys' vs' : List U) (p q a b : List Shift) (s t : Shift)
      → length xs ≡ length ys → (length (p ++ q) ≡ length (xs ++ us) → length p ≡ length xs)
      → RanEach R xs ys s xs' ys'
      → AreTold R xs ys p s xs' ys' a → AreTold R us vs q t us' vs' b
      → AreTold R (xs ++ us) (ys ++ vs) (p ++ q) (plus s t) (xs' ++ us') (ys' ++ vs') (a ++ b)
  told_append xs us ys vs xs' us' ys' vs' p q a b s t e split ran one two =
      let lengths : length (p ++ q) ≡ length p + length q = length-append p q in
      let all : length (xs ++ us) ≡ length xs + length us = length-append xs us in
      record {
        kept = omega (arith, lengths, length-append a b, one.kept, two.kept);
        each = λ long.
            let first : length p ≡ length xs = split long in
            let second : length q ≡ length us = omega (arith, first, long, lengths, all) in
            rw (zip_append xs us ys vs e, zip_append xs' us' ys' vs' (ran.on_kept ∙ (e ∙ sym ran.by_kept)))
            (list_append R _ a _ _ b _ (one.each first) (two.each second));
        sum = λ long.
            let first : length p ≡ length xs = split long in
            let second : length q ≡ length us = omega (arith, first, long, lengths, all) in
            ap₂ plus (one.sum first) (two.sum second) ∙ sym (sum_append a b);
      }

-- a weaker relation
pub told_weaker : {T U : Type 0} (R Q : T × U → Shift → T × U → Type 0) → ((x : T × U) (s : Shift) (y : T × U) → R x s y → Q x s y)
    → (xs : List T) (us : List U) (places : List Shift) (s : Shift) (ys : List T) (vs : List U) (told : List Shift)
    → AreTold R xs us places s ys vs told → AreTold Q xs us places s ys vs told
told_weaker R Q w xs us places s ys vs told h = record {
  kept = h.kept;
  each = λ long. list_weaker R Q w (zip xs us) told (zip ys vs) (h.each long);
  sum = h.sum;
}
