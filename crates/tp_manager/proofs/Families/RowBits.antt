-- A bit that is set, cleared or found among words.
use Rattle.std.proofs.Common.{◌≡◌, ◌≢◌, ◌↔◌, ◌/◌, ◌%◌, ◌+◌, ◌-◌, ◌*◌, ◌^◌, ◌<◌, ◌≤◌, ℕ, List, length, replicate, set, slice_index, bit_and, bit_or, w64, sym, ◌∙◌, ap, subst, inl, inr, arith}
use Rattle.std.specs.Int.{bit_at, trailing_zeros}
use Rattle.std.proofs.lemmas.Bool.{cases_eq, cases_lt}
use Rattle.std.proofs.lemmas.List.{get_or-set_same, get_or-set_other, get_or_past, get_or-replicate, length-replicate}
use Rattle.std.proofs.lemmas.Nat.Bits.{bit_at-zero, bit_at_set_same, bit_at_set_other, bit_at_clear_same, bit_at_clear_other, bit_at-trailing_zeros}
use Rattle.tp_manager.specs.RowSets.{Has, IsEmpty, IsLeast, IsSummed}

off_on : {n : ℕ} → n ≡ 0 → n ≡ 1 → ⊥
off_on off on = omega arith

-- the words with one of them changed, by which one bit may have changed, have every other bit as before
other_bit : (xs : List ℕ) (p n i : ℕ) → i ≢ p → p / 64 < length xs → ((b : ℕ) → b < 64 → b ≢ p % 64 → bit_at n b ≡ bit_at (slice_index xs (p / 64)) b)
    → bit_at (slice_index (set xs (p / 64) n) (i / 64)) (i % 64) ≡ bit_at (slice_index xs (i / 64)) (i % 64)
other_bit xs p n i other inside same = elim (cases_eq (i / 64) (p / 64)) [
  | inl q ↦
      let differ : i % 64 ≢ p % 64 = λ r. other (omega arith) in
      ap (λ z. bit_at (slice_index (set xs (p / 64) n) z) (i % 64)) q
      ∙ (ap (λ z. bit_at z (i % 64)) (get_or-set_same xs (p / 64) n 0 inside)
      ∙ (same (i % 64) (omega arith) differ ∙ ap (λ z. bit_at (slice_index xs z) (i % 64)) (sym q)))
  | inr q ↦ ap (λ z. bit_at z (i % 64)) (get_or-set_other xs (p / 64) (i / 64) n 0 q)
]

both_ways : (a b : ℕ) → a ≡ b → (a ≡ 1) ↔ (b ≡ 1)
both_ways a b e = (λ h. sym e ∙ h, λ h. e ∙ h)

pub set_has : (xs : List ℕ) (p : ℕ) → p / 64 < length xs → Has (set xs (p / 64) (bit_or (slice_index xs (p / 64)) (1 * 2 ^ (p % 64) % 18446744073709551616))) p
set_has xs p inside = ap (λ z. bit_at z (p % 64)) (get_or-set_same xs (p / 64) _ 0 inside) ∙ bit_at_set_same w64 (slice_index xs (p / 64)) (p % 64) (omega arith)

pub set_others : (xs : List ℕ) (p : ℕ) → p / 64 < length xs → (i : ℕ) → i ≢ p → Has (set xs (p / 64) (bit_or (slice_index xs (p / 64)) (1 * 2 ^ (p % 64) % 18446744073709551616))) i ↔ Has xs i
set_others xs p inside i other = both_ways _ _ (other_bit xs p _ i other inside (λ b few differ. bit_at_set_other w64 (slice_index xs (p / 64)) (p % 64) (omega arith) b differ))

pub clear_has : (xs : List ℕ) (p : ℕ) → p / 64 < length xs → ¬ Has (set xs (p / 64) (bit_and (slice_index xs (p / 64)) (18446744073709551615 - 1 * 2 ^ (p % 64) % 18446744073709551616))) p
clear_has xs p inside h =
    off_on (ap (λ z. bit_at z (p % 64)) (get_or-set_same xs (p / 64) _ 0 inside) ∙ bit_at_clear_same w64 (slice_index xs (p / 64)) (p % 64) (omega arith)) h

pub clear_others : (xs : List ℕ) (p : ℕ) → p / 64 < length xs → (i : ℕ) → i ≢ p → Has (set xs (p / 64) (bit_and (slice_index xs (p / 64)) (18446744073709551615 - 1 * 2 ^ (p % 64) % 18446744073709551616))) i ↔ Has xs i
clear_others xs p inside i other = both_ways _ _ (other_bit xs p _ i other inside (λ b few differ. bit_at_clear_other w64 (slice_index xs (p / 64)) (p % 64) (omega arith) b few differ))

-- a word that is 0 has no bit, and one that has a bit isn't 0
pub zero_has : (xs : List ℕ) (i : ℕ) → slice_index xs (i / 64) ≡ 0 → ¬ Has xs i
zero_has xs i none h = let off : bit_at (slice_index xs (i / 64)) (i % 64) ≡ 0 = ap (λ z. bit_at z (i % 64)) none ∙ bit_at-zero (i % 64) in off_on off h

-- the lowest bit of the first word that isn't 0
pub lowest_has : (xs : List ℕ) (w : ℕ) → 0 < slice_index xs w → slice_index xs w < 18446744073709551616 → ((j : ℕ) → j < w → slice_index xs j ≡ 0)
    → let b = trailing_zeros w64 (slice_index xs w) in (b < 64) × IsLeast xs (w * 64 + b)
lowest_has xs w some fits none =
    let n = slice_index xs w in let b = trailing_zeros w64 n in
    let t = bit_at-trailing_zeros w64 n some fits in
    let few : b < 64 = t.0 in
    let word : (w * 64 + b) / 64 ≡ w = omega arith in
    let place : (w * 64 + b) % 64 ≡ b = omega arith in
    (few, (ap (λ z. bit_at (slice_index xs z) ((w * 64 + b) % 64)) word ∙ (ap (bit_at n) place ∙ t.1), λ j h. least j h))
  where
    least : (j : ℕ) → Has xs j → w * 64 + trailing_zeros w64 (slice_index xs w) ≤ j
    least j h =
        let n = slice_index xs w in let b = trailing_zeros w64 n in
        let t = bit_at-trailing_zeros w64 n some fits in
        elim (cases_lt (j / 64) w) [
          | inl low ↦ absurd (zero_has xs j (none (j / 64) low) h)
          | inr high ↦ elim (cases_lt j (w * 64 + b)) [
            | inl less ↦
                let word : j / 64 ≡ w = let few : b < 64 = t.0 in omega arith in
                let off : bit_at n (j % 64) ≡ 0 = t.2 (j % 64) (omega arith) in
                let on : bit_at n (j % 64) ≡ 1 = ap (λ z. bit_at (slice_index xs z) (j % 64)) (sym word) ∙ h in
                absurd (off_on off on)
            | inr more ↦ more
          ]
        ]

-- the words before the first that a group has are 0
pub first_word : (xs groups : List ℕ) (w : ℕ) → IsSummed xs groups → IsLeast groups w → (j : ℕ) → j < w → slice_index xs j ≡ 0
first_word xs groups w summed least j low = elim (cases_lt 0 (slice_index xs j)) [ inl some ↦ (let more = least.1 j ((summed j).1 some) in absurd (omega arith)) | inr none ↦ omega arith ]

-- nothing but zeros
pub zeros_empty : (xs : List ℕ) → ((w : ℕ) → slice_index xs w ≡ 0) → IsEmpty xs
zeros_empty xs none i h = zero_has xs i (none (i / 64)) h

pub zeros_summed : (xs groups : List ℕ) → ((w : ℕ) → slice_index xs w ≡ 0) → ((w : ℕ) → slice_index groups w ≡ 0) → IsSummed xs groups
zeros_summed xs groups none nothing w = (λ h. absurd (zeros_empty groups nothing w h), λ some. let e = none w in absurd (omega arith))

-- the least row is out, and nothing else
pub out : (xs ys : List ℕ) (row : ℕ) → ¬ Has ys row → ((i : ℕ) → i ≢ row → Has ys i ↔ Has xs i) → (i : ℕ) → Has ys i ↔ (Has xs i × (i ≢ row))
out xs ys row gone others i = (λ h. let differ : i ≢ row = λ q. gone (subst (Has ys) q h) in ((others i differ).0 h, differ), λ t. (others i t.1).1 t.0)

-- a list of zeros has nothing else
pub zeros : (n w : ℕ) → slice_index (replicate n 0) w ≡ 0
zeros n w = elim (cases_lt w n) [
  | inl less ↦ get_or-replicate n w 0 0 less
  | inr past ↦ get_or_past (replicate n 0) w 0 (subst (λ z. z ≤ w) (sym (length-replicate n 0)) past)
]
