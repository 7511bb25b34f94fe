-- Bytes within bounds, lists that are cut at a byte, and what the digits of a number say.
use Rattle.std.proofs.Common.{◌≡◌, ◌≢◌, ℕ, ◌+◌, ◌^◌, ◌<◌, ◌≤◌, ◌==◌, ◌&&◌, Bool, true, false, cond, if◌then◌else◌, Some, None, List, [], ◌∷◌, ◌++◌, length, not, nat_le, refl, ◌∙◌, ap, inl, inr, arith}
use Rattle.std.specs.Prelude.{count_by, decimal, filter}
use Rattle.std.specs.List.{list_all, onto_first, slice_split}
use Rattle.std.specs.Char.{is_ascii_digit}
use Rattle.std.specs.Str.Parse.{digits_value}
use Rattle.std.proofs.lemmas.Bool.Decides.{eqb_tells, leb_tells}
use Rattle.std.proofs.lemmas.Fmt.{decimal_nonempty, digits_decimal, digits_value-decimal}
use Rattle.std.proofs.lemmas.List.Splits.{slice_split-cons_no, slice_split-cons_yes}
use Rattle.std.proofs.lemmas.List.Sums.{sum_by-cons}
use Rattle.std.proofs.lemmas.Str.Parse.{IsNumeralModel, numerals_by_value}
use Rattle.tp_script.specs.Text.{is_numeral, number, words}

-- ---- bytes

abbrev pub Bytes : ℕ → ℕ → List ℕ → Type 0
Bytes low high [] = Unit {0}
Bytes low high (c ∷ cs) = ((low ≤ c) × (c ≤ high)) × Bytes low high cs

pub wider : (a b c d : ℕ) (xs : List ℕ) → c ≤ a → b ≤ d → Bytes a b xs → Bytes c d xs
wider a b c d [] low high all = tt
wider a b c d (x ∷ xs) low high all = let p = all.0.0 in let q = all.0.1 in ((omega (arith, low, p), omega (arith, high, q)), wider a b c d xs low high all.1)

pub with_more : (low high : ℕ) (xs ys : List ℕ) → Bytes low high xs → Bytes low high ys → Bytes low high (xs ++ ys)
with_more low high [] ys a b = b
with_more low high (x ∷ xs) ys a b = (a.0, with_more low high xs ys a.1 b)

pub le_true : (a b : ℕ) → a ≤ b → nat_le a b ≡ true
le_true a b less = elim (leb_tells a b) [
  | inl p ↦ p.0
  | inr p ↦ let high = p.1 in absurd (omega (arith, less, high))
]

pub and_true : (p q : Bool) → p ≡ true → q ≡ true → (p && q) ≡ true
and_true p q a b = ap (λ z. z && q) a ∙ b

pub allowed : (xs : List ℕ) → Bytes 32 126 xs → list_all (λ b. nat_le 32 b && nat_le b 126) xs ≡ true
allowed [] all = refl
allowed (x ∷ xs) all =
    and_true (nat_le 32 x && nat_le x 126) (list_all (λ b. nat_le 32 b && nat_le b 126) xs) (and_true (nat_le 32 x) (nat_le x 126) (le_true 32 x all.0.0) (le_true x 126 all.0.1)) (allowed xs all.1)

ascii : (xs : List ℕ) → Bytes 48 57 xs → list_all is_ascii_digit xs ≡ true
ascii [] all = refl
ascii (x ∷ xs) all = and_true (is_ascii_digit x) (list_all is_ascii_digit xs) (and_true (nat_le 48 x) (nat_le x 57) (le_true 48 x all.0.0) (le_true x 57 all.0.1)) (ascii xs all.1)

-- ---- cuts

abbrev one : ℕ
one = 1

abbrev nothing : ℕ
nothing = 0

same_true : (k : ℕ) → (k == k) ≡ true
same_true k = elim (eqb_tells k k) [
  | inl p ↦ p.0
  | inr p ↦ absurd (p.1 refl)
]

other_false : (c k : ℕ) → c ≢ k → (c == k) ≡ false
other_false c k not_same = elim (eqb_tells c k) [
  | inl p ↦ absurd (not_same p.1)
  | inr p ↦ p.0
]

module _ (k : ℕ) where
  abbrev pub Free : List ℕ → Type 0
  Free [] = Unit {0}
  Free (c ∷ cs) = (c ≢ k) × Free cs

  pub free_of : (low high : ℕ) (xs : List ℕ) → ((c : ℕ) → low ≤ c → c ≤ high → c ≢ k) → Bytes low high xs → Free xs
  free_of low high [] other all = tt
  free_of low high (x ∷ xs) other all = (other x all.0.0 all.0.1, free_of low high xs other all.1)

  pub free_more : (xs ys : List ℕ) → Free xs → Free ys → Free (xs ++ ys)
  free_more [] ys a b = b
  free_more (x ∷ xs) ys a b = (a.0, free_more xs ys a.1 b)

  pub cut : (xs ys : List ℕ) → Free xs → slice_split (λ b. b == k) (xs ++ k ∷ ys) ≡ xs ∷ slice_split (λ b. b == k) ys
  cut [] ys free = slice_split-cons_yes (λ b. b == k) k ys (same_true k)
  cut (x ∷ xs) ys free = slice_split-cons_no (λ b. b == k) x (xs ++ k ∷ ys) (other_false x k free.0) ∙ ap (onto_first x) (cut xs ys free.1)

  pub uncut : (xs : List ℕ) → Free xs → slice_split (λ b. b == k) xs ≡ xs ∷ []
  uncut [] free = refl
  uncut (x ∷ xs) free = slice_split-cons_no (λ b. b == k) x xs (other_false x k free.0) ∙ ap (onto_first x) (uncut xs free.1)

  pub counted : (xs ys : List ℕ) → Free xs → count_by (λ b. b == k) (xs ++ k ∷ ys) ≡ 1 + count_by (λ b. b == k) ys
  counted [] ys free = sum_by-cons (λ b. cond (b == k) 1 0) k ys ∙ ap (λ t. cond t 1 0 + count_by (λ b. b == k) ys) (same_true k)
  counted (x ∷ xs) ys free =
      let a : count_by (λ b. b == k) (x ∷ xs ++ k ∷ ys) ≡ (if x == k then one else nothing) + count_by (λ b. b == k) (xs ++ k ∷ ys) = sum_by-cons (λ b. cond (b == k) 1 0) x (xs ++ k ∷ ys) in
      let b : (if x == k then one else nothing) ≡ 0 = ap (λ t. if t then one else nothing) (other_false x k free.0) in
      let c = counted xs ys free.1 in
      omega (arith, a, b, c)

  pub uncounted : (xs : List ℕ) → Free xs → count_by (λ b. b == k) xs ≡ 0
  uncounted [] free = refl
  uncounted (x ∷ xs) free =
      let a : count_by (λ b. b == k) (x ∷ xs) ≡ (if x == k then one else nothing) + count_by (λ b. b == k) xs = sum_by-cons (λ b. cond (b == k) 1 0) x xs in
      let b : (if x == k then one else nothing) ≡ 0 = ap (λ t. if t then one else nothing) (other_false x k free.0) in
      let c = uncounted xs free.1 in
      omega (arith, a, b, c)

-- ---- words

some_bytes : (w : List ℕ) → 0 < length w → not (length w == 0) ≡ true
some_bytes w some = ap not (other_false (length w) 0 (λ e. omega (arith, some, e)))

pub words_more : (w rest : List ℕ) → 0 < length w → Free 32 w → words (w ++ 32 ∷ rest) ≡ w ∷ words rest
words_more w rest some free =
    ap (filter (λ v. not (length v == 0))) (cut 32 w rest free) ∙ ap (λ t. cond t (w ∷ words rest) (words rest)) (some_bytes w some)

pub words_last : (w : List ℕ) → 0 < length w → Free 32 w → words w ≡ w ∷ []
words_last w some free = ap (filter (λ v. not (length v == 0))) (uncut 32 w free) ∙ ap (λ t. cond t (w ∷ []) []) (some_bytes w some)

-- ---- numbers

own : IsNumeralModel (Bytes 48 57) (digits_value 10)
own = numerals_by_value (Bytes 48 57) (record { empty = tt; parts = λ c cs d. d; more = λ c cs k d. (k, d) })

pub digits : (n : ℕ) → n < 2 ^ 64 → Bytes 48 57 (decimal n)
digits n h = digits_decimal own n h

pub number_is : (most n : ℕ) → n < 2 ^ 64 → length (decimal n) ≤ 20 → n ≤ most → number most (decimal n) ≡ Some n
number_is most n h short within =
    let w = decimal n in
    let value : digits_value 10 w ≡ n = digits_value-decimal own n h in
    let numeral : is_numeral w ≡ true = and_true (not (length w == 0) && nat_le (length w) 20) (list_all is_ascii_digit w) (and_true (not (length w == 0)) (nat_le (length w) 20) (some_bytes w (decimal_nonempty n h)) (le_true (length w) 20 short)) (ascii w (digits n h)) in
    let low : nat_le (digits_value 10 w) most ≡ true = le_true (digits_value 10 w) most (omega (arith, value, within)) in
    let whole : (is_numeral w && nat_le (digits_value 10 w) most) ≡ true = and_true (is_numeral w) (nat_le (digits_value 10 w) most) numeral low in
    ap (λ t. if t then Some (digits_value 10 w) else None) whole ∙ ap Some value
