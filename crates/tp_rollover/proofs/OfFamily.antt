-- How many of each family are to be born, and which are born together.
use Rattle.std.proofs.Common.{◌≡◌, ◌≢◌, ◌⊎◌, ℕ, zero, suc, ◌+◌, ◌<◌, ◌≤◌, ◌==◌, ◌&&◌, if◌then◌else◌, max, min, nat_lt, Bool, true, false, None, List, [], ◌∷◌, drop, length, replicate, slice_set, take, inl, inr, ⊎_elim, refl, sym, ◌∙◌, ap, arith}
use Rattle.std.proofs.lemmas.Bool.{and_parts, eqb-true, ltb-false, leb-true}
use Rattle.std.proofs.lemmas.Bool.Decides.{eqb_tells, nat_tests}
use Rattle.std.proofs.lemmas.List.{get_or-set_other, get_or-set_same, length-set}
use Rattle.std.specs.List.{fold}
use Rattle.tp_model.specs.declared.types.Limits.{Limits}
use Rattle.tp_model.specs.History.{In, here, there}
use Rattle.tp_model.specs.Steps.{rows_of}
use Rattle.tp_model.proofs.Bridges.{in_cons, in_none}
use Rattle.tp_model.proofs.Lists.{if_other, if_same}
use Rattle.tp_rollover.specs.Anew.{families_of, family_at, family_counted, group_size, highest_root, home_of, neighbours, neighbours_in, unborn}
use Rattle.tp_rollover.specs.declared.births.Family.{Family}
use Rattle.tp_rollover.specs.declared.survivors.Survivor.{Survivor}

-- how many of these are of this family
pub of_root : ℕ → List Survivor → ℕ
of_root r [] = 0
of_root r (x ∷ xs) = (if x.root == r then 1 else 0) + of_root r xs

abbrev pub AreOf : ℕ → List Survivor → Type 0
AreOf r xs = (x : Survivor) → In x xs → x.root ≡ r

one_of : (r : ℕ) (x : Survivor) (xs : List Survivor) → x.root ≡ r → of_root r (x ∷ xs) ≡ 1 + of_root r xs
unfolding of_root
one_of r x xs same = ap (λ n. n + of_root r xs) (if_same x.root r 1 0 same)

none_of : (r : ℕ) (x : Survivor) (xs : List Survivor) → x.root ≢ r → of_root r (x ∷ xs) ≡ of_root r xs
unfolding of_root
none_of r x xs not = ap (λ n. n + of_root r xs) (if_other x.root r 1 0 not) ∙ omega arith

no_more : (r : ℕ) → of_root r [] ≡ 0
unfolding of_root
no_more r = refl

pub of_taken : (r c : ℕ) (xs : List Survivor) → AreOf r (take c xs) → c ≤ length xs → of_root r xs ≡ c + of_root r (drop c xs)
of_taken r zero xs all few = omega arith
of_taken r (suc c) [] all few = absurd (omega (arith, few))
of_taken r (suc c) (x ∷ xs) all few = let one = one_of r x xs (all x here) in let rest = of_taken r c xs (λ y q. all y (there q)) (omega (arith, few)) in omega (arith, one, rest)

pub of_others : (r q c : ℕ) (xs : List Survivor) → AreOf r (take c xs) → q ≢ r → of_root q xs ≡ of_root q (drop c xs)
of_others r q zero xs all not = refl
of_others r q (suc c) [] all not = refl
of_others r q (suc c) (x ∷ xs) all not = none_of q x xs (λ same. not (sym same ∙ all x here)) ∙ of_others r q c xs (λ y p. all y (there p)) not

pub some_left : (r : ℕ) (xs : List Survivor) → 0 < of_root r xs → (y : Survivor) × In y xs × (y.root ≡ r)
some_left r [] some = absurd (let e = no_more r in omega (arith, e, some))
some_left r (x ∷ xs) some = elim (eqb_tells x.root r) [
  | inl e ↦ (x, here, e.1)
  | inr e ↦ let n = none_of r x xs e.1 in let t = some_left r xs (omega (arith, n, some)) in (t.0, there t.1, t.2)
]

pub none_left : (r : ℕ) (xs : List Survivor) → of_root r xs ≡ 0 → (y : Survivor) → In y xs → y.root ≢ r
none_left r [] none y q same = in_none q
none_left r (x ∷ xs) none y q same = elim (eqb_tells x.root r) [
  | inl e ↦ let n = one_of r x xs e.1 in omega (arith, n, none)
  | inr e ↦ let n = none_of r x xs e.1 in ⊎_elim (λ at. e.1 (ap (λ (z : Survivor). z.root) (sym at) ∙ same)) (λ p. none_left r xs (sym n ∙ none) y p same) (in_cons q)
]

-- ---- which are born together

module _ (l : Limits) (first : Survivor) where
  abbrev is_neighbour : Survivor → Bool
  is_neighbour s = s.root == first.root && home_of l s.id == home_of l first.id

  few_neighbours : (n : ℕ) (xs : List Survivor) → (neighbours l first n xs ≤ n) × (neighbours l first n xs ≤ length xs)
  few_neighbours zero xs = (omega arith, omega arith)
  few_neighbours (suc n) [] = (omega arith, omega arith)
  few_neighbours (suc n) (x ∷ xs) = go (few_neighbours n xs) (is_neighbour x)
    where
      go : (neighbours l first n xs ≤ n) × (neighbours l first n xs ≤ length xs) → (b : Bool) → ((if b then neighbours l first n xs + 1 else 0) ≤ suc n) × ((if b then neighbours l first n xs + 1 else 0) ≤ length (x ∷ xs))
      go t true = let a = t.0 in let b = t.1 in (omega arith, omega arith)
      go t false = (omega arith, omega arith)

  of_one_root : (n c : ℕ) (xs : List Survivor) → c ≤ neighbours l first n xs → AreOf first.root (take c xs)
  of_one_root n zero xs le y q = absurd (in_none q)
  of_one_root zero (suc c) xs le y q = absurd (omega (arith, le))
  of_one_root (suc n) (suc c) [] le y q = absurd (omega (arith, le))
  of_one_root (suc n) (suc c) (x ∷ xs) le y q = go (λ low. of_one_root n c xs low) (is_neighbour x) refl le
    where
      go : (c ≤ neighbours l first n xs → AreOf first.root (take c xs)) → (b : Bool) → is_neighbour x ≡ b → suc c ≤ (if b then neighbours l first n xs + 1 else 0) → y.root ≡ first.root
      go more true is low = ⊎_elim (λ e. ap (λ (z : Survivor). z.root) e ∙ eqb-true x.root first.root (and_parts (x.root == first.root) (home_of l x.id == home_of l first.id) is).0) (λ p. more (omega (arith, low)) y p) (in_cons q)
      go more false is low = absurd (omega (arith, low))

some_neighbours : (l : Limits) (x : Survivor) (xs : List Survivor) → 1 ≤ neighbours_in l (x ∷ xs)
some_neighbours l x xs = go (is_neighbour l x x) itself
  where
    itself : is_neighbour l x x ≡ true
    itself = grind (arith, nat_tests)

    go : (b : Bool) → b ≡ true → 1 ≤ (if b then neighbours l x 3 xs + 1 else 0)
    go true is = omega arith
    go false is = absurd (cc (is))

-- these are born together
pub record IsGroup (l : Limits) (x : Survivor) (xs : List Survivor) (left c : ℕ) : Type 0 where
  pub some : 1 ≤ c
  pub inside : c ≤ length (x ∷ xs)
  pub few : c + (if nat_lt c left then 1 else 0) ≤ 4
  pub group : AreOf x.root (take c (x ∷ xs))

pub is_group : (l : Limits) (x : Survivor) (xs : List Survivor) (left : ℕ) → IsGroup l x xs left (group_size l (x ∷ xs) left)
is_group l x xs left = go (n == 4 && nat_lt 4 left) refl
  where
    n : ℕ
    n = neighbours_in l (x ∷ xs)

    few : (n ≤ 4) × (n ≤ length (x ∷ xs))
    few = few_neighbours l x 4 (x ∷ xs)

    one : (c : ℕ) (b : Bool) → nat_lt c left ≡ b → (left ≤ c → c ≤ 4) → (c < left → c ≤ 3) → c + (if b then 1 else 0) ≤ 4
    one c true is a b = let less = leb-true (suc c) left is in let u = b less in omega arith
    one c false is a b = let le = ltb-false c left is in let u = a le in omega arith

    go : (b : Bool) → (n == 4 && nat_lt 4 left) ≡ b → IsGroup l x xs left (if b then 3 else n)
    go true is =
        let e = eqb-true n 4 (and_parts (n == 4) (nat_lt 4 left) is).0 in
        let f = few in
        let f1 = f.1 in
        record {
          some = omega arith;
          inside = omega arith;
          few = one 3 (nat_lt 3 left) refl (λ a. omega arith) (λ a. omega arith);
          group = of_one_root l x 4 3 (x ∷ xs) (omega arith);
        }
    go false is =
        let f = few in
        let f0 = f.0 in
        let f1 = f.1 in
        let not : (n ≢ 4) ⊎ (left ≤ 4) = so in
        record {
          some = some_neighbours l x xs;
          inside = f1;
          few = one n (nat_lt n left) refl (λ a. f0) (λ a. ⊎_elim (λ p. omega (arith, p, f0)) (λ p. omega (arith, p, a)) not);
          group = of_one_root l x 4 n (x ∷ xs) (omega arith);
        }
      where
        so : (n ≢ 4) ⊎ (left ≤ 4)
        so = elim (eqb_tells n 4) [
          | inl e ↦ inr (ltb-false 4 left (sym (ap (λ b. b && nat_lt 4 left) e.0) ∙ is))
          | inr e ↦ inl e.1
        ]

-- ---- at the start

family_set : (fs : List Family) (r : ℕ) (f : Family) (q : ℕ) → r < length fs → ((q ≡ r) × (family_at (slice_set fs r f) q ≡ f)) ⊎ ((q ≢ r) × (family_at (slice_set fs r f) q ≡ family_at fs q))
family_set fs r f q inside = elim (eqb_tells q r) [
  | inl e ↦ inl (e.1, ap (family_at (slice_set fs r f)) e.1 ∙ get_or-set_same fs r f (unborn 0) inside)
  | inr e ↦ inr (e.1, get_or-set_other fs r q f (unborn 0) e.1)
]

pub set_at : (fs : List Family) (r : ℕ) (f : Family) (q : ℕ) → r < length fs → q ≡ r → family_at (slice_set fs r f) q ≡ f
set_at fs r f q inside same = ap (family_at (slice_set fs r f)) same ∙ get_or-set_same fs r f (unborn 0) inside

pub set_elsewhere : (fs : List Family) (r : ℕ) (f : Family) (q : ℕ) → q ≢ r → family_at (slice_set fs r f) q ≡ family_at fs q
set_elsewhere fs r f q not = get_or-set_other fs r q f (unborn 0) not

record AreCounted (fs : List Family) (xs : List Survivor) (gs : List Family) : Type 0 where
  pub long : length gs ≡ length fs
  pub left : (r : ℕ) → r < length fs → (family_at gs r).left ≡ (family_at fs r).left + of_root r xs
  pub carriers : (r : ℕ) → (family_at fs r).carrier ≡ None → (family_at gs r).carrier ≡ None

counted : (fs : List Family) (xs : List Survivor) → ((x : Survivor) → In x xs → x.root < length fs) → AreCounted fs xs (fold family_counted fs xs)
counted fs [] inside = record { long = refl; left = λ r less. (let e = no_more r in omega arith); carriers = λ r none. none }
counted fs (x ∷ xs) inside =
    let one = unborn ((family_at fs x.root).left + 1) in
    let long = length-set fs x.root one in
    let rest = counted (family_counted fs x) xs (λ y q. let i = inside y (there q) in omega (arith, i, long)) in
    record {
      long = rest.long ∙ long;
      left = λ r less. (let t = rest.left r (omega (arith, less, long)) in
          ⊎_elim (λ p. (let e = ap (λ (f : Family). f.left) p.1 in let n = one_of r x xs (sym p.0) in let a = ap (λ q. (family_at fs q).left) p.0 in omega (arith, t, e, n, a)))
          (λ p. (let e = ap (λ (f : Family). f.left) p.1 in let n = none_of r x xs (λ same. p.0 (sym same)) in omega (arith, t, e, n)))
          (family_set fs x.root one r (inside x here)));
      carriers = λ r none. rest.carriers r (⊎_elim (λ p. ap (λ (f : Family). f.carrier) p.1) (λ p. ap (λ (f : Family). f.carrier) p.1 ∙ none) (family_set fs x.root one r (inside x here)));
    }

highest_from : (a : ℕ) (xs : List Survivor) → (a ≤ fold (λ n (s : Survivor). max n s.root) a xs) × ((x : Survivor) → In x xs → x.root ≤ fold (λ n (s : Survivor). max n s.root) a xs)
highest_from a [] = (omega arith, λ x q. absurd (in_none q))
highest_from a (y ∷ xs) = let t = highest_from (max a y.root) xs in let low = t.0 in
    (omega (arith, low), λ x q. ⊎_elim (λ e. let same = ap (λ (z : Survivor). z.root) e in omega (arith, low, same)) (λ p. t.1 x p) (in_cons q))

unborn_at : (n r : ℕ) → family_at (replicate n (unborn 0)) r ≡ unborn 0
unborn_at zero r = refl
unborn_at (suc n) zero = refl
unborn_at (suc n) (suc r) = unborn_at n r

length_replicate : {A : Type 0} (n : ℕ) (x : A) → length (replicate n x) ≡ n
length_replicate zero x = refl
length_replicate (suc n) x = let e = length_replicate n x in omega arith

pub record AreFamiliesOf (l : Limits) (xs : List Survivor) : Type 0 where
  pub inside : (x : Survivor) → In x xs → x.root < length (families_of l xs)
  pub left : (r : ℕ) → r < length (families_of l xs) → (family_at (families_of l xs) r).left ≡ of_root r xs
  pub carriers : (r : ℕ) → (family_at (families_of l xs) r).carrier ≡ None

pub families_start : (l : Limits) (xs : List Survivor) → ((x : Survivor) → In x xs → x.root < rows_of l) → AreFamiliesOf l xs
families_start l xs below =
    let n = min (highest_root xs + 1) (rows_of l) in
    let fs = replicate n (unborn 0) in
    let long = length_replicate n (unborn 0) in
    let high = (highest_from 0 xs).1 in
    let inside : (x : Survivor) → In x xs → x.root < length fs = λ x q. (let a = high x q in let b = below x q in omega (arith, a, b, long)) in
    let all = counted fs xs inside in
    let same = all.long in
    record {
      inside = λ x q. (let i = inside x q in omega (arith, i, same));
      left = λ r less. (let t = all.left r (omega (arith, less, same)) in let z = ap (λ (f : Family). f.left) (unborn_at n r) in omega (arith, t, z));
      carriers = λ r. all.carriers r (ap (λ (f : Family). f.carrier) (unborn_at n r));
    }
