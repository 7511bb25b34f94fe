-- Groups of elements that are born together.
use Rattle.std.proofs.Common.{◌≡◌, ℕ, zero, suc, ◌+◌, ◌-◌, ◌<◌, ◌≤◌, ◌==◌, ◌++◌, ◌⊎◌, inl, inr, Bool, true, false, List, [], ◌∷◌, cond, drop, get_or, length, length-append, map, replicate, take, refl, sym, ◌∙◌, ap, arith, None}
use Rattle.std.proofs.lemmas.Bool.{and_from, eq-eqb, false≢true, true≢false}
use Rattle.std.proofs.lemmas.List.{append-nil, at_drop_more, length-map, take_at}
use Rattle.tp_model.specs.Drafts.{DraftView}
use Rattle.tp_model.specs.declared.types.Limits.{Limits}
use Rattle.tp_model.specs.declared.types.Status.TheVariants.{Waiting}
use Rattle.tp_rollover.specs.Anew.{survivor_draft, drafts_of, filler, home_of, named, neighbours}
use Rattle.tp_rollover.specs.declared.moved.Moved.{Moved}
use Rattle.tp_rollover.specs.declared.survivors.Survivor.{Survivor}

-- what stands past the end of a list
abbrev pub blank : Survivor
blank = record { id = 0; root = 0; stage = 0; body = []; status = Waiting 0; holder = None; rounds = 0; root_stage = 0; root_body = [] }

-- one more neighbour of the first
pub one_more : (l : Limits) (first : Survivor) (xs : List Survivor) (i : ℕ) (d : Survivor) → i < 4 → i < length xs → (get_or xs i d).root ≡ first.root → home_of l (get_or xs i d).id ≡ home_of l first.id
    → i + neighbours l first (4 - i) (drop i xs) ≡ (i + 1) + neighbours l first (4 - (i + 1)) (drop (i + 1) xs)
one_more l first xs i d few less root home =
    let s = get_or xs i d in
    let n = 4 - (i + 1) in
    let next : neighbours l first (4 - i) (drop i xs) ≡ neighbours l first n (drop (i + 1) xs) + 1 =
    ap (λ k. neighbours l first k (drop i xs)) (let e : 4 - i ≡ suc n = omega arith in e)
    ∙ (at_drop_more (neighbours l first (suc n)) xs i d less
    ∙ ap (λ b. cond b (neighbours l first n (drop (i + 1) xs) + 1) 0) (and_from (s.root == first.root) (home_of l s.id == home_of l first.id) (eq-eqb s.root first.root root) (eq-eqb (home_of l s.id) (home_of l first.id) home))) in
    omega (arith, next)

-- one more that is named
pub named_more : (root first : ℕ) (xs : List Survivor) (i : ℕ) (d : Survivor) → i < length xs
    → named root first (take (i + 1) xs) ≡ named root first (take i xs) ++ record { old = (get_or xs i d).id; new = first + i; old_root = (get_or xs i d).root; new_root = root; holder = (get_or xs i d).holder } ∷ []
named_more root first xs i d less = ap (λ k. named root first (take k xs)) (let e : i + 1 ≡ suc i = omega arith in e) ∙ more root first xs i d less
  where
    moved_as : (root n m : ℕ) (s : Survivor) (ms : List Moved) → n ≡ m → record { old = s.id; new = n; old_root = s.root; new_root = root; holder = s.holder } ∷ ms ≡ record { old = s.id; new = m; old_root = s.root; new_root = root; holder = s.holder } ∷ ms
    moved_as root n m s ms same = cc

    more : (root first : ℕ) (xs : List Survivor) (i : ℕ) (d : Survivor) → i < length xs
        → named root first (take (suc i) xs) ≡ named root first (take i xs) ++ record { old = (get_or xs i d).id; new = first + i; old_root = (get_or xs i d).root; new_root = root; holder = (get_or xs i d).holder } ∷ []
    more root first [] i d less = absurd (omega (arith, less))
    more root first (s ∷ xs) zero d less = moved_as root first (first + 0) s [] (omega arith)
    more root first (s ∷ xs) (suc i) d less = ap (λ ms. record { old = s.id; new = first; old_root = s.root; new_root = root; holder = s.holder } ∷ ms)
        (more root (first + 1) xs i d (omega (arith, less))
        ∙ ap (λ ms. named root (first + 1) (take i xs) ++ ms) (moved_as root (first + 1 + i) (first + suc i) (get_or xs i d) [] (omega arith)))

-- what is born with them, and how many that are
abbrev pub CountIs : Bool → ℕ → ℕ → Type 0
CountIs more count n = ((more ≡ true) × (count ≡ n + 1)) ⊎ ((more ≡ false) × (count ≡ n))

module _ (group : List Survivor) where
  pub drafts_many : (more : Bool) (count : ℕ) → CountIs more count (length group) → length (drafts_of group more) ≡ count
  drafts_many true count (inl p) = length-append (map survivor_draft group) (filler ∷ []) ∙ (ap (λ n. n + 1) (length-map group survivor_draft) ∙ sym p.1)
  drafts_many false count (inr p) = length-append (map survivor_draft group) [] ∙ (let e = length-map group survivor_draft in omega (arith, e, p.1))
  drafts_many true count (inr p) = absurd (true≢false p.0)
  drafts_many false count (inl p) = absurd (false≢true p.0)

  taken_past : {A : Type 0} (xs ys : List A) (n k : ℕ) → length xs ≡ n → take (n + k) (xs ++ ys) ≡ xs ++ take k ys
  taken_past [] ys n k long = ap (λ m. take m ys) (let e : n + k ≡ k = omega (arith, long) in e)
  taken_past (x ∷ xs) ys zero k long = absurd (omega (arith, long))
  taken_past (x ∷ xs) ys (suc n) k long = ap (λ m. take m (x ∷ (xs ++ ys))) (let e : suc n + k ≡ suc (n + k) = omega arith in e) ∙ ap (λ zs. x ∷ zs) (taken_past xs ys n k (omega (arith, long)))

  fillers : (n : ℕ) → length group ≡ n → n ≤ 3 → take 1 (replicate (4 - n) filler) ≡ filler ∷ []
  fillers n long few = ap (λ m. take 1 (replicate m filler)) (let e : 4 - n ≡ suc (3 - n) = omega arith in e)

  -- so those are taken that are to be born
  pub drafts_taken : (more : Bool) (count : ℕ) (drafts : List DraftView) → CountIs more count (length group) → (more ≡ true → length group ≤ 3)
      → drafts ≡ map survivor_draft group ++ replicate (4 - length group) filler → take count drafts ≡ drafts_of group more
  drafts_taken true count drafts (inl p) room are =
      ap (λ n. take n drafts) p.1
      ∙ (ap (take (length group + 1)) are
      ∙ (taken_past (map survivor_draft group) (replicate (4 - length group) filler) (length group) 1 (length-map group survivor_draft)
      ∙ ap (λ ds. map survivor_draft group ++ ds) (fillers (length group) refl (room refl))))
  drafts_taken false count drafts (inr p) room are =
      ap (λ n. take n drafts) p.1
      ∙ (ap (take (length group)) are
      ∙ (take_at (map survivor_draft group) (replicate (4 - length group) filler) (length group) (length-map group survivor_draft)
      ∙ sym (append-nil (map survivor_draft group))))
  drafts_taken true count drafts (inr p) room are = absurd (true≢false p.0)
  drafts_taken false count drafts (inl p) room are = absurd (false≢true p.0)
