-- Roots and families of what was described.
use Rattle.std.proofs.Common.{◌≡◌, ◌≢◌, ◌⊎◌, ℕ, zero, suc, ◌+◌, ◌<◌, ◌≤◌, All, max, min, List, [], ◌∷◌, drop, get_or, length, replicate, slice_set, refl, sym, ◌∙◌, ap, subst, inl, inr, ⊎_elim, arith}
use Rattle.std.proofs.Math.Nat.{le-max_left, le-max_right}
use Rattle.std.proofs.lemmas.Bool.Decides.{eqb_tells}
use Rattle.std.proofs.lemmas.List.{get_or-set_other}
use Rattle.std.proofs.lemmas.List.Elements.{All-replicate, All-set, All-weaker}
use Rattle.std.specs.List.{fold}
use Rattle.tp_model.specs.declared.types.Limits.{Limits}
use Rattle.tp_model.specs.History.{In, here, there}
use Rattle.tp_model.specs.Steps.{rows_of}
use Rattle.tp_rollover.specs.Anew.{families_of, family_at, family_counted, highest_root, unborn}
use Rattle.tp_rollover.specs.Fits.{AreApart, HasFamilyPlace}
use Rattle.tp_rollover.specs.declared.births.Family.{Family}
use Rattle.tp_rollover.specs.declared.survivors.Survivor.{Survivor}
use Rattle.tp_rollover.proofs.BirthsGroups.{blank}
use Rattle.tp_rollover.proofs.Lists.{drop_here, in_at}

-- ---- the highest root

highest_from : (n : ℕ) (ss : List Survivor) → n ≤ fold (λ n (s : Survivor). max n s.root) n ss
highest_from n [] = omega arith
highest_from n (s ∷ ss) = let first = le-max_left n s.root in let rest = highest_from (max n s.root) ss in omega (arith, first, rest)

each_low : (n : ℕ) (ss : List Survivor) (i : ℕ) (d : Survivor) → i < length ss → (get_or ss i d).root ≤ fold (λ n (s : Survivor). max n s.root) n ss
each_low n [] i d less = absurd (omega (arith, less))
each_low n (s ∷ ss) zero d less = let first = le-max_right n s.root in let rest = highest_from (max n s.root) ss in omega (arith, first, rest)
each_low n (s ∷ ss) (suc i) d less = each_low (max n s.root) ss i d (omega (arith, less))

-- so each family has a place
pub has_place : (l : Limits) (ss : List Survivor) (places : ℕ) → places ≡ min (highest_root ss + 1) (rows_of l) → All (λ s. s.root < rows_of l) ss → All (λ s. s.root < places) ss
has_place l ss places is inside i d less =
    let low = each_low 0 ss i d less in
    let row = inside i d less in
    omega (arith, is, low, row)

-- ---- how many there are of a family

module _ (root : ℕ) where
  counted_one : (fs : List Family) (s : Survivor) → 1 ≤ (family_at (family_counted fs s) root).left → (1 ≤ (family_at fs root).left) ⊎ (s.root ≡ root)
  counted_one fs s some = elim (eqb_tells root s.root) [
    | inl p ↦ inr (sym p.1)
    | inr p ↦ inl (let same = ap (λ (f : Family). f.left) (get_or-set_other fs s.root root (unborn ((family_at fs s.root).left + 1)) (unborn 0) p.1) in omega (arith, some, same))
  ]

  counted_some : (fs : List Family) (ss : List Survivor) → 1 ≤ (family_at (fold family_counted fs ss) root).left → (1 ≤ (family_at fs root).left) ⊎ ((s : Survivor) × In s ss × (s.root ≡ root))
  counted_some fs [] some = inl some
  counted_some fs (s ∷ ss) some =
      ⊎_elim (λ was. ⊎_elim (λ p. inl p) (λ q. inr (s, here, q)) (counted_one fs s was)) (λ t. inr (t.0, there t.1, t.2)) (counted_some (family_counted fs s) ss some)

  none_yet : (n : ℕ) → (family_at (replicate n (unborn 0)) root).left ≡ 0
  none_yet n = go n root
    where
      go : (n i : ℕ) → (get_or (replicate n (unborn 0)) i (unborn 0)).left ≡ 0
      go zero i = refl
      go (suc n) zero = refl
      go (suc n) (suc i) = go n i

  pub has_member : (l : Limits) (ss : List Survivor) → 1 ≤ (family_at (families_of l ss) root).left → (s : Survivor) × In s ss × (s.root ≡ root)
  has_member l ss some =
      ⊎_elim (λ was. let none = none_yet (min (highest_root ss + 1) (rows_of l)) in absurd (omega (arith, was, none))) (λ t. t) (counted_some (replicate (min (highest_root ss + 1) (rows_of l)) (unborn 0)) ss some)

pub not_apart : (l : Limits) (ss : List Survivor) (fs : List Family) (i : ℕ) (d : Survivor) (f : Family) → fs ≡ families_of l ss → i < length ss → (get_or ss i d).id ≢ (get_or ss i d).root → (get_or ss i d).id < length fs → 0 < (get_or fs (get_or ss i d).id f).left
    → ¬ AreApart ss
not_apart l ss fs i d f are less other inside some apart =
    let id = (get_or ss i d).id in
    let some' : 1 ≤ (family_at (families_of l ss) id).left = subst (λ zs. 1 ≤ (family_at zs id).left) are (let e = same_at fs id f inside in omega (arith, e, some)) in
    let t = has_member id l ss some' in
    apart (get_or ss i d) t.0 (in_at ss i d less) t.1 other t.2
  where
    same_at : (fs : List Family) (i : ℕ) (f : Family) → i < length fs → (get_or fs i f).left ≡ (family_at fs i).left
    same_at [] i f less = absurd (omega (arith, less))
    same_at (x ∷ fs) zero f less = refl
    same_at (x ∷ fs) (suc i) f less = same_at fs i f (omega (arith, less))

-- ---- counts

pub few_more : (fs : List Family) (at n m : ℕ) (f : Family) → n ≤ m → f.left ≤ m → All (λ (x : Family). x.left ≤ n) fs → All (λ (x : Family). x.left ≤ m) (slice_set fs at f)
few_more fs at n m f up few all =
    All-set (λ (x : Family). x.left ≤ m) fs at f few (All-weaker (λ (x : Family). x.left ≤ n) (λ (x : Family). x.left ≤ m) (λ x low. omega (arith, low, up)) fs all)

pub none_counted : (n : ℕ) → All (λ (x : Family). x.left ≤ 0) (replicate n (unborn 0))
none_counted n = All-replicate (λ (x : Family). x.left ≤ 0) n (unborn 0) (omega arith)

-- one more is counted
pub counted_on : (fs : List Family) (ss : List Survivor) (i : ℕ) (f : Family) → i < length ss → f ≡ family_at fs (get_or ss i blank).root → (all : List Family) → fold family_counted fs (drop i ss) ≡ all
    → fold family_counted (slice_set fs (get_or ss i blank).root (unborn (f.left + 1))) (drop (i + 1) ss) ≡ all
counted_on fs ss i f less is all so_far =
    ap (λ (x : Family). fold family_counted (slice_set fs (get_or ss i blank).root (unborn (x.left + 1))) (drop (i + 1) ss)) is
    ∙ (sym (ap (fold family_counted fs) (drop_here ss i blank less)) ∙ so_far)

-- a table that is as long has the same places
pub may_still : (ss : List Survivor) (fs fs' : List Family) → All (HasFamilyPlace fs) ss → length fs' ≡ length fs → All (HasFamilyPlace fs') ss
may_still ss fs fs' may long i d less = let one = may i d less in let at = one.0 in (omega (arith, at, long), one.1)
