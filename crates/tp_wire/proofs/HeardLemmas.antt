-- Lines that are taken from bytes.
use Rattle.std.proofs.Common.{◌≡◌, ◌==◌, ℕ, zero, suc, ◌+◌, ◌-◌, ◌<◌, ◌≤◌, min, Bool, true, false, List, [], ◌∷◌, ◌++◌, length, take, drop, get_or, Option, Some, None, refl, sym, ap, ◌∙◌, subst, append_assoc, drop-cons, arith, inl, inr}
use Rattle.std.specs.Prelude.{not, position, if◌then◌else◌, nat_lt}
use Rattle.std.specs.Option.{option_map}
use Rattle.std.specs.List.{position_or_len}
use Rattle.std.specs.Io.KnownBytes.{Consumes, IsAtEnd}
use Rattle.std.proofs.lemmas.Bool.{cases_lt, eqb-true, lt-ltb}
use Rattle.std.proofs.lemmas.Bool.Decides.{nat_tests}
use Rattle.std.proofs.lemmas.List.{append-nil, drop-drop, length-take, take_all, take-append-drop}
use Rattle.std.proofs.lemmas.List.Elements.{All-append, All-cons, All-from_get_or, All-nil}
use Rattle.std.proofs.lemmas.List.Splits.{length-slice_split, slice_split_at, slice_split_none}
use Rattle.std.proofs.lemmas.List.Sums.{fails_before_first}
use Rattle.std.proofs.lemmas.List.Quantifiers.{position-Some}
use Rattle.std.proofs.lemmas.Option.{none-some}
use Rattle.tp_script.specs.Text.{lines}
use Rattle.tp_wire.specs.Heard.{Hears, HearsFront, IsAllOf, IsInLine, IsSilent, Next, ReadsLine, but_empty_last, heard}
use Rattle.tp_wire.specs.declared.reading.TheConstants.{MAX_KEPT}

-- ---- bytes that are kept

take_within : (n m : ℕ) (ys : List ℕ) → m ≡ min (length ys) n → take m ys ≡ take n ys
take_within n m ys is = elim (cases_lt n (length ys)) [
  | inl less ↦ let same : m ≡ n = omega (arith, is, less) in ap (λ k. take k ys) same
  | inr all ↦ let also : length ys ≤ m = omega (arith, is, all) in take_all m ys also ∙ sym (take_all n ys all)
]

-- as many are added as there is room for
pub kept_more : (n m : ℕ) (xs ys : List ℕ) → m ≡ min (length ys) (n - length xs) → length xs ≤ n → xs ++ take m ys ≡ take n (xs ++ ys)
kept_more n m [] ys is short = take_within n m ys (omega (arith, is))
kept_more zero m (x ∷ xs) ys is short = absurd (omega (arith, short))
kept_more (suc n) m (x ∷ xs) ys is short = ap (λ zs. x ∷ zs) (kept_more n m xs ys (omega (arith, is)) (omega (arith, short)))

-- what is left out before makes no difference
pub take_onto : (n : ℕ) (xs ys : List ℕ) → take n (take n xs ++ ys) ≡ take n (xs ++ ys)
take_onto zero xs ys = refl
take_onto (suc n) [] ys = refl
take_onto (suc n) (x ∷ xs) ys = ap (λ zs. x ∷ zs) (take_onto n xs ys)

-- nothing is kept of nothing alone
pub kept_none : (n : ℕ) (xs : List ℕ) → take (suc n) xs ≡ [] → xs ≡ []
kept_none n [] e = refl
kept_none n (x ∷ xs) e = absurd (omega (arith, ap length e))

-- ---- where a line ends

some_place : (b : Bool) (i : ℕ) → if b then Some i else None ≡ None → b ≡ false
some_place true i e = absurd (none-some i (sym e))
some_place false i e = refl

pub no_end : (xs : List ℕ) → position (λ b. b == 10) xs ≡ None → IsInLine xs
no_end xs none =
    let past : nat_lt (position_or_len (λ b. b == 10) xs) (length xs) ≡ false = some_place _ _ none in
    let all : length xs ≤ position_or_len (λ b. b == 10) xs = elim (cases_lt (position_or_len (λ b. b == 10) xs) (length xs)) [
      | inl less ↦ let also = lt-ltb _ _ less in absurd cc
      | inr all ↦ all
    ] in
    All-from_get_or (λ b. (b == 10) ≡ false) xs 0 (λ i lt. fails_before_first (λ b. b == 10) xs i 0 (omega (arith, all, lt)))

in_front : (xs : List ℕ) (i : ℕ) → i ≤ length xs → ((k : ℕ) → k < i → (get_or xs k 0 == 10) ≡ false) → IsInLine (take i xs)
in_front xs zero few none = All-nil (λ b. (b == 10) ≡ false)
in_front [] (suc i) few none = absurd (omega (arith, few))
in_front (x ∷ xs) (suc i) few none = All-cons (λ b. (b == 10) ≡ false) x (take i xs) (none 0 (omega arith)) (in_front xs i (omega (arith, few)) (λ k lt. none (suc k) (omega (arith, lt))))

pub record EndsAt (xs : List ℕ) (i : ℕ) : Type 0 where
  pub in_line : IsInLine (take i xs)
  pub parts : xs ≡ take i xs ++ 10 ∷ drop (i + 1) xs
  pub within : i < length xs

pub ends_at : (xs : List ℕ) (i : ℕ) → position (λ b. b == 10) xs ≡ Some i → EndsAt xs i
ends_at xs i some =
    let found = position-Some (λ b. b == 10) xs i 0 some in
    let is : get_or xs i 0 ≡ 10 = eqb-true _ _ found.1 in
    let next : suc i ≡ i + 1 = omega arith in
    record {
      in_line = in_front xs i (omega (arith, found.0)) found.2;
      parts = sym (take-append-drop i xs) ∙ ap (λ zs. take i xs ++ zs) (drop-cons xs i 0 found.0 ∙ ap (λ b. b ∷ drop (suc i) xs) is ∙ ap (λ k. 10 ∷ drop k xs) next);
      within = found.0;
    }

-- a line's end in what is behind the part that was used
pub record EndsBehind (chunk : List ℕ) (at place : ℕ) : Type 0 where
  pub in_line : IsInLine (take place (drop at chunk))
  pub parts : drop at chunk ≡ take place (drop at chunk) ++ 10 ∷ drop (at + (place + 1)) chunk

pub ends_behind : (chunk : List ℕ) (at place : ℕ) → position (λ b. b == 10) (drop at chunk) ≡ Some place → EndsBehind chunk at place
ends_behind chunk at place some =
    let ends = ends_at (drop at chunk) place some in
    record { in_line = ends.in_line; parts = ends.parts ∙ ap (λ zs. take place (drop at chunk) ++ 10 ∷ zs) (drop-drop (place + 1) at chunk) }

-- ---- lines

first_of_more : (line : List ℕ) (others : List (List ℕ)) → 0 < length others → but_empty_last (line ∷ others) ≡ line ∷ but_empty_last others
first_of_more line [] some = absurd (omega (arith, some))
first_of_more [] (o ∷ os) some = refl
first_of_more (b ∷ bs) (o ∷ os) some = refl

some_line : (bytes : List ℕ) → 0 < length (lines bytes)
some_line bytes = omega (arith, length-slice_split (λ b. b == 10) bytes)

-- a line, and what stands behind its end
pub heard_next : (line rest : List ℕ) → IsInLine line → heard (line ++ 10 ∷ rest) ≡ line ∷ heard rest
heard_next line rest within =
    ap but_empty_last (slice_split_at (λ b. b == 10) line 10 rest within refl) ∙ first_of_more line (lines rest) (some_line rest)

-- the bytes behind the last end of a line
pub heard_last : (b : ℕ) (bs : List ℕ) → IsInLine (b ∷ bs) → heard (b ∷ bs) ≡ (b ∷ bs) ∷ []
heard_last b bs within = ap but_empty_last (slice_split_none (λ b. b == 10) (b ∷ bs) within)

-- ---- lines of bytes that are known or not

pub Consumes-then : (a b c : Option (List ℕ)) (xs ys : List ℕ) → Consumes a b xs → Consumes b c ys → Consumes a c (xs ++ ys)
Consumes-then None b c xs ys p q = tt
Consumes-then (Some x) None c xs ys p q = absurd p
Consumes-then (Some x) (Some y) None xs ys p q = absurd q
Consumes-then (Some x) (Some y) (Some z) xs ys p q = p ∙ ap (λ (w : List ℕ). xs ++ w) q ∙ sym (append_assoc xs ys z)

pub Consumes-none : (a : Option (List ℕ)) → Consumes a a []
Consumes-none None = tt
Consumes-none (Some x) = refl

-- a line that has ended
pub hears_next : (a b : Option (List ℕ)) (line : List ℕ) → IsInLine line → Consumes a b (line ++ 10 ∷ []) → Hears a (line ∷ []) b
hears_next None b line within p = tt
hears_next (Some x) None line within p = absurd p
hears_next (Some x) (Some y) line within p = ap heard (p ∙ append_assoc line (10 ∷ []) y) ∙ heard_next line y within

-- one that ends with the input
pub hears_last : (a b : Option (List ℕ)) (line : List ℕ) → IsInLine line → 0 < length line → Consumes a b line → IsAtEnd b → Hears a (line ∷ []) b
hears_last None b line within some p end = tt
hears_last (Some x) None line within some p end = absurd p
hears_last (Some x) (Some y) [] within some p end = absurd (omega (arith, some))
hears_last (Some x) (Some y) (c ∷ cs) within some p end =
    ap heard (p ∙ ap (λ w. (c ∷ cs) ++ w) end ∙ append-nil (c ∷ cs)) ∙ heard_last c cs within ∙ ap (λ w. (c ∷ cs) ∷ heard w) (sym end)

-- none
pub hears_none : (a b : Option (List ℕ)) → Consumes a b [] → IsAtEnd b → Hears a [] b
hears_none None b p end = tt
hears_none (Some x) None p end = absurd p
hears_none (Some x) (Some y) p end = ap heard p

pub silent_end : (b : Option (List ℕ)) → IsAtEnd b → IsSilent b
silent_end None end = tt
silent_end (Some y) end = ap heard end

-- ---- one after the other

pub Hears-then : (a b c : Option (List ℕ)) (xs ys : List (List ℕ)) → Hears a xs b → Hears b ys c → Hears a (xs ++ ys) c
Hears-then None b c xs ys p q = tt
Hears-then (Some x) None c xs ys p q = absurd p
Hears-then (Some x) (Some y) None xs ys p q = absurd q
Hears-then (Some x) (Some y) (Some z) xs ys p q = p ∙ ap (λ (w : List (List ℕ)). xs ++ w) q ∙ sym (append_assoc xs ys (heard z))

pub Hears-none : (a : Option (List ℕ)) → Hears a [] a
Hears-none None = tt
Hears-none (Some x) = refl

-- some were
pub hears_some : (a b : Option (List ℕ)) (xs : List (List ℕ)) → Hears a xs b → HearsFront a xs
hears_some None b xs p = tt
hears_some (Some x) None xs p = absurd p
hears_some (Some x) (Some y) xs p = (heard y, p)

-- all lines were taken
pub hears_all : (a b : Option (List ℕ)) (xs : List (List ℕ)) → Hears a xs b → IsSilent b → IsAllOf a xs
hears_all None b xs p none = tt
hears_all (Some x) None xs p none = absurd p
hears_all (Some x) (Some y) xs p none = p ∙ ap (λ w. xs ++ w) none ∙ append-nil xs

-- ---- a line that is read in pieces

-- what is used of bytes that are there
pub used : (before after xs : List ℕ) (rest : Option (List ℕ)) → before ≡ xs ++ after → Consumes (option_map (λ more. before ++ more) rest) (option_map (λ more. after ++ more) rest) xs
used before after xs None is = tt
used before after xs (Some more) is = ap (λ w. w ++ more) is ∙ append_assoc xs after more

pub reads_more : (n : ℕ) (a b c : Option (List ℕ)) (kept more now : List ℕ) (so_far : ReadsLine a b kept) → n ≡ MAX_KEPT → IsInLine more → Consumes b c more → now ≡ take n (kept ++ more) → ReadsLine a c now
reads_more n a b c kept more now so_far most within p is = record {
  bytes = so_far.bytes ++ more;
  in_line = All-append (λ b. (b == 10) ≡ false) so_far.bytes more so_far.in_line within;
  consumed = Consumes-then a b c so_far.bytes more so_far.consumed p;
  kept_is = subst (λ k. now ≡ take k (so_far.bytes ++ more)) most (is ∙ ap (λ w. take n (w ++ more)) (so_far.kept_is ∙ ap (λ k. take k so_far.bytes) (sym most)) ∙ take_onto n so_far.bytes more);
}

-- the same where nothing of it is used
pub reads_on : (a b c : Option (List ℕ)) (kept : List ℕ) → ReadsLine a b kept → Consumes b c [] → ReadsLine a c kept
reads_on a b c kept so_far p = record {
  bytes = so_far.bytes;
  in_line = so_far.in_line;
  consumed = subst (λ w. Consumes a c w) (append-nil so_far.bytes) (Consumes-then a b c so_far.bytes [] so_far.consumed p);
  kept_is = so_far.kept_is;
}

-- it has ended
pub read_whole : (a b c : Option (List ℕ)) (kept : List ℕ) → ReadsLine a b kept → Consumes b c (10 ∷ []) → Next true a kept c
read_whole a b c kept so_far p = (so_far.bytes, so_far.kept_is, hears_next a c so_far.bytes so_far.in_line (Consumes-then a b c so_far.bytes (10 ∷ []) so_far.consumed p))

-- so has the input
pub read_to_end : (more : Bool) (a b : Option (List ℕ)) (kept : List ℕ) → ReadsLine a b kept → IsAtEnd b → more ≡ not (length kept == 0) → Next more a kept b
read_to_end more a b [] so_far end is =
    let nothing : so_far.bytes ≡ [] = kept_none 1023 so_far.bytes (sym so_far.kept_is) in
    subst (λ m. Next m a [] b) (sym is) (hears_none a b (subst (λ w. Consumes a b w) nothing so_far.consumed) end, silent_end b end)
read_to_end more a b (c ∷ cs) so_far end is =
    let some : 0 < length so_far.bytes = omega (arith, ap length so_far.kept_is, length-take MAX_KEPT so_far.bytes) in
    let differs : (length (c ∷ cs) == 0) ≡ false = grind (arith, nat_tests) in
    subst (λ m. Next m a (c ∷ cs) b) (sym (is ∙ ap not differs)) (so_far.bytes, so_far.kept_is, hears_last a b so_far.bytes so_far.in_line some so_far.consumed end)
