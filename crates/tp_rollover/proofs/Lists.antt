-- Lists of passes and of elements.
use Rattle.std.proofs.Common.{◌≡◌, ◌⊎◌, ℕ, zero, suc, ◌+◌, ◌<◌, ◌≤◌, List, [], ◌∷◌, ◌++◌, length, map, slice_set, get_or, take, drop, refl, sym, ◌∙◌, ap, subst, inl, inr, ⊎_elim, arith}
use Rattle.std.proofs.Math.Seq.{take-length, take-suc}
use Rattle.std.specs.List.{All, AllZip}
use Rattle.tp_model.specs.History.{In, here, there}
use Rattle.tp_model.proofs.Bridges.{in_either, in_one}
use Rattle.tp_rollover.specs.Survivors.{Ascending}

-- one in place of another that looks the same
pub map_set_same : {A B : Type 0} (f : A → B) (xs : List A) (i : ℕ) (x d : A) → i < length xs → f x ≡ f (get_or xs i d) → map f (slice_set xs i x) ≡ map f xs
map_set_same f [] i x d within same = absurd (omega (arith, within))
map_set_same f (y ∷ ys) zero x d within same = ap (λ z. z ∷ map f ys) same
map_set_same f (y ∷ ys) (suc i) x d within same = ap (λ zs. f y ∷ zs) (map_set_same f ys i x d (omega (arith, within)) same)

pub take_more : {A : Type 0} (xs : List A) (i : ℕ) (d : A) → i < length xs → take (i + 1) xs ≡ take i xs ++ get_or xs i d ∷ []
take_more xs i d less = ap (λ k. take k xs) (let e : i + 1 ≡ suc i = omega arith in e) ∙ take-suc xs i d less

drop_suc : {A : Type 0} (xs : List A) (i : ℕ) (d : A) → i < length xs → drop i xs ≡ get_or xs i d ∷ drop (suc i) xs
drop_suc [] i d less = absurd (omega (arith, less))
drop_suc (x ∷ xs) zero d less = refl
drop_suc (x ∷ xs) (suc i) d less = drop_suc xs i d (omega (arith, less))

pub drop_here : {A : Type 0} (xs : List A) (i : ℕ) (d : A) → i < length xs → drop i xs ≡ get_or xs i d ∷ drop (i + 1) xs
drop_here xs i d less = drop_suc xs i d less ∙ ap (λ k. get_or xs i d ∷ drop k xs) (let e : suc i ≡ i + 1 = omega arith in e)

-- one of the first i + 1 is one of the first i, or the next one
pub in_take_more : {A : Type 0} (m : A) (xs : List A) (i : ℕ) (d : A) → i < length xs → In m (take (i + 1) xs) → In m (take i xs) ⊎ (m ≡ get_or xs i d)
in_take_more m xs i d less p = ⊎_elim (λ q. inl q) (λ q. inr (in_one q)) (in_either (take i xs) (get_or xs i d ∷ []) (subst (In m) (take_more xs i d less) p))

pub in_all_taken : {A : Type 0} (m : A) (xs : List A) → In m xs → In m (take (length xs) xs)
in_all_taken m xs p = subst (In m) (sym (take-length xs)) p

-- the one at a place is in the list
pub in_at : {A : Type 0} (xs : List A) (i : ℕ) (d : A) → i < length xs → In (get_or xs i d) xs
in_at [] i d less = absurd (omega (arith, less))
in_at (x ∷ xs) zero d less = here
in_at (x ∷ xs) (suc i) d less = there (in_at xs i d (omega (arith, less)))

-- one that another list has the picture of
pub in_map : {A B : Type 0} (f : A → B) (xs : List A) (x : A) → In x xs → In (f x) (map f xs)
in_map f [] x p = elim p [ ]
in_map f (y ∷ ys) x here = here
in_map f (y ∷ ys) x (there p) = there (in_map f ys x p)

-- two lists, place by place, and one more of each
pub zip_snoc : {A B : Type 0} (R : A → B → Type 0) (xs : List A) (ys : List B) (x : A) (y : B) → AllZip R xs ys → R x y → AllZip R (xs ++ x ∷ []) (ys ++ y ∷ [])
zip_snoc R [] [] x y zip last = (last, tt)
zip_snoc R [] (b ∷ ys) x y zip last = absurd zip
zip_snoc R (a ∷ xs) [] x y zip last = absurd zip
zip_snoc R (a ∷ xs) (b ∷ ys) x y zip last = (zip.0, zip_snoc R xs ys x y zip.1 last)

pub zip_more : {A B : Type 0} (R : A → B → Type 0) (xs : List A) (ys : List B) (i : ℕ) (d : A) (e : B) → i < length xs → i < length ys → AllZip R (take i xs) (take i ys) → R (get_or xs i d) (get_or ys i e)
    → AllZip R (take (i + 1) xs) (take (i + 1) ys)
zip_more R xs ys i d e less less' zip last =
    subst (λ zs. AllZip R zs (take (i + 1) ys)) (sym (take_more xs i d less))
    (subst (AllZip R (take i xs ++ get_or xs i d ∷ [])) (sym (take_more ys i e less')) (zip_snoc R (take i xs) (take i ys) (get_or xs i d) (get_or ys i e) zip last))

pub zip_all : {A B : Type 0} (R : A → B → Type 0) (xs : List A) (ys : List B) (i : ℕ) → length xs ≤ i → i ≤ length xs → length ys ≡ length xs → AllZip R (take i xs) (take i ys) → AllZip R xs ys
zip_all R xs ys i low high same zip =
    let whole : take i xs ≡ xs = ap (λ k. take k xs) (let e : i ≡ length xs = omega (arith, low, high) in e) ∙ take-length xs in
    let whole' : take i ys ≡ ys = ap (λ k. take k ys) (let e : i ≡ length ys = omega (arith, low, high, same) in e) ∙ take-length ys in
    subst (λ zs. AllZip R zs ys) whole (subst (AllZip R (take i xs)) whole' zip)

-- of two lists, place by place, each one has its other
pub zip_of_left : {A B : Type 0} (R : A → B → Type 0) (xs : List A) (ys : List B) (x : A) → AllZip R xs ys → In x xs → (y : B) × In y ys × R x y
zip_of_left R [] ys x zip p = elim p [ ]
zip_of_left R (a ∷ xs) [] x zip p = absurd zip
zip_of_left R (a ∷ xs) (b ∷ ys) x zip here = (b, here, zip.0)
zip_of_left R (a ∷ xs) (b ∷ ys) x zip (there p) = let t = zip_of_left R xs ys x zip.1 p in (t.0, there t.1, t.2)

pub zip_of_right : {A B : Type 0} (R : A → B → Type 0) (xs : List A) (ys : List B) (y : B) → AllZip R xs ys → In y ys → (x : A) × In x xs × R x y
zip_of_right R xs [] y zip p = elim p [ ]
zip_of_right R [] (b ∷ ys) y zip p = absurd zip
zip_of_right R (a ∷ xs) (b ∷ ys) y zip here = (a, here, zip.0)
zip_of_right R (a ∷ xs) (b ∷ ys) y zip (there p) = let t = zip_of_right R xs ys y zip.1 p in (t.0, there t.1, t.2)

pub zip_as_many : {A B : Type 0} (R : A → B → Type 0) (xs : List A) (ys : List B) → AllZip R xs ys → length ys ≡ length xs
zip_as_many R [] [] zip = refl
zip_as_many R [] (b ∷ ys) zip = absurd zip
zip_as_many R (a ∷ xs) [] zip = absurd zip
zip_as_many R (a ∷ xs) (b ∷ ys) zip = let e = zip_as_many R xs ys zip.1 in omega (arith, e)

-- ids that ascend, and a higher one

pub ascending_more : (low : ℕ) (ns : List ℕ) (n : ℕ) → low ≤ n → Ascending low ns → ((i : ℕ) → In i ns → i < n) → Ascending low (ns ++ n ∷ [])
ascending_more low [] n within up below = (within, tt)
ascending_more low (i ∷ ns) n within up below = (up.0, ascending_more (i + 1) ns n (let less = below i here in omega arith) up.1 (λ j p. below j (there p)))

-- what holds of those that were taken holds of all, where none are left
pub all_taken : {A : Type 0} (P : A → Type 0) (xs : List A) (i : ℕ) → length xs ≤ i → All P (take i xs) → All P xs
all_taken P xs i low all = subst (All P) (take_past xs i low) all
  where
    take_past : {A : Type 0} (xs : List A) (i : ℕ) → length xs ≤ i → take i xs ≡ xs
    take_past [] zero low = refl
    take_past [] (suc i) low = refl
    take_past (x ∷ xs) zero low = absurd (omega (arith, low))
    take_past (x ∷ xs) (suc i) low = ap (λ ys. x ∷ ys) (take_past xs i (omega (arith, low)))
