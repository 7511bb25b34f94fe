-- What holds of all of a list, and of its parts.
use Rattle.std.proofs.Common.{◌≡◌, ℕ, ◌+◌, ◌<◌, List, [], ◌∷◌, ◌++◌, length, drop, get_or, slice_set, All, ap, ◌∙◌, subst}
use Rattle.std.specs.List.{swap}
use Rattle.std.proofs.lemmas.List.Elements.{All-cons, All-head, All-nil, All-set, All-tail}
use Rattle.std.proofs.lemmas.List.{drop_more}
use Rattle.std.proofs.lemmas.List.Sums.{sum_by-cons}
use Rattle.tp_script.specs.declared.head.Act.{Act}
use Rattle.tp_script.specs.Passes.{racers, racing}

-- the first of a list, and those after it in two parts
pub all_parts : {A : Type 0} (P : A → Type 0) (xs : List A) (x : A) (rest front back : List A) → xs ≡ x ∷ rest → rest ≡ front ++ back → All P xs → P x × All P front × All P back
all_parts P xs x rest front back is parts all =
    let these : All P (x ∷ rest) = subst (All P) is all in
    let behind : All P (front ++ back) = subst (All P) parts (All-tail P x rest these) in
    (All-head P x rest these, all_front P front back behind, all_back P front back behind)
  where
    all_front : {A : Type 0} (P : A → Type 0) (front back : List A) → All P (front ++ back) → All P front
    all_front P [] back all = All-nil P
    all_front P (x ∷ front) back all = All-cons P x front (All-head P x (front ++ back) all) (all_front P front back (All-tail P x (front ++ back) all))

    all_back : {A : Type 0} (P : A → Type 0) (front back : List A) → All P (front ++ back) → All P back
    all_back P [] back all = all
    all_back P (x ∷ front) back all = all_back P front back (All-tail P x (front ++ back) all)

-- what the commands from here on need
pub racing_next : (acts : List Act) (i : ℕ) (d : Act) → i < length acts → racing (drop i acts) ≡ racers (get_or acts i d) + racing (drop (i + 1) acts)
racing_next acts i d inside = ap racing (drop_more acts i d inside) ∙ sum_by-cons racers (get_or acts i d) (drop (i + 1) acts)

-- two elements in each other's place
pub all_swap : {A : Type 0} (P : A → Type 0) (xs : List A) (a b : ℕ) → a < length xs → b < length xs → All P xs → All P (swap xs a b)
all_swap P [] a b within also all = all
all_swap P (x ∷ xs) a b within also all =
    All-set P (slice_set (x ∷ xs) a (get_or (x ∷ xs) b x)) b (get_or (x ∷ xs) a x) (all a x within) (All-set P (x ∷ xs) a (get_or (x ∷ xs) b x) (all b x also) all)

-- all but the first
pub all_rest : {A : Type 0} (P : A → Type 0) (xs : List A) (x : A) (rest : List A) → xs ≡ x ∷ rest → All P xs → All P rest
all_rest P xs x rest is all = All-tail P x rest (subst (All P) is all)
