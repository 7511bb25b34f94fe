-- Who goes through the rows finds each born element, and each once.
use Rattle.std.proofs.Common.{◌≡◌, ◌≢◌, ℕ, zero, suc, ◌+◌, ◌<◌, ◌≤◌, ◌==◌, cond, Bool, true, false, Option, Some, None, List, [], ◌∷◌, ◌++◌, length, map, refl, sym, ◌∙◌, ap, subst, inl, inr, append_assoc, arith}
use Rattle.std.proofs.lemmas.Bool.Decides.{eqb_tells}
use Rattle.std.proofs.lemmas.List.Elements.{filter_map-append}
use Rattle.std.proofs.lemmas.List.Folds.{find-append}
use Rattle.std.proofs.lemmas.List.Sums.{sum_by-cons, sum_by-append}
use Rattle.std.specs.List.{cons_option, filter_map, find, range_with_len, sum_by}
use Rattle.std.specs.Option.{option_or}
use Rattle.tp_model.specs.declared.types.Element.{Element}
use Rattle.tp_model.specs.declared.types.Limits.{Limits}
use Rattle.tp_model.specs.declared.types.Counts.{Counts}
use Rattle.tp_model.specs.declared.types.Status.{Status}
use Rattle.tp_model.specs.declared.event.Event.{Event}
use Rattle.tp_model.specs.declared.event.Event.TheVariants.{Enqueue, Claim, Commit, Abort, Kill, Requeue}
use Rattle.tp_model.specs.Accounts.{CountsByRows, account_among, all_stages, elements_below}
use Rattle.tp_model.specs.Counts.{is_waiting, is_held, is_consumed, is_parked, is_killed, count_of, counts_among, in_stage}
use Rattle.tp_model.specs.History.{born, births, element_of, first_id, status_of}
use Rattle.tp_model.specs.Steps.{AreOutputs, IsLegal, Step, rows_of}
use Rattle.tp_model.proofs.Areas.{use_inside}
use Rattle.tp_model.proofs.Bridges.{append_nil}
use Rattle.tp_model.proofs.Histories.{by_steps, born-snoc}
use Rattle.tp_model.proofs.Lists.{if_same, if_other, option_or-None}
use Rattle.tp_model.proofs.Tallies.{alike}

-- the one of these with id i
abbrev with_id : List Element → ℕ → Option Element
with_id xs i = find (λ e. e.id == i) xs

-- those of these with the ids from a on, n of them, by their ids
abbrev with_ids : List Element → ℕ → ℕ → List Element
with_ids xs a n = filter_map (with_id xs) (range_with_len a n)

with_id-last : (xs : List Element) (y : Element) (i : ℕ) → with_id (xs ++ y ∷ []) i ≡ option_or (with_id xs i) (with_id (y ∷ []) i)
with_id-last xs y i = find-append (λ (e : Element). e.id == i) xs (y ∷ [])

with_id-other : (xs : List Element) (y : Element) (i : ℕ) → y.id ≢ i → with_id (xs ++ y ∷ []) i ≡ with_id xs i
with_id-other xs y i other = with_id-last xs y i ∙ (ap (option_or (with_id xs i)) (if_other y.id i (Some y) None other) ∙ option_or-None (with_id xs i))

with_id-new : (xs : List Element) (y : Element) (i : ℕ) → y.id ≡ i → with_id xs i ≡ None → with_id (xs ++ y ∷ []) i ≡ Some y
with_id-new xs y i same none = with_id-last xs y i ∙ (ap (λ o. option_or o (with_id (y ∷ []) i)) none ∙ if_same y.id i (Some y) None same)

-- an element with a lesser id changes nothing
ids_beyond : (xs : List Element) (y : Element) (a n : ℕ) → y.id < a → with_ids (xs ++ y ∷ []) a n ≡ with_ids xs a n
ids_beyond xs y a zero less = refl
ids_beyond xs y a (suc n) less =
    ap (λ o. cons_option o (with_ids (xs ++ y ∷ []) (a + 1) n)) (with_id-other xs y a (λ same. omega arith))
    ∙ ap (cons_option (with_id xs a)) (ids_beyond xs y (a + 1) n (omega arith))

-- what a function is over an element that may be there
abbrev over : (Element → ℕ) → Option Element → ℕ
over f None = 0
over f (Some x) = f x

sum_cons_option : (f : Element → ℕ) (o : Option Element) (xs : List Element) → sum_by f (cons_option o xs) ≡ over f o + sum_by f xs
sum_cons_option f None xs = omega arith
sum_cons_option f (Some x) xs = sum_by-cons f x xs

-- a new element is added once
ids_more : (f : Element → ℕ) (xs : List Element) (y : Element) (a n : ℕ) → a ≤ y.id → y.id < a + n → with_id xs y.id ≡ None
    → sum_by f (with_ids (xs ++ y ∷ []) a n) ≡ sum_by f (with_ids xs a n) + f y
ids_more f xs y a zero low high none = absurd (omega arith)
ids_more f xs y a (suc n) low high none =
    let new = sum_cons_option f (with_id (xs ++ y ∷ []) a) (with_ids (xs ++ y ∷ []) (a + 1) n) in
    let old = sum_cons_option f (with_id xs a) (with_ids xs (a + 1) n) in
    elim (eqb_tells y.id a) [
      | inl p ↦
          let same : y.id ≡ a = p.1 in
          let empty : with_id xs a ≡ None = ap (with_id xs) (sym p.1) ∙ none in
          let it : over f (with_id (xs ++ y ∷ []) a) ≡ f y = ap (over f) (with_id-new xs y a p.1 empty) in
          let nothing : over f (with_id xs a) ≡ 0 = ap (over f) empty in
          let rest : sum_by f (with_ids (xs ++ y ∷ []) (a + 1) n) ≡ sum_by f (with_ids xs (a + 1) n) = ap (sum_by f) (ids_beyond xs y (a + 1) n (omega arith)) in
          omega arith
      | inr p ↦
          let other : y.id ≢ a = p.1 in
          let it : over f (with_id (xs ++ y ∷ []) a) ≡ over f (with_id xs a) = ap (over f) (with_id-other xs y a p.1) in
          let rest = ids_more f xs y (a + 1) n (omega arith) (omega arith) none in
          omega arith
    ]

-- each of these, one after another, has an id below n that is new
abbrev AreNew : ℕ → List Element → List Element → Type 0
AreNew n xs [] = Unit {0}
AreNew n xs (y ∷ ys) = (with_id xs y.id ≡ None) × (y.id < n) × AreNew n (xs ++ y ∷ []) ys

all_more : (f : Element → ℕ) (n : ℕ) (xs ys : List Element) → AreNew n xs ys → sum_by f (with_ids (xs ++ ys) 0 n) ≡ sum_by f (with_ids xs 0 n) + sum_by f ys
all_more f n xs [] new = let same : sum_by f (with_ids (xs ++ []) 0 n) ≡ sum_by f (with_ids xs 0 n) = ap (λ zs. sum_by f (with_ids zs 0 n)) (append_nil xs) in omega arith
all_more f n xs (y ∷ ys) new =
    let less : y.id < n = new.1 in
    let one = ids_more f xs y 0 n (omega arith) (omega arith) new.0 in
    let rest = all_more f n (xs ++ y ∷ []) ys new.2 in
    let same : sum_by f (with_ids ((xs ++ y ∷ []) ++ ys) 0 n) ≡ sum_by f (with_ids (xs ++ y ∷ ys) 0 n) = ap (λ zs. sum_by f (with_ids zs 0 n)) (append_assoc xs (y ∷ []) ys) in
    let all = sum_by-cons f y ys in
    omega arith

-- what a step makes is new, and in rows that there are

new_outputs : (l : Limits) (h : List Event) (c u root id : ℕ) (outs xs : List Element) → AreOutputs l h c u root id outs → ((i : ℕ) → id ≤ i → with_id xs i ≡ element_of h i) → AreNew (rows_of l) xs outs
new_outputs l h c u root id [] xs are same = tt
new_outputs l h c u root id (y ∷ ys) xs are same =
    let place : y.id ≡ id = are.0.place in (
      same y.id (omega arith) ∙ (ap (element_of h) are.0.place ∙ are.0.unborn),
      subst (λ i. i < rows_of l) (sym are.0.place) (use_inside l h c id are.0.row),
      new_outputs l h c u root (id + 1) ys (xs ++ y ∷ []) are.1 (λ i low. with_id-other xs y i (λ is. omega arith) ∙ same i (omega arith)),
    )

new_births : (l : Limits) (h : List Event) (e : Event) → Step l h e → AreNew (rows_of l) (born h) (births e)
new_births l h (Enqueue c y) step = (step.unborn, use_inside l h c y.id step.row, tt)
new_births l h (Claim c u i n) step = tt
new_births l h (Commit c u outs) step = new_outputs l h c u step.item.root (first_id outs) outs (born h) step.outputs (λ i low. refl)
new_births l h (Abort c u) step = tt
new_births l h (Kill c i) step = tt
new_births l h (Requeue c i k) step = tt

-- what is summed over the born elements is summed over the rows
pub rows_sum : (l : Limits) (h : List Event) → IsLegal l h → (f : Element → ℕ) → sum_by f (elements_below h (rows_of l)) ≡ sum_by f (born h)
rows_sum l h legal f = by_steps l (λ z. sum_by f (elements_below z (rows_of l)) ≡ sum_by f (born z)) (none 0 (rows_of l)) more h legal
  where
    none : (a n : ℕ) → sum_by f (with_ids [] a n) ≡ 0
    none a zero = refl
    none a (suc n) = none (a + 1) n

    more : (h : List Event) (e : Event) → IsLegal l h → Step l h e → sum_by f (elements_below h (rows_of l)) ≡ sum_by f (born h) → sum_by f (elements_below (h ++ e ∷ []) (rows_of l)) ≡ sum_by f (born (h ++ e ∷ []))
    more h e legal step old =
        let n = rows_of l in
        ap (λ xs. sum_by f (with_ids xs 0 n)) (born-snoc h e)
        ∙ (all_more f n (born h) (births e) (new_births l h e step)
        ∙ (ap (λ z. z + sum_by f (births e)) old
        ∙ (sym (sum_by-append f (born h) (births e)) ∙ ap (sum_by f) (sym (born-snoc h e)))))

-- and so the counts are the same

sum_staged : (f : Element → ℕ) (s : ℕ) (xs : List Element) → sum_by f (in_stage s xs) ≡ sum_by (λ e. cond (e.stage == s) (f e) 0) xs
sum_staged f s [] = refl
sum_staged f s (x ∷ xs) =
    let one = sum_by-cons (λ (e : Element). cond (e.stage == s) (f e) 0) x xs in
    let rest = sum_staged f s xs in
    let first = go (x.stage == s) in
    omega arith
  where
    go : (b : Bool) → sum_by f (cond b (x ∷ in_stage s xs) (in_stage s xs)) ≡ cond b (f x) 0 + sum_by f (in_stage s xs)
    go true = sum_by-cons f x (in_stage s xs)
    go false = omega arith

module _ (limit : ℕ) (h : List Event) (xs ys : List Element) (same : (f : Element → ℕ) → sum_by f xs ≡ sum_by f ys) where
  counts_alike : counts_among limit h xs ≡ counts_among limit h ys
  counts_alike = alike (counts_among limit h xs) (counts_among limit h ys) (at is_waiting) (at is_held) (at is_consumed) (at is_parked) (at is_killed)
    where
      at : (test : Status → Bool) → count_of limit h xs test ≡ count_of limit h ys test
      at test = same (λ e. cond (test (status_of limit h e.id)) 1 0)

  staged_alike : (s : ℕ) (f : Element → ℕ) → sum_by f (in_stage s xs) ≡ sum_by f (in_stage s ys)
  staged_alike s f = sum_staged f s xs ∙ (same (λ e. cond (e.stage == s) (f e) 0) ∙ sym (sum_staged f s ys))

map_alike : {X Y : Type 0} (f g : X → Y) → ((x : X) → f x ≡ g x) → (xs : List X) → map f xs ≡ map g xs
map_alike f g same [] = refl
map_alike f g same (x ∷ xs) = ap (λ y. y ∷ map f xs) (same x) ∙ ap (λ ys. g x ∷ ys) (map_alike f g same xs)

pub counts_by_rows : CountsByRows
counts_by_rows l h legal =
    let xs = elements_below h (rows_of l) in
    let same = rows_sum l h legal in
    ap (λ (c : Counts). record { total = c; stages = (account_among l.attempts h xs).stages }) (counts_alike l.attempts h xs (born h) same)
    ∙ ap (λ (cs : List Counts). record { total = counts_among l.attempts h (born h); stages = cs })
    (map_alike (λ s. counts_among l.attempts h (in_stage s xs)) (λ s. counts_among l.attempts h (in_stage s (born h)))
    (λ s. counts_alike l.attempts h (in_stage s xs) (in_stage s (born h)) (staged_alike l.attempts h xs (born h) same s)) all_stages)

-- one more row, and how many elements there are at most

numbers_last : (a n k : ℕ) → a + n ≡ k → range_with_len a (suc n) ≡ range_with_len a n ++ k ∷ []
numbers_last a zero k at = let same : a ≡ k = omega arith in ap (λ z. z ∷ []) same
numbers_last a (suc n) k at = ap (λ zs. a ∷ zs) (numbers_last (a + 1) n k (omega arith))

next_row : (h : List Event) (n : ℕ) → elements_below h (n + 1) ≡ elements_below h n ++ cons_option (element_of h n) []
next_row h n = let on : n + 1 ≡ suc n = omega arith in
    ap (λ k. filter_map (element_of h) (range_with_len 0 k)) on ∙ ap (filter_map (element_of h)) (numbers_last 0 n n (omega arith)) ∙ filter_map-append (element_of h) (range_with_len 0 n) (n ∷ [])

pub row_empty : (h : List Event) (n : ℕ) → element_of h n ≡ None → elements_below h (n + 1) ≡ elements_below h n
row_empty h n none = next_row h n ∙ (ap (λ o. elements_below h n ++ cons_option o []) none ∙ append_nil (elements_below h n))

pub row_full : (h : List Event) (n : ℕ) (x : Element) → element_of h n ≡ Some x → elements_below h (n + 1) ≡ elements_below h n ++ x ∷ []
row_full h n x is = next_row h n ∙ ap (λ o. elements_below h n ++ cons_option o []) is
