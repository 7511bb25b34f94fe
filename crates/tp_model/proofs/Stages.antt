-- Counting elements stage by stage.
use Rattle.std.proofs.Common.{◌≡◌, ◌≢◌, ℕ, zero, suc, ◌+◌, ◌-◌, ◌<◌, ◌≤◌, ◌==◌, cond, Bool, true, false, List, [], ◌∷◌, ◌++◌, slice_index_or, slice_set, length, map, refl, sym, ◌∙◌, ap, subst, inl, inr, ⊎_elim, arith}
use Rattle.std.proofs.lemmas.Bool.{eq-eqb, ne_eqb}
use Rattle.std.proofs.lemmas.Bool.Decides.{eqb_tells}
use Rattle.std.proofs.lemmas.List.Elements.{filter-append}
use Rattle.std.proofs.lemmas.List.Sums.{sum_by-cons, length-filter, count_by-le-length}
use Rattle.std.specs.List.{range_with_len, sum_by}
use Rattle.tp_model.specs.declared.types.Account.{Account}
use Rattle.tp_model.specs.declared.types.Counts.{Counts}
use Rattle.tp_model.specs.declared.types.Element.{Element}
use Rattle.tp_model.specs.declared.types.Limits.{Limits}
use Rattle.tp_model.specs.declared.types.Status.{Status}
use Rattle.tp_model.specs.declared.event.Event.{Event}
use Rattle.tp_model.specs.declared.event.Event.TheVariants.{Enqueue, Claim, Commit, Abort, Kill, Requeue}
use Rattle.tp_model.specs.Accounts.{StagesAddUp, account_among, added, all_in, all_stages, one_more}
use Rattle.tp_model.specs.Counts.{is_waiting, is_held, is_consumed, is_parked, is_killed, count_of, counts_among, in_stage}
use Rattle.tp_model.specs.History.{In, here, there, born, births, first_id, status_of}
use Rattle.tp_model.specs.Steps.{IsLegal, IsStage, Step}
use Rattle.tp_model.proofs.Bridges.{append_nil, in_none, in_one, in_either, outputs_place}
use Rattle.tp_model.proofs.Histories.{by_steps, born-snoc}
use Rattle.tp_model.proofs.Tallies.{alike, all_counted, counts_last}

-- sums over lists

module _ {X : Type 0} where
  pub sum_same : (f g : X → ℕ) → ((x : X) → f x ≡ g x) → (xs : List X) → sum_by f xs ≡ sum_by g xs
  sum_same f g same [] = refl
  sum_same f g same (x ∷ xs) = let a = sum_by-cons f x xs in let b = sum_by-cons g x xs in let e = same x in let rest = sum_same f g same xs in omega arith

  pub sum_plus : (f g : X → ℕ) (xs : List X) → sum_by (λ x. f x + g x) xs ≡ sum_by f xs + sum_by g xs
  sum_plus f g [] = refl
  sum_plus f g (x ∷ xs) = let a = sum_by-cons f x xs in let b = sum_by-cons g x xs in let e = sum_by-cons (λ x. f x + g x) x xs in let rest = sum_plus f g xs in omega arith

  pub sum_none : (xs : List X) → sum_by (λ x. 0) xs ≡ 0
  sum_none [] = refl
  sum_none (x ∷ xs) = let a = sum_by-cons (λ (x : X). 0) x xs in let rest = sum_none xs in omega arith

pub sum_map : {X Y : Type 0} (g : Y → ℕ) (f : X → Y) (xs : List X) → sum_by g (map f xs) ≡ sum_by (λ x. g (f x)) xs
sum_map g f [] = refl
sum_map g f (x ∷ xs) = let a = sum_by-cons g (f x) (map f xs) in let b = sum_by-cons (λ x. g (f x)) x xs in let rest = sum_map g f xs in omega arith

-- what stands at one number alone

pub none_at : (k v a n : ℕ) → k < a → sum_by (λ s. cond (k == s) v 0) (range_with_len a n) ≡ 0
none_at k v a zero less = refl
none_at k v a (suc n) less =
    let one = sum_by-cons (λ s. cond (k == s) v 0) a (range_with_len (a + 1) n) in
    let off : cond (k == a) v 0 ≡ 0 = ap (λ b. cond b v 0) (ne_eqb k a (λ same. omega arith)) in
    let rest = none_at k v (a + 1) n (omega arith) in
    omega arith

pub one_at : (k v a n : ℕ) → a ≤ k → k < a + n → sum_by (λ s. cond (k == s) v 0) (range_with_len a n) ≡ v
one_at k v a zero low high = absurd (omega arith)
one_at k v a (suc n) low high =
    let one = sum_by-cons (λ s. cond (k == s) v 0) a (range_with_len (a + 1) n) in
    elim (eqb_tells k a) [
      | inl p ↦
          let same : k ≡ a = p.1 in
          let at : cond (k == a) v 0 ≡ v = ap (λ b. cond b v 0) (eq-eqb k a p.1) in
          let rest = none_at k v (a + 1) n (omega arith) in
          omega arith
      | inr p ↦
          let other : k ≢ a = p.1 in
          let off : cond (k == a) v 0 ≡ 0 = ap (λ b. cond b v 0) (ne_eqb k a p.1) in
          let rest = one_at k v (a + 1) n (omega arith) (omega arith) in
          omega arith
    ]

-- a sum over elements is that of the sums in each stage

pub staged_sum : (g : Element → ℕ) (x : Element) (xs : List Element) (s : ℕ) → sum_by g (in_stage s (x ∷ xs)) ≡ cond (x.stage == s) (g x) 0 + sum_by g (in_stage s xs)
staged_sum g x xs s = go (x.stage == s)
  where
    go : (b : Bool) → sum_by g (cond b (x ∷ in_stage s xs) (in_stage s xs)) ≡ cond b (g x) 0 + sum_by g (in_stage s xs)
    go true = sum_by-cons g x (in_stage s xs)
    go false = omega arith

by_stages : (g : Element → ℕ) (a n : ℕ) (xs : List Element) → ((x : Element) → In x xs → (a ≤ x.stage) × (x.stage < a + n)) → sum_by (λ s. sum_by g (in_stage s xs)) (range_with_len a n) ≡ sum_by g xs
by_stages g a n [] staged = sum_none (range_with_len a n)
by_stages g a n (x ∷ xs) staged =
    let one = sum_by-cons g x xs in
    let parts = sum_same (λ s. sum_by g (in_stage s (x ∷ xs))) (λ s. cond (x.stage == s) (g x) 0 + sum_by g (in_stage s xs)) (staged_sum g x xs) (range_with_len a n) in
    let both = sum_plus (λ s. cond (x.stage == s) (g x) 0) (λ s. sum_by g (in_stage s xs)) (range_with_len a n) in
    let first = one_at x.stage (g x) a n (staged x here).0 (staged x here).1 in
    let rest = by_stages g a n xs (λ y p. staged y (there p)) in
    omega arith

-- each born element has a stage

staged_births : (l : Limits) (h : List Event) (e : Event) (x : Element) → Step l h e → In x (births e) → IsStage x.stage
staged_births l h (Enqueue c y) x step p =
    let low : 1 ≤ y.stage = step.stage.0 in let high : y.stage ≤ 14 = step.stage.1 in
    subst (λ (z : Element). IsStage z.stage) (sym (in_one p)) (omega arith, omega arith)
staged_births l h (Claim c u i n) x step p = absurd (in_none p)
staged_births l h (Commit c u outs) x step p = (outputs_place l h c u step.item.root (first_id outs) outs step.outputs x p).2.stage
staged_births l h (Abort c u) x step p = absurd (in_none p)
staged_births l h (Kill c i) x step p = absurd (in_none p)
staged_births l h (Requeue c i k) x step p = absurd (in_none p)

pub born_staged : (l : Limits) (h : List Event) → IsLegal l h → (x : Element) → In x (born h) → IsStage x.stage
born_staged l h legal = by_steps l (λ z. (x : Element) → In x (born z) → IsStage x.stage) (λ x p. absurd (in_none p)) more h legal
  where
    more : (h : List Event) (e : Event) → IsLegal l h → Step l h e → ((x : Element) → In x (born h) → IsStage x.stage) → (x : Element) → In x (born (h ++ e ∷ [])) → IsStage x.stage
    more h e legal step old x p = ⊎_elim (old x) (staged_births l h e x step) (in_either (born h) (births e) (subst (In x) (born-snoc h e) p))

pub stages_add_up : StagesAddUp
stages_add_up l h legal = alike (added (account_among l.attempts h (born h)).stages) (counts_among l.attempts h (born h))
    (at (λ c. c.waiting) is_waiting (λ xs. refl)) (at (λ c. c.held) is_held (λ xs. refl)) (at (λ c. c.consumed) is_consumed (λ xs. refl)) (at (λ c. c.parked) is_parked (λ xs. refl)) (at (λ c. c.killed) is_killed (λ xs. refl))
  where
    at : (kind : Counts → ℕ) (test : Status → Bool) → ((xs : List Element) → kind (counts_among l.attempts h xs) ≡ count_of l.attempts h xs test)
        → sum_by kind (account_among l.attempts h (born h)).stages ≡ count_of l.attempts h (born h) test
    at kind test is =
        sum_map kind (λ s. counts_among l.attempts h (in_stage s (born h))) all_stages
        ∙ (sum_same (λ s. kind (counts_among l.attempts h (in_stage s (born h)))) (λ s. count_of l.attempts h (in_stage s (born h)) test) (λ s. is (in_stage s (born h))) all_stages
        ∙ by_stages (λ e. cond (test (status_of l.attempts h e.id)) 1 0) 1 15 (born h) (λ x p. let low : 1 ≤ x.stage = (born_staged l h legal x p).0 in let high : x.stage ≤ 15 = (born_staged l h legal x p).1 in (low, omega arith)))

-- one more element is one more in its stage

module _ {Y : Type 0} where
  mapped_beyond : (f g : ℕ → Y) (k a n : ℕ) → k < a → ((s : ℕ) → s ≢ k → g s ≡ f s) → map g (range_with_len a n) ≡ map f (range_with_len a n)
  mapped_beyond f g k a zero less others = refl
  mapped_beyond f g k a (suc n) less others =
      ap (λ y. y ∷ map g (range_with_len (a + 1) n)) (others a (λ same. omega arith)) ∙ ap (λ ys. f a ∷ ys) (mapped_beyond f g k (a + 1) n (omega arith) others)

  mapped_at : (f g : ℕ → Y) (k a n i : ℕ) → a + i ≡ k → i < n → ((s : ℕ) → s ≢ k → g s ≡ f s) → map g (range_with_len a n) ≡ slice_set (map f (range_with_len a n)) i (g k)
  mapped_at f g k a zero i at less others = absurd (omega arith)
  mapped_at f g k a (suc n) zero at less others =
      let same : a ≡ k = omega arith in
      ap (λ ys. g a ∷ ys) (mapped_beyond f g k (a + 1) n (omega arith) others) ∙ ap (λ z. g z ∷ map f (range_with_len (a + 1) n)) same
  mapped_at f g k a (suc n) (suc i) at less others =
      ap (λ y. y ∷ map g (range_with_len (a + 1) n)) (others a (λ same. omega arith)) ∙ ap (λ ys. f a ∷ ys) (mapped_at f g k (a + 1) n i (omega arith) (omega arith) others)

  mapped_index : (f : ℕ → Y) (k a n i : ℕ) (d : Y) → a + i ≡ k → i < n → slice_index_or (map f (range_with_len a n)) i d ≡ f k
  mapped_index f k a zero i d at less = absurd (omega arith)
  mapped_index f k a (suc n) zero d at less = let same : a ≡ k = omega arith in ap f same
  mapped_index f k a (suc n) (suc i) d at less = mapped_index f k (a + 1) n i d (omega arith) (omega arith)

-- the counts of stage s stand at index s - 1
pub stage_counts : (limit : ℕ) (h : List Event) (xs : List Element) (s : ℕ) (d : Counts) → IsStage s → slice_index_or (account_among limit h xs).stages (s - 1) d ≡ counts_among limit h (in_stage s xs)
stage_counts limit h xs s d stage =
    let low : 1 ≤ s = stage.0 in let high : s ≤ 15 = stage.1 in
    mapped_index (λ z. counts_among limit h (in_stage z xs)) s 1 15 (s - 1) d (omega arith) (omega arith)

in_stage-last : (xs : List Element) (x : Element) (s : ℕ) → in_stage s (xs ++ x ∷ []) ≡ in_stage s xs ++ cond (x.stage == s) (x ∷ []) []
in_stage-last xs x s = filter-append (λ (e : Element). e.stage == s) xs (x ∷ [])

-- with one more element the total has one more, and so has its stage
pub account_last : (limit : ℕ) (h : List Event) (xs : List Element) (x : Element) (a : Account) (one : Counts) (d : Counts) → IsStage x.stage
    → a ≡ account_among limit h xs → one ≡ one_more (status_of limit h x.id) (slice_index_or a.stages (x.stage - 1) d)
    → record { total = one_more (status_of limit h x.id) a.total; stages = slice_set a.stages (x.stage - 1) one } ≡ account_among limit h (xs ++ x ∷ [])
account_last limit h xs x a one d stage is made =
    subst (λ (z : Account). one ≡ one_more st (slice_index_or z.stages (k - 1) d) → record { total = one_more st z.total; stages = slice_set z.stages (k - 1) one } ≡ account_among limit h (xs ++ x ∷ [])) (sym is) go made
  where
    k : ℕ
    k = x.stage

    st : Status
    st = status_of limit h x.id

    f : ℕ → Counts
    f s = counts_among limit h (in_stage s xs)

    g : ℕ → Counts
    g s = counts_among limit h (in_stage s (xs ++ x ∷ []))

    others : (s : ℕ) → s ≢ k → g s ≡ f s
    others s not = ap (counts_among limit h) (in_stage-last xs x s ∙ (ap (λ b. in_stage s xs ++ cond b (x ∷ []) []) (ne_eqb k s (λ same. not (sym same))) ∙ append_nil (in_stage s xs)))

    own : g k ≡ one_more st (f k)
    own = ap (counts_among limit h) (in_stage-last xs x k ∙ ap (λ b. in_stage k xs ++ cond b (x ∷ []) []) (eq-eqb k k refl)) ∙ counts_last limit h (in_stage k xs) x

    place : 1 + (k - 1) ≡ k
    place = let low : 1 ≤ k = stage.0 in omega arith

    inside : k - 1 < 15
    inside = let high : k ≤ 15 = stage.1 in omega arith

    go : one ≡ one_more st (slice_index_or (account_among limit h xs).stages (k - 1) d)
        → record { total = one_more st (counts_among limit h xs); stages = slice_set (account_among limit h xs).stages (k - 1) one } ≡ account_among limit h (xs ++ x ∷ [])
    go is_one =
        let at : one ≡ g k = is_one ∙ (ap (one_more st) (stage_counts limit h xs k d stage) ∙ sym own) in
        ap (λ c. record { total = c; stages = slice_set (account_among limit h xs).stages (k - 1) one }) (sym (counts_last limit h xs x))
        ∙ (ap (λ c. record { total = counts_among limit h (xs ++ x ∷ []); stages = slice_set (account_among limit h xs).stages (k - 1) c }) at
        ∙ ap (λ (cs : List Counts). record { total = counts_among limit h (xs ++ x ∷ []); stages = cs }) (sym (mapped_at f g k 1 15 (k - 1) place inside others)))
