-- What is picked of all elements, and the first id that passes a test, one behind the other.
use Rattle.std.proofs.Common.{◌≡◌, ℕ, zero, suc, ◌+◌, ◌-◌, ◌<◌, ◌≤◌, Bool, true, false, cond, List, [], ◌∷◌, ◌++◌, Option, Some, None, refl, sym, ◌∙◌, ap, subst, append_assoc, inl, inr, arith}
use Rattle.std.specs.Prelude.{is_some}
use Rattle.std.proofs.lemmas.Bool.{cases_lt}
use Rattle.std.specs.List.{find, range_with_len}
use Rattle.tp_model.specs.declared.types.Look.{Look}
use Rattle.tp_model.specs.Steps.{rows_of}
use Rattle.tp_plain.specs.Computed.{read_of}
use Rattle.tp_plain.specs.OneThread.{State}
use Rattle.tp_reference.specs.PlainClient.{picked, picked_below, picked_of, with_last}
use Rattle.tp_reference.proofs.ListingLemmas.{picked_more, picked_none}

-- a list behind one more, if there is one
abbrev pub with_first : {A : Type 0} → Option A → List A → List A
with_first None xs = xs
with_first (Some x) xs = x ∷ xs

last_first : {A : Type 0} (xs : List A) (o : Option A) (ys : List A) → with_last xs o ++ ys ≡ xs ++ with_first o ys
last_first xs None ys = refl
last_first xs (Some x) ys = append_assoc xs (x ∷ []) ys

append_nil : {A : Type 0} (xs : List A) → xs ++ [] ≡ xs
append_nil [] = refl
append_nil (x ∷ xs) = ap (λ ys. x ∷ ys) (append_nil xs)

module _ {A : Type 0} (pick : Look → Option A) (m : State) where
  abbrev pub at : ℕ → Option A
  at i = picked pick (read_of m i)

  -- what is picked of n ids from a on
  abbrev pub picks : ℕ → ℕ → List A
  picks a zero = []
  picks a (suc n) = with_first (at a) (picks (a + 1) n)

  picks_behind : (a n : ℕ) → picked_below pick m (a + n) ≡ picked_below pick m a ++ picks a n
  picks_behind a zero =
      let none : a + zero ≡ a = omega arith in
      ap (picked_below pick m) none ∙ sym (append_nil (picked_below pick m a))
  picks_behind a (suc n) =
      let moved : a + suc n ≡ (a + 1) + n = omega arith in
      ap (picked_below pick m) moved ∙ (picks_behind (a + 1) n ∙ (ap (λ xs. xs ++ picks (a + 1) n) (picked_more pick m a) ∙ last_first (picked_below pick m a) (at a) (picks (a + 1) n)))

  pub picks_all : picked_of pick m ≡ picks 0 (rows_of m.limits)
  picks_all =
      let all : rows_of m.limits ≡ 0 + rows_of m.limits = omega arith in
      ap (picked_below pick m) all ∙ (picks_behind 0 (rows_of m.limits) ∙ ap (λ xs. xs ++ picks 0 (rows_of m.limits)) (picked_none pick m))

  module _ (test : ℕ → Bool) (same : (i : ℕ) → test i ≡ is_some (at i)) where
    found_now : (a n : ℕ) (b : Bool) → is_some (at a) ≡ b → find test (range_with_len a (suc n)) ≡ cond b (Some a) (find test (range_with_len (a + 1) n))
    found_now a n b is = ap (λ b. cond b (Some a) (find test (range_with_len (a + 1) n))) (same a ∙ is)

    none_step : (a n : ℕ) (o : Option A) → at a ≡ o → (find test (range_with_len (a + 1) n) ≡ None → picks (a + 1) n ≡ []) → find test (range_with_len a (suc n)) ≡ None → picks a (suc n) ≡ []
    none_step a n None is later f = ap (λ z. with_first z (picks (a + 1) n)) is ∙ later (sym (found_now a n false (ap is_some is)) ∙ f)
    none_step a n (Some x) is later f = let clash : Some a ≡ None = sym (found_now a n true (ap is_some is)) ∙ f in absurd cc

    pub picks_none : (a n : ℕ) → find test (range_with_len a n) ≡ None → picks a n ≡ []
    picks_none a zero f = refl
    picks_none a (suc n) f = none_step a n (at a) refl (picks_none (a + 1) n) f

    -- the first one that is picked, and what is picked behind it
    abbrev First : ℕ → ℕ → ℕ → Type 0
    First a n id = (a ≤ id) × (id < a + n) × (is_some (at id) ≡ true) × (picks a n ≡ with_first (at id) (picks (id + 1) (a + n - (id + 1))))

    some_step : (a n id : ℕ) (o : Option A) → at a ≡ o → (find test (range_with_len (a + 1) n) ≡ Some id → First (a + 1) n id) → find test (range_with_len a (suc n)) ≡ Some id → First a (suc n) id
    some_step a n id None is later f =
        let t = later (sym (found_now a n false (ap is_some is)) ∙ f) in
        let low = t.0 in let high = t.1 in
        let long : (a + 1) + n - (id + 1) ≡ a + suc n - (id + 1) = omega arith in
        (omega arith, omega arith, t.2, ap (λ z. with_first z (picks (a + 1) n)) is ∙ (t.3 ∙ ap (λ k. with_first (at id) (picks (id + 1) k)) long))
    some_step a n id (Some x) is later f =
        let found : Some a ≡ Some id = sym (found_now a n true (ap is_some is)) ∙ f in
        let here : a ≡ id = cc in
        let long : n ≡ a + suc n - (a + 1) = omega arith in
        let first : First a (suc n) a = (omega arith, omega arith, ap is_some is, ap (λ k. with_first (at a) (picks (a + 1) k)) long) in
        subst (First a (suc n)) here first

    pub picks_some : (a n id : ℕ) → find test (range_with_len a n) ≡ Some id → First a n id
    picks_some a zero id f = absurd cc
    picks_some a (suc n) id f = some_step a n id (at a) refl (picks_some (a + 1) n id) f

    -- nothing is picked before the first one
    before_step : (a n id : ℕ) (o : Option A) → at a ≡ o → (find test (range_with_len (a + 1) n) ≡ Some id → (j : ℕ) → a + 1 ≤ j → j < id → at j ≡ None) → find test (range_with_len a (suc n)) ≡ Some id
        → (j : ℕ) → a ≤ j → j < id → at j ≡ None
    before_step a n id None is later f j low less = elim (cases_lt a j) [
      | inl more ↦ later (sym (found_now a n false (ap is_some is)) ∙ f) j (omega (arith, more)) less
      | inr same ↦ let here : j ≡ a = omega (arith, same, low) in ap at here ∙ is
    ]
    before_step a n id (Some x) is later f j low less =
        let found : Some a ≡ Some id = sym (found_now a n true (ap is_some is)) ∙ f in
        let here : a ≡ id = cc in
        absurd (omega (arith, here, low, less))

    pub none_before : (a n id : ℕ) → find test (range_with_len a n) ≡ Some id → (j : ℕ) → a ≤ j → j < id → at j ≡ None
    none_before a zero id f = absurd cc
    none_before a (suc n) id f = before_step a n id (at a) refl (none_before (a + 1) n id) f

  -- where nothing is picked, it is passed over
  pub passed : (k a n : ℕ) → ((j : ℕ) → a ≤ j → j < a + k → at j ≡ None) → picks a (k + n) ≡ picks (a + k) n
  passed zero a n none =
      let all : zero + n ≡ n = omega arith in
      let still : a ≡ a + zero = omega arith in
      ap (picks a) all ∙ ap (λ b. picks b n) still
  passed (suc k) a n none =
      let all : suc k + n ≡ suc (k + n) = omega arith in
      let moved : (a + 1) + k ≡ a + suc k = omega arith in
      ap (picks a) all ∙ (ap (λ z. with_first z (picks (a + 1) (k + n))) (none a (omega arith) (omega arith))
      ∙ (passed k (a + 1) n (λ j low less. none j (omega (arith, low)) (omega (arith, less))) ∙ ap (λ b. picks b n) moved))

  -- the same of the ids below a bound
  module _ (test : ℕ → Bool) (same : (i : ℕ) → test i ≡ is_some (at i)) (rows : ℕ) where
    pub none_from : (a : ℕ) → find test (range_with_len a (rows - a)) ≡ None → picks a (rows - a) ≡ []
    none_from a f = picks_none test same a (rows - a) f

    pub some_from : (a id : ℕ) (x : A) → find test (range_with_len a (rows - a)) ≡ Some id → at id ≡ Some x → picks a (rows - a) ≡ x ∷ picks (id + 1) (rows - (id + 1))
    some_from a id x f is =
        let t = picks_some test same a (rows - a) id f in
        let low = t.0 in let high = t.1 in
        let long : a + (rows - a) - (id + 1) ≡ rows - (id + 1) = omega arith in
        t.3 ∙ (ap (λ k. with_first (at id) (picks (id + 1) k)) long ∙ ap (λ z. with_first z (picks (id + 1) (rows - (id + 1)))) is)

    pub is_picked : (a id : ℕ) → find test (range_with_len a (rows - a)) ≡ Some id → is_some (at id) ≡ true
    is_picked a id f = (picks_some test same a (rows - a) id f).2

  pub past_all : (rows a : ℕ) → rows ≤ a → picks a (rows - a) ≡ []
  past_all rows a past = let none : rows - a ≡ 0 = omega arith in ap (picks a) none

-- what is picked is the same where each id's is
pub picks_alike : {A : Type 0} (pick : Look → Option A) (m m' : State) (n a : ℕ) → ((j : ℕ) → a ≤ j → at pick m' j ≡ at pick m j) → picks pick m' a n ≡ picks pick m a n
picks_alike pick m m' zero a same = refl
picks_alike pick m m' (suc n) a same =
    ap (λ z. with_first z (picks pick m' (a + 1) n)) (same a (omega arith)) ∙ ap (λ xs. with_first (at pick m a) xs) (picks_alike pick m m' n (a + 1) (λ j low. same j (omega (arith, low))))
