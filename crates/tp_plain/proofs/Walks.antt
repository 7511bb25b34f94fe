-- The walk that is computed is one that goes on from the least each time, and has come to all that it could.
use Rattle.std.proofs.Common.{◌≡◌, ◌≢◌, ◌⊎◌, ℕ, zero, suc, ◌+◌, ◌<◌, ◌≤◌, ◌==◌, ◌||◌, not, cond, Bool, true, false, Option, Some, None, Err, List, [], ◌∷◌, ◌++◌, length, filter, refl, sym, ◌∙◌, ap, subst, inl, inr, ⊎_elim, arith, append_assoc, get_or, take}
use Rattle.std.specs.List.{find, fold, list_any, range_with_len}
use Rattle.std.specs.Option.{option_map_or}
use Rattle.std.proofs.lemmas.Bool.{and_from as and_from_both, and_parts, eqb-true, eq-eqb}
use Rattle.std.proofs.lemmas.Bool.Decides.{eqb_tells, leb_tells}
use Rattle.std.proofs.lemmas.List.FromFn.{length-range_with_len}
use Rattle.std.proofs.lemmas.List.Sums.{fold-append}
use Rattle.tp_model.specs.declared.types.Element.{Element}
use Rattle.tp_model.specs.declared.types.Refusal.{Refusal}
use Rattle.tp_model.specs.declared.types.Status.{Status}
use Rattle.tp_model.specs.declared.types.Status.TheVariants.{Waiting, Held, Consumed, Parked, Killed}
use Rattle.tp_model.specs.declared.event.Event.{Event}
use Rattle.tp_model.specs.Families.{IsRequest}
use Rattle.tp_model.specs.History.{In, here, there, IsBorn, element_of, end_of, status_of}
use Rattle.tp_model.specs.Orders.{IsNext, IsReached, IsWalk}
use Rattle.tp_model.specs.Steps.{IsLegal, rows_of}
use Rattle.tp_model.proofs.Bridges.{append_nil, element_of-id, in_here, in_left, in_none, in_right, is_born}
use Rattle.tp_model.proofs.Descents.{family_is_tree, output_of, whole_family}
use Rattle.tp_model.proofs.Later.{births_inside}
use Rattle.tp_model.proofs.Orders.{walk_more}
use Rattle.tp_plain.specs.Computed.{read_found, read_of}
use Rattle.tp_plain.specs.Looks.{is_consumed_by}
use Rattle.tp_plain.specs.OneThread.{State}
use Rattle.tp_plain.specs.Walks.{and_one_more, comes_from, consumed_one, is_ahead, is_reached, next_of_walk, walk_for, walk_of}

-- what isn't found by a read isn't born
pub read_none : (s : State) (i : ℕ) (why : Refusal) → Err why ≡ read_of s i → element_of s.history i ≡ None
read_none s i why is = go (element_of s.history i) is
  where
    go : (o : Option Element) → Err why ≡ read_found s o → o ≡ None
    go None e = refl
    go (Some x) e = absurd cc

pub range_snoc : (a n : ℕ) → range_with_len a (suc n) ≡ range_with_len a n ++ (a + n) ∷ []
range_snoc a zero = let e : a ≡ a + 0 = omega arith in ap (λ k. k ∷ []) e
range_snoc a (suc n) =
    let e : a + 1 + n ≡ a + suc n = omega arith in
    ap (λ xs. a ∷ xs) (range_snoc (a + 1) n ∙ ap (λ k. range_with_len (a + 1) n ++ k ∷ []) e)

module _ (s : State) (root : ℕ) where
  -- one element more
  pub walk_next : (n : ℕ) → walk_for s root (n + 1) ≡ and_one_more (walk_for s root n) (next_of_walk s root (walk_for s root n))
  walk_next n =
      let one : n + 1 ≡ suc n = omega arith in
      ap (walk_for s root) one
      ∙ (ap (fold_on) (range_snoc 0 n)
      ∙ fold-append (λ gone k. and_one_more gone (next_of_walk s root gone)) [] (range_with_len 0 n) ((0 + n) ∷ []))
    where
      fold_on : List ℕ → List ℕ
      fold_on ks = fold (λ gone k. and_one_more gone (next_of_walk s root gone)) [] ks

  -- once nothing is left it stays
  pub walk_stays : (n k : ℕ) → next_of_walk s root (walk_for s root n) ≡ None → walk_for s root (n + k) ≡ walk_for s root n
  walk_stays n zero none = let e : n + 0 ≡ n = omega arith in ap (walk_for s root) e
  walk_stays n (suc k) none =
      let e : n + suc k ≡ n + k + 1 = omega arith in
      let before = walk_stays n k none in
      ap (walk_for s root) e ∙ (walk_next (n + k) ∙ (ap (λ xs. and_one_more xs (next_of_walk s root xs)) before ∙ ap (and_one_more (walk_for s root n)) none))

-- the first number of a range that passes a test

found_some : (test : ℕ → Bool) (a n i : ℕ) → find test (range_with_len a n) ≡ Some i → (test i ≡ true) × (i < a + n) × ((j : ℕ) → a ≤ j → j < i → test j ≡ false)
found_some test a zero i is = absurd cc
found_some test a (suc n) i is = go (found_some test (a + 1) n i) (test a) refl is
  where
    go : (find test (range_with_len (a + 1) n) ≡ Some i → (test i ≡ true) × (i < a + 1 + n) × ((j : ℕ) → a + 1 ≤ j → j < i → test j ≡ false)) → (b : Bool) → test a ≡ b → cond b (Some a) (find test (range_with_len (a + 1) n)) ≡ Some i → (test i ≡ true) × (i < a + suc n) × ((j : ℕ) → a ≤ j → j < i → test j ≡ false)
    go later true at e = let same : a ≡ i = cc in (ap test (sym same) ∙ at, omega arith, λ j low high. absurd (omega arith))
    go later false at e =
        let t = later e in
        let top = t.1 in (
          t.0,
          omega arith,
          λ j low high. (elim (eqb_tells a j) [
            | inl p ↦ ap test (sym p.1) ∙ at
            | inr p ↦ (let apart : a ≢ j = p.1 in t.2 j (omega arith) high)
          ]),
        )

found_none : (test : ℕ → Bool) (a n : ℕ) → find test (range_with_len a n) ≡ None → (j : ℕ) → a ≤ j → j < a + n → test j ≡ false
found_none test a zero is j low high = absurd (omega arith)
found_none test a (suc n) is j low high = go (λ e lower. found_none test (a + 1) n e j lower (omega arith)) (test a) refl is
  where
    go : (find test (range_with_len (a + 1) n) ≡ None → a + 1 ≤ j → test j ≡ false) → (b : Bool) → test a ≡ b → cond b (Some a) (find test (range_with_len (a + 1) n)) ≡ None → test j ≡ false
    go later true at e = absurd cc
    go later false at e = elim (eqb_tells a j) [
      | inl p ↦ ap test (sym p.1) ∙ at
      | inr p ↦ (let apart : a ≢ j = p.1 in later e (omega arith))
    ]

-- what is in a list

any_in : {A : Type 0} (p : A → Bool) (xs : List A) → list_any p xs ≡ true → (x : A) × In x xs × (p x ≡ true)
any_in p [] is = absurd cc
any_in {A} p (x ∷ xs) is = go (any_in p xs) (p x) refl is
  where
    go : (list_any p xs ≡ true → (y : A) × In y xs × (p y ≡ true)) → (b : Bool) → p x ≡ b → (b || list_any p xs) ≡ true → (y : A) × In y (x ∷ xs) × (p y ≡ true)
    go later true at e = (x, here, at)
    go later false at e = let t = later e in (t.0, there t.1, t.2)

in_any : {A : Type 0} (p : A → Bool) (xs : List A) (x : A) → In x xs → p x ≡ true → list_any p xs ≡ true
in_any p [] x q is = absurd (in_none q)
in_any p (y ∷ xs) x here is = ap (λ b. b || list_any p xs) is
in_any p (y ∷ xs) x (there q) is = go (p y) (in_any p xs x q is)
  where
    go : (b : Bool) → list_any p xs ≡ true → (b || list_any p xs) ≡ true
    go true e = refl
    go false e = e

gone_in : (j : ℕ) (gone : List ℕ) → list_any (λ i. i == j) gone ≡ true → In j gone
gone_in j gone is = let t = any_in (λ i. i == j) gone is in subst (λ z. In z gone) (eqb-true t.0 j t.2) t.1

in_gone : (j : ℕ) (gone : List ℕ) → In j gone → list_any (λ i. i == j) gone ≡ true
in_gone j gone p = in_any (λ i. i == j) gone j p (eq-eqb j j refl)

-- how many of a list pass a test

fewer : (p q : ℕ → Bool) (xs : List ℕ) → ((j : ℕ) → q j ≡ true → p j ≡ true) → length (filter q xs) ≤ length (filter p xs)
fewer p q [] less = omega arith
fewer p q (x ∷ xs) less = go (p x) (q x) (less x) (fewer p q xs less)
  where
    go : (b c : Bool) → (c ≡ true → b ≡ true) → length (filter q xs) ≤ length (filter p xs) → length (cond c (x ∷ filter q xs) (filter q xs)) ≤ length (cond b (x ∷ filter p xs) (filter p xs))
    go true true w le = omega arith
    go true false w le = omega arith
    go false true w le = absurd (let e = w refl in cc)
    go false false w le = le

one_fewer : (p q : ℕ → Bool) (xs : List ℕ) (i : ℕ) → ((j : ℕ) → q j ≡ true → p j ≡ true) → In i xs → p i ≡ true → q i ≡ false → length (filter q xs) + 1 ≤ length (filter p xs)
one_fewer p q [] i less at is not = absurd (in_none at)
one_fewer p q (x ∷ xs) i less here is not =
    let rest = fewer p q xs less in
    subst (λ b. length (cond b (x ∷ filter q xs) (filter q xs)) + 1 ≤ length (filter p (x ∷ xs))) (sym not)
    (subst (λ b. length (filter q xs) + 1 ≤ length (cond b (x ∷ filter p xs) (filter p xs))) (sym is) (omega arith))
one_fewer p q (x ∷ xs) i less (there at) is not = go (p x) (q x) (less x) (one_fewer p q xs i less at is not)
  where
    go : (b c : Bool) → (c ≡ true → b ≡ true) → length (filter q xs) + 1 ≤ length (filter p xs) → length (cond c (x ∷ filter q xs) (filter q xs)) + 1 ≤ length (cond b (x ∷ filter p xs) (filter p xs))
    go true true w le = omega arith
    go true false w le = omega arith
    go false true w le = absurd (let e = w refl in cc)
    go false false w le = le

length_all : (xs : List ℕ) → length (filter (λ j. true) xs) ≡ length xs
length_all [] = refl
length_all (x ∷ xs) = ap suc (length_all xs)

range_has : (a n i : ℕ) → a ≤ i → i < a + n → In i (range_with_len a n)
range_has a zero i low high = absurd (omega arith)
range_has a (suc n) i low high = elim (eqb_tells a i) [
  | inl p ↦ in_here (range_with_len (a + 1) n) (sym p.1)
  | inr p ↦ (let apart : a ≢ i = p.1 in there (range_has (a + 1) n i (omega arith) (omega arith)))
]

consumed_is : (u : ℕ) (st : Status) → is_consumed_by u st ≡ true → st ≡ Consumed u
consumed_is u (Waiting n) is = absurd cc
consumed_is u (Held v n) is = absurd cc
consumed_is u (Consumed v) is = ap Consumed (sym (eqb-true u v is))
consumed_is u (Parked n) is = absurd cc
consumed_is u Killed is = absurd cc

module _ (s : State) (root : ℕ) (legal : IsLegal s.limits s.history) where
  abbrev limit : ℕ
  limit = s.limits.attempts

  abbrev h : List Event
  h = s.history

  -- the test says what has been reached

  led : (gone : List ℕ) (j u : ℕ) (x : Element) → element_of h j ≡ Some x → x.by ≡ Some u → consumed_one s gone u ≡ true → IsReached limit h root gone j
  led gone j u x born by is =
      let t = any_in (λ i. is_consumed_by u (status_of limit h i)) gone is in
      let id : x.id ≡ j = element_of-id h j x born in
      ⊎_elim
      (λ own. absurd (let clash : Some u ≡ None = sym by ∙ own.1 in cc))
      (λ f. let unit : f.unit ≡ u = (let b = f.by in cc) in let low = f.low in let high = f.high in
      inr (
        t.0,
        t.1,
        record {
          unit = u;
          consumed = consumed_is u (status_of limit h t.0) t.2;
          first = f.first;
          count = f.count;
          ended = ap (end_of h) (sym unit) ∙ f.ended;
          low = omega arith;
          high = omega arith;
        },
      ))
      (family_is_tree s.limits h x legal (is_born h j x born))

  reached_is : (gone : List ℕ) (j : ℕ) → is_reached s root gone j ≡ true → IsReached limit h root gone j
  reached_is gone j is = go (j == root) refl is
    where
      by : (x : Element) → element_of h j ≡ Some x → (o : Option ℕ) → x.by ≡ o → option_map_or (consumed_one s gone) o false ≡ true → IsReached limit h root gone j
      by x born None own e = absurd cc
      by x born (Some u) own e = led gone j u x born own e

      found : (o : Option Element) → element_of h j ≡ o → comes_from s gone o ≡ true → IsReached limit h root gone j
      found None born e = absurd cc
      found (Some x) born e = by x born x.by refl e

      go : (b : Bool) → (j == root) ≡ b → (b || comes_from s gone (element_of h j)) ≡ true → IsReached limit h root gone j
      go true at e = inl (eqb-true j root at)
      go false at e = found (element_of h j) refl e

  is_so : (gone : List ℕ) (j : ℕ) → IsReached limit h root gone j → is_reached s root gone j ≡ true
  is_so gone j (inl same) = ap (λ b. b || comes_from s gone (element_of h j)) (eq-eqb j root same)
  is_so gone j (inr t) =
      let f = t.2 in
      let o = output_of s.limits h legal f.unit f.first f.count j f.ended f.low f.high in
      let from : comes_from s gone (element_of h j) ≡ true =
      ap (comes_from s gone) o.found
      ∙ (ap (λ z. option_map_or (consumed_one s gone) z false) o.by
      ∙ in_any (λ i. is_consumed_by f.unit (status_of limit h i)) gone t.0 t.1 (ap (is_consumed_by f.unit) f.consumed ∙ eq-eqb f.unit f.unit refl)) in
      go (j == root) from
    where
      go : (b : Bool) → comes_from s gone (element_of h j) ≡ true → (b || comes_from s gone (element_of h j)) ≡ true
      go true e = refl
      go false e = e

  ahead_is : (gone : List ℕ) (j : ℕ) → is_ahead s root gone j ≡ true → IsReached limit h root gone j × ¬ In j gone
  ahead_is gone j is =
      let t = and_parts (is_reached s root gone j) (not (list_any (λ i. i == j) gone)) is in
      (reached_is gone j t.0, λ p. (let e : not true ≡ true = sym (ap not (in_gone j gone p)) ∙ t.1 in cc))

  is_ahead_so : (gone : List ℕ) (j : ℕ) → IsReached limit h root gone j → ¬ In j gone → is_ahead s root gone j ≡ true
  is_ahead_so gone j r fresh =
      and_from_both (is_reached s root gone j) (not (list_any (λ i. i == j) gone)) (is_so gone j r) (go (list_any (λ i. i == j) gone) (λ e. fresh (gone_in j gone e)))
    where
      go : (b : Bool) → (b ≡ true → ⊥) → not b ≡ true
      go true none = absurd (none refl)
      go false none = refl

  -- so it is the next one, or none is left

  pub next_is : (gone : List ℕ) (i : ℕ) → next_of_walk s root gone ≡ Some i → IsNext limit h root gone i × (i < rows_of s.limits)
  next_is gone i is =
      let t = found_some (is_ahead s root gone) 0 (rows_of s.limits) i is in
      let a = ahead_is gone i t.0 in
      let top = t.1 in (
        record {
          reached = a.0;
          fresh = a.1;
          least = λ j r fresh. (elim (leb_tells i j) [
            | inl p ↦ p.1
            | inr p ↦ absurd (let clash : true ≡ false = sym (is_ahead_so gone j r fresh) ∙ t.2 j (omega arith) (omega arith) in cc)
          ]);
        },
        omega arith,
      )

  none_left : (gone : List ℕ) (j : ℕ) → next_of_walk s root gone ≡ None → IsReached limit h root gone j → j < rows_of s.limits → In j gone
  none_left gone j none r less = go (list_any (λ i. i == j) gone) refl
    where
      go : (b : Bool) → list_any (λ i. i == j) gone ≡ b → In j gone
      go true is = gone_in j gone is
      go false is = absurd (let clash : true ≡ false = sym (is_ahead_so gone j r (λ p. (let e : true ≡ false = sym (in_gone j gone p) ∙ is in cc))) ∙ found_none (is_ahead s root gone) 0 (rows_of s.limits) none j (omega arith) (omega arith) in cc)

  on_walk : (n : ℕ) → IsWalk limit h root [] (walk_for s root n) → IsWalk limit h root [] (walk_for s root (n + 1))
  on_walk n w = subst (IsWalk limit h root []) (sym (walk_next s root n)) (go (next_of_walk s root (walk_for s root n)) refl)
    where
      go : (o : Option ℕ) → next_of_walk s root (walk_for s root n) ≡ o → IsWalk limit h root [] (and_one_more (walk_for s root n) o)
      go None is = w
      go (Some i) is = walk_more s.limits root h [] (walk_for s root n) i w (next_is (walk_for s root n) i is).0

  walks : (n : ℕ) → IsWalk limit h root [] (walk_for s root n)
  walks zero = tt
  walks (suc n) = let e : n + 1 ≡ suc n = omega arith in subst (λ k. IsWalk limit h root [] (walk_for s root k)) e (on_walk n (walks n))

  pub walk_is : IsWalk limit h root [] (walk_of s root)
  walk_is = walks (rows_of s.limits)

  -- and it ends where none is left

  abbrev ungone : List ℕ → ℕ → Bool
  ungone gone j = not (list_any (λ i. i == j) gone)

  abbrev others : List ℕ → ℕ
  others gone = length (filter (ungone gone) (range_with_len 0 (rows_of s.limits)))

  others_fewer : (gone : List ℕ) (i : ℕ) → i < rows_of s.limits → ¬ In i gone → others (gone ++ i ∷ []) + 1 ≤ others gone
  others_fewer gone i less fresh =
      one_fewer (ungone gone) (ungone (gone ++ i ∷ [])) (range_with_len 0 (rows_of s.limits)) i
      (λ j is. back j (list_any (λ k. k == j) gone) refl is)
      (range_has 0 (rows_of s.limits) i (omega arith) (omega arith))
      (kept (list_any (λ k. k == i) gone) (λ e. fresh (gone_in i gone e)))
      (ap not (in_gone i (gone ++ i ∷ []) (in_right gone here)))
    where
      kept : (b : Bool) → (b ≡ true → ⊥) → not b ≡ true
      kept true none = absurd (none refl)
      kept false none = refl

      back : (j : ℕ) (b : Bool) → list_any (λ k. k == j) gone ≡ b → ungone (gone ++ i ∷ []) j ≡ true → not b ≡ true
      back j true is e = absurd (let clash : not true ≡ true = sym (ap not (in_gone j (gone ++ i ∷ []) (in_left (i ∷ []) (gone_in j gone is)))) ∙ e in cc)
      back j false is e = refl

  abbrev Nears : ℕ → Type 0
  Nears n = (next_of_walk s root (walk_for s root n) ≡ None) ⊎ (others (walk_for s root n) + n ≤ rows_of s.limits)

  over : (n : ℕ) → next_of_walk s root (walk_for s root n) ≡ None → next_of_walk s root (walk_for s root (n + 1)) ≡ None
  over n none = ap (next_of_walk s root) (walk_stays s root n 1 none) ∙ none

  nearer : (n : ℕ) → Nears n → Nears (n + 1)
  nearer n (inl none) = inl (over n none)
  nearer n (inr few) = go (next_of_walk s root (walk_for s root n)) refl
    where
      go : (o : Option ℕ) → next_of_walk s root (walk_for s root n) ≡ o → Nears (n + 1)
      go None is = inl (over n is)
      go (Some i) is =
          let t = next_is (walk_for s root n) i is in
          let one = others_fewer (walk_for s root n) i t.1 t.0.fresh in
          inr (subst (λ xs. others xs + (n + 1) ≤ rows_of s.limits) (sym (walk_next s root n ∙ ap (and_one_more (walk_for s root n)) is)) (omega arith))

  nears : (n : ℕ) → Nears n
  nears zero =
      let all = fewer (λ j. true) (ungone []) (range_with_len 0 (rows_of s.limits)) (λ j is. refl) in
      let long = length_all (range_with_len 0 (rows_of s.limits)) in
      let rows = length-range_with_len 0 (rows_of s.limits) in
      inr (omega arith)
  nears (suc n) = let e : n + 1 ≡ suc n = omega arith in subst Nears e (nearer n (nears n))

  ended : next_of_walk s root (walk_of s root) ≡ None
  ended = ⊎_elim (λ none. none) (λ few. go few (next_of_walk s root (walk_of s root)) refl) (nears (rows_of s.limits))
    where
      go : others (walk_of s root) + rows_of s.limits ≤ rows_of s.limits → (o : Option ℕ) → next_of_walk s root (walk_of s root) ≡ o → o ≡ None
      go few None is = refl
      go few (Some i) is =
          let t = next_is (walk_of s root) i is in
          let one = others_fewer (walk_of s root) i t.1 t.0.fresh in
          absurd (omega arith)

  module _ (request : IsRequest h root) where
    inside : (j : ℕ) (x : Element) → element_of h j ≡ Some x → j < rows_of s.limits
    inside j x born = subst (λ k. k < rows_of s.limits) (element_of-id h j x born) (births_inside s.limits h legal x (is_born h j x born))

    -- each element that it came to is one from which it went on
    pub walk_whole : (j : ℕ) → IsReached limit h root (walk_of s root) j → In j (walk_of s root)
    walk_whole j r = none_left (walk_of s root) j ended r (within r)
      where
        within : IsReached limit h root (walk_of s root) j → j < rows_of s.limits
        within (inl same) = subst (λ k. k < rows_of s.limits) (sym same) (inside root request.0 request.1)
        within (inr t) = let f = t.2 in let o = output_of s.limits h legal f.unit f.first f.count j f.ended f.low f.high in inside j o.item o.found

    -- so it went through the whole family
    pub walk_has : (x : Element) → IsBorn h x → x.root ≡ root → In x.id (walk_of s root)
    walk_has x is same =
        whole_family s.limits h root (λ i. In i (walk_of s root)) legal
        (record {
          root_too = walk_whole root (inl refl);
          outputs_too = λ i u first count j p status ends low high. walk_whole j (inr (i, p, record { unit = u; consumed = status; first = first; count = count; ended = ends; low = low; high = high }));
        })
        x is same

-- no element of a walk is one from which it went on before
pub walk_fresh : (limit : ℕ) (h : List Event) (root : ℕ) (gone ids : List ℕ) → IsWalk limit h root gone ids → (n : ℕ) → n < length ids → ¬ In (get_or ids n 0) (gone ++ take n ids)
walk_fresh limit h root gone [] w n less = absurd (omega arith)
walk_fresh limit h root gone (i ∷ ids) w zero less = λ p. w.0.fresh (subst (In i) (append_nil gone) p)
walk_fresh limit h root gone (i ∷ ids) w (suc n) less =
    let later = walk_fresh limit h root (gone ++ i ∷ []) ids w.1 n (omega arith) in
    λ p. later (subst (In (get_or ids n 0)) (sym (append_assoc gone (i ∷ []) (take n ids))) p)
