-- The accounts of both managers, counted by rows.
use Rattle.std.proofs.Common.{◌≡◌, ◌≢◌, ◌⊎◌, ℕ, zero, suc, ◌+◌, ◌<◌, ◌≤◌, ◌==◌, cond, Bool, true, false, Option, Some, None, List, [], ◌∷◌, ◌++◌, length, refl, sym, ◌∙◌, ap, subst, inl, inr, ⊎_elim, append_assoc, nat_lt, arith}
use Rattle.std.proofs.lemmas.Bool.Decides.{eqb_tells}
use Rattle.std.proofs.lemmas.List.Sums.{sum_by-cons}
use Rattle.std.specs.List.{cons_option, count_by, filter_map, range_with_len, sum_by}
use Rattle.tp_model.specs.declared.types.Element.{Element}
use Rattle.tp_model.specs.declared.types.Limits.{Limits}
use Rattle.tp_model.specs.declared.types.Status.{Status}
use Rattle.tp_model.specs.declared.types.Status.TheVariants.{Waiting, Held, Consumed, Parked, Killed}
use Rattle.tp_model.specs.declared.event.Event.{Event}
use Rattle.tp_model.specs.Counts.{count_of, counts, is_consumed, is_held, is_killed, is_parked, is_waiting}
use Rattle.tp_model.specs.History.{In, here, there, IsBorn, IsSettled, aborted, born, element_of, status_after, status_of}
use Rattle.tp_model.specs.Steps.{IsKillable, IsLegal, rows_of}
use Rattle.tp_model.proofs.Bridges.{append_nil, element_of-id, is_born}
use Rattle.tp_model.proofs.Histories.{born-append, legal_start, settled_stays, status_of-snoc}
use Rattle.tp_model.proofs.Later.{births_inside}
use Rattle.tp_model.proofs.RowTallies.{rows_sum}
use Rattle.tp_model.proofs.Tallies.{all_counted}
use Rattle.tp_rollover.specs.Laws.{AccountsAddUp, RolloverAddsUp}
use Rattle.tp_rollover.specs.Checks.{AscendFrom, IsNamed}
use Rattle.tp_rollover.specs.Rolls.{IsSame, RollsOver}
use Rattle.tp_rollover.specs.Survivors.{IsLiving}
use Rattle.tp_rollover.specs.declared.moved.Moved.{Moved}
use Rattle.tp_rollover.proofs.Carrying.{carried_lives}
use Rattle.tp_rollover.proofs.PairLaws.{AreEnds, IsEnd, done, done_ends, ends_bear, grown, legal_done, old_is_over}

-- what a function is over an element that may be there
abbrev pub over : (Element → ℕ) → Option Element → ℕ
over f None = 0
over f (Some x) = f x

sum_option : (f : Element → ℕ) (o : Option Element) (xs : List Element) → sum_by f (cons_option o xs) ≡ over f o + sum_by f xs
sum_option f None xs = omega arith
sum_option f (Some x) xs = sum_by-cons f x xs

pub by_rows : (f : Element → ℕ) (h : List Event) (a n : ℕ) → sum_by f (filter_map (element_of h) (range_with_len a n)) ≡ sum_by (λ i. over f (element_of h i)) (range_with_len a n)
by_rows f h a zero = refl
by_rows f h a (suc n) =
    let one = sum_option f (element_of h a) (filter_map (element_of h) (range_with_len (a + 1) n)) in
    let rest = by_rows f h (a + 1) n in
    let all = sum_by-cons (λ (i : ℕ). over f (element_of h i)) a (range_with_len (a + 1) n) in
    omega arith

sum_same : (f g : Moved → ℕ) (ms : List Moved) → ((m : Moved) → In m ms → f m ≡ g m) → sum_by f ms ≡ sum_by g ms
sum_same f g [] same = refl
sum_same f g (m ∷ ms) same =
    let one = same m here in
    let rest = sum_same f g ms (λ q p. same q (there p)) in
    let a = sum_by-cons f m ms in
    let b = sum_by-cons g m ms in
    omega arith

-- What is summed over rows is summed over those that name them, in ascending order, where the other rows give
-- nothing.
module _ (id : Moved → ℕ) (F : ℕ → ℕ) (G : Moved → ℕ) where
  above : (low : ℕ) (ms : List Moved) (q : Moved) → AscendFrom id low ms → In q ms → low ≤ id q
  above low [] q a p = elim p [ ]
  above low (m ∷ ms) q a here = a.0
  above low (m ∷ ms) q a (there p) = let r = above (id m + 1) ms q a.1 p in let s = a.0 in omega arith

  later : (m : Moved) (ms : List Moved) (i : ℕ) → id m ≢ i → IsNamed id i (m ∷ ms) → IsNamed id i ms
  later m ms i not named = go named.0 named.1 named.2
    where
      go : (q : Moved) → In q (m ∷ ms) → id q ≡ i → IsNamed id i ms
      go q here e = absurd (not e)
      go q (there p) e = (q, p, e)

  none : (i : ℕ) → IsNamed id i [] → ⊥
  none i named = elim named.1 [ ]

  named_sum : (a n : ℕ) (ms : List Moved) → AscendFrom id a ms → ((m : Moved) → In m ms → id m < a + n) → ((m : Moved) → In m ms → F (id m) ≡ G m)
      → ((i : ℕ) → a ≤ i → i < a + n → (F i ≡ 0) ⊎ IsNamed id i ms) → sum_by F (range_with_len a n) ≡ sum_by G ms
  named_sum a zero [] ascend inside same rest = refl
  named_sum a zero (m ∷ ms) ascend inside same rest = let low = ascend.0 in let high = inside m here in absurd (omega arith)
  named_sum a (suc n) [] ascend inside same rest =
      let first : F a ≡ 0 = ⊎_elim (λ e. e) (λ named. absurd (none a named)) (rest a (omega arith) (omega arith)) in
      let all = sum_by-cons F a (range_with_len (a + 1) n) in
      let others = named_sum (a + 1) n [] tt (λ m p. elim p [ ]) (λ m p. elim p [ ]) (λ i low high. rest i (omega arith) (omega arith)) in
      omega arith
  named_sum a (suc n) (m ∷ ms) ascend inside same rest =
      let all = sum_by-cons F a (range_with_len (a + 1) n) in
      elim (eqb_tells (id m) a) [
        | inl p ↦
            let is : id m ≡ a = p.1 in
            let first : F a ≡ G m = ap F (sym p.1) ∙ same m here in
            let sums = sum_by-cons G m ms in
            let others = named_sum (a + 1) n ms (subst (λ z. AscendFrom id (z + 1) ms) p.1 ascend.1) (λ q r. let less = inside q (there r) in omega arith) (λ q r. same q (there r))
            (λ i low high. ⊎_elim (λ e. inl e) (λ named. inr (later m ms i (λ e. let s : a ≡ i = sym p.1 ∙ e in omega arith) named)) (rest i (omega arith) (omega arith))) in
            omega arith
        | inr p ↦
            let other : id m ≢ a = p.1 in
            let low = ascend.0 in
            let higher : AscendFrom id (a + 1) (m ∷ ms) = (omega arith, ascend.1) in
            let first : F a ≡ 0 = ⊎_elim (λ e. e) (λ named. absurd (let r = above (a + 1) (m ∷ ms) named.0 higher named.1 in let s = named.2 in omega arith)) (rest a (omega arith) (omega arith)) in
            let others = named_sum (a + 1) n (m ∷ ms) higher (λ q r. let less = inside q r in omega arith) same (λ i low' high. rest i (omega arith) (omega arith)) in
            omega arith
      ]

-- so the elements that have such a status are counted over those that name them
module _ (l : Limits) (h : List Event) (legal : IsLegal l h) (id : Moved → ℕ) (ms : List Moved) (ascend : AscendFrom id 0 ms)
    (is_there : (m : Moved) → In m ms → (x : Element) × (element_of h (id m) ≡ Some x)) (test : Status → Bool)
    (named : (x : Element) → IsBorn h x → test (status_of l.attempts h x.id) ≡ true → IsNamed id x.id ms) where
  abbrev one : Element → ℕ
  one x = cond (test (status_of l.attempts h x.id)) 1 0

  abbrev at_row : ℕ → ℕ
  at_row i = over one (element_of h i)

  abbrev at_named : Moved → ℕ
  at_named m = cond (test (status_of l.attempts h (id m))) 1 0

  row_is : (m : Moved) → In m ms → at_row (id m) ≡ at_named m
  row_is m p = let b = is_there m p in ap (over one) b.1 ∙ ap (λ i. cond (test (status_of l.attempts h i)) 1 0) (element_of-id h (id m) b.0 b.1)

  inside : (m : Moved) → In m ms → id m < 0 + rows_of l
  inside m p = let b = is_there m p in
      let less = births_inside l h legal b.0 (is_born h (id m) b.0 b.1) in
      let is = element_of-id h (id m) b.0 b.1 in omega arith

  others : (i : ℕ) → (at_row i ≡ 0) ⊎ IsNamed id i ms
  others i = go (element_of h i) refl
    where
      go : (o : Option Element) → element_of h i ≡ o → (at_row i ≡ 0) ⊎ IsNamed id i ms
      go None e = inl (ap (over one) e)
      go (Some x) e = at (test (status_of l.attempts h x.id)) refl
        where
          at : (b : Bool) → test (status_of l.attempts h x.id) ≡ b → (at_row i ≡ 0) ⊎ IsNamed id i ms
          at false is = inl (ap (over one) e ∙ ap (λ c. cond c 1 0) is)
          at true is = inr (subst (λ j. IsNamed id j ms) (element_of-id h i x e) (named x (is_born h i x e) is))

  pub counted : count_of l.attempts h (born h) test ≡ count_by (λ m. test (status_of l.attempts h (id m))) ms
  counted = sym (rows_sum l h legal one) ∙ (by_rows one h 0 (rows_of l) ∙ named_sum id at_row at_named 0 (rows_of l) ms ascend inside row_is (λ i low high. others i))

-- statuses

abbrev pub one_if : Bool → ℕ
one_if b = cond b 1 0

waiting_alive : (s : Status) → is_waiting s ≡ true → IsLiving s
waiting_alive (Waiting n) e = tt
waiting_alive (Held u n) e = absurd cc
waiting_alive (Consumed u) e = absurd cc
waiting_alive (Parked n) e = absurd cc
waiting_alive Killed e = absurd cc

parked_alive : (s : Status) → is_parked s ≡ true → IsLiving s
parked_alive (Waiting n) e = absurd cc
parked_alive (Held u n) e = absurd cc
parked_alive (Consumed u) e = absurd cc
parked_alive (Parked n) e = tt
parked_alive Killed e = absurd cc

held_alive : (s : Status) → is_held s ≡ true → IsLiving s
held_alive (Waiting n) e = absurd cc
held_alive (Held u n) e = tt
held_alive (Consumed u) e = absurd cc
held_alive (Parked n) e = absurd cc
held_alive Killed e = absurd cc

living_not_settled : (s : Status) → IsLiving s → IsSettled s → ⊥
living_not_settled (Waiting n) a b = b
living_not_settled (Held u n) a b = b
living_not_settled (Consumed u) a b = a
living_not_settled (Parked n) a b = b
living_not_settled Killed a b = a

pub alive_one : (s : Status) → IsKillable s → one_if (is_waiting s) + one_if (is_parked s) ≡ 1
alive_one (Waiting n) a = refl
alive_one (Held u n) a = absurd a
alive_one (Consumed u) a = absurd a
alive_one (Parked n) a = refl
alive_one Killed a = absurd a

pub living_one : (s : Status) → IsLiving s → one_if (is_waiting s) + one_if (is_parked s) + one_if (is_held s) ≡ 1
living_one (Waiting n) a = refl
living_one (Held u n) a = refl
living_one (Consumed u) a = absurd a
living_one (Parked n) a = refl
living_one Killed a = absurd a

living_not_killed : (s : Status) → IsLiving s → one_if (is_killed s) ≡ 0
living_not_killed (Waiting n) a = refl
living_not_killed (Held u n) a = refl
living_not_killed (Consumed u) a = absurd a
living_not_killed (Parked n) a = refl
living_not_killed Killed a = absurd a

-- each of these is alive: as many wait, are parked or are held
either_counted : (status : Moved → Status) (ms : List Moved) → ((m : Moved) → In m ms → IsLiving (status m))
    → count_by (λ m. is_waiting (status m)) ms + count_by (λ m. is_parked (status m)) ms + count_by (λ m. is_held (status m)) ms ≡ length ms
either_counted status [] alive = refl
either_counted status (m ∷ ms) alive =
    let first = living_one (status m) (alive m here) in
    let rest = either_counted status ms (λ q p. alive q (there p)) in
    let a = sum_by-cons (λ (q : Moved). cond (is_waiting (status q)) 1 0) m ms in
    let b = sum_by-cons (λ (q : Moved). cond (is_parked (status q)) 1 0) m ms in
    let d = sum_by-cons (λ (q : Moved). cond (is_held (status q)) 1 0) m ms in
    omega arith

pub none_counted : (f : Moved → ℕ) (ms : List Moved) → ((m : Moved) → In m ms → f m ≡ 0) → sum_by f ms ≡ 0
none_counted f [] zeros = refl
none_counted f (m ∷ ms) zeros =
    let first = zeros m here in
    let rest = none_counted f ms (λ q p. zeros q (there p)) in
    let a = sum_by-cons f m ms in
    omega arith

-- what doesn't ask for the unit tells the same of what stands the same
abbrev IsBlind : (Status → Bool) → Type 0
IsBlind test = (u v n : ℕ) → test (Held u n) ≡ test (Held v n)

same_test : (l k : Limits) (test : Status → Bool) (is is' : Status) → IsBlind test → IsSame l k is is' → test is' ≡ test is
same_test l k test (Waiting n) is' blind same = ap test same
same_test l k test (Held u n) is' blind same = ap test same.1 ∙ blind same.0 u n
same_test l k test (Consumed u) is' blind same = absurd same
same_test l k test (Parked n) is' blind same = ap test same
same_test l k test Killed is' blind same = absurd same

-- aborts and kills consume nothing

abort_not_consumed : (limit u : ℕ) (s : Status) → is_consumed s ≡ false → is_consumed (aborted limit u s) ≡ false
abort_not_consumed limit u (Waiting n) not = refl
abort_not_consumed limit u (Held v n) not = step (u == v)
  where
    inner : (b : Bool) → is_consumed (cond b (Waiting n) (Parked n)) ≡ false
    inner true = refl
    inner false = refl

    step : (b : Bool) → is_consumed (cond b (cond (nat_lt n limit) (Waiting n) (Parked n)) (Held v n)) ≡ false
    step true = inner (nat_lt n limit)
    step false = refl
abort_not_consumed limit u (Consumed v) not = not
abort_not_consumed limit u (Parked n) not = refl
abort_not_consumed limit u Killed not = refl

kill_not_consumed : (b : Bool) (s : Status) → is_consumed s ≡ false → is_consumed (cond b Killed s) ≡ false
kill_not_consumed true s not = refl
kill_not_consumed false s not = not

end_not_consumed : (limit i : ℕ) (e : Event) → IsEnd e → (s : Status) → is_consumed s ≡ false → is_consumed (status_after limit i s e) ≡ false
end_not_consumed limit i e is s not = ⊎_elim
    (λ t. subst (λ x. is_consumed (status_after limit i s x) ≡ false) (sym t.2) (abort_not_consumed limit t.1 s not))
    (λ t. subst (λ x. is_consumed (status_after limit i s x) ≡ false) (sym t.2) (kill_not_consumed (t.1 == i) s not))
    is

none_consumed : (limit i : ℕ) (h es : List Event) → AreEnds es → is_consumed (status_of limit h i) ≡ false → is_consumed (status_of limit (h ++ es) i) ≡ false
none_consumed limit i h [] are not = ap (λ z. is_consumed (status_of limit z i)) (append_nil h) ∙ not
none_consumed limit i h (e ∷ es) are not =
    let now : is_consumed (status_of limit (h ++ e ∷ []) i) ≡ false = ap is_consumed (status_of-snoc limit h e i) ∙ end_not_consumed limit i e (are e here) (status_of limit h i) not in
    subst (λ z. is_consumed (status_of limit z i) ≡ false) (append_assoc h (e ∷ []) es) (none_consumed limit i (h ++ e ∷ []) es (λ x p. are x (there p)) now)

ends_consume_nothing : (l : Limits) (h es : List Event) (i : ℕ) → AreEnds es → IsLegal l (h ++ es) → is_consumed (status_of l.attempts (h ++ es) i) ≡ is_consumed (status_of l.attempts h i)
ends_consume_nothing l h es i are legal = go (status_of l.attempts h i) refl
  where
    not : (s : Status) → is_consumed s ≡ false → status_of l.attempts h i ≡ s → is_consumed (status_of l.attempts (h ++ es) i) ≡ is_consumed (status_of l.attempts h i)
    not s n e = none_consumed l.attempts i h es are (ap is_consumed e ∙ n) ∙ (sym n ∙ ap is_consumed (sym e))

    go : (s : Status) → status_of l.attempts h i ≡ s → is_consumed (status_of l.attempts (h ++ es) i) ≡ is_consumed (status_of l.attempts h i)
    go (Waiting n) e = not (Waiting n) refl e
    go (Held u n) e = not (Held u n) refl e
    go (Consumed u) e = ap is_consumed (settled_stays l h es i (Consumed u) tt legal e ∙ sym e)
    go (Parked n) e = not (Parked n) refl e
    go Killed e = not Killed refl e

sum_alike : (f g : Element → ℕ) → ((x : Element) → f x ≡ g x) → (xs : List Element) → sum_by f xs ≡ sum_by g xs
sum_alike f g same [] = refl
sum_alike f g same (x ∷ xs) =
    let first = same x in
    let rest = sum_alike f g same xs in
    let a = sum_by-cons f x xs in
    let b = sum_by-cons g x xs in
    omega arith

module _ (l k : Limits) (c : ℕ) (h h' g : List Event) (moved : List Moved) (r : RollsOver l k c h h' g moved) where
  pub legal_before : IsLegal l h
  legal_before = legal_start l h (done l k c h h' g moved r) (legal_done l k c h h' g moved r)

  in_old : (m : Moved) → In m moved → (x : Element) × (element_of h m.old ≡ Some x)
  in_old m p = let a = r.carried m p in (a.old, a.was.0)

  in_new : (m : Moved) → In m moved → (x : Element) × (element_of g m.new ≡ Some x)
  in_new m p = let a = r.carried m p in (a.new, a.is.0)

  lives : (m : Moved) → In m moved → IsLiving (status_of l.attempts h m.old)
  lives m p = carried_lives l k h g m (r.carried m p)

  old_counted : (test : Status → Bool) → ((s : Status) → test s ≡ true → IsLiving s) → count_of l.attempts h (born h) test ≡ count_by (λ m. test (status_of l.attempts h m.old)) moved
  old_counted test alive = counted l h legal_before (λ m. m.old) moved r.once.0 in_old test (λ x b e. r.each x b (alive (status_of l.attempts h x.id) e))

  new_counted : (test : Status → Bool) → IsBlind test → ((s : Status) → test s ≡ true → is_consumed s ≡ true → ⊥) → count_of k.attempts g (born g) test ≡ count_by (λ m. test (status_of l.attempts h m.old)) moved
  new_counted test blind apart =
      counted k g r.legal.1 (λ m. m.new) moved r.once.1 in_new test (λ y b e. ⊎_elim (λ n. n) (λ used. absurd (apart (status_of k.attempts g y.id) e used)) (r.rest y b))
      ∙ sum_same (λ m. cond (test (status_of k.attempts g m.new)) 1 0) (λ m. cond (test (status_of l.attempts h m.old)) 1 0) moved
      (λ m p. ap (λ b. cond b 1 0) (same_test l k test (status_of l.attempts h m.old) (status_of k.attempts g m.new) blind (r.carried m p).same))

  waiting_apart : (s : Status) → is_waiting s ≡ true → is_consumed s ≡ true → ⊥
  waiting_apart (Waiting n) a b = cc
  waiting_apart (Held u n) a b = cc
  waiting_apart (Consumed u) a b = cc
  waiting_apart (Parked n) a b = cc
  waiting_apart Killed a b = cc

  parked_apart : (s : Status) → is_parked s ≡ true → is_consumed s ≡ true → ⊥
  parked_apart (Waiting n) a b = cc
  parked_apart (Held u n) a b = cc
  parked_apart (Consumed u) a b = cc
  parked_apart (Parked n) a b = cc
  parked_apart Killed a b = cc

  held_apart : (s : Status) → is_held s ≡ true → is_consumed s ≡ true → ⊥
  held_apart (Waiting n) a b = cc
  held_apart (Held u n) a b = cc
  held_apart (Consumed u) a b = cc
  held_apart (Parked n) a b = cc
  held_apart Killed a b = cc

  killed_apart : (s : Status) → is_killed s ≡ true → is_consumed s ≡ true → ⊥
  killed_apart (Waiting n) a b = cc
  killed_apart (Held u n) a b = cc
  killed_apart (Consumed u) a b = cc
  killed_apart (Parked n) a b = cc
  killed_apart Killed a b = cc

  -- before
  was_alive : (counts l.attempts h).waiting + (counts l.attempts h).parked + (counts l.attempts h).held ≡ length moved
  was_alive =
      let a = old_counted is_waiting waiting_alive in
      let b = old_counted is_parked parked_alive in
      let d = old_counted is_held held_alive in
      let all = either_counted (λ m. status_of l.attempts h m.old) moved lives in
      omega arith

  -- in the new manager
  new_waiting : (counts k.attempts g).waiting ≡ (counts l.attempts h).waiting
  new_waiting = new_counted is_waiting (λ u v n. refl) waiting_apart ∙ sym (old_counted is_waiting waiting_alive)

  new_parked : (counts k.attempts g).parked ≡ (counts l.attempts h).parked
  new_parked = new_counted is_parked (λ u v n. refl) parked_apart ∙ sym (old_counted is_parked parked_alive)

  new_held : (counts k.attempts g).held ≡ (counts l.attempts h).held
  new_held = new_counted is_held (λ u v n. refl) held_apart ∙ sym (old_counted is_held held_alive)

  new_carriers : (counts k.attempts g).consumed + length moved ≡ length (born g)
  new_carriers =
      let killed = new_counted is_killed (λ u v n. refl) killed_apart ∙ none_counted (λ m. cond (is_killed (status_of l.attempts h m.old)) 1 0) moved (λ m p. living_not_killed (status_of l.attempts h m.old) (lives m p)) in
      let all = all_counted k.attempts g (born g) in
      let w = new_waiting in
      let p = new_parked in
      let d = new_held in
      let alive = was_alive in
      omega arith

  -- after
  as_born : born h' ≡ born h
  as_born = ap born (grown l k c h h' g moved r) ∙ (born-append h (done l k c h h' g moved r) ∙ (ap (λ xs. born h ++ xs) (ends_bear (done l k c h h' g moved r) (done_ends l k c h h' g moved r)) ∙ append_nil (born h)))

  old_consumed : (counts l.attempts h').consumed ≡ (counts l.attempts h).consumed
  old_consumed =
      ap (λ xs. count_of l.attempts h' xs is_consumed) as_born
      ∙ sum_alike (λ x. cond (is_consumed (status_of l.attempts h' x.id)) 1 0) (λ x. cond (is_consumed (status_of l.attempts h x.id)) 1 0)
      (λ x. ap (λ b. cond b 1 0) (ap (λ z. is_consumed (status_of l.attempts z x.id)) (grown l k c h h' g moved r) ∙ ends_consume_nothing l h (done l k c h h' g moved r) x.id (done_ends l k c h h' g moved r) (legal_done l k c h h' g moved r))) (born h)

  none_left : (test : Status → Bool) → ((s : Status) → test s ≡ true → IsSettled s → ⊥) → count_of l.attempts h' (born h') test ≡ 0
  none_left test apart = counted l h' r.legal.0 (λ m. m.old) [] tt (λ m p. elim p [ ]) test (λ x b e. absurd (apart (status_of l.attempts h' x.id) e (old_is_over l k c h h' g moved r x b)))

  old_killed : (counts l.attempts h').killed ≡ (counts l.attempts h).killed + length moved
  old_killed =
      let w = none_left is_waiting (λ s e over. living_not_settled s (waiting_alive s e) over) in
      let p = none_left is_parked (λ s e over. living_not_settled s (parked_alive s e) over) in
      let d = none_left is_held (λ s e over. living_not_settled s (held_alive s e) over) in
      let u = old_consumed in
      let after = all_counted l.attempts h' (born h') in
      let before = all_counted l.attempts h (born h) in
      let long = ap length as_born in
      let alive = was_alive in
      omega arith

  adds_up : AccountsAddUp l k h h' g moved
  adds_up = record {
    was = was_alive;
    waiting = new_waiting;
    parked = new_parked;
    held = new_held;
    carriers = new_carriers;
    killed = old_killed;
    consumed = old_consumed;
  }

pub rollover_adds_up : RolloverAddsUp
rollover_adds_up l k c h h' g moved r = adds_up l k c h h' g moved r
