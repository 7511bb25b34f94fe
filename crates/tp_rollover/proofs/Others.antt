-- Where as many are alive as are named, and nothing is held or killed, all others are consumed.
use Rattle.std.proofs.Common.{◌≡◌, ◌≢◌, ◌⊎◌, ℕ, zero, suc, ◌+◌, ◌<◌, ◌≤◌, true, List, [], ◌∷◌, length, refl, sym, ◌∙◌, ap, subst, inl, inr, ⊎_elim, arith}
use Rattle.std.proofs.lemmas.Bool.Decides.{eqb_tells}
use Rattle.std.proofs.lemmas.List.Sums.{sum_by-cons}
use Rattle.std.specs.List.{range_with_len, sum_by}
use Rattle.tp_model.specs.declared.types.Element.{Element}
use Rattle.tp_model.specs.declared.types.Limits.{Limits}
use Rattle.tp_model.specs.declared.types.Status.{Status}
use Rattle.tp_model.specs.declared.types.Status.TheVariants.{Waiting, Held, Consumed, Parked, Killed}
use Rattle.tp_model.specs.declared.event.Event.{Event}
use Rattle.tp_model.specs.Counts.{counts, is_consumed, is_held, is_killed, is_parked, is_waiting}
use Rattle.tp_model.specs.History.{In, here, there, IsBorn, born, element_of, status_of}
use Rattle.tp_model.specs.Steps.{IsKillable, IsLegal, rows_of}
use Rattle.tp_model.proofs.Bridges.{element_of-id, is_born}
use Rattle.tp_model.proofs.Later.{births_inside}
use Rattle.tp_model.proofs.RowTallies.{rows_sum}
use Rattle.tp_rollover.specs.Checks.{AreOnly, CountsOnly, MovedAscend}
use Rattle.tp_rollover.specs.Finding.{StandsAlive}
use Rattle.tp_rollover.specs.Checks.{AscendFrom, IsNamed}
use Rattle.tp_rollover.specs.declared.moved.Moved.{Moved}
use Rattle.tp_rollover.proofs.Tallies.{alive_one, by_rows, one_if, over}

-- What is counted over rows is at least what is counted over those that name them, each once. Where it is no
-- more, each row that counts is named.
module _ (id : Moved → ℕ) (F : ℕ → ℕ) where
  higher : (a : ℕ) (m : Moved) (ms : List Moved) → id m ≢ a → AscendFrom id a (m ∷ ms) → AscendFrom id (a + 1) (m ∷ ms)
  higher a m ms other ascend = let low = ascend.0 in (omega arith, ascend.1)

  at_least : (a n : ℕ) (ms : List Moved) → AscendFrom id a ms → ((m : Moved) → In m ms → id m < a + n) → ((m : Moved) → In m ms → F (id m) ≡ 1) → length ms ≤ sum_by F (range_with_len a n)
  at_least a zero [] ascend inside ones = omega arith
  at_least a zero (m ∷ ms) ascend inside ones = let low = ascend.0 in let high = inside m here in absurd (omega arith)
  at_least a (suc n) [] ascend inside ones = omega arith
  at_least a (suc n) (m ∷ ms) ascend inside ones =
      let all = sum_by-cons F a (range_with_len (a + 1) n) in
      elim (eqb_tells (id m) a) [
        | inl p ↦
            let first : F a ≡ 1 = ap F (sym p.1) ∙ ones m here in
            let rest = at_least (a + 1) n ms (subst (λ z. AscendFrom id (z + 1) ms) p.1 ascend.1) (λ q r. let less = inside q (there r) in omega arith) (λ q r. ones q (there r)) in
            omega arith
        | inr p ↦
            let rest = at_least (a + 1) n (m ∷ ms) (higher a m ms p.1 ascend) (λ q r. let less = inside q r in omega arith) ones in
            omega arith
      ]

  more : (m : Moved) (ms : List Moved) (i : ℕ) → (F i ≡ 0) ⊎ IsNamed id i ms → (F i ≡ 0) ⊎ IsNamed id i (m ∷ ms)
  more m ms i is = ⊎_elim (λ e. inl e) (λ named. inr (named.0, there named.1, named.2)) is

  pub all_named : (a n : ℕ) (ms : List Moved) → AscendFrom id a ms → ((m : Moved) → In m ms → id m < a + n) → ((m : Moved) → In m ms → F (id m) ≡ 1)
      → sum_by F (range_with_len a n) ≡ length ms → (i : ℕ) → a ≤ i → i < a + n → (F i ≡ 0) ⊎ IsNamed id i ms
  all_named a zero ms ascend inside ones total i low high = absurd (omega arith)
  all_named a (suc n) [] ascend inside ones total i low high =
      let all = sum_by-cons F a (range_with_len (a + 1) n) in
      let nothing : sum_by F (range_with_len a (suc n)) ≡ 0 = total in
      elim (eqb_tells i a) [
        | inl p ↦ let first : F a ≡ 0 = omega arith in inl (ap F p.1 ∙ first)
        | inr p ↦ let other : i ≢ a = p.1 in (let rest : sum_by F (range_with_len (a + 1) n) ≡ 0 = omega arith in all_named (a + 1) n [] tt (λ m q. elim q [ ]) (λ m q. elim q [ ]) rest i (omega arith) (omega arith))
      ]
  all_named a (suc n) (m ∷ ms) ascend inside ones total i low high =
      let all = sum_by-cons F a (range_with_len (a + 1) n) in
      elim (eqb_tells (id m) a) [
        | inl p ↦
            let is : id m ≡ a = p.1 in
            let first : F a ≡ 1 = ap F (sym p.1) ∙ ones m here in
            elim (eqb_tells i a) [
              | inl q ↦ inr (m, here, p.1 ∙ sym q.1)
              | inr q ↦
                  let other : i ≢ a = q.1 in
                  more m ms i (all_named (a + 1) n ms (subst (λ z. AscendFrom id (z + 1) ms) p.1 ascend.1) (λ r s. let less = inside r (there s) in omega arith) (λ r s. ones r (there s)) (omega arith) i (omega arith) (omega arith))
            ]
        | inr p ↦
            let least = at_least (a + 1) n (m ∷ ms) (higher a m ms p.1 ascend) (λ r s. let less = inside r s in omega arith) ones in
            elim (eqb_tells i a) [
              | inl q ↦ let first : F a ≡ 0 = omega arith in inl (ap F q.1 ∙ first)
              | inr q ↦
                  let other : i ≢ a = q.1 in
                  all_named (a + 1) n (m ∷ ms) (higher a m ms p.1 ascend) (λ r s. let less = inside r s in omega arith) ones (omega arith) i (omega arith) (omega arith)
            ]
      ]

pub sum_both : (f g : Element → ℕ) (xs : List Element) → sum_by (λ x. f x + g x) xs ≡ sum_by f xs + sum_by g xs
sum_both f g [] = refl
sum_both f g (x ∷ xs) =
    let a = sum_by-cons (λ (y : Element). f y + g y) x xs in
    let b = sum_by-cons f x xs in
    let c = sum_by-cons g x xs in
    let rest = sum_both f g xs in
    omega arith

-- what is neither alive nor held nor killed is consumed
by_status : (s : Status) → one_if (is_waiting s) + one_if (is_parked s) ≡ 0 → one_if (is_held s) ≡ 0 → one_if (is_killed s) ≡ 0 → is_consumed s ≡ true
by_status (Waiting n) a b c = absurd (omega (arith, a))
by_status (Held u n) a b c = absurd (omega (arith, b))
by_status (Consumed u) a b c = refl
by_status (Parked n) a b c = absurd (omega (arith, a))
by_status Killed a b c = absurd (omega (arith, c))

module _ (k : Limits) (g : List Event) (moved : List Moved) (legal : IsLegal k g) (ascend : MovedAscend moved) (stand : (m : Moved) → In m moved → StandsAlive k.attempts m.new g)
    (only : CountsOnly (length moved) (counts k.attempts g)) where
  -- at its row an element counts as what its status says
  row_of : (f : Element → ℕ) (y : Element) → IsBorn g y → over f (element_of g y.id) ≡ f y
  row_of f y is = ap (over f) is

  none_of : (f : Element → ℕ) → sum_by f (born g) ≡ 0 → (y : Element) → IsBorn g y → f y ≡ 0
  none_of f total y is =
      let less = births_inside k g legal y is in
      ⊎_elim (λ e. sym (row_of f y is) ∙ e) (λ named. elim named.1 [ ])
      (all_named (λ m. m.new) (λ i. over f (element_of g i)) 0 (rows_of k) [] tt (λ m q. elim q [ ]) (λ m q. elim q [ ]) (sym (by_rows f g 0 (rows_of k)) ∙ (rows_sum k g legal f ∙ total)) y.id (omega arith) (omega arith))

  abbrev alive : Element → ℕ
  alive y = one_if (is_waiting (status_of k.attempts g y.id)) + one_if (is_parked (status_of k.attempts g y.id))

  alive_sum : sum_by alive (born g) ≡ length moved
  alive_sum = sum_both (λ y. one_if (is_waiting (status_of k.attempts g y.id))) (λ y. one_if (is_parked (status_of k.attempts g y.id))) (born g) ∙ only.alive

  alive_at : (m : Moved) → In m moved → over alive (element_of g m.new) ≡ 1
  alive_at m p =
      let c = stand m p in
      ap (over alive) c.born ∙ alive_one (status_of k.attempts g c.item.id) (subst (λ i. IsKillable (status_of k.attempts g i)) (sym (element_of-id g m.new c.item c.born)) c.alive)

  inside : (m : Moved) → In m moved → m.new < 0 + rows_of k
  inside m p =
      let c = stand m p in
      let less = births_inside k g legal c.item (is_born g m.new c.item c.born) in
      let is = element_of-id g m.new c.item c.born in
      omega arith

  pub only_named : AreOnly k moved g
  only_named y is less = ⊎_elim
      (λ e. inr (by_status (status_of k.attempts g y.id) (sym (row_of alive y is) ∙ e) (none_of (λ x. one_if (is_held (status_of k.attempts g x.id))) only.held y is) (none_of (λ x. one_if (is_killed (status_of k.attempts g x.id))) only.killed y is)))
      (λ named. inl named)
      (all_named (λ m. m.new) (λ i. over alive (element_of g i)) 0 (rows_of k) moved ascend.1 inside alive_at (sym (by_rows alive g 0 (rows_of k)) ∙ (rows_sum k g legal alive ∙ alive_sum)) y.id (omega arith) (omega arith))
