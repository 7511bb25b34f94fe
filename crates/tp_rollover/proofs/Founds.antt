-- Where as many were found alive as there are, nothing is alive in the rows after them.
use Rattle.std.proofs.Common.{◌≡◌, IfSome, ◌∷◌, ℕ, zero, suc, ◌+◌, ◌-◌, ◌<◌, ◌≤◌, Option, Some, None, List, [], ◌++◌, length, refl, sym, ◌∙◌, ap, subst, ⊎_elim, arith}
use Rattle.std.proofs.lemmas.List.{length-append}
use Rattle.std.proofs.lemmas.List.Sums.{sum_by-cons}
use Rattle.std.specs.List.{range_with_len, sum_by}
use Rattle.tp_model.specs.declared.types.Element.{Element}
use Rattle.tp_model.specs.declared.types.Limits.{Limits}
use Rattle.tp_model.specs.declared.types.Status.{Status}
use Rattle.tp_model.specs.declared.types.Status.TheVariants.{Waiting, Held, Consumed, Parked, Killed}
use Rattle.tp_model.specs.declared.event.Event.{Event}
use Rattle.tp_model.specs.Counts.{counts, is_held, is_parked, is_waiting}
use Rattle.tp_model.specs.History.{In, IsBorn, born, element_of, status_of}
use Rattle.tp_model.specs.Steps.{IsLegal, rows_of}
use Rattle.tp_model.proofs.Bridges.{append_nil, element_of-id, in_either, in_one}
use Rattle.tp_model.proofs.RowTallies.{rows_sum}
use Rattle.tp_rollover.specs.Finding.{AreAlive, AreAliveBelow, AreLiving, CountsAlive, IsAliveAt, StandsLiving, listed}
use Rattle.tp_rollover.specs.declared.moved.Moved.{Moved}
use Rattle.tp_rollover.specs.Survivors.{Ascending, IsLiving}
use Rattle.tp_rollover.proofs.Lists.{ascending_more}
use Rattle.tp_rollover.proofs.Others.{all_named, sum_both}
use Rattle.tp_rollover.proofs.Tallies.{by_rows, living_one, one_if, over}
use Rattle.tp_manager.specs.Shown.{PassShown}
use Rattle.tp_rollover.specs.Thread.{Stays}
use Rattle.tp_rollover.specs.Told.{HoldsAsSeen}
use Rattle.std.proofs.lemmas.Bool.Decides.{leb_tells}
use Rattle.tp_rollover.proofs.Checked.{alive_next, alive_none}
use Rattle.tp_rollover.proofs.Seen.{told_first, told_second}

-- whether an element is alive, and whether that of a row is, as numbers

abbrev alive_in : ℕ → List Event → Element → ℕ
alive_in limit h x = one_if (is_waiting (status_of limit h x.id)) + one_if (is_parked (status_of limit h x.id)) + one_if (is_held (status_of limit h x.id))

abbrev pub row_alive : ℕ → List Event → ℕ → ℕ
row_alive limit h i = over (alive_in limit h) (element_of h i)

not_one : (s : Status) → ¬ IsLiving s → one_if (is_waiting s) + one_if (is_parked s) + one_if (is_held s) ≡ 0
not_one (Waiting n) not = absurd (not tt)
not_one (Held u n) not = absurd (not tt)
not_one (Consumed u) not = refl
not_one (Parked n) not = absurd (not tt)
not_one Killed not = refl

none_some : (a : ℕ) → None ≡ Some a → ⊥
none_some a e = cc

at_counted : (limit row : ℕ) (o : Option ℕ) (h : List Event) → IsAliveAt limit row o h → row_alive limit h row ≡ length (listed o)
at_counted limit row None h at = go (element_of h row) refl
  where
    go : (e : Option Element) → element_of h row ≡ e → row_alive limit h row ≡ 0
    go None is = ap (over (alive_in limit h)) is
    go (Some x) is =
        ap (over (alive_in limit h)) is
        ∙ not_one (status_of limit h x.id) (λ alive. none_some row (at.0 x is (subst (λ i. IsLiving (status_of limit h i)) (element_of-id h row x is) alive)))
at_counted limit row (Some a) h at =
    let there = at.1 a refl in
    ap (over (alive_in limit h)) there.born ∙ living_one (status_of limit h there.item.id) (subst (λ i. IsLiving (status_of limit h i)) (sym (element_of-id h row there.item there.born)) there.living)

-- what is summed over rows, and over those after them
split : (F : ℕ → ℕ) (a n m k : ℕ) → n + m ≡ k → sum_by F (range_with_len a k) ≡ sum_by F (range_with_len a n) + sum_by F (range_with_len (a + n) m)
split F a zero m k e =
    let same : k ≡ m = omega (arith, e) in
    let first : a + 0 ≡ a = omega arith in
    let none : sum_by F (range_with_len a 0) ≡ 0 = refl in
    let s : sum_by F (range_with_len a k) ≡ sum_by F (range_with_len a m) = ap (λ z. sum_by F (range_with_len a z)) same in
    let t : sum_by F (range_with_len (a + 0) m) ≡ sum_by F (range_with_len a m) = ap (λ z. sum_by F (range_with_len z m)) first in
    omega arith
split F a (suc n) m zero e = absurd (omega (arith, e))
split F a (suc n) m (suc k) e =
    let one = sum_by-cons F a (range_with_len (a + 1) k) in
    let two = sum_by-cons F a (range_with_len (a + 1) n) in
    let rest = split F (a + 1) n m k (omega (arith, e)) in
    let at : a + suc n ≡ a + 1 + n = omega arith in
    let same : sum_by F (range_with_len (a + suc n) m) ≡ sum_by F (range_with_len (a + 1 + n) m) = ap (λ z. sum_by F (range_with_len z m)) at in
    omega arith

one_more : (F : ℕ → ℕ) (n : ℕ) → sum_by F (range_with_len 0 (n + 1)) ≡ sum_by F (range_with_len 0 n) + F n
one_more F n =
    let all = split F 0 n 1 (n + 1) refl in
    let last = sum_by-cons F (0 + n) [] in
    let none : sum_by F [] ≡ 0 = refl in
    let at : 0 + n ≡ n = omega arith in
    let same : F (0 + n) ≡ F n = ap F at in
    let one : sum_by F (range_with_len (0 + n) 1) ≡ F (0 + n) + sum_by F [] = last in
    omega arith

-- of the first rows each element that is alive was found, and no more were
abbrev pub FoundBelow : ℕ → ℕ → List ℕ → List Event → Type 0
FoundBelow limit row found h = AreAliveBelow limit row found h × (sum_by (row_alive limit h) (range_with_len 0 row) ≡ length found) × AreLiving limit found h

pub found_none : (limit : ℕ) (h : List Event) → FoundBelow limit 0 [] h
found_none limit h = (alive_none limit [] h, refl, λ id p. elim p [ ])

listed_living : (limit row : ℕ) (h : List Event) (o : Option ℕ) → IfSome o (λ id. id ≡ row) → IsAliveAt limit row o h → (id : ℕ) → In id (listed o) → StandsLiving limit id h
listed_living limit row h None itself at id p = elim p [ ]
listed_living limit row h (Some a) itself at id p = subst (λ i. StandsLiving limit i h) (sym (in_one p ∙ itself)) (at.1 a refl)

found_next : (limit row : ℕ) (h : List Event) (found : List ℕ) (o : Option ℕ) → IfSome o (λ id. id ≡ row) → FoundBelow limit row found h → IsAliveAt limit row o h → FoundBelow limit (row + 1) (found ++ listed o) h
found_next limit row h found o itself below at =
    let more = one_more (row_alive limit h) row in
    let one = at_counted limit row o h at in
    let long = length-append found (listed o) in
    let before = below.1 in
    (alive_next limit row h found o below.0 at, omega arith, λ id p. ⊎_elim (below.2 id) (listed_living limit row h o itself at id) (in_either found (listed o) p))

pub found_then : (limit row : ℕ) (found : List ℕ) (o : Option ℕ) (p q r : PassShown) → IfSome o (λ id. id ≡ row) → Stays p q → Stays q r → HoldsAsSeen p q (FoundBelow limit row found) → HoldsAsSeen q r (IsAliveAt limit row o) → HoldsAsSeen p r (FoundBelow limit (row + 1) (found ++ listed o))
found_then limit row found o p q r itself a b below at same =
    found_next limit row p.seen found o itself (told_first (FoundBelow limit row found) p.seen q.seen r.seen a.sees b.sees below same) (told_second (IsAliveAt limit row o) p.seen q.seen r.seen a.sees b.sees at same)

-- where as many are found as an account counts
module _ (l : Limits) (h : List Event) (n : ℕ) (found : List ℕ) (legal : IsLegal l h) (counted : CountsAlive n (counts l.attempts h)) where
  zero_at : (f : Element → ℕ) (a m : ℕ) → sum_by (λ i. over f (element_of h i)) (range_with_len a m) ≡ 0 → (x : Element) → IsBorn h x → a ≤ x.id → x.id < a + m → f x ≡ 0
  zero_at f a m total x is low high =
      ⊎_elim (λ e. sym (ap (over f) is) ∙ e) (λ named. elim named.1 [ ])
      (all_named (λ (q : Moved). q.new) (λ i. over f (element_of h i)) a m [] tt (λ q p. elim p [ ]) (λ q p. elim p [ ]) total x.id low high)

  total : sum_by (row_alive l.attempts h) (range_with_len 0 (rows_of l)) ≡ n
  total =
      sym (by_rows (alive_in l.attempts h) h 0 (rows_of l))
      ∙ (rows_sum l h legal (alive_in l.attempts h)
      ∙ (sum_both (λ x. one_if (is_waiting (status_of l.attempts h x.id)) + one_if (is_parked (status_of l.attempts h x.id))) (λ x. one_if (is_held (status_of l.attempts h x.id))) (born h)
      ∙ (ap (λ n. n + (counts l.attempts h).held) (sum_both (λ x. one_if (is_waiting (status_of l.attempts h x.id))) (λ x. one_if (is_parked (status_of l.attempts h x.id))) (born h)) ∙ counted)))

  pub all_found : (row : ℕ) → row ≤ rows_of l → FoundBelow l.attempts row found h → n ≤ length found → AreAlive l found h
  all_found row inside below enough x is less = ⊎_elim
      (λ p. let low : x.id + 1 ≤ row = p.1 in below.0 x is (omega arith))
      (λ p. none_alive p.1)
      (leb_tells (x.id + 1) row)
    where
      none_alive : row < x.id + 1 → IsLiving (status_of l.attempts h x.id) → In x.id found
      none_alive low alive =
          let parts = split (row_alive l.attempts h) 0 row (rows_of l - row) (rows_of l) (omega arith) in
          let sum = total in
          let front = below.1 in
          let rest : sum_by (row_alive l.attempts h) (range_with_len (0 + row) (rows_of l - row)) ≡ 0 = omega arith in
          let nothing = zero_at (alive_in l.attempts h) (0 + row) (rows_of l - row) rest x is (omega arith) (omega arith) in
          let one = living_one (status_of l.attempts h x.id) alive in
          absurd (omega arith)

-- the ids ascend, and are below the next row
pub record IsUpTo (row : ℕ) (found : List ℕ) : Type 0 where
  pub once : Ascending 0 found
  pub below : (i : ℕ) → In i found → i < row

pub up_next : (row : ℕ) (found found' : List ℕ) (o : Option ℕ) → IsUpTo row found → IfSome o (λ id. id ≡ row) → found' ≡ found ++ listed o → IsUpTo (row + 1) found'
up_next row found found' None up same is = subst (IsUpTo (row + 1)) (sym (is ∙ append_nil found)) (record { once = up.once; below = λ i p. (let less = up.below i p in omega arith) })
up_next row found found' (Some id) up same is =
    subst (IsUpTo (row + 1)) (sym (is ∙ ap (λ n. found ++ n ∷ []) same)) (record {
      once = ascending_more 0 found row (omega arith) up.once up.below;
      below = λ i p. ⊎_elim (λ q. (let less = up.below i q in omega arith)) (λ q. (let e = in_one q in omega (arith, e))) (in_either found (row ∷ []) p);
    })
