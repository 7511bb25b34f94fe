-- Which passes have drawn which spare blocks.
use Rattle.std.proofs.Common.{◌≡◌, ℕ, zero, suc, ◌+◌, ◌-◌, ◌<◌, ◌≤◌, eqb, cond, List, [], ◌∷◌, ◌++◌, map, length, refl, sym, ap, ◌∙◌, subst, ⊎_elim, arith, eq-eqb, ne_eqb}
use mathlib.Core.Logic.{dite}
use native.Mathlib.Decide.{ℕ_discrete, dec_le}
use Rattle.tp_model.specs.declared.types.Limits.{Limits}
use Rattle.tp_model.specs.History.{In, here, there}
use Rattle.tp_model.specs.Passes.{Ascend}
use Rattle.tp_model.proofs.Areas.{ascend_in}
use Rattle.tp_model.proofs.Bridges.{in_cons, in_either, in_here, in_left, in_none, in_right}
use Rattle.tp_rule.specs.Steps.{Shares, rest_of}
use Rattle.tp_rule.specs.Views.{first_hand, fresh, fresh_from, hand}
use Rattle.tp_rule.specs.declared.view.Hand.{Hand}
use Rattle.tp_rule.specs.declared.view.View.{View}
use Rattle.tp_rule.proofs.Seats.{in_map, in_map_to}
use Rattle.tp_manager.specs.Accounts.{AreNumberedFrom, HaveDrawn, blocks_together}
use Rattle.tp_manager.specs.Shown.{PassShown}
use Rattle.tp_manager.specs.Together.{AreEvery, AreLots, HaveFound, Lot, lot_of, lot_shown, lots}
use Rattle.tp_manager.specs.BetweenCalls.{untraced}

module _ (l : Limits) (n : ℕ) where
  -- the same passes in another order
  pub lots_same : (xs ys : List Lot) → ((x : Lot) → In x xs → In x ys) → ((x : Lot) → In x ys → In x xs) → AreLots l n xs → AreLots l n ys
  lots_same xs ys to from r = record {
    below = λ x p. r.below x (from x p);
    alone = λ x y b p q has has'. r.alone x y b (from x p) (from y q) has has';
    all = λ every b less. let t = r.all (λ c given. let m = every c given in (m.0, from m.0 m.1, m.2)) b less in (t.0, to t.0 t.1, t.2);
  }

  -- those of a seat
  pub lots_seat : (v : View) → v.limits ≡ l → Shares n v → AreLots l n (map lot_of v.hands)
  lots_seat v lim r = record {
    below = λ x p. let q = in_map lot_of x v.hands p in subst (λ (z : Lot). Ascend 0 n z.blocks) (sym q.2) (r.below q.0 q.1);
    alone = λ x y b p p' has has'.
        let q = in_map lot_of x v.hands p in
        let q' = in_map lot_of y v.hands p' in
        ap (λ (z : Lot). z.number) q.2 ∙ (r.alone q.0 q'.0 b q.1 q'.1 (subst (λ (z : Lot). In b z.blocks) q.2 has) (subst (λ (z : Lot). In b z.blocks) q'.2 has') ∙ ap (λ (z : Lot). z.number) (sym q'.2));
    all = λ every b less.
        let t = r.all (λ c given. let m = every c (subst (λ (z : Limits). c < z.parts) lim given) in let q = in_map lot_of m.0 v.hands m.1 in (q.0, q.1, ap (λ (z : Lot). z.number) (sym q.2) ∙ m.2)) b less in
        (lot_of t.0, in_map_to lot_of t.1, t.2);
  }

  -- one that stands first in one list is first in the next
  pub lots_moved : (a b : Lot) (ys zs : List Lot) → AreLots l n (a ∷ (b ∷ ys ++ zs)) → AreLots l n (a ∷ (ys ++ b ∷ zs))
  lots_moved a b ys zs = lots_same (a ∷ (b ∷ ys ++ zs)) (a ∷ (ys ++ b ∷ zs))
      (λ x p. ⊎_elim (λ e. in_here (ys ++ b ∷ zs) e) (λ q. there (⊎_elim (λ e. in_right ys (in_here zs e)) (λ r. ⊎_elim (λ s. in_left (b ∷ zs) s) (λ s. in_right ys (there s)) (in_either ys zs r)) (in_cons q))) (in_cons p))
      (λ x p. ⊎_elim (λ e. in_here (b ∷ ys ++ zs) e) (λ q. there (⊎_elim (λ s. there (in_left zs s)) (λ s. ⊎_elim (λ e. in_here (ys ++ zs) e) (λ r. there (in_right ys r)) (in_cons s)) (in_either ys (b ∷ zs) q))) (in_cons p))

-- 1 where two numbers are the same, and else 0
same_bit : ℕ → ℕ → ℕ
same_bit m b = cond {A = ℕ} (eqb m b) 1 0

bit_one : (m b : ℕ) → m ≡ b → same_bit m b ≡ 1
unfolding same_bit
bit_one m b e = ap (λ z. cond {A = ℕ} z 1 0) (eq-eqb m b e)

bit_none : (m b : ℕ) → ¬ (m ≡ b) → same_bit m b ≡ 0
unfolding same_bit
bit_none m b other = ap (λ z. cond {A = ℕ} z 1 0) (ne_eqb m b other)

-- how often b is among these numbers
abbrev times : ℕ → List ℕ → ℕ
times b [] = 0
times b (m ∷ ms) = same_bit m b + times b ms

-- and how often numbers below k are
abbrev upto : ℕ → List ℕ → ℕ
upto zero ms = 0
upto (suc k) ms = upto k ms + times k ms

times_none : (b : ℕ) (ms : List ℕ) → ¬ In b ms → times b ms ≡ 0
times_none b [] not = refl
times_none b (m ∷ ms) not = let other : ¬ (m ≡ b) = λ e. not (in_here ms (sym e)) in let rest = times_none b ms (λ p. not (there p)) in
    let none = bit_none m b other in omega arith

-- numbers that ascend are there once
times_one : (low high b : ℕ) (ms : List ℕ) → Ascend low high ms → In b ms → times b ms ≡ 1
times_one low high b [] up p = absurd (in_none p)
times_one low high b (m ∷ ms) up p = dite (ℕ_discrete m b)
    (λ e. let one = bit_one m b e in
    let rest = times_none b ms (λ q. let past = (ascend_in (m + 1) high ms b up.2 q).0 in omega arith) in omega arith)
    (λ not. let none = bit_none m b not in
    let rest = times_one (m + 1) high b ms up.2 (⊎_elim (λ e. absurd (not (sym e))) (λ q. q) (in_cons p)) in omega arith)

upto_past : (m k : ℕ) (ms : List ℕ) → k ≤ m → upto k (m ∷ ms) ≡ upto k ms
upto_past m zero ms out = refl
upto_past m (suc k) ms out = let rest = upto_past m k ms (omega arith) in let none = bit_none m k (λ e. omega arith) in omega arith

upto_more : (m k : ℕ) (ms : List ℕ) → m < k → upto k (m ∷ ms) ≡ upto k ms + 1
upto_more m zero ms less = absurd (omega arith)
upto_more m (suc k) ms less = dite (ℕ_discrete m k)
    (λ e. let rest = upto_past m k ms (omega arith) in let one = bit_one m k e in omega arith)
    (λ not. let rest = upto_more m k ms (omega arith) in let none = bit_none m k not in omega arith)

upto_none : (k : ℕ) → upto k [] ≡ 0
upto_none zero = refl
upto_none (suc k) = let rest = upto_none k in omega arith

-- where all are below n, they are counted
upto_all : (low n : ℕ) (ms : List ℕ) → Ascend low n ms → upto n ms ≡ length ms
upto_all low n [] up = upto_none n
upto_all low n (m ∷ ms) up = let one = upto_more m n ms up.1 in let rest = upto_all (m + 1) n ms up.2 in omega arith

-- the same of all these passes
abbrev times_in : ℕ → List PassShown → ℕ
times_in b [] = 0
times_in b (p ∷ ps) = times b p.blocks + times_in b ps

abbrev upto_in : ℕ → List PassShown → ℕ
upto_in zero ps = 0
upto_in (suc k) ps = upto_in k ps + times_in k ps

upto_cons : (k : ℕ) (p : PassShown) (ps : List PassShown) → upto_in k (p ∷ ps) ≡ upto k p.blocks + upto_in k ps
upto_cons zero p ps = refl
upto_cons (suc k) p ps = let rest = upto_cons k p ps in omega arith

upto_nil : (k : ℕ) → upto_in k [] ≡ 0
upto_nil zero = refl
upto_nil (suc k) = let rest = upto_nil k in omega arith

together : (n : ℕ) (ps : List PassShown) → ((p : PassShown) → In p ps → Ascend 0 n p.blocks) → upto_in n ps ≡ blocks_together ps
together n [] below = upto_nil n
together n (p ∷ ps) below = let one = upto_all 0 n p.blocks (below p here) in let rest = together n ps (λ q i. below q (there i)) in let both = upto_cons n p ps in omega arith

-- the numbers of these passes are not below the first
number_from : (c : ℕ) (ps : List PassShown) (p : PassShown) → AreNumberedFrom c ps → In p ps → c ≤ p.number
number_from c [] p from i = absurd (in_none i)
number_from c (q ∷ qs) p from i = ⊎_elim (λ e. let is : p.number ≡ c = ap (λ (z : PassShown). z.number) e ∙ from.0 in omega arith) (λ j. let more = number_from (c + 1) qs p from.1 j in omega arith) (in_cons i)

module _ (n : ℕ) (b : ℕ) where
  none_in : (ps : List PassShown) → ((p : PassShown) → In p ps → ¬ In b p.blocks) → times_in b ps ≡ 0
  none_in [] not = refl
  none_in (p ∷ ps) not = let one = times_none b p.blocks (not p here) in let rest = none_in ps (λ q i. not q (there i)) in omega arith

  -- a block that one of them has drawn alone is there once
  once_in : (c : ℕ) (ps : List PassShown) → AreNumberedFrom c ps → ((p : PassShown) → In p ps → Ascend 0 n p.blocks) → ((p q : PassShown) → In p ps → In q ps → In b p.blocks → In b q.blocks → p.number ≡ q.number)
      → (p : PassShown) → In p ps → In b p.blocks → times_in b ps ≡ 1
  once_in c [] from below alone p i has = absurd (in_none i)
  once_in c (q ∷ qs) from below alone p i has = ⊎_elim
      (λ e. let one = times_one 0 n b q.blocks (below q here) (subst (λ (z : PassShown). In b z.blocks) e has) in
      let rest = none_in qs (λ r j has'. let past = number_from (c + 1) qs r from.1 j in let same = alone q r here (there j) (subst (λ (z : PassShown). In b z.blocks) e has) has' in let is = from.0 in omega arith) in omega arith)
      (λ j. let rest = once_in (c + 1) qs from.1 (λ r k. below r (there k)) (λ r s k m x y. alone r s (there k) (there m) x y) p j has in
      let none = times_none b q.blocks (λ has'. let past = number_from (c + 1) qs p from.1 j in let same = alone q p here (there j) has' has in let is = from.0 in omega arith) in omega arith)
      (in_cons i)

-- the blocks below n are drawn by these passes, each by one alone: so they have drawn n
total_is : (c n : ℕ) (ps : List PassShown) → AreNumberedFrom c ps → ((p : PassShown) → In p ps → Ascend 0 n p.blocks) → ((b : ℕ) → b < n → (p : PassShown) × In p ps × In b p.blocks)
    → ((p q : PassShown) (b : ℕ) → In p ps → In q ps → In b p.blocks → In b q.blocks → p.number ≡ q.number) → blocks_together ps ≡ n
total_is c n ps from below all alone = sym (together n ps below) ∙ counted n (omega arith)
  where
    counted : (k : ℕ) → k ≤ n → upto_in k ps ≡ k
    counted zero less = refl
    counted (suc k) less = let rest = counted k (omega arith) in let t = all k (omega arith) in
        let one = once_in n k c ps from below (λ p q i j x y. alone p q k i j x y) t.0 t.1 t.2 in omega arith

-- each of these numbers is that of one of the passes
from_has : (c d : ℕ) (ps : List PassShown) → AreNumberedFrom c ps → c ≤ d → d < c + length ps → (p : PassShown) × In p ps × (p.number ≡ d)
from_has c d [] from low high = absurd (omega arith)
from_has c d (p ∷ ps) from low high = dite (ℕ_discrete c d) (λ e. (p, here, from.0 ∙ e)) (λ other. let t = from_has (c + 1) d ps from.1 (omega arith) (omega arith) in (t.0, there t.1, t.2))

-- each of the passes that aren't given out is there, and has drawn no block
fresh_has : (l : Limits) (a n c : ℕ) (hs : List Hand) → untraced hs ≡ fresh_from l a n → a ≤ c → c < a + n → (x : Hand) × In x hs × (x.number ≡ c)
fresh_has l a zero c hs is low high = absurd (omega arith)
fresh_has l a (suc n) c [] is low high = absurd cc
fresh_has l a (suc n) c (x ∷ hs) is low high = dite (ℕ_discrete a c)
    (λ same. (x, here, number x hs is ∙ same))
    (λ other. let t = fresh_has l (a + 1) n c hs (rest x hs is) (omega arith) (omega arith) in (t.0, there t.1, t.2))
  where
    number : (x : Hand) (hs : List Hand) → untraced (x ∷ hs) ≡ fresh l a ∷ fresh_from l (a + 1) n → x.number ≡ a
    number x hs e = ap (λ zs. (first_hand zs).number) e

    rest : (x : Hand) (hs : List Hand) → untraced (x ∷ hs) ≡ fresh l a ∷ fresh_from l (a + 1) n → untraced hs ≡ fresh_from l (a + 1) n
    rest x hs e = ap rest_of e

fresh_none : (l : Limits) (a n : ℕ) (hs : List Hand) → untraced hs ≡ fresh_from l a n → (x : Hand) → In x hs → x.blocks ≡ []
fresh_none l a n [] is x p = absurd (in_none p)
fresh_none l a zero (y ∷ hs) is x p = absurd cc
fresh_none l a (suc n) (y ∷ hs) is x p = ⊎_elim (λ e. ap (λ (z : Hand). z.blocks) e ∙ ap (λ zs. (first_hand zs).blocks) is) (λ q. fresh_none l (a + 1) n hs (ap rest_of is) x q) (in_cons p)

found_in : (n : ℕ) (ps : List PassShown) (p : PassShown) → HaveFound n ps → In p ps → p.seen_blocks ≡ n
found_in n [] p found i = absurd (in_none i)
found_in n (q ∷ qs) p found i = ⊎_elim (λ e. ap (λ (z : PassShown). z.seen_blocks) e ∙ found.0) (λ j. found_in n qs p found.1 j) (in_cons i)

-- all passes that are given out, and the others, which have done nothing
pub have_drawn : (l : Limits) (n : ℕ) (w w' : View) (p : PassShown) (ps : List PassShown) → lot_shown p ≡ lot_of (hand w) → AreNumberedFrom 0 (p ∷ ps) → length ps + 1 ≤ l.parts
    → untraced w'.hands ≡ fresh_from l (length ps + 1) (l.parts - (length ps + 1)) → AreLots l n (lots w w' ps) → HaveFound n (p ∷ ps) → HaveDrawn n (p ∷ ps)
have_drawn l n w w' p ps is from few fresh r found = record {
  found = λ q i. found_in n (p ∷ ps) q found i;
  below = λ q i. r.below (lot_shown q) (in_lots q i);
  all = all;
  alone = alone;
  total = total_is 0 n (p ∷ ps) from (λ q i. r.below (lot_shown q) (in_lots q i)) all alone;
}
  where
    in_lots : (q : PassShown) → In q (p ∷ ps) → In (lot_shown q) (lots w w' ps)
    in_lots q i = ⊎_elim (λ e. in_here (map lot_of w'.hands ++ map lot_shown ps) (ap lot_shown e ∙ is)) (λ j. there (in_right (map lot_of w'.hands) (in_map_to lot_shown j))) (in_cons i)

    every : AreEvery l (lots w w' ps)
    every c given = dite (dec_le (length ps + 1) c)
        (λ out. let t = fresh_has l (length ps + 1) (l.parts - (length ps + 1)) c w'.hands fresh out (omega arith) in (lot_of t.0, there (in_left (map lot_shown ps) (in_map_to lot_of t.1)), t.2))
        (λ not. let t = from_has 0 c (p ∷ ps) from (omega arith) (omega arith) in (lot_shown t.0, in_lots t.0 t.1, t.2))

    all : (b : ℕ) → b < n → (q : PassShown) × In q (p ∷ ps) × In b q.blocks
    all b less = let t = r.all every b less in ⊎_elim
        (λ e. (p, here, subst (λ (z : Lot). In b z.blocks) (e ∙ sym is) t.2))
        (λ i. ⊎_elim
        (λ j. let q = in_map lot_of t.0 w'.hands j in absurd (in_none (subst (In b) (ap (λ (z : Lot). z.blocks) q.2 ∙ fresh_none l (length ps + 1) (l.parts - (length ps + 1)) w'.hands fresh q.0 q.1) t.2)))
        (λ j. let q = in_map lot_shown t.0 ps j in (q.0, there q.1, subst (λ (z : Lot). In b z.blocks) q.2 t.2))
        (in_either (map lot_of w'.hands) (map lot_shown ps) i)) (in_cons t.1)

    alone : (q s : PassShown) (b : ℕ) → In q (p ∷ ps) → In s (p ∷ ps) → In b q.blocks → In b s.blocks → q.number ≡ s.number
    alone q s b i j has has' = r.alone (lot_shown q) (lot_shown s) b (in_lots q i) (in_lots s j) has has'
