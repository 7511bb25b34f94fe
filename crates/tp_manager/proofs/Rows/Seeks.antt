-- A look at one row after another.
use Rattle.std.proofs.Common.{◌≡◌, ◌≢◌, ℕ, zero, suc, ◌+◌, ◌*◌, ◌<◌, ◌≤◌, List, ◌++◌, sym, ap, ◌∙◌, subst, refl, inl, inr, ⊎_elim, arith, suc-mul, mul-le-mul_right}
use Rattle.std.proofs.lemmas.Bool.Decides.{eqb_tells}
use mathlib.Core.Logic.{dite}
use native.Mathlib.Decide.{dec_le}
use mathlib.Core.List.{IsPrefix}
use Rattle.tp_model.specs.declared.event.Event.{Event}
use Rattle.tp_model.specs.declared.types.Limits.{Limits}
use Rattle.tp_model.specs.Passes.{opening_of}
use Rattle.tp_model.specs.Steps.{IsRowOf, part_rows}
use Rattle.tp_model.specs.History.{IsUnborn}
use Rattle.tp_model.proofs.Bridges.{begins_refl, begins_trans, in_right}
use Rattle.tp_rule.specs.Views.{hand}
use Rattle.tp_rule.specs.declared.view.View.{View}
use Rattle.tp_manager.specs.Looks.{GoesOn}
use Rattle.tp_manager.specs.CallSteps.{Acted, Looked, Steady, with_trace}
use Rattle.tp_manager.specs.Scans.{Begun, EachRow, OfPart, Sought}
use Rattle.tp_manager.proofs.Calls.Points.{has_more, opening_kept, opening_later}
use Rattle.tp_manager.proofs.Calls.CallSteps.{acted_then, looked_begins, looked_few, looked_none, opening_first, sought_by, sought_few, walked_begins, walked_few, walked_then}

-- Passed holds from an earlier history on and to a later one too
abbrev pub Widens : (ℕ → List Event → List Event → Type 0) → Type 0
Widens Passed = (i : ℕ) (a a' b b' : List Event) → IsPrefix a a' → IsPrefix b b' → Passed i a' b → Passed i a b'

-- each row of n takes s steps
pub rows_more : (n m s : ℕ) → n < m → n * s + s ≤ m * s
rows_more n m s less = let all : suc n * s ≤ m * s = mul-le-mul_right s less in omega (arith, suc-mul n s)

module _ (l : Limits) (Passed : ℕ → List Event → List Event → Type 0) (widens : Widens Passed) where
  -- a look at the head of row i, and what follows it: the row was passed, and so were those up to row `next`, where nothing is born
  module _ (n m i next : ℕ) (v w y : View) (first : Acted l 1 v w) (rest : Looked l m w y) (le : 1 + m ≤ n) where
    begun_by : IsPrefix (opening_of v.seen (first.marks ++ rest.marks)) w.seen
    begun_by = subst (λ o. IsPrefix o w.seen) (sym (opening_first l 1 m v w y first rest)) first.walk.closes

    pub sought_on : ((j : ℕ) (h : List Event) → IsUnborn h j → Passed j h h) → ((j : ℕ) → i < j → j < next → IsUnborn w.seen j) → Passed i w.seen y.seen → Sought l n (EachRow Passed i next) v y
    sought_on none skips own = sought_few l (1 + m) n (EachRow Passed i next) v y le (sought_by l (1 + m) (EachRow Passed i next) v y (acted_then l 1 m v w y first rest)
        (λ j low high. elim (eqb_tells j i) [
          | inl e ↦ subst (λ z. Passed z (opening_of v.seen (first.marks ++ rest.marks)) y.seen) (sym e.1) (widens i _ w.seen y.seen y.seen begun_by (begins_refl y.seen) own)
          | inr e ↦ (let other : j ≢ i = e.1 in widens j _ w.seen w.seen y.seen begun_by (looked_begins l m w y rest) (none j w.seen (skips j (omega arith) high)))
        ]))

module _ (l : Limits) (Passed : ℕ → List Event → List Event → Type 0) (widens : Widens Passed) (m from : ℕ) where
  -- this many steps that look at one more row, which is passed or not
  module _ (k n : ℕ) (v w y : View) (b : Begun l Passed m from n v w) where
    abbrev after : (a : Acted l k w y) (s : Sought l m (EachRow Passed from n) v w) → Sought l (m + k) (EachRow Passed from n) v y
    after a s = record {
      marks = s.marks ++ a.marks;
      walk = walked_then l m k s.marks a.marks v w y s.walk a.walk;
      kept = a.kept ∙ ap (λ z. with_trace (hand y).trace z) s.kept;
      step = has_more s.marks a.marks s.step;
      passed = λ i p q. subst (λ o. Passed i o y.seen) (sym (opening_kept v.seen s.marks a.marks s.step.0 s.step.1 s.step.2))
          (widens i (opening_of v.seen s.marks) (opening_of v.seen s.marks) w.seen y.seen (begins_refl (opening_of v.seen s.marks)) (walked_begins l k a.marks w y a.walk) (s.passed i p q));
    }

    first : (a : Acted l k w y) → n ≡ from → w ≡ v → Sought l (m + k) (EachRow Passed from n) v y
    first a at same = subst (λ z. Sought l (m + k) (EachRow Passed from n) z y) same record {
      marks = a.marks;
      walk = walked_few l k (m + k) a.marks w y (omega arith) a.walk;
      kept = a.kept;
      step = a.step;
      passed = λ i p q. absurd (omega arith);
    }

    -- the rows before it were passed all the same
    pub begun_hit : Acted l k w y → Sought l (m + k) (EachRow Passed from n) v y
    begun_hit a = ⊎_elim (λ t. first a t.0 t.1) (after a) b

    -- or it and others are passed, up to row `next`
    module _ (next : ℕ) (start : from ≤ n) where
      only : Sought l k (EachRow Passed n next) w y → n ≡ from → w ≡ v → Sought l (m + k) (EachRow Passed from next) v y
      only s at same = subst (λ z. Sought l (m + k) (EachRow Passed from next) z y) same record {
        marks = s.marks;
        walk = walked_few l k (m + k) s.marks w y (omega arith) s.walk;
        kept = s.kept;
        step = s.step;
        passed = λ i p q. s.passed i (omega arith) q;
      }

      more : Sought l k (EachRow Passed n next) w y → Sought l m (EachRow Passed from n) v w → Sought l (m + k) (EachRow Passed from next) v y
      more s t = let h = after (record { marks = s.marks; walk = s.walk; kept = s.kept; step = s.step }) t in let opened : opening_of v.seen h.marks ≡ opening_of v.seen t.marks = opening_kept v.seen t.marks s.marks t.step.0 t.step.1 t.step.2 in record {
        marks = t.marks ++ s.marks;
        walk = h.walk;
        kept = h.kept;
        step = h.step;
        passed = λ i p q. dite (dec_le n i)
            (λ later. subst (λ o. Passed i o y.seen) (sym opened)
            (widens i (opening_of v.seen t.marks) (opening_of w.seen s.marks) y.seen y.seen (begins_trans (opening_of v.seen t.marks) w.seen (opening_of w.seen s.marks) t.walk.closes s.walk.opens) (begins_refl y.seen) (s.passed i later q)))
            (λ before. h.passed i p (omega arith));
      }

      pub begun_sought : Sought l k (EachRow Passed n next) w y → Sought l (m + k) (EachRow Passed from next) v y
      begun_sought s = ⊎_elim (λ t. only s t.0 t.1) (more s) b

      pub begun_on : Sought l k (EachRow Passed n next) w y → Begun l Passed (m + k) from next v y
      begun_on s = inr (begun_sought s)

  -- where there is a row to look at, all were passed at the end
  pub begun_done : (n : ℕ) (v w : View) → Begun l Passed m from n v w → from < n → Sought l m (EachRow Passed from n) v w
  begun_done n v w b some = ⊎_elim (λ t. let e = t.0 in absurd (omega arith)) (λ t. t) b

  pub begun_looked : (n : ℕ) (v w : View) → Begun l Passed m from n v w → Steady l v → Looked l m v w
  begun_looked n v w b steady = ⊎_elim (λ t. subst (λ z. Looked l m v z) (sym t.1) (looked_few l 0 m v v (omega arith) (looked_none l v steady)))
      (λ t. record { marks = t.marks; walk = t.walk; kept = t.kept }) b

  pub begun_few : (k n : ℕ) (v w : View) → m ≤ k → Begun l Passed m from n v w → Begun l Passed k from n v w
  begun_few k n v w le b = ⊎_elim (λ t. inl t) (λ t. inr (sought_few l m k (EachRow Passed from n) v w le t)) b

-- a look, and rows after it: those before the first of them were passed by then
module _ (l : Limits) (Passed : ℕ → List Event → List Event → Type 0) (widens : Widens Passed) (m lo from n : ℕ) (v w y : View) (first : Acted l 1 v w) where
  rest : Begun l Passed m from n w y → Looked l m w y
  rest b = begun_looked l Passed widens m from n w y b first.walk.steady

  pub sought_from : (b : Begun l Passed m from n w y) → ((i : ℕ) → lo ≤ i → i < from → Passed i w.seen w.seen) → Sought l (1 + m) (EachRow Passed lo n) v y
  sought_from b below = sought_by l (1 + m) (EachRow Passed lo n) v y (acted_then l 1 m v w y first (rest b))
      (λ i low high. let opened = begun_by l Passed widens (1 + m) m 0 0 v w y first (rest b) (omega arith) in let later = looked_begins l m w y (rest b) in
      dite (dec_le from i)
      (λ past. ⊎_elim (λ t. absurd (let e = t.0 in omega arith))
      (λ t. widens i _ (opening_of w.seen t.marks) y.seen y.seen (begins_trans _ w.seen _ opened t.walk.opens) (begins_refl y.seen) (t.passed i past high)) b)
      (λ not. widens i _ w.seen w.seen y.seen opened later (below i low (omega arith))))

-- a look after, of which nothing hangs
pub sought_then : (l : Limits) (n m : ℕ) (P : List Event → List Event → Type 0) (v w y : View) → ((a b c : List Event) → IsPrefix b c → P a b → P a c) → Sought l n P v w → Looked l m w y → Sought l (n + m) P v y
sought_then l n m P v w y grows s a = record {
  marks = s.marks ++ a.marks;
  walk = walked_then l n m s.marks a.marks v w y s.walk a.walk;
  kept = a.kept ∙ ap (λ z. with_trace (hand y).trace z) s.kept;
  step = has_more s.marks a.marks s.step;
  passed = subst (λ o. P o y.seen) (sym (opening_kept v.seen s.marks a.marks s.step.0 s.step.1 s.step.2)) (grows _ w.seen y.seen (looked_begins l m w y a) s.passed);
}

-- rows part by part
pub part_widens : (l : Limits) (Passed : ℕ → List Event → List Event → Type 0) → Widens Passed → Widens (OfPart l Passed)
part_widens l Passed widens c a a' b b' before after each i low high = widens i a a' b b' before after (each i low high)

-- a row is of some part
pub part_of : (size parts i : ℕ) → i < parts * size → (c : ℕ) × (c < parts) × (c * size ≤ i) × (i < c * size + size)
part_of size zero i less = absurd (omega arith)
part_of size (suc parts) i less = dite (dec_le (parts * size) i)
    (λ past. (parts, omega arith, past, (let all : i < suc parts * size = less in omega (arith, suc-mul parts size))))
    (λ not. let t = part_of size parts i (omega arith) in let below : t.0 < parts = t.1 in (t.0, omega arith, t.2, t.3))

-- a scan that goes on from a row of a part goes no further than to the part's end
pub part_on : (l : Limits) (i next c : ℕ) → GoesOn l i next → IsRowOf l c i → next ≤ c * l.rows + l.rows
part_on l i next c on row = on.area (c * l.rows) (c * l.rows + l.rows) (inl (c, (row.0, refl, refl))) row.1 row.2

pub all_parts : (l : Limits) (Passed : ℕ → List Event → List Event → Type 0) (a b : List Event) → EachRow (OfPart l Passed) 0 l.parts a b → EachRow Passed 0 (part_rows l) a b
all_parts l Passed a b each i low high = let t = part_of l.rows l.parts i high in each t.0 (omega arith) t.1 i t.2 t.3

pub sought_all : (l : Limits) (n : ℕ) (Passed : ℕ → List Event → List Event → Type 0) (v w : View) → Sought l n (EachRow (OfPart l Passed) 0 l.parts) v w → Sought l n (EachRow Passed 0 (part_rows l)) v w
sought_all l n Passed v w s = record { marks = s.marks; walk = s.walk; kept = s.kept; step = s.step; passed = all_parts l Passed (opening_of v.seen s.marks) w.seen s.passed }

-- one row is each row from it on and below the next
pub one_row : (l : Limits) (Passed : ℕ → List Event → List Event → Type 0) (n i : ℕ) (v w : View) → Sought l n (Passed i) v w → Sought l n (EachRow Passed i (i + 1)) v w
one_row l Passed n i v w s = record {
  marks = s.marks;
  walk = s.walk;
  kept = s.kept;
  step = s.step;
  passed = λ j low high. let same : i ≡ j = omega arith in subst (λ z. Passed z (opening_of v.seen s.marks) w.seen) same s.passed;
}

-- a look, and rows after it up to row n: what is after these was passed by then
module _ (l : Limits) (Passed : ℕ → List Event → List Event → Type 0) (widens : Widens Passed) (m from n top : ℕ) (v w y : View) (first : Acted l 1 v w) where
  pub sought_up : (b : Begun l Passed m from n w y) → ((i : ℕ) → n ≤ i → i < top → Passed i w.seen w.seen) → Sought l (1 + m) (EachRow Passed from top) v y
  sought_up b behind = let rest = begun_looked l Passed widens m from n w y b first.walk.steady in
      sought_by l (1 + m) (EachRow Passed from top) v y (acted_then l 1 m v w y first rest)
      (λ i low high. let opened = begun_by l Passed widens (1 + m) m 0 0 v w y first rest (omega arith) in let later = looked_begins l m w y rest in
      dite (dec_le n i)
      (λ past. widens i _ w.seen w.seen y.seen opened later (behind i past high))
      (λ not. ⊎_elim (λ t. absurd (let e = t.0 in omega arith))
      (λ t. widens i _ (opening_of w.seen t.marks) y.seen y.seen (begins_trans _ w.seen _ opened t.walk.opens) (begins_refl y.seen) (t.passed i low (omega arith))) b))

-- rows that were passed, and others after them, if there are any
pub sought_more : (l : Limits) (Passed : ℕ → List Event → List Event → Type 0) → Widens Passed → (m k from n top : ℕ) (v w y : View) → from ≤ n → n ≤ top → Sought l m (EachRow Passed from n) v w → Begun l Passed k n top w y → Sought l (m + k) (EachRow Passed from top) v y
sought_more l Passed widens m k from n top v w y start le s b = ⊎_elim
    (λ t. subst (λ (z : ℕ × View). Sought l (m + k) (EachRow Passed from z.0) v z.1) (λ i. (sym t.0 i, sym t.1 i)) (sought_few l m (m + k) (EachRow Passed from n) v w (omega arith) s))
    (λ t. begun_sought l Passed widens m from k n v w y (inr s) top start t) b

-- a look after steps of which nothing hangs
pub sought_behind : (l : Limits) (n m : ℕ) (Passed : ℕ → List Event → List Event → Type 0) → Widens Passed → (from to : ℕ) (v w y : View) → Looked l n v w → Sought l m (EachRow Passed from to) w y → Sought l (n + m) (EachRow Passed from to) v y
sought_behind l n m Passed widens from to v w y a s = record {
  marks = a.marks ++ s.marks;
  walk = walked_then l n m a.marks s.marks v w y a.walk s.walk;
  kept = s.kept ∙ ap (λ z. with_trace (hand y).trace z) a.kept;
  step = (s.step.0, in_right a.marks s.step.1, s.step.2);
  passed = λ i low high. widens i _ (opening_of w.seen s.marks) y.seen y.seen (opening_later v.seen w.seen a.marks s.marks a.walk.closes s.walk.opens) (begins_refl y.seen) (s.passed i low high);
}

-- a look at a row from which on nothing is born: the rows before it were passed by then
pub sought_bare : (l : Limits) (Passed : ℕ → List Event → List Event → Type 0) → Widens Passed → (lo row end : ℕ) (v w : View) → Acted l 1 v w → ((j : ℕ) (h : List Event) → IsUnborn h j → Passed j h h)
    → ((i : ℕ) → lo ≤ i → i < row → Passed i w.seen w.seen) → ((i : ℕ) → row ≤ i → i < end → IsUnborn w.seen i) → Sought l 1 (EachRow Passed lo end) v w
sought_bare l Passed widens lo row end v w a none below behind =
    sought_from l Passed widens 0 lo end end v w w a (inl (refl, refl)) (λ i low high. dite (dec_le row i) (λ past. none i w.seen (behind i past high)) (λ not. below i low (omega arith)))
