-- Rows that were passed where the rows are a circle.
use Rattle.std.proofs.Common.{◌≡◌, ◌⊎◌, ℕ, ◌+◌, ◌-◌, ◌*◌, ◌<◌, ◌≤◌, List, [], ◌∷◌, ◌++◌, sym, ap, ◌∙◌, subst, inr, ⊎_elim, arith, Option, None, Some, MatchOption}
use Rattle.std.proofs.Math.Nat.{add-mul}
use mathlib.Core.Logic.{dite}
use native.Mathlib.Decide.{dec_le}
use Rattle.tp_model.specs.declared.types.Element.{Element}
use Rattle.tp_model.specs.declared.types.Limits.{Limits}
use Rattle.tp_model.specs.declared.event.Event.{Event}
use Rattle.tp_model.specs.Passes.{opening_of}
use Rattle.tp_model.specs.Steps.{rows_of}
use Rattle.tp_model.proofs.Bridges.{begins_refl, begins_trans}
use Rattle.tp_model.proofs.Later.{births_inside}
use Rattle.tp_model.specs.declared.event.Event.TheVariants.{Claim}
use Rattle.tp_rule.specs.Steps.{claimed, with_claim}
use Rattle.tp_rule.specs.Views.{hand}
use Rattle.tp_rule.specs.declared.view.View.{View}
use Rattle.tp_manager.specs.Bounds.{drawn_steps, try_steps, circle_steps}
use Rattle.tp_manager.specs.declared.seeker.Taken.{Taken}
use Rattle.tp_manager.specs.CallSteps.{with_trace}
use Rattle.tp_manager.specs.Scans.{Begun, EachRow, PassedBy, Sought, Took, TookNext}
use Rattle.tp_manager.proofs.Calls.Points.{has_more, opening_kept}
use Rattle.tp_manager.proofs.Claims.Scans.{passed_widens, took_few, took_then}
use Rattle.tp_manager.proofs.Rows.Seeks.{Widens, begun_few, begun_on}
use Rattle.tp_manager.proofs.Calls.CallSteps.{sought_few, walked_begins, walked_few, walked_then}

-- fewer rows
pub sought_less : (l : Limits) (n : ℕ) (P : ℕ → List Event → List Event → Type 0) (from to top : ℕ) (v w : View) → to ≤ top → Sought l n (EachRow P from top) v w → Sought l n (EachRow P from to) v w
sought_less l n P from to top v w le s = record { marks = s.marks; walk = s.walk; kept = s.kept; step = s.step; passed = λ i low high. s.passed i low (omega arith) }

-- rows that were passed, if any, and then others after them, if any
pub begun_then : (l : Limits) (P : ℕ → List Event → List Event → Type 0) → Widens P → (m k from n top : ℕ) (v w y : View) → from ≤ n → Begun l P m from n v w → Begun l P k n top w y → Begun l P (m + k) from top v y
begun_then l P widens m k from n top v w y le b c = ⊎_elim
    (λ t. subst (λ (z : ℕ × View). Begun l P (m + k) from z.0 v z.1) (λ i. (sym t.0 i, sym t.1 i)) (begun_few l P widens m from (m + k) n v w (omega arith) b))
    (λ s. begun_on l P widens m from k n v w y b top le s) c

module _ (l : Limits) (stage : ℕ) where
  -- rows that were passed to the end, and then those from the first on: all were
  pub circle_idle : (n m from : ℕ) (v w y : View) → from ≤ rows_of l → 0 < rows_of l → Begun l (PassedBy l stage) n from (rows_of l) v w → Begun l (PassedBy l stage) m 0 from w y → Sought l (n + m) (EachRow (PassedBy l stage) 0 (rows_of l)) v y
  circle_idle n m from v w y inside some b c = ⊎_elim
      (λ p. ⊎_elim
      (λ q. absurd (let e = p.0 in let f = q.0 in omega arith))
      (λ t. subst (λ (z : ℕ × View). Sought l (n + m) (EachRow (PassedBy l stage) 0 z.0) z.1 y) (λ i. (sym p.0 i, p.1 i)) (sought_few l m (n + m) (EachRow (PassedBy l stage) 0 from) w y (omega arith) t)) c)
      (λ s. ⊎_elim
      (λ q. subst (λ (z : ℕ × View). Sought l (n + m) (EachRow (PassedBy l stage) z.0 (rows_of l)) v z.1) (λ i. (q.0 i, sym q.1 i)) (sought_few l n (n + m) (EachRow (PassedBy l stage) from (rows_of l)) v w (omega arith) s))
      (λ t. record {
        marks = s.marks ++ t.marks;
        walk = walked_then l n m s.marks t.marks v w y s.walk t.walk;
        kept = t.kept ∙ ap (λ z. with_trace (hand y).trace z) s.kept;
        step = has_more s.marks t.marks s.step;
        passed = λ j low high. subst (λ o. PassedBy l stage j o y.seen) (sym (opening_kept v.seen s.marks t.marks s.step.0 s.step.1 s.step.2))
            (dite (dec_le from j)
            (λ past. passed_widens l stage j (opening_of v.seen s.marks) (opening_of v.seen s.marks) w.seen y.seen (begins_refl (opening_of v.seen s.marks)) (walked_begins l m t.marks w y t.walk) (s.passed j past high))
            (λ not. passed_widens l stage j (opening_of v.seen s.marks) (opening_of w.seen t.marks) y.seen y.seen (begins_trans (opening_of v.seen s.marks) w.seen (opening_of w.seen t.marks) s.walk.closes t.walk.opens) (begins_refl y.seen) (t.passed j (omega arith) (omega arith))));
      }) c) b

  module _ (u attempt : ℕ) (e : Element) where
    -- what was taken, whatever was passed
    abbrev took_self : (n m from : ℕ) (v w : View) → n ≤ m → Took l n from stage u v w e attempt → Took l m e.id stage u v w e attempt
    took_self n m from v w le t = record {
      marks = t.marks;
      walk = walked_few l n m t.marks v w le t.walk;
      kept = t.kept;
      before = t.before;
      begins = t.begins;
      ends = t.ends;
      born = t.born;
      of_stage = t.of_stage;
      reach = omega arith;
      step = t.step;
      passed = λ i low high. absurd (omega arith);
    }

    -- and after other rows
    abbrev took_behind : (n m from to lo : ℕ) (v w y : View) → Sought l n (EachRow (PassedBy l stage) from to) v w → Took l m lo stage u w y e attempt → Took l (n + m) e.id stage u v y e attempt
    took_behind n m from to lo v w y s t = record {
      marks = s.marks ++ t.marks;
      walk = walked_then l n m s.marks t.marks v w y s.walk t.walk;
      kept = subst (λ k. hand y ≡ with_trace (hand y).trace (with_claim u (Claim k u e.id attempt) (hand v))) s.walk.number (t.kept ∙ ap (λ k. with_trace (hand y).trace (with_claim u (claimed w u e.id attempt) k)) s.kept);
      before = t.before;
      begins = begins_trans v.seen w.seen t.before (walked_begins l n s.marks v w s.walk) t.begins;
      ends = t.ends ∙ ap (λ k. t.before ++ Claim k u e.id attempt ∷ []) s.walk.number;
      born = t.born;
      of_stage = t.of_stage;
      reach = omega arith;
      step = has_more s.marks t.marks s.step;
      passed = λ i low high. absurd (omega arith);
    }

    -- an element after the row where the circle begins
    pub circle_first : (n m from : ℕ) (v w : View) → n ≤ m → Took l n from stage u v w e attempt → TookNext l m from stage u v w e attempt
    circle_first n m from v w le t = record {
      took = took_self n m from v w le t;
      passed = λ i inside id. ⊎_elim (λ p. t.passed i p.0 p.1) (λ p. absurd (let less = p.0 in let reach = t.reach in omega arith)) id;
    }

    -- or one before it
    pub circle_second : (n m from : ℕ) (v w y : View) → Begun l (PassedBy l stage) n from (rows_of l) v w → Took l m 0 stage u w y e attempt → TookNext l (n + m) from stage u v y e attempt
    circle_second n m from v w y b t = ⊎_elim
        (λ p. subst (λ z. TookNext l (n + m) from stage u z y e attempt) p.1 record {
          took = took_self m (n + m) 0 w y (omega arith) t;
          passed = λ i inside id. t.passed i (omega arith) (⊎_elim (λ q. q.1) (λ q. ⊎_elim (λ low. absurd (let all = p.0 in omega arith)) (λ less. less) q.1) id);
        })
        (λ s. record {
          took = took_behind n m from (rows_of l) 0 v w y s t;
          passed = λ i inside id. subst (λ o. PassedBy l stage i o y.seen) (sym (opening_kept v.seen s.marks t.marks s.step.0 s.step.1 s.step.2))
              (⊎_elim (λ q. early s i q.1) (λ q. ⊎_elim (λ low. late s i low inside) (λ less. early s i less) q.1) id);
        }) b
      where
        early : (s : Sought l n (EachRow (PassedBy l stage) from (rows_of l)) v w) (i : ℕ) → i < e.id → PassedBy l stage i (opening_of v.seen s.marks) y.seen
        early s i less = passed_widens l stage i (opening_of v.seen s.marks) (opening_of w.seen t.marks) y.seen y.seen (begins_trans (opening_of v.seen s.marks) w.seen (opening_of w.seen t.marks) s.walk.closes t.walk.opens) (begins_refl y.seen) (t.passed i (omega arith) less)

        late : (s : Sought l n (EachRow (PassedBy l stage) from (rows_of l)) v w) (i : ℕ) → from ≤ i → i < rows_of l → PassedBy l stage i (opening_of v.seen s.marks) y.seen
        late s i low inside = passed_widens l stage i (opening_of v.seen s.marks) (opening_of v.seen s.marks) w.seen y.seen (begins_refl (opening_of v.seen s.marks)) (walked_begins l m t.marks w y t.walk) (s.passed i low inside)

    pub next_few : (n m from : ℕ) (v w : View) → n ≤ m → TookNext l n from stage u v w e attempt → TookNext l m from stage u v w e attempt
    next_few n m from v w le t = record { took = took_self n m e.id v w le t.took; passed = t.passed }

    -- a circle that begins after all rows begins at the first
    pub circle_whole : (n turn from : ℕ) (v w : View) → ((from ≡ turn) × (turn ≤ rows_of l)) ⊎ ((from ≡ rows_of l) × (rows_of l < turn)) → TookNext l n from stage u v w e attempt → TookNext l n turn stage u v w e attempt
    circle_whole n turn from v w is t = ⊎_elim
        (λ p. subst (λ z. TookNext l n z stage u v w e attempt) p.0 t)
        (λ p. (let all = p.0 in let out = p.1 in let born = births_inside l w.seen t.took.walk.steady.shows.legal e t.took.born in record {
          took = t.took;
          passed = λ i inside id. t.passed i inside (⊎_elim (λ q. absurd (let low = q.0 in omega arith)) (λ q. ⊎_elim (λ low. absurd (omega arith)) (λ less. inr ((let z : e.id < from = omega arith in z), inr less)) q.1) id);
        })) is

-- rows up to one, and from there on
pub split_rows : (from mid to s : ℕ) → from ≤ mid → mid ≤ to → (mid - from) * s + (to - mid) * s ≡ (to - from) * s
split_rows from mid to s low high = let e : (mid - from) + (to - mid) ≡ to - from = omega arith in sym (add-mul (mid - from) (to - mid) s) ∙ ap (λ z. z * s) e

-- what a look at these rows, and then at others after them, came to
pub rows_both : (l : Limits) (stage u most n m from mid to : ℕ) (v w y : View) (o : Option Taken) → n + m ≤ most → from ≤ mid → mid ≤ to → Begun l (PassedBy l stage) n from mid v w
    → MatchOption o (Begun l (PassedBy l stage) m mid to w y) (λ (t : Taken). Took l m mid stage u w y t.element t.attempt × (t.element.root ≡ t.root))
    → MatchOption o (Begun l (PassedBy l stage) most from to v y) (λ (t : Taken). Took l most from stage u v y t.element t.attempt × (t.element.root ≡ t.root))
rows_both l stage u most n m from mid to v w y None few low high b c = begun_few l (PassedBy l stage) (passed_widens l stage) (n + m) from most to v y few (begun_then l (PassedBy l stage) (passed_widens l stage) n m from mid to v w y low b c)
rows_both l stage u most n m from mid to v w y (Some t) few low high b c = (took_few l stage u t.attempt t.element (n + m) most from v y few (took_then l stage u t.attempt t.element n m from mid v w y low b c.0), c.1)

module _ (l : Limits) (stage u rows from turn : ℕ) (all : rows ≡ rows_of l) (inside : from ≤ rows) (is : ((from ≡ turn) × (turn ≤ rows)) ⊎ ((from ≡ rows) × (rows < turn))) where
  whole : ((from ≡ turn) × (turn ≤ rows_of l)) ⊎ ((from ≡ rows_of l) × (rows_of l < turn))
  whole = subst (λ z. ((from ≡ turn) × (turn ≤ z)) ⊎ ((from ≡ z) × (z < turn))) all is

  abbrev most : ℕ
  most = 6 * l.parts + 2 * drawn_steps l.spare + rows_of l * try_steps

  few : circle_steps l (rows - from) + circle_steps l (from - 0) ≤ most
  few = let e = split_rows 0 from rows try_steps (omega arith) inside in let z : rows - 0 ≡ rows = omega arith in let f : (rows - 0) * try_steps ≡ rows_of l * try_steps = ap (λ x. x * try_steps) (z ∙ all) in omega arith

  -- what a look from row `from` on came to
  pub turn_first : (v w : View) (t : Taken) → Took l (circle_steps l (rows - from)) from stage u v w t.element t.attempt → TookNext l most turn stage u v w t.element t.attempt
  turn_first v w t k = circle_whole l stage u t.attempt t.element most turn from v w whole (circle_first l stage u t.attempt t.element (circle_steps l (rows - from)) most from v w (omega (arith, few)) k)

  -- and then one up to it
  pub turn_both : (v w y : View) (o : Option Taken) → 0 < rows_of l → Begun l (PassedBy l stage) (circle_steps l (rows - from)) from rows v w
      → MatchOption o (Begun l (PassedBy l stage) (circle_steps l (from - 0)) 0 from w y) (λ (t : Taken). Took l (circle_steps l (from - 0)) 0 stage u w y t.element t.attempt × (t.element.root ≡ t.root))
      → MatchOption o (Sought l most (EachRow (PassedBy l stage) 0 (rows_of l)) v y) (λ (t : Taken). TookNext l most turn stage u v y t.element t.attempt × (t.element.root ≡ t.root))
  turn_both v w y None some b c = sought_few l (circle_steps l (rows - from) + circle_steps l (from - 0)) most (EachRow (PassedBy l stage) 0 (rows_of l)) v y few
      (circle_idle l stage (circle_steps l (rows - from)) (circle_steps l (from - 0)) from v w y (omega arith) some (subst (λ z. Begun l (PassedBy l stage) (circle_steps l (rows - from)) from z v w) all b) c)
  turn_both v w y (Some t) some b c = (
    circle_whole l stage u t.attempt t.element most turn from v y whole (next_few l stage u t.attempt t.element (circle_steps l (rows - from) + circle_steps l (from - 0)) most from v y few
        (circle_second l stage u t.attempt t.element (circle_steps l (rows - from)) (circle_steps l (from - 0)) from v w y (subst (λ z. Begun l (PassedBy l stage) (circle_steps l (rows - from)) from z v w) all b) c.0)),
    c.1,
  )
