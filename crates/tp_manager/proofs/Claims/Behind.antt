-- Scans that go on behind a row which may be of use, and pass a gap.
use Rattle.std.proofs.Common.{◌≡◌, ◌≢◌, ◌⊎◌, ℕ, ◌+◌, ◌*◌, ◌<◌, ◌≤◌, List, ◌++◌, length, slice_index, slice_set, MatchOption, Option, Some, None, refl, sym, ap, ◌∙◌, subst, inl, inr, ⊎_elim, arith}
use mathlib.Core.Logic.{dite}
use native.Mathlib.Decide.{dec_le, ℕ_discrete}
use Rattle.std.proofs.lemmas.List.{get_or-set_same, get_or-set_other, length-set}
use Rattle.tp_model.specs.declared.event.Event.{Event}
use Rattle.tp_model.specs.declared.types.Element.{Element}
use Rattle.tp_model.specs.declared.types.Limits.{Limits}
use Rattle.tp_model.specs.Passes.{opening_of}
use Rattle.tp_model.specs.Steps.{rows_of}
use Rattle.tp_model.proofs.Bridges.{begins_refl, begins_trans}
use Rattle.tp_rule.specs.declared.view.View.{View}
use Rattle.tp_rule.specs.Views.{hand}
use Rattle.tp_manager.specs.PastParts.{GoesBy}
use Rattle.tp_manager.specs.CallSteps.{Acted, Looked, Steady, with_trace}
use Rattle.tp_manager.specs.Marks.{AreOfStage, IsGap, Remembers, RemembersGaps, Rose, gap_in}
use Rattle.tp_manager.proofs.Claims.Runs.{of_both, of_none}
use Rattle.tp_manager.specs.Scans.{Begun, EachRow, NoneBehind, OfPart, PassedBy, Sought, Took}
use Rattle.tp_manager.specs.Spares.{Passed}
use Rattle.tp_manager.specs.declared.seeker.Taken.{Taken}
use Rattle.tp_manager.proofs.Calls.CallSteps.{looked_begins, looked_few, looked_none, looked_then, sought_by, sought_few, walked_then}
use Rattle.tp_manager.proofs.Calls.Points.{has_more, opening_kept}
use Rattle.tp_manager.proofs.Claims.Circles.{sought_less}
use Rattle.tp_manager.proofs.Claims.Spares.{sought_passed}
use Rattle.tp_manager.proofs.Claims.Scans.{none_passed, passed_widens, took_few, took_then}
use Rattle.tp_manager.proofs.Marks.Raises.{goes_walked, low_remembered, over_passed, useless_passed}
use Rattle.tp_manager.proofs.Marks.Useless.{rose_later}
use Rattle.tp_manager.proofs.Rows.Seeks.{Widens, begun_few, begun_looked, begun_on}

-- of a gap and two runs of rows either is a gap
pub longer_gap : (c : ℕ) (v : View) (gap r : ℕ × ℕ × ℕ) (born from to : ℕ) → (r ≡ gap) ⊎ (r ≡ (born, from, to)) → IsGap c v gap → AreOfStage c v.seen born from → Rose c v from to → IsGap c v r
longer_gap c v gap r born from to o old rows new = ⊎_elim (λ e. subst (IsGap c v) (sym e) old) (λ e. subst (IsGap c v) (sym e) (rows, new)) o

-- what is left of a gap from a row on
pub left_gap : (c : ℕ) (v : View) (gap r : ℕ × ℕ × ℕ) (from : ℕ) → ((r ≡ gap) × (from ≤ gap.1)) ⊎ (((r ≡ (from, from, gap.2)) × (gap.1 ≤ from) × (from < gap.2)) ⊎ (r ≡ (from, from, from))) → IsGap c v gap → IsGap c v r × (from ≤ r.1)
left_gap c v gap r from o old = ⊎_elim
    (λ t. subst (λ (z : ℕ × ℕ × ℕ). IsGap c v z × (from ≤ z.1)) (sym t.0) (old, t.1))
    (λ x. ⊎_elim
    (λ t. subst (λ (z : ℕ × ℕ × ℕ). IsGap c v z × (from ≤ z.1)) (sym t.0) (let up = t.1 in let some = t.2 in ((of_none c v.seen from, (omega arith, λ i low high. old.1.1 i (omega arith) high)), omega arith)))
    (λ e. subst (λ (z : ℕ × ℕ × ℕ). IsGap c v z × (from ≤ z.1)) (sym e) ((of_none c v.seen from, (omega arith, λ i low high. absurd (omega arith))), omega arith)) x) o

-- one gap beside those that the pass remembers
pub gaps_set : (c p : ℕ) (gap : ℕ × ℕ × ℕ) (gaps : List ℕ) (v : View) → 3 * p + 2 < length gaps → IsGap c v gap → RemembersGaps c v gaps → RemembersGaps c v (slice_set (slice_set (slice_set gaps (3 * p) gap.0) (3 * p + 1) gap.1) (3 * p + 2) gap.2)
gaps_set c p gap gaps v inside one all q = dite (ℕ_discrete q p)
    (λ same. subst (λ z. IsGap c v (gap_in three z)) (sym same) (subst (IsGap c v) (λ i. (sym starts i, sym turns i, sym ends i)) one))
    (λ other. subst (IsGap c v) (λ i. (
      sym (stays (3 * q) (λ e. other (omega arith)) (λ e. other (omega arith)) (λ e. other (omega arith))) i,
      sym (stays (3 * q + 1) (λ e. other (omega arith)) (λ e. other (omega arith)) (λ e. other (omega arith))) i,
      sym (stays (3 * q + 2) (λ e. other (omega arith)) (λ e. other (omega arith)) (λ e. other (omega arith))) i,
    )) (all q))
  where
    first : List ℕ
    first = slice_set gaps (3 * p) gap.0

    both : List ℕ
    both = slice_set first (3 * p + 1) gap.1

    three : List ℕ
    three = slice_set both (3 * p + 2) gap.2

    long : length both ≡ length gaps
    long = length-set first (3 * p + 1) gap.1 ∙ length-set gaps (3 * p) gap.0

    starts : slice_index three (3 * p) ≡ gap.0
    starts = get_or-set_other both (3 * p + 2) (3 * p) gap.2 0 (λ e. absurd (omega arith)) ∙ (get_or-set_other first (3 * p + 1) (3 * p) gap.1 0 (λ e. absurd (omega arith)) ∙ get_or-set_same gaps (3 * p) gap.0 0 (omega arith))

    turns : slice_index three (3 * p + 1) ≡ gap.1
    turns = get_or-set_other both (3 * p + 2) (3 * p + 1) gap.2 0 (λ e. absurd (omega arith)) ∙ get_or-set_same first (3 * p + 1) gap.1 0 (subst (λ n. 3 * p + 1 < n) (sym (length-set gaps (3 * p) gap.0)) (omega arith))

    ends : slice_index three (3 * p + 2) ≡ gap.2
    ends = get_or-set_same both (3 * p + 2) gap.2 0 (subst (λ n. 3 * p + 2 < n) (sym long) inside)

    stays : (k : ℕ) → k ≢ 3 * p → k ≢ 3 * p + 1 → k ≢ 3 * p + 2 → slice_index three k ≡ slice_index gaps k
    stays k a b d = get_or-set_other both (3 * p + 2) k gap.2 0 d ∙ (get_or-set_other first (3 * p + 1) k gap.1 0 b ∙ get_or-set_other gaps (3 * p) k gap.0 0 a)

-- fewer of the rows that were looked at
pub begun_less : (l : Limits) (P : ℕ → List Event → List Event → Type 0) (n m from to row : ℕ) (v w : View) → n ≤ m → from ≤ to → to ≤ row → Begun l P n from row v w → Begun l P m from to v w
begun_less l P n m from to row v w le up past b = ⊎_elim
    (λ t. let e = t.0 in inl (omega arith, t.1))
    (λ s. inr (sought_few l n m (EachRow P from to) v w le (sought_less l n P from to row v w past s))) b

module _ (l : Limits) (stage : ℕ) (server : 1 ≤ stage) where
  -- the rows of a gap are passed by
  pub gap_passed : (v : View) (a b : ℕ) → Steady l v → Rose stage v a b → (i : ℕ) → a ≤ i → i < b → PassedBy l stage i v.seen v.seen
  gap_passed v a b s r i low high = useless_passed l stage v i server s (r.1 i low high)

  -- rows before a gap, the gap, and rows behind it, of which nothing was taken
  pub behind_none : (n m from begin next to : ℕ) (v w y : View) → Steady l v → Begun l (PassedBy l stage) n from begin v w → Rose stage w begin next → Begun l (PassedBy l stage) m next to w y → Passed l (n + m) (PassedBy l stage) from to v y
  behind_none n m from begin next to v w y s b gap on =
      let P = PassedBy l stage in let W = passed_widens l stage in
      let first : Looked l n v w = begun_looked l P W n from begin v w b s in
      let rest : Looked l m w y = begun_looked l P W m next to w y on first.walk.steady in
      let before = looked_begins l n v w first in let after = looked_begins l m w y rest in (
        looked_then l n m v w y first rest,
        λ i low high. dite (dec_le next i)
            (λ behind. ⊎_elim (λ t. absurd (let e = t.0 in omega arith))
            (λ t. W i v.seen (opening_of w.seen t.marks) y.seen y.seen (begins_trans v.seen w.seen (opening_of w.seen t.marks) before t.walk.opens) (begins_refl y.seen) (t.passed i behind high)) on)
            (λ not. dite (dec_le begin i)
            (λ in_gap. W i v.seen w.seen w.seen y.seen before after (gap_passed w begin next first.walk.steady gap i in_gap (omega arith)))
            (λ under. ⊎_elim (λ t. absurd (let e = t.0 in omega arith))
            (λ t. W i v.seen (opening_of v.seen t.marks) w.seen y.seen t.walk.opens after (t.passed i low (omega arith))) b)),
      )

  module _ (u attempt : ℕ) (e : Element) where
    -- and of which one was taken behind the gap
    pub behind_took : (n m from begin next : ℕ) (v w y : View) → Steady l v → from ≤ begin → begin ≤ next → Begun l (PassedBy l stage) n from begin v w → Rose stage w begin next → Took l m next stage u w y e attempt → Took l (n + m) from stage u v y e attempt
    behind_took n m from begin next v w y s up on b gap t = let P = PassedBy l stage in let W = passed_widens l stage in ⊎_elim
        (λ o. subst (λ z. Took l (n + m) from stage u z y e attempt) o.1 (took_few l stage u attempt e m (n + m) from w y (omega arith) record {
          marks = t.marks;
          walk = t.walk;
          kept = t.kept;
          before = t.before;
          begins = t.begins;
          ends = t.ends;
          born = t.born;
          of_stage = t.of_stage;
          reach = let high = t.reach in omega arith;
          step = t.step;
          passed = λ i low high. dite (dec_le next i)
              (λ behind. t.passed i behind high)
              (λ not. let at = o.0 in let later = rose_later l stage w y begin next (goes_walked l m t.marks w y (subst (λ (z : View). z.limits ≡ l) (sym o.1) s.pass.1) t.walk) gap in
              W i (opening_of w.seen t.marks) y.seen y.seen y.seen t.walk.closes (begins_refl y.seen) (gap_passed y begin next t.walk.steady later i (omega arith) (omega arith)));
        }))
        (λ o. took_then l stage u attempt e n m from next v w y (omega arith) (inr record {
          marks = o.marks;
          walk = o.walk;
          kept = o.kept;
          step = o.step;
          passed = λ i low high. dite (dec_le begin i)
              (λ in_gap. W i (opening_of v.seen o.marks) w.seen w.seen w.seen o.walk.closes (begins_refl w.seen) (gap_passed w begin next o.walk.steady gap i in_gap high))
              (λ not. o.passed i low (omega arith));
        }) t) b

  -- rows that were passed since a look, and others after them, of which one was taken or none
  pub scan_on : (n m u from row to : ℕ) (v w y : View) (o : Option Taken) → from ≤ row → Sought l n (EachRow (PassedBy l stage) from row) v w
      → MatchOption o (Passed l m (PassedBy l stage) row to w y) (λ (t : Taken). Took l m row stage u w y t.element t.attempt × (t.element.root ≡ t.root))
      → MatchOption o (Sought l (n + m) (EachRow (PassedBy l stage) from to) v y) (λ (t : Taken). Took l (n + m) from stage u v y t.element t.attempt × (t.element.root ≡ t.root))
  scan_on n m u from row to v w y None up s p = let W = passed_widens l stage in record {
    marks = s.marks ++ p.0.marks;
    walk = walked_then l n m s.marks p.0.marks v w y s.walk p.0.walk;
    kept = p.0.kept ∙ ap (λ z. with_trace (hand y).trace z) s.kept;
    step = has_more s.marks p.0.marks s.step;
    passed = λ i low high. subst (λ z. PassedBy l stage i z y.seen) (sym (opening_kept v.seen s.marks p.0.marks s.step.0 s.step.1 s.step.2))
        (dite (dec_le row i)
        (λ past. W i (opening_of v.seen s.marks) w.seen y.seen y.seen s.walk.closes (begins_refl y.seen) (p.1 i past high))
        (λ not. W i (opening_of v.seen s.marks) (opening_of v.seen s.marks) w.seen y.seen (begins_refl (opening_of v.seen s.marks)) (looked_begins l m w y p.0) (s.passed i low (omega arith))));
  }
  scan_on n m u from row to v w y (Some t) up s p = (took_then l stage u t.attempt t.element n m from row v w y up (inr s) p.0, p.1)

  -- so of a scan behind a gap, whether it took one or none
  pub scan_gap : (n m k u from begin next to : ℕ) (v w y : View) (o : Option Taken) → Steady l v → n + m ≤ k → from ≤ begin → begin ≤ next → Begun l (PassedBy l stage) n from begin v w → Rose stage w begin next
      → MatchOption o (Begun l (PassedBy l stage) m next to w y) (λ (t : Taken). Took l m next stage u w y t.element t.attempt × (t.element.root ≡ t.root))
      → MatchOption o (Passed l k (PassedBy l stage) from to v y) (λ (t : Taken). Took l k from stage u v y t.element t.attempt × (t.element.root ≡ t.root))
  scan_gap n m k u from begin next to v w y None s le up on b gap p = let all = behind_none n m from begin next to v w y s b gap p in (looked_few l (n + m) k v y le all.0, all.1)
  scan_gap n m k u from begin next to v w y (Some t) s le up on b gap p = (took_few l stage u t.attempt t.element (n + m) k from v y le (behind_took u t.attempt t.element n m from begin next v w y s up on b gap p.0), p.1)

-- the later of two rows, but none after the end: what lies from it on, and before it
abbrev pub IsLaterTo : ℕ → ℕ → ℕ → ℕ → Type 0
IsLaterTo r a b end = ((r ≡ a) × (b ≤ a) × (a ≤ end)) ⊎ (((r ≡ b) × (a < b)) ⊎ ((r ≡ end) × (end < a)))

pub later_near : (r a b end : ℕ) → b ≤ end → IsLaterTo r a b end → (b ≤ r) × (r ≤ end) × ((n : ℕ) → n < end → r ≤ n → a ≤ n) × ((n : ℕ) → n < r → b ≤ n → n < a)
later_near r a b end le o = ⊎_elim
    (λ t. (let e = t.0 in let low = t.1 in let high = t.2 in (omega arith, omega arith, λ n p q. omega arith, λ n p q. omega arith)))
    (λ x. ⊎_elim
    (λ t. (let e = t.0 in let low = t.1 in (omega arith, omega arith, λ n p q. omega arith, λ n p q. absurd (omega arith))))
    (λ t. (let e = t.0 in let low = t.1 in (omega arith, omega arith, λ n p q. absurd (omega arith), λ n p q. omega arith))) x) o

-- what is left of rows of no use between two rows
pub gap_between : (c : ℕ) (v : View) (a b from to begin next : ℕ) → from ≤ to → IsLaterTo begin a from to → IsLaterTo next b from to → Rose c v a b → Rose c v begin next
gap_between c v a b from to begin next up x e g = let p = later_near begin a from to up x in let q = later_near next b from to up e in let some = g.0 in (
  dite (dec_le begin next) (λ le. le) (λ not. absurd (let under = p.3 next (omega arith) q.0 in let top = p.1 in let over = q.2 next (omega arith) (omega arith) in omega arith)),
  λ i low high. (let first = p.0 in let top = q.1 in g.1 i (p.2 i (omega arith) low) (q.3 i high (omega arith))),
)

-- the later of two rows is no later than the one that comes later
pub later_low : (r a b end : ℕ) → b ≤ a → IsLaterTo r a b end → r ≤ a
later_low r a b end le o = ⊎_elim (λ t. let e = t.0 in omega arith) (λ x. ⊎_elim (λ t. absurd (let low = t.1 in omega arith)) (λ t. let e = t.0 in let high = t.1 in omega arith) x) o

-- the rows of the stage that are left between two rows
pub born_between : (c : ℕ) (h : List Event) (a b from begin first : ℕ) → from ≤ begin → begin ≤ b → IsLaterTo first a from begin → AreOfStage c h a b → AreOfStage c h first begin
born_between c h a b from begin first up top o each i low high = let p = later_near first a from begin up o in each i (p.2 i high low) (omega arith)

-- a gap with more rows of the stage before it
pub born_gap : (c : ℕ) (v : View) (gap r : ℕ × ℕ × ℕ) (first born : ℕ) → ((r ≡ (born, gap.1, gap.2)) × (first ≡ gap.0)) ⊎ (r ≡ gap) → AreOfStage c v.seen born first → IsGap c v gap → IsGap c v r × (r.1 ≡ gap.1)
born_gap c v gap r first born o rows old = ⊎_elim
    (λ t. subst (λ (z : ℕ × ℕ × ℕ). IsGap c v z × (z.1 ≡ gap.1)) (sym t.0) ((of_both c v.seen born gap.0 gap.1 (subst (AreOfStage c v.seen born) t.1 rows) old.0, old.1), refl))
    (λ e. subst (λ (z : ℕ × ℕ × ℕ). IsGap c v z × (z.1 ≡ gap.1)) (sym e) (old, refl)) o

-- rows that were looked at, and others behind them
pub begun_both : (l : Limits) (P : ℕ → List Event → List Event → Type 0) → Widens P → (n m from i to : ℕ) (v w y : View) → from ≤ i → Begun l P n from i v w → Begun l P m i to w y → Begun l P (n + m) from to v y
begun_both l P widens n m from i to v w y up a b = ⊎_elim
    (λ t. subst (λ (z : ℕ × View). Begun l P (n + m) from z.0 v z.1) (λ j. (sym t.0 j, sym t.1 j)) (begun_few l P widens n from (n + m) i v w (omega arith) a))
    (λ s. begun_on l P widens n from m i v w y a to up s) b

-- parts that the pass knows finished are passed, by whatever steps look
pub finished_sought : (l : Limits) (stage n first end : ℕ) (lows : List ℕ) (v w : View) → 1 ≤ stage → 1 ≤ l.rows → Remembers stage w lows → ((q : ℕ) → first ≤ q → q < end → slice_index lows q ≡ l.rows) → Acted l n v w
    → Sought l n (EachRow (OfPart l (PassedBy l stage)) first end) v w
finished_sought l stage n first end lows v w server some remembers finished a = sought_by l n (EachRow (OfPart l (PassedBy l stage)) first end) v w a (λ p low high.
    let all = finished p low high in let under = low_remembered l stage w p lows a.walk.steady remembers (omega (arith, all, some)) in
    (λ i from below. passed_widens l stage i (opening_of v.seen a.marks) w.seen w.seen w.seen a.walk.closes (begins_refl w.seen)
    (over_passed l stage w.seen p (slice_index lows p) i server under.1 from (omega (arith, below, all)))))

-- a claim that goes by none
pub nothing_past : (l : Limits) (stage from n : ℕ) (lows : List ℕ) (v : View) → from ≤ l.parts → Steady l v → GoesBy l stage from from n lows lows v v
nothing_past l stage from n lows v inside s = record {
  part = (omega arith, inside);
  left = λ q low high. absurd (omega arith);
  others = λ q out. refl;
  rises = λ p. omega arith;
  rests = λ q low high. absurd (omega arith);
  few = looked_few l 0 n v v (omega arith) (looked_none l v s);
  told = inl (refl, refl);
}

-- a part that the pass knows finished is passed by without a look
pub finished_on : (l : Limits) (stage n first part : ℕ) (lows : List ℕ) (v w : View) → 1 ≤ stage → 1 ≤ l.rows → Remembers stage w lows → slice_index lows part ≡ l.rows
    → Sought l n (EachRow (OfPart l (PassedBy l stage)) first part) v w → Sought l n (EachRow (OfPart l (PassedBy l stage)) first (part + 1)) v w
finished_on l stage n first part lows v w server some remembers finished s = record {
  marks = s.marks;
  walk = s.walk;
  kept = s.kept;
  step = s.step;
  passed = λ p low high. dite (dec_le part p)
      (λ last. let same : p ≡ part = omega arith in let under = low_remembered l stage w part lows s.walk.steady remembers (omega (arith, finished, some)) in
      subst (λ z. OfPart l (PassedBy l stage) z (opening_of v.seen s.marks) w.seen) (sym same)
      (λ i from below. passed_widens l stage i (opening_of v.seen s.marks) w.seen w.seen w.seen s.walk.closes (begins_refl w.seen)
      (over_passed l stage w.seen part (slice_index lows part) i server under.1 from (omega (arith, below, finished)))))
      (λ not. s.passed p low (omega arith));
}

-- rows that were looked at, and others after them in which nothing was born before
pub spare_on : (l : Limits) (stage n u from end top : ℕ) (v y : View) (o : Option Taken) → NoneBehind l end v → top ≤ rows_of l
    → MatchOption o (Sought l n (EachRow (PassedBy l stage) from end) v y) (λ (t : Taken). Took l n from stage u v y t.element t.attempt × (t.element.root ≡ t.root))
    → MatchOption o (Passed l n (PassedBy l stage) from top v y) (λ (t : Taken). Took l n from stage u v y t.element t.attempt × (t.element.root ≡ t.root))
spare_on l stage n u from end top v y None none le s = sought_passed l (PassedBy l stage) (passed_widens l stage) n from end top v y s (λ i low high. none_passed l stage i v.seen (none i low (omega arith)))
spare_on l stage n u from end top v y (Some t) none le s = s
