-- A row that was passed by, and a row whose element was taken.
use Rattle.std.proofs.Common.{◌≡◌, ◌≢◌, ℕ, ◌+◌, ◌-◌, ◌*◌, ◌<◌, ◌≤◌, Some, List, [], ◌∷◌, ◌++◌, sym, refl, ap, ◌∙◌, subst, inl, ⊎_elim, arith, slice_index, mul-le-mul_right, Option, None, MatchOption, IfSome, Bool, true, false, cond, nat_lt, inr}
use Rattle.tp_manager.specs.declared.seeker.Taken.{Taken}
use Rattle.std.proofs.lemmas.Bool.Decides.{nat_tests}
use mathlib.Core.List.{IsPrefix}
use mathlib.Core.Logic.{dite}
use native.Mathlib.Decide.{dec_le}
use Rattle.tp_model.specs.declared.types.Element.{Element}
use Rattle.tp_model.specs.declared.types.Limits.{Limits}
use Rattle.tp_model.specs.declared.types.Status.TheVariants.{Waiting, Held, Consumed, Parked, Killed}
use Rattle.tp_model.specs.declared.event.Event.{Event}
use Rattle.tp_model.specs.declared.event.Event.TheVariants.{Claim}
use Rattle.tp_model.specs.declared.trace.StepKind.TheVariants as kinds
use Rattle.tp_model.specs.History.{Aborted, Committed, IsSettled, IsUnborn, UnitEnd, element_of, end_of, status_of, here}
use Rattle.tp_model.specs.Words.{ClaimWord, KilledWord, TakenWord, claim_word, taken_status, word_status}
use Rattle.tp_model.specs.Steps.{AreLimits, IsLegal, rows_of, part_rows}
use Rattle.tp_model.proofs.WordProofs.{status_by_words}
use Rattle.tp_model.proofs.Bridges.{begins_refl, begins_trans, end_stays, found_later, status_killed, waits_later, in_right}
use Rattle.tp_model.specs.Passes.{opening_of}
use Rattle.tp_rule.specs.Steps.{AllowsClaim, MakesClaim, claimed, with_claim}
use Rattle.tp_rule.specs.Views.{hand}
use Rattle.tp_rule.specs.declared.view.Hand.{Hand}
use Rattle.tp_rule.specs.declared.view.View.{View}
use Rattle.tp_manager.specs.Calls.{IsWaiting}
use Rattle.tp_manager.specs.Looks.{HasStand}
use Rattle.tp_manager.specs.declared.scanning.Stand.TheVariants.{Busy, Over, Ready}
use Rattle.tp_manager.proofs.Rows.Looks.{consumed_now, held_yet}
use Rattle.tp_model.specs.declared.trace.TraceEntry.{TraceEntry}
use Rattle.tp_manager.specs.CallSteps.{Looked, Stepped, with_trace, Acted}
use Rattle.tp_manager.specs.Leans.{scan_end}
use Rattle.tp_manager.specs.Marks.{AreFinished, Remembers, WasUnsettled}
use Rattle.tp_manager.specs.Scans.{EachRow, OfPart, PassedBy, Sought, Took, Begun}
use Rattle.tp_manager.proofs.Marks.Raises.{low_kept, over_passed}
use Rattle.tp_manager.proofs.Kills.Moves.{moved}
use Rattle.tp_manager.proofs.Rows.Seeks.{part_of, rows_more, sought_behind, Widens, sought_more}
use Rattle.tp_manager.proofs.Calls.CallSteps.{grew_steady, grew_hand, sought_few, grew_walked, walked_then, walked_few, looked_begins, walked_begins, sought_by}
use Rattle.tp_manager.proofs.Calls.Points.{has_more, opening_kept, opening_later}

held_not : (u n : ℕ) → ¬ IsWaiting (Held u n)
held_not u n w = let e = w.1 in cc

consumed_not : (u : ℕ) → ¬ IsWaiting (Consumed u)
consumed_not u w = let e = w.1 in cc

killed_not : ¬ IsWaiting Killed
killed_not w = let e = w.1 in cc

parked_not : (n : ℕ) → ¬ IsWaiting (Parked n)
parked_not n w = let e = w.1 in cc

module _ (l : Limits) (stage i : ℕ) where
  pub pass_other : (a h b : List Event) → IsPrefix a h → ((x : Element) → element_of h i ≡ Some x → ¬ (x.stage ≡ stage)) → PassedBy l stage i a b
  pass_other a h b begins others = λ x p st. absurd (others x (found_later a h begins i x p) st)

  pub pass_unborn : (a h b : List Event) → IsPrefix a h → IsUnborn h i → PassedBy l stage i a b
  pass_unborn a h b begins un = pass_other a h b begins (λ x p. absurd cc)

  pub pass_status : (a h b : List Event) → IsPrefix a h → IsPrefix h b → ¬ IsWaiting (status_of l.attempts h i) → PassedBy l stage i a b
  pass_status a h b before after not = λ x p st. (h, before, after, not)

  pub pass_missed : (a h b : List Event) (w : ClaimWord) → IsLegal l b → IsPrefix a h → IsPrefix h b → w ≡ claim_word h i → claim_word b i ≢ w → PassedBy l stage i a b
  pass_missed a h b w legal before after found differs = λ x p st. ⊎_elim (λ same. absurd (differs (same ∙ sym found))) (λ t. (t.0, begins_trans a h t.0 before t.1, t.2, t.3)) (moved l i IsWaiting held_not killed_not (inl parked_not) h b legal after)

-- an element whose claim is for the last attempt doesn't wait
last_not : (limit n u : ℕ) (o : Option UnitEnd) → limit ≤ n → ¬ IsWaiting (taken_status limit n u o)
last_not limit n u None last = held_not u n
last_not limit n u (Some (Committed f m)) last = consumed_not u
last_not limit n u (Some Aborted) last = go (nat_lt n limit) refl
  where
    go : (t : Bool) → nat_lt n limit ≡ t → ¬ IsWaiting (cond t (Waiting n) (Parked n))
    go true e = let below : n < limit = grind (arith, nat_tests) in absurd (omega arith)
    go false e = parked_not n

-- an element whose unit was aborted before the last attempt waits
again_waits : (limit n u : ℕ) → n < limit → taken_status limit n u (Some Aborted) ≡ Waiting n
again_waits limit n u less = go (nat_lt n limit) refl
  where
    go : (t : Bool) → nat_lt n limit ≡ t → cond t (Waiting n) (Parked n) ≡ Waiting n
    go true e = refl
    go false e = let above : limit ≤ n = grind (arith, nat_tests) in absurd (omega arith)

module _ (l : Limits) (i : ℕ) (a b : List Event) where
  pub stands_last : (n u r : ℕ) → IsLegal l a → IsPrefix a b → claim_word a i ≡ TakenWord n u r → l.attempts ≤ n → HasStand l i a b (TakenWord n u r) Busy
  stands_last n u r legal begins found last =
      (a, begins_refl a, begins, subst (λ s. ¬ IsWaiting s) (sym (status_by_words l a i legal ∙ ap (word_status l.attempts a) found)) (last_not l.attempts n u (end_of a u) last))

  pub stands_held : (n u r : ℕ) → IsLegal l b → IsPrefix a b → claim_word a i ≡ TakenWord n u r → None ≡ end_of b u → HasStand l i a b (TakenWord n u r) Busy
  stands_held n u r legal begins found open_is = (b, begins, begins_refl b, subst (λ s. ¬ IsWaiting s) (held_yet l a b legal begins i n u found open_is) (held_not u n))

  pub stands_killed : (n u r : ℕ) → IsLegal l a → claim_word a i ≡ KilledWord n u r → IsSettled (status_of l.attempts a i)
  stands_killed n u r legal found = subst IsSettled (sym (status_killed l a i n u legal found)) tt

  pub stands_over : (n u r f m : ℕ) → IsLegal l b → IsPrefix a b → claim_word a i ≡ TakenWord n u r → Some (Committed f m) ≡ end_of b u → HasStand l i a b (TakenWord n u r) Over
  stands_over n u r f m legal begins found ended = subst IsSettled (consumed_now l a b legal begins i n u f m found ended) tt

  pub unsettled_taken : (n u r : ℕ) → IsLegal l a → IsPrefix a b → claim_word a i ≡ TakenWord n u r → Some Aborted ≡ end_of b u → WasUnsettled l i a b
  unsettled_taken n u r legal begins found aborted = (a, begins_refl a, begins, λ settled. go (end_of a u) refl (subst IsSettled (status_by_words l a i legal ∙ ap (word_status l.attempts a) found) settled))
    where
      go : (o : Option UnitEnd) → end_of a u ≡ o → ¬ IsSettled (taken_status l.attempts n u (end_of a u))
      go None e settled = subst (λ z. IsSettled (taken_status l.attempts n u z)) e settled
      go (Some (Committed f m)) e settled = let same : Some Aborted ≡ Some (Committed f m) = aborted ∙ end_stays a b u (Committed f m) begins e in absurd cc
      go (Some Aborted) e settled = again (nat_lt n l.attempts) refl (subst (λ z. IsSettled (taken_status l.attempts n u z)) e settled)
        where
          again : (t : Bool) → nat_lt n l.attempts ≡ t → ¬ IsSettled (cond (nat_lt n l.attempts) (Waiting n) (Parked n))
          again true e settled = subst (λ t. IsSettled (cond t (Waiting n) (Parked n))) e settled
          again false e settled = subst (λ t. IsSettled (cond t (Waiting n) (Parked n))) e settled

  pub unsettled_held : (n u r : ℕ) → IsLegal l b → IsPrefix a b → claim_word a i ≡ TakenWord n u r → None ≡ end_of b u → WasUnsettled l i a b
  unsettled_held n u r legal begins found open_is = (b, begins, begins_refl b, λ settled. subst IsSettled (sym (held_yet l a b legal begins i n u found open_is)) settled)

  pub unsettled_waits : (n : ℕ) → IsPrefix a b → status_of l.attempts a i ≡ Waiting n → WasUnsettled l i a b
  unsettled_waits n begins waits = (a, begins_refl a, begins, λ settled. subst IsSettled waits settled)

  pub stands_ready : (n u r : ℕ) → Some Aborted ≡ end_of b u → n < l.attempts → HasStand l i a b (TakenWord n u r) (Ready n)
  stands_ready n u r ended less = let same : n ≡ n + 1 - 1 = omega arith in
      ((omega arith, ap (taken_status l.attempts n u) (sym ended) ∙ (again_waits l.attempts n u less ∙ ap Waiting same)), less)

-- what was found may begin later too
pub allows_later : (l : Limits) (a b : List Event) (w : ClaimWord) (n : ℕ) → IsPrefix a b → AllowsClaim l a w n → AllowsClaim l b w n
allows_later l a b w n begins may = (may.0, waits_later l.attempts a b w (n - 1) begins may.1)

-- nothing was passed by in a row in which nothing is born
pub none_passed : (l : Limits) (stage j : ℕ) (h : List Event) → IsUnborn h j → PassedBy l stage j h h
none_passed l stage j h un = pass_unborn l stage j h h h (begins_refl h) un

-- a row that was passed by is so from an earlier history on, and to a later one
pub passed_widens : (l : Limits) (stage : ℕ) → Widens (PassedBy l stage)
passed_widens l stage i a a' b b' before after passed x p st = let t = passed x (found_later a a' before i x p) st in (t.0, begins_trans a a' t.0 before t.1, begins_trans t.0 b b' t.2 after, t.3)

-- parts that the pass knows finished are passed by at every moment of a scan of the others
pub finished_passed : (l : Limits) (stage n first : ℕ) (lows : List ℕ) (v w : View) → 1 ≤ stage → 1 ≤ l.rows → Remembers stage v lows → AreFinished l lows first
    → Sought l n (EachRow (OfPart l (PassedBy l stage)) first l.parts) v w → Sought l n (EachRow (OfPart l (PassedBy l stage)) 0 l.parts) v w
finished_passed l stage n first lows v w server some remembers finished s = record {
  marks = s.marks;
  walk = s.walk;
  kept = s.kept;
  step = s.step;
  passed = λ p low high. dite (dec_le first p)
      (λ past. s.passed p past high)
      (λ not. let is = finished p (omega arith) in let under = low_kept l stage v w p n s.marks lows s.walk remembers (omega (arith, is, some)) in
      (λ i from below. passed_widens l stage i (opening_of v.seen s.marks) w.seen w.seen w.seen s.walk.closes (begins_refl w.seen)
      (over_passed l stage w.seen p (slice_index lows p) i server under.1 from (omega (arith, below, is)))));
}

module _ (l : Limits) (stage : ℕ) where
  module _ (u attempt : ℕ) (e : Element) where
    pub took_by : (n i : ℕ) (v w y : View) → e.id ≡ i → Looked l n v w → element_of w.seen i ≡ Some e → e.stage ≡ stage → MakesClaim w u i attempt y → Took l (n + 1) i stage u v y e attempt
    took_by n i v w y at a born staged made =
        let g : MakesClaim w u e.id attempt y = subst (λ z. MakesClaim w u z attempt y) (sym at) made in
        let E : Event = claimed w u e.id attempt in let f : Hand → Hand = with_claim u E in let s = a.walk.steady in
        let h = grew_hand l kinds.ClaimExchange f (E ∷ []) w y s g in
        let steady = grew_steady l kinds.ClaimExchange f (E ∷ []) w y s g refl in
        let walk = grew_walked l kinds.ClaimExchange f (E ∷ []) w y s g refl refl refl steady in
        let same : (hand w).number ≡ (hand v).number = a.walk.number in
        record {
          marks = a.marks ++ record { kind = kinds.ClaimExchange; seen = y.seen } ∷ [];
          walk = walked_then l n 1 a.marks _ v w y a.walk walk;
          kept = subst (λ k. hand y ≡ with_trace (hand y).trace (with_claim u (Claim k u e.id attempt) (hand v))) same
              (h ∙ (ap (λ t. with_trace t (f (hand w))) (sym (ap (λ (z : Hand). z.trace) h)) ∙ ap (λ k. with_trace (hand y).trace (f k)) a.kept));
          before = w.seen ++ g.between;
          begins = begins_trans v.seen w.seen (w.seen ++ g.between) (looked_begins l n v w a) (g.between, refl);
          ends = g.seen ∙ ap (λ k. (w.seen ++ g.between) ++ Claim k u e.id attempt ∷ []) same;
          born = subst (λ z. element_of y.seen z ≡ Some e) (sym at) (found_later w.seen y.seen (walked_begins l 1 _ w y walk) i e born);
          of_stage = staged;
          reach = omega arith;
          step = (record { kind = kinds.ClaimExchange; seen = y.seen }, in_right a.marks here, refl);
          passed = λ j low high. absurd (omega arith);
        }

    pub took_few : (n m from : ℕ) (v w : View) → n ≤ m → Took l n from stage u v w e attempt → Took l m from stage u v w e attempt
    took_few n m from v w le t = record {
      marks = t.marks;
      walk = walked_few l n m t.marks v w le t.walk;
      kept = t.kept;
      before = t.before;
      begins = t.begins;
      ends = t.ends;
      born = t.born;
      of_stage = t.of_stage;
      reach = t.reach;
      step = t.step;
      passed = t.passed;
    }

    -- rows that were passed, if any, and then those before the element that was taken
    pub took_then : (n m from i : ℕ) (v w y : View) → from ≤ i → Begun l (PassedBy l stage) n from i v w → Took l m i stage u w y e attempt → Took l (n + m) from stage u v y e attempt
    took_then n m from i v w y le b t = ⊎_elim
        (λ p. subst (λ (z : ℕ × View). Took l (n + m) z.0 stage u z.1 y e attempt) (λ j. (p.0 j, p.1 j)) (took_few m (n + m) i w y (omega arith) t))
        (λ s. (let same : (hand w).number ≡ (hand v).number = s.walk.number in record {
          marks = s.marks ++ t.marks;
          walk = walked_then l n m s.marks t.marks v w y s.walk t.walk;
          kept = subst (λ k. hand y ≡ with_trace (hand y).trace (with_claim u (Claim k u e.id attempt) (hand v))) same (t.kept ∙ ap (λ k. with_trace (hand y).trace (with_claim u (claimed w u e.id attempt) k)) s.kept);
          before = t.before;
          begins = begins_trans v.seen w.seen t.before (walked_begins l n s.marks v w s.walk) t.begins;
          ends = t.ends ∙ ap (λ k. t.before ++ Claim k u e.id attempt ∷ []) same;
          born = t.born;
          of_stage = t.of_stage;
          reach = (let high = t.reach in omega arith);
          step = has_more s.marks t.marks s.step;
          passed = λ j low high. subst (λ o. PassedBy l stage j o y.seen) (sym (opening_kept v.seen s.marks t.marks s.step.0 s.step.1 s.step.2))
              (dite (dec_le i j)
              (λ later. passed_widens l stage j (opening_of v.seen s.marks) (opening_of w.seen t.marks) y.seen y.seen (begins_trans (opening_of v.seen s.marks) w.seen (opening_of w.seen t.marks) s.walk.closes t.walk.opens) (begins_refl y.seen) (t.passed j later high))
              (λ not. passed_widens l stage j (opening_of v.seen s.marks) (opening_of v.seen s.marks) w.seen y.seen (begins_refl (opening_of v.seen s.marks)) (walked_begins l m t.marks w y t.walk) (s.passed j low (omega arith))));
        })) b

    -- a look, after which the rows up to `from` were passed
    pub took_from : (m lo from : ℕ) (v w y : View) → lo ≤ from → Acted l 1 v w → ((i : ℕ) → lo ≤ i → i < from → PassedBy l stage i w.seen w.seen) → Took l m from stage u w y e attempt → Took l (1 + m) lo stage u v y e attempt
    took_from m lo from v w y le first below t = took_then 1 m lo from v w y le
        (inr (sought_by l 1 (EachRow (PassedBy l stage) lo from) v w first (λ i low high. passed_widens l stage i (opening_of v.seen first.marks) w.seen w.seen w.seen first.walk.closes (begins_refl w.seen) (below i low high)))) t

    -- steps of which nothing hangs
    pub took_behind : (n m from : ℕ) (v w y : View) → Looked l n v w → Took l m from stage u w y e attempt → Took l (n + m) from stage u v y e attempt
    took_behind n m from v w y a t = let same : (hand w).number ≡ (hand v).number = a.walk.number in record {
      marks = a.marks ++ t.marks;
      walk = walked_then l n m a.marks t.marks v w y a.walk t.walk;
      kept = subst (λ k. hand y ≡ with_trace (hand y).trace (with_claim u (Claim k u e.id attempt) (hand v))) same (t.kept ∙ ap (λ k. with_trace (hand y).trace (with_claim u (claimed w u e.id attempt) k)) a.kept);
      before = t.before;
      begins = begins_trans v.seen w.seen t.before (looked_begins l n v w a) t.begins;
      ends = t.ends ∙ ap (λ k. t.before ++ Claim k u e.id attempt ∷ []) same;
      born = t.born;
      of_stage = t.of_stage;
      reach = t.reach;
      step = (t.step.0, in_right a.marks t.step.1, t.step.2);
      passed = λ j low high. passed_widens l stage j (opening_of v.seen (a.marks ++ t.marks)) (opening_of w.seen t.marks) y.seen y.seen (opening_later v.seen w.seen a.marks t.marks a.walk.closes t.walk.opens) (begins_refl y.seen) (t.passed j low high);
    }

    -- parts that the pass knows finished are passed by
    pub finished_took : (n first : ℕ) (lows : List ℕ) (v w : View) → 1 ≤ stage → 1 ≤ l.rows → Remembers stage v lows → AreFinished l lows first → Took l n (first * l.rows) stage u v w e attempt → Took l n 0 stage u v w e attempt
    finished_took n first lows v w server some remembers finished t = record {
      marks = t.marks;
      walk = t.walk;
      kept = t.kept;
      before = t.before;
      begins = t.begins;
      ends = t.ends;
      born = t.born;
      of_stage = t.of_stage;
      reach = omega arith;
      step = t.step;
      passed = λ i low high. dite (dec_le (first * l.rows) i)
          (λ past. t.passed i past high)
          (λ not. (let c = part_of l.rows first i (omega arith) in let is = finished c.0 c.1 in let below = c.3 in
          let under = low_kept l stage v w c.0 n t.marks lows t.walk remembers (omega (arith, is, some)) in
          passed_widens l stage i (opening_of v.seen t.marks) w.seen w.seen w.seen t.walk.closes (begins_refl w.seen)
          (over_passed l stage w.seen c.0 (slice_index lows c.0) i server under.1 c.2 (omega (arith, below, is)))));
    }

-- this many parts are this many rows
pub begun_rows : (l : Limits) (Passed : ℕ → List Event → List Event → Type 0) (steps first n : ℕ) (v w : View) → Begun l (OfPart l Passed) steps first n v w → Begun l Passed steps (first * l.rows) (n * l.rows) v w
begun_rows l Passed steps first n v w b = ⊎_elim
    (λ p. inl (ap (λ z. z * l.rows) p.0, p.1))
    (λ s. inr (record {
      marks = s.marks;
      walk = s.walk;
      kept = s.kept;
      step = s.step;
      passed = λ i low high. (let c = part_of l.rows n i high in let below = c.3 in
          s.passed c.0 (dite (dec_le first c.0) (λ past. past) (λ not. absurd (let up = rows_more c.0 first l.rows (omega arith) in omega arith))) c.1 i c.2 c.3);
    })) b

pub rows_some : (l : Limits) → AreLimits l → 0 < rows_of l
rows_some l fair = let a : 1 ≤ l.parts = fair.parts.0 in let b : 1 ≤ l.rows = fair.rows.0 in let m : 1 * l.rows ≤ l.parts * l.rows = mul-le-mul_right l.rows a in omega arith

-- what a look at the parts and then at the spare blocks came to
pub scan_both : (l : Limits) (stage u n m : ℕ) (v w y : View) (o : Option Taken) → Sought l n (EachRow (PassedBy l stage) 0 (part_rows l)) v w
    → MatchOption o (Begun l (PassedBy l stage) m (part_rows l) (rows_of l) w y) (λ (t : Taken). Took l m (part_rows l) stage u w y t.element t.attempt × (t.element.root ≡ t.root))
    → MatchOption o (Sought l (n + m) (EachRow (PassedBy l stage) 0 (rows_of l)) v y) (λ (t : Taken). Took l (n + m) 0 stage u v y t.element t.attempt × (t.element.root ≡ t.root))
scan_both l stage u n m v w y None s b = sought_more l (PassedBy l stage) (passed_widens l stage) n m 0 (part_rows l) (rows_of l) v w y (omega arith) (omega arith) s b
scan_both l stage u n m v w y (Some t) s b = (took_then l stage u t.attempt t.element n m 0 (part_rows l) v w y (omega arith) (inr s) b.0, b.1)

-- a scan of some rows, after a look that found nothing
pub scan_behind : (l : Limits) (stage u n m k from end : ℕ) (v w y : View) (o : Option Taken) → n + m ≤ k → Looked l n v w
    → MatchOption o (Sought l m (EachRow (PassedBy l stage) from end) w y) (λ (t : Taken). Took l m from stage u w y t.element t.attempt × (t.element.root ≡ t.root))
    → MatchOption o (Sought l k (EachRow (PassedBy l stage) from end) v y) (λ (t : Taken). Took l k from stage u v y t.element t.attempt × (t.element.root ≡ t.root))
scan_behind l stage u n m k from end v w y None le a s = sought_few l (n + m) k (EachRow (PassedBy l stage) from end) v y le (sought_behind l n m (PassedBy l stage) (passed_widens l stage) from end v w y a s)
scan_behind l stage u n m k from end v w y (Some t) le a s = (took_few l stage u t.attempt t.element (n + m) k from v y le (took_behind l stage u t.attempt t.element n m from v w y a s.0), s.1)

-- what a scan of some rows takes is none before them
pub came_behind : (A : Type 0) (l : Limits) (n stage u next from : ℕ) (v w : View) (o : Option Taken) → next ≤ from
    → MatchOption o A (λ (t : Taken). Took l n from stage u v w t.element t.attempt × (t.element.root ≡ t.root)) → IfSome o (λ (t : Taken). next ≤ t.element.id)
came_behind A l n stage u next from v w None le s = tt
came_behind A l n stage u next from v w (Some t) le s = let reach = s.0.reach in omega arith

-- and so it ends behind them
pub ends_behind : (next to : ℕ) (o : Option Taken) → next ≤ to → IfSome o (λ (t : Taken). next ≤ t.element.id) → next ≤ scan_end to o
ends_behind next to None le s = le
ends_behind next to (Some t) le s = let after : next ≤ t.element.id = s in omega arith

-- the steps of a scan
pub told_walked : (l : Limits) (n from stage u : ℕ) (P : List Event → List Event → Type 0) (v w : View) (o : Option Taken)
    → MatchOption o (Sought l n P v w) (λ (t : Taken). Took l n from stage u v w t.element t.attempt × (t.element.root ≡ t.root)) → (ms : List TraceEntry) × Stepped l n ms v w
told_walked l n from stage u P v w None s = (s.marks, s.walk)
told_walked l n from stage u P v w (Some t) s = (s.0.marks, s.0.walk)
