-- Where no unit is aborted, nothing is parked.
use Rattle.std.proofs.Common.{◌≡◌, ◌⊎◌, ℕ, ◌+◌, ◌<◌, ◌≤◌, List, Option, Some, None, refl, sym, ap, ◌∙◌, subst, ⊎_elim, arith}
use mathlib.Core.Logic.{dite}
use native.Mathlib.Decide.{dec_le, ℕ_discrete}
use Rattle.tp_model.specs.declared.event.Event.{Event}
use Rattle.tp_model.specs.declared.types.Limits.{Limits}
use Rattle.tp_model.specs.declared.types.Status.TheVariants.{Waiting, Parked, Killed}
use Rattle.tp_model.specs.History.{Aborted, Committed, UnitEnd, end_of, status_of}
use Rattle.tp_model.specs.Passes.{opening_of}
use Rattle.tp_model.specs.Steps.{IsLegal, IsParked, IsUnitOf, rows_of}
use Rattle.tp_model.specs.Words.{AgainWord, ClaimWord, FreeWord, KilledWord, TakenWord, claim_word, taken_status, word_status}
use Rattle.tp_model.proofs.Bridges.{begins_refl, end_stays}
use Rattle.tp_model.proofs.Histories.{legal_start}
use Rattle.tp_model.proofs.Later.{unit_inside}
use Rattle.tp_model.proofs.WordProofs.{status_by_words, unended}
use Rattle.tp_rule.specs.Steps.{AreInOrder}
use Rattle.tp_rule.specs.declared.view.View.{View}
use Rattle.tp_manager.specs.CallSteps.{Acted}
use Rattle.tp_manager.specs.Finds.{PassedOver}
use Rattle.tp_manager.specs.Scans.{EachRow, Sought}
use Rattle.tp_rule.specs.Rule.{AreCommitted, IsCommitted}
use Rattle.tp_manager.specs.UnitsSeen.{NoneAborted}
use Rattle.tp_manager.specs.declared.streak.Streak.{Streak}
use Rattle.tp_manager.proofs.Calls.CallSteps.{sought_by}
use Rattle.tp_manager.proofs.Rows.Seeks.{Widens, part_of}

module _ (l : Limits) where
  -- no unit of a part is aborted
  abbrev pub AllWell : List Event → ℕ → Type 0
  AllWell h c = (u : ℕ) → IsUnitOf l c u → ¬ (end_of h u ≡ Some Aborted)

  committed_not : (h : List Event) (u : ℕ) → IsCommitted h u → ¬ (end_of h u ≡ Some Aborted)
  committed_not h u t aborted = let e : Some (Committed t.0 t.1) ≡ Some Aborted = sym t.2 ∙ aborted in absurd cc

  undecided_not : (h : List Event) (u : ℕ) → end_of h u ≡ None → ¬ (end_of h u ≡ Some Aborted)
  undecided_not h u un aborted = let e : None ≡ Some Aborted = sym un ∙ aborted in absurd cc

  -- those before unit u are committed, it is undecided, and so no later one was taken
  pub well_until : (h : List Event) (c u : ℕ) → IsLegal l h → AreInOrder l h → IsUnitOf l c u → ((w : ℕ) → IsUnitOf l c w → w < u → IsCommitted h w) → end_of h u ≡ None → AllWell h c
  well_until h c u legal order own before un w its = dite (dec_le (u + 1) w)
      (λ past. undecided_not h w (unended l h legal w (order c u w own its (omega arith) un)))
      (λ not. dite (ℕ_discrete w u)
      (λ same. undecided_not h w (subst (λ z. end_of h z ≡ None) (sym same) un))
      (λ ne. committed_not h w (before w its (omega arith))))

  -- or all are committed
  pub well_all : (h : List Event) (c : ℕ) → ((w : ℕ) → IsUnitOf l c w → IsCommitted h w) → AllWell h c
  well_all h c all w its = committed_not h w (all w its)

  pub well_widens : Widens (NoneAborted l)
  well_widens c a a' b b' before after well u own aborted = well u own (end_stays a a' u Aborted before aborted)

  -- a look at the part
  pub well_sought : (c : ℕ) (v w : View) → Acted l 1 v w → AllWell w.seen c → Sought l 1 (EachRow (NoneAborted l) c (c + 1)) v w
  well_sought c v w a well = sought_by l 1 (EachRow (NoneAborted l) c (c + 1)) v w a
      (λ i low high u own aborted. let same : i ≡ c = omega arith in well u (subst (λ z. IsUnitOf l z u) same own) (end_stays (opening_of v.seen a.marks) w.seen u Aborted a.walk.closes aborted))

  -- an element is parked where the last unit that took it is aborted
  taken_aborted : (n u m : ℕ) (x : Option UnitEnd) → taken_status l.attempts n u x ≡ Parked m → x ≡ Some Aborted
  taken_aborted n u m None p = absurd cc
  taken_aborted n u m (Some (Committed from count)) p = absurd cc
  taken_aborted n u m (Some Aborted) p = refl

  pub well_unparked : (h : List Event) → IsLegal l h → ((c : ℕ) → c < l.parts → AllWell h c) → (i : ℕ) → ¬ IsParked (status_of l.attempts h i)
  well_unparked h legal well i parked = go (claim_word h i) refl
    where
      told : (w : ClaimWord) → claim_word h i ≡ w → word_status l.attempts h w ≡ Parked parked.0
      told w is = sym (ap (word_status l.attempts h) is) ∙ (sym (status_by_words l h i legal) ∙ parked.1)

      go : (w : ClaimWord) → claim_word h i ≡ w → ⊥
      go FreeWord is = let e : Waiting 0 ≡ Parked parked.0 = told FreeWord is in absurd cc
      go (TakenWord n u r) is = let t = part_of l.units l.parts u (unit_inside l h i n u legal is) in well t.0 t.1 u (t.1, t.2, t.3) (taken_aborted n u parked.0 (end_of h u) (told (TakenWord n u r) is))
      go (KilledWord n u r) is = let e : Killed ≡ Parked parked.0 = told (KilledWord n u r) is in absurd cc
      go (AgainWord r) is = let e : Waiting 0 ≡ Parked parked.0 = told (AgainWord r) is in absurd cc

  -- so no row has to be looked at
  pub all_over : (n : ℕ) (v w : View) → Sought l n (EachRow (NoneAborted l) 0 l.parts) v w → Sought l n (EachRow (PassedOver l) 0 (rows_of l)) v w
  all_over n v w s = record {
    marks = s.marks;
    walk = s.walk;
    kept = s.kept;
    step = s.step;
    passed = λ i low high x born. let o = opening_of v.seen s.marks in
        let legal = legal_start l o s.walk.closes.0 (subst (IsLegal l) (sym s.walk.closes.1) s.walk.steady.shows.legal) in
        (o, begins_refl o, s.walk.closes, well_unparked o legal (λ c less. s.passed c (omega arith) less) i);
  }

  pub over_from : (n from : ℕ) (v w : View) → Sought l n (EachRow (PassedOver l) 0 (rows_of l)) v w → Sought l n (EachRow (PassedOver l) from (rows_of l)) v w
  over_from n from v w s = record { marks = s.marks; walk = s.walk; kept = s.kept; step = s.step; passed = λ i low high. s.passed i (omega arith) high }

-- the units right before the next one of a streak are committed
pub streak_before : (h : List Event) (s : Streak) (u n : ℕ) → AreCommitted h s.end s.length → (n ≡ 0) ⊎ ((n ≡ s.length) × (u ≡ s.end)) → AreCommitted h u n
streak_before h s u n known how = ⊎_elim (λ none w less up. absurd (omega arith)) (λ t w less up. let long = t.0 in let at = t.1 in known w (omega arith) (omega arith)) how

-- and so it goes on with a unit that is committed
pub streak_on : (h : List Event) (s : Streak) (u n : ℕ) → AreCommitted h u n → IsCommitted h u → s.end ≡ u + 1 → s.length ≤ n + 1 → AreCommitted h s.end s.length
streak_on h s u n known done end long w less up = dite (ℕ_discrete w u) (λ same. subst (IsCommitted h) (sym same) done) (λ other. known w (omega arith) (omega arith))
