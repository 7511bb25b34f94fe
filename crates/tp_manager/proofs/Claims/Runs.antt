-- Rows in each of which an element of a stage is born.
use Rattle.std.proofs.Common.{◌≡◌, ℕ, ◌+◌, ◌≤◌, List, Some, subst, arith}
use mathlib.Core.List.{IsPrefix}
use mathlib.Core.Logic.{dite}
use native.Mathlib.Decide.{dec_le}
use Rattle.tp_model.specs.declared.types.Element.{Element}
use Rattle.tp_model.specs.declared.event.Event.{Event}
use Rattle.tp_model.specs.History.{element_of}
use Rattle.tp_model.proofs.Bridges.{found_later}
use Rattle.tp_model.specs.declared.types.Limits.{Limits}
use Rattle.tp_rule.specs.declared.view.View.{View}
use Rattle.tp_manager.specs.Marks.{AreOfStage, IsGap, IsOfStage}
use Rattle.tp_manager.proofs.Marks.Useless.{Goes, rose_later}

module _ (stage : ℕ) where
  -- they stay so
  pub of_later : (h g : List Event) (a b : ℕ) → IsPrefix h g → AreOfStage stage h a b → AreOfStage stage g a b
  of_later h g a b begins each i low high = let t = each i low high in (t.0, found_later h g begins i t.0 t.1, t.2)

  pub of_none : (h : List Event) (a : ℕ) → AreOfStage stage h a a
  of_none h a i low high = absurd (omega arith)

  pub of_fewer : (h : List Event) (a b c d : ℕ) → a ≤ c → d ≤ b → AreOfStage stage h a b → AreOfStage stage h c d
  of_fewer h a b c d low high each i from to = each i (omega arith) (omega arith)

  -- one run behind another
  pub of_both : (h : List Event) (a b c : ℕ) → AreOfStage stage h a b → AreOfStage stage h b c → AreOfStage stage h a c
  of_both h a b c first then i low high = dite (dec_le b i) (λ past. then i past high) (λ not. first i low (omega arith))

  -- and one row more
  pub of_more : (h : List Event) (a i j : ℕ) (x : Element) → j ≡ i + 1 → AreOfStage stage h a i → element_of h i ≡ Some x → x.stage ≡ stage → AreOfStage stage h a j
  of_more h a i j x next each is own k low high = dite (dec_le i k)
      (λ past. let same : i ≡ k = omega arith in subst (IsOfStage stage h) same (x, is, own))
      (λ not. each k low (omega arith))

  -- so a gap stays one
  pub gap_later : (l : Limits) (v w : View) (gap : ℕ × ℕ × ℕ) → Goes l v w → IsGap stage v gap → IsGap stage w gap
  gap_later l v w gap go old = (of_later v.seen w.seen gap.0 gap.1 go.begins old.0, rose_later l stage v w gap.1 gap.2 go old.1)
