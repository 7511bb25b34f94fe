-- Two runs of rows, where the set beside them is empty.
use Rattle.std.proofs.Common.{◌≡◌, ◌⊎◌, ◌↔◌, ◌<◌, ℕ, List, Bool, true, false, refl, inl, inr, ⊎_elim, arith}
use Rattle.tp_manager.specs.declared.ahead.Ahead.{Ahead}
use Rattle.tp_manager.specs.Aheads.{InRun, InRuns, IsAhead, IsSorted, IsTaken}
use Rattle.tp_manager.specs.RowSets.{IsEmpty}

-- what is taken out of the runs is taken out of all
pub runs_alone : (a b : Ahead) (words : List ℕ) (row : ℕ) → IsEmpty words → IsTaken (InRuns a) (InRuns b) row → IsTaken (IsAhead a words) (IsAhead b words) row
runs_alone a b words row empty m = (
  (inl m.0.0, λ j h. ⊎_elim (m.0.1 j) (λ has. absurd (empty j has)) h),
  λ i. (
    λ h. ⊎_elim (λ r. let t = (m.1 i).0 r in (inl t.0, t.1)) (λ has. absurd (empty i has)) h,
    λ t. ⊎_elim (λ r. inl ((m.1 i).1 (r, t.1))) (λ has. absurd (empty i has)) t.0,
  ),
)

-- where a run has a row, the set has none
pub set_empty : (a : Ahead) (words : List ℕ) → IsSorted a words → a.next < a.end → IsEmpty words
set_empty a words s some = go a.more refl
  where
    go : (b : Bool) → a.more ≡ b → IsEmpty words
    go false is = s.none is
    go true is = let none = (s.more is).0 in absurd (omega arith)

-- what is put into the runs is put into all
pub runs_more : (a b : Ahead) (words : List ℕ) (first end : ℕ) → ((i : ℕ) → InRuns b i ↔ (InRuns a i ⊎ InRun first end i))
    → (i : ℕ) → IsAhead b words i ↔ (IsAhead a words i ⊎ InRun first end i)
runs_more a b words first end more i = (
  λ h. ⊎_elim (λ r. ⊎_elim (λ old. inl (inl old)) (λ new. inr new) ((more i).0 r)) (λ has. inl (inr has)) h,
  λ t. ⊎_elim (λ h. ⊎_elim (λ r. inl ((more i).1 (inl r))) (λ has. inr has) h) (λ new. inl ((more i).1 (inr new))) t,
)
