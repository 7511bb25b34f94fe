-- Calls of one worker, one after another.
use Rattle.std.specs.Prelude.{◌≡◌, ⊤, ℕ, List, [], ◌∷◌, length}
use Rattle.tp_workers.specs.declared.tally.Shift.{Shift}
use Rattle.tp_workers.specs.Tally.{empty_shift, plus}

-- calls with these answers lead from one state to the other
abbrev pub Chain : {S A : Type 0} → (S → A → S → Type 0) → S → List A → S → Type 0
Chain R old [] new = new ≡ old
Chain {S = S} R old (a ∷ rest) new = (between : S) × R old a between × Chain R between rest new

-- each of these is so, but perhaps the last
abbrev pub AllButLast : {A : Type 0} → (A → Type 0) → List A → Type 0
AllButLast P [] = ⊤
AllButLast P (a ∷ []) = ⊤
AllButLast P (a ∷ b ∷ rest) = P a × AllButLast P (b ∷ rest)

-- these answers, as counts
abbrev pub tally : {A : Type 0} → (A → Shift) → List A → Shift
tally count [] = empty_shift
tally count (a ∷ rest) = plus (count a) (tally count rest)

-- n calls lead from one state to the other, and their answers are counted so
pub record MadeCalls {S A : Type 0} (R : S → A → S → Type 0) (count : A → Shift) (n : ℕ) (old : S)
    (counts : Shift) (new : S) : Type 0 where
  pub answers : List A
  pub each : Chain R old answers new
  pub made : length answers ≡ n
  pub counted : counts ≡ tally count answers
