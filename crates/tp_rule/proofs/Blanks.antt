-- Words that were never stored are 0.
use Rattle.std.proofs.Common.{◌≡◌, ℕ, zero, suc, List, length, replicate, get_or, refl, sym, ◌∙◌, arith}
use Rattle.tp_model.specs.declared.types.TheConstants.{BODY_WORDS}
use Rattle.tp_rule.specs.Rule.{HoldsBody, IsUnwritten}
use Rattle.tp_rule.specs.Views.{blank_body}

pub zeros : (n i : ℕ) → ◌≡◌ {A = ℕ} (get_or (replicate n 0) i 0) 0
zeros zero i = refl
zeros (suc n) zero = refl
zeros (suc n) (suc i) = zeros n i

-- a row of which no word was stored has the body of zeros
pub blank_there : (ws : List ℕ) (i : ℕ) → IsUnwritten ws i → HoldsBody ws i blank_body
blank_there ws i none j less = let long : length blank_body ≡ BODY_WORDS = refl in none j (omega arith) ∙ sym (zeros BODY_WORDS j)
