use Rattle.std.proofs.Common.{◌≡◌, ℕ, ◌+◌, ◌*◌, ◌%◌, ap, sym, ◌∙◌, arith, rules}
use Rattle.tp_model.specs.Words.{ClaimWord, FreeWord, TakenWord, KilledWord, AgainWord}
use Rattle.tp_rule.specs.Words.{pack_claim, IsFitClaim}
use Rattle.tp_rule.proofs.found.FoundClaim.is_attempt.Goals as goal

-- the lowest six bits tell the kind and the attempt
taken : (w : ClaimWord) (a : ℕ) → IsFitClaim w → pack_claim w % 64 ≡ 1 + 4 * a → (u : ℕ) × (r : ℕ) × (w ≡ TakenWord a u r)
taken FreeWord a fit same = absurd (omega arith)
taken (TakenWord n u r) a fit same = let top = fit.1 in let is : n ≡ a = omega arith in (u, r, ap (λ z. TakenWord z u r) is)
taken (KilledWord n u r) a fit same = let top = fit.0 in absurd (omega arith)
taken (AgainWord r) a fit same = absurd (omega arith)

pub returns : goal.returns
returns c = λ yes. taken _ c.args.attempt c.requires.found (ap (λ z. z % 64) (sym c.args.self.same) ∙ search rules)
