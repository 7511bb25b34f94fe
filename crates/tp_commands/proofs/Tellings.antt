-- The lines of what the client did, from the texts of its answers.
use Rattle.std.proofs.Common.{◌≡◌, List, ℕ, Result, IfOk}
use Rattle.std.proofs.lemmas.Result.{IfOk-weaker}
use Rattle.tp_manager.specs.Shown.{PassShown}
use Rattle.tp_report.specs.Answer.{answer_text, line}
use Rattle.tp_report.specs.declared.answer.Answer.{Answer}
use Rattle.tp_commands.specs.Asked.{AnswerLine, FoundLine}

module _ {T E : Type 0} (r : Result T E) (bytes : T → List ℕ) (old new : PassShown) where
  pub answer_told : (Tells : PassShown → PassShown → Answer → Type 0) (a : Answer) → Tells old new a → IfOk r (λ s. bytes s ≡ line (answer_text a)) → IfOk r (λ s. AnswerLine Tells old (bytes s) new)
  answer_told Tells a tells text = IfOk-weaker r _ _ (λ s is. record { answer = a; tells = tells; text_is = is }) text

  pub found_told : {A : Type 0} (Tells : PassShown → A → PassShown → Type 0) (told : A → List ℕ) → IfOk r (λ s. (found : A) × Tells old found new × (bytes s ≡ line (told found)))
      → IfOk r (λ s. FoundLine Tells told old (bytes s) new)
  found_told Tells told text = IfOk-weaker r _ _ (λ s is. record { found = is.0; tells = is.1; text_is = is.2 }) text

  pub value_told : {A : Type 0} (Tells : PassShown → A → PassShown → Type 0) (told : A → List ℕ) (found : A) → Tells old found new → IfOk r (λ s. bytes s ≡ line (told found)) → IfOk r (λ s. FoundLine Tells told old (bytes s) new)
  value_told Tells told found tells text = IfOk-weaker r _ _ (λ s is. record { found = found; tells = tells; text_is = is }) text
