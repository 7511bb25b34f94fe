-- What all effects of a server do together, by what each of them does.
use Rattle.std.proofs.Common.{◌≡◌, ◌≤◌, ◌∙◌, ℕ, ◌+◌, List, [], ◌∷◌, ◌++◌, Ok, refl, ap, subst, arith}
use Rattle.std.specs.Prelude.{Result, IfOk}
use Rattle.std.specs.List.{sum_by}
use Rattle.std.proofs.lemmas.List.Sums.{sum_by-append, sum_by-cons}
use Rattle.std.proofs.lemmas.Result.{IfOk-at_ok}
use Rattle.tp_model.specs.Drafts.{DraftView}
use Rattle.tp_model.specs.declared.types.Element.{Element}
use Rattle.tp_server.specs.Behaviour.{Allows, Behaviour, Done, Folds}
use Rattle.tp_server.specs.Books.{EachEffect, Lowers, NeverLowers, Preserves, Raises, RaisesByOutputs, elements_of, outputs_of}
use Rattle.tp_server.specs.Effect.{Effect}

-- an effect that the behaviour allows is as each of them
of_each : (behaviour : Behaviour) (IsSo : List ℕ → Element → Effect → Type 0) (registers : List ℕ) (element : Element) (effect : Effect)
    → EachEffect behaviour IsSo → Allows behaviour registers element (Ok effect) → IsSo registers element effect
of_each behaviour IsSo registers element effect each (heard, came) = IfOk-at_ok (IsSo registers element) came (each registers element heard)

module _ {behaviour : Behaviour} {measure : List ℕ → ℕ} where
  pub all_raise : {worth : Element → ℕ} (start end : List ℕ) (works : List Done) → Raises behaviour measure worth → Folds behaviour start works end
      → measure end ≡ measure start + sum_by worth (elements_of works)
  all_raise start end [] raises same = let first = ap measure same in omega arith
  all_raise {worth} start end (d ∷ ds) raises (next, allowed, folds) =
      let one = of_each behaviour _ start d.element _ raises.each allowed in
      let others = all_raise next end ds raises folds in
      omega (arith, one, others, sum_by-cons worth d.element (elements_of ds))

  pub all_lower : {worth : Element → ℕ} (start end : List ℕ) (works : List Done) → Lowers behaviour measure worth → Folds behaviour start works end
      → measure end + sum_by worth (elements_of works) ≡ measure start
  all_lower start end [] lowers same = let first = ap measure same in omega arith
  all_lower {worth} start end (d ∷ ds) lowers (next, allowed, folds) =
      let one = of_each behaviour _ start d.element _ lowers.each allowed in
      let others = all_lower next end ds lowers folds in
      omega (arith, one, others, sum_by-cons worth d.element (elements_of ds))

  pub all_raise_by_outputs : {worth : DraftView → ℕ} (start end : List ℕ) (works : List Done) → RaisesByOutputs behaviour measure worth
      → Folds behaviour start works end → measure end ≡ measure start + sum_by worth (outputs_of works)
  all_raise_by_outputs start end [] raises same = let first = ap measure same in omega arith
  all_raise_by_outputs {worth} start end (d ∷ ds) raises (next, allowed, folds) =
      let one = of_each behaviour _ start d.element _ raises.each allowed in
      let others = all_raise_by_outputs next end ds raises folds in
      omega (arith, one, others, sum_by-append worth d.drafts (outputs_of ds))

  pub all_never_lower : (start end : List ℕ) (works : List Done) → NeverLowers behaviour measure → Folds behaviour start works end
      → measure start ≤ measure end
  all_never_lower start end [] rises same = let first = ap measure same in omega arith
  all_never_lower start end (d ∷ ds) rises (next, allowed, folds) =
      let one = of_each behaviour _ start d.element _ rises.each allowed in
      let others = all_never_lower next end ds rises folds in
      omega (arith, one, others)

pub all_preserve : {behaviour : Behaviour} {invariant : List ℕ → Type 0} (start end : List ℕ) (works : List Done) → Preserves behaviour invariant
    → Folds behaviour start works end → invariant start → invariant end
all_preserve {behaviour} {invariant} start end [] preserves same holds = subst invariant same holds
all_preserve {behaviour} {invariant} start end (d ∷ ds) preserves (next, (heard, came), folds) holds =
    let one = IfOk-at_ok (λ (effect : Effect). invariant effect.registers) came (preserves.each start d.element heard holds) in
    all_preserve next end ds preserves folds one
