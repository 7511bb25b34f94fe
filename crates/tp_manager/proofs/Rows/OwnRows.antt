-- The rows of a pass are born by its own events alone.
use Rattle.std.proofs.Common.{◌≡◌, ◌≢◌, ℕ, ◌+◌, ◌≤◌, ◌==◌, List, [], ◌∷◌, ◌++◌, length, sym, ap, ◌∙◌, subst, inl, inr, arith, length-append}
use Rattle.std.proofs.lemmas.Bool.Decides.{eqb_tells}
use Rattle.std.specs.List.{find}
use Rattle.std.specs.Option.{option_or}
use mathlib.Core.List.{IsPrefix}
use Rattle.tp_model.specs.declared.types.Element.{Element}
use Rattle.tp_model.specs.declared.types.Limits.{Limits}
use Rattle.tp_model.specs.declared.event.Event.{Event}
use Rattle.tp_model.specs.History.{births, IsUnborn, pass_of, events_by}
use Rattle.tp_model.specs.Steps.{IsRowOf, MayUse, Step, IsLegal}
use Rattle.tp_model.proofs.Histories.{along, element_of-snoc}
use Rattle.tp_model.proofs.Bridges.{by_own, by_other}
use Rattle.tp_model.proofs.Blocks.{no_birth}
use Rattle.tp_model.proofs.Areas.{part_alone}

module _ (l : Limits) (c i : ℕ) (row : IsRowOf l c i) (h : List Event) where
  abbrev StillUnborn : List Event → Type 0
  StillUnborn z = (length (events_by c h) ≤ length (events_by c z)) × (length (events_by c z) ≤ length (events_by c h) → IsUnborn z i)

  other_row : (x : List Event) (e : Event) → pass_of e ≢ c → ¬ MayUse l x (pass_of e) i
  other_row x e not may = not (part_alone l x c (pass_of e) i row may)

  still_more : (x : List Event) (e : Event) → IsLegal l x → Step l x e → StillUnborn x → StillUnborn (x ++ e ∷ [])
  still_more x e legal step old =
      elim (eqb_tells (pass_of e) c) [
        | inl p ↦ let low = old.0 in let more : length (events_by c (x ++ e ∷ [])) ≡ length (events_by c x) + 1 = ap length (by_own c x e p.1) ∙ length-append (events_by c x) (e ∷ []) in (omega arith, λ high. absurd (omega arith))
        | inr p ↦
            let same = by_other c x e p.1 in (
              subst (λ z. length (events_by c h) ≤ length z) (sym same) old.0,
              λ high. element_of-snoc x e i ∙ (ap (λ o. option_or o (find (λ (y : Element). y.id == i) (births e))) (old.1 (subst (λ z. length z ≤ length (events_by c h)) same high)) ∙ no_birth l x e step i (other_row x e p.1)),
            )
      ]

  -- a row of a pass that made no event since is still unborn
  pub unborn_quiet : IsUnborn h i → (g : List Event) → IsLegal l g → IsPrefix h g → length (events_by c g) ≤ length (events_by c h) → IsUnborn g i
  unborn_quiet un g legal b few =
      let all : StillUnborn (h ++ b.0) = along l StillUnborn still_more h b.0 (rw b.1 legal) (omega arith, λ _. un) in
      let there : StillUnborn g = subst StillUnborn b.1 all in there.1 few
