-- What the effects of a server do to its registers, one at a time and all together: laws for contracts of
-- one's own.
use Rattle.std.specs.Prelude.{◌≡◌, ◌≤◌, ℕ, ◌+◌, Bool, IsTrue, List, map, IfOk}
use Rattle.std.specs.List.{flat_map, sum_by}
use Rattle.tp_model.specs.Drafts.{DraftView}
use Rattle.tp_model.specs.declared.types.Element.{Element}
use Rattle.tp_server.specs.Behaviour.{Behaviour, Done, Folds}
use Rattle.tp_server.specs.Effect.{Effect}

-- each effect that the behaviour allows is so, beside the registers that it finds and the element that it is
-- of
abbrev pub EachEffect : Behaviour → (List ℕ → Element → Effect → Type 0) → Type 0
EachEffect behaviour IsSo = (registers : List ℕ) (element : Element) (heard : List ℕ)
    → IfOk (behaviour.effect registers element heard) (IsSo registers element)

-- each effect raises the measure of the registers by the worth of its element
pub record Raises (behaviour : Behaviour) (measure : List ℕ → ℕ) (worth : Element → ℕ) : Type 0 where
  pub each : EachEffect behaviour (λ registers element effect.
      measure effect.registers ≡ measure registers + worth element)

-- each effect lowers it by the worth of its element
pub record Lowers (behaviour : Behaviour) (measure : List ℕ → ℕ) (worth : Element → ℕ) : Type 0 where
  pub each : EachEffect behaviour (λ registers element effect.
      measure effect.registers + worth element ≡ measure registers)

-- each effect raises it by the worth of the outputs that it makes
pub record RaisesByOutputs (behaviour : Behaviour) (measure : List ℕ → ℕ) (worth : DraftView
    → ℕ) : Type 0 where
  pub each : EachEffect behaviour (λ registers element effect.
      measure effect.registers ≡ measure registers + sum_by worth effect.drafts)

-- no effect lowers it
pub record NeverLowers (behaviour : Behaviour) (measure : List ℕ → ℕ) : Type 0 where
  pub each : EachEffect behaviour (λ registers element effect. measure registers ≤ measure effect.registers)

-- where the invariant holds of the registers, each effect leaves it so
pub record Preserves (behaviour : Behaviour) (invariant : List ℕ → Type 0) : Type 0 where
  pub each : (registers : List ℕ) (element : Element) (heard : List ℕ) → invariant registers
      → IfOk (behaviour.effect registers element heard) (λ effect. invariant effect.registers)

-- the elements of work that was done, in order
abbrev pub elements_of : List Done → List Element
elements_of works = map (λ (d : Done). d.element) works

-- the outputs of work that was done, in order
abbrev pub outputs_of : List Done → List DraftView
outputs_of works = flat_map (λ (d : Done). d.drafts) works

-- so all effects together raise it by the worth of all elements
abbrev pub AllRaise : Type 0
AllRaise = (behaviour : Behaviour) (measure : List ℕ → ℕ) (worth : Element → ℕ) (start end : List ℕ)
    (works : List Done)
    → Raises behaviour measure worth → Folds behaviour start works end
    → measure end ≡ measure start + sum_by worth (elements_of works)

-- or lower it by as much
abbrev pub AllLower : Type 0
AllLower = (behaviour : Behaviour) (measure : List ℕ → ℕ) (worth : Element → ℕ) (start end : List ℕ)
    (works : List Done)
    → Lowers behaviour measure worth → Folds behaviour start works end
    → measure end + sum_by worth (elements_of works) ≡ measure start

-- or raise it by the worth of all outputs
abbrev pub AllRaiseByOutputs : Type 0
AllRaiseByOutputs = (behaviour : Behaviour) (measure : List ℕ → ℕ) (worth : DraftView → ℕ)
    (start end : List ℕ) (works : List Done)
    → RaisesByOutputs behaviour measure worth → Folds behaviour start works end
    → measure end ≡ measure start + sum_by worth (outputs_of works)

-- or leave it as large at least
abbrev pub AllNeverLower : Type 0
AllNeverLower = (behaviour : Behaviour) (measure : List ℕ → ℕ) (start end : List ℕ) (works : List Done)
    → NeverLowers behaviour measure → Folds behaviour start works end → measure start ≤ measure end

-- and a test that each effect preserves is passed at the end where it is passed at the start
abbrev pub AllPreserve : Type 0
AllPreserve = (behaviour : Behaviour) (test : List ℕ → Bool) (start end : List ℕ) (works : List Done)
    → Preserves behaviour (λ registers. IsTrue (test registers)) → Folds behaviour start works end
    → IsTrue (test start) → IsTrue (test end)
