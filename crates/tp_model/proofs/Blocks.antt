-- Each pass has a part of the rows and of the units, and its events concern what it may use alone.
use Rattle.std.proofs.Common.{◌≡◌, ◌⊎◌, ℕ, zero, suc, ◌+◌, ◌*◌, ◌<◌, ◌≤◌, ◌==◌, Some, None, List, [], ◌∷◌, refl, sym, ◌∙◌, ap, subst, inl, inr, arith}
use Rattle.std.proofs.Math.Nat.{mul-le-mul_right, suc-mul}
use Rattle.std.specs.List.{find}
use Rattle.tp_model.specs.declared.types.Element.{Element}
use Rattle.tp_model.specs.declared.types.Limits.{Limits}
use Rattle.tp_model.specs.declared.event.Event.{Event}
use Rattle.tp_model.specs.declared.event.Event.TheVariants.{Enqueue, Claim, Commit, Abort, Kill, Requeue}
use Rattle.tp_model.specs.History.{births, UnitClaim, claim_by, first_id, pass_of}
use Rattle.tp_model.specs.Steps.{MayUse, IsUnitOf, AreOutputs, Step}
use Rattle.tp_model.proofs.Lists.{if_other, some_if}

-- two blocks of equal size that share a number are one block
pub blocks_apart : (size c d i : ℕ) → c * size ≤ i → i < c * size + size → d * size ≤ i → i < d * size + size → c ≡ d
blocks_apart size c d i low high low' high' =
    let below : (a b : ℕ) → a < b → a * size + size ≤ b * size = λ a b less. (let le : suc a * size ≤ b * size = mul-le-mul_right size (omega arith) in rw (suc-mul a size) at le) in
    let not_less : (a b : ℕ) → a < b → a * size + size ≤ b * size = below in
    elim (order c d) [
      | inl less ↦ absurd (let le = not_less c d less in omega arith)
      | inr rest ↦ elim rest [ inl less ↦ absurd (let le = not_less d c less in omega arith) | inr same ↦ same ]
    ]
  where
    order : (a b : ℕ) → (a < b) ⊎ ((b < a) ⊎ (a ≡ b))
    order zero zero = inr (inr refl)
    order zero (suc b) = inl (omega arith)
    order (suc a) zero = inr (inl (omega arith))
    order (suc a) (suc b) = elim (order a b) [ inl less ↦ inl (omega arith) | inr rest ↦ elim rest [ inl less ↦ inr (inl (omega arith)) | inr same ↦ inr (inr (ap suc same)) ] ]

-- what an event makes lies in rows that its pass may use
no_output : (l : Limits) (h : List Event) (c u root id : ℕ) (outs : List Element) (i : ℕ) → AreOutputs l h c u root id outs → ¬ MayUse l h c i → find (λ (y : Element). y.id == i) outs ≡ None
no_output l h c u root id [] i are none = refl
no_output l h c u root id (o ∷ os) i are none =
    let place = are.0.place in
    if_other o.id i (Some o) (find (λ (y : Element). y.id == i) os) (λ same. let at : id ≡ i = sym place ∙ same in none (subst (λ k. MayUse l h c k) at are.0.row))
    ∙ no_output l h c u root (id + 1) os i are.1 none

pub no_birth : (l : Limits) (h : List Event) (e : Event) → Step l h e → (i : ℕ) → ¬ MayUse l h (pass_of e) i → find (λ (y : Element). y.id == i) (births e) ≡ None
no_birth l h (Enqueue c e) step i none = if_other e.id i (Some e) None (λ same. none (subst (λ k. MayUse l h c k) same step.row))
no_birth l h (Claim c u j n) step i none = refl
no_birth l h (Commit c u outs) step i none = no_output l h c u step.item.root (first_id outs) outs i step.outputs none
no_birth l h (Abort c u) step i none = refl
no_birth l h (Kill c j) step i none = refl
no_birth l h (Requeue c j k) step i none = refl

-- who claims does it for itself, by a unit of its own
pub claimer : (l : Limits) (h : List Event) (e : Event) → Step l h e → (u : ℕ) (t : UnitClaim) → claim_by u e ≡ Some t → IsUnitOf l (pass_of e) u × (t.pass ≡ pass_of e)
claimer l h (Enqueue c e) step u t is = absurd (cc (is))
claimer l h (Claim c v i n) step u t is =
    let q = some_if v u (record { pass = c; item = i; attempt = n }) t is in
    (subst (λ k. IsUnitOf l c k) q.0 step.unit, ap (λ (t : UnitClaim). t.pass) (sym q.1))
claimer l h (Commit c v outs) step u t is = absurd (cc (is))
claimer l h (Abort c v) step u t is = absurd (cc (is))
claimer l h (Kill c i) step u t is = absurd (cc (is))
claimer l h (Requeue c i k) step u t is = absurd (cc (is))

pub no_claim : (l : Limits) (h : List Event) (e : Event) → Step l h e → (u : ℕ) → ¬ IsUnitOf l (pass_of e) u → claim_by u e ≡ None
no_claim l h (Enqueue c e) step u none = refl
no_claim l h (Claim c v i n) step u none = if_other v u _ None (λ same. none (subst (λ k. IsUnitOf l c k) same step.unit))
no_claim l h (Commit c v outs) step u none = refl
no_claim l h (Abort c v) step u none = refl
no_claim l h (Kill c i) step u none = refl
no_claim l h (Requeue c i k) step u none = refl
