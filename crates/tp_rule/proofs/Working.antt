-- What a pass that claimed a unit needs to commit it.
use Rattle.std.proofs.Common.{◌≡◌, ℕ, List, [], ◌∷◌, ◌++◌, refl, sym, ap, ◌∙◌, subst, ⊎_elim, Some}
use Rattle.tp_model.specs.declared.trace.StepKind.TheVariants as kinds
use Rattle.tp_model.specs.declared.event.Event.{Event}
use Rattle.tp_model.specs.declared.event.Event.TheVariants.{Claim}
use Rattle.tp_model.specs.declared.types.Element.{Element}
use Rattle.tp_model.specs.declared.types.Limits.{Limits}
use Rattle.tp_model.specs.History.{In, IsClaim, claim_of, element_of}
use Rattle.tp_model.specs.Steps.{IsBody, IsLegal, IsStage}
use Rattle.tp_model.proofs.Histories.{legal_at}
use Rattle.tp_model.proofs.Bridges.{found_later, in_either, in_none, in_one, new_claim}
use Rattle.tp_rule.specs.declared.view.Hand.{Hand}
use Rattle.tp_rule.specs.declared.view.View.{View}
use Rattle.tp_rule.specs.Views.{IsOnePass, hand}
use Rattle.tp_rule.specs.Steps.{Drafts, IsOut, IsOwnWork, MakesClaim, claimed, next_element, with_claim, with_draft}
use Rattle.tp_rule.proofs.Reading.{grew_begins, one_after}

own_claim : (l : Limits) (h : List Event) (c u i n : ℕ) → IsLegal l (h ++ Claim c u i n ∷ []) → IsClaim (h ++ Claim c u i n ∷ []) c u i n
own_claim l h c u i n legal = new_claim h c u i n (legal_at l h (Claim c u i n) [] legal).unused

-- after a claim exchange the unit is the pass's own work, on the element that it took
pub claimed_work : (v w : View) (u i n : ℕ) (x : Element) → IsOnePass v → MakesClaim v u i n w → element_of v.seen i ≡ Some x → (hand v).drafts ≡ [] → (work : IsOwnWork w u) × (work.item ≡ x)
claimed_work v w u i n x one g at none = let c : ℕ = (hand v).number in let t = one_after kinds.ClaimExchange (with_claim u (claimed v u i n)) w.seen w.known v w one g.view in (
  record {
    taking = record { pass = c; item = i; attempt = n };
    claimed = subst (λ h. IsClaim h c u i n) (sym g.seen) (own_claim v.limits (v.seen ++ g.between) c u i n (subst (IsLegal v.limits) g.seen g.legal));
    own = sym (ap (λ (a : Hand). a.number) t.1);
    item = x;
    taken = found_later v.seen w.seen (grew_begins kinds.ClaimExchange (with_claim u (claimed v u i n)) (claimed v u i n ∷ []) v w g) i x at;
    outputs = λ y p. absurd (in_none (subst (λ l. In y l) (ap (λ (a : Hand). a.drafts) t.1 ∙ none) p));
  },
  refl,
)

-- it stays so while the pass sees, makes and drafts nothing
pub work_stays : (v w : View) (u : ℕ) → w.seen ≡ v.seen → (hand w).number ≡ (hand v).number → (hand w).drafts ≡ (hand v).drafts → (work : IsOwnWork v u) → (later : IsOwnWork w u) × (later.item ≡ work.item)
work_stays v w u seen number drafts work = (
  record {
    taking = work.taking;
    claimed = ap (λ h. claim_of h u) seen ∙ work.claimed;
    own = work.own ∙ sym number;
    item = work.item;
    taken = ap (λ h. element_of h work.taking.item) seen ∙ work.taken;
    outputs = λ y p. work.outputs y (subst (λ l. In y l) drafts p);
  },
  refl,
)

-- and with one more draft for the root of that element
pub drafted_work : (v w : View) (stage root u : ℕ) → IsOnePass v → (work : IsOwnWork v u) → Drafts v stage root u w → IsStage stage → root ≡ work.item.root → IsBody (hand v).next_body → IsOwnWork w u
drafted_work v w stage root u one work is fits same_root whole = let x : Element = next_element v stage root (Some u) in let t = one_after kinds.DraftStore (with_draft x) v.seen v.known v w one is in let seen : w.seen ≡ v.seen = ap (λ (z : View). z.seen) is in
    let drafts : (hand w).drafts ≡ (hand v).drafts ++ x ∷ [] = ap (λ (a : Hand). a.drafts) t.1 in let is_out : IsOut u work.item.root x = (fits, refl, same_root, whole) in record {
      taking = work.taking;
      claimed = ap (λ h. claim_of h u) seen ∙ work.claimed;
      own = work.own ∙ sym (ap (λ (a : Hand). a.number) t.1);
      item = work.item;
      taken = ap (λ h. element_of h work.taking.item) seen ∙ work.taken;
      outputs = λ y p. ⊎_elim (work.outputs y) (λ q. subst (λ z. IsOut u work.item.root z) (sym (in_one q)) is_out) (in_either (hand v).drafts (x ∷ []) (subst (λ l. In y l) drafts p));
    }
