-- Each element that is born has a whole body, and a whole body is its four words.
use Rattle.std.proofs.Common.{◌≡◌, ℕ, Some, List, [], ◌∷◌, ◌++◌, slice_index, refl, sym, subst, ⊎_elim, arith}
use Rattle.tp_model.specs.declared.types.Element.{Element}
use Rattle.tp_model.specs.declared.types.Limits.{Limits}
use Rattle.tp_model.specs.declared.event.Event.{Event}
use Rattle.tp_model.specs.declared.event.Event.TheVariants.{Enqueue, Claim, Commit, Abort, Kill, Requeue}
use Rattle.tp_model.specs.History.{In, births, IsBorn, element_of, first_id}
use Rattle.tp_model.specs.Steps.{IsBody, Step, IsLegal}
use Rattle.tp_model.proofs.Histories.{by_steps}
use Rattle.tp_model.proofs.Bridges.{in_one, in_none, born_either, is_born, outputs_place}

-- what an event makes has whole bodies
pub births_whole : (l : Limits) (h : List Event) (e : Event) (x : Element) → Step l h e → In x (births e) → IsBody x.body
births_whole l h (Enqueue c y) x step p = subst (λ (z : Element). IsBody z.body) (sym (in_one p)) step.body
births_whole l h (Claim c u i n) x step p = absurd (in_none p)
births_whole l h (Commit c u outs) x step p = (outputs_place l h c u step.item.root (first_id outs) outs step.outputs x p).2.body
births_whole l h (Abort c u) x step p = absurd (in_none p)
births_whole l h (Kill c i) x step p = absurd (in_none p)
births_whole l h (Requeue c i k) x step p = absurd (in_none p)

-- each born element has a whole body
pub born_whole : (l : Limits) (h : List Event) → IsLegal l h → (x : Element) → IsBorn h x → IsBody x.body
born_whole l h legal = by_steps l (λ z. (x : Element) → IsBorn z x → IsBody x.body) (λ x p. absurd cc) more h legal
  where
    more : (h : List Event) (e : Event) → IsLegal l h → Step l h e → ((x : Element) → IsBorn h x → IsBody x.body) → (x : Element) → IsBorn (h ++ e ∷ []) x → IsBody x.body
    more h e legal step old x p = ⊎_elim (old x) (births_whole l h e x step) (born_either x h e p)

-- so has the element that is found with an id
pub found_whole : (l : Limits) (h : List Event) → IsLegal l h → (i : ℕ) (x : Element) → element_of h i ≡ Some x → IsBody x.body
found_whole l h legal i x p = born_whole l h legal x (is_born h i x p)

-- a whole body is the list of its four words
pub four_words : (body : List ℕ) → IsBody body → body ≡ slice_index body 0 ∷ slice_index body 1 ∷ slice_index body 2 ∷ slice_index body 3 ∷ []
four_words [] whole = absurd (omega arith)
four_words (a ∷ []) whole = absurd (omega arith)
four_words (a ∷ b ∷ []) whole = absurd (omega arith)
four_words (a ∷ b ∷ d ∷ []) whole = absurd (omega arith)
four_words (a ∷ b ∷ d ∷ e ∷ []) whole = refl
four_words (a ∷ b ∷ d ∷ e ∷ f ∷ rest) whole = absurd (omega arith)
