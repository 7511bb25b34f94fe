-- A unit's outputs: behind them its request goes on.
use Rattle.std.proofs.Common.{◌≡◌, ◌==◌, ◌≤◌, ◌+◌, ℕ, true, false, not, Some, None, List, [], ◌∷◌, length, refl, ◌∙◌, subst, arith}
use Rattle.std.proofs.lemmas.Bool.Decides.{nat_tests}
use Rattle.tp_model.specs.Drafts.{DraftView}
use Rattle.tp_store.specs.declared.births.Origin.{Origin}
use Rattle.tp_store.specs.declared.element.Element.{Element}
use Rattle.tp_store.specs.Elements.{Entry, element_at, put}
use Rattle.tp_store.specs.Ends.{is_over}
use Rattle.tp_store.specs.State.{made, put_all}
use Rattle.tp_store.proofs.Changing.{all_there}
use Rattle.tp_store.proofs.Looking.{put_looks}
use Rattle.tp_store.proofs.Overs.{live_from}

apart : (m n : ℕ) → (m ≡ n → ⊥) → (m == n) ≡ false
apart m n h = grind (arith, nat_tests)

same : (n : ℕ) → n + 0 ≡ n
same n = omega arith

-- what stood there stood below the next id
pub goes_on : (from : Origin) (ds : List DraftView) (next id : ℕ) (before after : Element) (es : List Entry) → ((i : ℕ) → next ≤ i → element_at i es ≡ None) → element_at id es ≡ Some before → not (length ds == 0) ≡ true → is_over from.root (put id after (put_all next from ds es)) ≡ false
goes_on from [] next id before after es none there some = absurd cc
goes_on from (d ∷ ds) next id before after es none there some = live_from from.root next (made from d) _ found refl refl
  where
    elsewhere : id ≡ next → ⊥
    elsewhere e = let h = none id (omega arith) in absurd cc

    found : element_at next (put id after (put_all next from (d ∷ ds) es)) ≡ Some (made from d)
    found = put_looks id after (put_all next from (d ∷ ds) es) next ∙ rw (apart id next elsewhere) (subst (λ n. element_at n (put_all next from (d ∷ ds) es) ≡ Some (made from d)) (same next) (all_there from next (d ∷ ds) es 0 d refl))
