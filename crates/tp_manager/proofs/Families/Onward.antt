-- A walk that looks for any element of a family.
use Rattle.std.proofs.Common.{◌≡◌, ◌≢◌, ◌⊎◌, ◌↔◌, ℕ, ◌+◌, ◌<◌, ◌≤◌, true, false, Option, Some, None, IfSome, List, length, sym, subst, inl, inr, ⊎_elim, arith}
use Rattle.std.proofs.lemmas.Bool.{cases_eq}
use mathlib.Core.List.{IsPrefix}
use Rattle.tp_model.specs.declared.types.Element.{Element}
use Rattle.tp_model.specs.declared.types.Limits.{Limits}
use Rattle.tp_model.specs.declared.event.Event.{Event}
use Rattle.tp_model.specs.History.{IsBorn}
use Rattle.tp_model.specs.Families.{IsClosedFrom, IsOfFamily, IsRequest, family}
use Rattle.tp_model.specs.Steps.{IsLegal, rows_of}
use Rattle.tp_model.proofs.Bridges.{begins_refl, begins_trans, element_of-id, found_later, is_born}
use Rattle.tp_model.proofs.Descents.{whole_family}
use Rattle.tp_model.proofs.Later.{births_inside}
use Rattle.tp_rule.specs.Steps.{HasElement}
use Rattle.tp_rule.specs.declared.view.View.{View}
use Rattle.tp_manager.specs.declared.walking.Found.TheVariants.{Nothing, Outputs, Reply}
use Rattle.tp_manager.specs.Bounds.{walk_steps}
use Rattle.tp_manager.specs.Families.{Followed, Following, GoneOver, IsAsked, IsFound, IsOutputFrom, Reached, and_from}
use Rattle.tp_manager.specs.CallSteps.{Looked}
use Rattle.tp_manager.proofs.Accounts.Counts.{count_most}
use Rattle.tp_manager.proofs.Families.ReplyWalks.{found_sooner, over_nothing, over_outputs, over_reply, over_wider}
use Rattle.tp_manager.proofs.Families.Trees.{all_gone, gone_before, gone_either, gone_here, outputs_from, tree_begins, tree_few, tree_on}
use Rattle.tp_manager.proofs.Calls.CallSteps.{looked_few}

module _ (l : Limits) (root from : ℕ) where
  pub following_begins : (Left : ℕ → Type 0) (v : View) → IsLegal l v.seen → IsRequest v.seen root → Left root → ((i : ℕ) → Left i → i ≡ root) → Following l root from 0 Left None v.seen v
  following_begins Left v legal request left only = record {
    gone = λ i. false;
    tree = tree_begins l root Left v.seen legal request left only;
    over = λ i is. absurd cc;
    passed = λ i is. absurd cc;
    found = tt;
  }

  pub following_there : (k i : ℕ) (Left : ℕ → Type 0) (least : Option ℕ) (a : List Event) (w : View) → IsLegal l w.seen → Following l root from k Left least a w → Left i → (i < rows_of l) × HasElement w.seen i
  following_there k i Left least a w legal t left =
      let c = t.tree.each i (inl left) in let inside = births_inside l w.seen legal c.0 (is_born w.seen i c.0 c.1) in let id = element_of-id w.seen i c.0 c.1 in
      (omega arith, (c.0, c.1))

  found_later_on : (least : Option ℕ) (b c : List Event) → IsPrefix b c → IfSome least (λ id. (from ≤ id) × IsOfFamily b root id) → IfSome least (λ id. (from ≤ id) × IsOfFamily c root id)
  found_later_on None b c after t = tt
  found_later_on (Some id) b c after t = let x = t.1 in (t.0, (x.0, found_later b c after id x.0 x.1, x.2))

  -- one element more
  module _ (k i : ℕ) (Left Next Adds : ℕ → Type 0) (least new : Option ℕ) (a : List Event) (w y : View) (legal : IsLegal l w.seen) (after : IsPrefix w.seen y.seen) (left : Left i)
      (only : (j : ℕ) → Next j → (Left j × (j ≢ i)) ⊎ Adds j) (kept : (j : ℕ) → Left j → j ≢ i → Next j) (adds : (j : ℕ) → Adds j → IsOutputFrom y.seen root i j)
      (fewer : (j : ℕ) → IsAsked from new j → IsAsked from least j) (not : ¬ IsAsked from new i) (one : (new ≡ least) ⊎ ((new ≡ Some i) × (from ≤ i)))
      (here : GoneOver l (λ j. ⊥) Next a y.seen i) (t : Following l root from k Left least a w) where
    more : (j : ℕ) → Reached Left t.gone j → Reached Next (and_from i t.gone) j
    more j r = ⊎_elim
        (λ old. elim (cases_eq j i) [ inl q ↦ inr (subst (λ z. and_from i t.gone z ≡ true) (sym q) (gone_here i t.gone)) | inr differ ↦ inl (kept j old differ) ])
        (λ is. inr (gone_before i t.gone j is))
        r

    of : IsOfFamily y.seen root i
    of = let c = t.tree.each i (inl left) in (c.0, found_later w.seen y.seen after i c.0 c.1, c.2)

    pub following_on : Following l root from (k + 1) Next new a y
    following_on = record {
      gone = and_from i t.gone;
      tree = tree_on l root k i Left Next Adds t.gone w.seen y.seen after (following_there k i Left least a w legal t left).0 left only kept adds t.tree;
      over = λ j is. ⊎_elim
          (λ q. subst (GoneOver l (λ z. ⊥) (Reached Next (and_from i t.gone)) a y.seen) (sym q) (over_wider l i (λ z. ⊥) (λ z. ⊥) Next (Reached Next (and_from i t.gone)) a y.seen y.seen (begins_refl y.seen) (λ z n. inl n) (λ z q. q) here))
          (λ old. over_wider l j (λ z. ⊥) (λ z. ⊥) (Reached Left t.gone) (Reached Next (and_from i t.gone)) a w.seen y.seen after more (λ z q. q) (t.over j old))
          (gone_either i t.gone j is);
      passed = λ j is. ⊎_elim (λ q. subst (λ z. ¬ IsAsked from new z) (sym q) not) (λ old asked. t.passed j old (fewer j asked)) (gone_either i t.gone j is);
      found = ⊎_elim
          (λ same. subst (λ (o : Option ℕ). IfSome o (λ id. (from ≤ id) × IsOfFamily y.seen root id)) (sym same) (found_later_on least w.seen y.seen after t.found))
          (λ now. subst (λ (o : Option ℕ). IfSome o (λ id. (from ≤ id) × IsOfFamily y.seen root id)) (sym now.0) (now.1, of))
          one;
    }

  module _ (k i : ℕ) (Left Less : ℕ → Type 0) (least new : Option ℕ) (a : List Event) (w y : View) (early : IsLegal l w.seen) (legal : IsLegal l y.seen) (before : IsPrefix a w.seen) (after : IsPrefix w.seen y.seen) (left : Left i)
      (less : (j : ℕ) → Less j ↔ (Left j × (j ≢ i))) (fewer : (j : ℕ) → IsAsked from new j → IsAsked from least j) (not : ¬ IsAsked from new i) (one : (new ≡ least) ⊎ ((new ≡ Some i) × (from ≤ i)))
      (s : Following l root from k Left least a w) where
    pub following_outputs : (first count : ℕ) (Next : ℕ → Type 0) → ((j : ℕ) → Next j ↔ (Less j ⊎ ((first ≤ j) × (j < first + count)))) → IsFound l i w.seen y.seen (Outputs first count) → Following l root from (k + 1) Next new a y
    following_outputs first count Next next t =
        let c = s.tree.each i (inl left) in
        following_on k i Left Next (λ j. (first ≤ j) × (j < first + count)) least new a w y early after left
        (λ j n. ⊎_elim (λ old. inl ((less j).0 old)) (λ new. inr new) ((next j).0 n))
        (λ j old differ. (next j).1 (inl ((less j).1 (old, differ))))
        (λ j r. outputs_from l root y.seen i t.0 first count j t.1 c.0 legal (found_later w.seen y.seen after i c.0 c.1) c.2 t.2 t.3 t.5 r.0 r.1)
        fewer not one
        (over_outputs l i (λ z. ⊥) Next a y.seen first count legal (begins_trans a w.seen y.seen before after) t (λ j low high. (next j).1 (inr (low, high)))) s

    leads_nowhere : GoneOver l (λ z. ⊥) Less a y.seen i → Following l root from (k + 1) Less new a y
    leads_nowhere here = following_on k i Left Less (λ j. ⊥) least new a w y early after left (λ j n. inl ((less j).0 n)) (λ j old differ. (less j).1 (old, differ)) (λ j none. absurd none) fewer not one here s

    pub following_nothing : IsFound l i w.seen y.seen Nothing → Following l root from (k + 1) Less new a y
    following_nothing t = leads_nowhere (over_nothing l i (λ z. ⊥) Less a y.seen (found_sooner l i a w.seen y.seen Nothing early before t))

    pub following_reply : IsFound l i w.seen y.seen Reply → Following l root from (k + 1) Less new a y
    following_reply t = leads_nowhere (over_reply l i (λ z. ⊥) Less a y.seen legal (begins_trans a w.seen y.seen before after) (found_sooner l i a w.seen y.seen Reply early before t) (λ none. none))

  pub following_most : (k : ℕ) (Left : ℕ → Type 0) (least : Option ℕ) (a : List Event) (w : View) → Following l root from k Left least a w → k ≤ rows_of l
  following_most k Left least a w t = let all = count_most t.gone (rows_of l) in let k_is = t.tree.counted in omega arith

  -- nothing is left
  pub following_ends : (k : ℕ) (Left : ℕ → Type 0) (least : Option ℕ) (v w : View) → IsLegal l v.seen → ((i : ℕ) → ¬ Left i) → Looked l (walk_steps k) v w → Following l root from k Left least v.seen w → Followed l root from least v w
  following_ends k Left least v w legal none looked t = record {
    looked = let few = tree_few l root k Left t.gone w.seen looked.walk.steady.shows.legal t.tree in looked_few l (walk_steps k) (walk_steps (length (family w.seen root))) v w (omega arith) looked;
    passed = λ x born same. t.passed x.id (all x (is_born v.seen x.id x born) same);
    found = t.found;
  }
    where
      closed : IsClosedFrom l.attempts v.seen root (λ i. t.gone i ≡ true)
      closed = record {
        root_too = all_gone l root Left t.gone none root t.tree.root_too;
        outputs_too = λ i u f m j is status ended low high. all_gone l root Left t.gone none j ((t.over i is).outputs u f m j status ended low high);
      }

      all : (x : Element) → IsBorn v.seen x → x.root ≡ root → t.gone x.id ≡ true
      all = whole_family l v.seen root (λ i. t.gone i ≡ true) legal closed
