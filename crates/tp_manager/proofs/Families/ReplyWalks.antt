-- A walk that looks for replies.
use Rattle.std.proofs.Common.{◌≡◌, ◌≢◌, ◌⊎◌, ◌↔◌, ℕ, ◌+◌, ◌<◌, ◌≤◌, nat_lt, cond, Bool, true, false, Option, Some, None, IfSome, List, length, refl, sym, ◌∙◌, ap, subst, inl, inr, ⊎_elim, arith}
use Rattle.std.proofs.lemmas.Bool.{cases_eq}
use mathlib.Core.List.{IsPrefix}
use Rattle.tp_model.specs.declared.types.Element.{Element}
use Rattle.tp_model.specs.declared.types.Limits.{Limits}
use Rattle.tp_model.specs.declared.types.Status.TheVariants.{Waiting, Consumed, Parked, Killed}
use Rattle.tp_model.specs.declared.event.Event.{Event}
use Rattle.tp_model.specs.History.{IsBorn, UnitEnd, Committed, Aborted, element_of, end_of, status_of}
use Rattle.tp_model.specs.Words.{TakenWord, claim_word, taken_status}
use Rattle.tp_model.specs.Steps.{IsLegal, rows_of}
use Rattle.tp_model.specs.Families.{IsClosedFrom, IsRequest, family}
use Rattle.tp_model.proofs.Bridges.{begins_refl, begins_trans, element_of-id, end_stays, found_later, is_born, status_taken}
use Rattle.tp_model.proofs.Descents.{consumed_later, whole_family}
use Rattle.tp_model.proofs.Later.{births_inside, committed_born}
use Rattle.tp_model.proofs.Replies.{reply_stands}
use Rattle.tp_rule.specs.Steps.{HasElement}
use Rattle.tp_rule.specs.declared.view.View.{View}
use Rattle.tp_manager.specs.declared.walking.Found.{Found}
use Rattle.tp_manager.specs.declared.walking.Found.TheVariants.{Nothing, Outputs, Reply}
use Rattle.tp_manager.specs.Bounds.{walk_steps}
use Rattle.tp_manager.specs.Families.{GoneOver, IsAsked, IsComeTo, IsFound, IsOutputFrom, Listed, Listing, Reached, and_from}
use Rattle.tp_manager.specs.Lists.{HasReply}
use Rattle.tp_manager.specs.Requeues.{IsBetween}
use Rattle.tp_manager.specs.CallSteps.{Looked}
use Rattle.tp_manager.proofs.Accounts.Counts.{count_most}
use Rattle.tp_manager.proofs.Rows.Finds.{taken_served}
use Rattle.tp_manager.proofs.Families.Trees.{all_gone, gone_before, gone_either, gone_here, outputs_from, tree_begins, tree_few, tree_on}
use Rattle.tp_manager.proofs.Calls.CallSteps.{looked_few}

waiting_unconsumed : (n u : ℕ) → Waiting n ≢ Consumed u
waiting_unconsumed n u e = cc

killed_unconsumed : (u : ℕ) → Killed ≢ Consumed u
killed_unconsumed u e = cc

-- who is consumed and was taken by a unit is so by a commit of that unit
pub committed_if : (limit n u v : ℕ) (o : Option UnitEnd) → taken_status limit n u o ≡ Consumed v → (f : ℕ) × (m : ℕ) × (o ≡ Some (Committed f m)) × (u ≡ v)
committed_if limit n u v None e = absurd cc
committed_if limit n u v (Some (Committed f m)) e = (f, m, refl, cc)
committed_if limit n u v (Some Aborted) e = absurd (neither (nat_lt n limit) e)
  where
    neither : (b : Bool) → cond b (Waiting n) (Parked n) ≡ Consumed v → ⊥
    neither true e = cc
    neither false e = cc

module _ (l : Limits) (i : ℕ) where
  -- an element that is neither consumed nor a reply that isn't killed
  found_nothing : (a p b : List Event) → IsLegal l p → IsPrefix a p → IsPrefix p b → ((u : ℕ) → status_of l.attempts p i ≢ Consumed u)
      → ((x : Element) → element_of p i ≡ Some x → x.stage ≡ 15 → status_of l.attempts p i ≡ Killed) → IsFound l i a b Nothing
  found_nothing a p b legal before after not killed =
      (λ u is. not u (consumed_later l a p i u legal before is), λ x born staged. (p, before, after, killed x (found_later a p before i x born) staged))

  pub found_killed : (a p b : List Event) → IsLegal l p → IsPrefix a p → IsPrefix p b → status_of l.attempts p i ≡ Killed → IsFound l i a b Nothing
  found_killed a p b legal before after is = found_nothing a p b legal before after (λ u e. killed_unconsumed u (sym is ∙ e)) (λ x born staged. is)

  pub found_other : (a p b : List Event) → IsLegal l p → IsPrefix a p → IsPrefix p b → status_of l.attempts p i ≡ Waiting 0 → ((x : Element) → element_of b i ≡ Some x → ¬ (x.stage ≡ 15)) → IsFound l i a b Nothing
  found_other a p b legal before after is other = found_nothing a p b legal before after (λ u e. waiting_unconsumed 0 u (sym is ∙ e)) (λ x born staged. absurd (other x (found_later p b after i x born) staged))

  pub found_reply : (a p b : List Event) → IsPrefix a p → IsPrefix p b → status_of l.attempts p i ≡ Waiting 0 → (x : Element) → element_of b i ≡ Some x → x.stage ≡ 15 → IsFound l i a b Reply
  found_reply a p b before after is x born staged = ((x, born, staged), (p, before, after, (0, is)))

  -- the unit that took it wasn't committed
  pub found_taken : (a p b : List Event) (n u : ℕ) {r : ℕ} → IsLegal l p → IsPrefix a p → IsPrefix p b → claim_word p i ≡ TakenWord n u r → ((f m : ℕ) → end_of b u ≢ Some (Committed f m)) → IsFound l i a b Nothing
  found_taken a p b n u {r} legal before after taken not = found_nothing a p b legal before after
      (λ v e. let t = committed_if l.attempts n u v (end_of p u) (sym (status_taken l p i n u legal taken) ∙ e) in not t.0 t.1 (end_stays p b u (Committed t.0 t.1) after t.2))
      (λ x born staged.
      let s = taken_served l p legal i n u r taken in
      let high = s.2.1 in
      let one : s.0 ≡ x = let q = s.1 in cc in
      let at : s.0.stage ≡ 15 = ap (λ (y : Element). y.stage) one ∙ staged in
      absurd (omega arith))

  -- what was found from a later history on was so from an earlier one on
  pub found_sooner : (o a b : List Event) (f : Found) → IsLegal l a → IsPrefix o a → IsFound l i a b f → IsFound l i o b f
  found_sooner o a b (Outputs first count) legal begins t = t
  found_sooner o a b Reply legal begins t = let p = t.1 in (t.0, (p.0, begins_trans o a p.0 begins p.1, p.2, p.3))
  found_sooner o a b Nothing legal begins t =
      (λ u is. t.0 u (consumed_later l o a i u legal begins is), λ x born staged. let p = t.1 x (found_later o a begins i x born) staged in (p.0, begins_trans o a p.0 begins p.1, p.2, p.3))

  -- what it says of the element in the earlier history

  reply_unconsumed : (b : List Event) (x : Element) (u : ℕ) → IsLegal l b → element_of b i ≡ Some x → x.stage ≡ 15 → status_of l.attempts b i ≢ Consumed u
  reply_unconsumed b x u legal born staged is = ⊎_elim (λ e. waiting_unconsumed 0 u (sym e ∙ is)) (λ e. killed_unconsumed u (sym e ∙ is)) (reply_stands l b legal i x born staged)

  pub over_outputs : (Asked Has : ℕ → Type 0) (a b : List Event) (first count : ℕ) → IsLegal l b → IsPrefix a b → IsFound l i a b (Outputs first count) → ((j : ℕ) → first ≤ j → j < first + count → Has j) → GoneOver l Asked Has a b i
  over_outputs Asked Has a b first count legal begins t has = record {
    outputs = λ u f m j is ended low high.
        let q : Consumed u ≡ Consumed t.0 = sym (consumed_later l a b i u legal begins is) ∙ t.4 in
        let unit : u ≡ t.0 = cc in
        let r : Some (Committed f m) ≡ Some (Committed first count) = sym (end_stays a b u (Committed f m) begins ended) ∙ (ap (end_of b) unit ∙ t.5) in
        let from : f ≡ first = cc in let many : m ≡ count = cc in
        has j (omega arith) (omega arith);
    killed = λ x born staged asked. absurd (reply_unconsumed b x t.0 legal (found_later a b begins i x born) staged t.4);
  }

  pub over_nothing : (Asked Has : ℕ → Type 0) (a b : List Event) → IsFound l i a b Nothing → GoneOver l Asked Has a b i
  over_nothing Asked Has a b t = record {
    outputs = λ u f m j is ended low high. absurd (t.0 u is);
    killed = λ x born staged asked. t.1 x born staged;
  }

  pub over_reply : (Asked Has : ℕ → Type 0) (a b : List Event) → IsLegal l b → IsPrefix a b → IsFound l i a b Reply → ¬ Asked i → GoneOver l Asked Has a b i
  over_reply Asked Has a b legal begins t not = record {
    outputs = λ u f m j is ended low high. absurd (reply_unconsumed b t.0.0 u legal t.0.1 t.0.2 (consumed_later l a b i u legal begins is));
    killed = λ x born staged asked. absurd (not asked);
  }

  pub over_wider : (Asked Asked' Has Has' : ℕ → Type 0) (a b c : List Event) → IsPrefix b c → ((j : ℕ) → Has j → Has' j) → ((j : ℕ) → Asked' j → Asked j) → GoneOver l Asked Has a b i → GoneOver l Asked' Has' a c i
  over_wider Asked Asked' Has Has' a b c after more fewer t = record {
    outputs = λ u f m j is ended low high. more j (t.outputs u f m j is ended low high);
    killed = λ x born staged asked. let p = t.killed x born staged (fewer i asked) in (p.0, p.1, begins_trans p.0 b c p.2 after, p.3);
  }

-- the reply that was found to wait is of the family
pub reply_waits : (l : Limits) (root i : ℕ) (gone : ℕ → Bool) (w y : List Event) → IsPrefix w y → IsComeTo w root gone i → IsFound l i w y Reply → IsBetween w y (HasReply l root i)
reply_waits l root i gone w y begins c t =
    let p = t.1 in let x = c.0 in
    let late = found_later w y begins i x c.1 in
    let same : t.0.0 ≡ x = let a = t.0.1 in cc in
    let staged : x.stage ≡ 15 = ap (λ (e : Element). e.stage) (sym same) ∙ t.0.2 in
    (p.0, p.1, p.2, (x, found_later w p.0 p.1 i x c.1, (staged, c.2), p.3))

-- an output is in one of the table's rows
pub outputs_inside : (l : Limits) (h : List Event) (u f m j : ℕ) → IsLegal l h → end_of h u ≡ Some (Committed f m) → f ≤ j → j < f + m → j < rows_of l
outputs_inside l h u f m j legal ended low high =
    let x = committed_born l h legal u f m j ended low high in
    let inside = births_inside l h legal x.0 (is_born h j x.0 x.1) in let id = element_of-id h j x.0 x.1 in
    omega arith

module _ (l : Limits) (root from : ℕ) where
  pub listing_begins : (Left : ℕ → Type 0) (v : View) → IsLegal l v.seen → IsRequest v.seen root → Left root → ((i : ℕ) → Left i → i ≡ root) → Listing l root from 0 Left None v.seen v
  listing_begins Left v legal request left only = record {
    gone = λ i. false;
    tree = tree_begins l root Left v.seen legal request left only;
    over = λ i is. absurd cc;
    found = tt;
  }

  -- the element that is taken is born
  pub listing_there : (k i : ℕ) (Left : ℕ → Type 0) (least : Option ℕ) (a : List Event) (w : View) → IsLegal l w.seen → Listing l root from k Left least a w → Left i → (i < rows_of l) × HasElement w.seen i
  listing_there k i Left least a w legal t left =
      let c = t.tree.each i (inl left) in let inside = births_inside l w.seen legal c.0 (is_born w.seen i c.0 c.1) in let id = element_of-id w.seen i c.0 c.1 in
      (omega arith, (c.0, c.1))

  found_later_on : (least : Option ℕ) (a b c : List Event) → IsPrefix b c → IfSome least (λ id. (from ≤ id) × IsBetween a b (HasReply l root id)) → IfSome least (λ id. (from ≤ id) × IsBetween a c (HasReply l root id))
  found_later_on None a b c after t = tt
  found_later_on (Some id) a b c after t = let p = t.1 in (t.0, (p.0, p.1, begins_trans p.0 b c p.2 after, p.3))

  pub found_one : (i : ℕ) (least new : Option ℕ) (a w y : List Event) → IsPrefix a w → IsPrefix w y → IfSome least (λ id. (from ≤ id) × IsBetween a w (HasReply l root id)) → IsBetween w y (HasReply l root i)
      → (new ≡ least) ⊎ ((new ≡ Some i) × (from ≤ i)) → IfSome new (λ id. (from ≤ id) × IsBetween a y (HasReply l root id))
  found_one i least new a w y before after old here one = ⊎_elim
      (λ same. subst (λ (o : Option ℕ). IfSome o (λ id. (from ≤ id) × IsBetween a y (HasReply l root id))) (sym same) (found_later_on least a w y after old))
      (λ now. subst (λ (o : Option ℕ). IfSome o (λ id. (from ≤ id) × IsBetween a y (HasReply l root id))) (sym now.0) (now.1, (here.0, begins_trans a w here.0 before here.1, here.2, here.3)))
      one

  -- one element more
  pub listing_on : (k i : ℕ) (Left Next Adds : ℕ → Type 0) (least new : Option ℕ) (a : List Event) (w y : View) → IsLegal l w.seen → IsPrefix w.seen y.seen → Left i
      → ((j : ℕ) → Next j → (Left j × (j ≢ i)) ⊎ Adds j) → ((j : ℕ) → Left j → j ≢ i → Next j) → ((j : ℕ) → Adds j → IsOutputFrom y.seen root i j)
      → ((j : ℕ) → IsAsked from new j → IsAsked from least j) → IfSome new (λ id. (from ≤ id) × IsBetween a y.seen (HasReply l root id)) → GoneOver l (IsAsked from new) Next a y.seen i
      → Listing l root from k Left least a w → Listing l root from (k + 1) Next new a y
  listing_on k i Left Next Adds least new a w y legal after left only kept adds fewer found here t = record {
    gone = and_from i t.gone;
    tree = tree_on l root k i Left Next Adds t.gone w.seen y.seen after (listing_there k i Left least a w legal t left).0 left only kept adds t.tree;
    over = λ j is. ⊎_elim
        (λ q. subst (GoneOver l (IsAsked from new) (Reached Next (and_from i t.gone)) a y.seen) (sym q) (over_wider l i (IsAsked from new) (IsAsked from new) Next (Reached Next (and_from i t.gone)) a y.seen y.seen (begins_refl y.seen) (λ z n. inl n) (λ z q. q) here))
        (λ old. over_wider l j (IsAsked from least) (IsAsked from new) (Reached Left t.gone) (Reached Next (and_from i t.gone)) a w.seen y.seen after more fewer (t.over j old))
        (gone_either i t.gone j is);
    found = found;
  }
    where
      more : (j : ℕ) → Reached Left t.gone j → Reached Next (and_from i t.gone) j
      more j r = ⊎_elim
          (λ old. elim (cases_eq j i) [ inl q ↦ inr (subst (λ z. and_from i t.gone z ≡ true) (sym q) (gone_here i t.gone)) | inr differ ↦ inl (kept j old differ) ])
          (λ is. inr (gone_before i t.gone j is))
          r

  -- the element had been consumed: the outputs of the unit are come to
  pub listing_outputs : (k i first count : ℕ) (Left Less Next : ℕ → Type 0) (least : Option ℕ) (a : List Event) (w y : View) → IsLegal l w.seen → IsLegal l y.seen → IsPrefix a w.seen → IsPrefix w.seen y.seen → Left i
      → ((j : ℕ) → Less j ↔ (Left j × (j ≢ i))) → ((j : ℕ) → Next j ↔ (Less j ⊎ ((first ≤ j) × (j < first + count)))) → IsFound l i w.seen y.seen (Outputs first count)
      → Listing l root from k Left least a w → Listing l root from (k + 1) Next least a y
  listing_outputs k i first count Left Less Next least a w y early legal before after left less next t s =
      let c = s.tree.each i (inl left) in
      listing_on k i Left Next (λ j. (first ≤ j) × (j < first + count)) least least a w y early after left
      (λ j n. ⊎_elim (λ old. inl ((less j).0 old)) (λ new. inr new) ((next j).0 n))
      (λ j old differ. (next j).1 (inl ((less j).1 (old, differ))))
      (λ j r. outputs_from l root y.seen i t.0 first count j t.1 c.0 legal (found_later w.seen y.seen after i c.0 c.1) c.2 t.2 t.3 t.5 r.0 r.1)
      (λ j q. q) (found_later_on least a w.seen y.seen after s.found)
      (over_outputs l i (IsAsked from least) Next a y.seen first count legal (begins_trans a w.seen y.seen before after) t (λ j low high. (next j).1 (inr (low, high)))) s

  -- it leads to nothing
  pub listing_nothing : (k i : ℕ) (Left Less : ℕ → Type 0) (least : Option ℕ) (a : List Event) (w y : View) → IsLegal l w.seen → IsPrefix a w.seen → IsPrefix w.seen y.seen → Left i
      → ((j : ℕ) → Less j ↔ (Left j × (j ≢ i))) → IsFound l i w.seen y.seen Nothing → Listing l root from k Left least a w → Listing l root from (k + 1) Less least a y
  listing_nothing k i Left Less least a w y early before after left less t s =
      listing_on k i Left Less (λ j. ⊥) least least a w y early after left (λ j n. inl ((less j).0 n)) (λ j old differ. (less j).1 (old, differ)) (λ j none. absurd none)
      (λ j q. q) (found_later_on least a w.seen y.seen after s.found)
      (over_nothing l i (IsAsked from least) Less a y.seen (found_sooner l i a w.seen y.seen Nothing early before t)) s

  -- it is a reply that waited
  pub listing_reply : (k i : ℕ) (Left Less : ℕ → Type 0) (least new : Option ℕ) (a : List Event) (w y : View) → IsLegal l w.seen → IsLegal l y.seen → IsPrefix a w.seen → IsPrefix w.seen y.seen → Left i
      → ((j : ℕ) → Less j ↔ (Left j × (j ≢ i))) → IsFound l i w.seen y.seen Reply
      → ((j : ℕ) → IsAsked from new j → IsAsked from least j) → ¬ IsAsked from new i → (new ≡ least) ⊎ ((new ≡ Some i) × (from ≤ i))
      → Listing l root from k Left least a w → Listing l root from (k + 1) Less new a y
  listing_reply k i Left Less least new a w y early legal before after left less t fewer not one s =
      listing_on k i Left Less (λ j. ⊥) least new a w y early after left (λ j n. inl ((less j).0 n)) (λ j old differ. (less j).1 (old, differ)) (λ j none. absurd none)
      fewer (found_one i least new a w.seen y.seen before after s.found (reply_waits l root i s.gone w.seen y.seen after (s.tree.each i (inl left)) t) one)
      (over_reply l i (IsAsked from new) Less a y.seen legal (begins_trans a w.seen y.seen before after) (found_sooner l i a w.seen y.seen Reply early before t) not) s

  -- nothing is left
  pub listing_ends : (k : ℕ) (Left : ℕ → Type 0) (least : Option ℕ) (v w : View) → IsLegal l v.seen → ((i : ℕ) → ¬ Left i) → Looked l (walk_steps k) v w → Listing l root from k Left least v.seen w → Listed l root from least v w
  listing_ends k Left least v w legal none looked t = record {
    looked = let few = tree_few l root k Left t.gone w.seen looked.walk.steady.shows.legal t.tree in looked_few l (walk_steps k) (walk_steps (length (family w.seen root))) v w (omega arith) looked;
    killed = λ x born reply asked. (t.over x.id (all x (is_born v.seen x.id x born) reply.1)).killed x born reply.0 asked;
    found = t.found;
  }
    where
      closed : IsClosedFrom l.attempts v.seen root (λ i. t.gone i ≡ true)
      closed = record {
        root_too = all_gone l root Left t.gone none root t.tree.root_too;
        outputs_too = λ i u f m j is status ended low high. all_gone l root Left t.gone none j ((t.over i is).outputs u f m j status ended low high);
      }

      all : (x : Element) → IsBorn v.seen x → x.root ≡ root → t.gone x.id ≡ true
      all = whole_family l v.seen root (λ i. t.gone i ≡ true) legal closed

-- a walk takes no more elements than there are rows
pub listing_few : (l : Limits) (root from k : ℕ) (Left : ℕ → Type 0) (least : Option ℕ) (a : List Event) (w : View) → Listing l root from k Left least a w → k ≤ rows_of l
listing_few l root from k Left least a w t = let all = count_most t.gone (rows_of l) in let k_is = t.tree.counted in omega arith
