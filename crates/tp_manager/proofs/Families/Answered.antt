-- What a walk that looked through a family shows.
use Rattle.std.proofs.lemmas.Bool.{cases_lt}
use Rattle.std.proofs.Common.{◌≡◌, ℕ, ◌+◌, ◌<◌, ◌≤◌, Option, Some, None, IfSome, MatchOption, List, ◌++◌, sym, ◌∙◌, subst, arith, [], ap, inl, inr}
use Rattle.tp_model.specs.declared.types.Element.{Element}
use Rattle.tp_model.specs.declared.types.Limits.{Limits}
use Rattle.tp_model.specs.declared.types.Look.{Look}
use Rattle.tp_model.specs.declared.types.Status.TheVariants.{Killed}
use Rattle.tp_model.specs.declared.event.Event.{Event}
use Rattle.tp_model.specs.History.{element_of, status_of}
use Rattle.tp_model.specs.Families.{IsOfFamily, IsRequest}
use Rattle.tp_model.specs.Passes.{opening_of}
use Rattle.tp_model.specs.Steps.{rows_of, IsLegal}
use Rattle.tp_model.proofs.Bridges.{begins_refl, element_of-id, found_later, is_born}
use Rattle.tp_model.proofs.Histories.{legal_start}
use Rattle.tp_model.proofs.Later.{births_inside}
use Rattle.tp_rule.specs.declared.view.View.{View}
use Rattle.tp_manager.specs.Calls.{IsLook, opening}
use Rattle.tp_manager.specs.Families.{IsAsked, Listed, WereKilled}
use Rattle.tp_manager.specs.Lists.{AllKilled, HasReply, NextOfFamily, NextReply, NoneOfFamily}
use Rattle.tp_manager.specs.Shown.{Spot, PassShown, shown}
use Rattle.tp_manager.specs.CallSteps.{Acted, Looked, Steady}
use Rattle.tp_manager.proofs.Kills.Requeues.{point_between}
use Rattle.tp_manager.proofs.Families.Trees.{has_root}
use Rattle.tp_manager.proofs.Calls.CallSteps.{looked_begins, opening_first, opening_is, walked_none, walked_then}

-- no client has an element after the last row
pub request_inside : (l : Limits) (h : List Event) (root : ℕ) → IsLegal l h → rows_of l ≤ root → ¬ IsRequest h root
request_inside l h root legal out r = let inside = births_inside l h legal r.0 (is_born h root r.0 r.1) in let id = element_of-id h root r.0 r.1 in omega arith

-- where the root was no client's element, it has no family
module _ (t t' : Spot) (v w : View) (old : PassShown) (is : shown t v ≡ old) (l : Limits) (n : ℕ) (a : Acted l n v w) where
  pub none_killed : (root : ℕ) (Ids : ℕ → Type 0) → ¬ IsRequest w.seen root → AllKilled l root Ids old (shown t' w)
  none_killed root Ids not x born reply id =
      let found : element_of (opening_of v.seen a.marks) x.id ≡ Some x = subst (λ h. element_of h x.id ≡ Some x) (opening_is t t' v w old is l n a.marks a.walk) born in
      let late = found_later (opening_of v.seen a.marks) w.seen a.walk.closes x.id x found in
      absurd (not (subst (IsRequest w.seen) reply.1 (has_root l w.seen a.walk.steady.shows.legal x (is_born w.seen x.id x late))))

-- what a walk after a look came to
module _ (t t' : Spot) (v x w : View) (old : PassShown) (is : shown t v ≡ old) (l : Limits) (n m : ℕ) (a : Acted l n v x) (b : Looked l m x w) where
  born_then : (e : Element) → element_of (opening old (shown t' w)) e.id ≡ Some e → element_of x.seen e.id ≡ Some e
  born_then e born =
      let same = opening_is t t' v w old is l (n + m) (a.marks ++ b.marks) (walked_then l n m a.marks b.marks v x w a.walk b.walk) ∙ opening_first l n m v x w a b in
      found_later (opening_of v.seen a.marks) x.seen a.walk.closes e.id e (subst (λ h. element_of h e.id ≡ Some e) same born)

  all_killed : (root : ℕ) (Asked Ids : ℕ → Type 0) → ((i : ℕ) → Ids i → Asked i) → WereKilled l root Asked x.seen w.seen → AllKilled l root Ids old (shown t' w)
  all_killed root Asked Ids sub killed e born reply id = point_between t t' v x w old is l n m a b (λ h. status_of l.attempts h e.id ≡ Killed) (killed e (born_then e born) reply (sub e.id id))

  pub listed_answer : (root from : ℕ) (least : Option ℕ) → Listed l root from least x w
      → MatchOption least (AllKilled l root (λ i. from ≤ i) old (shown t' w)) (λ id. NextReply l root from id old (shown t' w))
  listed_answer root from None s = all_killed root (IsAsked from None) (λ i. from ≤ i) (λ i low. (low, tt)) s.killed
  listed_answer root from (Some id) s = record {
    from_on = s.found.0;
    waits = point_between t t' v x w old is l n m a b (HasReply l root id) s.found.1;
    before = all_killed root (IsAsked from (Some id)) (λ i. (from ≤ i) × (i < id)) (λ i range. range) s.killed;
  }

  pub listed_inside : (root from : ℕ) (least : Option ℕ) → Listed l root from least x w → IfSome least (λ id. id < rows_of l)
  listed_inside root from None s = tt
  listed_inside root from (Some id) s =
      let p = s.found.1 in let e = p.3.0 in
      let legal : IsLegal l p.0 = legal_start l p.0 p.2.0 (rw p.2.1 b.walk.steady.shows.legal) in
      let inside = births_inside l p.0 legal e (is_born p.0 id e p.3.1) in let same = element_of-id p.0 id e p.3.1 in
      omega arith

-- where the root was no client's element, it has no element
module _ (t t' : Spot) (v w : View) (old : PassShown) (is : shown t v ≡ old) (l : Limits) (n : ℕ) (a : Acted l n v w) where
  pub none_followed : (root from : ℕ) → ¬ IsRequest w.seen root → NoneOfFamily root from old (shown t' w)
  none_followed root from not x born same low =
      let found : element_of (opening_of v.seen a.marks) x.id ≡ Some x = subst (λ h. element_of h x.id ≡ Some x) (opening_is t t' v w old is l n a.marks a.walk) born in
      let late = found_later (opening_of v.seen a.marks) w.seen a.walk.closes x.id x found in
      not (subst (IsRequest w.seen) same (has_root l w.seen a.walk.steady.shows.legal x (is_born w.seen x.id x late)))

-- from the capacity on there is none
pub followed_beyond : (t : Spot) (v : View) (old : PassShown) → shown t v ≡ old → (l : Limits) → Steady l v → (root from : ℕ) → rows_of l ≤ from → NoneOfFamily root from old (shown t v)
followed_beyond t v old is l s root from out x born same low =
    let found : element_of v.seen x.id ≡ Some x = subst (λ h. element_of h x.id ≡ Some x) (opening_is t t v v old is l 0 [] (walked_none l v s)) born in
    let less = births_inside l v.seen s.shows.legal x (is_born v.seen x.id x found) in omega arith

-- what a walk after a look came to, and the look after it
module _ (t t' : Spot) (v x w : View) (old : PassShown) (is : shown t v ≡ old) (l : Limits) (n m : ℕ) (a : Acted l n v x) (b : Looked l m x w) (root from : ℕ) where
  pub followed_none : ((e : Element) → element_of x.seen e.id ≡ Some e → e.root ≡ root → ¬ IsAsked from None e.id) → NoneOfFamily root from old (shown t' w)
  followed_none passed e born same low = passed e (born_then t t' v x w old is l n m a b e born) same (low, tt)

  pub followed_some : (id : ℕ) (look : Look) → ((e : Element) → element_of x.seen e.id ≡ Some e → e.root ≡ root → ¬ IsAsked from (Some id) e.id) → from ≤ id → IsOfFamily w.seen root id → IsLook l id look w.seen → NextOfFamily l root from look old (shown t' w)
  followed_some id look passed low of at =
      let own : look.element.id ≡ id = element_of-id w.seen id look.element at.0 in
      record {
        from_on = omega arith;
        root_is = one_root w.seen id look.element of.0 at.0 of.1 ∙ of.2;
        looks = point_between t t' v x w old is l n m a b (IsLook l look.element.id look) (w.seen, looked_begins l m x w b, begins_refl w.seen, subst (λ z. IsLook l z look w.seen) (sym own) at);
        least = λ e born same begins. elim (cases_lt e.id id) [
          | inl less ↦ absurd (passed e (born_then t t' v x w old is l n m a b e born) same (begins, less))
          | inr most ↦ omega arith
        ];
      }
    where
      one_root : (h : List Event) (i : ℕ) (y z : Element) → element_of h i ≡ Some y → element_of h i ≡ Some z → y.root ≡ z.root
      one_root h i y z p q = let e : y ≡ z = cc in ap (λ (o : Element). o.root) e
