-- What it says where a check of a rollover finds something else.
use Rattle.std.proofs.Common.{◌≡◌, ◌≢◌, ℕ, zero, suc, ◌+◌, ◌<◌, ◌≤◌, All, Option, Some, None, List, [], ◌∷◌, length, take, drop, get_or, slice_index_or, sym, ◌∙◌, ap, subst, ⊎_elim, arith}
use Rattle.std.specs.List.{AllZip}
use mathlib.Core.List.{IsPrefix}
use Rattle.tp_model.specs.declared.types.Element.{Element}
use Rattle.tp_model.specs.declared.types.Limits.{Limits}
use Rattle.tp_model.specs.declared.types.Look.{Look}
use Rattle.tp_model.specs.declared.event.Event.{Event}
use Rattle.tp_model.specs.History.{In, IsUnborn, element_of, here, there}
use Rattle.tp_model.proofs.Bridges.{begins_trans, in_left, in_right}
use Rattle.tp_manager.specs.Calls.{IsLook}
use Rattle.tp_manager.specs.Requeues.{HasHadRounds}
use Rattle.tp_manager.specs.Shown.{PassShown}
use Rattle.tp_rollover.specs.Thread.{Stays}
use Rattle.tp_rollover.specs.Alike.{AllStandUnheld, IsAlike, IsRootAlike, StandsUnheld}
use Rattle.tp_rollover.specs.Checks.{AreFamilies, AreFrom, AscendFrom, HasOther, HasPut}
use Rattle.tp_rollover.specs.Told.{HoldsAsSeen}
use Rattle.tp_rollover.specs.declared.moved.Moved.{Moved}
use Rattle.tp_rollover.specs.declared.survivors.Survivor.{Survivor}
use Rattle.tp_rollover.proofs.Lists.{drop_here, take_more}
use Rattle.tp_rollover.proofs.Seen.{between, told_second}

-- ---- one element

same_element : (x y : Element) (o : Option Element) → o ≡ Some x → o ≡ Some y → x ≡ y
same_element x y o e f = let q : Some x ≡ Some y = sym e ∙ f in cc

module _ (k : Limits) (g : List Event) (s : Survivor) (m : Moved) (stands : StandsUnheld k.attempts g s m) where
  pub not_unborn : IsUnborn g m.new → ⊥
  not_unborn none = let born = stands.born in cc

  root_not_unborn : IsUnborn g m.new_root → ⊥
  root_not_unborn none = let born = stands.began in cc

  alike_shown : (is : Look) → IsLook k m.new is g → IsAlike s m is
  alike_shown is look =
      let same : stands.item ≡ is.element = same_element stands.item is.element (element_of g m.new) stands.born look.0 in
      record {
        alive = stands.alive;
        old = stands.named.0;
        old_root = stands.named.1;
        holder = stands.holder;
        status = look.1 ∙ stands.status;
        stage = ap (λ (x : Element). x.stage) (sym same) ∙ stands.stage;
        body = ap (λ (x : Element). x.body) (sym same) ∙ stands.body;
        root = ap (λ (x : Element). x.root) (sym same) ∙ stands.root;
        itself = stands.itself;
      }

  root_shown : (root : Look) → IsLook k m.new_root root g → IsRootAlike s root
  root_shown root look =
      let same : stands.request ≡ root.element = same_element stands.request root.element (element_of g m.new_root) stands.began look.0 in
      record {
        by_client = ap (λ (x : Element). x.by) (sym same) ∙ stands.by_client;
        stage = ap (λ (x : Element). x.stage) (sym same) ∙ stands.root_stage;
        body = ap (λ (x : Element). x.body) (sym same) ∙ stands.root_body;
      }

module _ (k : Limits) (s : Survivor) (m : Moved) (p q r t : PassShown) (a : Stays p q) (b : Stays q r) (c : Stays r t) where
  abbrev Differs : List Event → Type 0
  Differs g = ¬ StandsUnheld k.attempts g s m

  to_r : IsPrefix p.seen r.seen
  to_r = begins_trans p.seen q.seen r.seen a.sees b.sees

  pub no_rounds : HoldsAsSeen q r (λ h. IsUnborn h m.new) → HoldsAsSeen p r Differs
  no_rounds none same stands = not_unborn k p.seen s m stands (told_second (λ h. IsUnborn h m.new) p.seen q.seen r.seen a.sees b.sees none same)

  pub no_root : HoldsAsSeen r t (λ h. IsUnborn h m.new_root) → HoldsAsSeen p t Differs
  no_root none same stands = root_not_unborn k p.seen s m stands (told_second (λ h. IsUnborn h m.new_root) p.seen r.seen t.seen to_r c.sees none same)

  pub not_alike : (is : Look) → HoldsAsSeen p q (IsLook k m.new is) → ¬ IsAlike s m is → HoldsAsSeen p t Differs
  not_alike is look not same stands =
      let at_r : r.seen ≡ p.seen = between p.seen r.seen t.seen to_r c.sees same in
      not (alike_shown k p.seen s m stands is (look (between p.seen q.seen r.seen a.sees b.sees at_r)))

  pub not_root_alike : (root : Look) → HoldsAsSeen r t (IsLook k m.new_root root) → ¬ IsRootAlike s root → HoldsAsSeen p t Differs
  not_root_alike root look not same stands =
      not (root_shown k p.seen s m stands root (told_second (IsLook k m.new_root root) p.seen r.seen t.seen to_r c.sees look same))

  pub not_rounds : (n : ℕ) → HoldsAsSeen q r (HasHadRounds m.new n) → n ≢ s.rounds → HoldsAsSeen p t Differs
  not_rounds n had not same stands =
      let at_r : r.seen ≡ p.seen = between p.seen r.seen t.seen to_r c.sees same in
      let is = told_second (HasHadRounds m.new n) p.seen q.seen r.seen a.sees b.sees had at_r in
      not (sym is.1 ∙ stands.rounds_are)

-- ---- and all of them

zip_at : {A B : Type 0} (R : A → B → Type 0) (xs : List A) (ys : List B) (i : ℕ) (d : A) (e : B) → i < length xs → AllZip R xs ys → R (get_or xs i d) (get_or ys i e)
zip_at R [] ys i d e less all = absurd (omega (arith, less))
zip_at R (x ∷ xs) [] i d e less all = absurd all
zip_at R (x ∷ xs) (y ∷ ys) zero d e less all = all.0
zip_at R (x ∷ xs) (y ∷ ys) (suc i) d e less all = zip_at R xs ys i d e (omega (arith, less)) all.1

pub differ_then : (limit : ℕ) (survivors : List Survivor) (moved : List Moved) (i : ℕ) (d : Survivor) (e : Moved) (p q r : PassShown) → i < length survivors → Stays p q → Stays q r
    → HoldsAsSeen q r (λ g. ¬ StandsUnheld limit g (get_or survivors i d) (get_or moved i e)) → HoldsAsSeen p r (λ g. ¬ AllStandUnheld limit g survivors moved)
differ_then limit survivors moved i d e p q r less a b one same all =
    told_second (λ g. ¬ StandsUnheld limit g (get_or survivors i d) (get_or moved i e)) p.seen q.seen r.seen a.sees b.sees one same
    (zip_at (StandsUnheld limit p.seen) survivors moved i d e less all)

-- ---- ids

pub ascend_back : (id : Moved → ℕ) (low : ℕ) (moved : List Moved) (i : ℕ) (d : Moved) → i < length moved → AscendFrom id low (drop i moved) → (low ≤ id (get_or moved i d)) × AscendFrom id (id (get_or moved i d) + 1) (drop (i + 1) moved)
ascend_back id low moved i d less up = subst (AscendFrom id low) (drop_here moved i d less) up

-- ---- families

from_take : {A : Type 0} (x : A) (xs : List A) (i : ℕ) → In x (take i xs) → In x xs
from_take x [] zero p = elim p [ ]
from_take x [] (suc i) p = elim p [ ]
from_take x (y ∷ xs) zero p = elim p [ ]
from_take x (y ∷ xs) (suc i) here = here
from_take x (y ∷ xs) (suc i) (there p) = there (from_take x xs i p)

pub from_none : (xs ys : List (Option ℕ)) (moved : List Moved) → All (λ o. o ≡ None) xs → All (λ o. o ≡ None) ys → AreFrom xs ys (take 0 moved)
from_none xs ys moved none none' = record { forth = λ j v p. absurd (no_some xs j v none p); back = λ j v p. absurd (no_some ys j v none' p) }
  where
    no_some : (xs : List (Option ℕ)) (j v : ℕ) → All (λ o. o ≡ None) xs → slice_index_or xs j None ≡ Some v → ⊥
    no_some [] j v none p = let q : None ≡ Some v = p in absurd cc
    no_some (x ∷ xs) zero v none p = let q : None ≡ Some v = sym (none 0 None (omega arith)) ∙ p in absurd cc
    no_some (x ∷ xs) (suc j) v none p = no_some xs j v (λ k d less. none (suc k) d (omega (arith, less))) p

module _ (moved : List Moved) (i : ℕ) (d : Moved) (less : i < length moved) where
  earlier : (m : Moved) → In m (take i moved) → In m (take (i + 1) moved)
  earlier m p = subst (In m) (sym (take_more moved i d less)) (in_left (get_or moved i d ∷ []) p)

  this_one : In (get_or moved i d) (take (i + 1) moved)
  this_one = subst (In (get_or moved i d)) (sym (take_more moved i d less)) (in_right (take i moved) here)

  pub from_then : (xs xs' ys ys' : List (Option ℕ)) → AreFrom xs ys (take i moved) → HasPut (get_or moved i d).old_root (get_or moved i d).new_root xs xs' → HasPut (get_or moved i d).new_root (get_or moved i d).old_root ys ys'
      → AreFrom xs' ys' (take (i + 1) moved)
  from_then xs xs' ys ys' before put put' = record {
    forth = λ j v p. ⊎_elim (λ was. let t = before.forth j v was in (t.0, earlier t.0 t.1, t.2, t.3)) (λ now. (get_or moved i d, this_one, sym now.0, sym now.1)) (put.only j v p);
    back = λ j v p. ⊎_elim (λ was. let t = before.back j v was in (t.0, earlier t.0 t.1, t.2, t.3)) (λ now. (get_or moved i d, this_one, sym now.0, sym now.1)) (put'.only j v p);
  }

  at_is : In (get_or moved i d) moved
  at_is = from_take (get_or moved i d) moved (i + 1) this_one

  pub other_new : (xs ys : List (Option ℕ)) → AreFrom xs ys (take i moved) → HasOther (get_or moved i d).old_root (get_or moved i d).new_root xs → ¬ AreFamilies moved
  other_new xs ys from other families =
      let t = from.forth (get_or moved i d).old_root other.0 other.1 in
      other.2 (sym t.3 ∙ (families t.0 (get_or moved i d) (from_take t.0 moved i t.1) at_is).0 t.2)

  pub other_old : (xs ys : List (Option ℕ)) → AreFrom xs ys (take i moved) → HasOther (get_or moved i d).new_root (get_or moved i d).old_root ys → ¬ AreFamilies moved
  other_old xs ys from other families =
      let t = from.back (get_or moved i d).new_root other.0 other.1 in
      other.2 (sym t.3 ∙ (families t.0 (get_or moved i d) (from_take t.0 moved i t.1) at_is).1 t.2)
