-- A request's family is a tree.
use Rattle.std.proofs.Common.{◌≡◌, ℕ, ◌+◌, ◌<◌, ◌≤◌, ◌==◌, ◌⊎◌, true, Some, None, List, [], ◌∷◌, ◌++◌, length, refl, sym, ◌∙◌, ap, subst, ⊎_elim, inl, inr, arith}
use Rattle.std.specs.Option.{option_or}
use Rattle.std.specs.List.{find}
use mathlib.Core.List.{IsPrefix}
use Rattle.tp_model.specs.declared.types.Element.{Element}
use Rattle.tp_model.specs.declared.types.Limits.{Limits}
use Rattle.tp_model.specs.declared.types.Status.TheVariants.{Held, Consumed}
use Rattle.tp_model.specs.declared.event.Event.{Event}
use Rattle.tp_model.specs.declared.event.Event.TheVariants.{Enqueue, Claim, Commit, Abort, Kill, Requeue}
use Rattle.tp_model.specs.History.{In, births, element_of, IsBorn, UnitClaim, Committed, claim_of, committed, end_by, end_of, first_id, status_of}
use Rattle.tp_model.specs.Families.{ClosedHasFamily, ComesFrom, FamilyIsTree, IsClosedFrom, OutputsAreOfFamily}
use Rattle.tp_model.specs.Steps.{MayCommit, Step, IsLegal}
use Rattle.tp_model.proofs.Lists.{if_same, option_or-some}
use Rattle.tp_model.proofs.Histories.{by_steps, element_of-kept, element_of-snoc, legal_more, open_holds, settled_stays, status_of-snoc}
use Rattle.tp_model.proofs.Bridges.{begins_refl, begins_trans, born_either, born_later, element_of-id, end_stays, find_in, found_later, in_none, in_one, is_born, outputs_place, taking_later}
use Rattle.tp_model.proofs.Later.{ends_by, output_at}
use Rattle.tp_model.proofs.WordProofs.{end_of-snoc}

module _ (l : Limits) where
  -- an element that an event makes is a client's, or comes from one that was born before it
  abbrev pub MadeFrom : List Event → Event → Element → Type 0
  MadeFrom h e x = ((x.id ≡ x.root) × (x.by ≡ None)) ⊎ ((f : ComesFrom l.attempts (h ++ e ∷ []) x) × IsBorn h f.parent)

  made_from : (h : List Event) (e : Event) → IsLegal l h → Step l h e → (x : Element) → In x (births e) → MadeFrom h e x
  made_from h (Enqueue c y) legal step x p =
      inl (subst (λ (z : Element). (z.id ≡ z.root) × (z.by ≡ None)) (sym (in_one p)) (sym step.root, step.by))
  made_from h (Claim c u i n) legal step x p = absurd (in_none p)
  made_from h (Commit c u outs) legal step x p =
      let e = Commit c u outs in
      let o = outputs_place l h c u step.item.root (first_id outs) outs step.outputs x p in
      let t = step.taking in
      let id : step.item.id ≡ t.item = element_of-id h t.item step.item step.taken in
      let held : status_of l.attempts h step.item.id ≡ Held u t.attempt = ap (status_of l.attempts h) id ∙ open_holds l h legal u t step.open_unit in
      inr (
        record {
          unit = u;
          parent = step.item;
          by = o.2.by;
          born = element_of-kept h (e ∷ []) step.item.id step.item (is_born h t.item step.item step.taken);
          root = sym o.2.root_is;
          consumed = status_of-snoc l.attempts h e step.item.id ∙ (ap (committed u) held ∙ if_same u u (Consumed u) (Held u t.attempt) refl);
          first = first_id outs;
          count = length outs;
          ended = end_of-snoc h e u ∙ (ap (λ z. option_or z (end_by u e)) step.open_unit.unfinished ∙ if_same u u (Some (Committed (first_id outs) (length outs))) None refl);
          low = o.0;
          high = o.1;
        },
        is_born h t.item step.item step.taken,
      )
  made_from h (Abort c u) legal step x p = absurd (in_none p)
  made_from h (Kill c i) legal step x p = absurd (in_none p)
  made_from h (Requeue c i k) legal step x p = absurd (in_none p)

  pub consumed_later : (h g : List Event) (i u : ℕ) → IsLegal l g → IsPrefix h g → status_of l.attempts h i ≡ Consumed u → status_of l.attempts g i ≡ Consumed u
  consumed_later h g i u legal begins is = subst (λ z. status_of l.attempts z i ≡ Consumed u) begins.1 (settled_stays l h begins.0 i (Consumed u) tt (rw begins.1 legal) is)

  -- what came from another one still does
  comes_later : (h g : List Event) (x : Element) → IsLegal l g → IsPrefix h g → ComesFrom l.attempts h x → ComesFrom l.attempts g x
  comes_later h g x legal begins f = record {
    unit = f.unit;
    parent = f.parent;
    by = f.by;
    born = born_later h g begins f.parent f.born;
    root = f.root;
    consumed = consumed_later h g f.parent.id f.unit legal begins f.consumed;
    first = f.first;
    count = f.count;
    ended = end_stays h g f.unit (Committed f.first f.count) begins f.ended;
    low = f.low;
    high = f.high;
  }

  tree : (h : List Event) → IsLegal l h → (x : Element) → IsBorn h x → ((x.id ≡ x.root) × (x.by ≡ None)) ⊎ ComesFrom l.attempts h x
  tree h legal = by_steps l (λ z. (x : Element) → IsBorn z x → ((x.id ≡ x.root) × (x.by ≡ None)) ⊎ ComesFrom l.attempts z x) (λ x is. absurd cc) more h legal
    where
      more : (h : List Event) (e : Event) → IsLegal l h → Step l h e → ((x : Element) → IsBorn h x → ((x.id ≡ x.root) × (x.by ≡ None)) ⊎ ComesFrom l.attempts h x)
          → (x : Element) → IsBorn (h ++ e ∷ []) x → ((x.id ≡ x.root) × (x.by ≡ None)) ⊎ ComesFrom l.attempts (h ++ e ∷ []) x
      more h e legal step old x is = ⊎_elim
          (λ before. ⊎_elim (λ r. inl r) (λ f. inr (comes_later h (h ++ e ∷ []) x (legal_more l h e legal step) (e ∷ [], refl) f)) (old x before))
          (λ new. ⊎_elim (λ r. inl r) (λ f. inr f.0) (made_from h e legal step x new))
          (born_either x h e is)

  -- the root of an element that is born is born
  pub root_born : (h : List Event) → IsLegal l h → (x : Element) → IsBorn h x → (r : Element) × (element_of h x.root ≡ Some r)
  root_born h legal = by_steps l (λ z. (x : Element) → IsBorn z x → (r : Element) × (element_of z x.root ≡ Some r)) (λ x is. absurd cc) more h legal
    where
      more : (h : List Event) (e : Event) → IsLegal l h → Step l h e → ((x : Element) → IsBorn h x → (r : Element) × (element_of h x.root ≡ Some r))
          → (x : Element) → IsBorn (h ++ e ∷ []) x → (r : Element) × (element_of (h ++ e ∷ []) x.root ≡ Some r)
      more h e legal step old x is =
          let later : (y : Element) → IsBorn h y → (r : Element) × (element_of (h ++ e ∷ []) y.root ≡ Some r) = λ y born. (let t = old y born in (t.0, found_later h (h ++ e ∷ []) (e ∷ [], refl) y.root t.0 t.1)) in
          ⊎_elim (later x)
          (λ new. ⊎_elim
          (λ own. (x, ap (element_of (h ++ e ∷ [])) (sym own.0) ∙ is))
          (λ f. (let t = later f.0.parent f.1 in (t.0, ap (element_of (h ++ e ∷ [])) (sym f.0.root) ∙ t.1)))
          (made_from h e legal step x new))
          (born_either x h e is)

pub family_is_tree : FamilyIsTree
family_is_tree l h x legal is = tree l h legal x is

pub whole_family : (l : Limits) (h : List Event) (root : ℕ) (Has : ℕ → Type 0) → IsLegal l h → IsClosedFrom l.attempts h root Has → (x : Element) → IsBorn h x → x.root ≡ root → Has x.id
whole_family l h root Has legal closed = λ x is same. by_steps l Reached (λ begins x is. absurd cc) more h legal (begins_refl h) x is same
  where
    -- each element of the family that a beginning has
    Reached : List Event → Type 0
    Reached z = IsPrefix z h → (x : Element) → IsBorn z x → x.root ≡ root → Has x.id

    made : (z : List Event) (e : Event) → Reached z → IsPrefix (z ++ e ∷ []) h → (x : Element) → x.root ≡ root → MadeFrom l z e x → Has x.id
    made z e old begins x same (inl own) = subst Has (sym (own.0 ∙ same)) closed.root_too
    made z e old begins x same (inr from) =
        let f = from.0 in
        let above : Has f.parent.id = old (begins_trans z (z ++ e ∷ []) h (e ∷ [], refl) begins) f.parent from.1 (f.root ∙ same) in
        closed.outputs_too f.parent.id f.unit f.first f.count x.id above
        (consumed_later l (z ++ e ∷ []) h f.parent.id f.unit legal begins f.consumed)
        (end_stays (z ++ e ∷ []) h f.unit (Committed f.first f.count) begins f.ended) f.low f.high

    more : (z : List Event) (e : Event) → IsLegal l z → Step l z e → Reached z → Reached (z ++ e ∷ [])
    more z e before step old begins x is same = ⊎_elim
        (λ earlier. old (begins_trans z (z ++ e ∷ []) h (e ∷ [], refl) begins) x earlier same)
        (λ new. made z e old begins x same (made_from l z e before step x new))
        (born_either x z e is)

pub closed_has_family : ClosedHasFamily
closed_has_family l h root has legal closed x is same = whole_family l h root (λ i. has i ≡ true) legal closed x is same

-- an output of a unit, with what the unit had claimed
pub record OutputOf (h : List Event) (u j : ℕ) : Type 0 where
  pub item : Element
  pub found : element_of h j ≡ Some item
  pub by : item.by ≡ Some u
  pub taking : UnitClaim
  pub claimed : claim_of h u ≡ Some taking
  pub taken : Element
  pub taken_is : element_of h taking.item ≡ Some taken
  pub root : item.root ≡ taken.root

output_later : (h : List Event) (e : Event) (u j : ℕ) → OutputOf h u j → OutputOf (h ++ e ∷ []) u j
output_later h e u j o = record {
  item = o.item;
  found = element_of-kept h (e ∷ []) j o.item o.found;
  by = o.by;
  taking = o.taking;
  claimed = taking_later h (h ++ e ∷ []) (e ∷ [], refl) u o.taking o.claimed;
  taken = o.taken;
  taken_is = element_of-kept h (e ∷ []) o.taking.item o.taken o.taken_is;
  root = o.root;
}

pub output_of : (l : Limits) (h : List Event) → IsLegal l h → (u f m j : ℕ) → end_of h u ≡ Some (Committed f m) → f ≤ j → j < f + m → OutputOf h u j
output_of l h legal = by_steps l (λ z. (u f m j : ℕ) → end_of z u ≡ Some (Committed f m) → f ≤ j → j < f + m → OutputOf z u j) (λ u f m j p low high. absurd cc) more h legal
  where
    now : (h : List Event) (c u j : ℕ) (outs : List Element) → MayCommit l h c u outs → first_id outs ≤ j → j < first_id outs + length outs → OutputOf (h ++ Commit c u outs ∷ []) u j
    now h c u j outs may low high =
        let e = Commit c u outs in
        let o = output_at l h c u may.item.root (first_id outs) j outs may.outputs low high in
        let x = o.1.0 in
        let place = outputs_place l h c u may.item.root (first_id outs) outs may.outputs x (find_in j outs x o.1.1).0 in
        record {
          item = x;
          found = element_of-snoc h e j ∙ (ap (λ z. option_or z (find (λ (y : Element). y.id == j) outs)) o.0 ∙ o.1.1);
          by = place.2.by;
          taking = may.taking;
          claimed = taking_later h (h ++ e ∷ []) (e ∷ [], refl) u may.taking may.open_unit.claimed;
          taken = may.item;
          taken_is = element_of-kept h (e ∷ []) may.taking.item may.item may.taken;
          root = place.2.root_is;
        }

    more : (h : List Event) (e : Event) → IsLegal l h → Step l h e → ((u f m j : ℕ) → end_of h u ≡ Some (Committed f m) → f ≤ j → j < f + m → OutputOf h u j)
        → (u f m j : ℕ) → end_of (h ++ e ∷ []) u ≡ Some (Committed f m) → f ≤ j → j < f + m → OutputOf (h ++ e ∷ []) u j
    more h e legal step old u f m j p low high = ⊎_elim
        (λ q. output_later h e u j (old u f m j q low high))
        (λ q. let t = ends_by u e (Committed f m) q.1 in let may : Step l h (Commit t.0 u t.1) = subst (Step l h) t.2 step in
        let a : f ≡ first_id t.1 = t.3 in let b : m ≡ length t.1 = t.4 in
        subst (λ z. OutputOf (h ++ z ∷ []) u j) (sym t.2) (now h t.0 u j t.1 may (omega arith) (omega arith)))
        (option_or-some (end_of h u) (end_by u e) (Committed f m) (sym (end_of-snoc h e u) ∙ p))

pub outputs_are_of_family : OutputsAreOfFamily
outputs_are_of_family l h t y u f m j legal claimed taken ended low high =
    let o = output_of l h legal u f m j ended low high in
    let one : o.taking ≡ t = let a = o.claimed in cc in
    let same : o.taken ≡ y = let a = o.taken_is in cc in
    (o.item, o.found, o.root ∙ ap (λ (z : Element). z.root) same, o.by)
