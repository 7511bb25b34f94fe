-- A root that is born by itself, and a group of a family.
use Rattle.std.proofs.Common.{◌≡◌, ◌≢◌, ◌⊎◌, ℕ, ◌+◌, ◌<◌, ◌≤◌, ◌==◌, if◌then◌else◌, Bool, true, false, Option, Some, None, List, [], ◌∷◌, ◌++◌, length, map, inl, inr, ⊎_elim, refl, sym, ◌∙◌, ap, subst, arith}
use Rattle.std.proofs.lemmas.Bool.Decides.{eqb_tells}
use Rattle.std.specs.List.{AllZip, find}
use Rattle.std.specs.Option.{option_or}
use Rattle.tp_model.specs.Births.{outputs, request}
use Rattle.tp_model.specs.Counts.{is_consumed}
use Rattle.tp_model.specs.Drafts.{DraftView}
use Rattle.tp_model.specs.declared.types.Element.{Element}
use Rattle.tp_model.specs.declared.types.Limits.{Limits}
use Rattle.tp_model.specs.declared.types.Status.TheVariants.{Waiting}
use Rattle.tp_model.specs.History.{In, IsBorn, element_of, here, rounds, there}
use Rattle.tp_model.proofs.Bridges.{find_in, in_cons, in_either, in_left, in_none, in_one, in_right}
use Rattle.tp_model.proofs.Histories.{unborn_waits}
use Rattle.tp_model.proofs.Lists.{if_other, if_same, option_or-some}
use Rattle.tp_plain.specs.OneThread.{State}
use Rattle.tp_rollover.specs.Anew.{filler, named, survivor_draft}
use Rattle.tp_rollover.specs.Checks.{IsNamed}
use Rattle.tp_rollover.specs.declared.moved.Moved.{Moved}
use Rattle.tp_rollover.specs.declared.places.Cursor.{Cursor}
use Rattle.tp_rollover.specs.declared.survivors.Survivor.{Survivor}
use Rattle.tp_rollover.proofs.Acts.{Submitted, no_rounds_after}
use Rattle.tp_rollover.proofs.Endings.{Borne}
use Rattle.tp_rollover.specs.Holds.{status_in}
use Rattle.tp_rollover.proofs.Bearing.{Bears, FamilyStands, GoesOn, IsBornAs, IsRootOf, first_same, group_named, in_named, is_named, not_born, root_kept, root_sent, second_same, still_named, with_carrier}
use Rattle.tp_rollover.proofs.Climbing.{Climbs, HasKept}
use Rattle.tp_rollover.proofs.Idling.{AreIdle}

-- ---- a root is named

module _ (p : ℕ) (k : Limits) (carriers : ℕ → Option (ℕ × ℕ)) (done : List Survivor) (x : Survivor) (rest : List Survivor) (moved : List Moved) (s : State) (cursor : Cursor) (b : Bears p k carriers done (x ∷ rest) moved s cursor)
    (none : carriers x.root ≡ None) (alike : (y : Survivor) → In y (x ∷ rest) → y.root ≡ x.root → (x.root_stage ≡ y.root_stage) × (x.root_body ≡ y.root_body))
    (t : State) (c id : ℕ) (cursor' : Cursor) (idle : AreIdle t) (sent : Submitted s t c x.root_stage x.root_body id) (low : b.low ≤ id) (climbs : Climbs p t cursor' (id + 1)) (keeps : HasKept cursor'.kept t)
    (own : (x.root_stage ≡ x.stage) × (x.root_body ≡ x.body)) (alone : (y : Survivor) → In y rest → y.root ≢ x.root) where
  abbrev carriers' : ℕ → Option (ℕ × ℕ)
  carriers' = with_carrier carriers x.root (id, id)

  sent_root : Bears p k carriers' done (x ∷ rest) moved t cursor'
  sent_root = root_sent p k carriers done (x ∷ rest) moved s cursor b x here none alike t c id cursor' idle sent low climbs keeps

  at_root : carriers' x.root ≡ Some (id, id)
  at_root = if_same x.root x.root (Some (id, id)) (carriers x.root) refl

  elsewhere : (q : ℕ) → q ≢ x.root → carriers' q ≡ carriers q
  elsewhere q not = if_other q x.root (Some (id, id)) (carriers q) not

  the_family : GoesOn t moved x id id
  the_family = subst (FamilyStands t moved x) at_root (sent_root.stands x here)

  the_new : IsBornAs t x (record { old = x.id; new = id; old_root = x.root; new_root = id; holder = x.holder })
  the_new = record {
    named = (refl, refl);
    holder = refl;
    item = request id x.root_stage x.root_body;
    born = sent.there;
    root = refl;
    stage = own.0;
    body = own.1;
    waits = sent.statuses id ∙ unborn_waits s.limits s.history b.reached.legal id sent.unborn;
    no_rounds = sent.rounds_are id ∙ no_rounds_after s.history id s.limits b.reached.legal sent.unborn;
    began = the_family.began;
    itself = λ same. refl;
  }

  pub root_named : Bears p k carriers (done ++ x ∷ []) rest (moved ++ named id id (x ∷ [])) t cursor'
  root_named = group_named p k carriers' carriers done (x ∷ []) rest moved t cursor' sent_root t cursor' sent_root.reached idle sent_root.limits id id x.root (id + 1) climbs keeps
      (λ j e is. is) (λ m q. (refl, refl)) (λ m q. let u = b.below m q in omega arith) (omega arith) (the_new, tt)
      (λ y q. ap (λ (z : Survivor). z.root) (in_one q)) the_family.family (λ q not. sym (elsewhere q not))
      (λ y q same. absurd (alone y q same)) (λ y q same a i is. absurd (alone y q same))
      (λ y q a i is same. sent_root.apart y x (there q) here a id i id is at_root same)
      (λ y q not a i is j low high same. (let g : GoesOn s moved y a i = subst (FamilyStands s moved y) (sym (elsewhere y.root not) ∙ is) (b.stands y (there q)) in
      not_born p k carriers done (x ∷ rest) moved s cursor b x here none alike t c id cursor' idle sent low' climbs keeps i g.item g.born (omega arith)))
      only
    where
      low' : b.low ≤ id
      low' = low

      only : (y : Element) → IsBorn t.history y
          → IsNamed (λ m. m.new) y.id (moved ++ named id id (x ∷ [])) ⊎ ((is_consumed (status_in t y.id) ≡ true) ⊎ ((z : Survivor) × In z rest × (a : ℕ) × (carriers z.root ≡ Some (a, y.id))))
      only y is = ⊎_elim (λ named'. inl (still_named y.id moved (named id id (x ∷ [])) named'))
          (⊎_elim (λ used. inr (inl used))
          (λ w. ⊎_elim
          (λ e. inl (let at = second_same w.2 y.id id id (sym w.3 ∙ (ap (λ (z : Survivor). carriers' z.root) e ∙ at_root)) in let t = is_named id id (x ∷ []) y.id (omega arith) (omega arith) in (t.0, in_right moved t.1, t.2)))
          (λ q. inr (inr (w.0, q, w.2, sym (elsewhere w.0.root (alone w.0 q)) ∙ w.3)))
          (in_cons w.1)))
          (sent_root.only y is)

-- ---- the outputs of a commit

output_within : (u root id : ℕ) (ds : List DraftView) (y : Element) → In y (outputs u root id ds) → (id ≤ y.id) × (y.id < id + length ds)
output_within u root id [] y q = absurd (in_none q)
output_within u root id (d ∷ ds) y q = ⊎_elim
    (λ e. (let a = ap (λ (z : Element). z.id) e in (omega arith, omega arith)))
    (λ r. (let t = output_within u root (id + 1) ds y r in let low = t.0 in let high = t.1 in (omega arith, omega arith)))
    (in_cons q)

abbrev found_at : ℕ → List Element → Option Element
found_at j ys = find (λ (y : Element). y.id == j) ys

found_within : (u root id : ℕ) (ds : List DraftView) (j : ℕ) (e : Element) → found_at j (outputs u root id ds) ≡ Some e → (id ≤ j) × (j < id + length ds)
found_within u root id ds j e is = let t = find_in j (outputs u root id ds) e is in let w = output_within u root id ds e t.0 in let same = t.1 in let low = w.0 in let high = w.1 in (omega arith, omega arith)

-- one of a later place is found there
found_later : (u root id : ℕ) (d : DraftView) (ds : List DraftView) (j : ℕ) (e : Element) → found_at j (outputs u root (id + 1) ds) ≡ Some e → found_at j (outputs u root id (d ∷ ds)) ≡ Some e
found_later u root id d ds j e is =
    let w = found_within u root (id + 1) ds j e is in let low = w.0 in
    if_other id j (Some (record { id = id; stage = d.stage; root = root; body = d.body; by = Some u })) (found_at j (outputs u root (id + 1) ds)) (λ same. omega (arith, low, same)) ∙ is

zip_new : (t : State) (u root : ℕ) (tail : List DraftView) (g : List Survivor) (id : ℕ) → ((j : ℕ) (e : Element) → found_at j (outputs u root id (map survivor_draft g ++ tail)) ≡ Some e → element_of t.history j ≡ Some e)
    → ((j : ℕ) → id ≤ j → j < id + length g → (status_in t j ≡ Waiting 0) × (rounds t.history j ≡ 0)) → ((y : Survivor) → In y g → IsRootOf t.history y root) → ((y : Survivor) → In y g → y.id ≢ y.root)
    → AllZip (IsBornAs t) g (named root id g)
zip_new t u root tail [] id found fresh began own = tt
zip_new t u root tail (x ∷ g) id found fresh began own =
    let item : Element = record { id = id; stage = x.stage; root = root; body = x.body; by = Some u } in
    let one = fresh id (omega arith) (omega arith) in (
      record {
        named = (refl, refl);
        holder = refl;
        item = item;
        born = found id item (if_same id id (Some item) (found_at id (outputs u root (id + 1) (map survivor_draft g ++ tail))) refl);
        root = refl;
        stage = refl;
        body = refl;
        waits = one.0;
        no_rounds = one.1;
        began = began x here;
        itself = λ same. absurd (own x here same);
      },
      zip_new t u root tail g (id + 1) (λ j e is. found j e (found_later u root id (survivor_draft x) (map survivor_draft g ++ tail) j e is))
          (λ j low high. fresh j (omega arith) (omega arith)) (λ y q. began y (there q)) (λ y q. own y (there q)),
    )

-- what is born behind them
last_output : (u root id : ℕ) (g : List Survivor) (d : DraftView) → (e : Element) × (found_at (id + length g) (outputs u root id (map survivor_draft g ++ d ∷ [])) ≡ Some e) × (e.root ≡ root)
last_output u root id [] d =
    let item : Element = record { id = id; stage = d.stage; root = root; body = d.body; by = Some u } in
    (item, if_same id (id + 0) (Some item) None (omega arith), refl)
last_output u root id (x ∷ g) d =
    let t = last_output u root (id + 1) g d in
    let same : id + 1 + length g ≡ id + length (x ∷ g) = omega arith in
    (t.0, subst (λ j. found_at j (outputs u root id (map survivor_draft (x ∷ g) ++ d ∷ [])) ≡ Some t.0) same (found_later u root id (survivor_draft x) (map survivor_draft g ++ d ∷ []) (id + 1 + length g) t.0 t.1), t.2)

pub drafts_long : (g : List Survivor) (tail : List DraftView) → length (map survivor_draft g ++ tail) ≡ length g + length tail
drafts_long [] tail = omega arith
drafts_long (x ∷ g) tail = let e = drafts_long g tail in omega arith

abbrev pub tail_of : Bool → List DraftView
tail_of more = if more then filler ∷ [] else []

module _ (p : ℕ) (k : Limits) (carriers carriers' : ℕ → Option (ℕ × ℕ)) (done g rest : List Survivor) (moved : List Moved) (s : State) (cursor : Cursor) (b : Bears p k carriers done (g ++ rest) moved s cursor)
    (x : Survivor) (within : In x g) (r root carrier : ℕ) (has : carriers r ≡ Some (root, carrier)) (group : (y : Survivor) → In y g → y.root ≡ r) (own : (y : Survivor) → In y g → y.id ≢ y.root)
    (more : Bool) (some : more ≡ true → (y : Survivor) × In y rest × (y.root ≡ r)) (none : more ≡ false → (y : Survivor) → In y rest → y.root ≢ r)
    (t : State) (c first : ℕ) (cursor' : Cursor) (idle : AreIdle t) (borne : Borne s t c carrier (map survivor_draft g ++ tail_of more) first)
    (low : b.low ≤ first) (climbs : Climbs p t cursor' (first + length (map survivor_draft g ++ tail_of more))) (keeps : HasKept cursor'.kept t)
    (at_root : (q : ℕ) → q ≡ r → carriers' q ≡ Some (root, first + length g)) (elsewhere : (q : ℕ) → q ≢ r → carriers' q ≡ carriers q) where
  abbrev drafts : List DraftView
  drafts = map survivor_draft g ++ tail_of more

  abbrev outs : List Element
  outs = outputs borne.unit root first drafts

  -- what stands of the family
  old_family : (y : Survivor) → In y (g ++ rest) → y.root ≡ r → GoesOn s moved y root carrier
  old_family y q same = subst (FamilyStands s moved y) (ap carriers same ∙ has) (b.stands y q)

  the_old : GoesOn s moved x root carrier
  the_old = old_family x (in_left rest within) (group x within)

  root_is : borne.item.root ≡ root
  root_is = let e = borne.taken in let f = the_old.born in let same : borne.item ≡ the_old.item = cc in ap (λ (z : Element). z.root) same ∙ the_old.root_is

  elements : (j : ℕ) → element_of t.history j ≡ option_or (element_of s.history j) (found_at j outs)
  elements j = borne.elements j ∙ ap (λ n. option_or (element_of s.history j) (found_at j (outputs borne.unit n first drafts))) root_is

  kept : (j : ℕ) (e : Element) → element_of s.history j ≡ Some e → element_of t.history j ≡ Some e
  kept j e is = elements j ∙ ap (λ o. option_or o (found_at j outs)) is

  long : length drafts ≡ length g + length (tail_of more)
  long = drafts_long g (tail_of more)

  unborn : (j : ℕ) → first ≤ j → j < first + length drafts → element_of s.history j ≡ None
  unborn j from below = borne.unborn j from below

  found : (j : ℕ) (e : Element) → found_at j outs ≡ Some e → element_of t.history j ≡ Some e
  found j e is = let w = found_within borne.unit root first drafts j e is in elements j ∙ (ap (λ o. option_or o (found_at j outs)) (unborn j w.0 w.1) ∙ is)

  not_there : (j : ℕ) → first ≤ j → j < first + length drafts → (i : ℕ) (e : Element) → element_of s.history i ≡ Some e → j ≢ i
  not_there j from below i e is same = let u = unborn j from below in let q : element_of s.history j ≡ Some e = ap (element_of s.history) same ∙ is in absurd (cc)

  fresh : (j : ℕ) → first ≤ j → j < first + length g → (status_in t j ≡ Waiting 0) × (rounds t.history j ≡ 0)
  fresh j from below =
      let n = long in
      let within' : j < first + length drafts = omega arith in
      let u = unborn j from within' in
      (borne.others j (not_there j from within' carrier the_old.item the_old.born) ∙ unborn_waits s.limits s.history b.reached.legal j u, borne.rounds_are j ∙ no_rounds_after s.history j s.limits b.reached.legal u)

  began : (y : Survivor) → In y g → IsRootOf t.history y root
  began y q = root_kept s t kept y root (old_family y (in_left rest q) (group y q)).began

  new : AllZip (IsBornAs t) g (named root first g)
  new = zip_new t borne.unit root (tail_of more) g first found fresh began own

  -- the family goes on from what is born behind them
  new_family : (y : Survivor) → In y rest → y.root ≡ r → (b' : Bool) → more ≡ b' → GoesOn t (moved ++ named root first g) y root (first + length g)
  new_family y q same false is = absurd (none is y q same)
  new_family y q same true is =
      let old = old_family y (in_right g q) same in
      let last = last_output borne.unit root first g filler in
      let there' : found_at (first + length g) outs ≡ Some last.0 = ap (λ m. found_at (first + length g) (outputs borne.unit root first (map survivor_draft g ++ tail_of m))) is ∙ last.1 in
      record {
        item = last.0;
        born = found (first + length g) last.0 there';
        root_is = last.2;
        began = root_kept s t kept y root old.began;
        unnamed = λ m q'. ⊎_elim (λ o. (let u = b.below m o in λ e. omega (arith, e, u, low))) (λ n. (let z = in_named root first g m n in let u = z.5 in λ e. omega (arith, e, u))) (in_either moved (named root first g) q');
        family = λ m q'. ⊎_elim (λ o. old.family m o) (λ n. (let z = in_named root first g m n in ((λ e. z.3), (λ e. z.2 ∙ (group z.0 z.1 ∙ sym same))))) (in_either moved (named root first g) q');
      }

  root_other : (y : Survivor) → In y rest → (a i : ℕ) → carriers y.root ≡ Some (a, i) → a ≡ root → y.root ≡ r
  root_other y q a i is same = b.apart y x (in_right g q) (in_left rest within) a root i carrier is (ap carriers (group x within) ∙ has) same ∙ group x within

  old_only : (y : Element) → element_of s.history y.id ≡ Some y
      → IsNamed (λ m. m.new) y.id (moved ++ named root first g) ⊎ ((is_consumed (status_in t y.id) ≡ true) ⊎ ((z : Survivor) × In z rest × (a : ℕ) × (carriers' z.root ≡ Some (a, y.id))))
  old_only y is = elim (eqb_tells y.id carrier) [
    | inl e ↦ inr (inl (ap (λ i. is_consumed (status_in t i)) e.1 ∙ ap is_consumed borne.is))
    | inr e ↦ ⊎_elim (λ named'. inl (still_named y.id moved (named root first g) named'))
        (⊎_elim (λ used. inr (inl (ap is_consumed (borne.others y.id e.1) ∙ used)))
        (λ w. by_carrier w.0 w.1 w.2 w.3))
        (b.only y is)
  ]
    where
      by_carrier : (z : Survivor) → In z (g ++ rest) → (a : ℕ) → carriers z.root ≡ Some (a, y.id)
          → IsNamed (λ m. m.new) y.id (moved ++ named root first g) ⊎ ((is_consumed (status_in t y.id) ≡ true) ⊎ ((z : Survivor) × In z rest × (a : ℕ) × (carriers' z.root ≡ Some (a, y.id))))
      by_carrier z q a is' = elim (eqb_tells z.root r) [
        | inl f ↦ inr (inl (ap (λ i. is_consumed (status_in t i)) (second_same a y.id root carrier (sym is' ∙ (ap carriers f.1 ∙ has))) ∙ ap is_consumed borne.is))
        | inr f ↦ ⊎_elim (λ q'. absurd (f.1 (group z q'))) (λ q'. inr (inr (z, q', a, elsewhere z.root f.1 ∙ is'))) (in_either g rest q)
      ]

  new_only : (y : Element) → found_at y.id outs ≡ Some y
      → IsNamed (λ m. m.new) y.id (moved ++ named root first g) ⊎ ((is_consumed (status_in t y.id) ≡ true) ⊎ ((z : Survivor) × In z rest × (a : ℕ) × (carriers' z.root ≡ Some (a, y.id))))
  new_only y is = go more refl
    where
      w : (first ≤ y.id) × (y.id < first + length drafts)
      w = found_within borne.unit root first drafts y.id y is

      go : (b' : Bool) → more ≡ b' → IsNamed (λ m. m.new) y.id (moved ++ named root first g) ⊎ ((is_consumed (status_in t y.id) ≡ true) ⊎ ((z : Survivor) × In z rest × (a : ℕ) × (carriers' z.root ≡ Some (a, y.id))))
      go false no_more =
          let n = long in let m = ap (λ c. length (tail_of c)) no_more in let from = w.0 in let below = w.1 in
          inl (let z = is_named root first g y.id (omega arith) (omega arith) in (z.0, in_right moved z.1, z.2))
      go true is_more =
          let n = long in let m = ap (λ c. length (tail_of c)) is_more in let from = w.0 in let below = w.1 in
          elim (eqb_tells y.id (first + length g)) [
            | inl e ↦ let z = some is_more in inr (inr (z.0, z.1, root, at_root z.0.root z.2 ∙ ap (λ i. Some (root, i)) (sym e.1)))
            | inr e ↦ let other = e.1 in inl (let z = is_named root first g y.id (omega arith) (omega arith) in (z.0, in_right moved z.1, z.2))
          ]

  pub group_born_so : Bears p k carriers' (done ++ g) rest (moved ++ named root first g) t cursor'
  group_born_so = group_named p k carriers carriers' done g rest moved s cursor b t cursor' borne.uses.reached idle (borne.uses.limits ∙ b.limits) root first r (first + length drafts) climbs keeps
      kept (λ m q. (borne.others m.new (the_old.unnamed m q), borne.rounds_are m.new)) (λ m q. (let u = b.below m q in omega arith)) (let n = long in omega arith) new group
      (λ m q. (let f = the_old.family m q in let e = group x within in ((λ o. f.0 (o ∙ sym e)), (λ o. f.1 o ∙ e)))) elsewhere
      (λ y q same. subst (FamilyStands t (moved ++ named root first g) y) (sym (at_root y.root same)) (new_family y q same more refl))
      (λ y q same a i is. first_same a i root (first + length g) (sym is ∙ at_root y.root same))
      root_other
      (λ y q not a i is j from below. (let f : GoesOn s moved y a i = subst (FamilyStands s moved y) is (b.stands y (in_right g q)) in let n = long in not_there j from (omega arith) i f.item f.born))
      (λ y is. ⊎_elim (old_only y) (λ z. new_only y z.1) (option_or-some (element_of s.history y.id) (found_at y.id outs) y (sym (elements y.id) ∙ is)))
