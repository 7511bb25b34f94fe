-- What stands of those that are born, while they are.
use Rattle.std.proofs.Common.{◌≡◌, ◌≢◌, ◌⊎◌, ◌↔◌, ℕ, ◌+◌, ◌<◌, ◌≤◌, ◌==◌, if◌then◌else◌, true, Option, Some, None, List, [], ◌∷◌, ◌++◌, length, inl, inr, ⊎_elim, refl, sym, ◌∙◌, ap, subst, arith}
use Rattle.std.proofs.lemmas.Bool.Decides.{eqb_tells}
use Rattle.std.specs.List.{AllZip}
use Rattle.tp_model.specs.Births.{request}
use Rattle.tp_model.specs.Counts.{is_consumed}
use Rattle.tp_model.specs.declared.types.Element.{Element}
use Rattle.tp_model.specs.declared.types.Limits.{Limits}
use Rattle.tp_model.specs.declared.types.Status.TheVariants.{Waiting}
use Rattle.tp_model.specs.declared.event.Event.{Event}
use Rattle.tp_model.specs.History.{In, IsBorn, element_of, here, rounds, there}
use Rattle.tp_model.proofs.Bridges.{in_cons, in_none, in_either, in_left, in_right}
use Rattle.tp_model.proofs.Lists.{if_other, if_same}
use Rattle.tp_plain.specs.OneThread.{State}
use Rattle.tp_plain.specs.Reached.{IsReachable}
use Rattle.tp_rollover.specs.Anew.{named}
use Rattle.tp_rollover.specs.Checks.{AreFamilies, AscendFrom, IsNamed}
use Rattle.tp_rollover.specs.declared.moved.Moved.{Moved}
use Rattle.tp_rollover.specs.declared.places.Cursor.{Cursor}
use Rattle.tp_rollover.specs.declared.survivors.Survivor.{Survivor}
use Rattle.tp_rollover.proofs.Acts.{Submitted}
use Rattle.tp_rollover.specs.Holds.{status_in}
use Rattle.tp_rollover.proofs.Climbing.{Climbs, HasKept}
use Rattle.tp_rollover.proofs.Idling.{AreIdle, same_some}

-- the root in the new manager is a client's element like the one described
pub record IsRootOf (h : List Event) (x : Survivor) (root : ℕ) : Type 0 where
  pub request : Element
  pub began : element_of h root ≡ Some request
  pub by_client : request.by ≡ None
  pub stage : request.stage ≡ x.root_stage
  pub body : request.body ≡ x.root_body

-- what was described is born under this id
pub record IsBornAs (s : State) (x : Survivor) (m : Moved) : Type 0 where
  pub named : (m.old ≡ x.id) × (m.old_root ≡ x.root)
  pub holder : m.holder ≡ x.holder
  pub item : Element
  pub born : element_of s.history m.new ≡ Some item
  pub root : item.root ≡ m.new_root
  pub stage : item.stage ≡ x.stage
  pub body : item.body ≡ x.body
  pub waits : status_in s m.new ≡ Waiting 0
  pub no_rounds : rounds s.history m.new ≡ 0
  pub began : IsRootOf s.history x m.new_root
  pub itself : x.id ≡ x.root → m.new ≡ m.new_root

-- the family of x goes on from this element
pub record GoesOn (s : State) (moved : List Moved) (x : Survivor) (root carrier : ℕ) : Type 0 where
  pub item : Element
  pub born : element_of s.history carrier ≡ Some item
  pub root_is : item.root ≡ root
  pub began : IsRootOf s.history x root
  pub unnamed : (m : Moved) → In m moved → m.new ≢ carrier
  pub family : (m : Moved) → In m moved → (m.old_root ≡ x.root) ↔ (m.new_root ≡ root)

-- or nothing of it is born
abbrev pub FamilyStands : State → List Moved → Survivor → Option (ℕ × ℕ) → Type 0
FamilyStands s moved x None = (m : Moved) → In m moved → m.old_root ≢ x.root
FamilyStands s moved x (Some (root, carrier)) = GoesOn s moved x root carrier

-- These are done, and the others are to be born; `carriers` is what is known of the family of each root.
pub record Bears (p : ℕ) (k : Limits) (carriers : ℕ → Option (ℕ × ℕ)) (done rest : List Survivor) (moved : List Moved) (s : State) (cursor : Cursor) : Type 0 where
  pub reached : IsReachable s
  pub idle : AreIdle s
  pub limits : s.limits ≡ k
  pub low : ℕ
  pub climbs : Climbs p s cursor low
  pub keeps : HasKept cursor.kept s
  pub up : AscendFrom (λ m. m.new) 0 moved
  pub below : (m : Moved) → In m moved → m.new < low
  pub each : AllZip (IsBornAs s) done moved
  pub families : AreFamilies moved
  pub stands : (x : Survivor) → In x rest → FamilyStands s moved x (carriers x.root)
  pub apart : (x y : Survivor) → In x rest → In y rest → (a b i j : ℕ) → carriers x.root ≡ Some (a, i) → carriers y.root ≡ Some (b, j) → a ≡ b → x.root ≡ y.root
  pub only : (y : Element) → IsBorn s.history y
      → IsNamed (λ m. m.new) y.id moved ⊎ ((is_consumed (status_in s y.id) ≡ true) ⊎ ((x : Survivor) × In x rest × (a : ℕ) × (carriers x.root ≡ Some (a, y.id))))

abbrev pub pair : ℕ → ℕ → ℕ × ℕ
pair a b = (a, b)

pub first_same : (a b c d : ℕ) → Some (pair a b) ≡ Some (pair c d) → a ≡ c
first_same a b c d is = ap (λ (z : ℕ × ℕ). z.0) (same_some (pair a b) (pair c d) is)

pub second_same : (a b c d : ℕ) → Some (pair a b) ≡ Some (pair c d) → b ≡ d
second_same a b c d is = ap (λ (z : ℕ × ℕ). z.1) (same_some (pair a b) (pair c d) is)

-- ---- what is born stays so

module _ (s t : State) (kept : (j : ℕ) (e : Element) → element_of s.history j ≡ Some e → element_of t.history j ≡ Some e) where
  pub root_kept : (x : Survivor) (root : ℕ) → IsRootOf s.history x root → IsRootOf t.history x root
  root_kept x root r = record { request = r.request; began = kept root r.request r.began; by_client = r.by_client; stage = r.stage; body = r.body }

  born_kept : (x : Survivor) (m : Moved) → status_in t m.new ≡ status_in s m.new → rounds t.history m.new ≡ rounds s.history m.new → IsBornAs s x m → IsBornAs t x m
  born_kept x m same same' b = record {
    named = b.named;
    holder = b.holder;
    item = b.item;
    born = kept m.new b.item b.born;
    root = b.root;
    stage = b.stage;
    body = b.body;
    waits = same ∙ b.waits;
    no_rounds = same' ∙ b.no_rounds;
    began = root_kept x m.new_root b.began;
    itself = b.itself;
  }

  all_kept : (xs : List Survivor) (ms : List Moved) → ((m : Moved) → In m ms → (status_in t m.new ≡ status_in s m.new) × (rounds t.history m.new ≡ rounds s.history m.new)) → AllZip (IsBornAs s) xs ms → AllZip (IsBornAs t) xs ms
  all_kept [] [] same all = tt
  all_kept [] (m ∷ ms) same all = absurd all
  all_kept (x ∷ xs) [] same all = absurd all
  all_kept (x ∷ xs) (m ∷ ms) same all = (let one = same m here in born_kept x m one.0 one.1 all.0, all_kept xs ms (λ n q. same n (there q)) all.1)

  goes_on_kept : (moved : List Moved) (x : Survivor) (root carrier : ℕ) → GoesOn s moved x root carrier → GoesOn t moved x root carrier
  goes_on_kept moved x root carrier g = record { item = g.item; born = kept carrier g.item g.born; root_is = g.root_is; began = root_kept x root g.began; unnamed = g.unnamed; family = g.family }

  family_kept : (moved : List Moved) (x : Survivor) (o : Option (ℕ × ℕ)) → FamilyStands s moved x o → FamilyStands t moved x o
  family_kept moved x None f = f
  family_kept moved x (Some (root, carrier)) f = goes_on_kept moved x root carrier f

-- each that is named is born, and so is its root
pub zip_named : (s : State) (xs : List Survivor) (ms : List Moved) (m : Moved) → AllZip (IsBornAs s) xs ms → In m ms → (x : Survivor) × In x xs × IsBornAs s x m
zip_named s [] [] m all q = absurd (in_none q)
zip_named s [] (n ∷ ms) m all q = absurd all
zip_named s (x ∷ xs) [] m all q = absurd all
zip_named s (x ∷ xs) (n ∷ ms) m all q = ⊎_elim (λ e. (x, here, subst (IsBornAs s x) (sym e) all.0)) (λ r. let t = zip_named s xs ms m all.1 r in (t.0, there t.1, t.2)) (in_cons q)

-- ---- a copy of a root is submitted

-- what is known of the families with this root's
abbrev pub with_carrier : (ℕ → Option (ℕ × ℕ)) → ℕ → ℕ × ℕ → ℕ → Option (ℕ × ℕ)
with_carrier carriers r has q = if q == r then Some has else carriers q

module _ (p : ℕ) (k : Limits) (carriers : ℕ → Option (ℕ × ℕ)) (done rest : List Survivor) (moved : List Moved) (s : State) (cursor : Cursor) (b : Bears p k carriers done rest moved s cursor)
    (x : Survivor) (within : In x rest) (none : carriers x.root ≡ None) (alike : (y : Survivor) → In y rest → y.root ≡ x.root → (x.root_stage ≡ y.root_stage) × (x.root_body ≡ y.root_body))
    (t : State) (c id : ℕ) (cursor' : Cursor) (idle : AreIdle t) (sent : Submitted s t c x.root_stage x.root_body id) (low : b.low ≤ id) (climbs : Climbs p t cursor' (id + 1)) (keeps : HasKept cursor'.kept t) where
  kept_root : (j : ℕ) (e : Element) → element_of s.history j ≡ Some e → element_of t.history j ≡ Some e
  kept_root j e is = sent.elements j (λ same. (let u = sent.unborn in let q : element_of s.history id ≡ Some e = ap (element_of s.history) (sym same) ∙ is in cc)) ∙ is

  -- it was not there before
  pub not_born : (j : ℕ) (e : Element) → element_of s.history j ≡ Some e → j ≢ id
  not_born j e is same = let u = sent.unborn in let q : element_of s.history id ≡ Some e = ap (element_of s.history) (sym same) ∙ is in absurd (cc)

  abbrev carriers' : ℕ → Option (ℕ × ℕ)
  carriers' = with_carrier carriers x.root (id, id)

  at_root : (q : ℕ) → q ≡ x.root → carriers' q ≡ Some (id, id)
  at_root q same = if_same q x.root (Some (id, id)) (carriers q) same

  elsewhere : (q : ℕ) → q ≢ x.root → carriers' q ≡ carriers q
  elsewhere q not = if_other q x.root (Some (id, id)) (carriers q) not

  of_family : (m : Moved) → In m moved → m.old_root ≢ x.root
  of_family = subst (FamilyStands s moved x) none (b.stands x within)

  new_family : (y : Survivor) → In y rest → y.root ≡ x.root → GoesOn t moved y id id
  new_family y q same =
      let like = alike y q same in
      record {
        item = request id x.root_stage x.root_body;
        born = sent.there;
        root_is = refl;
        began = record { request = request id x.root_stage x.root_body; began = sent.there; by_client = refl; stage = like.0; body = like.1 };
        unnamed = λ m r same'. (let u = b.below m r in omega arith);
        family = λ m r. (
          (λ old. absurd (of_family m r (old ∙ same))),
          (λ new. (let z = zip_named s done moved m b.each r in let w = z.2.began in absurd (not_born m.new_root w.request w.began new))),
        );
      }

  pub root_sent : Bears p k carriers' done rest moved t cursor'
  root_sent = record {
    reached = sent.uses.reached;
    idle = idle;
    limits = sent.uses.limits ∙ b.limits;
    low = id + 1;
    climbs = climbs;
    keeps = keeps;
    up = b.up;
    below = λ m q. (let u = b.below m q in omega arith);
    each = all_kept s t kept_root done moved (λ m q. (sent.statuses m.new, sent.rounds_are m.new)) b.each;
    families = b.families;
    stands = λ y q. elim (eqb_tells y.root x.root) [
      | inl e ↦ subst (FamilyStands t moved y) (sym (at_root y.root e.1)) (new_family y q e.1)
      | inr e ↦ subst (FamilyStands t moved y) (sym (elsewhere y.root e.1)) (family_kept s t kept_root moved y (carriers y.root) (b.stands y q))
    ];
    apart = λ y z q r i j g h is is' same. elim (eqb_tells y.root x.root) [
      | inl e ↦ elim (eqb_tells z.root x.root) [
        | inl f ↦ e.1 ∙ sym f.1
        | inr f ↦ absurd (let u = first_same i g id id (sym is ∙ at_root y.root e.1) in other z r j h (sym (elsewhere z.root f.1) ∙ is') (sym same ∙ u))
      ]
      | inr e ↦ elim (eqb_tells z.root x.root) [
        | inl f ↦ absurd (let u = first_same j h id id (sym is' ∙ at_root z.root f.1) in other y q i g (sym (elsewhere y.root e.1) ∙ is) (same ∙ u))
        | inr f ↦ b.apart y z q r i j g h (sym (elsewhere y.root e.1) ∙ is) (sym (elsewhere z.root f.1) ∙ is') same
      ]
    ];
    only = only;
  }
    where
      other : (y : Survivor) → In y rest → (a i : ℕ) → carriers y.root ≡ Some (a, i) → a ≡ id → ⊥
      other y q a i is same = let g : GoesOn s moved y a i = subst (FamilyStands s moved y) is (b.stands y q) in let w = g.began in not_born a w.request w.began same

      only : (y : Element) → IsBorn t.history y → IsNamed (λ m. m.new) y.id moved ⊎ ((is_consumed (status_in t y.id) ≡ true) ⊎ ((z : Survivor) × In z rest × (a : ℕ) × (carriers' z.root ≡ Some (a, y.id))))
      only y is = elim (eqb_tells y.id id) [
        | inl e ↦ inr (inr (x, within, id, at_root x.root refl ∙ ap (λ i. Some (id, i)) (sym e.1)))
        | inr e ↦ ⊎_elim (λ named. inl named)
            (⊎_elim (λ used. inr (inl (ap is_consumed (sent.statuses y.id) ∙ used)))
            (λ w. inr (inr (w.0, w.1, w.2, elsewhere w.0.root (λ same. (let u = w.3 in let v : carriers x.root ≡ Some (w.2, y.id) = ap carriers (sym same) ∙ u in cc)) ∙ w.3))))
            (b.only y (sym (sent.elements y.id e.1) ∙ is))
      ]

-- ---- these are named

-- of those that are named together
pub in_named : (root id : ℕ) (g : List Survivor) (m : Moved) → In m (named root id g) → (x : Survivor) × In x g × (m.old_root ≡ x.root) × (m.new_root ≡ root) × (id ≤ m.new) × (m.new < id + length g)
in_named root id [] m q = absurd (in_none q)
in_named root id (x ∷ g) m q = ⊎_elim
    (λ e. (let a = ap (λ (z : Moved). z.new) e in (x, here, ap (λ (z : Moved). z.old_root) e, ap (λ (z : Moved). z.new_root) e, omega arith, omega arith)))
    (λ r. (let t = in_named root (id + 1) g m r in let low = t.4 in let high = t.5 in (t.0, there t.1, t.2, t.3, omega arith, omega arith)))
    (in_cons q)

pub is_named : (root id : ℕ) (g : List Survivor) (i : ℕ) → id ≤ i → i < id + length g → IsNamed (λ m. m.new) i (named root id g)
is_named root id [] i low high = absurd (omega (arith, low, high))
is_named root id (x ∷ g) i low high = elim (eqb_tells id i) [
  | inl e ↦ (record { old = x.id; new = id; old_root = x.root; new_root = root; holder = x.holder }, here, e.1)
  | inr e ↦ let not : id ≢ i = e.1 in let t = is_named root (id + 1) g i (omega (arith, low, not)) (omega (arith, high)) in (t.0, there t.1, t.2)
]

named_up : (root id low : ℕ) (g : List Survivor) → low ≤ id → AscendFrom (λ m. m.new) low (named root id g)
named_up root id low [] le = tt
named_up root id low (x ∷ g) le = (le, named_up root (id + 1) (id + 1) g (omega arith))

ascend_more : (low : ℕ) (ms ns : List Moved) (high : ℕ) → AscendFrom (λ m. m.new) low ms → ((m : Moved) → In m ms → m.new < high) → low ≤ high → ((n : ℕ) → n ≤ high → AscendFrom (λ m. m.new) n ns) → AscendFrom (λ m. m.new) low (ms ++ ns)
ascend_more low [] ns high up below le rest = rest low le
ascend_more low (m ∷ ms) ns high up below le rest = (up.0, ascend_more (m.new + 1) ms ns high up.1 (λ n q. below n (there q)) (let u = below m here in omega arith) rest)

zip_append : {A B : Type 0} (R : A → B → Type 0) (xs : List A) (ys : List B) (us : List A) (vs : List B) → AllZip R xs ys → AllZip R us vs → AllZip R (xs ++ us) (ys ++ vs)
zip_append R [] [] us vs a b = b
zip_append R [] (y ∷ ys) us vs a b = absurd a
zip_append R (x ∷ xs) [] us vs a b = absurd a
zip_append R (x ∷ xs) (y ∷ ys) us vs a b = (a.0, zip_append R xs ys us vs a.1 b)

pub still_named : (i : ℕ) (ms ns : List Moved) → IsNamed (λ m. m.new) i ms → IsNamed (λ m. m.new) i (ms ++ ns)
still_named i ms ns named = (named.0, in_left ns named.1, named.2)

module _ (p : ℕ) (k : Limits) (carriers carriers' : ℕ → Option (ℕ × ℕ)) (done g rest : List Survivor) (moved : List Moved) (s : State) (cursor : Cursor) (b : Bears p k carriers done (g ++ rest) moved s cursor)
    (t : State) (cursor' : Cursor) (reached : IsReachable t) (idle : AreIdle t) (limits : t.limits ≡ k) (root first r low' : ℕ) (climbs : Climbs p t cursor' low') (keeps : HasKept cursor'.kept t)
    (kept : (j : ℕ) (e : Element) → element_of s.history j ≡ Some e → element_of t.history j ≡ Some e)
    (same : (m : Moved) → In m moved → (status_in t m.new ≡ status_in s m.new) × (rounds t.history m.new ≡ rounds s.history m.new))
    (before : (m : Moved) → In m moved → m.new < first) (end : first + length g ≤ low')
    (new : AllZip (IsBornAs t) g (named root first g))
    (group : (x : Survivor) → In x g → x.root ≡ r)
    (family : (m : Moved) → In m moved → (m.old_root ≡ r) ↔ (m.new_root ≡ root))
    (other : (q : ℕ) → q ≢ r → carriers' q ≡ carriers q)
    (stands_on : (y : Survivor) → In y rest → y.root ≡ r → FamilyStands t (moved ++ named root first g) y (carriers' y.root))
    (roots : (y : Survivor) → In y rest → y.root ≡ r → (a i : ℕ) → carriers' y.root ≡ Some (a, i) → a ≡ root)
    (root_other : (y : Survivor) → In y rest → (a i : ℕ) → carriers y.root ≡ Some (a, i) → a ≡ root → y.root ≡ r)
    (free : (y : Survivor) → In y rest → y.root ≢ r → (a i : ℕ) → carriers y.root ≡ Some (a, i) → (j : ℕ) → first ≤ j → j < first + length g → j ≢ i)
    (only : (y : Element) → IsBorn t.history y
    → IsNamed (λ m. m.new) y.id (moved ++ named root first g) ⊎ ((is_consumed (status_in t y.id) ≡ true) ⊎ ((x : Survivor) × In x rest × (a : ℕ) × (carriers' x.root ≡ Some (a, y.id)))))
  where
    abbrev moved' : List Moved
    moved' = moved ++ named root first g

    abbrev AreOf : Moved → Type 0
    AreOf m = (m.old_root ≡ r) ↔ (m.new_root ≡ root)

    of_new : (m : Moved) → In m (named root first g) → (m.old_root ≡ r) × (m.new_root ≡ root) × (first ≤ m.new) × (m.new < first + length g)
    of_new m q = let z = in_named root first g m q in (z.2 ∙ group z.0 z.1, z.3, z.4, z.5)

    families : AreFamilies moved'
    families m n q q' = ⊎_elim
        (λ old. ⊎_elim
        (λ old'. b.families m n old old')
        (λ new'. (let z = of_new n new' in let f = family m old in (λ e. f.0 (e ∙ z.0) ∙ sym z.1, λ e. f.1 (e ∙ z.1) ∙ sym z.0)))
        (in_either moved (named root first g) q'))
        (λ new'. ⊎_elim
        (λ old'. (let z = of_new m new' in let f = family n old' in (λ e. z.1 ∙ sym (f.0 (sym e ∙ z.0)), λ e. z.0 ∙ sym (f.1 (sym e ∙ z.1)))))
        (λ new''. (let z = of_new m new' in let w = of_new n new'' in (λ e. z.1 ∙ sym w.1, λ e. z.0 ∙ sym w.0)))
        (in_either moved (named root first g) q'))
        (in_either moved (named root first g) q)

    others_stand : (y : Survivor) → In y rest → y.root ≢ r → (o : Option (ℕ × ℕ)) → carriers y.root ≡ o → FamilyStands s moved y o → FamilyStands t moved' y o
    others_stand y q not None is f = λ m in'. ⊎_elim (λ old. f m old) (λ new'. λ e. not (sym e ∙ (of_new m new').0)) (in_either moved (named root first g) in')
    others_stand y q not (Some (a, i)) is f = record {
      item = f.item;
      born = kept i f.item f.born;
      root_is = f.root_is;
      began = root_kept s t kept y a f.began;
      unnamed = λ m in'. ⊎_elim (λ old. f.unnamed m old) (λ new'. (let z = of_new m new' in free y q not a i is m.new z.2 z.3)) (in_either moved (named root first g) in');
      family = λ m in'. ⊎_elim (λ old. f.family m old) (λ new'. (let z = of_new m new' in (λ e. absurd (not (sym e ∙ z.0)), λ e. absurd (not (root_other y q a i is (sym e ∙ z.1)))))) (in_either moved (named root first g) in');
    }

    pub group_named : Bears p k carriers' (done ++ g) rest moved' t cursor'
    group_named = record {
      reached = reached;
      idle = idle;
      limits = limits;
      low = low';
      climbs = climbs;
      keeps = keeps;
      up = ascend_more 0 moved (named root first g) first b.up before (omega arith) (λ n le. named_up root first n g le);
      below = λ m q. ⊎_elim (λ old. (let u = before m old in omega arith)) (λ new'. (let z = of_new m new' in let u = z.3 in omega arith)) (in_either moved (named root first g) q);
      each = zip_append (IsBornAs t) done moved g (named root first g) (all_kept s t kept done moved same b.each) new;
      families = families;
      stands = λ y q. elim (eqb_tells y.root r) [
        | inl e ↦ stands_on y q e.1
        | inr e ↦ subst (FamilyStands t moved' y) (sym (other y.root e.1)) (others_stand y q e.1 (carriers y.root) refl (b.stands y (in_right g q)))
      ];
      apart = λ y z q q' a c i j is is' eq. elim (eqb_tells y.root r) [
        | inl e ↦ elim (eqb_tells z.root r) [
          | inl f ↦ e.1 ∙ sym f.1
          | inr f ↦ e.1 ∙ sym (root_other z q' c j (sym (other z.root f.1) ∙ is') (sym eq ∙ roots y q e.1 a i is))
        ]
        | inr e ↦ elim (eqb_tells z.root r) [
          | inl f ↦ root_other y q a i (sym (other y.root e.1) ∙ is) (eq ∙ roots z q' f.1 c j is') ∙ sym f.1
          | inr f ↦ b.apart y z (in_right g q) (in_right g q') a c i j (sym (other y.root e.1) ∙ is) (sym (other z.root f.1) ∙ is') eq
        ]
      ];
      only = only;
    }
