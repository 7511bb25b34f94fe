-- What looks at rows and elements find, row by row and element by element.
use Rattle.std.proofs.Common.{◌≡◌, ◌≢◌, ℕ, ◌+◌, ◌<◌, ◌≤◌, Option, Some, None, List, [], ◌∷◌, ◌++◌, length, take, drop, get_or, slice_index_or, refl, sym, ◌∙◌, ap, subst, inl, inr, ⊎_elim, arith}
use Rattle.std.proofs.lemmas.Bool.Decides.{eqb_tells}
use Rattle.std.proofs.Math.Seq.{take-length}
use mathlib.Core.List.{IsPrefix}
use Rattle.tp_model.specs.declared.types.Limits.{Limits}
use Rattle.tp_model.specs.declared.types.Look.{Look}
use Rattle.tp_model.specs.declared.event.Event.{Event}
use Rattle.tp_model.specs.History.{In, here, status_of}
use Rattle.tp_model.proofs.Bridges.{begins_trans, born_at, in_left, in_right}
use Rattle.tp_manager.specs.Calls.{IsLook}
use Rattle.tp_manager.specs.Requeues.{HasHadRounds}
use Rattle.tp_manager.specs.Shown.{PassShown}
use Rattle.tp_rollover.specs.Thread.{Stays}
use Rattle.tp_rollover.specs.Alike.{AllStandUnheld, IsAlike, IsRootAlike, StandsUnheld}
use Rattle.tp_rollover.specs.Checks.{AreFamilies, AreInTables, HasPut}
use Rattle.tp_rollover.specs.Finding.{AreAliveBelow, AreDescribed, IsAliveAt, IsDescribed, listed}
use Rattle.tp_rollover.specs.Checks.{AscendFrom}
use Rattle.tp_rollover.specs.Survivors.{IsLiving, IsStanding}
use Rattle.tp_rollover.specs.Told.{HoldsAsSeen}
use Rattle.tp_rollover.specs.declared.moved.Moved.{Moved}
use Rattle.tp_rollover.specs.declared.survivors.Survivor.{Survivor}
use Rattle.tp_rollover.proofs.Lists.{drop_here, in_all_taken, in_take_more, take_more, zip_more, zip_snoc}
use Rattle.tp_rollover.proofs.Seen.{between, told_first, told_second}
use Rattle.tp_model.specs.declared.types.Status.{Status}

-- one more row

in_listed : (o : Option ℕ) (i : ℕ) → o ≡ Some i → In i (listed o)
in_listed o i e = subst (λ z. In i (listed z)) (sym e) here

pub alive_next : (limit row : ℕ) (h : List Event) (found : List ℕ) (o : Option ℕ) → AreAliveBelow limit row found h → IsAliveAt limit row o h → AreAliveBelow limit (row + 1) (found ++ listed o) h
alive_next limit row h found o below at x born less =
    elim (eqb_tells x.id row) [
      | inl p ↦
          let t = at.0 x (born_at h row x born p.1) in
          (λ alive. in_right found (in_listed o x.id (t (subst (λ i. IsLiving (status_of limit h i)) p.1 alive) ∙ ap Some (sym p.1))))
      | inr p ↦
          let not : x.id ≢ row = p.1 in
          let t = below x born (omega arith) in
          (λ alive. in_left (listed o) (t alive))
    ]

pub alive_none : (limit : ℕ) (found : List ℕ) (h : List Event) → AreAliveBelow limit 0 found h
alive_none limit found h x born less = absurd (omega (arith, less))

-- what looks show of one

pub stands_one : (k : Limits) (s : Survivor) (m : Moved) (p q r t : PassShown) (is root : Look) (n : ℕ) → Stays p q → Stays q r → Stays r t
    → HoldsAsSeen p q (IsLook k m.new is) → HoldsAsSeen q r (HasHadRounds m.new n) → HoldsAsSeen r t (IsLook k m.new_root root) → IsAlike s m is → IsRootAlike s root → n ≡ s.rounds
    → HoldsAsSeen p t (λ g. StandsUnheld k.attempts g s m)
stands_one k s m p q r t is root n a b c look had look_root alike root_alike same e =
    let both : IsPrefix p.seen r.seen = begins_trans p.seen q.seen r.seen a.sees b.sees in
    let at_r : r.seen ≡ p.seen = between p.seen r.seen t.seen both c.sees e in
    let at_q : q.seen ≡ p.seen = between p.seen q.seen r.seen a.sees b.sees at_r in
    let item = look at_q in
    let rounds_are = told_second (HasHadRounds m.new n) p.seen q.seen r.seen a.sees b.sees had at_r in
    let request = told_second (IsLook k m.new_root root) p.seen r.seen t.seen both c.sees look_root e in
    record {
      named = (alike.old, alike.old_root);
      holder = alike.holder;
      item = is.element;
      born = item.0;
      root = alike.root;
      stage = alike.stage;
      body = alike.body;
      status = sym item.1 ∙ alike.status;
      alive = alike.alive;
      rounds_are = rounds_are.1 ∙ same;
      request = root.element;
      began = request.0;
      by_client = root_alike.by_client;
      root_stage = root_alike.stage;
      root_body = root_alike.body;
      itself = alike.itself;
    }

pub described_one : (l : Limits) (id : ℕ) (s : Survivor) (p q r t : PassShown) (is root : Look) (n : ℕ) (status : Status) (holder : Option ℕ) → Stays p q → Stays q r → Stays r t
    → HoldsAsSeen p q (IsLook l id is) → HoldsAsSeen q r (IsLook l is.element.root root) → HoldsAsSeen r t (HasHadRounds id n) → IsStanding l is.status status holder
    → s ≡ record { id = id; root = is.element.root; stage = is.element.stage; body = is.element.body; status = status; holder = holder; rounds = n; root_stage = root.element.stage; root_body = root.element.body }
    → HoldsAsSeen p t (λ h. IsDescribed l h id s)
described_one l id s p q r t is root n status holder a b c look look_root had stands what e =
    let both : IsPrefix p.seen r.seen = begins_trans p.seen q.seen r.seen a.sees b.sees in
    let at_r : r.seen ≡ p.seen = between p.seen r.seen t.seen both c.sees e in
    let at_q : q.seen ≡ p.seen = between p.seen q.seen r.seen a.sees b.sees at_r in
    let item = look at_q in
    let request = told_second (IsLook l is.element.root root) p.seen q.seen r.seen a.sees b.sees look_root at_r in
    let rounds_are = told_second (HasHadRounds id n) p.seen r.seen t.seen both c.sees had e in
    subst (λ z. IsDescribed l p.seen id z) (sym what) (
      refl,
      record {
        item = is.element;
        born = item.0;
        root = refl;
        stage = refl;
        body = refl;
        stands = subst (λ z. IsStanding l z status holder) item.1 stands;
        rounds_are = rounds_are.1;
        request = root.element;
        began = request.0;
        root_stage = refl;
        root_body = refl;
      },
    )

-- and of one more

pub stand_then : (limit : ℕ) (survivors : List Survivor) (moved : List Moved) (i : ℕ) (d : Survivor) (e : Moved) (p q r : PassShown) → i < length survivors → i < length moved → Stays p q → Stays q r
    → HoldsAsSeen p q (λ g. AllStandUnheld limit g (take i survivors) (take i moved)) → HoldsAsSeen q r (λ g. StandsUnheld limit g (get_or survivors i d) (get_or moved i e))
    → HoldsAsSeen p r (λ g. AllStandUnheld limit g (take (i + 1) survivors) (take (i + 1) moved))
stand_then limit survivors moved i d e p q r less less' a b before one same =
    let x = told_first (λ g. AllStandUnheld limit g (take i survivors) (take i moved)) p.seen q.seen r.seen a.sees b.sees before same in
    let y = told_second (λ g. StandsUnheld limit g (get_or survivors i d) (get_or moved i e)) p.seen q.seen r.seen a.sees b.sees one same in
    zip_more (StandsUnheld limit p.seen) survivors moved i d e less less' x y

pub described_then : (limit : Limits) (ids : List ℕ) (found found' : List Survivor) (i d : ℕ) (s : Survivor) (p q r : PassShown) → i < length ids → found' ≡ found ++ s ∷ [] → Stays p q → Stays q r
    → HoldsAsSeen p q (λ h. AreDescribed limit h (take i ids) found) → HoldsAsSeen q r (λ h. IsDescribed limit h (get_or ids i d) s) → HoldsAsSeen p r (λ h. AreDescribed limit h (take (i + 1) ids) found')
described_then limit ids found found' i d s p q r less is a b before one same =
    let x = told_first (λ h. AreDescribed limit h (take i ids) found) p.seen q.seen r.seen a.sees b.sees before same in
    let y = told_second (λ h. IsDescribed limit h (get_or ids i d) s) p.seen q.seen r.seen a.sees b.sees one same in
    subst (λ zs. AreDescribed limit p.seen zs found') (sym (take_more ids i d less))
    (subst (AreDescribed limit p.seen (take i ids ++ get_or ids i d ∷ [])) (sym is) (zip_snoc (IsDescribed limit p.seen) (take i ids) found (get_or ids i d) s x y))

pub described_end : (limit : Limits) (h : List Event) (ids : List ℕ) (found : List Survivor) (i : ℕ) → length ids ≤ i → i ≤ length ids → AreDescribed limit h (take i ids) found → AreDescribed limit h ids found
described_end limit h ids found i low high all = subst (λ zs. AreDescribed limit h zs found) (ap (λ k. take k ids) (let e : i ≡ length ids = omega (arith, low, high) in e) ∙ take-length ids) all

-- roots in two tables

pub tables_none : (xs ys : List (Option ℕ)) (moved : List Moved) → AreInTables xs ys (take 0 moved)
tables_none xs ys moved = record { forth = λ m p. elim p [ ]; back = λ m p. elim p [ ] }

pub tables_then : (xs xs' ys ys' : List (Option ℕ)) (moved : List Moved) (i : ℕ) (d : Moved) → i < length moved → AreInTables xs ys (take i moved)
    → HasPut (get_or moved i d).old_root (get_or moved i d).new_root xs xs' → HasPut (get_or moved i d).new_root (get_or moved i d).old_root ys ys'
    → AreInTables xs' ys' (take (i + 1) moved)
tables_then xs xs' ys ys' moved i d less before put put' = record {
  forth = λ m p. ⊎_elim (λ early. put.kept m.old_root m.new_root (before.forth m early))
      (λ same. subst (λ (z : Moved). slice_index_or xs' z.old_root None ≡ Some z.new_root) (sym same) put.there) (in_take_more m moved i d less p);
  back = λ m p. ⊎_elim (λ early. put'.kept m.new_root m.old_root (before.back m early))
      (λ same. subst (λ (z : Moved). slice_index_or ys' z.new_root None ≡ Some z.old_root) (sym same) put'.there) (in_take_more m moved i d less p);
}

some_same : (a b : ℕ) (o : Option ℕ) → o ≡ Some a → o ≡ Some b → a ≡ b
some_same a b o e f = let q : Some a ≡ Some b = sym e ∙ f in cc

pub families_all : (xs ys : List (Option ℕ)) (moved : List Moved) → AreInTables xs ys (take (length moved) moved) → AreFamilies moved
families_all xs ys moved t m n p q = (
  λ same. some_same m.new_root n.new_root (slice_index_or xs m.old_root None) (t.forth m (in_all_taken m moved p)) (ap (λ k. slice_index_or xs k None) same ∙ t.forth n (in_all_taken n moved q)),
  λ same. some_same m.old_root n.old_root (slice_index_or ys m.new_root None) (t.back m (in_all_taken m moved p)) (ap (λ k. slice_index_or ys k None) same ∙ t.back n (in_all_taken n moved q)),
)

pub families_end : (xs ys : List (Option ℕ)) (moved : List Moved) (i : ℕ) → length moved ≤ i → i ≤ length moved → AreInTables xs ys (take i moved) → AreFamilies moved
families_end xs ys moved i low high t = families_all xs ys moved (subst (λ k. AreInTables xs ys (take k moved)) (let e : i ≡ length moved = omega (arith, low, high) in e) t)

-- ids that ascend

pub ascend_on : (id : Moved → ℕ) (low next : ℕ) (moved : List Moved) (i : ℕ) (d : Moved) → i < length moved → low ≤ id (get_or moved i d) → next ≡ id (get_or moved i d) + 1
    → AscendFrom id next (drop (i + 1) moved) → AscendFrom id low (drop i moved)
ascend_on id low next moved i d less low_is next_is rest =
    subst (AscendFrom id low) (sym (drop_here moved i d less)) (low_is, subst (λ n. AscendFrom id n (drop (i + 1) moved)) next_is rest)
