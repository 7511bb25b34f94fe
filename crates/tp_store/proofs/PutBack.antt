-- Elements in the order of their ids, and requests that are over, are taken back one after another.
use Rattle.std.proofs.Common.{◌≡◌, ◌&&◌, ◌≤◌, ◌<◌, ◌+◌, ◌-◌, ◌^◌, nat_lt, nat_le, ℕ, Bool, true, false, None, Ok, List, [], ◌∷◌, ◌++◌, length, map, refl, sym, ◌∙◌, ap, subst, arith}
use Rattle.std.specs.Ordering.{nat_cmp}
use Rattle.std.specs.declared.cmp.Ordering.TheVariants.{Less, Greater}
use Rattle.std.specs.BTreeMap.{is_at}
use Rattle.std.specs.List.{AllByRecursion}
use Rattle.std.specs.Map.{keys_of}
use Rattle.std.proofs.lemmas.Map.Keys.{sorted_head, sorted_tail}
use Rattle.std.proofs.lemmas.Bool.Decides.{nat_tests}
use Rattle.std.proofs.lemmas.List.{append-nil, append_assoc}
use Rattle.tp_store.specs.declared.element.Element.{Element}
use Rattle.tp_store.specs.declared.element.TheConstants.{LAST_STAGE}
use Rattle.tp_store.specs.declared.group.Group.TheVariants.{All}
use Rattle.tp_store.specs.declared.store.Limits.{Limits}
use Rattle.tp_store.specs.Counting.{tallied, TallyView}
use Rattle.tp_store.specs.Elements.{Entry, element_at, put}
use Rattle.tp_store.specs.Ends.{is_over}
use Rattle.tp_store.specs.Listing.{first_of}
use Rattle.tp_store.specs.Restoring.{all_back, is_next, is_possible, if_sound, taken_back, Told, Back, Over}
use Rattle.tp_store.specs.Restoring.{with_element, with_over}
use Rattle.tp_store.specs.Retelling.{AreTaken}
use Rattle.tp_store.specs.Shelves.{AreSorted}
use Rattle.tp_store.specs.State.{State}
use Rattle.tp_store.proofs.Finding.{at_most, both, IsBelow}
use Rattle.tp_store.proofs.Looking.{put_sorted}
use Rattle.tp_store.proofs.Recounted.{AreCounted, one_counted}

-- what is told leads from one store to another, and all of it is taken in
pub record Leads (told : List Told) (s t : State) : Type 0 where
  pub taken : AreTaken told s
  pub left : all_back told s ≡ t

pub leads_none : (s : State) → Leads [] s s
leads_none s = record { taken = tt; left = refl }

pub leads_both : (xs ys : List Told) (s t u : State) → Leads xs s t → Leads ys t u → Leads (xs ++ ys) s u
leads_both [] ys s t u one two = subst (λ v. Leads ys v u) (sym one.left) two
leads_both (x ∷ xs) ys s t u one two =
    let rest = leads_both xs ys (taken_back x s) t u (record { taken = one.taken.1; left = one.left }) two in
    record { taken = (one.taken.0, rest.taken); left = rest.left }

-- what is sound is taken in
pub passed : (b : Bool) (new s : State) → b ≡ true → ((if_sound b new s).0 ≡ Ok tt) × ((if_sound b new s).1 ≡ new)
passed true new s h = (refl, refl)
passed false new s h = absurd cc

pub and_true : (a b : Bool) → a ≡ true → b ≡ true → (a && b) ≡ true
and_true a b p q = rw (p, q) refl

-- ---- the last one

below_one : (k : ℕ) (pre : List Entry) (e : Entry) (es : List Entry) → IsBelow k (keys_of (pre ++ e ∷ es)) → nat_cmp k e.0 ≡ Less
below_one k [] e es below = below.0
below_one k (x ∷ pre) e es below = below_one k pre e es below.1

put_last : (pre : List Entry) (e : Entry) (es : List Entry) → AreSorted (pre ++ e ∷ es) → put e.0 e.1 pre ≡ pre ++ e ∷ []
put_last [] e es sorted = refl
put_last (x ∷ pre) e es sorted = rw (flipped x.0 e.0 (below_one x.0 pre e es (sorted_head nat_cmp x.0 (keys_of (pre ++ e ∷ es)) sorted))) (ap (λ ys. x ∷ ys) (put_last pre e es (sorted_tail nat_cmp x.0 (keys_of (pre ++ e ∷ es)) sorted)))
  where
    flipped : (a b : ℕ) → nat_cmp a b ≡ Less → nat_cmp b a ≡ Greater
    flipped a b h = grind (arith, nat_tests)

none_next : (pre : List Entry) (e : Entry) (es : List Entry) → AreSorted (pre ++ e ∷ es) → first_of All e.0 pre ≡ None
none_next [] e es sorted = refl
none_next (x ∷ pre) e es sorted = rw (before x.0 e.0 (below_one x.0 pre e es (sorted_head nat_cmp x.0 (keys_of (pre ++ e ∷ es)) sorted))) (none_next pre e es (sorted_tail nat_cmp x.0 (keys_of (pre ++ e ∷ es)) sorted))
  where
    before : (a b : ℕ) → nat_cmp a b ≡ Less → nat_le b a ≡ false
    before a b h = grind (arith, nat_tests)

none_there : (pre : List Entry) (e : Entry) (es : List Entry) → AreSorted (pre ++ e ∷ es) → element_at e.0 pre ≡ None
none_there [] e es sorted = refl
none_there (x ∷ pre) e es sorted = rw (apart x.0 e.0 (below_one x.0 pre e es (sorted_head nat_cmp x.0 (keys_of (pre ++ e ∷ es)) sorted))) (none_there pre e es (sorted_tail nat_cmp x.0 (keys_of (pre ++ e ∷ es)) sorted))
  where
    apart : (a b : ℕ) → nat_cmp a b ≡ Less → is_at (nat_cmp b) a ≡ false
    apart a b h = grind (arith, nat_tests)

length_last : (pre : List Entry) (e : Entry) → length (pre ++ e ∷ []) ≡ length pre + 1
length_last [] e = refl
length_last (x ∷ pre) e = let h = length_last pre e in omega arith

-- ---- elements

module _ (limits : Limits) (next units : ℕ) where
  -- a store of these elements, of which none is told as over
  abbrev pub of_elements : List Entry → TallyView → State
  of_elements es t = record { limits = limits; next = next; units = units; elements = es; tally = t; ended = [] }

  -- each may come back
  abbrev pub MayComeBack : Entry → Type 0
  MayComeBack e = (nat_lt e.0 next ≡ true) × (is_possible units e.0 e.1 ≡ true)

  stage_inside : (units id : ℕ) (e : Element) → is_possible units id e ≡ true → e.stage ≤ LAST_STAGE
  stage_inside units id e is = at_most e.stage LAST_STAGE (both _ _ (both _ _ is).0).1

  -- the elements behind some that came back
  pub record ComeBack (pre es : List Entry) (t : TallyView) : Type 0 where
    pub tally : TallyView
    pub counted : AreCounted tally (pre ++ es)
    pub leads : Leads (map (λ (e : Entry). Back e.0 e.1) es) (of_elements pre t) (of_elements (pre ++ es) tally)

  pub come_back : (pre es : List Entry) (t : TallyView) → AreSorted (pre ++ es) → AllByRecursion MayComeBack es → length pre + length es < 2 ^ 64 - 1 → AreCounted t pre → AreSorted pre → ComeBack pre es t
  come_back pre [] t sorted may few counted fit = record {
    tally = t;
    counted = subst (AreCounted t) (sym (append-nil pre)) counted;
    leads = record { taken = tt; left = ap (λ xs. of_elements xs t) (sym (append-nil pre)) };
  }
  come_back pre (e ∷ es) t sorted may few counted fit = with_first (come_back (pre ++ e ∷ []) es now (subst AreSorted again sorted) may.1 (let h = length_last pre e in omega arith) (subst (AreCounted now) last one_more_counted) (subst AreSorted last (put_sorted e.0 e.1 pre fit)))
    where
      now : TallyView
      now = tallied e.1.stage None e.1.status t

      last : put e.0 e.1 pre ≡ pre ++ e ∷ []
      last = put_last pre e es sorted

      again : pre ++ e ∷ es ≡ (pre ++ e ∷ []) ++ es
      again = sym (append_assoc pre (e ∷ []) es)

      one_more_counted : AreCounted now (put e.0 e.1 pre)
      one_more_counted = one_counted t pre e.0 e.1 fit (none_there pre e es sorted) (ap length last ∙ length_last pre e) (stage_inside units e.0 e.1 may.0.1) (omega arith) counted

      passes : (is_next e.0 (of_elements pre t) && is_possible units e.0 e.1) ≡ true
      passes = and_true _ _ (and_true _ _ may.0.0 (rw (none_next pre e es sorted) refl)) may.0.1

      one : Leads (Back e.0 e.1 ∷ []) (of_elements pre t) (of_elements (pre ++ e ∷ []) now)
      one = let go = passed _ (with_element e.0 e.1 (of_elements pre t)) (of_elements pre t) passes in record { taken = (go.0, tt); left = go.1 ∙ ap (λ xs. of_elements xs now) last }

      with_first : ComeBack (pre ++ e ∷ []) es now → ComeBack pre (e ∷ es) t
      with_first rest = record {
        tally = rest.tally;
        counted = subst (AreCounted rest.tally) (sym again) rest.counted;
        leads = leads_both (Back e.0 e.1 ∷ []) (map (λ (e : Entry). Back e.0 e.1) es) _ _ _ one (subst (λ xs. Leads (map (λ (e : Entry). Back e.0 e.1) es) (of_elements (pre ++ e ∷ []) now) (of_elements xs rest.tally)) (sym again) rest.leads);
      }

-- ---- requests that are over

-- these are noted as over
abbrev pub of_ended : List ℕ → State → State
of_ended roots s = record s { ended = roots }

pub overs_back : (s : State) (done roots : List ℕ) → AllByRecursion (λ root. (nat_lt root s.next ≡ true) × (is_over root s.elements ≡ true)) roots → Leads (map Over roots) (of_ended done s) (of_ended (done ++ roots) s)
overs_back s done [] all = record { taken = tt; left = ap (λ xs. of_ended xs s) (sym (append-nil done)) }
overs_back s done (root ∷ roots) all = leads_both (Over root ∷ []) (map Over roots) (of_ended done s) (of_ended (done ++ root ∷ []) s) (of_ended (done ++ root ∷ roots) s) one (subst (λ xs. Leads (map Over roots) (of_ended (done ++ root ∷ []) s) (of_ended xs s)) (append_assoc done (root ∷ []) roots) (overs_back s (done ++ root ∷ []) roots all.1))
  where
    passes : (nat_lt root s.next && is_over root s.elements) ≡ true
    passes = and_true _ _ all.0.0 all.0.1

    one : Leads (Over root ∷ []) (of_ended done s) (of_ended (done ++ root ∷ []) s)
    one = let go = passed _ (with_over root (of_ended done s)) (of_ended done s) passes in record { taken = (go.0, tt); left = go.1 }
