-- What births and changes of elements leave.
use Rattle.std.proofs.Common.{◌≡◌, ◌⊎◌, inl, inr, ◌==◌, ◌≤◌, ◌<◌, ◌+◌, ℕ, zero, suc, Bool, true, false, cond, Some, None, List, [], ◌∷◌, length, slice_get, refl, sym, ◌∙◌, ap, subst, arith}
use Rattle.std.specs.List.{AllByRecursion}
use Rattle.std.proofs.lemmas.Bool.Decides.{nat_tests}
use Rattle.tp_model.specs.Drafts.{DraftView}
use Rattle.tp_store.specs.declared.births.Origin.{Origin}
use Rattle.tp_store.specs.declared.element.Element.{Element}
use Rattle.tp_store.specs.declared.element.Status.{Status}
use Rattle.tp_store.specs.declared.element.Status.TheVariants.{Waiting, Held, Consumed, Parked, Killed}
use Rattle.tp_store.specs.Changes.{Follows, Goes, IsBirth, IsForgotten, Remains, earlier_after, rounds_after, Turns}
use Rattle.tp_store.specs.Elements.{Entry, element_at, is_alive, put}
use Rattle.tp_store.specs.Ends.{is_over}
use Rattle.tp_store.specs.Soundness.{HasEnded, IsSound, IsSoundElement}
use Rattle.tp_store.specs.State.{State, made, put_all, with_births, with_change}
use Rattle.tp_store.specs.Shelves.{AreSorted}
use Rattle.tp_store.proofs.Forgetting.{fewer_over, Loses, sound_later}
use Rattle.tp_store.proofs.Keeping.{Keeps, KeepsAlive}
use Rattle.tp_store.proofs.Looking.{put_looks, put_sorted}
use Rattle.tp_store.proofs.Overs.{differ, HasNone, over_from, over_means}

as_number : (m n : ℕ) → (m == n) ≡ true → m ≡ n
as_number m n h = grind (arith, nat_tests)

pub not_itself : (m n : ℕ) → m < n → (m == n) ≡ false
not_itself m n h = grind (arith, nat_tests)

pub itself : (n : ℕ) → (n == n) ≡ true
itself n = grind (arith, nat_tests)

-- elements have been born, and all others are what they were
pub record Bears (s t : State) : Type 0 where
  pub limits : t.limits ≡ s.limits
  pub next : s.next ≤ t.next
  pub units : t.units ≡ s.units
  pub keeps : (id : ℕ) (e : Element) → element_at id s.elements ≡ Some e → element_at id t.elements ≡ Some e
  pub births : (id : ℕ) (e : Element) → element_at id t.elements ≡ Some e → (element_at id s.elements ≡ Some e) ⊎ IsBirth s id e
  pub sound : IsSound t

-- elements have changed, as one call may change them
pub record Alters (s t : State) : Type 0 where
  pub limits : t.limits ≡ s.limits
  pub next : t.next ≡ s.next
  pub units : s.units ≤ t.units
  pub forth : (id : ℕ) (e : Element) → element_at id s.elements ≡ Some e → Remains t id e
  pub back : (id : ℕ) (e : Element) → element_at id t.elements ≡ Some e → (d : Element) × (element_at id s.elements ≡ Some d) × (e.root ≡ d.root)
  pub sound : IsSound t

pub goes_same : (e : Element) → Goes e e
goes_same e = record { contents = refl; status = inl refl; rounds = go e.status; earlier = before e.status }
  where
    go : (x : Status) → e.rounds ≡ rounds_after x x e.rounds
    go (Waiting n) = refl
    go (Held u n) = refl
    go (Consumed u) = refl
    go (Parked n) = refl
    go Killed = refl

    before : (x : Status) → e.earlier ≡ earlier_after x x e.earlier
    before (Waiting n) = refl
    before (Held u n) = refl
    before (Consumed u) = refl
    before (Parked n) = refl
    before Killed = refl

pub bears_none : (s : State) → IsSound s → Bears s s
bears_none s sound = record { limits = refl; next = omega arith; units = refl; keeps = λ id e found. found; births = λ id e found. inl found; sound = sound }

pub alters_none : (s : State) → IsSound s → Alters s s
alters_none s sound = record { limits = refl; next = refl; units = omega arith; forth = λ id e found. record { now = e; found = found; goes = goes_same e }; back = λ id e found. (e, found, refl); sound = sound }

-- births, then changes, then what is forgotten
pub follows : (s b t u : State) → Bears s b → Alters b t → Loses t u → Keeps s t u → IsSound u × Follows s u × KeepsAlive s u × (u.limits ≡ s.limits)
follows s b t u bears alters loses keeps = (
  loses.sound,
  record {
    next = let one = bears.next in let two = alters.next in let three = loses.next in omega arith;
    units = let one = bears.units in let two = alters.units in let three = loses.units in omega arith;
    stays = λ id e found. stays id e (alters.forth id e (bears.keeps id e found));
    births = λ id e found none. births id e (alters.back id e (loses.known id e found)) none;
  },
  λ keep id e found live. kept keep id e (alters.forth id e (bears.keeps id e found)) live,
  loses.limits ∙ (alters.limits ∙ bears.limits),
)
  where
    stays : (id : ℕ) (e : Element) → Remains t id e → Remains u id e ⊎ IsForgotten u id e
    stays id e r = go (loses.stays id r.now r.found)
      where
        root_same : r.now.root ≡ e.root
        root_same = ap (λ (x : Element). x.root) r.goes.contents

        go : (element_at id u.elements ≡ Some r.now) ⊎ ((element_at id u.elements ≡ None) × (is_over r.now.root t.elements ≡ true)) → Remains u id e ⊎ IsForgotten u id e
        go (inl found) = inl (record { now = r.now; found = found; goes = r.goes })
        go (inr gone) = inr (record { gone = gone.0; over = fewer_over e.root t.elements u.elements loses.sound.sorted loses.known (subst (λ g. is_over g t.elements ≡ true) root_same gone.1) })

    kept : 1 ≤ s.limits.keep → (id : ℕ) (e : Element) → Remains t id e → is_over e.root s.elements ≡ false → Remains u id e
    kept keep id e r live = record { now = r.now; found = keeps keep id r.now r.found (subst (λ g. is_over g s.elements ≡ false) (sym (ap (λ (x : Element). x.root) r.goes.contents)) live); goes = r.goes }

    births : (id : ℕ) (e : Element) → (d : Element) × (element_at id b.elements ≡ Some d) × (e.root ≡ d.root) → element_at id s.elements ≡ None → IsBirth s id e
    births id e (d, found, same) none = go (bears.births id d found)
      where
        go : (element_at id s.elements ≡ Some d) ⊎ IsBirth s id d → IsBirth s id e
        go (inl there) = absurd cc
        go (inr birth) = record { drawn = birth.drawn; request = subst (λ g. (g ≡ id) ⊎ (is_over g s.elements ≡ false)) (sym same) birth.request }

-- ---- a change

-- what was not alive isn't alive after it
pub still_over : (old new : Element) → Goes old new → is_alive old.status ≡ false → is_alive new.status ≡ false
still_over old new goes h = go old.status new.status h goes.status
  where
    go : (x y : Status) → is_alive x ≡ false → (y ≡ x) ⊎ Turns old.stage x y → is_alive y ≡ false
    go x y h (inl same) = rw same h
    go (Waiting n) y h (inr turn) = absurd cc
    go (Held u n) y h (inr turn) = absurd cc
    go (Parked n) y h (inr turn) = absurd cc
    go (Consumed u) y h (inr turn) = absurd turn
    go Killed y h (inr turn) = absurd turn

ended_still : (s t : State) (roots : List ℕ) → AreSorted t.elements → s.next ≤ t.next → ((root : ℕ) → root < s.next → HasNone root s.elements → HasNone root t.elements) → AllByRecursion (HasEnded s) roots → AllByRecursion (HasEnded t) roots
ended_still s t [] sorted next over all = tt
ended_still s t (root ∷ roots) sorted next over all = ((let low = all.0.0 in omega arith, over_from root t.elements sorted (over root all.0.0 (over_means root s.elements all.0.1))), ended_still s t roots sorted next over all.1)

abbrev pub with_units : ℕ → State → State
with_units units s = record s { units = units }

pub alters_change : (s : State) (units id : ℕ) (old new : Element) → s.units ≤ units → IsSound s → element_at id s.elements ≡ Some old → Goes old new → IsSoundElement (with_units units s) id new → Alters s (with_units units (with_change id old new s))
alters_change s units id old new more sound found goes fit = record {
  limits = refl;
  next = refl;
  units = more;
  forth = λ q e there. forth q e there (id == q) refl;
  back = λ q e there. back q e there (id == q) refl;
  sound = record {
    sorted = sorted;
    each = λ q e there. each q e there (id == q) refl;
    ended = ended_still s t s.ended sorted (omega arith) (λ root low none q e there same. over root none q e there same (id == q) refl) sound.ended;
  };
}
  where
    t : State
    t = with_units units (with_change id old new s)

    sorted : AreSorted (put id new s.elements)
    sorted = put_sorted id new s.elements sound.sorted

    looks : (q : ℕ) → element_at q (put id new s.elements) ≡ cond (id == q) (Some new) (element_at q s.elements)
    looks = put_looks id new s.elements

    here : (q : ℕ) → (id == q) ≡ true → element_at q (put id new s.elements) ≡ Some new
    here q h = looks q ∙ rw h refl

    apart : (q : ℕ) → (id == q) ≡ false → element_at q (put id new s.elements) ≡ element_at q s.elements
    apart q h = looks q ∙ rw h refl

    was : (q : ℕ) (e : Element) → (id == q) ≡ true → element_at q s.elements ≡ Some e → old ≡ e
    was q e h there = let place = as_number id q h in let both : Some old ≡ Some e = sym found ∙ (ap (λ i. element_at i s.elements) place ∙ there) in cc

    is : (q : ℕ) (e : Element) → (id == q) ≡ true → element_at q (put id new s.elements) ≡ Some e → new ≡ e
    is q e h there = let both : Some new ≡ Some e = sym (here q h) ∙ there in cc

    forth : (q : ℕ) (e : Element) → element_at q s.elements ≡ Some e → (b : Bool) → (id == q) ≡ b → Remains t q e
    forth q e there true h = record { now = new; found = here q h; goes = subst (λ x. Goes x new) (was q e h there) goes }
    forth q e there false h = record { now = e; found = apart q h ∙ there; goes = goes_same e }

    same_root : new.root ≡ old.root
    same_root = ap (λ (x : Element). x.root) goes.contents

    back : (q : ℕ) (e : Element) → element_at q (put id new s.elements) ≡ Some e → (b : Bool) → (id == q) ≡ b → (d : Element) × (element_at q s.elements ≡ Some d) × (e.root ≡ d.root)
    back q e there true h = (old, subst (λ i. element_at i s.elements ≡ Some old) (as_number id q h) found, subst (λ (x : Element). x.root ≡ old.root) (is q e h there) same_root)
    back q e there false h = (e, sym (apart q h) ∙ there, refl)

    each : (q : ℕ) (e : Element) → element_at q (put id new s.elements) ≡ Some e → (b : Bool) → (id == q) ≡ b → IsSoundElement t q e
    each q e there true h = subst (λ i. IsSoundElement t i e) (as_number id q h) (subst (IsSoundElement t id) (is q e h there) (sound_later (with_units units s) t id new (omega arith) (omega arith) fit))
    each q e there false h = sound_later s t q e (omega arith) more (sound.each q e (sym (apart q h) ∙ there))

    over : (root : ℕ) → HasNone root s.elements → (q : ℕ) (e : Element) → element_at q (put id new s.elements) ≡ Some e → e.root ≡ root → (b : Bool) → (id == q) ≡ b → is_alive e.status ≡ false
    over root none q e there same true h = subst (λ (x : Element). is_alive x.status ≡ false) (is q e h there) (still_over old new goes (none id old found (sym same_root ∙ (ap (λ (x : Element). x.root) (is q e h there) ∙ same))))
    over root none q e there same false h = none q e (sym (apart q h) ∙ there) same

-- ---- births

pub index_below : (ds : List DraftView) (k : ℕ) (d : DraftView) → slice_get ds k ≡ Some d → k < length ds
index_below [] zero d at = absurd cc
index_below [] (suc k) d at = absurd cc
index_below (x ∷ ds) zero d at = omega arith
index_below (x ∷ ds) (suc k) d at = let low = index_below ds k d at in omega arith

module _ (from : Origin) where
  -- what has an element keeps it
  pub all_keep : (id : ℕ) (ds : List DraftView) (es : List Entry) (q : ℕ) → q < id → element_at q (put_all id from ds es) ≡ element_at q es
  all_keep id [] es q low = refl
  all_keep id (d ∷ ds) es q low = all_keep (id + 1) ds (put id (made from d) es) q (omega arith) ∙ (put_looks id (made from d) es q ∙ rw (above id q low) refl)
    where
      above : (m n : ℕ) → n < m → (m == n) ≡ false
      above m n h = grind (arith, nat_tests)

  -- each draft is at its place
  pub all_there : (id : ℕ) (ds : List DraftView) (es : List Entry) (k : ℕ) (d : DraftView) → slice_get ds k ≡ Some d → element_at (id + k) (put_all id from ds es) ≡ Some (made from d)
  all_there id [] es k d at = absurd (let low = index_below [] k d at in omega arith)
  all_there id (x ∷ ds) es zero d at = all_keep (id + 1) ds (put id (made from x) es) (id + 0) (omega arith) ∙ (put_looks id (made from x) es (id + 0) ∙ (rw (first id) (ap (λ (y : DraftView). Some (made from y)) that)))
    where
      first : (n : ℕ) → (n == (n + 0)) ≡ true
      first n = grind (arith, nat_tests)

      that : x ≡ d
      that = let h : Some x ≡ Some d = at in cc
  all_there id (x ∷ ds) es (suc k) d at = subst (λ q. element_at q (put_all (id + 1) from ds (put id (made from x) es)) ≡ Some (made from d)) (omega arith) (all_there (id + 1) ds (put id (made from x) es) k d at)

  -- and what is found was there, or is one of them
  pub all_found : (id : ℕ) (ds : List DraftView) (es : List Entry) (q : ℕ) (e : Element) → element_at q (put_all id from ds es) ≡ Some e → (element_at q es ≡ Some e) ⊎ ((k : ℕ) × (d : DraftView) × (slice_get ds k ≡ Some d) × (q ≡ id + k) × (e ≡ made from d))
  all_found id [] es q e found = inl found
  all_found id (x ∷ ds) es q e found = go (all_found (id + 1) ds (put id (made from x) es) q e found)
    where
      put_there : (b : Bool) → (id == q) ≡ b → cond b (Some (made from x)) (element_at q es) ≡ Some e → (element_at q es ≡ Some e) ⊎ ((k : ℕ) × (d : DraftView) × (slice_get (x ∷ ds) k ≡ Some d) × (q ≡ id + k) × (e ≡ made from d))
      put_there true h same = let place = as_number id q h in inr (0, x, refl, omega arith, sym (let both : Some (made from x) ≡ Some e = same in cc))
      put_there false h same = inl same

      go : (element_at q (put id (made from x) es) ≡ Some e) ⊎ ((k : ℕ) × (d : DraftView) × (slice_get ds k ≡ Some d) × (q ≡ (id + 1) + k) × (e ≡ made from d)) → (element_at q es ≡ Some e) ⊎ ((k : ℕ) × (d : DraftView) × (slice_get (x ∷ ds) k ≡ Some d) × (q ≡ id + k) × (e ≡ made from d))
      go (inl there) = put_there (id == q) refl (sym (put_looks id (made from x) es q) ∙ there)
      go (inr (k, d, at, place, is)) = inr (suc k, d, at, omega arith, is)

  pub all_sorted : (id : ℕ) (ds : List DraftView) (es : List Entry) → AreSorted es → AreSorted (put_all id from ds es)
  all_sorted id [] es sorted = sorted
  all_sorted id (d ∷ ds) es sorted = all_sorted (id + 1) ds (put id (made from d) es) (put_sorted id (made from d) es sorted)

-- it was there, or is born of one of these drafts
abbrev IsOne : Origin → List DraftView → State → ℕ → Element → Type 0
IsOne from ds s q e = (element_at q s.elements ≡ Some e) ⊎ ((k : ℕ) × (d : DraftView) × (slice_get ds k ≡ Some d) × (q ≡ s.next + k) × (e ≡ made from d))

pub bears_births : (from : Origin) (ds : List DraftView) (s : State) → IsSound s → from.root ≤ s.next → ((u : ℕ) → from.by ≡ Some u → u < s.units)
    → ((k : ℕ) (d : DraftView) → slice_get ds k ≡ Some d → (from.root ≡ s.next + k) ⊎ (is_over from.root s.elements ≡ false)) → Bears s (with_births from ds s)
bears_births from ds s sound low by request = record {
  limits = refl;
  next = omega arith;
  units = refl;
  keeps = λ id e found. all_keep from s.next ds s.elements id (sound.each id e found).drawn ∙ found;
  births = λ id e found. births id e (all_found from s.next ds s.elements id e found);
  sound = record {
    sorted = sorted;
    each = λ id e found. each id e (all_found from s.next ds s.elements id e found);
    ended = ended_still s t s.ended sorted (omega arith) (λ root below none id e found same. over root below none id e (all_found from s.next ds s.elements id e found) same) sound.ended;
  };
}
  where
    t : State
    t = with_births from ds s

    sorted : AreSorted (put_all s.next from ds s.elements)
    sorted = all_sorted from s.next ds s.elements sound.sorted

    births : (id : ℕ) (e : Element) → IsOne from ds s id e → (element_at id s.elements ≡ Some e) ⊎ IsBirth s id e
    births id e (inl found) = inl found
    births id e (inr (k, d, at, place, is)) = inr (rw is (record { drawn = omega arith; request = go (request k d at) }))
      where
        go : (from.root ≡ s.next + k) ⊎ (is_over from.root s.elements ≡ false) → (from.root ≡ id) ⊎ (is_over from.root s.elements ≡ false)
        go (inl new) = inl (omega arith)
        go (inr live) = inr live

    each : (id : ℕ) (e : Element) → IsOne from ds s id e → IsSoundElement t id e
    each id e (inl found) = sound_later s t id e (omega arith) (omega arith) (sound.each id e found)
    each id e (inr (k, d, at, place, is)) = rw is (record {
      drawn = let below = index_below ds k d at in omega arith;
      root = omega arith;
      rounds = omega arith;
      made_by = by;
      taken_by = λ u h. absurd cc;
      reply = λ _. refl;
    })

    over : (root : ℕ) → root < s.next → HasNone root s.elements → (id : ℕ) (e : Element) → IsOne from ds s id e → e.root ≡ root → is_alive e.status ≡ false
    over root below none id e (inl found) same = none id e found same
    over root below none id e (inr (k, d, at, place, is)) same = go (request k d at)
      where
        root_is : from.root ≡ root
        root_is = ap (λ (x : Element). x.root) (sym is) ∙ same

        go : (from.root ≡ s.next + k) ⊎ (is_over from.root s.elements ≡ false) → is_alive e.status ≡ false
        go (inl new) = let r = root_is in absurd (omega arith)
        go (inr live) = differ (subst (λ g. is_over g s.elements ≡ false) root_is live) (over_from root s.elements sound.sorted none)
