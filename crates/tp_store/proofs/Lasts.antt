-- What lasts over runs of calls.
use Rattle.std.proofs.Common.{◌≡◌, ◌⊎◌, inl, inr, ◌≤◌, ◌<◌, ℕ, true, false, Option, Some, None, List, [], ◌∷◌, refl, sym, ◌∙◌, ap, subst, arith}
use Rattle.tp_store.specs.declared.element.Element.{Element}
use Rattle.tp_store.specs.declared.element.Status.{Status}
use Rattle.tp_store.specs.declared.element.Status.TheVariants.{Waiting, Held, Consumed, Parked, Killed}
use Rattle.tp_store.specs.Changes.{earlier_after, Follows, Goes, IsForgotten, Remains, rounds_after, Turns}
use Rattle.tp_store.specs.Elements.{element_at, is_alive}
use Rattle.tp_store.specs.Ends.{is_over}
use Rattle.tp_store.specs.Lasting.{ContentsLast, FamiliesLast, IdsLast, OverLasts, SettledLasts}
use Rattle.tp_store.specs.Runs.{after, Call, run}
use Rattle.tp_store.specs.Soundness.{IsSound}
use Rattle.tp_store.specs.State.{State}
use Rattle.tp_store.proofs.Leading.{calls_follow}
use Rattle.tp_store.proofs.Changing.{still_over}
use Rattle.tp_store.proofs.Overs.{differ, over_from, over_means}

-- ---- one call

gone_still : (s t : State) (id : ℕ) → Follows s t → id < s.next → element_at id s.elements ≡ None → element_at id t.elements ≡ None
gone_still s t id follows low none = go (element_at id t.elements) refl
  where
    go : (x : Option Element) → element_at id t.elements ≡ x → element_at id t.elements ≡ None
    go None h = h
    go (Some e) h = absurd (let birth = (follows.births id e h none).drawn in omega arith)

pub over_still : (s t : State) (root : ℕ) → IsSound s → IsSound t → Follows s t → root < s.next → is_over root s.elements ≡ true → is_over root t.elements ≡ true
over_still s t root sound after follows low over = over_from root t.elements after.sorted (λ id e found same. go id e found same (element_at id s.elements) refl)
  where
    kept : (id : ℕ) (e d : Element) → element_at id t.elements ≡ Some e → e.root ≡ root → element_at id s.elements ≡ Some d → Remains t id d ⊎ IsForgotten t id d → is_alive e.status ≡ false
    kept id e d found same was (inr gone) = absurd (let none = gone.gone in cc)
    kept id e d found same was (inl there) =
        let is : there.now ≡ e = (let both : Some there.now ≡ Some e = sym there.found ∙ found in cc) in
        let root_is : d.root ≡ root = sym (ap (λ (x : Element). x.root) there.goes.contents) ∙ (ap (λ (x : Element). x.root) is ∙ same) in
        subst (λ (x : Element). is_alive x.status ≡ false) is (still_over d there.now there.goes (over_means root s.elements over id d was root_is))

    born : (id : ℕ) (e : Element) → s.next ≤ id → e.root ≡ root → (e.root ≡ id) ⊎ (is_over e.root s.elements ≡ false) → is_alive e.status ≡ false
    born id e high same (inl own) = absurd (omega arith)
    born id e high same (inr live) = differ (subst (λ r. is_over r s.elements ≡ false) same live) over

    go : (id : ℕ) (e : Element) → element_at id t.elements ≡ Some e → e.root ≡ root → (x : Option Element) → element_at id s.elements ≡ x → is_alive e.status ≡ false
    go id e found same None h = let birth = follows.births id e found h in born id e birth.drawn same birth.request
    go id e found same (Some d) h = kept id e d found same h (follows.stays id d h)

-- ---- runs

pub over_lasts : OverLasts
over_lasts [] s root sound low over = over
over_lasts (call ∷ calls) s root sound low over =
    let led = calls_follow call s sound in
    over_lasts calls (after call s) root led.0 (let more = led.1.next in omega arith) (over_still s (after call s) root sound led.0 led.1 low over)

pub ids_last : IdsLast
ids_last [] s id sound low none = none
ids_last (call ∷ calls) s id sound low none =
    let led = calls_follow call s sound in
    ids_last calls (after call s) id led.0 (let more = led.1.next in omega arith) (gone_still s (after call s) id led.1 low none)

-- an element that is found behind a run was there behind its first call
pub remains : (call : Call) (calls : List Call) (s : State) (id : ℕ) (old now : Element) → IsSound s → element_at id s.elements ≡ Some old → element_at id (run calls (after call s)).elements ≡ Some now → Remains (after call s) id old
remains call calls s id old now sound was found = go (led.1.stays id old was)
  where
    led : IsSound (after call s) × Follows s (after call s)
    led = let all = calls_follow call s sound in (all.0, all.1)

    go : Remains (after call s) id old ⊎ IsForgotten (after call s) id old → Remains (after call s) id old
    go (inl there) = there
    go (inr gone) = absurd (let none = ids_last calls (after call s) id led.0 (let low = (sound.each id old was).drawn in let more = led.1.next in omega arith) gone.gone in cc)

pub contents_last : ContentsLast
contents_last [] s id old now sound was found = let both : Some old ≡ Some now = sym was ∙ found in let same : old ≡ now = cc in subst (λ (x : Element). x ≡ record old { status = x.status; rounds = x.rounds; earlier = x.earlier }) same refl
contents_last (call ∷ calls) s id old now sound was found =
    let there = remains call calls s id old now sound was found in
    let later = contents_last calls (after call s) id there.now now (calls_follow call s sound).0 there.found found in
    later ∙ ap (λ (x : Element). record x { status = now.status; rounds = now.rounds; earlier = now.earlier }) there.goes.contents

pub settled_goes : (old now : Element) → Goes old now → is_alive old.status ≡ false → now ≡ old
settled_goes old now goes settled = goes.contents ∙ go old.status refl settled goes.status goes.rounds goes.earlier
  where
    same : now.status ≡ old.status → now.rounds ≡ old.rounds → now.earlier ≡ old.earlier → record old { status = now.status; rounds = now.rounds; earlier = now.earlier } ≡ old
    same s r a = rw (s, r, a) refl

    go : (x : Status) → old.status ≡ x → is_alive x ≡ false → (now.status ≡ x) ⊎ Turns old.stage x now.status → now.rounds ≡ rounds_after x now.status old.rounds → now.earlier ≡ earlier_after x now.status old.earlier → record old { status = now.status; rounds = now.rounds; earlier = now.earlier } ≡ old
    go (Consumed u) is h (inl s) r a = same (s ∙ sym is) r a
    go Killed is h (inl s) r a = same (s ∙ sym is) r a
    go (Consumed u) is h (inr turn) r a = absurd turn
    go Killed is h (inr turn) r a = absurd turn
    go (Waiting n) is h t r a = absurd cc
    go (Held u n) is h t r a = absurd cc
    go (Parked n) is h t r a = absurd cc

pub settled_lasts : SettledLasts
settled_lasts [] s id old now sound was settled found = let both : Some now ≡ Some old = sym found ∙ was in cc
settled_lasts (call ∷ calls) s id old now sound was settled found =
    let there = remains call calls s id old now sound was found in
    let same = settled_goes old there.now there.goes settled in
    settled_lasts calls (after call s) id old now (calls_follow call s sound).0 (rw (← same) there.found) settled found

pub families_last : FamiliesLast
families_last [] s id e sound was live = (e, was)
families_last (call ∷ calls) s id e sound was live = go ((calls_follow call s sound).1.stays id e was) (λ now found same. families_last calls (after call s) id now (calls_follow call s sound).0 found (rw same live))
  where
    led : IsSound (after call s) × Follows s (after call s)
    led = let all = calls_follow call s sound in (all.0, all.1)

    go : Remains (after call s) id e ⊎ IsForgotten (after call s) id e → ((now : Element) → element_at id (after call s).elements ≡ Some now → now.root ≡ e.root → (last : Element) × (element_at id (run calls (after call s)).elements ≡ Some last)) → (now : Element) × (element_at id (run calls (after call s)).elements ≡ Some now)
    go (inl there) on = on there.now there.found (ap (λ (x : Element). x.root) there.goes.contents)
    go (inr gone) on = differ live (over_lasts calls (after call s) e.root led.0 (let low = (sound.each id e was).drawn in let root = (sound.each id e was).root in let more = led.1.next in omega arith) gone.over)
