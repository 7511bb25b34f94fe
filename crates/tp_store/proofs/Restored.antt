-- What is taken back leaves a sound store.
use Rattle.std.proofs.Common.{◌≡◌, ◌==◌, ◌&&◌, ◌++◌, ◌≤◌, ◌<◌, nat_le, nat_lt, ℕ, suc, Bool, true, false, is_none, if◌then◌else◌, Option, Some, None, List, [], ◌∷◌, length, refl, sym, ◌∙◌, subst, arith}
use Rattle.std.specs.Ordering.{nat_cmp}
use Rattle.std.specs.BTreeMap.{is_at}
use Rattle.std.specs.List.{AllByRecursion}
use Rattle.std.proofs.lemmas.Bool.Decides.{nat_tests}
use Rattle.tp_store.specs.declared.element.Element.{Element}
use Rattle.tp_store.specs.declared.element.TheConstants.{MAX_ROUNDS, REPLY_STAGE}
use Rattle.tp_store.specs.declared.group.Group.TheVariants.{All}
use Rattle.tp_store.specs.Elements.{Entry, element_at}
use Rattle.tp_store.specs.Ends.{is_over}
use Rattle.tp_store.specs.Listing.{first_of}
use Rattle.tp_store.specs.Restoring.{all_back, if_sound, is_drawn, is_next, is_possible, is_root, is_settling, is_stage}
use Rattle.tp_store.specs.Restoring.{RestoredIsSound, StaysSound, taken_back, Told, with_element, with_numbers}
use Rattle.tp_store.specs.Restoring.{with_over, with_settled}
use Rattle.tp_store.specs.Restoring.{Numbers, Back, Over, Settled}
use Rattle.tp_store.specs.Soundness.{HasEnded, is_for_reply, IsSound, IsSoundElement, unit_in}
use Rattle.tp_store.specs.State.{State, start}
use Rattle.tp_store.proofs.Finding.{at_most, both}
use Rattle.tp_store.proofs.Forgetting.{sound_later}
use Rattle.tp_store.proofs.Leading.{run_sound, runs_are_sound}
use Rattle.tp_store.proofs.Looking.{put_looks, put_sorted}

-- ---- what comes next

-- where none is found from an id on, none is there
pub none_from : (id q : ℕ) (es : List Entry) → is_none (first_of All id es) ≡ true → id ≤ q → element_at q es ≡ None
none_from id q [] none low = refl
none_from id q (x ∷ es) none low = go (λ h. none_from id q es h low) (nat_le id x.0) refl none
  where
    before : (id q k : ℕ) → nat_le id k ≡ false → id ≤ q → is_at (nat_cmp q) k ≡ false
    before id q k h low = grind (arith, nat_tests)

    go : (is_none (first_of All id es) ≡ true → element_at q es ≡ None) → (b : Bool) → nat_le id x.0 ≡ b → is_none (if b && true then Some x else first_of All id es) ≡ true → element_at q (x ∷ es) ≡ None
    go on true h none = absurd cc
    go on false h none = rw (before id q x.0 h low) (on none)

pub unborn : (id : ℕ) (s : State) → is_next id s ≡ true → element_at id s.elements ≡ None
unborn id s is = none_from id id s.elements (both _ _ (both _ _ is).1).0 (omega arith)

-- ---- it stays sound

below : (m n : ℕ) → nat_lt m n ≡ true → m < n
below m n h = grind (arith, nat_tests)

as_number : (m n : ℕ) → (m == n) ≡ true → m ≡ n
as_number m n h = grind (arith, nat_tests)

itself : (n : ℕ) → (n == n) ≡ true
itself n = grind (arith, nat_tests)

drawn : (units : ℕ) (unit : Option ℕ) → is_drawn units unit ≡ true → (u : ℕ) → unit ≡ Some u → u < units
drawn units None is u same = absurd cc
drawn units (Some v) is u same = let one : v ≡ u = cc in let low = below v units is in omega arith

root_is : (id : ℕ) (by : Option ℕ) (root : ℕ) → is_root id by root ≡ true → root ≤ id
root_is id None root is = let same = as_number root id is in omega arith
root_is id (Some u) root is = let low = below root id is in omega arith

-- an element that is possible is sound
possible_sound : (s : State) (id : ℕ) (e : Element) → id < s.next → is_possible s.units id e ≡ true → IsSoundElement s id e
possible_sound s id e low is =
    let rounds = both _ _ (both _ _ is).1 in
    let root = both _ _ rounds.1 in
    let by = both _ _ root.1 in
    let unit = both _ _ by.1 in
    record {
      drawn = low;
      root = root_is id e.by e.root root.0;
      rounds = at_most e.rounds MAX_ROUNDS rounds.0;
      made_by = drawn s.units e.by by.0;
      taken_by = drawn s.units (unit_in e.status) unit.0;
      reply = reply (both _ _ unit.1).1;
    }
  where
    reply : (if e.stage == REPLY_STAGE then is_for_reply e.status else true) ≡ true → e.stage ≡ REPLY_STAGE → is_for_reply e.status ≡ true
    reply is same = go (e.stage == REPLY_STAGE) (rw same (itself REPLY_STAGE)) is
      where
        go : (b : Bool) → b ≡ true → (if b then is_for_reply e.status else true) ≡ true → is_for_reply e.status ≡ true
        go true h is = is
        go false h is = absurd cc

ended_later : (s t : State) (roots : List ℕ) → s.next ≤ t.next → t.elements ≡ s.elements → AllByRecursion (HasEnded s) roots → AllByRecursion (HasEnded t) roots
ended_later s t [] next same all = tt
ended_later s t (root ∷ roots) next same all = ((let low = all.0.0 in omega arith, rw same all.0.1), ended_later s t roots next same all.1)

numbers_sound : (next units : ℕ) (s : State) → s.next ≤ next → s.units ≤ units → IsSound s → IsSound (with_numbers next units s)
numbers_sound next units s low few sound = record {
  sorted = sound.sorted;
  each = λ id e found. sound_later s (with_numbers next units s) id e low few (sound.each id e found);
  ended = ended_later s (with_numbers next units s) s.ended low refl sound.ended;
}

none_over : (s : State) (roots : List ℕ) → (length roots == 0) ≡ true → AllByRecursion (HasEnded s) roots
none_over s [] none = tt
none_over s (root ∷ roots) none = absurd (some (length roots) none)
  where
    some : (n : ℕ) → (suc n == 0) ≡ true → ⊥
    some n h = absurd (grind (arith, nat_tests))

element_sound : (id : ℕ) (e : Element) (s : State) → is_next id s ≡ true → is_possible s.units id e ≡ true → IsSound s → IsSound (with_element id e s)
element_sound id e s next possible sound = record {
  sorted = put_sorted id e s.elements sound.sorted;
  each = λ q d found. each q d (id == q) refl (sym (put_looks id e s.elements q) ∙ found);
  ended = none_over t s.ended (both _ _ (both _ _ next).1).1;
}
  where
    t : State
    t = with_element id e s

    each : (q : ℕ) (d : Element) (b : Bool) → (id == q) ≡ b → (if b then Some e else element_at q s.elements) ≡ Some d → IsSoundElement t q d
    each q d true h found = let same : e ≡ d = cc in subst (λ i. IsSoundElement t i d) (as_number id q h) (subst (λ x. IsSoundElement t id x) same (possible_sound t id e (below id s.next (both _ _ next).0) possible))
    each q d false h found = sound_later s t q d (omega arith) (omega arith) (sound.each q d found)

over_sound : (root : ℕ) (s : State) → root < s.next → is_over root s.elements ≡ true → IsSound s → IsSound (with_over root s)
over_sound root s low over sound = record {
  sorted = sound.sorted;
  each = λ id e found. sound_later s (with_over root s) id e (omega arith) (omega arith) (sound.each id e found);
  ended = more s.ended sound.ended;
}
  where
    more : (roots : List ℕ) → AllByRecursion (HasEnded s) roots → AllByRecursion (HasEnded (with_over root s)) (roots ++ root ∷ [])
    more [] all = ((low, over), tt)
    more (r ∷ roots) all = (all.0, more roots all.1)

settled_sound : (stage consumed killed : ℕ) (s : State) → IsSound s → IsSound (record s { tally = with_settled stage consumed killed s.tally })
settled_sound stage consumed killed s sound = record {
  sorted = sound.sorted;
  each = λ id e found. sound_later s (record s { tally = with_settled stage consumed killed s.tally }) id e (omega arith) (omega arith) (sound.each id e found);
  ended = ended_later s (record s { tally = with_settled stage consumed killed s.tally }) s.ended (omega arith) refl sound.ended;
}

-- what is refused changes nothing
where_sound : (b : Bool) (new s : State) → IsSound s → (b ≡ true → IsSound new) → IsSound (if_sound b new s).1
where_sound true new s old is = is refl
where_sound false new s old is = old

pub stays_sound : StaysSound
stays_sound (Numbers next units) s sound = where_sound _ (with_numbers next units s) s sound (λ is. let parts = both _ _ is in numbers_sound next units s (at_most s.next next parts.0) (at_most s.units units parts.1) sound)
stays_sound (Back id e) s sound = where_sound _ (with_element id e s) s sound (λ is. let parts = both (is_next id s) (is_possible s.units id e) is in element_sound id e s parts.0 parts.1 sound)
stays_sound (Over root) s sound = where_sound _ (with_over root s) s sound (λ is. let parts = both _ _ is in over_sound root s (below root s.next parts.0) parts.1 sound)
stays_sound (Settled stage consumed killed) s sound = where_sound (is_stage stage && is_settling stage consumed killed s.tally) (record s { tally = with_settled stage consumed killed s.tally }) s sound (λ is. settled_sound stage consumed killed s sound)

all_sound : (told : List Told) (s : State) → IsSound s → IsSound (all_back told s)
all_sound [] s sound = sound
all_sound (one ∷ others) s sound = all_sound others (taken_back one s) (stays_sound one s sound)

pub restored_is_sound : RestoredIsSound
restored_is_sound limits told calls = run_sound calls (all_back told (start limits)) (all_sound told (start limits) (runs_are_sound limits []))
