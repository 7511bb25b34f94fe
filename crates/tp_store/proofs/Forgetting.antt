-- What sweeps take away: elements of requests that have ended.
use Rattle.std.proofs.Common.{◌≡◌, ◌⊎◌, inl, inr, ◌==◌, ◌≤◌, ◌<◌, ℕ, zero, suc, Bool, true, false, nat_le, cond, Option, Some, None, List, [], ◌∷◌, ◌++◌, length, refl, sym, ◌∙◌, ap, arith}
use Rattle.std.specs.List.{AllByRecursion}
use Rattle.std.proofs.lemmas.Bool.Decides.{nat_tests}
use Rattle.tp_store.specs.declared.element.Element.{Element}
use Rattle.tp_store.specs.declared.ends.TheConstants.{FORGET_STEPS}
use Rattle.tp_store.specs.Elements.{Entry, element_at, family_of, first_in, is_alive, is_group, without}
use Rattle.tp_store.specs.Ends.{ended_in, forget, forget_first, forget_one, is_over, Shelved}
use Rattle.tp_store.specs.Soundness.{HasEnded, IsSound, IsSoundElement}
use Rattle.tp_store.specs.State.{State, swept, with_end}
use Rattle.tp_store.specs.Shelves.{AreSorted}
use Rattle.tp_store.proofs.Looking.{first_is, without_looks, without_sorted}
use Rattle.tp_store.proofs.Overs.{over_from, over_means}

-- the store has these elements and these requests that ended
abbrev pub with_shelf : State → Shelved → State
with_shelf s k = record s { elements = k.elements; ended = k.ended }

-- some elements of requests that are over have been forgotten, and nothing else has changed
pub record Loses (old new : State) : Type 0 where
  pub limits : new.limits ≡ old.limits
  pub next : new.next ≡ old.next
  pub units : new.units ≡ old.units
  pub tally : new.tally ≡ old.tally
  pub stays : (id : ℕ) (e : Element) → element_at id old.elements ≡ Some e → (element_at id new.elements ≡ Some e) ⊎ ((element_at id new.elements ≡ None) × (is_over e.root old.elements ≡ true))
  pub known : (id : ℕ) (e : Element) → element_at id new.elements ≡ Some e → element_at id old.elements ≡ Some e
  pub sound : IsSound new

pub loses_none : (s : State) → IsSound s → Loses s s
loses_none s sound = record { limits = refl; next = refl; units = refl; tally = refl; stays = λ id e found. inl found; known = λ id e found. found; sound = sound }

-- what is over is over where fewer elements are known
pub fewer_over : (root : ℕ) (es ns : List Entry) → AreSorted ns → ((id : ℕ) (e : Element) → element_at id ns ≡ Some e → element_at id es ≡ Some e) → is_over root es ≡ true → is_over root ns ≡ true
fewer_over root es ns sorted known over = over_from root ns sorted (λ id e found same. over_means root es over id e (known id e found) same)

fewer_ended : (s t : State) (roots : List ℕ) → AreSorted t.elements → t.next ≡ s.next → ((id : ℕ) (e : Element) → element_at id t.elements ≡ Some e → element_at id s.elements ≡ Some e) → AllByRecursion (HasEnded s) roots → AllByRecursion (HasEnded t) roots
fewer_ended s t [] sorted next known all = tt
fewer_ended s t (root ∷ roots) sorted next known all = ((let low = all.0.0 in omega arith, fewer_over root s.elements t.elements sorted known all.0.1), fewer_ended s t roots sorted next known all.1)

-- an element that was sound is so where more numbers are drawn
pub sound_later : (s t : State) (id : ℕ) (e : Element) → s.next ≤ t.next → s.units ≤ t.units → IsSoundElement s id e → IsSoundElement t id e
sound_later s t id e next units is = record {
  drawn = let low = is.drawn in omega arith;
  root = is.root;
  rounds = is.rounds;
  made_by = λ u h. let low = is.made_by u h in omega arith;
  taken_by = λ u h. let low = is.taken_by u h in omega arith;
  reply = is.reply;
}

-- losing twice
pub loses_both : (a b c : State) → IsSound a → Loses a b → Loses b c → Loses a c
loses_both a b c first one two = record {
  limits = two.limits ∙ one.limits;
  next = two.next ∙ one.next;
  units = two.units ∙ one.units;
  tally = two.tally ∙ one.tally;
  stays = λ id e found. go id e (one.stays id e found);
  known = λ id e found. one.known id e (two.known id e found);
  sound = two.sound;
}
  where
    unknown : (id : ℕ) (x : Option Element) → element_at id c.elements ≡ x → element_at id b.elements ≡ None → element_at id c.elements ≡ None
    unknown id None h none = h
    unknown id (Some e) h none = let was = two.known id e h in absurd cc

    -- what is over where some are forgotten was over before
    was_over : (root : ℕ) → is_over root b.elements ≡ true → is_over root a.elements ≡ true
    was_over root over = over_from root a.elements first.sorted (λ id e found same. at id e found same (one.stays id e found))
      where
        at : (id : ℕ) (e : Element) → element_at id a.elements ≡ Some e → e.root ≡ root → (element_at id b.elements ≡ Some e) ⊎ ((element_at id b.elements ≡ None) × (is_over e.root a.elements ≡ true)) → is_alive e.status ≡ false
        at id e found same (inl there) = over_means root b.elements over id e there same
        at id e found same (inr gone) = over_means e.root a.elements gone.1 id e found refl

    go : (id : ℕ) (e : Element) → (element_at id b.elements ≡ Some e) ⊎ ((element_at id b.elements ≡ None) × (is_over e.root a.elements ≡ true)) → (element_at id c.elements ≡ Some e) ⊎ ((element_at id c.elements ≡ None) × (is_over e.root a.elements ≡ true))
    go id e (inl found) = again (two.stays id e found)
      where
        again : (element_at id c.elements ≡ Some e) ⊎ ((element_at id c.elements ≡ None) × (is_over e.root b.elements ≡ true)) → (element_at id c.elements ≡ Some e) ⊎ ((element_at id c.elements ≡ None) × (is_over e.root a.elements ≡ true))
        again (inl there) = inl there
        again (inr gone) = inr (gone.0, was_over e.root gone.1)
    go id e (inr gone) = inr (unknown id (element_at id c.elements) refl gone.0, gone.1)

-- an element of the first request that ended is forgotten
loses_one : (s : State) (id root : ℕ) (e : Element) → IsSound s → element_at id s.elements ≡ Some e → e.root ≡ root → is_over root s.elements ≡ true → Loses s (record s { elements = without id s.elements })
loses_one s id root e sound found same over = record {
  limits = refl;
  next = refl;
  units = refl;
  tally = refl;
  stays = stays;
  known = known;
  sound = record {
    sorted = sorted;
    each = λ q d found. sound_later s new q d (omega arith) (omega arith) (sound.each q d (known q d found));
    ended = fewer_ended s new s.ended sorted refl known sound.ended;
  };
}
  where
    new : State
    new = record s { elements = without id s.elements }

    sorted : AreSorted (without id s.elements)
    sorted = without_sorted id s.elements sound.sorted

    looks : (q : ℕ) → element_at q (without id s.elements) ≡ cond (id == q) None (element_at q s.elements)
    looks = without_looks id s.elements sound.sorted

    known : (q : ℕ) (d : Element) → element_at q (without id s.elements) ≡ Some d → element_at q s.elements ≡ Some d
    known q d found = go (id == q) (sym (looks q) ∙ found)
      where
        go : (b : Bool) → cond b None (element_at q s.elements) ≡ Some d → element_at q s.elements ≡ Some d
        go true h = absurd cc
        go false h = h

    stays : (q : ℕ) (d : Element) → element_at q s.elements ≡ Some d → (element_at q (without id s.elements) ≡ Some d) ⊎ ((element_at q (without id s.elements) ≡ None) × (is_over d.root s.elements ≡ true))
    stays q d there = go (id == q) refl
      where
        as_number : (m n : ℕ) → (m == n) ≡ true → m ≡ n
        as_number m n h = grind (arith, nat_tests)

        go : (b : Bool) → (id == q) ≡ b → (element_at q (without id s.elements) ≡ Some d) ⊎ ((element_at q (without id s.elements) ≡ None) × (is_over d.root s.elements ≡ true))
        go true h = inr (looks q ∙ rw h refl, rw (← that) over)
          where
            that : root ≡ d.root
            that = let place = as_number id q h in let both : Some e ≡ Some d = sym found ∙ (ap (λ i. element_at i s.elements) place ∙ there) in cc
        go false h = inl (looks q ∙ rw h there)

-- a request of which no element is left is noted no more
loses_root : (s : State) (root : ℕ) (others : List ℕ) → s.ended ≡ root ∷ others → IsSound s → Loses s (record s { ended = others })
loses_root s root others is sound = record {
  limits = refl;
  next = refl;
  units = refl;
  tally = refl;
  stays = λ id e found. inl found;
  known = λ id e found. found;
  sound = record {
    sorted = sound.sorted;
    each = λ q d found. sound_later s (record s { ended = others }) q d (omega arith) (omega arith) (sound.each q d found);
    ended = (rw is at sound.ended).1;
  };
}

pub in_family : (root r : ℕ) → is_group root (Some r) ≡ true → r ≡ root
in_family root r h = grind (arith, nat_tests)

pub loses_step : (s : State) → IsSound s → Loses s (with_shelf s (forget_one s.limits.keep (record { elements = s.elements; ended = s.ended })))
loses_step s sound = go (nat_le (length s.ended) s.limits.keep) refl s.ended refl
  where
    first : (root : ℕ) (others : List ℕ) → s.ended ≡ root ∷ others → (x : Option Entry) → first_in family_of root 0 s.elements ≡ x → Loses s (with_shelf s (forget_first x others (record { elements = s.elements; ended = s.ended })))
    first root others is (Some x) h = let f = first_is family_of root 0 s.elements sound.sorted x h in loses_one s x.0 root x.1 sound f.found (in_family root x.1.root f.member) (rw is at sound.ended).0.1
    first root others is None h = loses_root s root others is sound

    go : (b : Bool) → nat_le (length s.ended) s.limits.keep ≡ b → (roots : List ℕ) → s.ended ≡ roots → Loses s (with_shelf s (forget_one s.limits.keep (record { elements = s.elements; ended = s.ended })))
    go true h roots is = rw h (loses_none s sound)
    go false h [] is = rw (h, is) (rw (← is) (loses_none s sound))
    go false h (root ∷ others) is = rw (h, is) (rw (← is) (first root others is (first_in family_of root 0 s.elements) refl))

pub loses_steps : (n : ℕ) (s : State) → IsSound s → Loses s (with_shelf s (forget n s.limits.keep (record { elements = s.elements; ended = s.ended })))
unfolding forget
loses_steps zero s sound = loses_none s sound
loses_steps (suc n) s sound =
    let before = loses_steps n s sound in
    loses_both s _ _ sound before (loses_step _ before.sound)

-- a sweep
pub loses_swept : (s : State) → IsSound s → Loses s (swept s)
loses_swept s sound = loses_steps FORGET_STEPS s sound

-- a request that has come is noted, where it is over
pub loses_end : (root : ℕ) (s : State) → root < s.next → IsSound s → Loses s (with_end root s)
loses_end root s low sound = record {
  limits = refl;
  next = refl;
  units = refl;
  tally = refl;
  stays = λ id e found. inl found;
  known = λ id e found. found;
  sound = record {
    sorted = sound.sorted;
    each = λ q d found. sound_later s (with_end root s) q d (omega arith) (omega arith) (sound.each q d found);
    ended = go (is_over root s.elements) refl;
  };
}
  where
    ended_more : (roots : List ℕ) → is_over root s.elements ≡ true → AllByRecursion (HasEnded s) roots → AllByRecursion (HasEnded s) (roots ++ root ∷ [])
    ended_more [] over all = ((low, over), tt)
    ended_more (r ∷ roots) over all = (all.0, ended_more roots over all.1)

    go : (b : Bool) → is_over root s.elements ≡ b → AllByRecursion (HasEnded (with_end root s)) (ended_in root s.elements s.ended)
    go true over = rw over (ended_more s.ended over sound.ended)
    go false over = rw over sound.ended
