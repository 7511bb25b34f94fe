-- The account of a store behind births, a change, and what is forgotten.
use Rattle.std.proofs.Common.{◌≡◌, ◌⊎◌, inl, inr, ◌==◌, ◌≤◌, ◌<◌, ◌+◌, ◌-◌, ◌^◌, ℕ, zero, suc, Bool, true, false, nat_le, cond, Option, Some, None, List, [], ◌∷◌, length, slice_get, refl, sym, ◌∙◌, ap, subst, arith}
use Rattle.std.specs.List.{AllByRecursion}
use Rattle.std.proofs.lemmas.Bool.Decides.{nat_tests}
use Rattle.tp_model.specs.Drafts.{DraftView}
use Rattle.tp_store.specs.declared.births.Origin.{Origin}
use Rattle.tp_store.specs.declared.element.Element.{Element}
use Rattle.tp_store.specs.declared.element.TheConstants.{LAST_STAGE}
use Rattle.tp_store.specs.declared.ends.TheConstants.{FORGET_STEPS}
use Rattle.tp_store.specs.Counting.{tallied_births, TallyView}
use Rattle.tp_store.specs.Elements.{Entry, element_at, family_of, first_in, put}
use Rattle.tp_store.specs.Ends.{forget, forget_first, forget_one}
use Rattle.tp_store.specs.Runs.{Call, Commit}
use Rattle.tp_store.specs.Soundness.{IsSound}
use Rattle.tp_store.specs.State.{State, made, put_all, swept, with_births, with_change, with_end}
use Rattle.tp_store.proofs.Accounting.{IsTold, IsTurn, told_birth, told_change, told_without}
use Rattle.tp_store.specs.Restoring.{is_attempt, is_root}
use Rattle.tp_store.proofs.Settling.{HasPlace, IsSettled, settled_birth, settled_change, settled_without}
use Rattle.tp_store.proofs.Changing.{all_found, index_below, with_units}
use Rattle.tp_store.specs.Shelves.{AreSorted}
use Rattle.tp_store.proofs.Forgetting.{in_family, loses_end, loses_steps, with_shelf}
use Rattle.tp_store.proofs.Looking.{first_is, put_looks, put_sorted, without_looks}
use Rattle.tp_store.proofs.Overs.{over_means}

pub as_number : (m n : ℕ) → (m == n) ≡ true → m ≡ n
as_number m n h = grind (arith, nat_tests)

-- the account of a store, whose elements are of stages that there are, from the least one on
pub record Accounted (low : ℕ) (s : State) : Type 0 where
  pub told : IsTold s.next s.tally s.elements
  pub each : (id : ℕ) (e : Element) → element_at id s.elements ≡ Some e → HasPlace low id e
  pub settled : IsSettled low s.tally s.elements

-- the drafts of a call are of stages that there are, from the least one on
abbrev pub HasStagesFrom : ℕ → Call → Type 0
HasStagesFrom low (Commit id unit drafts) = AllByRecursion (λ d. (low ≤ d.stage) × (d.stage ≤ LAST_STAGE)) drafts
HasStagesFrom low other = Unit {0}

module _ (low : ℕ) where
  -- ---- births

  told_births : (from : Origin) (ds : List DraftView) (next : ℕ) (t : TallyView) (es : List Entry) → AreSorted es → ((i : ℕ) → next ≤ i → element_at i es ≡ None) → AllByRecursion (λ d. (low ≤ d.stage) × (d.stage ≤ LAST_STAGE)) ds → next + length ds < 2 ^ 64 - 1 → IsTold next t es → IsSettled low t es → IsTold (next + length ds) (tallied_births ds t) (put_all next from ds es) × IsSettled low (tallied_births ds t) (put_all next from ds es)
  told_births from [] next t es sorted none stages few told settled = (subst (λ n. IsTold n t es) (omega arith) told, settled)
  told_births from (d ∷ ds) next t es sorted none stages few told settled =
      let rest = told_births from ds (next + 1) _ (put next (made from d) es) (put_sorted next (made from d) es sorted) (λ i low. put_looks next (made from d) es i ∙ rw (above next i low) (none i (omega arith))) stages.1 (omega arith) (told_birth next t es next (made from d) sorted (none next (omega arith)) refl stages.0.1 (omega arith) told) (settled_birth low next t es next (made from d) sorted (none next (omega arith)) refl stages.0.0 stages.0.1 (omega arith) told settled) in
      (subst (λ n. IsTold n (tallied_births (d ∷ ds) t) (put_all next from (d ∷ ds) es)) (omega arith) rest.0, rest.1)
    where
      above : (m n : ℕ) → m + 1 ≤ n → (m == n) ≡ false
      above m n h = grind (arith, nat_tests)

  unborn : (s : State) → IsSound s → (i : ℕ) → s.next ≤ i → element_at i s.elements ≡ None
  unborn s sound i low = go (element_at i s.elements) refl
    where
      go : (x : Option Element) → element_at i s.elements ≡ x → element_at i s.elements ≡ None
      go None h = h
      go (Some e) h = absurd (let drawn = (sound.each i e h).drawn in omega arith)

  stage_at : (ds : List DraftView) (n : ℕ) (d : DraftView) → AllByRecursion (λ d. (low ≤ d.stage) × (d.stage ≤ LAST_STAGE)) ds → slice_get ds n ≡ Some d → (low ≤ d.stage) × (d.stage ≤ LAST_STAGE)
  stage_at [] n d all at = absurd (let low = index_below [] n d at in omega arith)
  stage_at (x ∷ ds) zero d all at = let h : Some x ≡ Some d = at in let same : x ≡ d = cc in subst (λ (y : DraftView). (low ≤ y.stage) × (y.stage ≤ LAST_STAGE)) same all.0
  stage_at (x ∷ ds) (suc n) d all at = stage_at ds n d all.1 at

  pub acc_births : (from : Origin) (ds : List DraftView) (s : State) → IsSound s → AllByRecursion (λ d. (low ≤ d.stage) × (d.stage ≤ LAST_STAGE)) ds → ((n : ℕ) → n < length ds → is_root (s.next + n) from.by from.root ≡ true) → s.next + length ds < 2 ^ 64 - 1 → Accounted low s → Accounted low (with_births from ds s)
  acc_births from ds s sound stages roots few acc =
      let births = told_births from ds s.next s.tally s.elements sound.sorted (unborn s sound) stages few acc.told acc.settled in
      record { told = births.0; each = λ id e found. go id e (all_found from s.next ds s.elements id e found); settled = births.1 }
    where
      go : (id : ℕ) (e : Element) → (element_at id s.elements ≡ Some e) ⊎ ((n : ℕ) × (d : DraftView) × (slice_get ds n ≡ Some d) × (id ≡ s.next + n) × (e ≡ made from d)) → HasPlace low id e
      go id e (inl was) = acc.each id e was
      go id e (inr (n, d, at, place, is)) = let stage = stage_at ds n d stages at in rw is (record { from = stage.0; stage = stage.1; root = rw place (roots n (index_below ds n d at)); attempt = refl })

  -- ---- a change

  pub acc_change : (s : State) (units id : ℕ) (old new : Element) → IsSound s → s.next < 2 ^ 64 - 1 → Accounted low s → element_at id s.elements ≡ Some old → new ≡ record old { status = new.status; rounds = new.rounds; earlier = new.earlier } → is_attempt new.status ≡ true → IsTurn old.status new.status → Accounted low (with_units units (with_change id old new s))
  acc_change s units id old new sound few acc found contents attempt turn = record {
    told = told_change s.next s.tally s.elements id old new sound.sorted found stage_same was.stage turn few acc.told;
    each = λ q e there. go q e (id == q) refl (sym (put_looks id new s.elements q) ∙ there);
    settled = settled_change low s.next s.tally s.elements id old new sound.sorted found stage_same was.from was.stage turn few acc.told acc.settled;
  }
    where
      was : HasPlace low id old
      was = acc.each id old found

      stage_same : new.stage ≡ old.stage
      stage_same = ap (λ (x : Element). x.stage) contents

      now : HasPlace low id new
      now = record { from = rw stage_same was.from; stage = rw stage_same was.stage; root = rw (ap (λ (x : Element). x.by) contents, ap (λ (x : Element). x.root) contents) was.root; attempt = attempt }

      go : (q : ℕ) (e : Element) (b : Bool) → (id == q) ≡ b → cond b (Some new) (element_at q s.elements) ≡ Some e → HasPlace low q e
      go q e true h same = let there : Some new ≡ Some e = same in let is : new ≡ e = cc in subst (λ i. HasPlace low i e) (as_number id q h) (subst (HasPlace low id) is now)
      go q e false h same = acc.each q e same

  -- ---- what is forgotten

  acc_step : (s : State) → IsSound s → Accounted low s → Accounted low (with_shelf s (forget_one s.limits.keep (record { elements = s.elements; ended = s.ended })))
  acc_step s sound acc = go (nat_le (length s.ended) s.limits.keep) refl s.ended refl
    where
      first : (root : ℕ) (others : List ℕ) → s.ended ≡ root ∷ others → (x : Option Entry) → first_in family_of root 0 s.elements ≡ x → Accounted low (with_shelf s (forget_first x others (record { elements = s.elements; ended = s.ended })))
      first root others is (Some x) h =
          let f = first_is family_of root 0 s.elements sound.sorted x h in
          record {
            told = told_without s.next s.tally s.elements x.0 x.1 f.found (over_means root s.elements (rw is at sound.ended).0.1 x.0 x.1 f.found (in_family root x.1.root f.member)) acc.told;
            each = λ q e there. still q e (x.0 == q) (sym (without_looks x.0 s.elements sound.sorted q) ∙ there);
            settled = settled_without low s.tally s.elements x.0 x.1 f.found acc.settled;
          }
        where
          still : (q : ℕ) (e : Element) (b : Bool) → cond b None (element_at q s.elements) ≡ Some e → HasPlace low q e
          still q e true same = absurd cc
          still q e false same = acc.each q e same
      first root others is None h = record { told = acc.told; each = acc.each; settled = acc.settled }

      go : (b : Bool) → nat_le (length s.ended) s.limits.keep ≡ b → (roots : List ℕ) → s.ended ≡ roots → Accounted low (with_shelf s (forget_one s.limits.keep (record { elements = s.elements; ended = s.ended })))
      go true h roots is = rw h acc
      go false h [] is = rw (h, is) (record { told = acc.told; each = acc.each; settled = acc.settled })
      go false h (root ∷ others) is = rw (h, is) (rw (← is) (first root others is (first_in family_of root 0 s.elements) refl))

  pub acc_steps : (n : ℕ) (s : State) → IsSound s → Accounted low s → Accounted low (with_shelf s (forget n s.limits.keep (record { elements = s.elements; ended = s.ended })))
  unfolding forget
  acc_steps zero s sound acc = acc
  acc_steps (suc n) s sound acc = acc_step _ (loses_steps n s sound).sound (acc_steps n s sound acc)

  pub acc_end : (root : ℕ) (s : State) → IsSound s → root < s.next → Accounted low s → Accounted low (swept (with_end root s))
  acc_end root s sound low acc = acc_steps FORGET_STEPS (with_end root s) (loses_end root s low sound).sound (record { told = acc.told; each = acc.each; settled = acc.settled })
