-- What a commit makes, and what it leaves.
use Rattle.std.proofs.Common.{◌≡◌, ℕ, suc, ◌+◌, ◌<◌, ◌≤◌, ◌==◌, nat_lt, Bool, true, false, cond, if◌then◌else◌, Option, Some, None, List, [], ◌∷◌, ◌++◌, map, length, slice_set, refl, sym, ◌∙◌, ap, subst, inl, inr, ⊎_elim, arith}
use Rattle.std.proofs.lemmas.Bool.{eqb-true}
use Rattle.std.proofs.lemmas.List.{map-append}
use Rattle.std.specs.List.{find, All, Contains}
use Rattle.tp_model.specs.Drafts.{DraftView}
use Rattle.tp_model.specs.declared.types.Element.{Element}
use Rattle.tp_model.specs.declared.types.Limits.{Limits}
use Rattle.tp_model.specs.declared.types.Look.{Look}
use Rattle.tp_plain.specs.declared.pass_state.PassState.{PassState}
use Rattle.tp_model.specs.declared.types.Status.{Status}
use Rattle.tp_model.specs.declared.types.Status.TheVariants.{Waiting, Held, Consumed, Parked, Killed}
use Rattle.tp_model.specs.declared.event.Event.{Event}
use Rattle.tp_model.specs.declared.event.Event.TheVariants.{Commit}
use Rattle.tp_model.specs.History.{In, IsUnborn, born, element_of, UnitClaim, UnitEnd, Committed, Aborted, claim_by, claim_of, end_of, first_id, status_of}
use Rattle.tp_model.specs.Words.{ClaimWord, FreeWord, TakenWord, KilledWord, AgainWord, claim_word, taken_status, word_status}
use Rattle.tp_model.specs.Steps.{AreOutputs, IsOpen, MayUse, Step, IsLegal}
use Rattle.tp_model.proofs.Bridges.{in_cons, in_none}
use Rattle.std.proofs.lemmas.List.Elements.{All-head, All-tail}
use Rattle.tp_plain.specs.Computed.{commit_of}
use Rattle.tp_model.specs.declared.types.Outcome.TheVariants as outcome
use Rattle.tp_plain.proofs.Computations.{commit_goes}
use Rattle.tp_model.specs.Births.{IsWhole, outputs}
use Rattle.tp_plain.specs.OneThread.{root_of, State, pass_at, freed_after_use, PlainCommits, HasPlainRoom, ready, with_draw}
use Rattle.tp_plain.specs.Reached.{PassFits, IsReachable}
use Rattle.tp_plain.specs.Looks.{look_at, look_after, fresh_look, is_held_by}
use Rattle.tp_model.proofs.Lists.{first-snoc, if_other, none_if}
use Rattle.tp_model.proofs.Outputs.{length-outputs}
use Rattle.tp_model.proofs.Histories.{open_before, born_once}
use Rattle.tp_model.proofs.WordProofs.{WordIsClaimed, word_claimed, status_by_words}
use Rattle.tp_plain.proofs.PassStates.{fits_ready, reached_used}
use Rattle.tp_plain.proofs.Rooms.{may_use, run_used}
use Rattle.tp_plain.proofs.PlainLemmas.{find-passes, looks_after}
use Rattle.tp_plain.proofs.Claims.{mapped, found_contains}
use Rattle.tp_plain.proofs.UnitEnds.{open_of}

are_outputs : (l : Limits) (h : List Event) (c u root id : ℕ) (ds : List DraftView) → All IsWhole ds → ((i : ℕ) → id ≤ i → i < id + length ds → MayUse l h c i × IsUnborn h i) → AreOutputs l h c u root id (outputs u root id ds)
are_outputs l h c u root id [] whole rows = tt
are_outputs l h c u root id (d ∷ ds) whole rows = (
  record { place = refl; row = (rows id (omega arith) (omega arith)).0; unborn = (rows id (omega arith) (omega arith)).1; stage = (All-head IsWhole d ds whole).0; body = (All-head IsWhole d ds whole).1; by = refl; root_is = refl },
  are_outputs l h c u root (id + 1) ds (All-tail IsWhole d ds whole) (λ i low high. rows i (omega arith) (omega arith)),
)

-- and with the first id as the history says it
are_outputs_from : (l : Limits) (h : List Event) (c u root id : ℕ) (ds : List DraftView) → AreOutputs l h c u root id (outputs u root id ds) → AreOutputs l h c u root (first_id (outputs u root id ds)) (outputs u root id ds)
are_outputs_from l h c u root id [] are = tt
are_outputs_from l h c u root id (d ∷ ds) are = are

outputs_in : (u root id : ℕ) (ds : List DraftView) (x : Element) → In x (outputs u root id ds) → (id ≤ x.id) × (x.id < id + length ds)
outputs_in u root id [] x p = absurd (in_none p)
outputs_in u root id (d ∷ ds) x p = ⊎_elim
    (λ now. let at = ap (λ (z : Element). z.id) now in (omega arith, omega arith))
    (λ later. let t = outputs_in u root (id + 1) ds x later in let low = t.0 in let high = t.1 in (omega arith, omega arith)) (in_cons p)

-- a unit that holds an element claimed it
pub held_claimed : (l : Limits) (h : List Event) (i u n : ℕ) → IsLegal l h → status_of l.attempts h i ≡ Held u n → (t : UnitClaim) × (claim_of h u ≡ Some t) × (t.item ≡ i)
held_claimed l h i u n legal is = go (claim_word h i) (sym (status_by_words l h i legal) ∙ is) (word_claimed l h i legal)
  where
    at_unit : (m v : ℕ) (x : Option UnitEnd) → taken_status l.attempts m v x ≡ Held u n → v ≡ u
    at_unit m v None e = cc (e)
    at_unit m v (Some (Committed a b)) e = absurd (cc (e))
    at_unit m v (Some Aborted) e = absurd (either (nat_lt m l.attempts) e)
      where
        either : (b : Bool) → cond b (Waiting m) (Parked m) ≡ Held u n → ⊥
        either true e = cc (e)
        either false e = cc (e)

    go : (w : ClaimWord) → word_status l.attempts h w ≡ Held u n → WordIsClaimed h i w → (t : UnitClaim) × (claim_of h u ≡ Some t) × (t.item ≡ i)
    go FreeWord e c = absurd (cc (e))
    go (TakenWord m v r) e c = let same = at_unit m v (end_of h v) e in subst (λ k. (t : UnitClaim) × (claim_of h k ≡ Some t) × (t.item ≡ i)) same c
    go (KilledWord m v r) e c = absurd (cc (e))
    go (AgainWord r) e c = absurd (cc (e))

fits_commit : (l : Limits) (h : List Event) (drawn c u root : ℕ) (ds : List DraftView) (used : PassState) → PassFits l h drawn c used → used.holding ≡ Some u → length ds ≤ used.left
    → PassFits l (h ++ Commit c u (outputs u root used.next ds) ∷ []) drawn c (freed_after_use used (length ds))
fits_commit l h drawn c u root ds used fits hand room =
    let outs = outputs u root used.next ds in
    let e : Event = Commit c u outs in
    record {
      run = run_used l h drawn c used.next used.left fits.run (length ds) room e refl (λ x p. (outputs_in u root used.next ds x p).1);
      claimed = fits.claimed;
      unclaimed = λ v low high. first-snoc (claim_by v) h e ∙ rw (fits.unclaimed v low high) refl;
      holding = λ v t is own.
          elim (open_before h e v t is) [
            | inl by ↦ absurd (cc (by))
            | inr old ↦ absurd (none_if u v (Committed (first_id outs) (length outs)) old.1 (let other = fits.holding v t old.0 own in cc))
          ];
      held = λ v none whole. absurd (cc (none));
    }

-- the looks that are fresh stay as they are
fresh_kept : (limit c u : ℕ) (outs es : List Element) → map (look_after limit (Commit c u outs)) (map fresh_look es) ≡ map fresh_look es
fresh_kept limit c u outs [] = refl
fresh_kept limit c u outs (e ∷ es) = ap (λ r. fresh_look e ∷ r) (fresh_kept limit c u outs es)

looks_committed : (l : Limits) (h : List Event) (c u : ℕ) (outs : List Element) (looks : List Look) → IsLegal l h → Step l h (Commit c u outs) → looks ≡ map (look_at l.attempts h) (born h)
    → map (look_after l.attempts (Commit c u outs)) (looks ++ map fresh_look outs) ≡ map (look_at l.attempts (h ++ Commit c u outs ∷ [])) (born (h ++ Commit c u outs ∷ []))
looks_committed l h c u outs looks legal step agree =
    map-append (look_after l.attempts (Commit c u outs)) looks (map fresh_look outs)
    ∙ ((λ i. map (look_after l.attempts (Commit c u outs)) (agree i) ++ fresh_kept l.attempts c u outs outs i)
    ∙ sym (looks_after l h (Commit c u outs) legal step))

module _ (s : State) (looks : List Look) (c : ℕ) (reached : IsReachable s) (agree : looks ≡ map (look_at s.limits.attempts s.history) (born s.history)) (is_pass : c < s.limits.parts)
    (u : ℕ) (look : Look) (is : find (λ (l : Look). is_held_by u l.status) looks ≡ Some look) (ds : List DraftView) (whole : All IsWhole ds) (few : length ds ≤ 4) where
  abbrev l : Limits
  l = s.limits

  abbrev h : List Event
  h = s.history

  abbrev pub the_outputs : PassState → List Element
  the_outputs x = outputs u look.element.root x.next ds

  abbrev pub committed_state : PassState → ℕ → State
  committed_state x drawn = record { limits = l; history = h ++ Commit c u (the_outputs x) ∷ []; passes = slice_set s.passes c (freed_after_use x (length ds)); drawn = drawn }

  abbrev pub CommitLeft : PassState → ℕ → Type 0
  CommitLeft x drawn =
      IsReachable (committed_state x drawn)
      × (map (look_after l.attempts (Commit c u (the_outputs x))) (looks ++ map fresh_look (the_outputs x)) ≡ map (look_at l.attempts (h ++ Commit c u (the_outputs x) ∷ [])) (born (h ++ Commit c u (the_outputs x) ∷ [])))
      × ((pass_at s c).holding ≡ Some u)
      × PlainCommits s c u ds (if length ds == 0 then 0 else x.next) (length ds) (committed_state x drawn)
      × (commit_of s c ds ≡ (outcome.Committed (if length ds == 0 then 0 else x.next) (length ds), committed_state x drawn))

  -- the element in the unit's hand
  the_item : (t : UnitClaim) → IsOpen h u t → element_of h t.item ≡ Some look.element
  the_item t is_open =
      let m = mapped (look_at l.attempts h) (born h) look (subst (λ ls. Contains ls look) agree (found_contains (λ (l : Look). is_held_by u l.status) looks look is)) in
      let holds = held (look.status) (find-passes (λ (l : Look). is_held_by u l.status) looks look is) in
      let status : status_of l.attempts h (m.0).id ≡ Held u holds.0 = ap (λ (l : Look). l.status) m.2 ∙ holds.1 in
      let claim = held_claimed l h (m.0).id u holds.0 reached.legal status in
      let same_taking : claim.0 ≡ t = let one = claim.1 in let two = is_open.claimed in cc in
      let id : t.item ≡ (m.0).id = ap (λ (t : UnitClaim). t.item) (sym same_taking) ∙ claim.2 in
      ap (element_of h) id ∙ (born_once l h reached.legal m.0 m.1 ∙ ap (λ (l : Look). Some l.element) m.2)
    where
      held : (st : Status) → is_held_by u st ≡ true → (n : ℕ) × (st ≡ Held u n)
      held (Waiting n) e = absurd (cc (e))
      held (Held v n) e = (n, ap (λ k. Held k n) (sym (eqb-true u v e)))
      held (Consumed v) e = absurd (cc (e))
      held (Parked n) e = absurd (cc (e))
      held Killed e = absurd (cc (e))

  pub left_by_commit : (pass_at s c).holding ≡ Some u → HasPlainRoom s c (length ds) → CommitLeft (ready s c (length ds)) (with_draw s c (length ds)).drawn
  left_by_commit hand room =
      let x = ready s c (length ds) in
      let drawn = (with_draw s c (length ds)).drawn in
      let fits : PassFits l h drawn c x = fits_ready s c (length ds) reached is_pass in
      let o = open_of s looks reached agree c u is_pass hand look is in
      let step : Step l h (Commit c u (the_outputs x)) =
      record {
        taking = o.0;
        open_unit = o.1;
        own = o.2;
        item = look.element;
        taken = the_item o.0 o.1;
        few = rw (length-outputs u look.element.root x.next ds) few;
        outputs = are_outputs_from l h c u look.element.root x.next ds
            (are_outputs l h c u look.element.root x.next ds whole (λ i low high. (may_use l h drawn c x.next x.left fits.run is_pass i low (omega arith), fits.run.unborn i low (omega arith))));
      } in
      let own = fits_commit l h drawn c u look.element.root ds x fits hand room in
      let root : root_of h u ≡ look.element.root = rw (o.1.claimed, the_item o.0 o.1) refl in (
        reached_used s c (length ds) reached is_pass (Commit c u (the_outputs x)) (freed_after_use x (length ds)) step refl own (omega arith)
            (λ y p. let t = outputs_in u look.element.root x.next ds y p in let low = t.0 in let high = t.1 in (omega arith, omega arith)),
        looks_committed l h c u (the_outputs x) looks reached.legal step agree,
        hand,
        record { room = room; count_is = refl; first_is = refl; step = rw root step; after = rw root refl },
        commit_goes s c u ds hand o.1.unfinished room ∙ rw root refl,
      )

  pub commit_leaves : (used : PassState) (drawn : ℕ) → used ≡ ready s c (length ds) → drawn ≡ (with_draw s c (length ds)).drawn → used.holding ≡ Some u → length ds ≤ used.left → CommitLeft used drawn
  commit_leaves used drawn at count hand room =
      subst (λ d. CommitLeft used d) (sym count)
      (subst (λ (x : PassState). x.holding ≡ Some u → length ds ≤ x.left → CommitLeft x (with_draw s c (length ds)).drawn) (sym at) left_by_commit hand room)
