-- How units end: what an abort finds, and what it leaves.
use Rattle.std.proofs.Common.{◌≡◌, ◌⊎◌, ℕ, ◌<◌, ◌≤◌, ◌==◌, nat_lt, ◌&&◌, Bool, true, false, cond, Option, Some, None, List, [], ◌∷◌, ◌++◌, map, length, slice_index_or, slice_set, refl, sym, ◌∙◌, ap, subst, inl, inr, arith, ◌+◌, ◌-◌, ◌*◌, ◌≢◌, mul-le-mul_right}
use Rattle.std.proofs.lemmas.Bool.{eqb-true, eq-eqb, ltb-false}
use Rattle.std.proofs.lemmas.Bool.Decides.{eqb_tells}
use Rattle.std.proofs.lemmas.List.{get_or_read, get_or-set_same, get_or-set_other, length-set, set-set}
use Rattle.std.specs.List.{find, Contains}
use Rattle.std.proofs.lemmas.List.Elements.{Contains-append_cases}
use Rattle.tp_model.specs.declared.types.Element.{Element}
use Rattle.tp_model.specs.declared.types.Limits.{Limits}
use Rattle.tp_model.specs.declared.types.Look.{Look}
use Rattle.tp_plain.specs.declared.pass_state.PassState.{PassState}
use Rattle.tp_model.specs.declared.types.Status.{Status}
use Rattle.tp_model.specs.declared.types.Status.TheVariants.{Waiting, Held, Consumed, Parked, Killed}
use Rattle.tp_model.specs.declared.event.Event.{Event}
use Rattle.tp_model.specs.declared.event.Event.TheVariants.{Enqueue, Claim, Commit, Abort, Kill, Requeue}
use Rattle.tp_model.specs.History.{born, element_of, UnitClaim, UnitEnd, Committed, Aborted, claim_by, claim_of, end_of, status_of}
use Rattle.tp_model.specs.Words.{ClaimWord, FreeWord, TakenWord, KilledWord, AgainWord, claim_word, taken_status, word_status}
use Rattle.tp_model.specs.Steps.{IsOpen, Step, IsLegal, max_rows}
use Rattle.tp_model.specs.declared.types.TheConstants.{BLOCK_ROWS}
use Rattle.tp_model.proofs.Areas.{area_inside}
use Rattle.tp_plain.specs.Computed.{abort_of}
use Rattle.tp_model.specs.declared.types.Ended.TheVariants as ended
use Rattle.tp_plain.proofs.Computations.{abort_goes}
use Rattle.tp_plain.specs.OneThread.{State, no_pass, pass_at, moved, with_pass, ready, with_draw, HasPlainRoom, IsFull, freed, freed_after_use}
use Rattle.tp_plain.specs.Reached.{PassFits, IsReachable, RunFits}
use Rattle.tp_plain.specs.Looks.{look_at, look_after, is_held_by}
use Rattle.tp_model.proofs.Lists.{first-snoc, option_or-some, some_if, none_if}
use Rattle.tp_model.proofs.Histories.{by_steps, element_of-kept, open_before, open_holds}
use Rattle.tp_model.proofs.WordProofs.{status_by_words}
use Rattle.tp_plain.proofs.PassStates.{after_draw, end_at, ends_still, fits_ready, reached_moved, reached_ready, ready_at}
use Rattle.tp_plain.proofs.Rooms.{run_area, run_passed, run_quiet}
use Rattle.tp_plain.proofs.PlainLemmas.{find-passes}
use Rattle.tp_model.proofs.Bridges.{element_of-id, in_none}
use Rattle.tp_plain.proofs.Claims.{mapped, map_contains, found_contains, looks_changed, one_of}

-- a unit that holds an element is undecided
pub held_undecided : (l : Limits) (h : List Event) (i u n : ℕ) → IsLegal l h → status_of l.attempts h i ≡ Held u n → end_of h u ≡ None
held_undecided l h i u n legal is = go (claim_word h i) (sym (status_by_words l h i legal) ∙ is)
  where
    at_unit : (m v : ℕ) (x : Option UnitEnd) → taken_status l.attempts m v x ≡ Held u n → (x ≡ None) × (v ≡ u)
    at_unit m v None e = (refl, cc (e))
    at_unit m v (Some (Committed a b)) e = absurd (cc (e))
    at_unit m v (Some Aborted) e = absurd (either (nat_lt m l.attempts) e)
      where
        either : (b : Bool) → cond b (Waiting m) (Parked m) ≡ Held u n → ⊥
        either true e = cc (e)
        either false e = cc (e)

    go : (w : ClaimWord) → word_status l.attempts h w ≡ Held u n → end_of h u ≡ None
    go FreeWord e = absurd (cc (e))
    go (TakenWord m v r) e = let at = at_unit m v (end_of h v) e in subst (λ k. end_of h k ≡ None) at.1 at.0
    go (KilledWord m v r) e = absurd (cc (e))
    go (AgainWord r) e = absurd (cc (e))

-- what a unit claimed is born
claimed_after : (l : Limits) (h : List Event) (e : Event) → Step l h e → (u : ℕ) (t : UnitClaim) → claim_by u e ≡ Some t → (x : Element) × (element_of h t.item ≡ Some x)
claimed_after l h (Enqueue c x) step u t is = absurd (cc (is))
claimed_after l h (Claim c v i n) step u t is =
    let q = some_if v u (record { pass = c; item = i; attempt = n }) t is in
    (step.item, ap (element_of h) (ap (λ (t : UnitClaim). t.item) (sym q.1)) ∙ step.born)
claimed_after l h (Commit c v outs) step u t is = absurd (cc (is))
claimed_after l h (Abort c v) step u t is = absurd (cc (is))
claimed_after l h (Kill c i) step u t is = absurd (cc (is))
claimed_after l h (Requeue c i k) step u t is = absurd (cc (is))

pub claimed_born : (l : Limits) (h : List Event) → IsLegal l h → (u : ℕ) (t : UnitClaim) → claim_of h u ≡ Some t → (x : Element) × (element_of h t.item ≡ Some x)
claimed_born l h legal = by_steps l (λ y. (u : ℕ) (t : UnitClaim) → claim_of y u ≡ Some t → (x : Element) × (element_of y t.item ≡ Some x)) (λ u t is. absurd (cc (is))) more h legal
  where
    more : (h : List Event) (e : Event) → IsLegal l h → Step l h e → ((u : ℕ) (t : UnitClaim) → claim_of h u ≡ Some t → (x : Element) × (element_of h t.item ≡ Some x))
        → (u : ℕ) (t : UnitClaim) → claim_of (h ++ e ∷ []) u ≡ Some t → (x : Element) × (element_of (h ++ e ∷ []) t.item ≡ Some x)
    more h e legal step old u t is =
        elim (option_or-some (claim_of h u) (claim_by u e) t (sym (first-snoc (claim_by u) h e) ∙ is)) [
          | inl before ↦ let x = old u t before in (x.0, element_of-kept h (e ∷ []) t.item x.0 x.1)
          | inr now ↦ let x = claimed_after l h e step u t now.1 in (x.0, element_of-kept h (e ∷ []) t.item x.0 x.1)
        ]

contains_cases : {A : Type 0} (y : A) (xs : List A) (x : A) → Contains (y ∷ xs) x → (y ≡ x) ⊎ Contains xs x
contains_cases y xs x there =
    elim (Contains-append_cases (y ∷ []) xs x there) [ inl here ↦ inl (one_of y x here) | inr later ↦ inr later ]

-- nothing passes where nothing is found
none_passes : {A : Type 0} (p : A → Bool) (xs : List A) → find p xs ≡ None → (x : A) → Contains xs x → p x ≡ true → ⊥
none_passes p [] none x there passes = let less = there.1 in omega arith
none_passes {A} p (y ∷ xs) none x there passes = go (none_passes p xs) (p y) refl none
  where
    go : (find p xs ≡ None → (x : A) → Contains xs x → p x ≡ true → ⊥) → (b : Bool) → p y ≡ b → cond b (Some y) (find p xs) ≡ None → ⊥
    go rest true is e = cc (e)
    go rest false is e =
        elim (contains_cases y xs x there) [
          | inl same ↦ let clash : false ≡ true = sym is ∙ (ap p same ∙ passes) in cc
          | inr later ↦ rest e x later passes
        ]

module _ (s : State) (looks : List Look) (reached : IsReachable s) (agree : looks ≡ map (look_at s.limits.attempts s.history) (born s.history)) (c u : ℕ)
    (is_pass : c < s.limits.parts) (hand : (pass_at s c).holding ≡ Some u) where
  abbrev test : Look → Bool
  test l = is_held_by u l.status

  -- a unit in the hand whose element is held is open
  pub open_of : (look : Look) → find (λ (l : Look). is_held_by u l.status) looks ≡ Some look → (t : UnitClaim) × IsOpen s.history u t × (t.pass ≡ c)
  open_of look is =
      let m = mapped (look_at s.limits.attempts s.history) (born s.history) look (subst (λ ls. Contains ls look) agree (found_contains test looks look is)) in
      let holds = held (look.status) (find-passes test looks look is) in
      let status : status_of s.limits.attempts s.history (m.0).id ≡ Held u holds.0 = ap (λ (l : Look). l.status) m.2 ∙ holds.1 in
      let none = held_undecided s.limits s.history (m.0).id u holds.0 reached.legal status in
      (reached.fits c is_pass).held u hand (λ is. let clash : None ≡ Some Aborted = sym none ∙ is in cc)
    where
      held : (st : Status) → is_held_by u st ≡ true → (n : ℕ) × (st ≡ Held u n)
      held (Waiting n) e = absurd (cc (e))
      held (Held v n) e = (n, ap (λ k. Held k n) (sym (eqb-true u v e)))
      held (Consumed v) e = absurd (cc (e))
      held (Parked n) e = absurd (cc (e))
      held Killed e = absurd (cc (e))

  -- and one whose element isn't was aborted
  pub aborted_of : find (λ (l : Look). is_held_by u l.status) looks ≡ None → end_of s.history u ≡ Some Aborted
  aborted_of none = go (end_of s.history u) refl
    where
      open_found : (t : UnitClaim) → IsOpen s.history u t → ⊥
      open_found t is_open =
          let x = claimed_born s.limits s.history reached.legal u t is_open.claimed in
          let id : (x.0).id ≡ t.item = element_of-id s.history t.item x.0 x.1 in
          let status : status_of s.limits.attempts s.history (x.0).id ≡ Held u t.attempt = ap (status_of s.limits.attempts s.history) id ∙ open_holds s.limits s.history reached.legal u t is_open in
          let there : Contains looks (look_at s.limits.attempts s.history x.0) =
          subst (λ ls. Contains ls (look_at s.limits.attempts s.history x.0)) (sym agree)
          (map_contains (look_at s.limits.attempts s.history) (born s.history) x.0 (found_contains (λ (y : Element). y.id == t.item) (born s.history) x.0 x.1)) in
          none_passes test looks none (look_at s.limits.attempts s.history x.0) there (ap (is_held_by u) status ∙ eq-eqb u u refl)

      go : (o : Option UnitEnd) → end_of s.history u ≡ o → end_of s.history u ≡ Some Aborted
      go None is = absurd (let o = (reached.fits c is_pass).held u hand (λ at. let clash : None ≡ Some Aborted = sym is ∙ at in cc) in open_found o.0 o.1)
      go (Some (Committed a b)) is = absurd (let o = (reached.fits c is_pass).held u hand (λ at. let clash : Some (Committed a b) ≡ Some Aborted = sym is ∙ at in cc) in open_found o.0 o.1)
      go (Some Aborted) is = is

-- What an abort leaves.

fits_abort : (l : Limits) (h : List Event) (drawn c u : ℕ) (used : PassState) → PassFits l h drawn c used → used.holding ≡ Some u
    → PassFits l (h ++ Abort c u ∷ []) drawn c (freed used)
fits_abort l h drawn c u used fits hand =
    record {
      run = run_quiet l h drawn c used.next used.left fits.run (Abort c u) refl;
      claimed = fits.claimed;
      unclaimed = λ v low high. first-snoc (claim_by v) h (Abort c u) ∙ rw (fits.unclaimed v low high) refl;
      holding = λ v t is own.
          elim (open_before h (Abort c u) v t is) [
            | inl by ↦ absurd (cc (by))
            | inr old ↦ absurd (none_if u v Aborted old.1 (let other = fits.holding v t old.0 own in cc))
          ];
      held = λ v none whole. absurd (cc (none));
    }

-- the hand is emptied, where its unit was aborted before
fits_already : (l : Limits) (h : List Event) (drawn c u next left : ℕ) (used : PassState) → PassFits l h drawn c used → used.holding ≡ Some u → end_of h u ≡ Some Aborted → RunFits l h drawn c next left
    → PassFits l h drawn c (record used { next = next; left = left; holding = None })
fits_already l h drawn c u next left used fits hand gone run =
    record {
      run = run;
      claimed = fits.claimed;
      unclaimed = fits.unclaimed;
      holding = λ v t is own. absurd (let other = fits.holding v t is own in let same : u ≡ v = cc in let none = is.unfinished in let at : end_of h u ≡ None = ap (end_of h) same ∙ none in cc);
      held = λ v none whole. absurd (cc (none));
    }

-- and k rows are used up
fits_spent : (l : Limits) (h : List Event) (drawn c u k : ℕ) (used : PassState) → k ≤ used.left → PassFits l h drawn c used → used.holding ≡ Some u → end_of h u ≡ Some Aborted → PassFits l h drawn c (freed_after_use used k)
fits_spent l h drawn c u k used few fits hand gone = fits_already l h drawn c u (used.next + k) (used.left - k) used fits hand gone (run_passed l h drawn c used.next used.left fits.run k few)

-- after no event, where the run of pass c goes on
pub reached_with_pass : (s : State) (c : ℕ) (used : PassState) → IsReachable s → c < s.limits.parts → PassFits s.limits s.history s.drawn c used → end_at used ≡ end_at (pass_at s c) → IsReachable (with_pass s c used)
reached_with_pass s c used reached is_pass own ends =
    record {
      limits = reached.limits;
      legal = reached.legal;
      passes = length-set s.passes c used ∙ reached.passes;
      fits = fits;
      apart = λ a b in_a in_b same. reached.apart a b in_a in_b (sym (ends_still s c used there ends a) ∙ (same ∙ ends_still s c used there ends b));
      drawn = reached.drawn;
      undrawn = reached.undrawn;
    }
  where
    there : c < length s.passes
    there = rw reached.passes is_pass

    fits : (d : ℕ) → d < s.limits.parts → PassFits s.limits s.history s.drawn d (slice_index_or (slice_set s.passes c used) d no_pass)
    fits d in_parts =
        elim (eqb_tells d c) [
          | inl p ↦ rw (p.1, get_or-set_same s.passes c used no_pass there) own
          | inr p ↦ rw (get_or-set_other s.passes c d used no_pass p.1) (reached.fits d in_parts)
        ]

-- a pass that has too few rows when it goes on has no block to draw
pub is_full : (s : State) (c k : ℕ) → IsReachable s → k ≤ 4 → (used : PassState) → used ≡ ready s c k → used.left < k → IsFull s c k
is_full s c k reached small used at over = go (nat_lt (pass_at s c).left k) (nat_lt s.drawn s.limits.spare) refl refl (subst (λ (x : PassState). x.left < k) at over)
  where
    go : (short some : Bool) → nat_lt (pass_at s c).left k ≡ short → nat_lt s.drawn s.limits.spare ≡ some → cond (short && some) BLOCK_ROWS (pass_at s c).left < k → IsFull s c k
    go true true short some less = absurd (omega arith)
    go true false short some less = let all : s.limits.spare ≤ s.drawn = ltb-false s.drawn s.limits.spare some in let most = reached.drawn in (less, omega arith)
    go false some short more less = absurd (let room : k ≤ (pass_at s c).left = ltb-false (pass_at s c).left k short in omega arith)

-- the rows from which a commit takes k, and what it leaves where another pass has aborted the unit
module _ (s : State) (looks : List Look) (c k : ℕ) (reached : IsReachable s) (agree : looks ≡ map (look_at s.limits.attempts s.history) (born s.history)) (is_pass : c < s.limits.parts) where
  -- they are few
  pub next_few : (used : PassState) → used ≡ ready s c k → used.next + used.left ≤ max_rows
  next_few used at =
      let fits = fits_ready s c k reached is_pass in
      let inside = area_inside s.limits fits.run.first (end_at (ready s c k)) (run_area s.limits s.history (with_draw s c k).drawn c (ready s c k).next (ready s c k).left fits.run) in
      let few : s.limits.parts ≤ 32 = reached.limits.parts.1 in
      let rows : s.limits.rows ≤ 256 = reached.limits.rows.1 in
      let spare : s.limits.spare ≤ 256 = reached.limits.spare in
      let all : s.limits.parts * s.limits.rows ≤ 32 * s.limits.rows = mul-le-mul_right s.limits.rows few in
      subst (λ (x : PassState). x.next + x.left ≤ max_rows) (sym at) (omega arith)

  -- what is lost
  pub lost_leaves : (u : ℕ) (used : PassState) (drawn : ℕ) → used ≡ ready s c k → drawn ≡ (with_draw s c k).drawn → used.holding ≡ Some u → k ≤ used.left → find (λ (l : Look). is_held_by u l.status) looks ≡ None
      → let t : State = record { limits = s.limits; history = s.history; passes = slice_set s.passes c (freed_after_use used k); drawn = drawn } in
      IsReachable t × ((pass_at s c).holding ≡ Some u) × HasPlainRoom s c k × (end_of s.history u ≡ Some Aborted) × (t ≡ with_pass (with_draw s c k) c (freed_after_use (ready s c k) k))
  lost_leaves u used drawn at count hand room none =
      let same : record { limits = s.limits; history = s.history; passes = slice_set s.passes c (freed_after_use used k); drawn = drawn } ≡ with_pass (with_draw s c k) c (freed_after_use (ready s c k) k) =
      λ i. record { limits = s.limits; history = s.history; passes = slice_set s.passes c (freed_after_use (at i) k); drawn = count i } in
      let hand' : (pass_at s c).holding ≡ Some u = ap (λ (x : PassState). x.holding) (sym at) ∙ hand in
      let room' : HasPlainRoom s c k = subst (λ (x : PassState). k ≤ x.left) at room in
      let gone = aborted_of s looks reached agree c u is_pass hand' none in
      let own = fits_spent s.limits s.history (with_draw s c k).drawn c u k (ready s c k) room' (fits_ready s c k reached is_pass) hand' gone in
      let left = reached_with_pass (after_draw s c k) c (freed_after_use (ready s c k) k) (reached_ready s c k reached is_pass) is_pass own (let ends = ap end_at (ready_at s c k reached is_pass) in omega arith) in (
        subst IsReachable (sym same) (subst (λ ps. IsReachable (record { limits = s.limits; history = s.history; passes = ps; drawn = (with_draw s c k).drawn })) (set-set s.passes c (ready s c k) (freed_after_use (ready s c k) k)) left),
        hand',
        room',
        gone,
        same,
      )

  -- a unit that is neither aborted nor ended otherwise, where the rows suffice
  pub undecided_leaves : (u : ℕ) (used : PassState) → used ≡ ready s c k → used.holding ≡ Some u → k ≤ used.left → (look : Look) → find (λ (l : Look). is_held_by u l.status) looks ≡ Some look
      → ((pass_at s c).holding ≡ Some u) × HasPlainRoom s c k × (end_of s.history u ≢ Some Aborted)
  undecided_leaves u used at hand room look is =
      let hand' : (pass_at s c).holding ≡ Some u = ap (λ (x : PassState). x.holding) (sym at) ∙ hand in
      let o = open_of s looks reached agree c u is_pass hand' look is in
      (hand', subst (λ (x : PassState). k ≤ x.left) at room, λ gone. let clash : None ≡ Some Aborted = sym o.1.unfinished ∙ gone in cc)

module _ (l : Limits) (h : List Event) (passes : List PassState) (drawn : ℕ) (looks : List Look) (c : ℕ)
    (reached : IsReachable (record { limits = l; history = h; passes = passes; drawn = drawn })) (agree : looks ≡ map (look_at l.attempts h) (born h)) (is_pass : c < l.parts) where
  abbrev pub before : State
  before = record { limits = l; history = h; passes = passes; drawn = drawn }

  -- the unit in the hand is aborted
  pub abort_leaves : (used : PassState) → used ≡ slice_index_or passes c used → (u : ℕ) → used.holding ≡ Some u → (look : Look) → find (λ (l : Look). is_held_by u l.status) looks ≡ Some look
      → IsReachable (moved before (Abort c u) c (freed used))
      × (map (look_after l.attempts (Abort c u)) looks ≡ map (look_at l.attempts (h ++ Abort c u ∷ [])) (born (h ++ Abort c u ∷ [])))
      × Step l h (Abort c u) × ((pass_at before c).holding ≡ Some u)
      × (moved before (Abort c u) c (freed used) ≡ moved before (Abort c u) c (freed (pass_at before c)))
      × (abort_of before c ≡ (ended.Aborted, moved before (Abort c u) c (freed (pass_at before c))))
  abort_leaves used read u hand look is =
      let there : c < length passes = rw reached.passes is_pass in
      let same : used ≡ pass_at before c = get_or_read passes c used there read no_pass in
      let hand' : (pass_at before c).holding ≡ Some u = rw same at hand in
      let o = open_of before looks reached agree c u is_pass hand' look is in
      let step : Step l h (Abort c u) = record { pass = is_pass; taking = o.0; open_unit = o.1 } in
      let fits : PassFits l h drawn c used = rw (same) (reached.fits c is_pass) in (
        reached_moved before (Abort c u) c (freed used) reached step refl is_pass (fits_abort l h drawn c u used fits hand) (ap end_at same) (λ x p. absurd (in_none p)),
        looks_changed l h (Abort c u) looks refl reached.legal step agree,
        step,
        hand',
        ap (λ (x : PassState). moved before (Abort c u) c (freed x)) same,
        abort_goes before c u hand' o.1.unfinished,
      )

  -- it was aborted before
  pub already_leaves : (used : PassState) → used ≡ slice_index_or passes c used → (u : ℕ) → used.holding ≡ Some u → find (λ (l : Look). is_held_by u l.status) looks ≡ None
      → IsReachable (with_pass before c (freed used))
      × (end_of h u ≡ Some Aborted) × ((pass_at before c).holding ≡ Some u)
      × (with_pass before c (freed used) ≡ with_pass before c (freed (pass_at before c)))
  already_leaves used read u hand none =
      let there : c < length passes = rw reached.passes is_pass in
      let same : used ≡ pass_at before c = get_or_read passes c used there read no_pass in
      let hand' : (pass_at before c).holding ≡ Some u = rw same at hand in
      let gone = aborted_of before looks reached agree c u is_pass hand' none in
      let fits : PassFits l h drawn c used = rw (same) (reached.fits c is_pass) in
      let own = fits_already l h drawn c u used.next used.left used fits hand gone fits.run in (
        reached_with_pass before c (freed used) reached is_pass own (ap end_at same),
        gone,
        hand',
        ap (λ (x : PassState). with_pass before c (freed x)) same,
      )
