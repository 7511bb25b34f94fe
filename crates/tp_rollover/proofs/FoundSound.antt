-- What was found alive is sound: it can stand as it did in a manager with the same attempt limit.
use Rattle.std.proofs.Common.{◌≡◌, ◌≢◌, ℕ, ◌<◌, ◌≤◌, nat_lt, Bool, true, false, cond, Option, Some, None, List, [], ◌∷◌, ◌++◌, inl, inr, ⊎_elim, refl, sym, ◌∙◌, ap, subst, arith, ◌⊎◌, ◌+◌}
use Rattle.std.proofs.lemmas.Bool.{ltb-false}
use Rattle.std.proofs.lemmas.Bool.Decides.{eqb_tells}
use Rattle.tp_model.specs.declared.types.Element.{Element}
use Rattle.tp_model.specs.declared.types.Limits.{Limits}
use Rattle.tp_model.specs.declared.types.Status.{Status}
use Rattle.tp_model.specs.declared.types.Status.TheVariants.{Waiting, Held, Consumed, Parked, Killed}
use Rattle.tp_model.specs.declared.event.Event.{Event}
use Rattle.tp_model.specs.declared.event.Event.TheVariants.{Enqueue, Claim, Commit, Abort, Kill, Requeue}
use Rattle.tp_model.specs.History.{Aborted, Committed, In, IsBorn, IsSettled, UnitEnd, births, committed, element_of, end_of, first_id, status_of}
use Rattle.tp_model.specs.Steps.{IsBody, IsKillable, IsLegal, IsStage, Step}
use Rattle.tp_model.specs.Words.{AgainWord, ClaimWord, FreeWord, KilledWord, TakenWord, claim_word, taken_status, word_status}
use Rattle.tp_model.proofs.Attempts.{waiting_below}
use Rattle.tp_model.proofs.Bodies.{found_whole}
use Rattle.tp_model.proofs.Bridges.{born_either, element_of-id, find_in, in_none, in_one, is_born, outputs_place}
use Rattle.tp_model.proofs.Histories.{by_steps, open_holds, settled_after, status_of-snoc}
use Rattle.tp_rollover.proofs.Assembly.{all_in}
use Rattle.tp_model.proofs.Lists.{if_same}
use Rattle.tp_model.proofs.Stages.{born_staged}
use Rattle.tp_model.proofs.WordProofs.{status_by_words}
use Rattle.tp_model.proofs.Histories.{open_before}
use Rattle.tp_model.proofs.Later.{claims_inside}
use Rattle.tp_model.proofs.Lists.{some_if}
use Rattle.tp_model.proofs.Replies.{reply_stands}
use Rattle.tp_model.specs.History.{UnitClaim, claim_of}
use Rattle.tp_model.specs.Steps.{IsOpen}
use Rattle.tp_plain.proofs.Commits.{held_claimed}
use Rattle.tp_plain.proofs.UnitEnds.{held_undecided}
use Rattle.tp_rollover.specs.Hands.{holder_of}
use Rattle.tp_rollover.proofs.Standing.{unit_pass}
use Rattle.tp_rollover.specs.Bounds.{attempts_had}
use Rattle.tp_rollover.specs.Fits.{AreFit, IsFit}
use Rattle.tp_rollover.specs.Survivors.{AreSurvivors, IsLiving, IsStanding, IsSurvivor}
use Rattle.tp_rollover.specs.declared.survivors.Survivor.{Survivor}
use Rattle.tp_rollover.proofs.FoundFit.{had_within}
use Rattle.tp_rollover.proofs.Sound.{AreSound, IsAtRest}

-- ---- of a family of which there is more, the root is settled

abbrev RootIsOver : ℕ → List Event → Element → Type 0
RootIsOver limit h x = x.root ≢ x.id → IsSettled (status_of limit h x.root)

module _ (l : Limits) where
  still_over : (h : List Event) (e : Event) (i : ℕ) → Step l h e → IsSettled (status_of l.attempts h i) → IsSettled (status_of l.attempts (h ++ e ∷ []) i)
  still_over h e i step over = subst IsSettled (sym (status_of-snoc l.attempts h e i ∙ settled_after l h e step i (status_of l.attempts h i) over refl)) over

  new_over : (h : List Event) (e : Event) (x : Element) → IsLegal l h → Step l h e → ((y : Element) → IsBorn h y → RootIsOver l.attempts h y) → In x (births e) → RootIsOver l.attempts (h ++ e ∷ []) x
  new_over h (Enqueue c y) x legal step old p not = absurd (not (subst (λ (z : Element). z.root ≡ z.id) (sym (in_one p)) step.root))
  new_over h (Claim c u i n) x legal step old p not = absurd (in_none p)
  new_over h (Commit c u outs) x legal step old p not =
      let out = (outputs_place l h c u step.item.root (first_id outs) outs step.outputs x p).2 in
      let id = element_of-id h step.taking.item step.item step.taken in
      subst (λ r. IsSettled (status_of l.attempts (h ++ Commit c u outs ∷ []) r)) (sym out.root_is)
      (elim (eqb_tells step.item.root step.item.id) [
        | inl e ↦
            let held : status_of l.attempts h step.item.root ≡ Held u step.taking.attempt = ap (status_of l.attempts h) (e.1 ∙ id) ∙ open_holds l h legal u step.taking step.open_unit in
            let now : status_of l.attempts (h ++ Commit c u outs ∷ []) step.item.root ≡ Consumed u = status_of-snoc l.attempts h (Commit c u outs) step.item.root ∙ (ap (committed u) held ∙ if_same u u (Consumed u) (Held u step.taking.attempt) refl) in
            subst IsSettled (sym now) tt
        | inr e ↦ still_over h (Commit c u outs) step.item.root step (old step.item (is_born h step.taking.item step.item step.taken) e.1)
      ])
  new_over h (Abort c u) x legal step old p not = absurd (in_none p)
  new_over h (Kill c i) x legal step old p not = absurd (in_none p)
  new_over h (Requeue c i k) x legal step old p not = absurd (in_none p)

  root_over : (h : List Event) → IsLegal l h → (x : Element) → IsBorn h x → RootIsOver l.attempts h x
  root_over h legal = by_steps l (λ z. (x : Element) → IsBorn z x → RootIsOver l.attempts z x) (λ x is. absurd cc) more h legal
    where
      more : (h : List Event) (e : Event) → IsLegal l h → Step l h e → ((x : Element) → IsBorn h x → RootIsOver l.attempts h x) → (x : Element) → IsBorn (h ++ e ∷ []) x → RootIsOver l.attempts (h ++ e ∷ []) x
      more h e legal step old x is not = ⊎_elim (λ before. still_over h e x.root step (old x before not)) (λ new. new_over h e x legal step old new not) (born_either x h e is)

  -- ---- one that is parked had all its attempts

  parked_word : (h : List Event) (w : ClaimWord) (n : ℕ) → word_status l.attempts h w ≡ Parked n → l.attempts ≤ n
  parked_word h FreeWord n is = absurd cc
  parked_word h (TakenWord m u r) n is = at (end_of h u) is
    where
      at : (o : Option UnitEnd) → taken_status l.attempts m u o ≡ Parked n → l.attempts ≤ n
      at None is = absurd cc
      at (Some (Committed a b)) is = absurd cc
      at (Some Aborted) is = go (nat_lt m l.attempts) refl is
        where
          go : (b : Bool) → nat_lt m l.attempts ≡ b → cond b (Waiting m) (Parked m) ≡ Parked n → l.attempts ≤ n
          go true less is = absurd cc
          go false less is = let same : m ≡ n = cc in let le = ltb-false m l.attempts less in omega arith
  parked_word h (KilledWord m u r) n is = absurd cc
  parked_word h (AgainWord r) n is = absurd cc

-- ---- a pass has one unit open at most

module _ (l : Limits) where
  abbrev IsAlone : List Event → Type 0
  IsAlone h = (u v : ℕ) (a b : UnitClaim) → IsOpen h u a → IsOpen h v b → a.pass ≡ b.pass → u ≡ v

  -- what is open afterwards was open before, unless it is the one that is claimed
  opened : (h : List Event) (e : Event) (u : ℕ) (t : UnitClaim) → IsOpen (h ++ e ∷ []) u t → IsOpen h u t ⊎ ((i n : ℕ) × (e ≡ Claim t.pass u i n))
  opened h (Enqueue c x) u t is = elim (open_before h (Enqueue c x) u t is) [ inl by ↦ absurd (cc (by)) | inr old ↦ inl old.0 ]
  opened h (Claim c v i n) u t is = elim (open_before h (Claim c v i n) u t is) [
    | inl by ↦ let z = some_if v u (record { pass = c; item = i; attempt = n }) t by in
        inr (i, n, ap (λ (w : UnitClaim). Claim w.pass v i n) z.1 ∙ ap (λ k. Claim t.pass k i n) z.0)
    | inr old ↦ inl old.0
  ]
  opened h (Commit c v outs) u t is = elim (open_before h (Commit c v outs) u t is) [ inl by ↦ absurd (cc (by)) | inr old ↦ inl old.0 ]
  opened h (Abort c v) u t is = elim (open_before h (Abort c v) u t is) [ inl by ↦ absurd (cc (by)) | inr old ↦ inl old.0 ]
  opened h (Kill c i) u t is = elim (open_before h (Kill c i) u t is) [ inl by ↦ absurd (cc (by)) | inr old ↦ inl old.0 ]
  opened h (Requeue c i k) u t is = elim (open_before h (Requeue c i k) u t is) [ inl by ↦ absurd (cc (by)) | inr old ↦ inl old.0 ]

  open_alone : (h : List Event) → IsLegal l h → IsAlone h
  open_alone h legal = by_steps l IsAlone (λ u v a b is is' same. absurd (let claimed = is.claimed in cc)) more h legal
    where
      none : (h : List Event) (e : Event) → Step l h e → (c u v i n : ℕ) (b : UnitClaim) → e ≡ Claim c u i n → IsOpen h v b → b.pass ≡ c → ⊥
      none h e step c u v i n b is open' same = let may : Step l h (Claim c u i n) = subst (Step l h) is step in may.alone v b same open'

      more : (h : List Event) (e : Event) → IsLegal l h → Step l h e → IsAlone h → IsAlone (h ++ e ∷ [])
      more h e legal step old u v a b is is' same = ⊎_elim
          (λ was. ⊎_elim (λ was'. old u v a b was was' same) (λ new'. absurd (none h e step b.pass v u new'.0 new'.1 a new'.2 was same)) (opened h e v b is'))
          (λ new. ⊎_elim (λ was'. absurd (none h e step a.pass u v new.0 new.1 b new.2 was' (sym same)))
          (λ new'. (let q : Claim a.pass u new.0 new.1 ≡ Claim b.pass v new'.0 new'.1 = sym new.2 ∙ new'.2 in cc)) (opened h e v b is'))
          (opened h e u a is)

living_not_over : (s : Status) → IsLiving s → IsSettled s → ⊥
living_not_over (Waiting n) a b = b
living_not_over (Held u n) a b = b
living_not_over (Consumed u) a b = a
living_not_over (Parked n) a b = b
living_not_over Killed a b = a

-- the unit of what is held is open, and is its holder's
open_unit_of : (l : Limits) (h : List Event) (i u n c : ℕ) → IsLegal l h → status_of l.attempts h i ≡ Held u n → c ≡ holder_of l u → (t : UnitClaim) → claim_of h u ≡ Some t → IsOpen h u t × (t.pass ≡ c)
open_unit_of l h i u n c legal is holder t claimed =
    (record { claimed = claimed; unfinished = held_undecided l h i u n legal is }, sym (unit_pass l t.pass u (claims_inside l h legal u t claimed)) ∙ sym holder)

same_one : (x y : Element) (o : Option Element) → o ≡ Some x → o ≡ Some y → x ≡ y
same_one x y o e f = let q : Some x ≡ Some y = sym e ∙ f in cc

module _ (l k : Limits) (h : List Event) (some : 1 ≤ l.attempts) (same : k.attempts ≡ l.attempts) (legal : IsLegal l h) where
  killable_lives : (s : Status) → IsKillable s → IsLiving s
  killable_lives (Waiting n) a = tt
  killable_lives (Held u n) a = absurd a
  killable_lives (Consumed u) a = absurd a
  killable_lives (Parked n) a = tt
  killable_lives Killed a = absurd a

  lives : (is status : Status) (holder : Option ℕ) → IsStanding l is status holder → IsLiving is
  lives is status None stands = subst IsLiving (sym stands.0) (killable_lives status stands.1)
  lives is status (Some c) stands = subst IsLiving (sym stands.2) tt

  rest_of : (status : Status) → IsKillable status → ((n : ℕ) → status ≡ Waiting n → n < l.attempts) → ((n : ℕ) → status ≡ Parked n → n ≡ l.attempts) → IsAtRest l.attempts status
  rest_of (Waiting n) alive waits parked = waits n refl
  rest_of (Held u n) alive waits parked = absurd alive
  rest_of (Consumed u) alive waits parked = absurd alive
  rest_of (Parked n) alive waits parked = parked n refl
  rest_of Killed alive waits parked = absurd alive

  rests : (i : ℕ) (status : Status) (holder : Option ℕ) → IsStanding l (status_of l.attempts h i) status holder → IsAtRest l.attempts status
  rests i status None stands = rest_of status stands.1
      (λ n is. waiting_below l h i n legal some (stands.0 ∙ is))
      (λ n is. (let at : status_of l.attempts h i ≡ Parked n = stands.0 ∙ is in
      let low = parked_word l h (claim_word h i) n (sym (status_by_words l h i legal) ∙ at) in
      let high = had_within l some h i legal in
      let e = ap attempts_had at in omega arith))
  rests i status (Some c) stands =
      let high = had_within l some h i legal in
      let e = ap attempts_had stands.2 in
      subst (IsAtRest l.attempts) (sym stands.3) (let less : stands.1 < l.attempts = omega arith in less)

  own_root : (s : Survivor) → IsSurvivor l h s → s.id ≡ s.root → (s.root_stage ≡ s.stage) × (s.root_body ≡ s.body)
  own_root s is own =
      let one : is.item ≡ is.request = same_one is.item is.request (element_of h s.id) is.born (ap (element_of h) own ∙ is.began) in
      (sym is.root_stage ∙ (ap (λ (x : Element). x.stage) (sym one) ∙ is.stage), sym is.root_body ∙ (ap (λ (x : Element). x.body) (sym one) ∙ is.body))

  alike_roots : (s t : Survivor) → IsSurvivor l h s → IsSurvivor l h t → s.root ≡ t.root → (s.root_stage ≡ t.root_stage) × (s.root_body ≡ t.root_body)
  alike_roots s t is is' roots =
      let one : is.request ≡ is'.request = same_one is.request is'.request (element_of h s.root) is.began (ap (element_of h) roots ∙ is'.began) in
      (sym is.root_stage ∙ (ap (λ (x : Element). x.stage) one ∙ is'.root_stage), sym is.root_body ∙ (ap (λ (x : Element). x.body) one ∙ is'.root_body))

  alone_alive : (s t : Survivor) → IsSurvivor l h s → IsSurvivor l h t → s.id ≡ s.root → t.root ≡ s.root → t.id ≡ s.id
  alone_alive s t is is' own roots = elim (eqb_tells t.id s.id) [
    | inl e ↦ e.1
    | inr e ↦
        let at = element_of-id h t.id is'.item is'.born in
        let root : is'.item.root ≡ s.id = is'.root ∙ (roots ∙ sym own) in
        let over = root_over l h legal is'.item (is_born h t.id is'.item is'.born) (λ same'. e.1 (sym at ∙ (sym same' ∙ root))) in
        absurd (living_not_over (status_of l.attempts h s.id) (lives (status_of l.attempts h s.id) s.status s.holder is.stands) (subst (λ i. IsSettled (status_of l.attempts h i)) root over))
  ]

  -- who holds one
  holds : (s : Survivor) → IsSurvivor l h s → (c : ℕ) → s.holder ≡ Some c → (u n : ℕ) × (status_of l.attempts h s.id ≡ Held u (n + 1)) × (s.status ≡ Waiting n) × (c ≡ holder_of l u)
  holds s is c held = subst (IsStanding l (status_of l.attempts h s.id) s.status) held is.stands

  held_by_one : (s t : Survivor) → IsSurvivor l h s → IsSurvivor l h t → (c : ℕ) → s.holder ≡ Some c → t.holder ≡ Some c → t.id ≡ s.id
  held_by_one s t is is' c held held' =
      let a = holds s is c held in
      let b = holds t is' c held' in
      let x = held_claimed l h s.id a.0 (a.1 + 1) legal a.2 in
      let y = held_claimed l h t.id b.0 (b.1 + 1) legal b.2 in
      let p = open_unit_of l h s.id a.0 (a.1 + 1) c legal a.2 a.4 x.0 x.1 in
      let q = open_unit_of l h t.id b.0 (b.1 + 1) c legal b.2 b.4 y.0 y.1 in
      let same : a.0 ≡ b.0 = open_alone l h legal a.0 b.0 x.0 y.0 p.0 q.0 (p.1 ∙ sym q.1) in
      let one : x.0 ≡ y.0 = (let e : Some x.0 ≡ Some y.0 = sym x.1 ∙ (ap (claim_of h) same ∙ y.1) in cc) in
      sym y.2 ∙ (ap (λ (z : UnitClaim). z.item) (sym one) ∙ x.2)

  served_held : (s : Survivor) → IsSurvivor l h s → (c : ℕ) → s.holder ≡ Some c → ((n : ℕ) × (s.status ≡ Waiting n)) × (s.stage ≢ 15)
  served_held s is c held =
      let a = holds s is c held in (
        (a.1, a.3),
        λ reply. ⊎_elim
            (λ waits. (let q : Held a.0 (a.1 + 1) ≡ Waiting 0 = sym a.2 ∙ waits in cc))
            (λ killed. (let q : Held a.0 (a.1 + 1) ≡ Killed = sym a.2 ∙ killed in cc))
            (reply_stands l h legal s.id is.item is.born (is.stage ∙ reply)),
      )

  -- and in a manager for which they are fit
  pub found_sound : (m : Limits) (ss : List Survivor) → AreSurvivors l h ss → AreFit m k ss → AreSound m k.attempts ss
  found_sound m ss found fit = record {
    up = found.once;
    inside = λ s q. (all_in (IsFit m k) ss s fit.each q).root;
    stage = λ s q. (let is = found.described s q in subst IsStage is.stage (born_staged l h legal is.item (find_in s.id _ is.item is.born).0));
    bodies = λ s q. (let is = found.described s q in (subst IsBody is.body (found_whole l h legal s.id is.item is.born), subst IsBody is.root_body (found_whole l h legal s.root is.request is.began)));
    rests = λ s q. subst (λ n. IsAtRest n s.status) (sym same) (rests s.id s.status s.holder (found.described s q).stands);
    alike = λ s t q r. alike_roots s t (found.described s q) (found.described t r);
    own = λ s q. own_root s (found.described s q);
    alone = λ s t q r. alone_alive s t (found.described s q) (found.described t r);
    once = λ s t q r. held_by_one s t (found.described s q) (found.described t r);
    held = λ s q. served_held s (found.described s q);
  }
