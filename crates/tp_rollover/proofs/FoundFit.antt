-- What was found alive is fit to be made alive in another manager with the same attempt limit.
use Rattle.std.proofs.Common.{◌≡◌, ◌≢◌, ◌⊎◌, ℕ, ◌-◌, ◌≤◌, ◌==◌, nat_lt, Bool, true, false, cond, if◌then◌else◌, All, Option, Some, None, List, [], ◌∷◌, ◌++◌, inl, inr, ⊎_elim, refl, sym, ◌∙◌, ap, subst, arith}
use Rattle.std.proofs.lemmas.List.Elements.{All-cons, All-nil}
use Rattle.tp_model.specs.declared.types.Element.{Element}
use Rattle.tp_model.specs.declared.types.Limits.{Limits}
use Rattle.tp_model.specs.declared.types.Status.{Status}
use Rattle.tp_model.specs.declared.types.Status.TheVariants.{Waiting, Held, Consumed, Parked, Killed}
use Rattle.tp_model.specs.declared.event.Event.{Event}
use Rattle.tp_model.specs.declared.event.Event.TheVariants.{Enqueue, Claim, Commit, Abort, Kill, Requeue}
use Rattle.tp_model.specs.History.{In, IsBorn, births, element_of, first_id, here, status_after, status_of, there}
use Rattle.tp_model.specs.Steps.{IsKillable, IsLegal, IsStage, Step}
use Rattle.tp_model.proofs.Attempts.{waiting_below}
use Rattle.tp_model.proofs.Bridges.{born_either, find_in, found_later, in_none, in_one, is_born, outputs_place}
use Rattle.tp_model.proofs.Histories.{by_steps, status_of-snoc}
use Rattle.tp_model.proofs.Later.{births_inside}
use Rattle.tp_model.proofs.Stages.{born_staged}
use Rattle.tp_model.proofs.WordProofs.{rounds_by_words}
use Rattle.tp_rollover.specs.Bounds.{attempts_had}
use Rattle.tp_rollover.specs.Fits.{AreFit, IsFit}
use Rattle.tp_rollover.specs.Survivors.{AreSurvivors, IsStanding, IsSurvivor}
use Rattle.tp_rollover.specs.declared.survivors.Survivor.{Survivor}
use Rattle.tp_rollover.proofs.Replaying.{had_so}

-- ---- no element has had more attempts than the limit

either_had : (limit : ℕ) (b : Bool) (x y : Status) → attempts_had x ≤ limit → attempts_had y ≤ limit → attempts_had (cond b x y) ≤ limit
either_had limit true x y first second = first
either_had limit false x y first second = second

had_after : (limit i : ℕ) (e : Event) (s : Status) → attempts_had s ≤ limit → ((c u j n : ℕ) → e ≡ Claim c u j n → n ≤ limit) → attempts_had (status_after limit i s e) ≤ limit
had_after limit i (Enqueue c x) s low claims = low
had_after limit i (Claim c u j n) s low claims = either_had limit (j == i) (Held u n) s (claims c u j n refl) low
had_after limit i (Commit c u outs) (Waiting m) low claims = low
had_after limit i (Commit c u outs) (Held v m) low claims = either_had limit (u == v) (Consumed v) (Held v m) (omega arith) low
had_after limit i (Commit c u outs) (Consumed v) low claims = low
had_after limit i (Commit c u outs) (Parked m) low claims = low
had_after limit i (Commit c u outs) Killed low claims = low
had_after limit i (Abort c u) (Waiting m) low claims = low
had_after limit i (Abort c u) (Held v m) low claims =
    either_had limit (u == v) (if nat_lt m limit then Waiting m else Parked m) (Held v m) (either_had limit (nat_lt m limit) (Waiting m) (Parked m) low low) low
had_after limit i (Abort c u) (Consumed v) low claims = low
had_after limit i (Abort c u) (Parked m) low claims = low
had_after limit i (Abort c u) Killed low claims = low
had_after limit i (Kill c j) s low claims = either_had limit (j == i) Killed s (omega arith) low
had_after limit i (Requeue c j k) s low claims = either_had limit (j == i) (Waiting 0) s (omega arith) low

module _ (l : Limits) (some : 1 ≤ l.attempts) where
  claim_within : (h : List Event) (e : Event) → IsLegal l h → Step l h e → (c u j n : ℕ) → e ≡ Claim c u j n → n ≤ l.attempts
  claim_within h e legal step c u j n is =
      let may : Step l h (Claim c u j n) = subst (Step l h) is step in
      let below = waiting_below l h j (n - 1) legal some may.waits in
      let one = may.attempt in
      omega (arith, below, one)

  pub had_within : (h : List Event) (i : ℕ) → IsLegal l h → attempts_had (status_of l.attempts h i) ≤ l.attempts
  had_within h i legal = by_steps l (λ z. attempts_had (status_of l.attempts z i) ≤ l.attempts) (omega arith) more h legal
    where
      more : (h : List Event) (e : Event) → IsLegal l h → Step l h e → attempts_had (status_of l.attempts h i) ≤ l.attempts → attempts_had (status_of l.attempts (h ++ e ∷ []) i) ≤ l.attempts
      more h e legal step old = subst (λ s. attempts_had s ≤ l.attempts) (sym (status_of-snoc l.attempts h e i)) (had_after l.attempts i e (status_of l.attempts h i) old (claim_within h e legal step))

-- ---- a root is its own

births_root : (l : Limits) (h : List Event) (e : Event) (x : Element) → Step l h e → In x (births e) → (x.root ≡ x.id) ⊎ ((y : Element) × IsBorn h y × (x.root ≡ y.root))
births_root l h (Enqueue c y) x step p = inl (subst (λ (z : Element). z.root ≡ z.id) (sym (in_one p)) step.root)
births_root l h (Claim c u i n) x step p = absurd (in_none p)
births_root l h (Commit c u outs) x step p =
    inr (step.item, is_born h step.taking.item step.item step.taken, (outputs_place l h c u step.item.root (first_id outs) outs step.outputs x p).2.root_is)
births_root l h (Abort c u) x step p = absurd (in_none p)
births_root l h (Kill c i) x step p = absurd (in_none p)
births_root l h (Requeue c i k) x step p = absurd (in_none p)

abbrev HasOwnRoot : List Event → Element → Type 0
HasOwnRoot h x = (r : Element) × (element_of h x.root ≡ Some r) × (r.root ≡ x.root)

root_own : (l : Limits) (h : List Event) → IsLegal l h → (x : Element) → IsBorn h x → HasOwnRoot h x
root_own l h legal = by_steps l (λ z. (x : Element) → IsBorn z x → HasOwnRoot z x) (λ x is. absurd cc) more h legal
  where
    more : (h : List Event) (e : Event) → IsLegal l h → Step l h e → ((x : Element) → IsBorn h x → HasOwnRoot h x) → (x : Element) → IsBorn (h ++ e ∷ []) x → HasOwnRoot (h ++ e ∷ []) x
    more h e legal step old x is =
        let later : (y : Element) → IsBorn h y → HasOwnRoot (h ++ e ∷ []) y = λ y born. (let t = old y born in (t.0, found_later h (h ++ e ∷ []) (e ∷ [], refl) y.root t.0 t.1, t.2)) in
        ⊎_elim (later x)
        (λ new. ⊎_elim
        (λ own. (x, ap (element_of (h ++ e ∷ [])) own ∙ is, refl))
        (λ f. (let t = later f.0 f.1 in (t.0, ap (element_of (h ++ e ∷ [])) f.2 ∙ t.1, t.2 ∙ sym f.2)))
        (births_root l h e x step new))
        (born_either x h e is)

same_one : (x y : Element) (o : Option Element) → o ≡ Some x → o ≡ Some y → x ≡ y
same_one x y o e f = let q : Some x ≡ Some y = sym e ∙ f in cc

module _ (l k : Limits) (h : List Event) (some : 1 ≤ l.attempts) (same : k.attempts ≡ l.attempts) (legal : IsLegal l h) where
  alive_so : (is status : Status) (holder : Option ℕ) → IsStanding l is status holder → IsKillable status
  alive_so is status None stands = stands.1
  alive_so is status (Some c) stands = subst IsKillable (sym stands.3) tt

  one_fit : (s : Survivor) → IsSurvivor l h s → IsFit l k s
  one_fit s is =
      let id = find_in s.id _ is.item is.born in
      let request = find_in s.root _ is.request is.began in
      let low = births_inside l h legal is.item (is_born h s.id is.item is.born) in
      let low' = births_inside l h legal is.request (is_born h s.root is.request is.began) in
      let at = id.1 in
      let at' = request.1 in
      let had = had_so l (status_of l.attempts h s.id) s.status s.holder is.stands in
      let within = had_within l some h s.id legal in
      let few = (rounds_by_words l h s.id legal).1 in
      let rounds_are = is.rounds_are in
      record {
        id = omega (arith, low, at);
        root = omega (arith, low', at');
        stage = subst IsStage is.stage (born_staged l h legal is.item id.0);
        alive = alive_so (status_of l.attempts h s.id) s.status s.holder is.stands;
        within = (omega (arith, had, within, same), omega (arith, few, rounds_are));
      }

  apart : (s t : Survivor) → IsSurvivor l h s → IsSurvivor l h t → s.id ≢ s.root → t.root ≢ s.id
  apart s t is is' not at =
      let r = root_own l h legal is'.item (is_born h t.id is'.item is'.born) in
      let own : r.0 ≡ is.item = same_one r.0 is.item (element_of h s.id) (ap (element_of h) (sym at ∙ sym is'.root) ∙ r.1) is.born in
      not (sym at ∙ (sym is'.root ∙ (sym r.2 ∙ (ap (λ (x : Element). x.root) own ∙ is.root))))

  all_fit : (ss : List Survivor) → ((s : Survivor) → In s ss → IsSurvivor l h s) → All (IsFit l k) ss
  all_fit [] each = All-nil (IsFit l k)
  all_fit (s ∷ ss) each = All-cons (IsFit l k) s ss (one_fit s (each s here)) (all_fit ss (λ z p. each z (there p)))

  pub found_fit : (ss : List Survivor) → AreSurvivors l h ss → AreFit l k ss
  found_fit ss found = record { each = all_fit ss found.described; apart = λ s t p q. apart s t (found.described s p) (found.described t q) }
