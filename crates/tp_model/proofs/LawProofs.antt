-- The laws, proved.
use Rattle.std.proofs.Common.{◌≡◌, ◌⊎◌, ℕ, ◌+◌, ◌-◌, Bool, true, false, cond, nat_lt, if◌then◌else◌, Some, List, [], ◌∷◌, ◌++◌, refl, sym, ◌∙◌, ap, subst, inl, inr, append_assoc, arith}
use Rattle.std.proofs.lemmas.Bool.Decides.{eqb_tells}
use Rattle.std.specs.Option.{option_map}
use Rattle.tp_model.specs.declared.types.Element.{Element}
use Rattle.tp_model.specs.declared.types.Limits.{Limits}
use Rattle.tp_model.specs.declared.types.Status.{Status}
use Rattle.tp_model.specs.declared.types.Status.TheVariants.{Waiting, Held, Consumed, Parked, Killed}
use Rattle.tp_model.specs.declared.event.Event.{Event}
use Rattle.tp_model.specs.declared.event.Event.TheVariants.{Enqueue, Claim, Commit, Abort, Kill, Requeue}
use Rattle.tp_model.specs.History.{UnitClaim, claim_by, end_by, claim_of, committed, status_after, status_of, IsSettled}
use Rattle.tp_model.specs.Steps.{MayClaim, MayCommit, MayKill, IsKillable, Step, IsLegal}
use Rattle.tp_model.specs.Laws.{item_of, ConsumedOnce, NeverClaimedAfterKill, NeverCommittedAfterKill, NeverKilledAfterKill, Moves, StatusSteps, BornStays, SettledStays, UnitsStay}
use Rattle.tp_model.proofs.Lists.{first-kept, if_same, if_other}
use Rattle.tp_model.proofs.Histories.{legal_start, legal_at, open_holds, settled_stays, status_of-snoc, element_of-kept}

-- the element that a unit claimed is the one that it claimed in a longer history
pub claimed_item : (h g : List Event) (u : ℕ) (t : UnitClaim) (i : ℕ) → claim_of h u ≡ Some t → item_of (h ++ g) u ≡ Some i → t.item ≡ i
claimed_item h g u t i is same =
    let kept : claim_of (h ++ g) u ≡ Some t = first-kept (claim_by u) h g t is in
    let item : Some t.item ≡ Some i = sym (ap (option_map (λ (t : UnitClaim). t.item)) kept) ∙ same in
    cc

module _ (l : Limits) where
  -- what an event settled stays so
  pub settled_from : (before : List Event) (e : Event) (between : List Event) (i : ℕ) (s : Status) → IsSettled s
      → IsLegal l (before ++ e ∷ between) → status_after l.attempts i (status_of l.attempts before i) e ≡ s → status_of l.attempts (before ++ e ∷ between) i ≡ s
  settled_from before e between i s settled legal is =
      let same : (before ++ e ∷ []) ++ between ≡ before ++ e ∷ between = append_assoc before (e ∷ []) between in
      ap (λ h. status_of l.attempts h i) (sym same) ∙ settled_stays l (before ++ e ∷ []) between i s settled (rw same legal) (status_of-snoc l.attempts before e i ∙ is)

  -- at a Commit its unit holds the element that it claimed
  pub held_at : (h : List Event) (d v : ℕ) (outs : List Element) (after : List Event) (i : ℕ) → IsLegal l (h ++ Commit d v outs ∷ after)
      → item_of (h ++ Commit d v outs ∷ after) v ≡ Some i → (n : ℕ) × (status_of l.attempts h i ≡ Held v n)
  held_at h d v outs after i legal claims =
      let may : MayCommit l h d v outs = legal_at l h (Commit d v outs) after legal in
      let item : may.taking.item ≡ i = claimed_item h (Commit d v outs ∷ after) v may.taking i may.open_unit.claimed claims in
      (may.taking.attempt, rw (← item) (open_holds l h (legal_start l h (Commit d v outs ∷ after) legal) v may.taking may.open_unit))

pub consumed_once : ConsumedOnce
consumed_once l before between after c d u v i outs more legal one two =
    let mid = before ++ Commit c u outs ∷ between in
    let legal_mid : IsLegal l mid = legal_start l mid (Commit d v more ∷ after) legal in
    let second = held_at l mid d v more after i legal two in
    let may : MayCommit l before c u outs = legal_at l before (Commit c u outs) between legal_mid in
    let t = may.taking in
    let kept : claim_of mid u ≡ Some t = first-kept (claim_by u) before (Commit c u outs ∷ between) t may.open_unit.claimed in
    let item : t.item ≡ i = claimed_item mid (Commit d v more ∷ after) u t i kept one in
    let held : status_of l.attempts before i ≡ Held u t.attempt = rw (← item) (open_holds l before (legal_start l before (Commit c u outs ∷ between) legal_mid) u t may.open_unit) in
    let now = settled_from l before (Commit c u outs) between i (Consumed u) tt legal_mid (ap (committed u) held ∙ if_same u u (Consumed u) (Held u t.attempt) refl) in
    let clash : Consumed u ≡ Held v second.0 = sym now ∙ second.1 in
    cc

-- after a kill the element is killed
killed_from : (l : Limits) (before between : List Event) (c i : ℕ) → IsLegal l (before ++ Kill c i ∷ between) → status_of l.attempts (before ++ Kill c i ∷ between) i ≡ Killed
killed_from l before between c i legal = settled_from l before (Kill c i) between i Killed tt legal (if_same i i Killed (status_of l.attempts before i) refl)

pub never_claimed_after_kill : NeverClaimedAfterKill
never_claimed_after_kill l before between after c d u i n legal =
    let mid = before ++ Kill c i ∷ between in
    let killed = killed_from l before between c i (legal_start l mid (Claim d u i n ∷ after) legal) in
    let may : MayClaim l mid d u i n = legal_at l mid (Claim d u i n) after legal in
    let clash : Killed ≡ Waiting (n - 1) = sym killed ∙ may.waits in
    cc

pub never_committed_after_kill : NeverCommittedAfterKill
never_committed_after_kill l before between after c d u i outs legal claims =
    let mid = before ++ Kill c i ∷ between in
    let killed = killed_from l before between c i (legal_start l mid (Commit d u outs ∷ after) legal) in
    let held = held_at l mid d u outs after i legal claims in
    let clash : Killed ≡ Held u held.0 = sym killed ∙ held.1 in
    cc

pub never_killed_after_kill : NeverKilledAfterKill
never_killed_after_kill l before between after c d i legal =
    let mid = before ++ Kill c i ∷ between in
    let killed = killed_from l before between c i (legal_start l mid (Kill d i ∷ after) legal) in
    let may : MayKill l mid d i = legal_at l mid (Kill d i) after legal in
    absurd (subst IsKillable killed may.free)

-- one event changes a status as the law says
moves_after : (l : Limits) (h : List Event) (e : Event) (i : ℕ) → Step l h e → (s : Status) → status_of l.attempts h i ≡ s
    → (status_after l.attempts i s e ≡ s) ⊎ Moves s (status_after l.attempts i s e)
moves_after l h (Enqueue c e) i step s is = inl refl
moves_after l h (Claim c u j n) i step s is =
    elim (eqb_tells j i) [
      | inl p ↦
          let waits : s ≡ Waiting (n - 1) = sym is ∙ (ap (status_of l.attempts h) (sym p.1) ∙ step.waits) in
          let count : n ≡ (n - 1) + 1 = let least = step.attempt in omega arith in
          inr (rw (if_same j i (Held u n) s p.1, waits) (inl (u, ap (Held u) count)))
      | inr p ↦ inl (if_other j i (Held u n) s p.1)
    ]
moves_after l h (Commit c u outs) i step (Held v n) is =
    elim (eqb_tells u v) [
      | inl p ↦ inr (inl (if_same u v (Consumed v) (Held v n) p.1))
      | inr p ↦ inl (if_other u v (Consumed v) (Held v n) p.1)
    ]
moves_after l h (Abort c u) i step (Held v n) is =
    elim (eqb_tells u v) [
      | inl p ↦ inr (inr (rw (if_same u v (if nat_lt n l.attempts then Waiting n else Parked n) (Held v n) p.1) (either (nat_lt n l.attempts))))
      | inr p ↦ inl (if_other u v (if nat_lt n l.attempts then Waiting n else Parked n) (Held v n) p.1)
    ]
  where
    either : (b : Bool) → (cond b (Waiting n) (Parked n) ≡ Waiting n) ⊎ (cond b (Waiting n) (Parked n) ≡ Parked n)
    either true = inl refl
    either false = inr refl
moves_after l h (Kill c j) i step s is =
    elim (eqb_tells j i) [
      | inl p ↦ inr (rw (if_same j i Killed s p.1) (may s (subst IsKillable (ap (status_of l.attempts h) p.1 ∙ is) step.free)))
      | inr p ↦ inl (if_other j i Killed s p.1)
    ]
  where
    may : (s : Status) → IsKillable s → Moves s Killed
    may (Waiting n) free = inr refl
    may (Parked n) free = inr refl
    may (Held u n) free = absurd free
    may (Consumed u) free = free
    may Killed free = free
moves_after l h (Requeue c j k) i step s is =
    elim (eqb_tells j i) [
      | inl p ↦ inr (rw (if_same j i (Waiting 0) s p.1, sym is ∙ (ap (status_of l.attempts h) (sym p.1) ∙ step.parked.1)) (inl refl))
      | inr p ↦ inl (if_other j i (Waiting 0) s p.1)
    ]
moves_after l h (Commit c u outs) i step (Waiting n) is = inl refl
moves_after l h (Commit c u outs) i step (Consumed v) is = inl refl
moves_after l h (Commit c u outs) i step (Parked n) is = inl refl
moves_after l h (Commit c u outs) i step Killed is = inl refl
moves_after l h (Abort c u) i step (Waiting n) is = inl refl
moves_after l h (Abort c u) i step (Consumed v) is = inl refl
moves_after l h (Abort c u) i step (Parked n) is = inl refl
moves_after l h (Abort c u) i step Killed is = inl refl

pub status_steps : StatusSteps
status_steps l h e i legal = rw (status_of-snoc l.attempts h e i) (moves_after l h e i (legal_at l h e [] legal) (status_of l.attempts h i) refl)

pub born_stays : BornStays
born_stays l h g i e legal begins is = rw (← begins.1) (element_of-kept h begins.0 i e is)

pub settled_stay : SettledStays
settled_stay l h g i legal begins settled =
    rw (← begins.1) (settled_stays l h begins.0 i (status_of l.attempts h i) settled (rw begins.1 legal) refl)

pub units_stay : UnitsStay
units_stay h g u begins =
    (λ t is. rw (← begins.1) (first-kept (claim_by u) h begins.0 t is), λ x is. rw (← begins.1) (first-kept (end_by u) h begins.0 x is))
