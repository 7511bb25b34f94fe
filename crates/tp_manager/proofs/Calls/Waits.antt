-- An element that waits does so until it is claimed or killed.
use Rattle.std.proofs.Common.{◌≡◌, ◌⊎◌, ℕ, List, [], ◌∷◌, ◌++◌, refl, sym, ap, ◌∙◌, subst, inl, inr, ⊎_elim, append_assoc}
use Rattle.std.proofs.lemmas.List.Sums.{fold-append}
use Rattle.std.specs.List.{fold}
use mathlib.Core.Logic.{dite}
use native.Mathlib.Decide.{ℕ_discrete}
use Rattle.tp_model.specs.declared.event.Event.{Event}
use Rattle.tp_model.specs.declared.event.Event.TheVariants.{Enqueue, Claim, Commit, Abort, Kill, Requeue}
use Rattle.tp_model.specs.declared.types.Limits.{Limits}
use Rattle.tp_model.specs.declared.types.Status.{Status}
use Rattle.tp_model.specs.declared.types.Status.TheVariants.{Waiting, Held, Killed}
use Rattle.tp_model.specs.History.{In, IsUnborn, here, there, status_after, status_of}
use mathlib.Core.List.{IsPrefix}
use Rattle.tp_model.proofs.Bridges.{begins_trans, births_of, found_later, in_left, new_birth}
use Rattle.tp_model.proofs.Histories.{legal_at, legal_start, status_of-snoc, unborn_waits}
use Rattle.tp_model.proofs.Lists.{if_other, if_same}
use Rattle.tp_manager.specs.Calls.{IsWaiting, opening}
use Rattle.tp_manager.specs.Observed.{IdleIfTaken, TakenSince, TakesOut, WaitsAtFirst, WaitsTillTaken}

-- one event more
step : (limit i n : ℕ) (e : Event) → IsWaiting (status_after limit i (Waiting n) e) ⊎ TakesOut i e
step limit i n (Enqueue c x) = inl (n, refl)
step limit i n (Claim c u j k) = dite (ℕ_discrete j i) (λ same. inr (inl (c, u, k, ap (λ z. Claim c u z k) same))) (λ other. inl (n, if_other j i (Held u k) (Waiting n) other))
step limit i n (Commit c u outs) = inl (n, refl)
step limit i n (Abort c u) = inl (n, refl)
step limit i n (Kill c j) = dite (ℕ_discrete j i) (λ same. inr (inr (c, ap (λ z. Kill c z) same))) (λ other. inl (n, if_other j i Killed (Waiting n) other))
step limit i n (Requeue c j r) = dite (ℕ_discrete j i) (λ same. inl (0, if_same j i (Waiting 0) (Waiting n) same)) (λ other. inl (n, if_other j i (Waiting 0) (Waiting n) other))

-- and some
taken : (limit i : ℕ) (s : Status) (es : List Event) → IsWaiting s → ¬ IsWaiting (fold (status_after limit i) s es) → (e : Event) × In e es × TakesOut i e
taken limit i s [] waits not = absurd (not waits)
taken limit i s (e ∷ es) waits not = ⊎_elim
    (λ still. let t = taken limit i (status_after limit i s e) es (subst (λ z. IsWaiting (status_after limit i z e)) (sym waits.1) still) not in (t.0, there t.1, t.2))
    (λ out. (e, here, out)) (step limit i waits.0 e)

pub waits_till_taken : (l : Limits) → WaitsTillTaken l
waits_till_taken l i from to begins waits not = let more = begins.0 in
    let gone : ¬ IsWaiting (fold (status_after l.attempts i) (status_of l.attempts from i) more) =
    subst (λ s. ¬ IsWaiting s) (fold-append (status_after l.attempts i) (Waiting 0) from more) (subst (λ h. ¬ IsWaiting (status_of l.attempts h i)) (sym begins.1) not) in
    let t = taken l.attempts i (status_of l.attempts from i) more waits gone in
    record { since = more; goes_on = sym begins.1; event = t.0; among = t.1; takes = t.2 }

taken_later : (i : ℕ) (from p to : List Event) → IsPrefix p to → TakenSince i from p → TakenSince i from to
taken_later i from p to begins t = record {
  since = t.since ++ begins.0;
  goes_on = sym begins.1 ∙ (ap (λ h. h ++ begins.0) t.goes_on ∙ append_assoc from t.since begins.0);
  event = t.event;
  among = in_left begins.0 t.among;
  takes = t.takes;
}

pub waits_at_first : (l : Limits) → WaitsAtFirst l
waits_at_first l before c x legal = let h : List Event = before ++ Enqueue c x ∷ [] in
    let fresh : IsUnborn before x.id = (births_of l before (Enqueue c x) x (legal_at l before (Enqueue c x) [] legal) here).1 in
    let old : status_of l.attempts before x.id ≡ Waiting 0 = unborn_waits l before (legal_start l before (Enqueue c x ∷ []) legal) x.id fresh in
    (new_birth before c x fresh, (0, status_of-snoc l.attempts before (Enqueue c x) x.id ∙ old))

pub idle_if_taken : (l : Limits) → IdleIfTaken l
idle_if_taken l stage n from old new x saw stands of waits follows none =
    let opens = begins_trans _ _ _ saw follows.opened in
    let at = none x (found_later from (opening old new) opens x.id x stands) of in
    taken_later x.id from at.0 new.seen at.1.seen (waits_till_taken l x.id from at.0 (begins_trans _ _ _ opens at.1.opened) waits at.2)
