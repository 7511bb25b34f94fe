-- A requeue, on its way.
use Rattle.std.proofs.Common.{◌≡◌, ◌≢◌, ℕ, ◌+◌, ◌<◌, ◌≤◌, nat_lt, Bool, true, false, cond, Option, Some, None, List, [], ◌∷◌, ◌++◌, sym, refl, ap, ◌∙◌, subst, inr, ⊎_elim, arith}
use Rattle.std.proofs.lemmas.Bool.Decides.{nat_tests}
use mathlib.Core.List.{IsPrefix}
use Rattle.tp_model.specs.declared.types.Limits.{Limits}
use Rattle.tp_model.specs.declared.types.TheConstants.{MAX_ROUNDS}
use Rattle.tp_model.specs.declared.types.Refusal.{Refusal}
use Rattle.tp_model.specs.declared.types.Refusal.TheVariants as refusals
use Rattle.tp_model.specs.declared.types.Status.TheVariants.{Waiting, Held, Consumed, Parked, Killed}
use Rattle.tp_model.specs.declared.event.Event.{Event}
use Rattle.tp_model.specs.declared.event.Event.TheVariants.{Requeue}
use Rattle.tp_model.specs.declared.trace.StepKind.TheVariants as kinds
use Rattle.tp_model.specs.History.{Committed, Aborted, UnitEnd, end_of, rounds, status_of}
use Rattle.tp_model.specs.Passes.{opening_of}
use Rattle.tp_model.specs.Words.{ClaimWord, TakenWord, claim_word, round_in, taken_status}
use Rattle.tp_model.specs.Steps.{IsLegal, IsParked}
use Rattle.tp_model.proofs.WordProofs.{rounds_by_words}
use Rattle.tp_model.proofs.Bridges.{begins_trans, found_later, status_taken}
use Rattle.tp_model.proofs.Later.{stood}
use Rattle.tp_rule.specs.Steps.{HasElement, MakesRequeue, tail_before, with_event}
use Rattle.tp_rule.specs.Views.{SeatShown, hand, view_of}
use Rattle.tp_rule.specs.declared.view.Hand.{Hand}
use Rattle.tp_rule.specs.declared.view.View.{View}
use Rattle.tp_manager.specs.declared.manager.Run.{Run}
use Rattle.tp_manager.specs.declared.manager.Task.{Task}
use Rattle.tp_manager.specs.Calls.{AtPoint, claims_in}
use Rattle.tp_manager.specs.Shown.{Spot, PassShown, shown}
use Rattle.tp_manager.specs.Requeues.{IsBetween, IsPastRequeue, Renewed, RequeueFails, Requeues}
use Rattle.tp_manager.specs.CallSteps.{Acted, Looked, with_trace}
use Rattle.tp_manager.specs.BetweenCalls.{Rests}
use Rattle.tp_manager.proofs.Kills.Moves.{moved}
use Rattle.tp_manager.proofs.Calls.Passes.{done_walked, drawn_later, claims_append, quiet_looked, steady_at, task_later, cleared_later}
use Rattle.tp_manager.proofs.Calls.Points.{opening_kept}
use Rattle.tp_manager.proofs.Calls.CallSteps.{acted_then, at_point, grew_hand, grew_walked, looked, looked_begins, grew_steady, walked_begins, walked_then}

-- statuses that aren't parked

waiting_not : (n : ℕ) → ¬ IsParked (Waiting n)
waiting_not n p = let e = p.1 in cc

held_not : (u n : ℕ) → ¬ IsParked (Held u n)
held_not u n p = let e = p.1 in cc

consumed_not : (u : ℕ) → ¬ IsParked (Consumed u)
consumed_not u p = let e = p.1 in cc

killed_not : ¬ IsParked Killed
killed_not p = let e = p.1 in cc

module _ (l : Limits) where
  -- what stands so at one history between two
  pub between : (a p b : List Event) (Holds : List Event → Type 0) → IsPrefix a p → IsPrefix p b → Holds p → IsBetween a b Holds
  between a p b Holds before after holds = (p, before, after, holds)

  pub not_waiting : (h : List Event) (i n : ℕ) → status_of l.attempts h i ≡ Waiting n → ¬ IsParked (status_of l.attempts h i)
  not_waiting h i n is p = waiting_not n (subst IsParked is p)

  pub not_held : (h : List Event) (i u n : ℕ) → status_of l.attempts h i ≡ Held u n → ¬ IsParked (status_of l.attempts h i)
  not_held h i u n is p = held_not u n (subst IsParked is p)

  pub not_consumed : (h : List Event) (i u : ℕ) → status_of l.attempts h i ≡ Consumed u → ¬ IsParked (status_of l.attempts h i)
  not_consumed h i u is p = consumed_not u (subst IsParked is p)

  pub not_killed : (h : List Event) (i : ℕ) → status_of l.attempts h i ≡ Killed → ¬ IsParked (status_of l.attempts h i)
  not_killed h i is p = killed_not (subst IsParked is p)

  -- an element with attempts left isn't parked
  pub not_yet : (h : List Event) (i n u r : ℕ) → IsLegal l h → claim_word h i ≡ TakenWord n u r → n < l.attempts → ¬ IsParked (status_of l.attempts h i)
  not_yet h i n u r legal is less p = go (end_of h u) (subst IsParked (status_taken l h i n u legal is) p)
    where
      low : (b : Bool) → nat_lt n l.attempts ≡ b → IsParked (cond b (Waiting n) (Parked n)) → ⊥
      low true e q = waiting_not n q
      low false e q = let above : l.attempts ≤ n = grind (arith, nat_tests) in omega arith

      go : (x : Option UnitEnd) → IsParked (taken_status l.attempts n u x) → ⊥
      go None q = held_not u n q
      go (Some (Committed f m)) q = consumed_not u q
      go (Some Aborted) q = low (nat_lt n l.attempts) refl q

  parked_status : (n u : ℕ) (x : Option UnitEnd) → x ≡ Some Aborted → l.attempts ≤ n → IsParked (taken_status l.attempts n u x)
  parked_status n u x ended high = subst (λ z. IsParked (taken_status l.attempts n u z)) (sym ended) (go (nat_lt n l.attempts) refl)
    where
      go : (b : Bool) → nat_lt n l.attempts ≡ b → IsParked (cond b (Waiting n) (Parked n))
      go true e = let below : n < l.attempts = grind (arith, nat_tests) in absurd (omega arith)
      go false e = (n, refl)

  -- the unit of the last attempt of the last round was found aborted
  pub no_round : (a b : List Event) (i n u r : ℕ) → IsLegal l b → IsPrefix a b → claim_word a i ≡ TakenWord n u r → end_of b u ≡ Some Aborted → l.attempts ≤ n → 3 ≤ r
      → IsBetween a b (λ h. IsParked (status_of l.attempts h i) × (rounds h i ≡ MAX_ROUNDS))
  no_round a b i n u r legal begins is ended high last =
      let t = stood l a i n u r b legal begins is ended in
      let at : IsLegal l t.0 = t.5 in
      let told = rounds_by_words l t.0 i at in
      let word : r ≡ rounds t.0 i = sym (ap round_in t.3) ∙ told.0 in
      let few : rounds t.0 i ≤ 3 = told.1 in
      (t.0, t.1, t.2, (subst IsParked (sym (status_taken l t.0 i n u at t.3)) (parked_status n u (end_of t.0 u) t.4 high), (let e : rounds t.0 i ≡ 3 = omega arith in e)))

  -- another claim than the one that was found: the element wasn't parked in between
  pub gone_on : (a b : List Event) (i : ℕ) (w : ClaimWord) → IsLegal l b → IsPrefix a b → w ≡ claim_word a i → claim_word b i ≢ w → IsBetween a b (λ h. ¬ IsParked (status_of l.attempts h i))
  gone_on a b i w legal begins found differs = ⊎_elim (λ same. absurd (differs (same ∙ sym found))) (λ t. t) (moved l i IsParked held_not killed_not (inr (waiting_not 0)) a b legal begins)

  -- the requeue itself
  pub renewed_by : (n i r : ℕ) (v w y : View) → 1 ≤ r → r ≤ 3 → Looked l n v w → MakesRequeue w i r y → Renewed l (n + 1) i r v y
  renewed_by n i r v w y low high a g =
      let e : Event = Requeue (hand w).number i r in let f : Hand → Hand = with_event e in let s = a.walk.steady in let h = grew_hand l kinds.RequeueExchange f (e ∷ []) w y s g in
      let steady = grew_steady l kinds.RequeueExchange f (e ∷ []) w y s g refl in
      let walk = grew_walked l kinds.RequeueExchange f (e ∷ []) w y s g refl refl refl steady in
      let same : (hand w).number ≡ (hand v).number = a.walk.number in
      record {
        low = low;
        high = high;
        marks = a.marks ++ record { kind = kinds.RequeueExchange; seen = y.seen } ∷ [];
        walk = walked_then l n 1 a.marks _ v w y a.walk walk;
        kept = subst (λ k. hand y ≡ with_trace (hand y).trace (with_event (Requeue k i r) (hand v))) same
            (h ∙ (ap (λ t. with_trace t (f (hand w))) (sym (ap (λ (z : Hand). z.trace) h)) ∙ ap (λ k. with_trace (hand y).trace (f k)) a.kept));
        before = w.seen ++ g.between;
        begins = begins_trans v.seen w.seen (w.seen ++ g.between) (looked_begins l n v w a) (g.between, refl);
        ends = g.seen ∙ ap (λ k. (w.seen ++ g.between) ++ Requeue k i r ∷ []) same;
      }

  pub renewed_then : (n m i r : ℕ) (v w y : View) → Looked l n v w → Renewed l m i r w y → Renewed l (n + m) i r v y
  renewed_then n m i r v w y a t = let same : (hand w).number ≡ (hand v).number = a.walk.number in record {
    low = t.low;
    high = t.high;
    marks = a.marks ++ t.marks;
    walk = walked_then l n m a.marks t.marks v w y a.walk t.walk;
    kept = subst (λ k. hand y ≡ with_trace (hand y).trace (with_event (Requeue k i r) (hand v))) same (t.kept ∙ ap (λ k. with_trace (hand y).trace (with_event (Requeue (hand w).number i r) k)) a.kept);
    before = t.before;
    begins = begins_trans v.seen w.seen t.before (looked_begins l n v w a) t.begins;
    ends = t.ends ∙ ap (λ k. t.before ++ Requeue k i r ∷ []) same;
  }

-- what is so of the pass afterwards
pub rests_renewed : (l : Limits) (seat next : SeatShown) (number : ℕ) (run : Run) (used : ℕ) (task : Option Task) → (view_of seat).limits ≡ l → Rests seat number run used task
    → (n i r : ℕ) → Renewed l n i r (view_of seat) (view_of next) → Rests next number run used task
rests_renewed l seat next number run used task same r n i round a = let k = a.kept in let lim : l ≡ (view_of next).limits = sym a.walk.steady.pass.1 in record {
  steady = steady_at l (view_of next).limits (view_of next) lim a.walk.steady;
  number_is = ap (λ (z : Hand). z.number) k ∙ r.number_is;
  run_is = (ap (λ (z : Hand). z.next) k ∙ r.run_is.0, ap (λ (z : Hand). z.left) k ∙ r.run_is.1);
  tail = subst (λ (z : Hand). run.tail ≤ tail_before run.tail_stage z) (sym k) r.tail;
  drawn = drawn_later (view_of seat) (view_of next) run.drawn (sym (same ∙ lim)) a.walk.knows r.drawn;
  done = done_walked l n a.marks (view_of seat) (view_of next) run.done same a.walk r.done;
  used_is = ap (λ (z : Hand). z.claimed) k ∙ r.used_is;
  used_below = subst (λ (z : Limits). used ≤ z.units) (same ∙ lim) r.used_below;
  claims = ap (λ (z : Hand). claims_in z.mine) k ∙ (claims_append (hand (view_of seat)).mine (Requeue (hand (view_of seat)).number i round ∷ []) ∙ (let c = r.claims in omega arith));
  no_drafts = ap (λ (z : Hand). z.drafts) k ∙ r.no_drafts;
  cleared = cleared_later (view_of seat) (view_of next) (ap (λ (z : Hand). z.passed_from) k, ap (λ (z : Hand). z.passed_to) k) a.walk.knows r.cleared;
  blank = ap (λ (z : Hand). z.next_body) k ∙ r.blank;
  open_is = ap (λ (z : Hand). z.open_unit) k ∙ r.open_is;
  work = task_later (view_of seat).seen (view_of next).seen number task (walked_begins l n a.marks (view_of seat) (view_of next) a.walk) r.work;
}

module _ (t t' : Spot) (v x w : View) (old : PassShown) (is : shown t v ≡ old) (l : Limits) (n m : ℕ) (a : Acted l n v x) where
  -- what a caller sees of it
  pub requeues_shown : (i r : ℕ) → Renewed l m i r v w → Requeues i r old (shown t' w)
  requeues_shown i r b = subst (λ (p : PassShown). Requeues i r p (shown t' w)) is record {
    low = b.low;
    high = b.high;
    adds = record { mine = ap (λ (z : Hand). z.mine) b.kept; before = b.before; seen = b.ends; begins = b.begins };
    open_unit = ap (λ (z : Hand). z.open_unit) b.kept;
    run = (ap (λ (z : Hand). z.next) b.kept, ap (λ (z : Hand). z.left) b.kept, ap (λ (z : Hand). z.blocks) b.kept);
  }

  -- a history between two that a part of the call has seen, after one that looks, is a point of the call
  pub point_between : (b : Looked l m x w) (Holds : List Event → Type 0) → IsBetween x.seen w.seen Holds → AtPoint old (shown t' w) Holds
  point_between b Holds p = at_point t t' v w old is l (n + m) (a.marks ++ b.marks) (walked_then l n m a.marks b.marks v x w a.walk b.walk) Holds p.0
      (record {
        opened = subst (λ z. IsPrefix z p.0) (sym (opening_kept v.seen a.marks b.marks a.step.0 a.step.1 a.step.2)) (begins_trans (opening_of v.seen a.marks) x.seen p.0 a.walk.closes p.1);
        seen = p.2;
      }) p.3

  pub requeue_shown : (i : ℕ) (e : Refusal) (b : Looked l m x w) → HasElement x.seen i → IsPastRequeue l i x.seen w.seen e → RequeueFails l i old (shown t' w) e
  requeue_shown i refusals.NoMemory b born p = p
  requeue_shown i refusals.BadLimits b born p = p
  requeue_shown i refusals.BadStage b born p = p
  requeue_shown i refusals.NotThere b born p = absurd p
  requeue_shown i (refusals.Consumed u) b born p = p
  requeue_shown i refusals.AlreadyKilled b born p = p
  requeue_shown i refusals.Full b born p = p
  requeue_shown i refusals.NotParked b born p = (
    quiet_looked t t' v w old is l (n + m) (looked l (n + m) v w (acted_then l n m v x w a b)),
    point_between b _ (p.0, p.1, p.2, (born.0, found_later x.seen p.0 p.1 i born.0 born.1, p.3)),
  )
  requeue_shown i refusals.NoRound b born p = (
    quiet_looked t t' v w old is l (n + m) (looked l (n + m) v w (acted_then l n m v x w a b)),
    point_between b _ (p.0, p.1, p.2, (born.0, found_later x.seen p.0 p.1 i born.0 born.1, p.3.0, p.3.1)),
  )
  requeue_shown i refusals.NotHeld b born p = p
  requeue_shown i refusals.NotWaiting b born p = p
  requeue_shown i refusals.NoUnit b born p = p
