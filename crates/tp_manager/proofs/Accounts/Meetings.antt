-- Two passes that met.
use Rattle.std.proofs.Common.{◌≡◌, ◌<◌, ℕ, Some, [], ◌∷◌, ◌++◌, refl, sym, ap, ◌∙◌, subst, arith, append_assoc}
use mathlib.Core.List.{IsPrefix}
use Rattle.tp_model.specs.declared.types.Limits.{Limits}
use Rattle.tp_model.specs.History.{here, there, events_by}
use Rattle.tp_model.specs.Passes.{AreEnded, IsOwnOpen, IsRun}
use Rattle.tp_model.specs.Steps.{IsLegal}
use Rattle.tp_model.proofs.Bridges.{begins_refl}
use Rattle.tp_rule.specs.Steps.{IsSo, SeatsMeet}
use Rattle.tp_rule.specs.Views.{IsOnePass, hand}
use Rattle.tp_rule.specs.declared.view.Hand.{Hand}
use Rattle.tp_rule.specs.declared.view.View.{View}
use Rattle.tp_manager.specs.Bounds.{meet_steps, met_steps}
use Rattle.tp_manager.specs.Meetings as Met
use Rattle.tp_manager.specs.Meetings.{load, seat_load}
use Rattle.tp_manager.specs.Shown.{Spot, PassShown, shown}
use Rattle.tp_manager.specs.CallSteps.{Acted, IsKnown, Steady}

-- a pass that has seen more, and done nothing else
module _ (l : Limits) (v w : View) (s : Steady l v) (one : IsOnePass w) (lim : w.limits ≡ l) (legal : IsLegal l w.seen) (begins : IsPrefix v.seen w.seen) (own : (hand w).mine ≡ events_by (hand w).number w.seen)
    (open_own : (u : ℕ) → (hand w).open_unit ≡ Some u → IsOwnOpen w.seen (hand w).number u) (ended : AreEnded w.seen (hand w).number (hand w).open_unit)
    (number : (hand w).number ≡ (hand v).number) (run : IsRun l w.seen (hand w).number (hand w).blocks (hand w).next (hand w).left) (known : IsKnown l w) where
  pub steady_seen : Steady l w
  steady_seen = record {
    pass = (one, lim);
    shows = record {
      given = subst (λ n. n < l.parts) (sym number) s.shows.given;
      legal = legal;
      own = own;
      run = run;
      open_own = open_own;
      ended = ended;
    };
    known = known;
  }

module _ (l : Limits) (v w x y : View) (sv : Steady l v) (sw : Steady l w) (m : SeatsMeet v w x y) where
  legal : IsLegal l x.seen
  legal = subst (λ (z : Limits). IsLegal z x.seen) sv.pass.1 m.legal

  steady_first : Steady l x
  steady_first = let h = m.first_is in steady_seen l v x sv m.first_one (m.limits.0 ∙ sv.pass.1) legal m.first_saw m.mine.0 m.open_own.0 m.ended.0 (ap (λ (a : Hand). a.number) h)
      (subst (λ (z : Limits). IsRun z x.seen (hand x).number (hand x).blocks (hand x).next (hand x).left) sv.pass.1 m.run.0)
      (λ z q. subst (λ (k : Limits). IsSo k x.seen z) sv.pass.1 (m.is_so.0 z q))

  steady_second : Steady l y
  steady_second = let h = m.second_is in steady_seen l w y sw m.second_one (m.limits.1 ∙ sv.pass.1) (subst (IsLegal l) m.same legal) (subst (IsPrefix w.seen) m.same m.second_saw) m.mine.1 m.open_own.1 m.ended.1
      (ap (λ (a : Hand). a.number) h) (subst (λ (z : Limits). IsRun z y.seen (hand y).number (hand y).blocks (hand y).next (hand y).left) sv.pass.1 m.run.1)
      (λ z q. subst (λ (k : Limits). IsSo k y.seen z) sv.pass.1 (m.is_so.1 z q))

  pub first_trace : (hand x).trace ≡ (hand v).trace ++ seat_load v.seen ∷ load x.seen ∷ seat_load x.seen ∷ []
  first_trace = ap (λ (a : Hand). a.trace) m.first_is ∙ (append_assoc ((hand v).trace ++ seat_load v.seen ∷ []) (load x.seen ∷ []) (seat_load x.seen ∷ []) ∙ append_assoc (hand v).trace (seat_load v.seen ∷ []) (load x.seen ∷ seat_load x.seen ∷ []))

  pub second_trace : (hand y).trace ≡ (hand w).trace ++ load y.seen ∷ []
  second_trace = ap (λ (a : Hand). a.trace) m.second_is ∙ ap (λ h. (hand w).trace ++ load h ∷ []) m.same

  -- what a meeting is for the first
  pub met_first : Acted l meet_steps v x
  met_first = let h = m.first_is in record {
    marks = seat_load v.seen ∷ load x.seen ∷ seat_load x.seen ∷ [];
    walk = record { traced = first_trace; few = omega arith; opens = m.first_saw; closes = begins_refl x.seen; number = ap (λ (a : Hand). a.number) h; limits = sv.pass.1; steady = steady_first; knows = m.knows.0 };
    kept = h ∙ ap (λ t. record (hand v) { trace = t }) (sym (ap (λ (a : Hand). a.trace) h));
    step = (load x.seen, there here, refl);
  }

  -- and for the second
  pub met_second : Acted l met_steps w y
  met_second = let h = m.second_is in record {
    marks = load y.seen ∷ [];
    walk = record { traced = second_trace; few = omega arith; opens = subst (IsPrefix w.seen) m.same m.second_saw; closes = begins_refl y.seen; number = ap (λ (a : Hand). a.number) h; limits = sw.pass.1; steady = steady_second; knows = m.knows.1 };
    kept = h ∙ ap (λ t. record (hand w) { trace = t }) (sym (ap (λ (a : Hand). a.trace) h));
    step = (load y.seen, here, refl);
  }

  -- what both show
  pub met_shown : (t u t' u' : Spot) (a b : PassShown) → shown t v ≡ a → shown u w ≡ b → Met.Meets a b (shown t' x) (shown u' y)
  met_shown t u t' u' a b is_a is_b = subst (λ (p : PassShown × PassShown). Met.Meets p.0 p.1 (shown t' x) (shown u' y)) (λ i. (is_a i, is_b i)) record {
    same = m.same;
    first_saw = m.first_saw;
    second_saw = subst (IsPrefix w.seen) m.same m.second_saw;
    first_trace = first_trace;
    second_trace = second_trace;
  }
