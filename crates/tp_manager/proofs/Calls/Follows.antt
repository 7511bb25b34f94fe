-- The steps of one call after those of another.
use Rattle.std.proofs.Common.{◌≡◌, ℕ, ◌+◌, ◌≤◌, List, ◌++◌, length, drop, sym, ◌∙◌, ap, subst, append_assoc, length-append, arith}
use mathlib.Core.List.{IsPrefix}
use Rattle.tp_model.specs.declared.trace.TraceEntry.{TraceEntry}
use Rattle.tp_model.specs.Passes.{HasLook, opening_of}
use Rattle.tp_model.proofs.Bridges.{begins_trans}
use Rattle.tp_manager.specs.Calls.{Follows, HasLooked, steps_of}
use Rattle.tp_manager.specs.Shown.{PassShown}
use Rattle.tp_manager.proofs.Calls.Points.{drop_steps, has_more, opening_later, opens_later}

module _ (n k : ℕ) (p m q : PassShown) (a : Follows n p m) (b : Follows k m q) where
  traced_both : q.trace ≡ p.trace ++ (steps_of p m ++ steps_of m q)
  traced_both = b.traced ∙ (ap (λ (t : List TraceEntry). t ++ steps_of m q) a.traced ∙ append_assoc p.trace (steps_of p m) (steps_of m q))

  -- the steps of both are those of each
  pub steps_both : steps_of p q ≡ steps_of p m ++ steps_of m q
  steps_both = ap (drop (length p.trace)) traced_both ∙ drop_steps p.trace (steps_of p m ++ steps_of m q)

  pub follows_then : Follows (n + k) p q
  follows_then =
      let one : List TraceEntry = steps_of p m in
      let two : List TraceEntry = steps_of m q in
      let opens : IsPrefix p.seen (opening_of p.seen (one ++ two)) = opens_later p.seen m.seen one two a.opened a.closed b.opened in
      let closes : IsPrefix (opening_of p.seen (one ++ two)) q.seen = begins_trans _ _ q.seen (opening_later p.seen m.seen one two a.closed b.opened) b.closed in
      record {
        shows = b.shows;
        number = b.number ∙ a.number;
        traced = traced_both ∙ ap (λ (t : List TraceEntry). p.trace ++ t) (sym steps_both);
        few = subst (λ (t : List TraceEntry). length t ≤ n + k) (sym steps_both) (omega (arith, length-append one two, a.few, b.few));
        opened = subst (λ (t : List TraceEntry). IsPrefix p.seen (opening_of p.seen t)) (sym steps_both) opens;
        closed = subst (λ (t : List TraceEntry). IsPrefix (opening_of p.seen t) q.seen) (sym steps_both) closes;
        lows = λ i. let up = a.lows i in let on = b.lows i in omega arith;
        drawn = let up = a.drawn in let on = b.drawn in omega arith;
      }

  -- what looked in the first looked in both
  pub has_looked_then : HasLooked p m → HasLooked p q
  has_looked_then h = subst HasLook (sym steps_both) (has_more (steps_of p m) (steps_of m q) h)

-- a bound that is larger holds too
pub follows_within : (n k : ℕ) (p q : PassShown) → n ≤ k → Follows n p q → Follows k p q
follows_within n k p q le f = record { shows = f.shows; number = f.number; traced = f.traced; few = omega (arith, f.few, le); opened = f.opened; closed = f.closed; lows = f.lows; drawn = f.drawn }
