use Rattle.std.proofs.Common.{[], subst, arith}
use Rattle.tp_rule.specs.Views.{view_of}
use Rattle.tp_manager.specs.Calls.{Follows}
use Rattle.tp_manager.specs.Shown.{spot}
use Rattle.tp_manager.proofs.Calls.CallSteps.{follows, climbs_same, walked_none}
use Rattle.tp_manager.proofs.manager.Pass.stays.Goals as goal

pub returns : goal.returns
returns c = let v = view_of c.self.inside.seat in let t = spot c.self.inside.seat.table c.self.inside.lows c.self.inside.run.drawn c.self.inside.from in
    subst (λ p. Follows 0 c.args.self.now p) c.self.view_is (follows t t (climbs_same c.self.inside.lows c.self.inside.run.drawn) v v c.args.self.now c.self.view_is v.limits 0 [] (walked_none v.limits v c.self.invariant.0.steady) 0 (omega arith))
