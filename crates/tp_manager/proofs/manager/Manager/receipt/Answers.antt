use Rattle.std.proofs.Common.{◌≡◌, sym, refl, ◌∙◌, ap, arith}
use Rattle.tp_rule.specs.Tables.{table_limits}
use Rattle.tp_rule.specs.Views.{view_of}
use Rattle.tp_manager.specs.Bounds.{receipt_steps}
use Rattle.tp_manager.specs.Shown.{ManagerShown, PassShown, Spot, spot}
use Rattle.tp_manager.specs.CallSteps.{Looked, Steady}
use Rattle.tp_manager.proofs.Calls.CallSteps.{climbs_same, follows, remembers}
use Rattle.tp_manager.proofs.Calls.Passes.{quiet_looked, rests_looked, steady_at}
use Rattle.tp_manager.proofs.Calls.Receipts.{left, left_shown}
use Rattle.tp_manager.proofs.manager.Manager.receipt.Goals as goal
use Rattle.tp_manager.proofs.manager.Manager.receipt.Goals.{After-leave}

steady : (c : After-leave) → Steady (table_limits c.self.inside.shared.words) (view_of c.pass.inside.seat)
steady c = steady_at _ _ _ (ap (λ (p : PassShown). p.limits) c.pass.view_is ∙ (c.requires.own.1 ∙ (sym (ap (λ (m : ManagerShown). m.limits) c.self.view_is) ∙ sym c.self.inside.shared.same))) c.pass.invariant.0.steady

-- where the pass is, before and after
abbrev old_spot : After-leave → Spot
old_spot c = spot c.pass.inside.seat.table c.pass.inside.lows c.pass.inside.run.drawn c.pass.inside.from

abbrev new_spot : After-leave → Spot
new_spot c = spot c.leave.new.seat.table c.pass.inside.lows c.pass.inside.run.drawn c.pass.inside.from

same_spot : (c : After-leave) → new_spot c ≡ old_spot c
same_spot c = ap (λ t. spot t c.pass.inside.lows c.pass.inside.run.drawn c.pass.inside.from) c.leave.ensures.same

step : (c : After-leave) → Looked (table_limits c.self.inside.shared.words) receipt_steps (view_of c.pass.inside.seat) (view_of c.leave.new.seat)
step c = left _ _ _ _ (steady c) c.leave.ensures.leaves

pub invariant_of-pass : goal.invariant_of-pass
invariant_of-pass c = let at = (goal.at.invariant_of-pass c).After-leave in
    (rests_looked (table_limits c.self.inside.shared.words) c.pass.inside.seat c.leave.new.seat ((steady at).pass.1) _ _ _ _ c.pass.invariant.0 receipt_steps (step at), remembers c.pass.inside.lows _ _ _ _ _ (step at).walk c.pass.invariant.1)

pub returns-clause-follows : goal.returns-clause-follows
returns-clause-follows c = let at = (goal.at.returns-clause-follows c).After-leave in
    follows (old_spot at) (new_spot at) (climbs_same c.pass.inside.lows c.pass.inside.run.drawn) (view_of c.pass.inside.seat) (view_of c.leave.new.seat) c.args.pass.now c.pass.view_is _ receipt_steps _ (step at).walk receipt_steps (omega arith)

pub returns-clause-leaves : goal.returns-clause-leaves
returns-clause-leaves c = let at = (goal.at.returns-clause-leaves c).After-leave in
    left_shown _ _ _ _ (steady at) (old_spot at) (new_spot at) c.args.pass.now _ c.leave.ensures.leaves c.pass.view_is (same_spot at) refl

pub returns-clause-quiet : goal.returns-clause-quiet
returns-clause-quiet c = let at = (goal.at.returns-clause-quiet c).After-leave in
    quiet_looked (old_spot at) (new_spot at) (view_of c.pass.inside.seat) (view_of c.leave.new.seat) c.args.pass.now c.pass.view_is _ receipt_steps (step at)
