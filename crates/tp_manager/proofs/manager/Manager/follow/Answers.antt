use Rattle.std.proofs.Common.{◌≡◌, sym, ◌∙◌, ap, arith}
use Rattle.tp_rule.specs.Tables.{table_limits}
use Rattle.tp_rule.specs.Views.{view_of}
use Rattle.tp_manager.specs.Bounds.{follow_steps}
use Rattle.tp_manager.specs.Receipts.{ReceiptShown}
use Rattle.tp_manager.specs.Shown.{ManagerShown, PassShown, Spot, spot}
use Rattle.tp_manager.specs.CallSteps.{Acted, Steady}
use Rattle.tp_manager.proofs.Calls.CallSteps.{climbs_same, follows, has_looked, looked, remembers}
use Rattle.tp_manager.proofs.Calls.Passes.{quiet_looked, rests_looked, steady_at}
use Rattle.tp_manager.proofs.Calls.Receipts.{followed, followed_shown}
use Rattle.tp_manager.proofs.manager.Manager.follow.Goals as goal
use Rattle.tp_manager.proofs.manager.Manager.follow.Goals.{After-follow}

steady : (c : After-follow) → Steady (table_limits c.self.inside.shared.words) (view_of c.pass.inside.seat)
steady c = steady_at _ _ _ (ap (λ (p : PassShown). p.limits) c.pass.view_is ∙ (c.requires.own.1 ∙ (sym (ap (λ (m : ManagerShown). m.limits) c.self.view_is) ∙ sym c.self.inside.shared.same))) c.pass.invariant.0.steady

-- where the pass is, before and after
abbrev old_spot : After-follow → Spot
old_spot c = spot c.pass.inside.seat.table c.pass.inside.lows c.pass.inside.run.drawn c.pass.inside.from

abbrev new_spot : After-follow → Spot
new_spot c = spot c.follow.new.seat.table c.pass.inside.lows c.pass.inside.run.drawn c.pass.inside.from

same_spot : (c : After-follow) → new_spot c ≡ old_spot c
same_spot c = ap (λ t. spot t c.pass.inside.lows c.pass.inside.run.drawn c.pass.inside.from) c.follow.ensures.same

step : (c : After-follow) → Acted (table_limits c.self.inside.shared.words) follow_steps (view_of c.pass.inside.seat) (view_of c.follow.new.seat)
step c = followed _ _ _ _ (steady c) c.follow.ensures.follows

pub invariant_of-pass : goal.invariant_of-pass
invariant_of-pass c = let at = (goal.at.invariant_of-pass c).After-follow in
    (rests_looked (table_limits c.self.inside.shared.words) c.pass.inside.seat c.follow.new.seat ((steady at).pass.1) _ _ _ _ c.pass.invariant.0 follow_steps (looked _ _ _ _ (step at)), remembers c.pass.inside.lows _ _ _ _ _ (step at).walk c.pass.invariant.1)

pub returns-clause-follows : goal.returns-clause-follows
returns-clause-follows c = let at = (goal.at.returns-clause-follows c).After-follow in
    follows (old_spot at) (new_spot at) (climbs_same c.pass.inside.lows c.pass.inside.run.drawn) (view_of c.pass.inside.seat) (view_of c.follow.new.seat) c.args.pass.now c.pass.view_is _ follow_steps _ (step at).walk follow_steps (omega arith)

pub returns-clause-looks : goal.returns-clause-looks
returns-clause-looks c = let at = (goal.at.returns-clause-looks c).After-follow in
    has_looked (old_spot at) (new_spot at) (view_of c.pass.inside.seat) (view_of c.follow.new.seat) c.args.pass.now c.pass.view_is _ follow_steps _ (step at).walk (step at).step

pub returns-clause-follows_receipt : goal.returns-clause-follows_receipt
returns-clause-follows_receipt c = let at = (goal.at.returns-clause-follows_receipt c).After-follow in
    followed_shown _ _ _ _ (steady at) (old_spot at) (new_spot at) c.args.pass.now _ c.follow.ensures.follows c.pass.view_is (same_spot at) (ap (λ (z : ReceiptShown). z.seen) c.receipt.view_is)

pub returns-clause-quiet : goal.returns-clause-quiet
returns-clause-quiet c = let at = (goal.at.returns-clause-quiet c).After-follow in
    quiet_looked (old_spot at) (new_spot at) (view_of c.pass.inside.seat) (view_of c.follow.new.seat) c.args.pass.now c.pass.view_is _ follow_steps (looked _ _ _ _ (step at))
