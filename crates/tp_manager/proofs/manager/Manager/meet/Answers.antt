use Rattle.std.proofs.Common.{sym, ◌∙◌, ap, arith}
use Rattle.tp_rule.specs.Tables.{table_limits}
use Rattle.tp_rule.specs.Views.{view_of}
use Rattle.tp_manager.specs.Bounds.{meet_steps, met_steps}
use Rattle.tp_manager.specs.Shown.{ManagerShown, PassShown, spot}
use Rattle.tp_manager.specs.CallSteps.{Acted, Steady}
use Rattle.tp_manager.proofs.Accounts.Meetings.{met_first, met_second, met_shown}
use Rattle.tp_manager.proofs.Calls.CallSteps.{follows, has_looked, looked, climbs_same, remembers}
use Rattle.tp_manager.proofs.Calls.Passes.{quiet_looked, rests_looked, steady_at}
use Rattle.tp_manager.proofs.manager.Manager.meet.Goals as goal
use Rattle.tp_manager.proofs.manager.Manager.meet.Goals.{After-meet}

first_steady : (c : After-meet) → Steady (table_limits c.self.inside.shared.words) (view_of c.first.inside.seat)
first_steady c = steady_at _ _ _ (ap (λ (p : PassShown). p.limits) c.first.view_is ∙ (c.requires.own.0.1 ∙ (sym (ap (λ (m : ManagerShown). m.limits) c.self.view_is) ∙ sym c.self.inside.shared.same))) c.first.invariant.0.steady

second_steady : (c : After-meet) → Steady (table_limits c.self.inside.shared.words) (view_of c.second.inside.seat)
second_steady c = steady_at _ _ _ (ap (λ (p : PassShown). p.limits) c.second.view_is ∙ (c.requires.own.1.1 ∙ (sym (ap (λ (m : ManagerShown). m.limits) c.self.view_is) ∙ sym c.self.inside.shared.same))) c.second.invariant.0.steady

one : (c : After-meet) → Acted (table_limits c.self.inside.shared.words) meet_steps (view_of c.first.inside.seat) (view_of c.meet.new.seat)
one c = met_first _ _ _ _ _ (first_steady c) (second_steady c) c.meet.ensures.meets

two : (c : After-meet) → Acted (table_limits c.self.inside.shared.words) met_steps (view_of c.second.inside.seat) (view_of c.meet.new.other)
two c = met_second _ _ _ _ _ (first_steady c) (second_steady c) c.meet.ensures.meets

pub invariant_of-first : goal.invariant_of-first
invariant_of-first c = let at = (goal.at.invariant_of-first c).After-meet in
    (rests_looked (table_limits c.self.inside.shared.words) c.first.inside.seat c.meet.new.seat ((first_steady at).pass.1) _ _ _ _ c.first.invariant.0 meet_steps (looked _ _ _ _ (one at)), remembers c.first.inside.lows _ _ _ _ _ (one at).walk c.first.invariant.1)

pub invariant_of-second : goal.invariant_of-second
invariant_of-second c = let at = (goal.at.invariant_of-second c).After-meet in
    (rests_looked (table_limits c.self.inside.shared.words) c.second.inside.seat c.meet.new.other ((second_steady at).pass.1) _ _ _ _ c.second.invariant.0 met_steps (looked _ _ _ _ (two at)), remembers c.second.inside.lows _ _ _ _ _ (two at).walk c.second.invariant.1)

pub returns-clause-first : goal.returns-clause-first
returns-clause-first c = let at = (goal.at.returns-clause-first c).After-meet in
    follows (spot c.first.inside.seat.table c.first.inside.lows c.first.inside.run.drawn c.first.inside.from) (spot c.meet.new.seat.table c.first.inside.lows c.first.inside.run.drawn c.first.inside.from) (climbs_same c.first.inside.lows c.first.inside.run.drawn) (view_of c.first.inside.seat) (view_of c.meet.new.seat) c.args.first.now c.first.view_is _ meet_steps _ (one at).walk meet_steps (omega arith)

pub returns-clause-second : goal.returns-clause-second
returns-clause-second c = let at = (goal.at.returns-clause-second c).After-meet in
    follows (spot c.second.inside.seat.table c.second.inside.lows c.second.inside.run.drawn c.second.inside.from) (spot c.meet.new.other.table c.second.inside.lows c.second.inside.run.drawn c.second.inside.from) (climbs_same c.second.inside.lows c.second.inside.run.drawn) (view_of c.second.inside.seat) (view_of c.meet.new.other) c.args.second.now c.second.view_is _ met_steps _ (two at).walk met_steps (omega arith)

pub returns-clause-looks : goal.returns-clause-looks
returns-clause-looks c = let at = (goal.at.returns-clause-looks c).After-meet in (
  has_looked (spot c.first.inside.seat.table c.first.inside.lows c.first.inside.run.drawn c.first.inside.from) (spot c.meet.new.seat.table c.first.inside.lows c.first.inside.run.drawn c.first.inside.from) (view_of c.first.inside.seat) (view_of c.meet.new.seat) c.args.first.now c.first.view_is _ meet_steps _ (one at).walk (one at).step,
  has_looked (spot c.second.inside.seat.table c.second.inside.lows c.second.inside.run.drawn c.second.inside.from) (spot c.meet.new.other.table c.second.inside.lows c.second.inside.run.drawn c.second.inside.from) (view_of c.second.inside.seat) (view_of c.meet.new.other) c.args.second.now c.second.view_is _ met_steps _ (two at).walk (two at).step,
)

pub returns-clause-quiet : goal.returns-clause-quiet
returns-clause-quiet c = let at = (goal.at.returns-clause-quiet c).After-meet in (
  quiet_looked (spot c.first.inside.seat.table c.first.inside.lows c.first.inside.run.drawn c.first.inside.from) (spot c.meet.new.seat.table c.first.inside.lows c.first.inside.run.drawn c.first.inside.from) (view_of c.first.inside.seat) (view_of c.meet.new.seat) c.args.first.now c.first.view_is _ meet_steps (looked _ _ _ _ (one at)),
  quiet_looked (spot c.second.inside.seat.table c.second.inside.lows c.second.inside.run.drawn c.second.inside.from) (spot c.meet.new.other.table c.second.inside.lows c.second.inside.run.drawn c.second.inside.from) (view_of c.second.inside.seat) (view_of c.meet.new.other) c.args.second.now c.second.view_is _ met_steps (looked _ _ _ _ (two at)),
)

pub returns-clause-meets : goal.returns-clause-meets
returns-clause-meets c = let at = (goal.at.returns-clause-meets c).After-meet in
    met_shown _ _ _ _ _ (first_steady at) (second_steady at) c.meet.ensures.meets (spot c.first.inside.seat.table c.first.inside.lows c.first.inside.run.drawn c.first.inside.from) (spot c.second.inside.seat.table c.second.inside.lows c.second.inside.run.drawn c.second.inside.from) (spot c.meet.new.seat.table c.first.inside.lows c.first.inside.run.drawn c.first.inside.from) (spot c.meet.new.other.table c.second.inside.lows c.second.inside.run.drawn c.second.inside.from) c.args.first.now c.args.second.now c.first.view_is c.second.view_is
