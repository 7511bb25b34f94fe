use Rattle.tp_manager.specs.Shown.{IsOf}
use Rattle.tp_rollover.specs.Alike.{StandAlike}
use Rattle.tp_rollover.proofs.Stopping.{first_stops}
use Rattle.tp_rollover.proofs.Heads.{all_again, first_done, stays_again}
use Rattle.tp_rollover.proofs.restoring.hold.Goals as goal

pub returns-clause-own : goal.returns-clause-own
returns-clause-own c = all_again (IsOf c.args.manager.now) c.args.passes.now c.in-Some._rest.now c.in-Some.first.now c.hold_by.new.pass c.in-Some.ensures.cases.0 c.requires.own c.hold_by.ensures.own

pub returns-clause-stays : goal.returns-clause-stays
returns-clause-stays c = stays_again c.args.passes.now c.in-Some._rest.now c.in-Some.first.now c.hold_by.new.pass c.in-Some.ensures.cases.0 c.hold_by.ensures.stays

pub returns-clause-told : goal.returns-clause-told
returns-clause-told c =
    first_done c.hold_by.result (λ g. StandAlike c.args.manager.now.limits.attempts g c.args.survivors.now c.hold_by.new.space.moved.items) c.args.passes.now c.in-Some._rest.now c.in-Some.first.now c.hold_by.new.pass c.in-Some.ensures.cases.0 c.hold_by.ensures.told

pub returns-clause-stops : goal.returns-clause-stops
returns-clause-stops c =
    first_stops c.hold_by.result (λ g. StandAlike c.args.manager.now.limits.attempts g c.args.survivors.now c.hold_by.new.space.moved.items) c.args.passes.now c.in-Some._rest.now c.in-Some.first.now c.hold_by.new.pass c.in-Some.ensures.cases.0 c.hold_by.ensures.stops
