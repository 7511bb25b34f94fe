use Rattle.tp_manager.specs.Shown.{IsOf}
use Rattle.tp_rollover.specs.Finding.{AreSurvivorsOf}
use Rattle.tp_rollover.proofs.Heads.{all_again, first_told, stays_again}
use Rattle.tp_model.specs.Steps.{IsLegal}
use Rattle.tp_rollover.proofs.Stopping.{first_stops}
use Rattle.tp_rollover.proofs.surveying.find.Goals as goal

pub returns-clause-own : goal.returns-clause-own
returns-clause-own c = all_again (IsOf c.args.manager.now) c.args.passes.now c.in-Some._rest.now c.in-Some.first.now c.find_by.new.pass c.in-Some.ensures.cases.0 c.requires.own c.find_by.ensures.own

pub returns-clause-stays : goal.returns-clause-stays
returns-clause-stays c = stays_again c.args.passes.now c.in-Some._rest.now c.in-Some.first.now c.find_by.new.pass c.in-Some.ensures.cases.0 c.find_by.ensures.stays

pub returns-clause-told : goal.returns-clause-told
returns-clause-told c =
    first_told c.find_by.result (λ _ h. AreSurvivorsOf c.args.manager.now.limits c.args.count h c.find_by.new.space.found.items) c.args.passes.now c.in-Some._rest.now c.in-Some.first.now c.find_by.new.pass c.in-Some.ensures.cases.0 c.find_by.ensures.told

pub returns-clause-stops : goal.returns-clause-stops
returns-clause-stops c =
    first_stops c.find_by.result (IsLegal c.args.manager.now.limits) c.args.passes.now c.in-Some._rest.now c.in-Some.first.now c.find_by.new.pass c.in-Some.ensures.cases.0 c.find_by.ensures.stops
