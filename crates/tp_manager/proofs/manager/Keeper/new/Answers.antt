use Rattle.std.proofs.Common.{ap}
use Rattle.tp_rule.specs.declared.view.View.{View}
use Rattle.tp_manager.proofs.Calls.Fresh.{first_keeps, first_none}
use Rattle.tp_manager.proofs.manager.Keeper.new.Goals as goal

pub invariant_of-result-in-Ok-new : goal.invariant_of-result-in-Ok-new
invariant_of-result-in-Ok-new c = first_keeps c.in-Ok-new.seat c.in-Ok.places.limits c.in-Ok.places.valid c.in-Ok-new.ensures.view

pub returns-in-Ok-new-clause-fresh : goal.returns-in-Ok-new-clause-fresh
returns-in-Ok-new-clause-fresh c = (ap (λ (v : View). v.seen) c.in-Ok-new.ensures.view, first_none c.in-Ok-new.seat.view c.in-Ok.places.limits c.in-Ok-new.ensures.view)
