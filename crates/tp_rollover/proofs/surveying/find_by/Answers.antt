use Rattle.std.proofs.Common.{rules, subst, sym}
use Rattle.tp_rollover.specs.Finding.{AreLiving}
use Rattle.tp_rollover.specs.Told.{HoldsAsSeen}
use Rattle.tp_rollover.proofs.Stopping.{if_err, stops_found}
use Rattle.tp_rollover.proofs.Carrying.{survivors_told}
use Rattle.tp_rollover.proofs.surveying.find_by.Goals as goal

pub returns-clause-told : goal.returns-clause-told
returns-clause-told c =
    survivors_told c.describe_all.result (λ _. c.describe_all.new.found.items) c.args.manager.now.limits c.args.count c.find_alive.new.found.items c.args.pass.now c.find_alive.new.pass c.describe_all.new.pass c.find_alive.ensures.stays c.describe_all.ensures.stays
    c.in_ok-find_alive.ensures.once c.in_ok-find_alive.ensures.told (search rules)

pub returns-clause-stops : goal.returns-clause-stops
returns-clause-stops c =
    let l = c.args.manager.now.limits in
    let living = subst (λ ids. HoldsAsSeen c.args.pass.now c.find_alive.new.pass (AreLiving l.attempts ids)) (sym c.deref.ensures.value) c.in_ok-find_alive.ensures.living in
    if_err c.describe_all.result _ _ (λ stop stops. stops_found l c.deref.result.now c.args.pass.now c.find_alive.new.pass c.describe_all.new.pass stop c.find_alive.ensures.stays c.describe_all.ensures.stays living stops) c.describe_all.ensures.stops
