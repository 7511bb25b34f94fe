use Rattle.std.proofs.lemmas.List.Elements.{All-take, All-weaker}
use Rattle.tp_model.specs.Steps.{IsStage}
use Rattle.tp_rollover.specs.Fits.{HasFamilyPlace}
use Rattle.tp_rollover.specs.declared.survivors.Survivor.{Survivor}
use Rattle.tp_rollover.proofs.BirthsSteps.{group_made, group_stopped}
use Rattle.tp_rollover.proofs.births.bear_next.Goals as goal

pub returns-in_err-first-clause-steps : goal.returns-in_err-first-clause-steps
returns-in_err-first-clause-steps c =
    let n = c.next_group-count.ensures in
    let l = c.args.manager.now.limits in
    let q = c.args.keeper.now.given in
    let rest = c.args.unborn.now.rest.now in
    let count = c.next_group-count.result.0 in
    let after = c.carrier_of.new in
    let k = c.bear_group.new in
    group_stopped l q rest count c.args.keeper.now after.keeper k.keeper c.args.passes.now after.passes k.passes n.some n.inside _ c.from_residual-in_err-first.ensures.0
    (group_made l q rest count c.args.keeper.now after.keeper k.keeper c.args.passes.now after.passes k.passes n.some n.inside c.carrier_of.ensures.lone.1 c.carrier_of.ensures.steps c.bear_group.ensures.steps)

pub returns-clause-steps : goal.returns-clause-steps
returns-clause-steps c =
    let n = c.next_group-count.ensures in
    let l = c.args.manager.now.limits in
    let q = c.args.keeper.now.given in
    let rest = c.args.unborn.now.rest.now in
    let count = c.next_group-count.result.0 in
    let after = c.carrier_of.new in
    let k = c.bear_group.new in
    group_made l q rest count c.args.keeper.now after.keeper k.keeper c.args.passes.now after.passes k.passes n.some n.inside c.carrier_of.ensures.lone.1 c.carrier_of.ensures.steps c.bear_group.ensures.steps

pub bear_group-requires-clause-stages : goal.bear_group-requires-clause-stages
bear_group-requires-clause-stages c =
    let rest = c.args.unborn.now.rest.now in
    All-take (λ (s : Survivor). IsStage s.stage) c.next_group-count.result.0 rest (All-weaker (HasFamilyPlace c.args.families.now) (λ (s : Survivor). IsStage s.stage) (λ s may. may.1) rest c.requires.may)
