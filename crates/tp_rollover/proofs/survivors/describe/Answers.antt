use Rattle.std.proofs.Common.{refl, subst}
use Rattle.tp_model.specs.declared.types.Limits.{Limits}
use Rattle.tp_rollover.specs.Survivors.{IsStanding}
use Rattle.tp_rollover.proofs.Checked.{described_one}
use Rattle.tp_rollover.proofs.Stopping.{stands_somehow, stops_root, stops_rounds}
use Rattle.tp_rollover.proofs.survivors.describe.Goals as goal

pub returns-clause-told : goal.returns-clause-told
returns-clause-told c =
    let stands = subst (λ (l : Limits). IsStanding l c.in-Some.found.status c.in-Some-standing.status c.in-Some-standing.holder) c.limits.ensures c.in-Some-standing.ensures.stands in
    described_one c.args.manager.now.limits c.args.id _ c.args.pass.now c.look.new.pass c.look-2.new.pass c.rounds_had.new.pass c.in-Some.found c.in-Some-look.root c.in-Some-rounds_had.rounds c.in-Some-standing.status c.in-Some-standing.holder c.look.ensures.stays c.look-2.ensures.stays c.rounds_had.ensures.stays
    c.in-Some.ensures.told c.in-Some-look.ensures.told c.in-Some-rounds_had.ensures.told stands refl

pub returns-in_default-standing-clause-stops : goal.returns-in_default-standing-clause-stops
returns-in_default-standing-clause-stops c same held =
    stands_somehow c.args.manager.now.limits c.args.pass.now.seen c.args.id c.in-Some.found (c.in-Some.ensures.told same) (c.in_default-standing.ensures.none refl) held.0 held.1

pub returns-in_default-look-clause-stops : goal.returns-in_default-look-clause-stops
returns-in_default-look-clause-stops c =
    stops_root c.args.manager.now.limits c.args.id c.in-Some.found c.args.pass.now c.look.new.pass c.look-2.new.pass c.look.ensures.stays c.look-2.ensures.stays c.in-Some.ensures.told c.in_default-look.ensures.told

pub returns-in_default-rounds_had-clause-stops : goal.returns-in_default-rounds_had-clause-stops
returns-in_default-rounds_had-clause-stops c =
    stops_rounds c.args.manager.now.limits c.args.id c.args.pass.now c.look.new.pass c.look-2.new.pass c.rounds_had.new.pass c.look.ensures.stays c.look-2.ensures.stays c.rounds_had.ensures.stays c.in_default-rounds_had.ensures.told
