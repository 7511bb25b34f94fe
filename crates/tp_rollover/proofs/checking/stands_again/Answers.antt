use Rattle.std.proofs.Common.{refl, rules}
use Rattle.tp_rollover.proofs.Checked.{stands_one}
use Rattle.tp_rollover.proofs.Differing.{no_root, no_rounds, not_alike, not_root_alike, not_rounds}
use Rattle.tp_rollover.proofs.Seen.{stays_refl}
use Rattle.tp_rollover.proofs.checking.stands_again.Goals as goal

pub returns-clause-told : goal.returns-clause-told
returns-clause-told c by =
    stands_one c.args.manager.now.limits c.args.one c.args.named c.args.pass.now c.look.new.pass c.rounds_had.new.pass c.look-2.new.pass c.in-Some.stands c.in-Some-look.root c.in-Some-rounds_had.rounds c.look.ensures.stays c.rounds_had.ensures.stays c.look-2.ensures.stays
    c.in-Some.ensures.told c.in-Some-rounds_had.ensures.told c.in-Some-look.ensures.told (c.if-not-is_alike.ensures.alike refl) (c.if-not-is_root_alike.ensures.alike refl) (search rules)

pub returns-in_default-rounds_had-clause-other : goal.returns-in_default-rounds_had-clause-other
returns-in_default-rounds_had-clause-other c by =
    no_rounds c.args.manager.now.limits c.args.one c.args.named c.args.pass.now c.look.new.pass c.rounds_had.new.pass c.rounds_had.new.pass c.look.ensures.stays c.rounds_had.ensures.stays (stays_refl c.rounds_had.new.pass) c.in_default-rounds_had.ensures.told

pub returns-in_default-look-clause-other : goal.returns-in_default-look-clause-other
returns-in_default-look-clause-other c by =
    no_root c.args.manager.now.limits c.args.one c.args.named c.args.pass.now c.look.new.pass c.rounds_had.new.pass c.look-2.new.pass c.look.ensures.stays c.rounds_had.ensures.stays c.look-2.ensures.stays c.in_default-look.ensures.told

pub returns-then-not-is_alike-clause-other : goal.returns-then-not-is_alike-clause-other
returns-then-not-is_alike-clause-other c by =
    not_alike c.args.manager.now.limits c.args.one c.args.named c.args.pass.now c.look.new.pass c.rounds_had.new.pass c.look-2.new.pass c.look.ensures.stays c.rounds_had.ensures.stays c.look-2.ensures.stays c.in-Some.stands c.in-Some.ensures.told (c.if-not-is_alike.ensures.other refl)

pub returns-then-not-is_root_alike-clause-other : goal.returns-then-not-is_root_alike-clause-other
returns-then-not-is_root_alike-clause-other c by =
    not_root_alike c.args.manager.now.limits c.args.one c.args.named c.args.pass.now c.look.new.pass c.rounds_had.new.pass c.look-2.new.pass c.look.ensures.stays c.rounds_had.ensures.stays c.look-2.ensures.stays c.in-Some-look.root c.in-Some-look.ensures.told (c.if-not-is_root_alike.ensures.other refl)

pub returns-clause-other : goal.returns-clause-other
returns-clause-other c by =
    not_rounds c.args.manager.now.limits c.args.one c.args.named c.args.pass.now c.look.new.pass c.rounds_had.new.pass c.look-2.new.pass c.look.ensures.stays c.rounds_had.ensures.stays c.look-2.ensures.stays c.in-Some-rounds_had.rounds c.in-Some-rounds_had.ensures.told (search rules)
