use Rattle.tp_rollover.specs.Anew.{unborn}
use Rattle.tp_rollover.proofs.BirthsGroups.{blank}
use Rattle.tp_rollover.proofs.Kinships.{not_apart}
use Rattle.tp_rollover.proofs.fitting.are_apart.Goals as goal

pub returns-then-families-id-gt0 : goal.returns-then-families-id-gt0
returns-then-families-id-gt0 c same =
    not_apart c.args.limits c.args.survivors.now c.args.families.now c.loop-place.place blank (unborn 0) c.requires.counted c.loop-place-test.true c.if-one.true c.if-id-families.true c.if-families-id-gt0.true
