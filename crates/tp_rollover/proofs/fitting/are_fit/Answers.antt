use Rattle.std.proofs.Common.{refl}
use Rattle.std.proofs.lemmas.List.Elements.{All-more}
use Rattle.tp_rollover.specs.Fits.{IsFit}
use Rattle.tp_rollover.proofs.BirthsGroups.{blank}
use Rattle.tp_rollover.proofs.Lists.{all_taken}
use Rattle.tp_rollover.proofs.fitting.are_fit.Goals as goal

pub loop-place-preserved : goal.loop-place-preserved
loop-place-preserved c = All-more (IsFit c.args.of.now.limits c.args.limits) c.args.survivors.now c.loop-place.place blank c.loop-place-test.true c.loop-place.invariant (c.if-not-is_fit.ensures.fit refl)

pub returns-clause-fit : goal.returns-clause-fit
returns-clause-fit c same = all_taken (IsFit c.args.of.now.limits c.args.limits) c.args.survivors.now c.loop-place.place c.loop-place-test.false c.loop-place.invariant
