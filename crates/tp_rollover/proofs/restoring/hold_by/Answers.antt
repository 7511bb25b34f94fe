use Rattle.std.proofs.Common.{refl, subst}
use Rattle.tp_rollover.specs.Alike.{AllStandUnheld}
use Rattle.tp_rollover.specs.Checks.{AreFamilies, MovedAscend}
use Rattle.tp_rollover.proofs.restoring.hold_by.Goals as goal

pub returns-clause-told : goal.returns-clause-told
returns-clause-told c same = record {
  each = subst (AllStandUnheld c.args.manager.now.limits.attempts c.args.pass.now.seen c.args.survivors.now) c.deref-3.ensures.value (c.if-not-all_stand_again.ensures.told refl same);
  once = subst MovedAscend c.deref.ensures.value (c.if-not-ascend.ensures.ascend refl);
  families = subst AreFamilies c.deref-2.ensures.value (c.in-Ok.ensures.families c.if-not-families.false);
}
