use Rattle.std.proofs.Common.{Err, ap, subst}
use Rattle.tp_rollover.specs.Managed.{IsRefusedFor}
use Rattle.tp_rollover.proofs.Managing.{not_refused}
use Rattle.tp_rollover.proofs.managed.Managed.roll_over_into.Goals as goal

pub returns-in-Err-clause-succeeds : goal.returns-in-Err-clause-succeeds
returns-in-Err-clause-succeeds c has room =
    let l = c.args.self.now.manager.limits in
    let due = subst (λ ps. IsRefusedFor l ps c.in-Err.fault) c.deref_mut.ensures.value c.in-Err.ensures.fault in
    absurd (not_refused l c.args.self.now.passes.items c.in-Err.fault (λ why. c.in-Err.ensures.memory (ap Err why) has) room due)
