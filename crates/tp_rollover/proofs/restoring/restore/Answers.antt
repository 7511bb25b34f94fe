use Rattle.std.proofs.Common.{length, refl, subst, sym}
use Rattle.tp_plain.specs.OneThread.{start}
use Rattle.tp_rollover.specs.Anew.{made_anew}
use Rattle.tp_rollover.specs.Carries.{IsAsComputed}
use Rattle.tp_rollover.specs.Faults.{IsRestoreDue}
use Rattle.tp_rollover.proofs.MadeAlike.{differs_for}
use Rattle.tp_rollover.proofs.Managing.{as_computed, restore_due}
use Rattle.tp_rollover.proofs.StandsAnew.{uncomputed}
use Rattle.tp_rollover.proofs.restoring.restore.Goals as goal

pub returns-in-Err-clause-due : goal.returns-in-Err-clause-due
returns-in-Err-clause-due c =
    let k = c.args.manager.now.limits in
    let p = length c.args.passes.now in
    subst (IsRestoreDue k c.args.survivors.now c.args.passes.now) (sym c.fault_of.ensures.is)
    (restore_due k c.args.survivors.now c.args.passes.now c.in-Err.stop (λ unequal fresh.
    (let differs = differs_for k p c.args.survivors.now (start k) c.in-Err.stop _ (λ memory. cc) (c.in-Err.ensures.computed fresh) in
    (differs, uncomputed k p c.args.survivors.now c.stand_again.ensures.parts differs))))
