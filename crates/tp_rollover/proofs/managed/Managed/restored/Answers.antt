use Rattle.std.proofs.Common.{◌≡◌, ◌∙◌, ap, arith, length, subst}
use Rattle.tp_model.specs.declared.types.Limits.{Limits}
use Rattle.tp_model.specs.Steps.{AreLimits}
use Rattle.tp_rollover.specs.declared.moved.RollFault.TheVariants.{Unequal}
use Rattle.tp_rollover.specs.Faults.{IsRestoreDue}
use Rattle.tp_rollover.proofs.Managing.{all_fresh, differ_anew, fault_same, made_again, made_same, managed_again, uncomputed_anew, unrestored_for}
use Rattle.tp_rollover.proofs.managed.Managed.restored.Goals as goal

pub returns-in-Err-clause-fault : goal.returns-in-Err-clause-fault
returns-in-Err-clause-fault c =
    let new = c.in-Ok.new in
    let same = c.in-Ok.ensures.limits in
    let limits = subst AreLimits same c.in-Ok.ensures.managed.limits in
    let long = ap length c.deref_mut.ensures.value ∙ (c.in-Ok.ensures.managed.parts ∙ ap (λ (l : Limits). l.parts) same) in
    unrestored_for c.args.limits new.manager.limits c.args.survivors.now c.deref_mut.result.now c.in-Err.fault limits (omega (arith, long, limits.parts.0))
    c.in-Err.ensures.due

pub returns-in-Ok-restore-clause-computed : goal.returns-in-Ok-restore-clause-computed
returns-in-Ok-restore-clause-computed c =
    let e = c.restore.ensures in
    let new = c.in-Ok.new in
    let same = c.in-Ok.ensures.limits in
    let long = ap length c.deref_mut.ensures.value ∙ (c.in-Ok.ensures.managed.parts ∙ ap (λ (l : Limits). l.parts) same) in
    let fresh = all_fresh new.manager c.deref_mut.result.now new.passes.items c.deref_mut.ensures.value c.in-Ok.ensures.new c.in-Ok.ensures.managed.own in
    made_again new c.restore.new.keeper c.restore.new.passes c.in-Ok.ensures.managed e.keeper.0 e.keeper.1 e.own e.all
    c.args.limits (length c.deref_mut.result.now) c.args.survivors.now c.in-Ok-restore.moved.items same long (c.in-Ok-restore.ensures.computed fresh)

pub returns-in-Err-clause-computed : goal.returns-in-Err-clause-computed
returns-in-Err-clause-computed c =
    let new = c.in-Ok.new in
    let same = c.in-Ok.ensures.limits in
    let long = ap length c.deref_mut.ensures.value ∙ (c.in-Ok.ensures.managed.parts ∙ ap (λ (l : Limits). l.parts) same) in
    let fresh = all_fresh new.manager c.deref_mut.result.now new.passes.items c.deref_mut.ensures.value c.in-Ok.ensures.new c.in-Ok.ensures.managed.own in
    fault_same c.in-Err.fault _ _ _ _ (made_same c.args.limits new.manager.limits c.args.limits.parts (length c.deref_mut.result.now) c.args.survivors.now same long) (c.in-Err.ensures.computed fresh)

pub returns-in-Ok-restore-clause-managed : goal.returns-in-Ok-restore-clause-managed
returns-in-Ok-restore-clause-managed c =
    let e = c.restore.ensures in
    managed_again c.in-Ok.new c.restore.new.keeper c.restore.new.passes c.in-Ok.ensures.managed e.keeper.0 e.keeper.1 e.own e.all

pub returns-in-Err-clause-unlike : goal.returns-in-Err-clause-unlike
returns-in-Err-clause-unlike c is =
    let new = c.in-Ok.new in
    let same = c.in-Ok.ensures.limits in
    let long = ap length c.deref_mut.ensures.value ∙ (c.in-Ok.ensures.managed.parts ∙ ap (λ (l : Limits). l.parts) same) in
    let fresh = all_fresh new.manager c.deref_mut.result.now new.passes.items c.deref_mut.ensures.value c.in-Ok.ensures.new c.in-Ok.ensures.managed.own in
    let fault : c.in-Err.fault ≡ Unequal = cc in
    let n = length c.deref_mut.result.now in
    let due = subst (IsRestoreDue new.manager.limits c.args.survivors.now c.deref_mut.result.now) fault c.in-Err.ensures.due fresh in (
      differ_anew c.args.limits new.manager.limits c.args.limits.parts n c.args.survivors.now same long due.0,
      uncomputed_anew c.args.limits new.manager.limits c.args.limits.parts n c.args.survivors.now same long (due.1 c.in-Ok.ensures.managed.limits),
    )
