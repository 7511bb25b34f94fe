use Rattle.std.proofs.Common.{◌∙◌, ap, arith, length, subst, sym}
use Rattle.tp_model.specs.declared.types.Limits.{Limits}
use Rattle.tp_model.specs.Steps.{AreLimits}
use Rattle.tp_rollover.proofs.Managing.{all_fresh, carries_again, managed_again, refused_for, unfit_same}
use Rattle.tp_rollover.proofs.managed.succeed_in.Goals as goal

pub returns-in-Ok-clause-managed : goal.returns-in-Ok-clause-managed
returns-in-Ok-clause-managed c =
    let e = c.roll_over_in.ensures in
    managed_again c.args.next c.roll_over_in.new.new_keeper c.roll_over_in.new.new_passes c.requires.next.managed e.new_keeper.0 e.new_keeper.1 e.own.1 e.all.1

pub returns-in-Err-clause-fault : goal.returns-in-Err-clause-fault
returns-in-Err-clause-fault c =
    let new = c.args.next in
    let same = c.requires.next.limits in
    let news = c.deref_mut.result.now in
    let long = ap length c.deref_mut.ensures.value ∙ (c.requires.next.managed.parts ∙ ap (λ (l : Limits). l.parts) same) in
    let fresh = all_fresh new.manager news new.passes.items c.deref_mut.ensures.value c.requires.next.new c.requires.next.managed.own in
    refused_for c.args.old.now.limits new.manager.limits c.args.old_passes.now news c.in-Err.fault (ap (λ (l : Limits). l.attempts) same)
    (omega (arith, c.requires.parts, c.requires.limits.parts.0)) (omega (arith, long, c.requires.limits.parts.0))
    (subst AreLimits (sym same) c.requires.limits) fresh
    (unfit_same c.args.old.now.limits new.manager.limits c.args.old.now.limits.parts (length news) c.args.old_passes.now same long)
    c.in-Err.ensures.due

pub returns-in-Ok-clause-carries : goal.returns-in-Ok-clause-carries
returns-in-Ok-clause-carries c =
    let e = c.roll_over_in.ensures in
    let new = c.args.next in
    let same = c.requires.next.limits in
    let long = ap length c.deref_mut.ensures.value ∙ (c.requires.next.managed.parts ∙ ap (λ (l : Limits). l.parts) same) in
    let fresh = all_fresh new.manager c.deref_mut.result.now new.passes.items c.deref_mut.ensures.value c.requires.next.new c.requires.next.managed.own in
    carries_again new c.roll_over_in.new.new_keeper c.roll_over_in.new.new_passes c.requires.next.managed e.new_keeper.0 e.new_keeper.1 e.own.1 e.all.1
    c.args.old.now.limits (length c.deref_mut.result.now) c.args.old_passes.now c.roll_over_in.new.space.restore.moved.items same long (c.in-Ok.ensures.computed fresh)
