use Rattle.std.proofs.Common.{◌≡◌, ◌*◌, ◌+◌, length, refl, subst, sym, true}
use Rattle.tp_manager.specs.Bounds.{kill_steps}
use Rattle.tp_rollover.specs.Bounds.{AllMake, gathered, give_up_steps, most_new_steps, old_steps, survey_steps}
use Rattle.tp_rollover.specs.Faults.{IsDue}
use Rattle.tp_rollover.specs.Closing.{AreMovedLiving, Buries}
use Rattle.tp_rollover.proofs.Assembly.{all_living, rolled, rolls}
use Rattle.tp_rollover.proofs.Heads.{stay_same}
use Rattle.tp_rollover.proofs.Managing.{late_due}
use Rattle.tp_rollover.proofs.Sums.{gives_up_as, old_buried}
use Rattle.tp_rollover.proofs.Tallies.{rollover_adds_up}
use Rattle.tp_rollover.proofs.rolling.roll_over_in.Goals as goal

pub returns-then-not-are_alike-clause-refused : goal.returns-then-not-are_alike-clause-refused
returns-then-not-are_alike-clause-refused c = stay_same c.args.old_passes.now

pub returns-then-lacks_pass-clause-refused : goal.returns-then-lacks_pass-clause-refused
returns-then-lacks_pass-clause-refused c = stay_same c.args.old_passes.now

pub bury-requires-clause-living : goal.bury-requires-clause-living
bury-requires-clause-living c =
    let r = c.in-Ok.ensures.ready in
    subst (AreMovedLiving c.args.old.now.limits.attempts c.prepare.new.old_keeper.seen) (sym c.deref.ensures.value)
    (all_living c.args.old.now.limits c.args.new.now.limits c.prepare.new.old_keeper.seen c.prepare.new.new_keeper.seen r.survivors c.prepare.new.space.restore.moved.items r.found r.again)

pub returns-in-Ok-clause-moved : goal.returns-in-Ok-clause-moved
returns-in-Ok-clause-moved c =
    let l = c.args.old.now.limits in
    let k2 = c.prepare.new.old_keeper in
    let k3 = c.bury.new.keeper in
    rolls l c.args.new.now.limits k2 k3 c.prepare.new.new_keeper c.args.old_passes.now c.prepare.new.old_passes c.bury.new.passes c.prepare.new.new_passes c.prepare.new.space.restore.moved.items
    (c.if-not-are_alike.ensures.alike refl) c.in-Ok.ensures.ready c.bury.ensures.lone.0.together c.bury.ensures.lone.1
    (subst (Buries l.attempts 0 k2.seen k3.seen) c.deref.ensures.value c.bury.ensures.buries)

pub returns-in-Ok-clause-steps : goal.returns-in-Ok-clause-steps
returns-in-Ok-clause-steps c =
    let l = c.args.old.now.limits in
    let k = c.args.new.now.limits in
    let p = c.args.old_keeper.now.given in
    let q = c.args.new_keeper.now.given in
    let moved = c.prepare.new.space.restore.moved.items in
    let n = length moved in
    let k2 = c.prepare.new.old_keeper in
    let k3 = c.bury.new.keeper in
    let r = c.in-Ok.ensures.ready in
    let over = rolled l k k2.seen k3.seen c.prepare.new.new_keeper.seen r.survivors moved (c.if-not-are_alike.ensures.alike refl) c.bury.ensures.lone.0.together.legal r.new_together.legal r.found r.again
    (subst (Buries l.attempts 0 k2.seen k3.seen) c.deref.ensures.value c.bury.ensures.buries) in
    let is = (rollover_adds_up l k 0 k2.seen k3.seen c.prepare.new.new_keeper.seen moved over).was in
    let so_far = subst (λ z. AllMake (survey_steps l p z) c.args.old_keeper.now c.args.old_passes.now k2 c.prepare.new.old_passes
    × AllMake (most_new_steps k q z) c.args.new_keeper.now c.args.new_passes.now c.prepare.new.new_keeper c.prepare.new.new_passes) is c.prepare.ensures.steps in
    let killed = subst (λ ms. AllMake (give_up_steps l k2.given c.prepare.new.old_passes + gathered l k2.given (length ms * kill_steps l)) k2 c.prepare.new.old_passes k3 c.bury.new.passes) c.deref.ensures.value c.bury.ensures.steps in (
      subst (λ z. AllMake (old_steps l p n + z) c.args.old_keeper.now c.args.old_passes.now k3 c.bury.new.passes) (gives_up_as l p c.args.old_passes.now c.prepare.new.old_passes c.prepare.ensures.stays)
          (old_buried l p k2.given n c.args.old_keeper.now k2 k3 c.args.old_passes.now c.prepare.new.old_passes c.bury.new.passes so_far.0 c.prepare.ensures.old_keeper.1 killed),
      so_far.1,
    )

pub returns-in-Err-clause-due : goal.returns-in-Err-clause-due
returns-in-Err-clause-due c =
    let l = c.args.old.now.limits in
    let k = c.args.new.now.limits in
    subst (IsDue l k c.args.old_passes.now c.args.new_passes.now) (sym c.fault_anew.ensures.is)
    (late_due l k c.args.old_passes.now c.args.new_passes.now c.in-Err.stop (c.if-not-are_alike.ensures.alike refl, c.if-lacks_pass.ensures.has refl) (λ not limits fresh. c.in-Err.ensures.unfit limits fresh not))
