use Rattle.std.proofs.Common.{subst, sym}
use Rattle.tp_rollover.specs.Closing.{AreMovedLiving}
use Rattle.tp_rollover.proofs.GivingUp.{burial, given_first, live_on}
use Rattle.tp_rollover.proofs.closing.bury.Goals as goal

pub kill_all-requires-clause-living : goal.kill_all-requires-clause-living
kill_all-requires-clause-living c =
    let limit = c.args.manager.now.limits.attempts in
    let t = given_first c.args.manager.now c.args.keeper.now c.give_up.new.keeper c.args.passes.now c.give_up.new.passes c.requires.lone c.requires.some c.give_up.ensures.gives in
    subst (λ h. AreMovedLiving limit h c.args.moved.now) (sym t.is) (live_on limit 0 c.args.keeper.now.seen t.events c.args.moved.now t.own c.requires.living)

pub returns-clause-buries : goal.returns-clause-buries
returns-clause-buries c =
    let t = given_first c.args.manager.now c.args.keeper.now c.give_up.new.keeper c.args.passes.now c.give_up.new.passes c.requires.lone c.requires.some c.give_up.ensures.gives in
    burial c.args.manager.now.limits.attempts 0 c.args.keeper.now.seen c.give_up.new.keeper.seen c.kill_all.new.keeper.seen t.events c.args.moved.now t.own t.is c.kill_all.ensures.killed
