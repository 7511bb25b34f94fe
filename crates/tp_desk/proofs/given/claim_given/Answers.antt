use Rattle.std.proofs.Common.{◌≡◌, ◌<◌, ◌+◌, arith}
use Rattle.tp_manager.specs.Bounds.{claim_id_steps, read_steps}
use Rattle.tp_manager.specs.Calls.{claims_in}
use Rattle.tp_manager.proofs.Calls.Follows.{follows_then}
use Rattle.tp_desk.proofs.GivenClaims.{given_then}
use Rattle.tp_desk.proofs.given.claim_given.Goals as goal

pub returns-clause-follows : goal.returns-clause-follows
returns-clause-follows c = follows_then (read_steps c.args.manager.now.limits) claim_id_steps c.args.pass.now c.read.new.pass c.claim_id-2.new.pass c.read.ensures.follows c.claim_id-2.ensures.follows

pub returns-clause-answer : goal.returns-clause-answer
returns-clause-answer c =
    let room : claims_in c.args.pass.now.mine < c.args.manager.now.limits.units = (let left = c.room.ensures.units in let some = c.if-room-eq0.false in omega arith) in
    given_then c.args.manager.now.limits (read_steps c.args.manager.now.limits) claim_id_steps c.args.pass.now c.read.new.pass c.claim_id-2.new.pass c.read.ensures.follows c.read.ensures.quiet c.claim_id-2.ensures.follows
    c.args.stage c.args.id c.in_ok-look.look c.claim_id-2.result c.requires.stage room c.in_ok-look.ensures.answer c.if-look-stage.false c.claim_id-2.ensures.answer
