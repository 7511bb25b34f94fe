use Rattle.std.proofs.Common.{◌+◌, arith}
use Rattle.tp_manager.specs.Bounds.{next_steps, room_steps, submit_steps}
use Rattle.tp_manager.proofs.Calls.Follows.{follows_within}
use Rattle.tp_manager.proofs.Rows.Rooms.{room_follows, room_left}
use Rattle.tp_manager.proofs.manager.Manager.submit.Goals as goal

pub returns-clause-follows : goal.returns-clause-follows
returns-clause-follows c = let l = c.args.self.now.limits in
    follows_within (room_steps l 1 + next_steps) (submit_steps l) c.args.pass.now c.submit_next.new.pass (omega arith)
    (room_follows l c.args.pass.now c.has_room.new.pass c.submit_next.new.pass 1 next_steps (c.has_room.ensures.yes c.if-not-has_room.false) c.submit_next.ensures.follows)

pub returns-clause-lean : goal.returns-clause-lean
returns-clause-lean c = λ some.
    room_left c.args.self.now.limits c.args.pass.now c.has_room.new.pass c.submit_next.new.pass 1 next_steps (omega arith) (c.has_room.ensures.yes c.if-not-has_room.false) c.submit_next.ensures.follows
