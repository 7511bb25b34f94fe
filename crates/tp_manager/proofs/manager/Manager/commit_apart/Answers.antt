use Rattle.std.proofs.Common.{◌+◌, length, arith}
use Rattle.tp_manager.specs.Bounds.{abort_steps, close_steps, commit_steps, draw_steps}
use Rattle.tp_manager.proofs.Calls.Follows.{follows_then, follows_within}
use Rattle.tp_manager.proofs.Rows.Rooms.{room_follows, room_left, room_settles_apart}
use Rattle.tp_manager.proofs.manager.Manager.commit_apart.Goals as goal

pub returns-then-has_room-clause-follows : goal.returns-then-has_room-clause-follows
returns-then-has_room-clause-follows c = let k = length c.args.drafts.now in
    room_follows c.args.self.now.limits c.args.pass.now c.has_room.new.pass c.close.new.pass k (close_steps k) (c.has_room.ensures.yes c.if-has_room.true) c.close.ensures.follows

pub returns-then-has_room-clause-answer : goal.returns-then-has_room-clause-answer
returns-then-has_room-clause-answer c =
    room_settles_apart c.args.self.now.limits c.args.pass.now c.has_room.new.pass c.close.new.pass c.args.drafts.now c.close.result c.requires.few (c.has_room.ensures.yes c.if-has_room.true) c.close.ensures.follows.drawn c.close.ensures.answer

pub returns-clause-follows : goal.returns-clause-follows
returns-clause-follows c = let l = c.args.self.now.limits in let k = length c.args.drafts.now in
    follows_within (draw_steps l + abort_steps) (commit_steps l k) c.args.pass.now c.abort.new.pass (omega arith)
    (follows_then (draw_steps l) abort_steps c.args.pass.now c.has_room.new.pass c.abort.new.pass (c.has_room.ensures.no c.if-has_room.false).1 c.abort.ensures.follows)

pub returns-then-has_room-clause-lean : goal.returns-then-has_room-clause-lean
returns-then-has_room-clause-lean c = λ enough. let k = length c.args.drafts.now in
    room_left c.args.self.now.limits c.args.pass.now c.has_room.new.pass c.close.new.pass k (close_steps k) enough (c.has_room.ensures.yes c.if-has_room.true) c.close.ensures.follows
