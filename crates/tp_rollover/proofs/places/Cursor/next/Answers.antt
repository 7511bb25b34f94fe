use Rattle.std.proofs.Common.{length}
use Rattle.tp_rollover.specs.Thread.{thread_of}
use Rattle.tp_rollover.proofs.BirthsPlaces.{next_drawn, next_first, next_full}
use Rattle.tp_rollover.proofs.places.Cursor.next.Goals as goal

pub returns-in_default-clause-gives : goal.returns-in_default-clause-gives
returns-in_default-clause-gives c h =
    next_full (length c.args.passes.now) (thread_of c.args.manager.now.limits c.args.passes.now h) c.args.home c.args.rows c.args.units c.args.self.now c.begin-from.result c.begin-from.ensures (c.in-None.ensures.first h) (c.in_default.ensures.drawer h)

pub returns-in-Some-clause-gives : goal.returns-in-Some-clause-gives
returns-in-Some-clause-gives c h =
    next_first (length c.args.passes.now) (thread_of c.args.manager.now.limits c.args.passes.now h) c.args.home c.args.rows c.args.units c.args.self.now c.begin-from.result c.begin-from.ensures c.in-Some.at (c.in-Some.ensures.first h)

pub returns-in-Some-drawing-clause-gives : goal.returns-in-Some-drawing-clause-gives
returns-in-Some-drawing-clause-gives c h =
    next_drawn (length c.args.passes.now) (thread_of c.args.manager.now.limits c.args.passes.now h) c.args.home c.args.rows c.args.units c.args.self.now c.begin-from.result c.begin-from.ensures c.in-Some-drawing.at (c.in-None.ensures.first h) (c.in-Some-drawing.ensures.drawer h)
