use Rattle.std.proofs.Common.{◌++◌}
use Rattle.tp_report.proofs.Devices.{front_none}
use Rattle.tp_session.specs.Session.{finals}
use Rattle.tp_session.proofs.conversing.finish.Goals as goal

pub returns-in-Err-clause-front : goal.returns-in-Err-clause-front
returns-in-Err-clause-front g c =
    front_none (g.W.Wire.contents c.args.wire.now) (c.args.lines.now.answers.items ++ finals c.args.session.now)

pub returns-clause-front : goal.returns-clause-front
returns-clause-front g c =
    front_none (g.W.Wire.contents c.args.wire.now) (c.args.lines.now.answers.items ++ finals c.args.session.now)
