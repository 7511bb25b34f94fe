use Rattle.std.proofs.Common.{[], refl}
use Rattle.tp_report.proofs.Devices.{Appends-none}
use Rattle.tp_kept.specs.Kept.{recovered_text}
use Rattle.tp_kept.proofs.program.greet.Goals as goal

pub returns-in-Err-clause-front : goal.returns-in-Err-clause-front
returns-in-Err-clause-front g c = (recovered_text c.args.cut c.args.recovered, ([], refl, Appends-none (g.W.Sink.contents c.args.writer.now)))
