use Rattle.tp_script.specs.Fault.{refused_text}
use Rattle.tp_report.specs.Answer.{line}
use Rattle.tp_report.proofs.Devices.{front_none, always_err}
use Rattle.tp_report.proofs.refusal.write_refusal.Goals as goal

pub returns-in_err-text-clause-front : goal.returns-in_err-text-clause-front
returns-in_err-text-clause-front g c = always_err c.from_residual.result (front_none (g.W.Sink.contents c.args.writer.now) (line (refused_text c.args.refused)))

pub returns-clause-done : goal.returns-clause-done
returns-clause-done g c = rw (← c.in_ok-text.ensures, ← c.as_bytes.ensures.value) c.in_ok-write_all.ensures.ok
