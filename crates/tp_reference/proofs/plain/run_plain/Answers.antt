use Rattle.tp_script.specs.Whole.{script}
use Rattle.tp_reference.specs.PlainReport.{report_of_read}
use Rattle.tp_report.proofs.Devices.{front_none, if_some}
use Rattle.tp_reference.proofs.plain.run_plain.Goals as goal

pub returns-in-Err-NoMemory-clause-report : goal.returns-in-Err-NoMemory-clause-report
returns-in-Err-NoMemory-clause-report g c = if_some (g.R.Source.rest c.args.reader.now) _ (λ bytes. front_none (g.W.Sink.contents c.args.writer.now) (report_of_read (script bytes)))
