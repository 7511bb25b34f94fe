use Rattle.std.proofs.Common.{Err, ap}
use Rattle.tp_report.proofs.Devices.{if_some}
use Rattle.tp_script.specs.Whole.{script}
use Rattle.tp_perform.proofs.PerformLemmas.{ran_done, ran_fault, ran_none, some_weaker}
use Rattle.tp_perform.proofs.scripts.run.Goals as goal

pub returns-in-Ok-serve-clause-ran : goal.returns-in-Ok-serve-clause-ran
returns-in-Ok-serve-clause-ran g c =
    some_weaker (g.R.Source.rest c.args.reader.now) _ _ (λ bytes is. ran_done (script bytes) c.in-Ok.script (g.W.Sink.contents c.args.writer.now) (g.W.Sink.contents c.serve.new.writer) c.in-Ok-serve.ensures.told is) c.in-Ok.ensures.script

pub returns-in-Ok-clause-ran : goal.returns-in-Ok-clause-ran
returns-in-Ok-clause-ran g c =
    some_weaker (g.R.Source.rest c.args.reader.now) _ _ (λ bytes is. ran_fault (script bytes) c.in-Ok.script c.in-Err.fault (g.W.Sink.contents c.args.writer.now) (g.W.Sink.contents c.serve.new.writer) (λ same. c.in-Err.ensures.no_read (ap (λ f. Err f) same)) c.in-Err.ensures.front is) c.in-Ok.ensures.script

pub returns-in-Err-NoMemory-clause-ran : goal.returns-in-Err-NoMemory-clause-ran
returns-in-Err-NoMemory-clause-ran g c = if_some (g.R.Source.rest c.args.reader.now) _ (λ bytes. ran_none (script bytes) (g.W.Sink.contents c.args.writer.now))
