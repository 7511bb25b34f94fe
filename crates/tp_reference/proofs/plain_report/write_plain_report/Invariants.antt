use Rattle.std.proofs.Common.{drop, map}
use Rattle.tp_report.specs.Written.{IsWrittenUpTo}
use Rattle.tp_script.specs.Script.{script_view, server_view}
use Rattle.tp_reference.specs.PlainReport.{report_of, reports}
use Rattle.tp_reference.specs.PlainRunning.{state, IsSetUp}
use Rattle.tp_reference.proofs.plain_report.write_plain_report.Given as goal

-- what is written, and what the commands from here on write, is the report
abbrev pub invariant-loop-act : goal.invariant-loop-act
invariant-loop-act g l =
    record {
      written :
          IsWrittenUpTo (g.W.Sink.contents l.fn.sink) (g.W.Sink.contents l.sink) (report_of (script_view l.script))
          (reports (map server_view l.script.head.servers.items) l.script.account (drop l.act-index l.script.acts.items) (state l.run));
      ready : IsSetUp (map server_view l.script.head.servers.items) l.run;
    }
