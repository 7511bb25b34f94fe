use Rattle.std.proofs.Common.{map}
use Rattle.tp_script.specs.Script.{server_view}
use Rattle.tp_reference.proofs.ReportLemmas.{finals_none, finals_more}
use Rattle.tp_reference.proofs.plain_run.PlainRun.finals.Goals as goal

pub loop-at-init : goal.loop-at-init
loop-at-init c = rw (finals_none (map server_view c.args.servers.now) c.args.self.now.desks.items) c.new-text.ensures.bytes

pub loop-at-preserved : goal.loop-at-preserved
loop-at-preserved c =
    rw (finals_more (map server_view c.args.servers.now) c.args.self.now.desks.items c.loop-at.at, ← c.loop-at.invariant, ← c.in_ok-line.ensures, ← c.as_str.ensures.value) c.in_ok-push_str.ensures.bytes
