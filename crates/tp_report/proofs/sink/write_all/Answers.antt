use Rattle.std.proofs.lemmas.List.{take_rest}
use Rattle.tp_report.proofs.Devices.{written_more}
use Rattle.tp_report.proofs.sink.write_all.Goals as goal

pub loop-rest-preserved : goal.loop-rest-preserved
loop-rest-preserved g c = simp take_rest (written_more _ _ _ c.args.bytes.now c.loop-rest.rest.now c.in_ok-n.n c.loop-rest.invariant c.in_ok-n.ensures.bytes)
