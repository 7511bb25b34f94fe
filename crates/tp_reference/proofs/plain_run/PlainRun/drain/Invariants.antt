use Rattle.std.proofs.Common.{◌≡◌, map}
use Rattle.tp_script.specs.Script.{server_view}
use Rattle.tp_reference.specs.PlainReport.{drain_of, drain_rounds}
use Rattle.tp_reference.specs.PlainRunning.{state, IsSetUp}
use Rattle.tp_reference.proofs.plain_run.PlainRun.drain.Given as goal

-- what is left to do are this many rounds at most
abbrev pub invariant-loop-left : goal.invariant-loop-left
invariant-loop-left l = record {
  left : drain_rounds l.order (map server_view l.servers) l.left (state l.self) ≡ drain_of l.order (map server_view l.servers) (state l.fn.self);
  ready : IsSetUp (map server_view l.servers) l.self;
}

abbrev pub decreases-loop-left : goal.decreases-loop-left
decreases-loop-left l = l.left
