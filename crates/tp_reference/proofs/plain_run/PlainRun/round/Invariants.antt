use Rattle.std.proofs.Common.{◌≡◌, map}
use Rattle.tp_script.specs.Script.{server_view}
use Rattle.tp_reference.specs.PlainReport.{round_below}
use Rattle.tp_reference.specs.PlainRunning.{state, IsSetUp}
use Rattle.tp_reference.proofs.plain_run.PlainRun.round.Given as goal

-- the desks before have had their turns
abbrev pub invariant-loop-at : goal.invariant-loop-at
invariant-loop-at l = record {
  turns : round_below l.order (map server_view l.servers) l.at (state l.fn.self) ≡ (l.claimed, state l.self);
  ready : IsSetUp (map server_view l.servers) l.self;
}
