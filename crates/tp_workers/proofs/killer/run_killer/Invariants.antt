use Rattle.std.proofs.Common.{◌≡◌, ◌-◌, None}
use Rattle.tp_workers.specs.Calling.{MadeCalls}
use Rattle.tp_workers.specs.Killers.{KillsNext, killing}
use Rattle.tp_workers.specs.Tally.{kill_count}
use Rattle.tp_manager.specs.Shown.{IsOf}
use Rattle.tp_workers.proofs.killer.run_killer.Given as goal

abbrev pub invariant-loop-id : goal.invariant-loop-id
invariant-loop-id g l = record {
  own : IsOf l.manager l.pass;
  free : l.pass.open_unit ≡ None;
  calls : MadeCalls (KillsNext l.manager.limits) kill_count (l.id - l.job.first) (killing l.job.first l.fn.pass) l.counts (killing l.id l.pass);
}
