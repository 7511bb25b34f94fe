use Rattle.std.proofs.Common.{drop}
use Rattle.tp_workers.specs.Calling.{MadeCalls}
use Rattle.tp_workers.specs.Clients.{SubmitsFirst, submitting}
use Rattle.tp_workers.specs.Tally.{submit_count}
use Rattle.tp_manager.specs.Shown.{IsOf}
use Rattle.tp_workers.proofs.client.run_client.Given as goal

abbrev pub invariant-loop-at : goal.invariant-loop-at
invariant-loop-at g l = record {
  own : IsOf l.manager l.pass;
  calls : MadeCalls (SubmitsFirst l.manager.limits l.job.stage) submit_count l.at (submitting l.job.bodies l.fn.pass) l.counts (submitting (drop l.at l.job.bodies) l.pass);
}
