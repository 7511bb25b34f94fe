use Rattle.std.proofs.Common.{◌≡◌, ◌*◌, All, length, replicate, sum_by}
use Rattle.tp_workers.specs.Clients.{IsClientJob}
use Rattle.tp_workers.specs.Sums.{calls_of}
use Rattle.tp_commands.specs.Together.{client_job}
use Rattle.tp_commands.proofs.racing.client_jobs.Given as goal

abbrev pub invariant-loop-i : goal.invariant-loop-i
invariant-loop-i l = record {
  jobs : All IsClientJob l.jobs.items;
  all : l.jobs.items ≡ replicate l._i (client_job l.plan);
  many : length l.jobs.items ≡ l._i;
  calls : sum_by calls_of l.jobs.items ≡ l._i * l.plan.submits;
}
