use Rattle.std.proofs.Common.{◌≡◌, ◌*◌, ◌-◌, All, length, replicate, sum_by}
use Rattle.tp_workers.specs.Killers.{IsKillJob}
use Rattle.tp_workers.specs.Sums.{size_of_range}
use Rattle.tp_commands.proofs.racing.kill_jobs.Given as goal

abbrev pub invariant-loop-i : goal.invariant-loop-i
invariant-loop-i l = record {
  jobs : All IsKillJob l.jobs.items;
  all : l.jobs.items ≡ replicate l._i l.job;
  many : length l.jobs.items ≡ l._i;
  ids : sum_by size_of_range l.jobs.items ≡ l._i * (l.job.end - l.job.first);
}
