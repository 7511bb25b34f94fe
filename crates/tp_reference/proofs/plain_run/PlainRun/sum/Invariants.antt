use Rattle.std.proofs.Common.{◌≡◌, ◌*◌, ◌^◌, ◌≤◌, sum_by, take}
use Rattle.tp_reference.specs.PlainReport.{counted_at_desk}
use Rattle.tp_reference.proofs.plain_run.PlainRun.sum.Given as goal

-- the sum so far; each register is below 2 ^ 64
abbrev pub invariant-loop-desk : goal.invariant-loop-desk
invariant-loop-desk l = record {
  few : l.sum ≤ l.desk-index * (2 ^ 64);
  is : l.sum ≡ sum_by (counted_at_desk l.k) (take l.desk-index l.self.desks.items);
}
