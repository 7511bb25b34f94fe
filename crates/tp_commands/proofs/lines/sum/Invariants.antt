use Rattle.std.proofs.Common.{◌≡◌, ◌*◌, ◌^◌, ◌≤◌, sum_by, take, zip}
use Rattle.tp_desk.specs.Steady.{shown}
use Rattle.tp_commands.specs.Registers.{value_at}
use Rattle.tp_commands.proofs.lines.sum.Given as goal

-- the sum so far; each register is below 2 ^ 64
abbrev pub invariant-loop-i : goal.invariant-loop-i
invariant-loop-i g l = record {
  few : l.sum ≤ l.i * (2 ^ 64);
  is : l.sum ≡ sum_by (value_at (shown (λ z. (goal.Server-dyn g z).registers z.1)) l.k) (take l.i (zip l.servers l.places));
}
