use Rattle.std.proofs.Common.{◌≡◌, ◌+◌, ◌≤◌, length}
use Rattle.tp_manager.specs.Accounts.{AreAll}
use Rattle.tp_manager.specs.Shown.{IsKeptBy, numbers}
use Rattle.tp_desk.specs.Steady.{shown}
use Rattle.tp_commands.specs.Places.{firsts}
use Rattle.tp_commands.specs.Told.{AreReady, units_held}
use Rattle.tp_commands.specs.Units.{all_units_left}
use Rattle.tp_commands.proofs.Rounds.{Turned}
use Rattle.tp_commands.proofs.UnitsUsed.{count}
use Rattle.tp_commands.proofs.drains.round.Given as goal

abbrev pub invariant-loop-at : goal.invariant-loop-at
invariant-loop-at g l = record {
  keeper : IsKeptBy l.manager l.keeper;
  all : AreAll l.keeper l.passes;
  given : l.keeper.given ≡ l.fn.keeper.given;
  ready : AreReady (shown (λ z. (goal.Server-dyn g z).behaviour z.1)) (shown (λ z. (goal.Server-dyn g z).registers z.1)) (shown (λ z. (goal.Server-dyn g z).pending z.1)) l.manager l.passes l.servers l.places;
  enough : 1 + length l.servers ≤ length l.passes;
  as_many : length l.places ≡ length l.fn.places;
  began : firsts l.places ≡ firsts l.fn.places;
  numbered : numbers l.passes ≡ numbers l.fn.passes;
  held : units_held (length l.fn.servers) l.passes ≡ units_held (length l.fn.servers) l.fn.passes;
  turns : Turned (shown (λ z. (goal.Server-dyn g z).behaviour z.1)) (shown (λ z. (goal.Server-dyn g z).registers z.1)) (shown (λ z. (goal.Server-dyn g z).pending z.1)) l.order l.manager l.at l.fn.keeper l.fn.passes l.fn.servers l.fn.places l.claims l.keeper l.passes l.servers l.places;
  fewer : count l.claims + all_units_left l.manager.limits l.passes ≤ all_units_left l.manager.limits l.fn.passes;
}
