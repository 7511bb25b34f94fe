use Rattle.tp_manager.specs.Shown.{IsOf}
use Rattle.tp_rollover.specs.Thread.{Stays}
use Rattle.tp_rollover.specs.Told.{HoldsAsSeen}
use Rattle.std.proofs.Common.{◌≡◌, ◌*◌, ◌≤◌, length, vec_capacity}
use Rattle.tp_manager.specs.Bounds.{read_steps}
use Rattle.tp_rollover.specs.Bounds.{PassMakes}
use Rattle.tp_rollover.proofs.Founds.{FoundBelow, IsUpTo}
use Rattle.tp_rollover.proofs.alive.find_alive.Given as goal

abbrev pub invariant-loop-row : goal.invariant-loop-row
invariant-loop-row l = record {
  own : IsOf l.manager l.pass;
  stays : Stays l.initial.pass l.pass;
  told : HoldsAsSeen l.initial.pass l.pass (FoundBelow l.manager.limits.attempts l.row l.found.items);
  up : IsUpTo l.row l.found.items;
  few : length l.found.items ≤ l.count;
  below : length l.found.items ≤ l.row;
  space : vec_capacity l.initial.found ≤ vec_capacity l.found;
  none : l.count ≡ 0 → l.row ≡ 0;
  made : PassMakes (l.row * read_steps l.manager.limits) l.initial.pass l.pass;
}
