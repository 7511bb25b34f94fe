use Rattle.std.proofs.Common.{◌≡◌, ◌+◌, ◌-◌, ◌≤◌, [], All, length, vec_capacity}
use Rattle.tp_manager.specs.Accounts.{AreAll}
use Rattle.tp_manager.specs.Shown.{IsKeptBy, IsOf}
use Rattle.tp_rollover.specs.Bounds.{made_by_all}
use Rattle.tp_rollover.specs.Managed.{IsNewPass}
use Rattle.tp_rollover.proofs.managed.all_passes.Given as goal

abbrev pub invariant-loop-pass : goal.invariant-loop-pass
invariant-loop-pass l = record {
  keeper : IsKeptBy l.manager l.keeper;
  own : All (IsOf l.manager) l.passes.items;
  seen : l.keeper.seen ≡ [];
  new : All IsNewPass l.passes.items;
  room : l.manager.limits.parts ≤ vec_capacity l.passes;
  given : AreAll l.keeper l.passes.items;
  made : made_by_all l.keeper l.passes.items ≡ l.initial.keeper.steps + length l.passes.items;
}

abbrev pub decreases-loop-pass : goal.decreases-loop-pass
decreases-loop-pass l = l.manager.limits.parts - l.keeper.given
