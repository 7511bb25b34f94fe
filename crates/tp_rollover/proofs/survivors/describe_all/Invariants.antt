use Rattle.std.proofs.Common.{◌≡◌, ◌*◌, ◌≤◌, length, take, vec_capacity}
use Rattle.tp_manager.specs.Shown.{IsOf}
use Rattle.tp_rollover.specs.Thread.{Stays}
use Rattle.tp_rollover.specs.Bounds.{PassMakes, describe_steps}
use Rattle.tp_rollover.specs.Finding.{AreDescribed}
use Rattle.tp_rollover.specs.Told.{HoldsAsSeen}
use Rattle.tp_rollover.proofs.survivors.describe_all.Given as goal

abbrev pub invariant-loop-place : goal.invariant-loop-place
invariant-loop-place l = record {
  own : IsOf l.manager l.pass;
  stays : Stays l.initial.pass l.pass;
  many : length l.found.items ≡ l.place;
  space : vec_capacity l.initial.found ≤ vec_capacity l.found;
  told : HoldsAsSeen l.initial.pass l.pass (λ h. AreDescribed l.manager.limits h (take l.place l.ids) l.found.items);
  made : PassMakes (l.place * describe_steps l.manager.limits) l.initial.pass l.pass;
}
