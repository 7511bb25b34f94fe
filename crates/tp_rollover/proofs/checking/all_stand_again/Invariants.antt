use Rattle.std.proofs.Common.{◌*◌, take}
use Rattle.tp_manager.specs.Shown.{IsOf}
use Rattle.tp_rollover.specs.Thread.{Stays}
use Rattle.tp_rollover.specs.Alike.{AllStandUnheld}
use Rattle.tp_rollover.specs.Bounds.{PassMakes, compare_steps}
use Rattle.tp_rollover.specs.Told.{HoldsAsSeen}
use Rattle.tp_rollover.proofs.checking.all_stand_again.Given as goal

abbrev pub invariant-loop-place : goal.invariant-loop-place
invariant-loop-place l = record {
  own : IsOf l.manager l.pass;
  stays : Stays l.initial.pass l.pass;
  told : HoldsAsSeen l.initial.pass l.pass (λ g. AllStandUnheld l.manager.limits.attempts g (take l.place l.survivors) (take l.place l.moved));
  made : PassMakes (l.place * compare_steps l.manager.limits) l.initial.pass l.pass;
}
