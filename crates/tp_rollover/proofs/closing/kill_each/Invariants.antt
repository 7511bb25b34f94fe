use Rattle.std.proofs.Common.{◌≡◌, ◌*◌, None, take}
use Rattle.tp_manager.specs.Bounds.{kill_steps}
use Rattle.tp_manager.specs.Shown.{IsOf}
use Rattle.tp_rollover.specs.Bounds.{PassMakes}
use Rattle.tp_rollover.specs.Closing.{KillsAllMoved}
use Rattle.tp_rollover.proofs.closing.kill_each.Given as goal

abbrev pub invariant-loop-place : goal.invariant-loop-place
invariant-loop-place l = record {
  own : IsOf l.manager l.pass × (l.pass.number ≡ l.initial.pass.number);
  free : l.pass.open_unit ≡ None;
  made : PassMakes (l.place * kill_steps l.manager.limits) l.initial.pass l.pass;
  ran : KillsAllMoved l.manager.limits (take l.place l.moved) l.initial.pass l.pass;
}
