use Rattle.std.proofs.Common.{◌≡◌, ◌*◌, ◌+◌, ◌≤◌, length, take, vec_capacity}
use Rattle.tp_manager.specs.Bounds.{submit_steps}
use Rattle.tp_manager.specs.Shown.{IsOf}
use Rattle.tp_rollover.specs.Bounds.{PassMakes}
use Rattle.tp_rollover.specs.Runs.{RunsThrough}
use Rattle.tp_rollover.proofs.calls.submit_each.Given as goal

abbrev pub invariant-loop-place : goal.invariant-loop-place
invariant-loop-place l = record {
  own : IsOf l.manager l.pass × (l.pass.number ≡ l.initial.pass.number);
  many : length l.moved.items ≡ length l.initial.moved.items + l.place;
  space : vec_capacity l.initial.moved ≤ vec_capacity l.moved;
  made : PassMakes (l.place * submit_steps l.manager.limits) l.initial.pass l.pass;
  ran : RunsThrough l.manager.limits (take l.place l.roots) l.initial.moved.items l.moved.items l.initial.pass l.pass;
}
