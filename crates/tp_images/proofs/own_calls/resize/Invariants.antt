use Rattle.std.proofs.Common.{◌≡◌, ◌+◌, ◌≤◌, None}
use Rattle.tp_workers.specs.Free.{IsFreePass}
use Rattle.tp_workers.specs.Gains.{commits_in}
use Rattle.tp_images.proofs.Resizing.{Resizing}
use Rattle.tp_images.proofs.own_calls.resize.Given as goal

abbrev pub invariant-loop-turn : goal.invariant-loop-turn
invariant-loop-turn l = record {
  free : IsFreePass l.manager l.pass;
  resized : l.resized + commits_in l.fn.pass ≡ commits_in l.pass;
  at_most : l.resized ≤ l._turn;
  steady : Resizing l.fn.pass l.pass None;
}
