use Rattle.std.proofs.Common.{◌≡◌}
use Rattle.tp_store.specs.Ends.{forget}
use Rattle.tp_store.specs.Shelves.{IsFewer}
use Rattle.tp_store.proofs.ends.forget.Given as goal

abbrev pub invariant-loop-step : goal.invariant-loop-step
invariant-loop-step l = record {
  forgets : record { elements = l.shelf; ended = l.ended.items } ≡ forget l._step l.keep (record { elements = l.fn.shelf; ended = l.fn.ended.items });
  fewer : IsFewer l.fn.shelf l.shelf;
}
