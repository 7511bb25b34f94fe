use Rattle.std.proofs.Common.{take}
use Rattle.tp_model.specs.Steps.{rows_of}
use Rattle.tp_rollover.specs.Space.{AreWithin}
use Rattle.tp_rollover.proofs.checking.are_within.Given as goal

abbrev pub invariant-loop-place : goal.invariant-loop-place
invariant-loop-place l = AreWithin (rows_of l.old.limits) (rows_of l.new.limits) (take l.place l.moved)
