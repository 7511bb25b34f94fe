use Rattle.std.proofs.Common.{All, take}
use Rattle.tp_rollover.specs.Fits.{IsFit}
use Rattle.tp_rollover.proofs.fitting.are_fit.Given as goal

abbrev pub invariant-loop-place : goal.invariant-loop-place
invariant-loop-place l = All (IsFit l.of.limits l.fn.limits) (take l.place l.survivors)
