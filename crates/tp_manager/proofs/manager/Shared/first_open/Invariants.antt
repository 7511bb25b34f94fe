use Rattle.tp_manager.specs.Marks.{AreFinished}
use Rattle.tp_manager.proofs.manager.Shared.first_open.Given as goal

abbrev pub invariant-loop-part : goal.invariant-loop-part
invariant-loop-part l = AreFinished l.limits l.lows l.part
