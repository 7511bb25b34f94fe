use Rattle.std.proofs.Common.{◌≡◌}
use Rattle.tp_manager.specs.Shown.{IsOf}
use Rattle.tp_witness.proofs.playing.follow.Given as goal

abbrev pub invariant-loop-past : goal.invariant-loop-past
invariant-loop-past l = record { own : IsOf l.manager l.pass; same : l.pass.open_unit ≡ l.fn.pass.open_unit }
