use Rattle.std.proofs.Common.{◌≡◌, None}
use Rattle.tp_manager.specs.Shown.{IsOf}
use Rattle.tp_witness.proofs.playing.take_turns.Given as goal

abbrev pub invariant-loop-past : goal.invariant-loop-past
invariant-loop-past l = record { own : IsOf l.manager l.pass; free : l.pass.open_unit ≡ None }
