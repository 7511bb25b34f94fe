use Rattle.std.proofs.Common.{◌≡◌, None}
use Rattle.tp_manager.specs.Shown.{IsOf}
use Rattle.tp_witness.proofs.read_all.Given as goal

abbrev pub invariant-loop-id : goal.invariant-loop-id
invariant-loop-id l = record { own : IsOf l.manager l.pass; free : l.pass.open_unit ≡ None }
