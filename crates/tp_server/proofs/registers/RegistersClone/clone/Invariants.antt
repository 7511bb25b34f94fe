use Rattle.std.proofs.Common.{◌≡◌, take}
use Rattle.tp_server.proofs.registers.RegistersClone.clone.Given as goal

-- the registers so far are copied
abbrev pub invariant-loop-cell : goal.invariant-loop-cell
invariant-loop-cell l = l.cells.items ≡ take l.cell-index l.cell-items
