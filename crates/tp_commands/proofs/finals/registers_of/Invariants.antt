use Rattle.std.proofs.Common.{◌≡◌, take}
use Rattle.tp_commands.proofs.finals.registers_of.Given as goal

-- the registers so far
abbrev pub invariant-loop-k : goal.invariant-loop-k
invariant-loop-k g l = l.values.items ≡ take l.k ((goal.Server-dyn g (l.server.vtable, l.server.value)).registers l.server.value)
