use Rattle.std.proofs.Common.{refl}
use Rattle.tp_commands.proofs.Rollovers.{gone_free, stays_still}
use Rattle.tp_commands.proofs.rollover.go_on.Goals as goal

pub returns-in-Ok-clause-free : goal.returns-in-Ok-clause-free
returns-in-Ok-clause-free c =
    gone_free c.args.own c.args.managed.now c.roll_over.new.self c.in-Ok.moved.items c.requires.managed c.in-Ok.ensures.managed c.in-Ok.ensures.moved (rw c.as_slice-passes.ensures.value at (c.if-has_open.ensures.free refl))

pub returns-then-has_open-clause-refused : goal.returns-then-has_open-clause-refused
returns-then-has_open-clause-refused c = stays_still c.args.managed.now c.args.managed.now refl
