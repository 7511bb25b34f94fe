use Rattle.std.proofs.Common.{refl}
use Rattle.tp_rollover.proofs.Heads.{stay_same}
use Rattle.tp_rollover.proofs.managed.Managed.roll_over.Goals as goal

pub returns-in_default-clause-refused : goal.returns-in_default-clause-refused
returns-in_default-clause-refused c = record { manager = refl; given = refl; passes = stay_same c.args.self.now.passes.items }
