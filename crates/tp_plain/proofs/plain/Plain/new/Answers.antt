use Rattle.std.proofs.Common.{refl}
use Rattle.tp_model.specs.Steps.{AreLimits}
use Rattle.tp_plain.proofs.PassStates.{start_reached}
use Rattle.tp_plain.proofs.Requeues.{rounds_fresh}
use Rattle.tp_plain.proofs.plain.Plain.new.Goals as goal

pub invariant_of-result : goal.invariant_of-result
invariant_of-result c =
    let limits : AreLimits c.args.limits = c.is_valid.ensures.0 c.if-not-is_valid.false in
    rw (c.new-2.ensures, c.in-Ok.ensures, c.new.ensures.items, c.in-Ok-fresh_rounds.ensures, c.block_first.ensures) (start_reached c.args.limits limits, refl, rounds_fresh c.args.limits)
