use Rattle.std.proofs.Common.{◌+◌, arith}
use Rattle.std.proofs.Math.Nat.{mul-le-mul_right}
use Rattle.tp_reference.proofs.drains.most_rounds.Goals as goal

pub overflow_mul-result : goal.overflow_mul-result
overflow_mul-result c = omega (arith, c.requires, c.from.ensures, c.ranges.units.fits, mul-le-mul_right {m = 1 + c.args.servers} {n = 9} c.from.result (omega (arith, c.requires)))

pub overflow_add-result-2 : goal.overflow_add-result-2
overflow_add-result-2 c = omega (arith, c.requires, c.from.ensures, c.ranges.units.fits, mul-le-mul_right {m = 1 + c.args.servers} {n = 9} c.from.result (omega (arith, c.requires)))
