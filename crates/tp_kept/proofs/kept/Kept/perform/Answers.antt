use Rattle.std.proofs.Common.{◌+◌, ◌-◌, ◌<◌, ◌^◌, arith}
use Rattle.tp_kept.proofs.kept.Kept.perform.Goals as goal

pub returns-in-Ok-clause-fits : goal.returns-in-Ok-clause-fits
returns-in-Ok-clause-fits g c = omega (arith, c.in-Ok.ensures.counted, c.answer_all.ensures.fits)
