use Rattle.std.proofs.Common.{subst, sym}
use Rattle.tp_kept.specs.Kept.{KeepsLife, life}
use Rattle.tp_kept.proofs.kept.Kept.answer.Goals as goal

pub returns-in-Ok-true-clause-keeps : goal.returns-in-Ok-true-clause-keeps
returns-in-Ok-true-clause-keeps g c =
    subst (λ j. KeepsLife (g.D.Device.may_leave j.device) (life c.args.self.now)) (sym c.perform.ensures.same.0) c.requires.kept.keeps
