use Rattle.std.proofs.Common.{inr}
use Rattle.tp_kept.specs.Kept.{life}
use Rattle.tp_kept.proofs.KeptLemmas.{keeps_before, keeps_torn, kept_appended}
use Rattle.tp_kept.proofs.kept.Kept.append.Goals as goal

pub returns-in-Ok-clause-kept : goal.returns-in-Ok-clause-kept
returns-in-Ok-clause-kept g c =
    kept_appended g.D.Device.seen g.D.Device.may_leave c.args.self.now.journal c.append.new.self (life c.args.self.now) c.requires.kept c.in-Ok.ensures.open c.args.lines.now c.in-Ok.ensures.acknowledged.0 c.in-Ok.ensures.acknowledged.1 c.requires.batch c.requires.theirs (c.in-Ok.ensures.within c.requires.kept.fine)

pub returns-in-Ok-clause-keeps : goal.returns-in-Ok-clause-keeps
returns-in-Ok-clause-keeps g c =
    keeps_before g.D.Device.seen g.D.Device.may_leave c.append.new.self.device (life c.args.self.now) c.args.lines.now (inr (c.requires.batch.front, c.requires.batch.ends)) (returns-in-Ok-clause-kept g c).keeps

pub returns-in-Err-clause-keeps : goal.returns-in-Err-clause-keeps
returns-in-Err-clause-keeps g c =
    keeps_torn g.D.Device.seen g.D.Device.may_leave c.args.self.now.journal c.append.new.self (life c.args.self.now) c.requires.kept c.in-Err.ensures.open g.D.Device.moment g.D.Device.left_since g.met.D.Device.counts_now c.args.lines.now c.requires.batch (c.in-Err.ensures.any_moment c.requires.kept.fine) c.requires.theirs (c.in-Err.ensures.within c.requires.kept.fine)
