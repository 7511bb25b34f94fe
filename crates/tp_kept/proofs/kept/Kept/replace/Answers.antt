use Rattle.std.proofs.Common.{Err, ap, arith, length, subst, sym}
use Rattle.tp_kept.specs.Kept.{KeepsLife, life}
use Rattle.tp_kept.proofs.KeptLemmas.{keeps_tried, kept_replaced}
use Rattle.tp_kept.proofs.LivesLemmas.{stands_short}
use Rattle.tp_kept.proofs.kept.Kept.replace.Goals as goal

pub returns-in-Ok-clause-ready : goal.returns-in-Ok-clause-ready
returns-in-Ok-clause-ready g c =
    let l = life c.args.self.now in
    record {
      theirs = c.requires.ready.theirs;
      kept = λ e. kept_replaced g.D.Device.seen g.D.Device.may_leave c.args.self.now.journal c.replace.new.self l (c.requires.ready.kept c.requires.fine) c.in-Ok.ensures.open c.args.text.now c.in-Ok.ensures.acknowledged.0 c.in-Ok.ensures.acknowledged.1 c.in-Ok.ensures.accepted (omega (arith, c.type_inv.text)) (stands_short l c.args.text.now c.requires.begun c.requires.short);
    }

pub returns-in-Ok-clause-keeps : goal.returns-in-Ok-clause-keeps
returns-in-Ok-clause-keeps g c = ((returns-in-Ok-clause-ready g c).kept c.requires.fine).keeps

pub returns-in-Err-Failed-clause-keeps : goal.returns-in-Err-Failed-clause-keeps
returns-in-Err-Failed-clause-keeps g c =
    let l = life c.args.self.now in
    let was = c.requires.ready.kept c.requires.fine in
    keeps_tried g.D.Device.seen g.D.Device.may_leave c.args.self.now.journal c.replace.new.self l was c.in-Err-Failed.ensures.open g.D.Device.moment g.D.Device.left_since g.met.D.Device.counts_now c.args.text.now (c.in-Err-Failed.ensures.tried (ap (λ e. Err e) c.in-Err-Failed.field-0-is)) (c.in-Err-Failed.ensures.any_moment was.fine) (omega (arith, c.type_inv.text)) (stands_short l c.args.text.now c.requires.begun c.requires.short)

pub returns-in-Err-Refused-clause-keeps : goal.returns-in-Err-Refused-clause-keeps
returns-in-Err-Refused-clause-keeps g c =
    let same = (c.in-Err-Refused.ensures.refused c.in-Err-Refused.field-0-0 (ap (λ e. Err e) c.in-Err-Refused.field-0-is)).0 in
    subst (λ j. KeepsLife (g.D.Device.may_leave j.device) (life c.args.self.now)) (sym same) (c.requires.ready.kept c.requires.fine).keeps

pub returns-in-Err-Memory-clause-keeps : goal.returns-in-Err-Memory-clause-keeps
returns-in-Err-Memory-clause-keeps g c =
    let same = c.in-Err-Memory.ensures.memory (ap (λ e. Err e) c.in-Err-Memory.field-0-is) in
    subst (λ j. KeepsLife (g.D.Device.may_leave j.device) (life c.args.self.now)) (sym same) (c.requires.ready.kept c.requires.fine).keeps
