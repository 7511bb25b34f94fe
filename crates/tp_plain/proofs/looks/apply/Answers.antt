use Rattle.tp_plain.specs.Noted.{noted_event}
use Rattle.tp_plain.specs.Looks.{look_after}
use Rattle.tp_plain.proofs.PlainLemmas.{map_step}
use Rattle.tp_plain.proofs.looks.apply.Goals as goal

pub loop-look-preserved : goal.loop-look-preserved
loop-look-preserved c =
    rw c.after.ensures (map_step (look_after c.args.limit (noted_event c.args.note.now)) c.args.looks.now c.loop-look.looks c.loop-look.look-index _ c.loop-look-test.true c.loop-look.auto.looks c.loop-look.invariant)
