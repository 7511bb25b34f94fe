use Rattle.std.proofs.Common.{get_or, sym, ◌∙◌, arith}
use Rattle.tp_rollover.proofs.BirthsGroups.{blank, one_more}
use Rattle.tp_rollover.proofs.groups.neighbours.Goals as goal

pub loop-place-preserved : goal.loop-place-preserved
loop-place-preserved c =
    c.loop-place.invariant ∙ one_more c.args.limits (get_or c.args.rest.now 0 blank) c.args.rest.now c.loop-place.place blank (omega arith) (omega arith) c.if-next-first.false (sym c.home_of.ensures ∙ (c.if-home_of-home.false ∙ c.home_of-home.ensures))
