use Rattle.std.proofs.Common.{refl}
use Rattle.std.proofs.lemmas.Option.{slice_get_read}
use Rattle.tp_store.proofs.Queued.{ids_of, no_queue}
use Rattle.tp_store.proofs.queues.ids.Goals as goal

pub returns-then-at-sets-clause-none : goal.returns-then-at-sets-clause-none
returns-then-at-sets-clause-none c = no_queue c.args.queue c.args.from c.args.sets.now c.if-at-sets.true

pub returns-clause-some : goal.returns-clause-some
returns-clause-some c = ids_of c.args.queue c.args.from c.args.sets.now _ c.range.result (slice_get_read c.args.sets.now _ c.args.queue c.index-sets-at.result refl c.if-at-sets.false c.index-sets-at.is) c.range.ensures.ordered (c.range.ensures.between tt)
