use Rattle.std.proofs.Common.{refl}
use Rattle.std.proofs.lemmas.Option.{slice_get_read}
use Rattle.tp_store.proofs.Queued.{least_waits, no_queue}
use Rattle.tp_store.proofs.queues.first.Goals as goal

pub returns-then-at-sets : goal.returns-then-at-sets
returns-then-at-sets c = no_queue c.args.queue c.args.from c.args.sets.now c.if-at-sets.true

pub returns : goal.returns
returns c = least_waits c.args.queue c.args.from c.args.sets.now c.index-sets-at.result (slice_get_read c.args.sets.now _ c.args.queue _ refl c.if-at-sets.false c.index-sets-at.is) _ c.least.ensures
