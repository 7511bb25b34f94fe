use Rattle.std.proofs.lemmas.Option.{slice_get-get_or}
use Rattle.tp_store.proofs.Queued.{taken, untouched}
use Rattle.tp_store.proofs.queues.remove.Goals as goal

pub returns-then-at-sets : goal.returns-then-at-sets
returns-then-at-sets c = taken c.args.queue c.args.id c.args.sets.now _ c.remove.new.self (slice_get-get_or c.args.sets.now c.args.queue c.index-sets-at.result c.if-at-sets.true) c.if-at-sets.true c.remove.ensures.updates.0

pub returns-else-at-sets : goal.returns-else-at-sets
returns-else-at-sets c = λ g i. untouched c.args.queue c.args.id c.args.sets.now g i c.if-at-sets.false
