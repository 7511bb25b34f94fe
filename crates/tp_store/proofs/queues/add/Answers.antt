use Rattle.std.proofs.Common.{refl, ◌∙◌}
use Rattle.std.proofs.lemmas.Option.{slice_get_read}
use Rattle.tp_store.proofs.Queued.{put, reached, rewritten, unreached}
use Rattle.tp_store.proofs.queues.add.Goals as goal

pub returns-in-Err-clause-absent : goal.returns-in-Err-clause-absent
returns-in-Err-clause-absent c = unreached c.args.queue c.args.id c.args.sets.now.items c.in-Err.ensures.short

pub returns-in-Ok-insert-clause-ok : goal.returns-in-Ok-insert-clause-ok
returns-in-Ok-insert-clause-ok c = rw (← c.reach.ensures.same) (put c.args.queue c.args.id c.reach.new.sets.items c.index_mut.result.now c.insert.new.self (slice_get_read c.reach.new.sets.items _ c.args.queue _ refl c.in-Ok.ensures.long c.index_mut.ensures.value) c.in-Ok.ensures.long c.in-Ok-insert.ensures.updates.0)

pub returns-in-Err-insert-clause-err : goal.returns-in-Err-insert-clause-err
returns-in-Err-insert-clause-err c = rewritten 0 c.args.queue c.reach.new.sets.items c.index_mut.result.now c.insert.new.self (slice_get_read c.reach.new.sets.items _ c.args.queue _ refl c.in-Ok.ensures.long c.index_mut.ensures.value) c.in-Err-insert.ensures.err ∙ c.reach.ensures.same

pub returns-in-Err-insert-clause-absent : goal.returns-in-Err-insert-clause-absent
returns-in-Err-insert-clause-absent c = rw (← c.reach.ensures.same) (reached c.args.queue c.args.id c.reach.new.sets.items c.index_mut.result.now (slice_get_read c.reach.new.sets.items _ c.args.queue _ refl c.in-Ok.ensures.long c.index_mut.ensures.value) ∙ c.in-Err-insert.ensures.absent)
