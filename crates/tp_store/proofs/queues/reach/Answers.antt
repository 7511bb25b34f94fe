use Rattle.std.proofs.Common.{◌∙◌, arith}
use Rattle.tp_store.proofs.Queued.{one_more}
use Rattle.tp_store.proofs.queues.reach.Goals as goal

pub loop-alloc-preserved : goal.loop-alloc-preserved
loop-alloc-preserved c = record {
  same = rw c.in-Ok.ensures.items (one_more 0 c.loop-alloc.sets.items c.new.result c.new.ensures.empty ∙ c.loop-alloc.invariant.same);
  more = let old = c.loop-alloc.invariant.more in let new = c.push.ensures.lower_bound in omega arith;
}
