use Rattle.std.proofs.Common.{arith, sym}
use Rattle.tp_reference.proofs.ListingLemmas.{counts_none, counts_more}
use Rattle.tp_reference.proofs.client_acts.counts.Goals as goal

pub loop-id-init : goal.loop-id-init
loop-id-init c = record { few = omega arith; counted = sym (counts_none c.args.plain.now) }

pub loop-id-preserved : goal.loop-id-preserved
loop-id-preserved c = record {
  few = omega (arith, c.counted_with-counts.ensures.few, c.loop-id.invariant.few);
  counted = rw (counts_more c.args.plain.now c.loop-id.id, ← c.loop-id.invariant.counted) c.counted_with-counts.ensures.counts;
}
