use Rattle.std.proofs.Common.{arith}
use Rattle.tp_reference.proofs.ListingLemmas.{one_counted}
use Rattle.tp_reference.proofs.client_acts.counted_with.Goals as goal

pub returns-in-Ok-clause-few : goal.returns-in-Ok-clause-few
returns-in-Ok-clause-few c = rw c.one_more.ensures (omega (arith, one_counted c.in-Ok.look.status c.args.counts))
