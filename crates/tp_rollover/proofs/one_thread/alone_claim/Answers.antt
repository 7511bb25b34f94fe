use Rattle.tp_rollover.proofs.one_thread.alone_claim.Goals as goal
use Rattle.tp_rollover.proofs.AloneClaims.{alone_claim, alone_claim_next}
use Rattle.tp_rollover.proofs.AloneGiven.{alone_claim_id}

pub returns : goal.returns
returns c = record { least = alone_claim; next = alone_claim_next; given = alone_claim_id }
