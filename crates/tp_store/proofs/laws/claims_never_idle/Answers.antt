use Rattle.tp_store.proofs.Progress.{claims_first, never_idle}
use Rattle.tp_store.proofs.laws.claims_never_idle.Goals as goal

pub returns : goal.returns
returns c = record { never = never_idle; first = claims_first }
