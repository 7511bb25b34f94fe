use Rattle.tp_model.proofs.Takings as takings
use Rattle.tp_model.proofs.laws.consumed_by_passes.Goals as goal

pub returns : goal.returns
returns c = record { once = takings.consumed_is_taken; only = takings.taken_is_consumed }
