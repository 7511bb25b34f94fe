use Rattle.tp_model.proofs.Descents as descents
use Rattle.tp_model.proofs.laws.family_is_tree.Goals as goal

pub returns : goal.returns
returns c = record { tree = descents.family_is_tree; whole = descents.closed_has_family; only = descents.outputs_are_of_family }
