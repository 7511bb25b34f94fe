use Rattle.tp_store.proofs.Wholes.{families_are_trees}
use Rattle.tp_store.proofs.laws.families_are_trees.Goals as goal

pub returns : goal.returns
returns c = families_are_trees
