use Rattle.tp_rule.proofs.PlaceLemmas
use Rattle.tp_rule.proofs.places.places_differ.Goals as goal

pub returns-clause-differ : goal.returns-clause-differ
returns-clause-differ c = PlaceLemmas.places_differ

pub returns-clause-inside : goal.returns-clause-inside
returns-clause-inside c = PlaceLemmas.places_inside
