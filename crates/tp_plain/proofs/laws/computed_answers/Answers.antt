use Rattle.tp_plain.proofs.Allowed.{computed_are_allowed}
use Rattle.tp_plain.proofs.laws.computed_answers.Goals as goal

pub returns : goal.returns
returns c = computed_are_allowed
