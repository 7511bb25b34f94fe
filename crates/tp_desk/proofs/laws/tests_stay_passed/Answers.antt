use Rattle.tp_desk.proofs.Books.{serves_preserved}
use Rattle.tp_desk.proofs.laws.tests_stay_passed.Goals as goal

pub returns : goal.returns
returns c behaviour test start registers old new = serves_preserved
