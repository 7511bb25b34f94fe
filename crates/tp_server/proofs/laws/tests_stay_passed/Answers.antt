use Rattle.tp_server.proofs.Books.{all_preserve}
use Rattle.tp_server.proofs.laws.tests_stay_passed.Goals as goal

pub returns : goal.returns
returns c behaviour test = all_preserve
