use Rattle.tp_server.proofs.Books.{all_lower, all_raise}
use Rattle.tp_server.proofs.laws.elements_add_up.Goals as goal

pub returns-clause-raise : goal.returns-clause-raise
returns-clause-raise c behaviour measure worth = all_raise

pub returns-clause-lower : goal.returns-clause-lower
returns-clause-lower c behaviour measure worth = all_lower
