use Rattle.tp_store.proofs.Accounted.{accounts_hold}
use Rattle.tp_store.proofs.laws.accounts_hold.Goals as goal

pub returns : goal.returns
returns c = accounts_hold
