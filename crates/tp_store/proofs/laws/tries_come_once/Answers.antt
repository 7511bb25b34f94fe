use Rattle.tp_store.proofs.Tries.{tries_come_once}
use Rattle.tp_store.proofs.laws.tries_come_once.Goals as goal

pub returns : goal.returns
returns c = tries_come_once
