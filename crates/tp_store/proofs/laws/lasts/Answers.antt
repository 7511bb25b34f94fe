use Rattle.tp_store.proofs.Leading.{alive_stays}
use Rattle.tp_store.proofs.Lasts.{contents_last, families_last, ids_last, over_lasts, settled_lasts}
use Rattle.tp_store.proofs.laws.lasts.Goals as goal

pub returns : goal.returns
returns c = record { ids = ids_last; contents = contents_last; settled = settled_lasts; over = over_lasts; families = families_last; alive = alive_stays }
