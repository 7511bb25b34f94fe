use Rattle.tp_store.proofs.Places.{removed}
use Rattle.tp_store.proofs.index.Index.remove.Goals as goal

pub returns : goal.returns
returns c = rw (← c.self.view_is) (λ g i. removed c.args.group c.args.id g i c.self.inside.places.keys c.remove.new.self.keys (c.remove.ensures.updates.0 (g, i)))
