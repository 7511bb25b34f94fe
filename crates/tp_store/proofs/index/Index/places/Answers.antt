use Rattle.tp_store.proofs.Places.{places_from_set}
use Rattle.tp_store.proofs.index.Index.places.Goals as goal

pub returns : goal.returns
returns c = rw (← c.self.view_is) (places_from_set c.self.inside.places c.args.group c.args.from c.range.result c.range.ensures.ordered (c.range.ensures.between tt))
