use Rattle.tp_store.proofs.Places.{added}
use Rattle.tp_store.proofs.index.Index.add.Goals.{in-Ok, in-Err}
use Rattle.tp_store.proofs.index.Index.add.Goals as goal

pub returns-clause-ok : goal.returns-clause-ok
returns-clause-ok c = elim c.match-insert.branch [
  | in-Ok w ↦ (rw (w.result-is, ← c.self.view_is) (λ g i. added c.args.group c.args.id g i c.self.inside.places.keys c.insert.new.self.keys (w.in-Ok.ensures.updates.0 (g, i))))
  | in-Err w ↦ (rw w.result-is tt)
]
