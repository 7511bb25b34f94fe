use Rattle.std.proofs.Common.{◌≡◌, ◌∙◌, sym, rules}
use Rattle.std.specs.Option.{option_or}
use Rattle.tp_store.specs.Elements.{first_in, queue_of}
use Rattle.tp_store.proofs.Listed.{as_first, as_second}
use Rattle.tp_store.proofs.store.Store.claim_from.Goals.{in-Some, in-None}
use Rattle.tp_store.proofs.store.Store.claim_from.Goals as goal

pub returns-clause-answer : goal.returns-clause-answer
returns-clause-answer c = elim c.match-first.branch [
  | in-Some w ↦ (let found : c.match-first.found ≡ option_or (first_in queue_of c.args.stage c.args.from c.self.inside.shelf) (first_in queue_of c.args.stage 0 c.self.inside.shelf) = as_first _ _ _ _ (sym c.first.ensures.first ∙ w.in-Some.is) w.found-is in search rules)
  | in-None w ↦ (let found : c.match-first.found ≡ option_or (first_in queue_of c.args.stage c.args.from c.self.inside.shelf) (first_in queue_of c.args.stage 0 c.self.inside.shelf) = as_second _ _ _ (sym c.first.ensures.first ∙ w.in-None.is) (w.found-is ∙ w.first-found.ensures.first) in search rules)
]
