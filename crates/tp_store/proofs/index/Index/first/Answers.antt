use Rattle.tp_store.proofs.Places.{first_found, none_found, other_found}
use Rattle.tp_store.proofs.index.Index.first.Goals as goal

pub returns-in_default : goal.returns-in_default
returns-in_default c = rw (← c.self.view_is) (none_found c.self.inside.places c.args.group c.args.from c.range.result (c.range.ensures.in_range tt) c.in_default.ensures.steps.0)

pub returns-then-at-group : goal.returns-then-at-group
returns-then-at-group c = rw (← c.self.view_is) (first_found c.self.inside.places c.args.group c.args.from c.range.result (c.range.ensures.in_range tt) _ _ c.in-Some.ensures.steps c.if-at-group.true)

pub returns-else-at-group : goal.returns-else-at-group
returns-else-at-group c = rw (← c.self.view_is) (other_found c.self.inside.places c.args.group c.args.from c.range.result (c.range.ensures.in_range tt) _ _ c.in-Some.ensures.steps c.if-at-group.false)
