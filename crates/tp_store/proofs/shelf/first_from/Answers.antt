use Rattle.std.proofs.Common.{sym, ◌∙◌}
use Rattle.tp_store.proofs.Listed.{range_first, range_none}
use Rattle.tp_store.proofs.shelf.first_from.Goals as goal

pub returns-in-Some-clause-first : goal.returns-in-Some-clause-first
returns-in-Some-clause-first c = rw c.element-element.ensures (sym (range_first c.args.from c.args.elements.now.entries _ _ (sym (c.range.ensures.between tt) ∙ c.in-Some.ensures.steps)))

pub returns-in-None-clause-first : goal.returns-in-None-clause-first
returns-in-None-clause-first c = sym (range_none c.args.from c.args.elements.now.entries (sym (c.range.ensures.between tt) ∙ c.in-None.ensures.steps.0))
