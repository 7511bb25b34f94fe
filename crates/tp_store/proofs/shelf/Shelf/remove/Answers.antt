use Rattle.std.proofs.Common.{None}
use Rattle.tp_store.proofs.Placing.{indexed_put, none_entered, put_at}
use Rattle.tp_store.proofs.shelf.Shelf.remove.Goals as goal

pub invariant_of-self : goal.invariant_of-self
invariant_of-self c = indexed_put c.args.id c.self.inside.elements.entries c.self.inside.indexes c.self.invariant None c.remove-removed.new.self.entries c.self.inside.indexes c.leave.new.self c.ranges.id.fits (put_at c.args.id None c.self.inside.elements.entries c.remove-removed.new.self.entries c.remove-removed.ensures.updates.0) c.remove-removed.ensures.ordered (none_entered c.args.id c.self.inside.elements.entries c.self.inside.indexes c.self.invariant) (rw (c.groups_at-before.ensures, c.remove-removed.ensures.value) at c.leave.ensures)

pub returns-clause-at : goal.returns-clause-at
returns-clause-at c = rw (← c.self.view_is) (put_at c.args.id None c.self.inside.elements.entries c.remove-removed.new.self.entries c.remove-removed.ensures.updates.0)
