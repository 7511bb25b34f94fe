use Rattle.std.proofs.Common.{Some, ap}
use Rattle.tp_store.specs.Shelves.{groups_at}
use Rattle.tp_store.proofs.Placing.{indexed_again, indexed_put, put_at}
use Rattle.tp_store.proofs.shelf.Shelf.insert.Goals as goal

pub returns-in-Ok-insert-clause-at : goal.returns-in-Ok-insert-clause-at
returns-in-Ok-insert-clause-at c = rw (← c.self.view_is) (put_at c.args.id (Some c.args.element) c.self.inside.elements.entries c.insert.new.self.entries (rw c.of-kept.ensures at c.in-Ok-insert.ensures.updates.0))

pub invariant_of-self-in-Ok-insert : goal.invariant_of-self-in-Ok-insert
invariant_of-self-in-Ok-insert c = let none = rw (← c.self.view_is) at c.requires.unborn in indexed_put c.args.id c.self.inside.elements.entries c.self.inside.indexes c.self.invariant (Some c.args.element) c.insert.new.self.entries c.enter.new.self c.leave.new.self c.ranges.id.fits (put_at c.args.id (Some c.args.element) c.self.inside.elements.entries c.insert.new.self.entries (rw c.of-kept.ensures at c.in-Ok-insert.ensures.updates.0)) c.insert.ensures.ordered (rw c.groups-to.ensures at c.in-Ok.ensures.ok) (rw (← ap (groups_at c.args.id) none, c.groups-to.ensures) at c.leave.ensures)

pub invariant_of-self-in-Err-insert : goal.invariant_of-self-in-Err-insert
invariant_of-self-in-Err-insert c = let none = rw (← c.self.view_is) at c.requires.unborn in indexed_again c.args.id c.self.inside.elements.entries c.self.inside.indexes c.self.invariant (Some c.args.element) c.insert.new.self.entries c.enter.new.self c.leave-in-Err-insert.new.self c.in-Err-insert.ensures.err (rw c.groups-to.ensures at c.in-Ok.ensures.ok) (rw (← ap (groups_at c.args.id) none, c.groups-to.ensures) at c.leave-in-Err-insert.ensures)
