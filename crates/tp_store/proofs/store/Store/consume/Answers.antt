use Rattle.tp_store.specs.Calls.{of_unit}
use Rattle.tp_store.proofs.Outputs.{goes_on}
use Rattle.tp_store.proofs.store.Store.consume.Goals as goal

pub note_end-requires-clause-goes_on : goal.note_end-requires-clause-goes_on
note_end-requires-clause-goes_on c = λ some. rw (c.in-Ok-replace.ensures.ok, c.in-Ok-bear.ensures.ok) (goes_on (of_unit c.args.unit c.args.element.now) c.args.outputs.now c.self.inside.next c.args.id c.args.element.now _ c.self.inside.shelf c.self.invariant (rw (← c.self.view_is) at c.requires.there) (rw c.is_empty-goes_on.ensures at some))
