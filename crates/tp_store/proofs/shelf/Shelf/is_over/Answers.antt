use Rattle.std.proofs.Common.{sym, ◌∙◌}
use Rattle.tp_store.specs.Elements.{alive_of}
use Rattle.tp_store.proofs.Finding.{told_none}
use Rattle.tp_store.proofs.Owning.{alive_is, other_there, own_there}
use Rattle.tp_store.proofs.shelf.Shelf.is_over.Goals as goal

pub returns-in-Some : goal.returns-in-Some
returns-in-Some c = rw (← c.self.view_is) (own_there alive_of alive_is c.args.root 0 c.self.inside.elements.entries _ c.self.invariant.sorted c.self.invariant.fits c.self.invariant.alive _ (sym c.own_alive.ensures ∙ c.in-Some.is))

pub returns-in-None : goal.returns-in-None
returns-in-None c = rw (← c.self.view_is) (told_none _ _ c.is_none.ensures ∙ other_there alive_of alive_is c.args.root 0 c.self.inside.elements.entries _ c.self.invariant.sorted c.self.invariant.fits c.self.invariant.alive _ (sym c.own_alive.ensures ∙ c.in-None.is) c.first.ensures)
