use Rattle.std.proofs.Common.{sym, ◌∙◌}
use Rattle.tp_store.specs.Elements.{alive_of}
use Rattle.tp_store.proofs.Owning.{alive_is, earlier_is}
use Rattle.tp_store.proofs.shelf.Shelf.first_alive.Goals as goal

pub returns-clause-first : goal.returns-clause-first
returns-clause-first c = rw (← c.self.view_is) (c.earlier.ensures ∙ earlier_is alive_of alive_is c.args.root c.args.from c.self.inside.elements.entries _ c.self.invariant.sorted c.self.invariant.fits c.self.invariant.alive _ _ (sym c.own_alive-own.ensures) c.found-other.ensures.first)
