use Rattle.std.proofs.Common.{sym, ◌∙◌}
use Rattle.tp_store.specs.State.{State}
use Rattle.tp_store.proofs.Restored.{unborn}
use Rattle.tp_store.proofs.store.Store.put_back.Goals as goal

pub insert-requires : goal.insert-requires
insert-requires c =
    let s : State = record { limits = c.self.inside.limits; next = c.self.inside.next; units = c.self.inside.units; elements = c.self.inside.shelf; tally = c.self.inside.tally; ended = c.self.inside.ended.items } in
    let next = rw (← c.self.view_is) at c.is_next.ensures in
    record { unborn = unborn c.args.id s (sym next ∙ c.if-not-is_next.false) }
