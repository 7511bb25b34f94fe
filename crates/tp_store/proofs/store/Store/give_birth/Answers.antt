use Rattle.std.proofs.Common.{arith}
use Rattle.tp_store.specs.State.{with_births}
use Rattle.tp_store.proofs.Newborn.{swept_as}
use Rattle.tp_store.proofs.store.Store.give_birth.Goals as goal

pub invariant_of-self-2 : goal.invariant_of-self-2
invariant_of-self-2 c = λ i low. c.forget.ensures.fewer i (c.in-Ok.ensures.behind i (let h = c.in-Some.ensures in omega arith))

pub returns-clause-ok : goal.returns-clause-ok
returns-clause-ok c = rw (← c.self.view_is) (let h = swept_as (with_births c.args.from.now c.args.drafts.now (record { limits = c.self.inside.limits; next = c.self.inside.next; units = c.self.inside.units; elements = c.self.inside.shelf; tally = c.self.inside.tally; ended = c.self.inside.ended.items })) c.forget.new.shelf c.forget.new.ended.items in rw (c.in-Some.ensures.1, c.count_births.ensures) (h (rw c.in-Ok.ensures.ok at c.forget.ensures.forgets)))
