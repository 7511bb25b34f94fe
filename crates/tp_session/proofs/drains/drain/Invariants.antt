use Rattle.std.proofs.Common.{◌≡◌, ◌-◌}
use Rattle.tp_session.specs.Drains.{rounds}
use Rattle.tp_session.proofs.drains.drain.Given as goal

abbrev pub invariant-loop-past : goal.invariant-loop-past
invariant-loop-past l = rounds l.order l.most l.fn.servers l.fn.store ≡ rounds l.order (l.most - l.past) l.servers l.store
