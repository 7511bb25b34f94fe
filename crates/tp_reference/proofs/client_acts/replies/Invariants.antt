use Rattle.std.proofs.Common.{◌≡◌}
use Rattle.tp_reference.specs.PlainClient.{picked_below, reply_shown}
use Rattle.tp_reference.proofs.client_acts.replies.Given as goal

-- those with ids below the counter are listed
abbrev pub invariant-loop-id : goal.invariant-loop-id
invariant-loop-id l = l.found.items ≡ picked_below (reply_shown l.root) l.plain l.id
