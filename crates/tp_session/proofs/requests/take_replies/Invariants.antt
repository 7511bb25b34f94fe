use Rattle.std.proofs.Common.{◌≡◌, drop}
use Rattle.tp_session.specs.Requests.{with_collected}
use Rattle.tp_session.proofs.requests.take_replies.Given as goal

abbrev pub invariant-loop-id : goal.invariant-loop-id
invariant-loop-id l = with_collected l.fn.replies l.fn.store ≡ with_collected (drop l.id-index l.replies) l.store
