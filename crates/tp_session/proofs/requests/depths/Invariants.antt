use Rattle.std.proofs.Common.{◌≡◌}
use Rattle.tp_session.specs.Requests.{depths_below}
use Rattle.tp_session.proofs.requests.depths.Given as goal

abbrev pub invariant-loop-stage : goal.invariant-loop-stage
invariant-loop-stage l = l.depths.items ≡ depths_below l.stage l.store
