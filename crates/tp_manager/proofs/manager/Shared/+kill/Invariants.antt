use Rattle.std.proofs.Common.{◌+◌, ◌*◌}
use Rattle.tp_rule.specs.Words.{claim_value}
use Rattle.tp_manager.specs.Bounds.{slay_from}
use Rattle.tp_manager.proofs.manager.Shared.+kill.Given as goal

abbrev pub decreases-kill_from : goal.decreases-kill_from
decreases-kill_from l = 2 * slay_from l.left (claim_value l.claim.tells)

abbrev pub decreases-kill_again : goal.decreases-kill_again
decreases-kill_again l = 2 * slay_from l.left (claim_value l.claim.tells) + 1
