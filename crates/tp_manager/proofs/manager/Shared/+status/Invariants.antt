use Rattle.std.proofs.Common.{◌+◌, ◌*◌}
use Rattle.tp_manager.proofs.manager.Shared.+status.Given as goal

abbrev pub decreases-status_from : goal.decreases-status_from
decreases-status_from l = 2 * l.left

abbrev pub decreases-status_again : goal.decreases-status_again
decreases-status_again l = 2 * l.left + 1
