use Rattle.std.proofs.Common.{length}
use Rattle.tp_session.proofs.drains.+round.Given as goal

abbrev pub decreases-round : goal.decreases-round
decreases-round l = length l.servers.now
