use Rattle.std.proofs.Common.{◌-◌, length}
use Rattle.tp_commands.proofs.racing.+race_free.Given as goal

abbrev pub decreases-race_free : goal.decreases-race_free
decreases-race_free g l = length l.places.now - l.at
