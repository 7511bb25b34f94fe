use Rattle.std.proofs.Common.{length}
use Rattle.tp_lines.proofs.texts.+outputs.Given as goal

abbrev pub decreases-outputs : goal.decreases-outputs
decreases-outputs g l = length l.outputs.now
