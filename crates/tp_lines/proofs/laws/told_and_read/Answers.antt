use Rattle.tp_lines.proofs.HeadReads.{told_and_read}
use Rattle.tp_lines.proofs.laws.told_and_read.Goals as goal

pub returns : goal.returns
returns c = told_and_read
