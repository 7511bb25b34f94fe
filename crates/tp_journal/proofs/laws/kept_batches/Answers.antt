use Rattle.tp_journal.proofs.Crashes.{keeps_batches}
use Rattle.tp_journal.proofs.laws.kept_batches.Goals as goal

pub returns : goal.returns
returns c = keeps_batches
