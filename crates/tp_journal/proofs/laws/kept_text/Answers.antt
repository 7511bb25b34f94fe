use Rattle.tp_journal.proofs.Crashes.{keeps_text}
use Rattle.tp_journal.proofs.laws.kept_text.Goals as goal

pub returns : goal.returns
returns c = keeps_text
