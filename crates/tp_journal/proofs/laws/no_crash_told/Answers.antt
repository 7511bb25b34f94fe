use Rattle.tp_journal.proofs.Crashes.{tells_no_crash}
use Rattle.tp_journal.proofs.laws.no_crash_told.Goals as goal

pub returns : goal.returns
returns c = tells_no_crash
