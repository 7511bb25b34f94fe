use Rattle.tp_journal.specs.Journal.{IsJournalOpen}
use Rattle.tp_appender.proofs.take_batches.Given as goal

abbrev pub invariant-loop : goal.invariant-loop
invariant-loop g l = IsJournalOpen g.D.Device.seen g.D.Device.may_leave l.journal
