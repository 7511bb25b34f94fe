use Rattle.std.proofs.Common.{[]}
use Rattle.tp_journal.proofs.Histories.{cause, spare-synced, spare-synced-crash, spare-synced-seen, spare-synced-spare, time}
use Rattle.tp_journal.proofs.file.FileDeviceDevice.sync_spare.Goals as goal

pub returns-clause-durable : goal.returns-clause-durable
returns-clause-durable c = spare-synced c.args.self.now.calls.events c.tell.new.self.events c.tell.result c.tell.ensures

pub returns-clause-spare : goal.returns-clause-spare
returns-clause-spare c = spare-synced-spare c.args.self.now.calls.events c.tell.new.self.events c.tell.result c.tell.ensures

pub returns-clause-seen : goal.returns-clause-seen
returns-clause-seen c = spare-synced-seen c.args.self.now.calls.events c.tell.new.self.events c.tell.result c.tell.ensures

pub returns-clause-crash : goal.returns-clause-crash
returns-clause-crash c = spare-synced-crash c.args.self.now.calls.events c.tell.new.self.events c.tell.result c.tell.ensures

pub returns-clause-time : goal.returns-clause-time
returns-clause-time c = time c.args.self.now.calls.events c.tell.new.self.events 5 0 [] c.tell.result c.tell.ensures

pub returns-clause-cause : goal.returns-clause-cause
returns-clause-cause c = cause c.args.self.now.calls.events c.tell.new.self.events 5 0 [] c.tell.result c.tell.ensures
