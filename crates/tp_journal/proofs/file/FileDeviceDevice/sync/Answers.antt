use Rattle.std.proofs.Common.{[]}
use Rattle.tp_journal.proofs.Histories.{cause, synced, synced-crash, synced-seen, time}
use Rattle.tp_journal.proofs.file.FileDeviceDevice.sync.Goals as goal

pub returns-clause-durable : goal.returns-clause-durable
returns-clause-durable c = synced c.args.self.now.calls.events c.tell.new.self.events c.tell.result c.tell.ensures

pub returns-clause-seen : goal.returns-clause-seen
returns-clause-seen c = synced-seen c.args.self.now.calls.events c.tell.new.self.events c.tell.result c.tell.ensures

pub returns-clause-crash : goal.returns-clause-crash
returns-clause-crash c = synced-crash c.args.self.now.calls.events c.tell.new.self.events c.tell.result c.tell.ensures

pub returns-clause-time : goal.returns-clause-time
returns-clause-time c = time c.args.self.now.calls.events c.tell.new.self.events 3 0 [] c.tell.result c.tell.ensures

pub returns-clause-cause : goal.returns-clause-cause
returns-clause-cause c = cause c.args.self.now.calls.events c.tell.new.self.events 3 0 [] c.tell.result c.tell.ensures
