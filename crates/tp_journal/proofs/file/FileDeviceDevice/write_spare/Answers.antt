use Rattle.tp_journal.proofs.Histories.{cause, spare-crash, spare-seen, spare-written, time}
use Rattle.tp_journal.proofs.file.FileDeviceDevice.write_spare.Goals as goal

pub returns-clause-written : goal.returns-clause-written
returns-clause-written c = spare-written c.args.self.now.calls.events c.tell.new.self.events c.args.bytes.now c.tell.result c.tell.ensures

pub returns-clause-seen : goal.returns-clause-seen
returns-clause-seen c = spare-seen c.args.self.now.calls.events c.tell.new.self.events c.args.bytes.now c.tell.result c.tell.ensures

pub returns-clause-crash : goal.returns-clause-crash
returns-clause-crash c = spare-crash c.args.self.now.calls.events c.tell.new.self.events c.args.bytes.now c.tell.result c.tell.ensures

pub returns-clause-time : goal.returns-clause-time
returns-clause-time c = time c.args.self.now.calls.events c.tell.new.self.events 4 0 c.args.bytes.now c.tell.result c.tell.ensures

pub returns-clause-cause : goal.returns-clause-cause
returns-clause-cause c = cause c.args.self.now.calls.events c.tell.new.self.events 4 0 c.args.bytes.now c.tell.result c.tell.ensures
