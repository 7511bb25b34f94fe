use Rattle.tp_journal.proofs.Histories.{cause, time, written, written-crash}
use Rattle.tp_journal.proofs.file.FileDeviceDevice.write_at.Goals as goal

pub returns-clause-written : goal.returns-clause-written
returns-clause-written c = written c.args.self.now.calls.events c.tell.new.self.events c.args.at c.args.bytes.now c.tell.result c.tell.ensures

pub returns-clause-crash : goal.returns-clause-crash
returns-clause-crash c = written-crash c.args.self.now.calls.events c.tell.new.self.events c.args.at c.args.bytes.now c.tell.result c.tell.ensures

pub returns-clause-time : goal.returns-clause-time
returns-clause-time c = time c.args.self.now.calls.events c.tell.new.self.events 1 (c.args.at) c.args.bytes.now c.tell.result c.tell.ensures

pub returns-clause-cause : goal.returns-clause-cause
returns-clause-cause c = cause c.args.self.now.calls.events c.tell.new.self.events 1 (c.args.at) c.args.bytes.now c.tell.result c.tell.ensures
