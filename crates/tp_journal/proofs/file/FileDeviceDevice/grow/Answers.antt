use Rattle.std.proofs.Common.{[]}
use Rattle.tp_journal.proofs.Histories.{cause, grown, grown-crash, time}
use Rattle.tp_journal.proofs.file.FileDeviceDevice.grow.Goals as goal

pub returns-clause-grown : goal.returns-clause-grown
returns-clause-grown c = grown c.args.self.now.calls.events c.tell.new.self.events c.args.count c.tell.result c.tell.ensures

pub returns-clause-crash : goal.returns-clause-crash
returns-clause-crash c = grown-crash c.args.self.now.calls.events c.tell.new.self.events c.args.count c.tell.result c.tell.ensures

pub returns-clause-time : goal.returns-clause-time
returns-clause-time c = time c.args.self.now.calls.events c.tell.new.self.events 2 (c.args.count) [] c.tell.result c.tell.ensures

pub returns-clause-cause : goal.returns-clause-cause
returns-clause-cause c = cause c.args.self.now.calls.events c.tell.new.self.events 2 (c.args.count) [] c.tell.result c.tell.ensures
