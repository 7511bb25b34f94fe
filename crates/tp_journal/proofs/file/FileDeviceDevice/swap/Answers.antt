use Rattle.std.proofs.Common.{[]}
use Rattle.tp_journal.proofs.Histories.{cause, swapped, swapped-crash, swapped-durable, time}
use Rattle.tp_journal.proofs.file.FileDeviceDevice.swap.Goals as goal

pub returns-clause-swapped : goal.returns-clause-swapped
returns-clause-swapped c = swapped c.args.self.now.calls.events c.tell.new.self.events c.tell.result c.tell.ensures

pub returns-clause-durable : goal.returns-clause-durable
returns-clause-durable c = swapped-durable c.args.self.now.calls.events c.tell.new.self.events c.tell.result c.tell.ensures

pub returns-clause-crash : goal.returns-clause-crash
returns-clause-crash c = swapped-crash c.args.self.now.calls.events c.tell.new.self.events c.tell.result c.tell.ensures

pub returns-clause-time : goal.returns-clause-time
returns-clause-time c = time c.args.self.now.calls.events c.tell.new.self.events 6 0 [] c.tell.result c.tell.ensures

pub returns-clause-cause : goal.returns-clause-cause
returns-clause-cause c = cause c.args.self.now.calls.events c.tell.new.self.events 6 0 [] c.tell.result c.tell.ensures
