use Rattle.tp_manager.proofs.Families.Aheads.{runs_alone, set_empty}
use Rattle.tp_manager.proofs.ahead.Ahead.take_least.Goals as goal

pub returns-then-self-clause-least : goal.returns-then-self-clause-least
returns-then-self-clause-least c = runs_alone c.args.self.now c.take_first.new.self c.args.rows.now c.take_first.result (set_empty c.args.self.now c.args.rows.now c.requires.sorted c.if-self.true) c.take_first.ensures.least

pub returns-then-self-3-clause-least : goal.returns-then-self-3-clause-least
returns-then-self-3-clause-least c = runs_alone c.args.self.now c.take_second.new.self c.args.rows.now c.take_second.result (c.requires.sorted.none c.if-self-2.false) c.take_second.ensures.least
