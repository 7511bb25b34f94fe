use Rattle.std.proofs.Common.{vec_len}
use Rattle.tp_script.proofs.head.Head.body_keyword.Goals as goal

pub returns-in-Race-clause-in_range : goal.returns-in-Race-clause-in_range
returns-in-Race-clause-in_range c = c.asks.ensures.in_range (vec_len c.args.self.now.servers) (c.race_said.ensures.in_range (vec_len c.args.self.now.servers))

pub returns-in-Drain-clause-in_range : goal.returns-in-Drain-clause-in_range
returns-in-Drain-clause-in_range c = c.asks-in-Drain.ensures.in_range (vec_len c.args.self.now.servers) (c.drain_at.ensures.in_range (vec_len c.args.self.now.servers))

pub returns-in-Rollover-clause-in_range : goal.returns-in-Rollover-clause-in_range
returns-in-Rollover-clause-in_range c = c.asks-in-Rollover.ensures.in_range (vec_len c.args.self.now.servers) (c.rollover_at.ensures.in_range (vec_len c.args.self.now.servers))

pub returns-in-Account-clause-in_range : goal.returns-in-Account-clause-in_range
returns-in-Account-clause-in_range c = c.account_at.ensures.in_range (vec_len c.args.self.now.servers)
