use Rattle.tp_script.proofs.head.Head.head_keyword.Goals as goal

pub returns-in-Rows-clause-in_range : goal.returns-in-Rows-clause-in_range
returns-in-Rows-clause-in_range c = c.in_head.ensures.in_range _

pub returns-in-Units-clause-in_range : goal.returns-in-Units-clause-in_range
returns-in-Units-clause-in_range c = c.in_head-in-Units.ensures.in_range _

pub returns-in-Limit-clause-in_range : goal.returns-in-Limit-clause-in_range
returns-in-Limit-clause-in_range c = c.in_head-in-Limit.ensures.in_range _

pub returns-in-Spare-clause-in_range : goal.returns-in-Spare-clause-in_range
returns-in-Spare-clause-in_range c = c.in_head-in-Spare.ensures.in_range _

pub returns-in-Server-clause-in_range : goal.returns-in-Server-clause-in_range
returns-in-Server-clause-in_range c = c.in_head-in-Server.ensures.in_range _

pub returns-in-Start-clause-in_range : goal.returns-in-Start-clause-in_range
returns-in-Start-clause-in_range c = c.in_head-in-Start.ensures.in_range _

pub returns-in-Do-clause-in_range : goal.returns-in-Do-clause-in_range
returns-in-Do-clause-in_range c = c.ends_head.ensures.in_range _ c.act_at.ensures.in_range

pub returns-in-Race-clause-in_range : goal.returns-in-Race-clause-in_range
returns-in-Race-clause-in_range c = c.ends_head-in-Race.ensures.in_range _ (c.asks.ensures.in_range _ (c.race_said.ensures.in_range _))

pub returns-in-Drain-clause-in_range : goal.returns-in-Drain-clause-in_range
returns-in-Drain-clause-in_range c = c.ends_head-in-Drain.ensures.in_range _ (c.asks-in-Drain.ensures.in_range _ (c.drain_at.ensures.in_range _))

pub returns-in-Rollover-clause-in_range : goal.returns-in-Rollover-clause-in_range
returns-in-Rollover-clause-in_range c = c.ends_head-in-Rollover.ensures.in_range _ (c.asks-in-Rollover.ensures.in_range _ (c.rollover_at.ensures.in_range _))

pub returns-in-Account-clause-in_range : goal.returns-in-Account-clause-in_range
returns-in-Account-clause-in_range c = c.ends_head-in-Account.ensures.in_range _ (c.account_at.ensures.in_range _)
