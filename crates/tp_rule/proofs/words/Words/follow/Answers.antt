use Rattle.std.proofs.Common.{sym, subst}
use Rattle.tp_rule.specs.Views.{HasPass}
use Rattle.tp_rule.proofs.Receipts.{follows}
use Rattle.tp_rule.proofs.Seats.{one_has}
use Rattle.tp_rule.proofs.Sharing.{joined_has}
use Rattle.tp_rule.proofs.words.Words.follow.Goals as goal

pub join-requires-clause-pass : goal.join-requires-clause-pass
join-requires-clause-pass c = one_has c.args.seat.now.view c.requires.one.0

pub load-requires-clause-pass : goal.load-requires-clause-pass
load-requires-clause-pass c = subst HasPass (sym c.join.ensures.joins) (joined_has c.args.seat.now.view c.args.receipt.view (one_has c.args.seat.now.view c.requires.one.0))

pub returns-clause-follows : goal.returns-clause-follows
returns-clause-follows c = follows _ _ _ _ c.requires.one.0 c.requires.receipt c.join.ensures.joins c.load.ensures.looks.0
