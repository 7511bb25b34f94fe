use Rattle.std.proofs.Common.{sym, subst}
use Rattle.tp_rule.specs.Views.{HasPass, view_of}
use Rattle.tp_rule.proofs.Meetings.{meets}
use Rattle.tp_rule.proofs.Seats.{one_has}
use Rattle.tp_rule.proofs.Sharing.{joined_has}
use Rattle.tp_rule.proofs.words.Words.meet.Goals as goal

pub join-requires-clause-pass : goal.join-requires-clause-pass
join-requires-clause-pass c = one_has c.args.seat.now.view c.requires.one.0.0

pub load-requires-clause-pass : goal.load-requires-clause-pass
load-requires-clause-pass c = subst HasPass (sym c.join.ensures.joins) (joined_has c.args.seat.now.view c.args.other.now.view (one_has c.args.seat.now.view c.requires.one.0.0))

pub returns-clause-meets : goal.returns-clause-meets
returns-clause-meets c = meets (view_of c.args.seat.now) (view_of c.args.other.now) (view_of c.join.new.seat) (view_of c.load.new.seat) (view_of c.part.new.seat) (view_of c.part.result)
    c.requires.one.0.0 c.requires.one.1.0 c.join.ensures.joins c.load.ensures.looks.0 c.part.ensures.keeps c.part.ensures.parts
