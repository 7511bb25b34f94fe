use Rattle.tp_rule.specs.Views.{view_of}
use Rattle.tp_rule.proofs.Seats.{one_has}
use Rattle.tp_rule.proofs.words.Words.load_drawn.Goals as goal

pub load_drawn_together-requires-clause-pass : goal.load_drawn_together-requires-clause-pass
load_drawn_together-requires-clause-pass c = one_has (view_of c.args.seat.now) c.requires.one.0
