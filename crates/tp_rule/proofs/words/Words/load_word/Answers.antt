use Rattle.tp_rule.specs.Places.{BodyWord}
use Rattle.tp_rule.proofs.Seats.{one_has}
use Rattle.tp_rule.proofs.Reading.{told}
use Rattle.tp_rule.proofs.words.Words.load_word.Goals as goal

pub load-requires-clause-pass : goal.load-requires-clause-pass
load-requires-clause-pass c = one_has c.args.seat.now.view c.requires.one.0

pub returns-clause-born : goal.returns-clause-born
returns-clause-born c = told _ _ _ (BodyWord c.args.row c.args.word) _ _ c.requires.one.1 (c.requires.row, c.requires.word) c.body-place.ensures.place c.load.ensures.looks
