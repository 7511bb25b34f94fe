use Rattle.tp_manager.proofs.Families.RowBits.{lowest_has}
use Rattle.tp_manager.proofs.row_set.lowest_bit.Goals as goal

pub returns-clause-least : goal.returns-clause-least
returns-clause-least c none = (lowest_has c.args.words.now c.args.word c.requires.some (c.type_inv.words c.args.word).fits none).1
