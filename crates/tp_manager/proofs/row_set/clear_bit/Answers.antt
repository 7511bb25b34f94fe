use Rattle.tp_manager.proofs.Families.RowBits.{clear_has, clear_others}
use Rattle.tp_manager.proofs.row_set.clear_bit.Goals as goal

pub returns-clause-has : goal.returns-clause-has
returns-clause-has c = clear_has c.args.words.now c.args.place c.requires

pub returns-clause-others : goal.returns-clause-others
returns-clause-others c = clear_others c.args.words.now c.args.place c.requires
