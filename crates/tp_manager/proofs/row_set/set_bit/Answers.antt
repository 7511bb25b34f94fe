use Rattle.tp_manager.proofs.Families.RowBits.{set_has, set_others}
use Rattle.tp_manager.proofs.row_set.set_bit.Goals as goal

pub returns-clause-has : goal.returns-clause-has
returns-clause-has c = set_has c.args.words.now c.args.place c.requires

pub returns-clause-others : goal.returns-clause-others
returns-clause-others c = set_others c.args.words.now c.args.place c.requires
