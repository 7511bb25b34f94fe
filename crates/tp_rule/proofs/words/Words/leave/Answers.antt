use Rattle.tp_rule.proofs.Receipts.{leaves}
use Rattle.tp_rule.proofs.words.Words.leave.Goals as goal

pub returns-clause-leaves : goal.returns-clause-leaves
returns-clause-leaves c = leaves _ _ _ c.requires.one.0 c.part.ensures.keeps c.part.ensures.parts
