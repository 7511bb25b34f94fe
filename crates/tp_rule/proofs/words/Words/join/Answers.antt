use Rattle.tp_rule.proofs.Sharing.{joins}
use Rattle.tp_rule.proofs.words.Words.join.Goals as goal

pub join-requires-clause-permits : goal.join-requires-clause-permits
join-requires-clause-permits c = λ id other. joins _ id _ other _ c.requires.pass
