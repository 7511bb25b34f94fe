use Rattle.std.proofs.Common.{rules}
use Rattle.tp_rule.proofs.Deciding.{commits_go}
use Rattle.tp_rule.proofs.words.Words.commit_exchange.Goals as goal

pub compare_exchange-was-requires-clause-permits : goal.compare_exchange-was-requires-clause-permits
compare_exchange-was-requires-clause-permits c =
    commits_go _ _ _ _ c.args.unit c.args.first c.args.count c.args.tail (search rules) c.requires.one.0 (search rules) c.requires.unit.0 c.requires.work (search rules) (search rules) (search rules) c.requires.cleared (search rules) (search rules) (search rules) c.requires.tail
