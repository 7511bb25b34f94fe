use Rattle.std.proofs.Common.{rules}
use Rattle.tp_rule.proofs.Publishing.{births_go}
use Rattle.tp_rule.proofs.words.Words.publish.Goals as goal

pub store-requires-clause-permits : goal.store-requires-clause-permits
store-requires-clause-permits c = births_go _ (search rules) _ _ _ c.args.stage c.args.tail c.requires.ready c.requires.no_drafts (search rules) (search rules) (search rules) (search rules) c.requires.tail (search rules) (search rules) c.requires.cleared
