use Rattle.std.proofs.Common.{rules}
use Rattle.tp_rule.proofs.Drafting.{words_go}
use Rattle.tp_rule.proofs.words.Words.store_draft_word.Goals as goal

pub store-requires-clause-permits : goal.store-requires-clause-permits
store-requires-clause-permits c = words_go _ _ _ _ c.args.word c.requires.one (search rules) c.requires.word (search rules)
