use Rattle.std.proofs.Common.{rules}
use Rattle.tp_rule.proofs.Bodied.{body_stored}
use Rattle.tp_rule.proofs.words.Words.store_draft_body.Goals as goal

pub returns-clause-view : goal.returns-clause-view
returns-clause-view c = body_stored _ _ _ _ _ _ (search rules) c.requires.one c.requires.blank c.fill_draft_word.ensures.view c.fill_draft_word-2.ensures.view c.fill_draft_word-3.ensures.view c.fill_draft_word-4.ensures.view
