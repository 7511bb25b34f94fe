use Rattle.std.proofs.Common.{◌≡◌, ◌∙◌, ◌++◌, All, ap, subst, sym}
use Rattle.tp_journal.specs.Text.{IsBatch}
use Rattle.tp_kept.specs.Lines.{IsTheirs, shut}
use Rattle.tp_kept.proofs.KeptLemmas.{batch_of}
use Rattle.tp_kept.proofs.LinesLemmas.{shut_ended, shut_some}
use Rattle.tp_kept.proofs.kept.Kept.take_last.Goals as goal

pub returns-in_default-clause-keeps : goal.returns-in_default-clause-keeps
returns-in_default-clause-keeps g c = (c.requires.ready.kept c.requires.fine).keeps

pub answer-requires-clause-batch : goal.answer-requires-clause-batch
answer-requires-clause-batch g c =
    let is : c.deref.result.now ≡ shut c.args.self.now.line.items = c.deref.ensures.value ∙ (c.in-Ok.ensures.ended.0 ∙ ap (λ l. l ++ shut c.args.self.now.line.items) c.new-lines.ensures.items) in
    subst IsBatch (sym is) (batch_of (shut c.args.self.now.line.items) (shut_ended c.args.self.now.line.items c.requires.ready.theirs) (shut_some c.args.self.now.line.items))

pub answer-requires-clause-theirs : goal.answer-requires-clause-theirs
answer-requires-clause-theirs g c =
    let is : c.deref.result.now ≡ shut c.args.self.now.line.items = c.deref.ensures.value ∙ (c.in-Ok.ensures.ended.0 ∙ ap (λ l. l ++ shut c.args.self.now.line.items) c.new-lines.ensures.items) in
    subst (All IsTheirs) (sym is) (shut_ended c.args.self.now.line.items c.requires.ready.theirs).0
