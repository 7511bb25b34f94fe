use Rattle.std.proofs.Common.{◌∙◌, ap, sym}
use Rattle.tp_journal.specs.History.{seen_after}
use Rattle.tp_journal.specs.Text.{text_of}
use Rattle.tp_journal.proofs.Texts.{rest-text}
use Rattle.tp_kept.proofs.program.keep_file.Goals as goal

pub new-requires-clause-text : goal.new-requires-clause-text
new-requires-clause-text g c =
    let stands = c.in-Ok-recover.ensures.stands in
    c.deref-2.ensures.value ∙ (sym (rest-text c.in-Ok-recover.found.text.items _ stands.at_rest) ∙ ap (λ d. text_of (seen_after d.calls.events)) (sym c.new-journal.ensures.device))
