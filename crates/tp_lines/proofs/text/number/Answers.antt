use Rattle.std.proofs.Common.{◌∙◌, sym, rules}
use Rattle.std.proofs.lemmas.Result.{MatchResult-weaker}
use Rattle.tp_script.proofs.TextLemmas.{numeral_is_text, ReadsText, text_fails, text_reads, number-fails}
use Rattle.tp_lines.proofs.text.number.Goals as goal

pub returns-in_err-text : goal.returns-in_err-text
returns-in_err-text c =
    let reads : ReadsText c.args.word.now c.from_utf8.result = MatchResult-weaker c.from_utf8.result c.from_utf8.ensures.cases (λ s h. h.0) (λ e h. h.0) in
    absurd (text_fails c.args.word.now c.from_utf8.result reads c.in_err-text.ensures.value (numeral_is_text c.args.word.now (search rules)))

pub returns-in_err-n : goal.returns-in_err-n
returns-in_err-n c =
    let reads : ReadsText c.args.word.now c.from_utf8.result = MatchResult-weaker c.from_utf8.result c.from_utf8.ensures.cases (λ s h. h.0) (λ e h. h.0) in
    let parsed = rw (text_reads c.args.word.now c.from_utf8.result c.in_ok-text.text reads c.in_ok-text.ensures.value) at c.parse.ensures.value.0 in
    c.from_residual-in_err-n.ensures ∙ sym (number-fails c.args.most c.args.word.now c.parse.result c.ranges.most.fits (search rules) parsed c.in_err-n.ensures.value)
