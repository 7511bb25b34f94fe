use Rattle.std.proofs.lemmas.Result.{MatchResult-weaker}
use Rattle.tp_lines.proofs.NameLemmas.{name_is_text, text_is_ok, ReadsText}
use Rattle.tp_lines.proofs.name.name_text.Goals as goal

pub unwrap-requires : goal.unwrap-requires
unwrap-requires c =
    let reads : ReadsText c.args.name.now c.from_utf8.result = MatchResult-weaker c.from_utf8.result c.from_utf8.ensures.cases (λ s h. h.0) (λ e h. h.0) in
    text_is_ok c.args.name.now c.from_utf8.result reads (name_is_text c.args.name.now c.requires)
