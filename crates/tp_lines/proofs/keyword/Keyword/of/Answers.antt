use Rattle.std.proofs.Common.{◌∙◌, ap, map, refl, rules, tests}
use Rattle.std.specs.Slice.Iter.{iter_rest}
use Rattle.std.specs.Str.{bytes_eq}
use Rattle.std.proofs.lemmas.Iterator.{YieldsList-from_slice}
use Rattle.std.proofs.lemmas.Iterator.Search.{find_from_yields_List}
use Rattle.tp_lines.proofs.FirstWords.{is_known, none_known, row_view}
use Rattle.tp_lines.proofs.keyword.Keyword.of.Goals as goal

pub returns-in_err-row : goal.returns-in_err-row
returns-in_err-row c =
    let found = c.copied.ensures ∙ find_from_yields_List (λ row. bytes_eq row.0.now c.args.word.now) _ _ c.find.result c.find.ensures.ran (YieldsList-from_slice (iter_rest c.iter.result) refl) (λ x b q k. search (rules, tests)) in
    c.from_residual.ensures ∙ none_known c.args.word.now (iter_rest c.iter.result) c.copied.result found (ap (map row_view) c.iter.ensures.rest) c.in_err-row.was

pub returns : goal.returns
returns c =
    let found = c.copied.ensures ∙ find_from_yields_List (λ row. bytes_eq row.0.now c.args.word.now) _ _ c.find.result c.find.ensures.ran (YieldsList-from_slice (iter_rest c.iter.result) refl) (λ x b q k. search (rules, tests)) in
    is_known c.args.word.now (iter_rest c.iter.result) c.copied.result found (ap (map row_view) c.iter.ensures.rest) c.in_ok-row.row c.in_ok-row.was
