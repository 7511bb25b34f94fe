use Rattle.std.proofs.Common.{◌∙◌, sym, rules, tests}
use Rattle.std.proofs.lemmas.Iterator.{YieldsList-from_slice}
use Rattle.std.proofs.lemmas.Iterator.Search.{all_from_yields_List}
use Rattle.std.proofs.lemmas.List.Folds.{list_all-map}
use Rattle.tp_script.specs.LineWords.{has_two_colons}
use Rattle.tp_lines.proofs.servers.all_outputs.Goals as goal

pub returns : goal.returns
returns c = all_from_yields_List (λ w. has_two_colons w.now) _ _ c.all.result c.all.ensures.ran (YieldsList-from_slice c.args.words.now c.iter.ensures.rest) (λ x b q k. search (rules, tests)) ∙ sym (list_all-map has_two_colons (λ x. x.now) c.args.words.now)
