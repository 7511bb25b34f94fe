use Rattle.std.proofs.Common.{◌==◌, not, length, ap, ◌∙◌, rules, tests}
use Rattle.std.specs.Prelude.{filter}
use Rattle.std.proofs.lemmas.Fn.{filter_same}
use Rattle.tp_script.proofs.TextLemmas.{map-filter}
use Rattle.tp_lines.proofs.text.words.Goals as goal

pub returns : goal.returns
returns c =
    let kept = filter_same _ (λ w. not (length w.now == 0)) _ (λ x b q k. search (rules, tests)) c.in_ok-words.words.items c.retain.new.self.items c.retain.ensures.filtered in
    rw kept (map-filter (λ x. x.now) (λ w. not (length w == 0)) c.in_ok-words.words.items ∙ ap (filter (λ w. not (length w == 0))) c.in_ok-words.ensures)
