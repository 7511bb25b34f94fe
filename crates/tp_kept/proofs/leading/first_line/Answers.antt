use Rattle.std.proofs.Common.{◌∙◌, ap, sym}
use Rattle.std.proofs.lemmas.List.{take_rest}
use Rattle.tp_wire.specs.Heard.{heard}
use Rattle.tp_kept.proofs.LeadLemmas.{first_of}
use Rattle.tp_kept.proofs.LinesLemmas.{whole_end}
use Rattle.tp_kept.proofs.leading.first_line.Goals as goal

pub returns-in_err-place-clause-none : goal.returns-in_err-place-clause-none
returns-in_err-place-clause-none c = λ e. ap heard (whole_end c.args.lines.now c.requires.whole (sym c.line_end.ensures ∙ c.in_err-place.was))

pub returns-clause-some : goal.returns-clause-some
returns-clause-some c =
    simp take_rest (rw c.split_at.ensures.back (rw c.split_at.ensures.front (first_of c.args.lines.now c.in_ok-place.place c.requires.whole (sym c.line_end.ensures ∙ c.in_ok-place.was))))
