use Rattle.std.proofs.Common.{◌∙◌, refl, sym, true}
use Rattle.std.proofs.lemmas.Grind.{put_two}
use Rattle.tp_report.proofs.display.reply.Goals as goal

pub returns : goal.returns
returns g c = λ plain ok.
    let one = c.in_ok-write.ensures.writes plain (refl {a = true}) in
    put_two g.W.Write.write_str_gives _ _ _ _ _ _ one (c.write-2.ensures.writes one.plain ok) (rw (sym c.is_short.ensures ∙ c.if-is_short.false) refl)
