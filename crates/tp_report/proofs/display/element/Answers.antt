use Rattle.std.proofs.Common.{refl, true}
use Rattle.std.proofs.lemmas.Grind.{put_three}
use Rattle.tp_report.specs.Answer.{element_text}
use Rattle.tp_report.proofs.display.element.Goals as goal

pub returns : goal.returns
unfolding element_text
returns g c = λ plain ok.
    let one = c.in_ok-write.ensures.writes plain (refl {a = true}) in
    let two = c.in_ok-more_words.ensures one.plain (refl {a = true}) in
    put_three g.W.Write.write_str_gives _ _ _ _ _ _ _ _ one two (c.write-2.ensures.writes two.plain ok) refl
