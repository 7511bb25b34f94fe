use Rattle.std.proofs.Common.{arith}
use Rattle.std.proofs.lemmas.Grind.{common_steps}
use Rattle.std.proofs.lemmas.List.Folds.{flat_map-map}
use Rattle.tp_answers.specs.OverviewTexts.{holder_text, holder_view}
use Rattle.tp_answers.proofs.overviews.holds.Goals as goal

pub returns : goal.returns
returns g c = rw (flat_map-map holder_text holder_view c.args.holders.now) (grind (arith, common_steps))
