use Rattle.tp_script.proofs.TextLemmas.{lines_are_few}
use Rattle.std.proofs.lemmas.Result.{IfOk-weaker}
use Rattle.tp_script.proofs.text.lines.Goals as goal

pub returns-clause-few : goal.returns-clause-few
returns-clause-few c = IfOk-weaker c.parts.result _ _ (λ v h. lines_are_few v c.args.script.now h) c.parts.ensures
