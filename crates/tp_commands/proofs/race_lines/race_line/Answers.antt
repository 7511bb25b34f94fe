use Rattle.std.proofs.Common.{refl, rules}
use Rattle.std.proofs.lemmas.Result.{IfOk-weaker}
use Rattle.tp_commands.proofs.race_lines.race_line.Goals as goal

pub returns-clause-tells : goal.returns-clause-tells
returns-clause-tells g c = IfOk-weaker c.line.result _ _ (λ s told. record { submitted = c.in_ok-submitted.submitted; races = c.in_ok-submitted.ensures.raced; text_is = told; client = refl }) c.line.ensures.text

pub run_race-requires-clause-racers : goal.run_race-requires-clause-racers
run_race-requires-clause-racers g c κs within = record {
  free = c.requires.racers;
  enough = search rules;
  most = search rules;
  few = search rules;
  stage = search rules;
}
