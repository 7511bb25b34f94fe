use Rattle.tp_model.specs.Counts.{in_stage}
use Rattle.tp_model.specs.History.{born}
use Rattle.tp_model.proofs.Stages.{stages_add_up, stage_counts}
use Rattle.tp_model.proofs.Opens.{open_adds_up}
use Rattle.tp_model.proofs.Tallies.{all_counted}
use Rattle.tp_model.proofs.laws.counts_add_up.Goals as goal

pub returns : goal.returns
returns c = record {
  kinds = λ limit h. (all_counted limit h (born h), λ s. all_counted limit h (in_stage s (born h)));
  stages = stages_add_up;
  open_work = open_adds_up;
  places = λ limit h s default stage. stage_counts limit h (born h) s default stage;
}
