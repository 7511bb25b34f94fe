use Rattle.tp_kept.proofs.DownsLemmas.{answers_as_sent}
use Rattle.tp_kept.proofs.laws.answers_as_sent.Goals as goal

pub returns : goal.returns
returns c = answers_as_sent
