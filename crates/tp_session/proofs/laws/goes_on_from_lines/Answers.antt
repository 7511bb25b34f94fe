use Rattle.tp_session.proofs.Lasts.{goes_on_from_lines}
use Rattle.tp_session.proofs.laws.goes_on_from_lines.Goals as goal

pub returns : goal.returns
returns c = goes_on_from_lines
