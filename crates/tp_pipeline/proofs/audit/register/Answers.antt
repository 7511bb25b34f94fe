use Rattle.std.proofs.Common.{sym}
use Rattle.tp_pipeline.proofs.audit.register.Goals as goal

pub returns-clause-shows : goal.returns-clause-shows
returns-clause-shows g c = record { box = c.in-Some.server.now; stands = sym c.in-Some.ensures; holds = sym c.in-Some-value_of.ensures }
