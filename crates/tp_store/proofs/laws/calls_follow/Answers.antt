use Rattle.tp_store.proofs.Leading.{calls_follow, runs_are_sound}
use Rattle.tp_store.proofs.laws.calls_follow.Goals as goal

pub returns : goal.returns
returns c = record { calls = calls_follow; runs = runs_are_sound }
