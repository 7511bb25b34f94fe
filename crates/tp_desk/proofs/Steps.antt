-- What a turn answers, of what its commit answered.
use Rattle.std.proofs.Common.{ℕ, List, refl}
use Rattle.tp_model.specs.declared.types.Outcome.{Outcome}
use Rattle.tp_model.specs.declared.types.Outcome.TheVariants as outcomes
use Rattle.tp_model.specs.declared.types.Work.{Work}
use Rattle.tp_server.specs.Behaviour.{Behaviour}
use Rattle.tp_desk.specs.Turns.{Finishes, WorksOff}
use Rattle.tp_server.specs.Settled.{settled}
use Rattle.tp_manager.specs.Shown.{PassShown}

-- work whose commit had this answer came to what the turn answers
pub works_off : (behaviour : Behaviour) (registers : List ℕ) (work : Work) (p q : PassShown) (outcome : Outcome) → (left : List ℕ) → Finishes behaviour registers work p q outcome left → WorksOff behaviour registers work p q (settled work outcome) left
works_off behaviour registers work p q (outcomes.Committed first count) left h = (refl, refl, h)
works_off behaviour registers work p q outcomes.Lost left h = (refl, h)
works_off behaviour registers work p q outcomes.Full left h = (refl, h)
