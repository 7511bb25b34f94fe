use Rattle.tp_manager.proofs.Calls.Follows.{follows_then}
use Rattle.tp_workers.proofs.desks.claim_at.Goals as goal

pub returns-in-Work-clause-follows : goal.returns-in-Work-clause-follows
returns-in-Work-clause-follows g c =
    follows_then _ _ _ _ _ c.in-Work.ensures.follows (rw c.in-Work.ensures.same.manager at c.work_at.ensures.follows)
