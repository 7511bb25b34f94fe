use Rattle.tp_desk.proofs.Keeping.{given, not_given}
use Rattle.tp_desk.proofs.desk.Desk.claim_id.Goals as goal

pub returns-in_err-work-clause-steady : goal.returns-in_err-work-clause-steady
returns-in_err-work-clause-steady g c =
    not_given _ _ _ _ _ _ _ _ _ c.args.self.now.manager.now.limits _ _ c.args.id c.in_err-work.field-0.0 c.requires.free c.requires.steady c.claim_given.ensures.follows c.in_err-work.ensures.answer

pub returns-clause-steady : goal.returns-clause-steady
returns-clause-steady g c =
    given _ _ _ _ _ _ _ _ _ c.args.self.now.manager.now.limits _ _ c.args.id c.in_ok-work.work c.requires.free c.requires.steady c.claim_given.ensures.follows c.in_ok-work.ensures.answer
