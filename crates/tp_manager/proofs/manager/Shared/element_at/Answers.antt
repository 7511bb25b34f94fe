use Rattle.tp_model.proofs.Bridges.{element_of-id}
use Rattle.tp_rule.specs.Views.{seen_by}
use Rattle.tp_manager.specs.Bounds.{body_steps}
use Rattle.tp_manager.proofs.Calls.CallSteps.{looked_begins}
use Rattle.tp_manager.proofs.Rows.Looks.{element_there}
use Rattle.tp_manager.proofs.manager.Shared.element_at.Goals as goal

pub returns-clause-born : goal.returns-clause-born
returns-clause-born c = element_there (seen_by c.args.seat.now) (seen_by c.body_at-body.new.seat) c.args.row c.body_at-body.result c.args.birth (looked_begins _ body_steps _ _ c.body_at-body.ensures.looked)
    c.requires.there c.body_at-body.ensures.body (element_of-id (seen_by c.args.seat.now) c.args.row)
