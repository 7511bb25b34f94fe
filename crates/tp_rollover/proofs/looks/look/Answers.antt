use Rattle.tp_model.specs.History.{IsUnborn}
use Rattle.tp_manager.specs.Calls.{IsLook}
use Rattle.tp_rollover.proofs.Seen.{point_told}
use Rattle.tp_rollover.proofs.looks.look.Goals as goal

pub returns-in-Ok-clause-told : goal.returns-in-Ok-clause-told
returns-in-Ok-clause-told c same = point_told _ c.args.pass.now c.read.new.pass (IsLook c.args.manager.now.limits c.args.id c.in-Ok.look) c.read.ensures.follows c.in-Ok.ensures.answer.0 same

pub returns-in-Err-clause-told : goal.returns-in-Err-clause-told
returns-in-Err-clause-told c same = point_told _ c.args.pass.now c.read.new.pass (λ h. IsUnborn h c.args.id) c.read.ensures.follows c.in-Err.ensures.answer.1 same
