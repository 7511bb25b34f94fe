use Rattle.std.proofs.Common.{◌≡◌, rules, subst}
use Rattle.tp_model.specs.declared.types.Claimed.TheVariants as claimeds
use Rattle.tp_model.specs.declared.types.Limits.{Limits}
use Rattle.tp_manager.specs.Bounds.{claim_steps, claim_steps_left}
use Rattle.tp_manager.specs.Calls.{Claims, Follows}
use Rattle.tp_manager.specs.Raises.{RaisesMarks}
use Rattle.tp_manager.specs.Shown.{marks_of}
use Rattle.covetrivet_c.specs.Asked.{GoesSteps}
use Rattle.covetrivet_c.specs.Callers.{caller_limits}
use Rattle.covetrivet_c.proofs.caller.Caller.claim.Goals as goal

pub returns-in-Idle-clause-answer : goal.returns-in-Idle-clause-answer
returns-in-Idle-clause-answer c = let e = c.in-Idle.ensures in let old = c.args.self.now.pass in let new = c.claim.new.pass in let same : c.deref.result.now.limits ≡ caller_limits c.args.self.now = search rules in
    subst (λ (l : Limits). GoesSteps (claim_steps l) old new × Follows (claim_steps_left l (marks_of old.lows c.args.stage)) old new
    × RaisesMarks l c.args.stage old new claimeds.Idle × Claims l c.args.stage old new claimeds.Idle) same ((e.follows, e.turn), e.few, e.raises, e.answer)
