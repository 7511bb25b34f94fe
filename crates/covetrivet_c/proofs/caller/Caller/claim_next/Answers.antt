use Rattle.std.proofs.Common.{◌≡◌, rules, subst}
use Rattle.tp_model.specs.declared.types.Claimed.TheVariants as claimeds
use Rattle.tp_model.specs.declared.types.Limits.{Limits}
use Rattle.tp_manager.specs.Bounds.{claim_next_steps, claim_next_steps_left}
use Rattle.tp_manager.specs.Calls.{ClaimsNext, Follows}
use Rattle.tp_manager.specs.Shown.{marks_of}
use Rattle.covetrivet_c.specs.Callers.{caller_limits}
use Rattle.covetrivet_c.proofs.caller.Caller.claim_next.Goals as goal

pub returns-in-Idle-clause-answer : goal.returns-in-Idle-clause-answer
returns-in-Idle-clause-answer c = let e = c.in-Idle.ensures in let old = c.args.self.now.pass in let new = c.claim_next.new.pass in let same : c.deref.result.now.limits ≡ caller_limits c.args.self.now = search rules in
    subst (λ (l : Limits). Follows (claim_next_steps l) old new × Follows (claim_next_steps_left l (marks_of old.lows c.args.stage)) old new
    × ClaimsNext l c.args.stage old new claimeds.Idle) same (e.follows, e.few, e.answer)
