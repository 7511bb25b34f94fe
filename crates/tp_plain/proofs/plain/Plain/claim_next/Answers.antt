use Rattle.std.proofs.Common.{◌≡◌, ◌<◌, sym, ◌∙◌, ap}
use Rattle.tp_model.specs.declared.types.Claimed.TheVariants as claimed
use Rattle.tp_plain.specs.Computed.{claim_next_of_stage}
use Rattle.tp_plain.specs.OneThread.{PlainTakesNext}
use Rattle.tp_plain.proofs.Taken.{claim_next_left}
use Rattle.tp_plain.proofs.plain.Plain.claim_next.Goals as goal
use Rattle.tp_plain.proofs.plain.Plain.claim_next.Goals.{After-take}

left : (c : After-take) → PlainTakesNext c.args.self.now c.args.caller c.args.stage c.take.result c.take.new.self × (claim_next_of_stage c.args.self.now c.args.caller c.args.stage ≡ (claimed.Work c.take.result, c.take.new.self))
left c =
    let room : c.used_by-used.result.claimed < c.args.self.now.limits.units = rw (← c.self.view_is) c.if-used-self.false in
    claim_next_left c.args.self.now c.take.new.self c.args.caller c.args.stage c.turn_in-turn.result c.in-Some.look c.used_by-used.result c.go_on_behind-turns.result c.take.result c.show_reached.ensures
    c.requires.pass c.requires.server c.requires.free c.used_by-used.ensures room c.turn_in-turn.ensures (sym c.first_waiting.ensures.first ∙ c.in-Some.is) c.go_on_behind-turns.ensures
    c.take.ensures.work c.take.ensures.state

pub returns-clause-answer : goal.returns-clause-answer
returns-clause-answer c = (left (goal.at.returns-clause-answer c).After-take).0

pub returns-clause-computed : goal.returns-clause-computed
returns-clause-computed c =
    let is = (left (goal.at.returns-clause-computed c).After-take).1 in
    (ap (λ x. x.0) is, sym (ap (λ x. x.1) is))
