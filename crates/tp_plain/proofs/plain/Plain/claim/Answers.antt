use Rattle.std.proofs.Common.{◌<◌, sym, ◌∙◌}
use Rattle.tp_plain.proofs.Taken.{claim_left}
use Rattle.tp_plain.proofs.plain.Plain.claim.Goals as goal

pub returns-clause-answer : goal.returns-clause-answer
returns-clause-answer c =
    let room : c.used_by-used.result.claimed < c.args.self.now.limits.units = rw (← c.self.view_is) c.if-used-self.false in
    claim_left c.args.self.now c.take.new.self c.args.caller c.args.stage c.in-Some.look c.used_by-used.result c.take.result c.show_reached.ensures c.requires.pass c.requires.server c.requires.free
    c.used_by-used.ensures room (sym c.first_waiting.ensures.first ∙ c.in-Some.is) c.take.ensures.work c.take.ensures.state
