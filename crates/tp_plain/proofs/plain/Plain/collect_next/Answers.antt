use Rattle.std.proofs.Common.{Ok, sym, subst}
use Rattle.tp_model.proofs.Bridges.{element_of-id}
use Rattle.tp_plain.specs.OneThread.{Answers, CallCollect}
use Rattle.tp_plain.proofs.plain.Plain.collect_next.Goals as goal

pub returns-in-Ok-clause-answer : goal.returns-in-Ok-clause-answer
returns-in-Ok-clause-answer c =
    let s = c.args.self.now in
    let e = c.in-Ok.reply in
    subst (λ i. Answers s (CallCollect c.args.caller i (Ok e)) c.collect.new.self) (sym (element_of-id s.history c.in-Some.id e c.in-Ok.ensures.answer.0)) c.in-Ok.ensures.answer
