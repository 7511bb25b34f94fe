use Rattle.std.proofs.Common.{◌≢◌, sym, ◌∙◌, ap}
use Rattle.tp_model.specs.declared.types.Status.TheVariants.{Killed}
use Rattle.tp_model.specs.History.{status_of}
use Rattle.tp_plain.specs.OneThread.{State}
use Rattle.tp_plain.proofs.Collects.{collect_goes, may_collect}
use Rattle.tp_plain.proofs.plain.Plain.collect.Goals as goal
use Rattle.tp_plain.proofs.plain.Plain.collect.Goals.{In_default-status}

alive : (c : In_default-status) → status_of c.args.self.now.limits.attempts c.args.self.now.history c.args.id ≢ Killed
alive c is = c.in_default-status.not-Killed (c.in-Ok.ensures.answer.0.status ∙ is)

pub mark-requires : goal.mark-requires
mark-requires c = record {
  step = may_collect c.args.self.now c.args.caller c.args.id c.in-Ok.look.element c.show_reached.ensures.legal c.in-Ok.ensures.answer.0.element c.if-look-ne-REPLY_STAGE.false (alive (goal.at.mark-requires c).In_default-status) c.requires.pass;
  quiet = (c.requires.pass, c.requires.free);
}

pub returns-in_default-status : goal.returns-in_default-status
returns-in_default-status c =
    let not = alive (goal.at.returns-in_default-status c).In_default-status in
    let born = c.in-Ok.ensures.answer.0.element in
    let is = collect_goes c.args.self.now c.args.caller c.args.id c.in-Ok.look.element c.show_reached.ensures.legal born c.if-look-ne-REPLY_STAGE.false not in
    record {
      answer = (born, c.if-look-ne-REPLY_STAGE.false, may_collect c.args.self.now c.args.caller c.args.id c.in-Ok.look.element c.show_reached.ensures.legal born c.if-look-ne-REPLY_STAGE.false not c.requires.pass, c.mark.ensures);
      computed = (ap (λ x. x.0) (sym is), c.mark.ensures ∙ ap (λ x. x.1) (sym is));
      limits = ap (λ (s : State). s.limits) c.mark.ensures;
      passes = ap (λ (s : State). s.passes) c.mark.ensures;
    }
