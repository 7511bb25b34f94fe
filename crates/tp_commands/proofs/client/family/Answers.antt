use Rattle.std.proofs.Common.{◌+◌, [], inl, inr, arith, ◌∙◌, ap}
use Rattle.std.proofs.lemmas.Result.{IfOk-weaker}
use Rattle.tp_model.specs.declared.types.Limits.{Limits}
use Rattle.tp_report.specs.Answer.{family_text, line}
use Rattle.tp_commands.specs.Asked.{TellsFamily}
use Rattle.tp_commands.proofs.Listings.{no_more_found, one_more_found}
use Rattle.tp_commands.proofs.client.family.Goals.{else-loop-from-test, then-loop-from-test+in_default}
use Rattle.tp_commands.proofs.client.family.Goals as goal

pub loop-from-preserved : goal.loop-from-preserved
loop-from-preserved c = let l : Limits = c.args.manager.now.limits in let root = c.args.root in record {
  free = c.next_member.ensures.free;
  number = c.next_member.ensures.number ∙ c.loop-from.invariant.number;
  capacity = c.capacity-capacity.ensures;
  found = λ more last rest. rw c.in_ok-push.ensures.items (one_more_found (TellsFamily l root c.loop-from.from c.loop-from.client) (TellsFamily l root (c.in-Some.look.element.id + 1) c.next_member.new.client) (TellsFamily l root 0 c.args.client.now)
      c.loop-from.found.items c.in-Some.look c.loop-from.invariant.found
      (λ more last rest. (c.next_member.new.client, c.in-Some.ensures.tells, rest)) more last rest);
}

pub returns-clause-tells : goal.returns-clause-tells
returns-clause-tells c =
    let l : Limits = c.args.manager.now.limits in let root = c.args.root in
    let last = c.loop-from-test.client in
    let none : TellsFamily l root c.loop-from.from c.loop-from.client [] last = elim c.loop-from-test.branch [
      | else-loop-from-test w ↦ inr (omega (arith, c.capacity-capacity.ensures, w.loop-from-test.false), w.client-is)
      | then-loop-from-test+in_default w ↦ inl (rw w.client-is w.in_default.ensures.tells)
    ] in
    let all : TellsFamily l root 0 c.args.client.now c.loop-from.found.items last =
    no_more_found (TellsFamily l root c.loop-from.from c.loop-from.client) (TellsFamily l root 0 c.args.client.now) c.loop-from.found.items last c.loop-from.invariant.found none in
    IfOk-weaker c.line.result _ _ (λ text is. (c.loop-from.found.items, all, is ∙ ap (λ xs. line (family_text root xs)) c.as_slice-looks.ensures.value)) c.line.ensures.text
