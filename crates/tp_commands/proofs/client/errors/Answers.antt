use Rattle.std.proofs.Common.{◌+◌, inl, inr, arith, ◌∙◌, ap}
use Rattle.std.proofs.lemmas.Result.{IfOk-weaker}
use Rattle.tp_model.specs.declared.types.Limits.{Limits}
use Rattle.tp_report.specs.Answer.{errors_text, line}
use Rattle.tp_commands.specs.Asked.{FindsNoError, TellsErrors}
use Rattle.tp_commands.proofs.Listings.{no_more_found, one_more_found}
use Rattle.tp_commands.proofs.client.errors.Goals.{else-loop-from-test, then-loop-from-test+in_default}
use Rattle.tp_commands.proofs.client.errors.Goals as goal

pub loop-from-preserved : goal.loop-from-preserved
loop-from-preserved c = let l : Limits = c.args.manager.now.limits in record {
  free = record { own = c.next_error.ensures.own; free = c.next_error.ensures.quiet.open_unit ∙ c.loop-from.invariant.free.free };
  number = c.next_error.ensures.follows.number ∙ c.loop-from.invariant.number;
  capacity = c.capacity-capacity.ensures;
  found = λ more last rest. rw c.in_ok-push.ensures.items (one_more_found (TellsErrors l c.loop-from.from c.loop-from.client) (TellsErrors l (c.in-Some.id + 1) c.next_error.new.pass) (TellsErrors l 0 c.args.client.now)
      c.loop-from.parked.items c.in-Some.id c.loop-from.invariant.found
      (λ more last rest. (c.next_error.new.pass, record { called = record { follows = c.next_error.ensures.follows; limits = c.next_error.ensures.own.1; turn = c.next_error.ensures.turn }; quiet = c.next_error.ensures.quiet; looks = c.next_error.ensures.looks; next = c.in-Some.ensures.answer }, rest)) more last rest);
}

pub returns-clause-tells : goal.returns-clause-tells
returns-clause-tells c =
    let l : Limits = c.args.manager.now.limits in
    let last = c.loop-from-test.client in
    let none : FindsNoError l c.loop-from.from c.loop-from.client last = elim c.loop-from-test.branch [
      | else-loop-from-test w ↦ inr (omega (arith, c.capacity-capacity.ensures, w.loop-from-test.false), w.client-is)
      | then-loop-from-test+in_default w ↦ inl (rw w.client-is (record { follows = w.next_error.ensures.follows; limits = w.next_error.ensures.own.1; turn = w.next_error.ensures.turn }, w.next_error.ensures.quiet, w.next_error.ensures.looks, w.in_default.ensures.answer))
    ] in
    let all : TellsErrors l 0 c.args.client.now c.loop-from.parked.items last =
    no_more_found (TellsErrors l c.loop-from.from c.loop-from.client) (TellsErrors l 0 c.args.client.now) c.loop-from.parked.items last c.loop-from.invariant.found none in
    IfOk-weaker c.line.result _ _ (λ text is. (c.loop-from.parked.items, all, is ∙ ap (λ xs. line (errors_text xs)) c.as_slice.ensures.value)) c.line.ensures.text
