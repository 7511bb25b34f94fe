use Rattle.std.proofs.Common.{ap, sym, ◌∙◌}
use Rattle.std.specs.Prelude.{Some}
use Rattle.covetrivet_c.specs.Clients.{ErrorSays}
use Rattle.covetrivet_c.proofs.Answered.{answered}
use Rattle.covetrivet_c.proofs.client.covetrivet_next_error.Goals as goal

pub returns : goal.returns
returns c =
    let call = c.next_error-answer in
    record {
      answer = answered (λ n. n) (ErrorSays c.args.from) _ _ _ _ _ _ _ _ (c.in-Some.ensures.was ∙ ap Some (sym c.deref_mut.ensures.value))
          c.set.ensures call.ensures.manager c.tell.ensures call.ensures.answer;
    }
