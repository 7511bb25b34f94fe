use Rattle.covetrivet_c.proofs.client.covetrivet_requeue.Goals as goal

pub returns : goal.returns
returns c =
    let call = c.requeue-answer in
    record {
      answer = rw (c.in-Some.ensures.was, c.set.ensures, ← c.deref_mut.ensures.value)
          (call.ensures.manager, (call.result, c.tell.ensures, call.ensures.answer));
    }
