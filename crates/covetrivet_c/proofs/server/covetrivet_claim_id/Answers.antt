use Rattle.covetrivet_c.proofs.server.covetrivet_claim_id.Goals as goal

pub returns : goal.returns
returns c =
    let call = c.claim_id-answer in
    record {
      answer = rw (c.in-Some.ensures.was, c.set.ensures, ← c.deref_mut.ensures.value)
          (call.ensures.manager, (call.result, c.tell_work.ensures, call.ensures.answer));
    }
