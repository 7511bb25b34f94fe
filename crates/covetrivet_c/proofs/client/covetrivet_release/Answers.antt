use Rattle.covetrivet_c.proofs.client.covetrivet_release.Goals as goal

pub returns : goal.returns
returns c =
    let call = c.release-answer in
    record {
      answer = rw (c.in-Some.ensures.was, c.set.ensures, ← c.deref_mut.ensures.value)
          (call.ensures.manager, (call.result, c.tell_released.ensures, call.ensures.answer));
    }
