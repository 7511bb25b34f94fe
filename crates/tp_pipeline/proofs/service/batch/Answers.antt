use Rattle.tp_pipeline.proofs.Careers.{goes_further, goes_same}
use Rattle.tp_pipeline.proofs.service.batch.Goals as goal

pub returns-clause-goes_on : goal.returns-clause-goes_on
returns-clause-goes_on g c =
    let room = c.in_ok-make_room.ensures.goes_on in
    let submitted = goes_further _ _ _ _ _ room c.in_ok-submit_next.ensures.goes_on in
    let worked = goes_further _ _ _ _ _ submitted c.work.ensures.goes_on in
    let answered = goes_further _ _ _ _ _ worked c.in_ok-answer_all.ensures.goes_on in
    let drained = goes_further _ _ _ _ _ answered (goes_same _ _ _ _ c.drain.ensures.same.starts) in
    goes_further _ _ _ _ _ drained c.collect_all.ensures.goes_on
