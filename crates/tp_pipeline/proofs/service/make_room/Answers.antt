use Rattle.tp_pipeline.proofs.Careers.{goes_rolled}
use Rattle.tp_pipeline.proofs.service.make_room.Goals as goal

pub returns-clause-goes_on : goal.returns-clause-goes_on
returns-clause-goes_on g c =
    let moved = rw c.in-Some.is at c.in_ok-moved.ensures.moved in
    goes_rolled _ _ _ _ _ c.requires.steady c.in_ok-moved.ensures.steady c.in_ok-moved.ensures.boxes moved.1.begun
