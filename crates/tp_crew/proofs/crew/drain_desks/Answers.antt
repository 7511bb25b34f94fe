use Rattle.std.proofs.Common.{arith, length}
use Rattle.tp_workers.specs.Free.{IsFreePass}
use Rattle.tp_crew.proofs.CrewLemmas.{new_all, rest_all}
use Rattle.tp_crew.proofs.crew.drain_desks.Goals as goal

pub returns-clause-free : goal.returns-clause-free
returns-clause-free g c =
    let Q = IsFreePass c.args.manager.now in
    new_all c.args.passes.now c.split_at_mut-own.result.0.now c.drain.new.passes c.split_at_mut-desks.result.1.now (length c.args.boxes.now) c.split_at_mut-own.ensures.front (omega (arith, c.requires.enough)) Q c.requires.free c.drain.ensures.free
    (rest_all Q c.args.passes.now c.split_at_mut-own.result.1.now c.split_at_mut-desks.result.1.now _ c.split_at_mut-own.ensures.back c.split_at_mut-desks.ensures.back c.requires.free)
