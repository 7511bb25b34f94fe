use Rattle.std.proofs.Common.{refl}
use Rattle.tp_crew.proofs.CrewLemmas.{own_call, own_steady}
use Rattle.tp_crew.proofs.crew.Crew.collect_next.Goals as goal

pub returns-clause-steady : goal.returns-clause-steady
returns-clause-steady g c =
    let old = c.args.self.now in
    let p = c.index_mut.result.now in
    let at = c.index_mut.ensures.value in
    own_steady _ _ _ old _ p c.collect_next.new.pass c.requires.steady at refl refl refl refl refl refl c.collect_next.ensures.follows.number c.collect_next.ensures.own
    c.collect_next.ensures.open_unit

pub returns-clause-call : goal.returns-clause-call
returns-clause-call g c =
    let old = c.args.self.now in
    let p = c.index_mut.result.now in
    let at = c.index_mut.ensures.value in
    own_call _ _ _ old _ _ _ p c.collect_next.new.pass c.requires.steady at refl refl refl refl refl refl c.collect_next.ensures.follows
    c.collect_next.ensures.open_unit c.collect_next.ensures.answer
