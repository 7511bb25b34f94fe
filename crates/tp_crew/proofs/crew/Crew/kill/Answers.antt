use Rattle.std.proofs.Common.{refl}
use Rattle.tp_crew.proofs.CrewLemmas.{own_call, own_steady}
use Rattle.tp_crew.proofs.crew.Crew.kill.Goals as goal

pub returns-clause-steady : goal.returns-clause-steady
returns-clause-steady g c =
    let old = c.args.self.now in
    let p = c.index_mut.result.now in
    let at = c.index_mut.ensures.value in
    own_steady _ _ _ old _ p c.kill.new.pass c.requires.steady at refl refl refl refl refl refl c.kill.ensures.follows.number c.kill.ensures.own
    c.kill.ensures.open_unit

pub returns-clause-call : goal.returns-clause-call
returns-clause-call g c =
    let old = c.args.self.now in
    let p = c.index_mut.result.now in
    let at = c.index_mut.ensures.value in
    own_call _ _ _ old _ _ _ p c.kill.new.pass c.requires.steady at refl refl refl refl refl refl c.kill.ensures.follows
    c.kill.ensures.open_unit c.kill.ensures.answer
