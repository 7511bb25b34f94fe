use Rattle.std.proofs.Common.{refl}
use Rattle.tp_crew.proofs.CrewLemmas.{own_call, own_steady, still_free}
use Rattle.tp_crew.proofs.crew.Crew.next_error.Goals as goal

pub returns-clause-steady : goal.returns-clause-steady
returns-clause-steady g c =
    let old = c.args.self.now in
    let p = c.index_mut.result.now in
    let at = c.index_mut.ensures.value in
    own_steady _ _ _ old _ p c.next_error.new.pass c.requires.steady at refl refl refl refl refl refl c.next_error.ensures.follows.number c.next_error.ensures.own
    (still_free _ _ _ old p c.next_error.new.pass c.requires.steady at c.next_error.ensures.quiet.open_unit)

pub returns-clause-call : goal.returns-clause-call
returns-clause-call g c =
    let old = c.args.self.now in
    let p = c.index_mut.result.now in
    let at = c.index_mut.ensures.value in
    own_call _ _ _ old _ _ _ p c.next_error.new.pass c.requires.steady at refl refl refl refl refl refl c.next_error.ensures.follows
    (still_free _ _ _ old p c.next_error.new.pass c.requires.steady at c.next_error.ensures.quiet.open_unit) c.next_error.ensures.answer
