use Rattle.std.proofs.Common.{refl}
use Rattle.tp_crew.proofs.CrewLemmas.{swapped_steady}
use Rattle.tp_crew.proofs.crew.Crew.swap.Goals as goal

pub returns-clause-steady : goal.returns-clause-steady
returns-clause-steady g c =
    let begins = rw (c.deref.ensures.value) at c.begin.ensures.folds in
    rw (c.swap.ensures.x_after)
    (swapped_steady _ _ _ c.args.self.now _ c.args.k c.args.other.now c.requires.steady c.requires.within refl refl refl refl refl c.requires.clear c.begin.ensures.kept begins)
