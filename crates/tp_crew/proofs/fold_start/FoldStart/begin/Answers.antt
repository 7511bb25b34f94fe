use Rattle.tp_crew.proofs.FoldStarts.{begins}
use Rattle.tp_crew.proofs.fold_start.FoldStart.begin.Goals as goal

pub returns-clause-folds : goal.returns-clause-folds
returns-clause-folds g c = begins c.args.starts.now.items c.args.k c.args.passes.now _ c.of.result c.of.ensures.pass c.of.ensures.server
