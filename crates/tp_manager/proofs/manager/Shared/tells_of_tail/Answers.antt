use Rattle.std.proofs.Common.{arith, refl}
use Rattle.tp_rule.specs.Tables.{table_limits}
use Rattle.tp_rule.specs.Views.{view_of}
use Rattle.tp_manager.proofs.Calls.CallSteps.{acted_by}
use Rattle.tp_manager.proofs.Marks.Raises.{rose_tail, unconcerned}
use Rattle.tp_manager.proofs.manager.Shared.tells_of_tail.Goals as goal

pub returns-clause-acted : goal.returns-clause-acted
returns-clause-acted c = acted_by _ _ _ _ c.requires.steady.steady refl c.load_tail-found.ensures.grew

pub returns-clause-aside : goal.returns-clause-aside
returns-clause-aside c = λ yes. let l = table_limits c.args.self.now.words in let t = c.is_tail_aside.ensures yes in let far = t.5 in let low = c.requires.rows.0 in
    rose_tail l c.args.stage (view_of c.load_tail-found.new.seat) c.args.row c.args.at t.0 c.load_tail-found.result.tail (c.load_tail-found.ensures.tail t.0 t.1 t.2 t.3) (omega arith) (omega arith)
    (unconcerned l c.args.stage t.0 c.requires.stage.0 t.4)
