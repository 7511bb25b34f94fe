use Rattle.tp_rule.specs.Tables.{table_limits}
use Rattle.tp_rule.specs.Views.{view_of}
use Rattle.tp_manager.proofs.Claims.Behind.{nothing_past}
use Rattle.tp_manager.proofs.manager.Shared.past_full_once.Goals as goal

pub returns-else-from-clause-goes : goal.returns-else-from-clause-goes
returns-else-from-clause-goes c = nothing_past (table_limits c.args.self.now.words) c.args.stage c.args.from.part _ c.args.lows.now (view_of c.args.seat.now) c.requires.from c.requires.steady.steady
