use Rattle.tp_rule.specs.Tables.{table_limits, table_of}
use Rattle.tp_rule.specs.Views.{seen_by, view_of}
use Rattle.tp_rule.specs.declared.view.Known.TheVariants.{BlocksDrawn}
use Rattle.tp_manager.specs.Bounds.{led_steps}
use Rattle.tp_manager.proofs.Accounts.Closing.{counts_with, joins_at}
use Rattle.tp_manager.proofs.manager.Shared.count_with.Goals as goal

pub look_together-drawn-requires-clause-passes : goal.look_together-drawn-requires-clause-passes
look_together-drawn-requires-clause-passes c = joins_at (table_of c.args.self.now.words) (table_limits c.args.self.now.words) led_steps (seen_by c.gather_with.new.first) c.args.passes.now c.gather_with.new.passes c.gather_with.ensures.gathers.passes

pub returns-clause-counts : goal.returns-clause-counts
returns-clause-counts c = counts_with (table_of c.args.self.now.words) (table_limits c.args.self.now.words) (view_of c.args.first.now) (view_of c.gather_with.new.first) (view_of c.count_rows-account.new.seat) (view_of c.look_together-drawn.new.first)
    (view_of c.args.keeper.now) (view_of c.gather_with.new.keeper) (view_of c.look_together-drawn.new.others) c.args.passes.now c.gather_with.new.passes c.look_together-drawn.new.passes c.count_rows-account.result
    c.requires.all c.gather_with.ensures.gathers c.count_rows-account.ensures.looked c.look_together-drawn.ensures.look c.count_rows-account.ensures.counted

pub returns-clause-risen : goal.returns-clause-risen
returns-clause-risen c = λ n known. c.look_together-drawn.ensures.found.rises n
    (c.count_rows-account.ensures.looked.walk.knows (BlocksDrawn n) (c.gather_with.ensures.gathers.first.walk.knows (BlocksDrawn n) known))
