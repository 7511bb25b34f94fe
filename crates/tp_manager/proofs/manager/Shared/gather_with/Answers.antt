use Rattle.tp_rule.specs.Tables.{table_limits, table_of}
use Rattle.tp_rule.specs.Views.{view_of}
use Rattle.tp_rule.specs.declared.view.Known.TheVariants.{BlocksDrawn}
use Rattle.tp_manager.proofs.Accounts.Closing.{gathers_with}
use Rattle.tp_manager.proofs.manager.Shared.gather_with.Goals as goal

pub returns-clause-gathers : goal.returns-clause-gathers
returns-clause-gathers c = gathers_with (table_of c.args.self.now.words) (table_limits c.args.self.now.words) (view_of c.args.first.now) (view_of c.meet_seat.new.first) (view_of c.look_together.new.first)
    (view_of c.args.keeper.now) (view_of c.meet_seat.new.others) (view_of c.look_together.new.others) c.args.passes.now c.look_together.new.passes
    c.meet_seat.ensures.acted c.meet_seat.ensures.others c.meet_seat.ensures.saw c.look_together.ensures.look

pub returns-clause-risen : goal.returns-clause-risen
returns-clause-risen c = λ n known. c.look_together.ensures.found.rises n (c.meet_seat.ensures.acted.walk.knows (BlocksDrawn n) known)
