use Rattle.std.proofs.Common.{◌+◌}
use Rattle.tp_manager.proofs.Families.Aheads.{runs_more}
use Rattle.tp_manager.proofs.ahead.Ahead.insert_rows.Goals as goal

pub returns-then-place-clause-has : goal.returns-then-place-clause-has
returns-then-place-clause-has c = runs_more c.args.self.now c.place.new.self c.args.rows.now c.args.first (c.args.first + c.args.count) (c.place.ensures.yes c.if-place.true)

pub returns-then-place_first-clause-has : goal.returns-then-place_first-clause-has
returns-then-place_first-clause-has c = runs_more c.args.self.now c.place_first.new.self c.args.rows.now c.args.first (c.args.first + c.args.count) (c.place_first.ensures.yes c.if-place_first.true)
