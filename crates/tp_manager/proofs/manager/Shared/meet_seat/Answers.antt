use Rattle.std.proofs.Common.{ap, ◌∙◌}
use Rattle.tp_rule.specs.Tables.{table_limits}
use Rattle.tp_rule.specs.Views.{view_of}
use Rattle.tp_rule.specs.declared.view.View.{View}
use Rattle.tp_rule.proofs.Seats.{one_has}
use Rattle.tp_manager.proofs.Accounts.Together.{joins_has, met_acted, met_found, met_lots, met_others, met_saw}
use Rattle.tp_manager.proofs.manager.Shared.meet_seat.Goals as goal

pub join-requires-clause-pass : goal.join-requires-clause-pass
join-requires-clause-pass c = one_has (view_of c.args.first.now) c.requires.steady.pass.0

pub load_drawn_together-drawn-requires-clause-pass : goal.load_drawn_together-drawn-requires-clause-pass
load_drawn_together-drawn-requires-clause-pass c = joins_has (view_of c.args.first.now) (view_of c.args.others.now) (view_of c.join.new.seat) c.requires.steady.pass.0 c.join.ensures.joins

pub returns-clause-acted : goal.returns-clause-acted
returns-clause-acted c = met_acted (table_limits c.args.self.now.words) (view_of c.args.first.now) (view_of c.args.others.now) (view_of c.join.new.seat) (view_of c.load_drawn_together-drawn.new.seat) (view_of c.part.new.seat) (view_of c.part.result)
    c.requires.steady c.join.ensures.joins c.load_drawn_together-drawn.ensures.grew c.part.ensures.keeps c.part.ensures.parts

pub returns-clause-others : goal.returns-clause-others
returns-clause-others c = met_others (table_limits c.args.self.now.words) (view_of c.args.first.now) (view_of c.args.others.now) (view_of c.join.new.seat) (view_of c.load_drawn_together-drawn.new.seat) (view_of c.part.new.seat) (view_of c.part.result)
    c.requires.steady c.join.ensures.joins c.load_drawn_together-drawn.ensures.grew c.part.ensures.keeps c.part.ensures.parts

pub returns-clause-saw : goal.returns-clause-saw
returns-clause-saw c = met_saw (table_limits c.args.self.now.words) (view_of c.args.first.now) (view_of c.args.others.now) (view_of c.join.new.seat) (view_of c.load_drawn_together-drawn.new.seat) (view_of c.part.new.seat) (view_of c.part.result)
    c.requires.steady c.join.ensures.joins c.load_drawn_together-drawn.ensures.grew c.part.ensures.keeps c.part.ensures.parts

pub load_drawn_together-drawn-requires-clause-limits : goal.load_drawn_together-drawn-requires-clause-limits
load_drawn_together-drawn-requires-clause-limits c = ap (λ (v : View). v.limits) c.join.ensures.joins ∙ c.requires.steady.pass.1

pub returns-clause-found : goal.returns-clause-found
returns-clause-found c = let n = c.load_drawn_together-drawn.ensures in met_found (table_limits c.args.self.now.words) (view_of c.args.first.now) (view_of c.args.others.now) (view_of c.join.new.seat) (view_of c.load_drawn_together-drawn.new.seat) (view_of c.part.new.seat) (view_of c.part.result)
    c.requires.steady c.join.ensures.joins c.load_drawn_together-drawn.ensures.grew c.part.ensures.keeps c.part.ensures.parts _ n.knows n.inside n.rises

pub returns-clause-shares : goal.returns-clause-shares
returns-clause-shares c = met_lots (table_limits c.args.self.now.words) (view_of c.args.first.now) (view_of c.args.others.now) (view_of c.join.new.seat) (view_of c.load_drawn_together-drawn.new.seat) (view_of c.part.new.seat) (view_of c.part.result)
    c.requires.steady c.join.ensures.joins c.load_drawn_together-drawn.ensures.grew c.part.ensures.keeps c.part.ensures.parts _ c.load_drawn_together-drawn.ensures.shares
