use Rattle.std.proofs.Common.{◌≡◌, ◌≤◌, ℕ, rules, sym, ◌∙◌, ap, subst, arith}
use Rattle.tp_model.specs.declared.types.Limits.{Limits}
use Rattle.tp_rule.specs.Places.{drawn_place}
use Rattle.tp_rule.specs.Doors.{Permits, key_of}
use Rattle.tp_rule.specs.Plays.{loads_drawn}
use Rattle.tp_rule.specs.Steps.{Knows, NoneDrawn, Shares}
use Rattle.tp_rule.specs.Tables.{table_limits}
use Rattle.tp_rule.specs.Views.{seen_by, view_of}
use Rattle.tp_rule.specs.declared.view.Known.TheVariants.{BlocksDrawn}
use Rattle.tp_rule.proofs.Drawing.{looks_drawn}
use Rattle.tp_rule.proofs.words.Words.load_drawn_together.Goals as goal
use Rattle.tp_rule.proofs.words.Words.load_drawn_together.Goals.{After-load-drawn}

pub load-drawn-requires-clause-permits : goal.load-drawn-requires-clause-permits
load-drawn-requires-clause-permits c = let keyed : table_limits c.args.self.now ≡ key_of c.args.self.now.table = search rules in
    subst (λ word. Permits (key_of c.args.self.now.table) c.args.seat.now.view word (λ n. n) (loads_drawn word 0 0 c.args.seat.now.view)) (sym (c.drawn-word.ensures.place ∙ ap drawn_place keyed))
    (looks_drawn _ c.args.seat.now.view c.requires.pass (c.requires.limits ∙ keyed))

told : (c : After-load-drawn) → Knows (view_of c.load-drawn.new.seat) (BlocksDrawn c.load-drawn.result) × (c.load-drawn.result ≤ (view_of c.args.seat.now).limits.spare)
    × NoneDrawn (view_of c.args.seat.now).limits (seen_by c.load-drawn.new.seat) c.load-drawn.result × ((n : ℕ) → Knows (view_of c.args.seat.now) (BlocksDrawn n) → n ≤ c.load-drawn.result)
    × Shares c.load-drawn.result (view_of c.load-drawn.new.seat)
told c = c.load-drawn.ensures.told.1 (c.drawn-word.ensures.place ∙ ap drawn_place (sym c.requires.limits))

inside : (c : After-load-drawn) → c.load-drawn.result ≤ (table_limits c.args.self.now).spare
inside c = subst (λ (l : Limits). c.load-drawn.result ≤ l.spare) c.requires.limits (told c).1

pub overflow_cast-result : goal.overflow_cast-result
overflow_cast-result c = let a = inside (goal.at.overflow_cast-result c).After-load-drawn in let most = c.args.self.now.places.valid.spare in omega arith

pub returns-clause-knows : goal.returns-clause-knows
returns-clause-knows c = (told (goal.at.returns-clause-knows c).After-load-drawn).0

pub returns-clause-inside : goal.returns-clause-inside
returns-clause-inside c = inside (goal.at.returns-clause-inside c).After-load-drawn

pub returns-clause-none : goal.returns-clause-none
returns-clause-none c = subst (λ (l : Limits). NoneDrawn l (seen_by c.load-drawn.new.seat) c.load-drawn.result) c.requires.limits (told (goal.at.returns-clause-none c).After-load-drawn).2

pub returns-clause-rises : goal.returns-clause-rises
returns-clause-rises c = (told (goal.at.returns-clause-rises c).After-load-drawn).3

pub returns-clause-shares : goal.returns-clause-shares
returns-clause-shares c = (told (goal.at.returns-clause-shares c).After-load-drawn).4
