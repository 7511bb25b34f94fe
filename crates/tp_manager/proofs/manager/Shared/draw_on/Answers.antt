use Rattle.std.proofs.Common.{ℕ, subst, sym}
use Rattle.tp_model.specs.declared.types.Limits.{Limits}
use Rattle.tp_rule.specs.Tables.{table_limits}
use Rattle.tp_rule.specs.Views.{view_of}
use Rattle.tp_manager.specs.Bounds.{draw_steps}
use Rattle.tp_manager.specs.Spares.{AreLeft, AreHeaded}
use Rattle.tp_manager.proofs.Claims.Spares.{drew_tried, left_behind, cleared_drew, cleared_tried}
use Rattle.tp_manager.proofs.manager.Shared.draw_on.Goals as goal

pub void_rows-requires-clause-left : goal.void_rows-requires-clause-left
void_rows-requires-clause-left c = let l : Limits = table_limits c.args.self.now.words in let d = c.draw.ensures.yes c.if-not-draw.false in
    subst (λ (z : ℕ × ℕ). AreLeft l (view_of c.draw.new.seat) z.0 z.1) (λ i. (c.requires.run.0 i, c.requires.run.1 i)) (left_behind l (draw_steps l) d.0 (view_of c.args.seat.now) (view_of c.draw.new.seat) c.requires.steady.steady d.1)

pub returns-clause-yes : goal.returns-clause-yes
returns-clause-yes c = λ _. let l : Limits = table_limits c.args.self.now.words in let d = c.draw.ensures.yes c.if-not-draw.false in
    (d.0, drew_tried l (draw_steps l) c.args.run.now.left d.0 (view_of c.args.seat.now) (view_of c.draw.new.seat) (view_of c.void_rows.new.seat) d.1 c.void_rows.ensures.tried, d.2, d.3, d.4, d.5)

pub returns-clause-cleared : goal.returns-clause-cleared
returns-clause-cleared c = let l : Limits = table_limits c.args.self.now.words in let d = c.draw.ensures.yes c.if-not-draw.false in
    cleared_drew l (draw_steps l) c.args.run.now.left d.0 (view_of c.args.seat.now) (view_of c.draw.new.seat) (view_of c.void_rows.new.seat) d.1 c.void_rows.ensures.tried
    (subst (λ (z : ℕ × ℕ). AreHeaded (view_of c.void_rows.new.seat) z.0 z.1) (λ i. (sym c.requires.run.0 i, sym c.requires.run.1 i)) c.void_rows.ensures.headed)

pub returns-then-not-draw-clause-cleared : goal.returns-then-not-draw-clause-cleared
returns-then-not-draw-clause-cleared c = let l : Limits = table_limits c.args.self.now.words in cleared_tried l _ (view_of c.args.seat.now) (view_of c.draw.new.seat) (c.draw.ensures.no c.if-not-draw.true).0 c.requires.cleared
