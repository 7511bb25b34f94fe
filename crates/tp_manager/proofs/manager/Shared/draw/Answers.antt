use Rattle.tp_manager.proofs.Claims.Spares.{cleared_tried}
use Rattle.std.proofs.Common.{◌≡◌, ◌+◌, ◌-◌, ap, sym, ◌∙◌, arith, rules, refl}
use Rattle.tp_model.specs.declared.types.Limits.{Limits}
use Rattle.tp_model.specs.Steps.{block_first}
use Rattle.tp_rule.specs.Tables.{table_limits}
use Rattle.tp_rule.specs.Views.{view_of}
use Rattle.tp_manager.specs.declared.manager.Run.{Run}
use Rattle.tp_manager.proofs.Rows.Blocks.{draws_drew, drew_then, more_drawn, none_tried, tried_few, tried_then}
use Rattle.tp_manager.proofs.manager.Shared.draw.Goals as goal
use Rattle.tp_manager.proofs.manager.Shared.draw.Goals.{After-loop-run}

spare : (c : After-loop-run) → (table_limits c.args.self.now.words).spare ≡ c.args.self.now.places.limits.spare
spare c = ap (λ (z : Limits). z.spare) c.args.self.now.same

pub returns-in-Ok-clause-drawn : goal.returns-in-Ok-clause-drawn
returns-in-Ok-clause-drawn c = let l : Limits = table_limits c.args.self.now.words in let i = c.loop-run.invariant in let same : l.spare ≡ c.args.self.now.places.limits.spare = ap (λ (z : Limits). z.spare) c.args.self.now.same in let less = c.loop-run-test.true in
    (draws_drew l c.loop-run.run.drawn (view_of c.loop-run.seat) (view_of c.draw.new.seat) i.tried.walk.steady (omega arith) c.in-Ok.ensures.hit).1

pub returns-in-Ok-clause-yes : goal.returns-in-Ok-clause-yes
returns-in-Ok-clause-yes c = λ _. let l : Limits = table_limits c.args.self.now.words in let i = c.loop-run.invariant in let same : l.spare ≡ c.args.self.now.places.limits.spare = ap (λ (z : Limits). z.spare) c.args.self.now.same in let less = c.loop-run-test.true in
    let b = c.loop-run.run.drawn in let up = i.rises in (
      b,
      drew_then l (b - c.args.run.now.drawn) 1 l.spare b (view_of c.args.seat.now) (view_of c.loop-run.seat) (view_of c.draw.new.seat) (omega arith) i.tried
          (draws_drew l b (view_of c.loop-run.seat) (view_of c.draw.new.seat) i.tried.walk.steady (omega arith) c.in-Ok.ensures.hit).0,
      c.block_first.ensures.first ∙ ap (λ (z : Limits). block_first z b) (sym c.args.self.now.same),
      refl,
      refl,
      refl,
    )

pub loop-run-preserved : goal.loop-run-preserved
loop-run-preserved c = let l : Limits = table_limits c.args.self.now.words in let i = c.loop-run.invariant in let d = c.in-Err.ensures.miss in let b = c.loop-run.run.drawn in let n = c.in-Err.found in
    let v = view_of c.loop-run.seat in let w = view_of c.draw.new.seat in let more = more_drawn l b n v w i.drawn d in let up = i.rises in let t = none_tried l b n v w i.tried.walk.steady d in record {
      same = search rules;
      kept = ap (λ (r : Run). record r { drawn = n }) i.kept;
      rises = omega arith;
      drawn = t.1;
      tried = tried_few l ((b - c.args.run.now.drawn) + 1) (n - c.args.run.now.drawn) _ w (omega arith) (tried_then l (b - c.args.run.now.drawn) 1 _ v w i.tried t.0);
    }

pub draw-requires-clause-cleared : goal.draw-requires-clause-cleared
draw-requires-clause-cleared c = cleared_tried (table_limits c.args.self.now.words) _ (view_of c.args.seat.now) (view_of c.loop-run.seat) c.loop-run.invariant.tried c.requires.cleared
