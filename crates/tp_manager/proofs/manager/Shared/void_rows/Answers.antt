use Rattle.std.proofs.Common.{◌+◌, ◌∙◌, refl, arith}
use Rattle.tp_model.specs.declared.types.Limits.{Limits}
use Rattle.tp_rule.specs.Tables.{table_limits}
use Rattle.tp_rule.specs.Views.{view_of}
use Rattle.tp_manager.proofs.Rows.Blocks.{tried_then}
use Rattle.tp_manager.proofs.Claims.Spares.{left_tried, voids_headed, voids_tried}
use Rattle.tp_manager.proofs.manager.Shared.void_rows.Goals as goal

pub void-requires-clause-left : goal.void-requires-clause-left
void-requires-clause-left c = let l : Limits = table_limits c.args.self.now.words in let less = c.loop-i-test.true in
    (left_tried l c.loop-i.i c.args.first c.args.count (view_of c.args.seat.now) (view_of c.loop-i.seat) c.loop-i.invariant.tried c.requires.left (c.args.first + c.loop-i.i) (omega arith) (omega arith)).1

pub loop-i-preserved : goal.loop-i-preserved
loop-i-preserved c = let l : Limits = table_limits c.args.self.now.words in let i = c.loop-i.invariant in let n = c.loop-i.i in let v = view_of c.loop-i.seat in let w = view_of c.void.new.seat in
    let t = voids_tried l (c.args.first + n) v w i.tried.walk.steady c.void.ensures.voids in record {
      same = c.void.ensures.same ∙ i.same;
      tried = tried_then l n 1 (view_of c.args.seat.now) v w i.tried t;
      headed = voids_headed l c.args.first n (c.args.first + n) v w refl t c.void.ensures.voids i.headed;
    }
