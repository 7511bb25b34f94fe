use Rattle.std.proofs.Common.{◌≡◌, ◌∙◌, arith, length, refl}
use Rattle.std.proofs.lemmas.Option.{slice_get_read}
use Rattle.tp_crew.specs.FoldStarts.{begun}
use Rattle.tp_crew.proofs.FoldStarts.{begin_end, begin_more, begun_long}
use Rattle.tp_crew.proofs.fold_start.FoldStart.begin_all.Goals as goal

pub loop-k-preserved : goal.loop-k-preserved
loop-k-preserved g c =
    let ps = c.args.passes.now in
    let us = c.args.boxes.now in
    let bs = begun c.args.starts.now.items in
    let k = c.loop-k.k in
    let server = slice_get_read us (length us) k _ refl c.loop-k-test.true c.index-boxes-k.is in
    record {
      begun_are = begin_more ps us bs k _ (begun c.loop-k.starts.items) _ server (omega (arith, begun_long c.args.starts.now.items, c.requires.places, c.loop-k-test.true)) c.loop-k.invariant.begun_are c.begin.ensures.folds;
      count = c.begin.ensures.kept ∙ c.loop-k.invariant.count;
    }

pub returns-clause-begun : goal.returns-clause-begun
returns-clause-begun g c =
    let us = c.args.boxes.now in
    let all : c.loop-k.k ≡ length us = omega (arith, c.loop-k-test.false, c.loop-k.auto.k-end) in
    begin_end c.args.passes.now us (begun c.args.starts.now.items) c.loop-k.k _ all (omega (arith, begun_long c.args.starts.now.items, c.requires.places, all)) c.loop-k.invariant.begun_are
