use Rattle.std.proofs.Common.{◌≡◌, ◌+◌, ◌∙◌, [], ◌∷◌, ap, arith, length, refl, subst, take, zip, drop}
use Rattle.std.proofs.lemmas.List.{length-append}
use Rattle.std.proofs.lemmas.Option.{slice_get_read}
use Rattle.tp_crew.specs.FoldStarts.{begun}
use Rattle.tp_crew.proofs.FoldStarts.{begun_all, begun_more}
use Rattle.tp_crew.proofs.fold_start.FoldStart.each.Goals as goal

pub loop-k-init : goal.loop-k-init
loop-k-init g c = record { begun_are = ap begun c.new-starts.ensures.items; count = ap length c.new-starts.ensures.items }

pub loop-k-preserved : goal.loop-k-preserved
loop-k-preserved g c =
    let ps = c.args.passes.now in
    let us = c.args.boxes.now in
    let k = c.loop-k.k in
    let server = slice_get_read us (length us) k _ refl c.loop-k-test.true c.index-boxes-k.is in
    record {
      begun_are = rw (c.in_ok-push.ensures.items) (begun_more ps us c.loop-k.starts.items c.of.result k c.loop-k.invariant.begun_are
          c.of.ensures.pass (rw (c.of.ensures.server) server));
      count = rw (c.in_ok-push.ensures.items) (length-append c.loop-k.starts.items (c.of.result ∷ []) ∙ ap (λ n. n + 1) c.loop-k.invariant.count);
    }

pub returns : goal.returns
returns g c =
    let ps = c.args.passes.now in
    let us = c.args.boxes.now in
    let all : c.loop-k.k ≡ length us = omega (arith, c.loop-k-test.false, c.loop-k.auto.k-end) in
    record {
      begun = begun_all ps us c.loop-k.starts.items (subst (λ n. begun c.loop-k.starts.items ≡ take n (zip (drop 1 ps) us)) all c.loop-k.invariant.begun_are);
      count = c.loop-k.invariant.count ∙ all;
    }
