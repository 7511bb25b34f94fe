use Rattle.std.proofs.Common.{sym, arith, add-one}
use Rattle.std.proofs.lemmas.List.Elements.{All-more}
use Rattle.tp_model.specs.Births.{IsWhole}
use Rattle.tp_model.proofs.Outputs.{outputs_more}
use Rattle.tp_plain.proofs.looks.outputs_of.Goals as goal

pub loop-draft-preserved : goal.loop-draft-preserved
loop-draft-preserved c =
    let more = outputs_more c.args.unit c.args.root c.args.first c.args.drafts.now c.loop-draft.draft-index c.draft-item.result c.loop-draft-test.true c.draft-item.is in
    let place = c.loop-draft.invariant.place in
    record {
      place = omega arith;
      made = rw (c.in_ok-push.ensures.items, c.loop-draft.invariant.made, c.loop-draft.invariant.place, c.stage.ensures.value, c.body.ensures.value, add-one) (sym more);
      whole =
          All-more IsWhole c.args.drafts.now c.loop-draft.draft-index c.draft-item.result c.loop-draft-test.true c.loop-draft.invariant.whole
          (rw (← c.draft-item.is, ← c.stage.ensures.value, ← c.body.ensures.value) ((c.stage.ensures.low, c.stage.ensures.high), c.body.ensures.whole));
    }
