use Rattle.std.proofs.Common.{arith}
use Rattle.std.proofs.lemmas.List.Elements.{All-more}
use Rattle.tp_journal.specs.Text.{IsPlain}
use Rattle.tp_journal.proofs.EndLines.{is_plain}
use Rattle.tp_journal.proofs.batch.plain_len.Goals as goal

pub loop-len-preserved : goal.loop-len-preserved
loop-len-preserved c = record {
  inside = omega (arith, c.loop-len-test.true);
  plain = All-more IsPlain c.args.batch.now c.loop-len.len 0 (omega (arith, c.loop-len-test.true)) c.loop-len.invariant.plain (is_plain _ c.if-batch-len-ne0.true c.if-batch-len-ne-END.true);
}
