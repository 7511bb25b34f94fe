use Rattle.std.proofs.Common.{arith}
use Rattle.std.proofs.lemmas.List.Elements.{All-more}
use Rattle.tp_journal.specs.Text.{IsSet}
use Rattle.tp_journal.proofs.Texts.{is_set}
use Rattle.tp_journal.proofs.zeros.text_len.Goals as goal

pub loop-len-preserved : goal.loop-len-preserved
loop-len-preserved c = record {
  inside = omega (arith, c.loop-len-test.true);
  set = All-more IsSet c.args.bytes.now c.loop-len.len 0 (omega (arith, c.loop-len-test.true)) c.loop-len.invariant.set (is_set _ c.if-bytes-len-ne0.true);
}
