use Rattle.std.proofs.Common.{arith, sym, ◌∙◌}
use Rattle.std.proofs.lemmas.List.Elements.{All-more}
use Rattle.tp_journal.specs.Text.{IsDigit}
use Rattle.tp_journal.proofs.ends.digits.Goals as goal

pub loop-count-preserved : goal.loop-count-preserved
loop-count-preserved c = record {
  inside = omega (arith, c.loop-count-test.true);
  digits = All-more IsDigit c.args.bytes.now c.loop-count.count 0 (omega (arith, c.loop-count-test.true)) c.loop-count.invariant.digits (sym c.is_ascii_digit.ensures.value ∙ c.if-is_ascii_digit.true);
}
