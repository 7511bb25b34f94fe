use Rattle.std.proofs.Common.{arith, length, subst}
use Rattle.std.specs.Prelude.{All}
use Rattle.std.proofs.lemmas.List.{take_all}
use Rattle.tp_journal.specs.Text.{IsPlain}
use Rattle.tp_journal.proofs.EndLines.{is_batch, some-length}
use Rattle.tp_journal.proofs.batch.check.Goals as goal

pub returns-clause-accepted : goal.returns-clause-accepted
returns-clause-accepted c =
    is_batch c.args.batch.now (subst (All IsPlain) (take_all c.plain_len.result c.args.batch.now (omega (arith, c.if-plain_len-batch.false))) c.plain_len.ensures.plain) (some-length (length c.args.batch.now) c.is_empty.result c.if-is_empty.false c.is_empty.ensures) c.if-batch-ne10.false
