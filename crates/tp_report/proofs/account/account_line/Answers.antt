use Rattle.std.proofs.Common.{arith, subst}
use Rattle.std.specs.Prelude.{string_bytes}
use Rattle.std.specs.Io.KnownBytes.{Appends}
use Rattle.tp_report.specs.Written.{AppendsFront}
use Rattle.tp_report.proofs.Devices.{always_err, front_none}
use Rattle.tp_report.proofs.LineProofs.{line_front, line_more, no_lines, nothing_written}
use Rattle.tp_report.proofs.account.account_line.Goals as goal

pub returns-in_err-text-clause-front : goal.returns-in_err-text-clause-front
returns-in_err-text-clause-front g c = always_err c.from_residual.result (front_none (g.W.Sink.contents c.args.writer.now) _)

pub returns-in_err-text-clause-line_front : goal.returns-in_err-text-clause-line_front
returns-in_err-text-clause-line_front g c = always_err c.from_residual.result (nothing_written 1 (g.W.Sink.contents c.args.writer.now))

pub returns-in_err-write_all-clause-front : goal.returns-in_err-write_all-clause-front
returns-in_err-write_all-clause-front g c =
    always_err c.from_residual-in_err-write_all.result
    (subst (AppendsFront (g.W.Sink.contents c.args.writer.now) (g.W.Sink.contents c.write_all.new.sink)) c.in_ok-text.ensures.text (rw c.as_bytes.ensures.value at c.in_err-write_all.ensures.err))

pub returns-in_err-write_all-clause-line_front : goal.returns-in_err-write_all-clause-line_front
returns-in_err-write_all-clause-line_front g c =
    always_err c.from_residual-in_err-write_all.result (line_front 0 1 _ (g.W.Sink.contents c.args.writer.now) _ (string_bytes c.in_ok-text.text) (omega arith) (no_lines (g.W.Sink.contents c.args.writer.now)) c.in_ok-text.ensures.line (rw c.as_bytes.ensures.value at c.in_err-write_all.ensures.err))

pub returns-clause-done : goal.returns-clause-done
returns-clause-done g c =
    subst (Appends (g.W.Sink.contents c.args.writer.now) (g.W.Sink.contents c.write_all.new.sink)) c.in_ok-text.ensures.text (rw c.as_bytes.ensures.value at c.in_ok-write_all.ensures.ok)

pub returns-clause-line : goal.returns-clause-line
returns-clause-line g c =
    line_more 0 _ (g.W.Sink.contents c.args.writer.now) _ (string_bytes c.in_ok-text.text) (no_lines (g.W.Sink.contents c.args.writer.now)) c.in_ok-text.ensures.line (rw c.as_bytes.ensures.value at c.in_ok-write_all.ensures.ok)
