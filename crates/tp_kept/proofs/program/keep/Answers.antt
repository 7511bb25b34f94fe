use Rattle.std.proofs.Common.{◌≡◌, ◌∙◌, ◌+◌, ◌<◌, [], ap, arith, length, subst, sym, take}
use Rattle.std.specs.Io.KnownBytes.{Appends, Consumes, IsAtEnd}
use Rattle.std.proofs.lemmas.Result.{on_ok_weaker}
use Rattle.tp_report.specs.Written.{AppendsFront}
use Rattle.tp_kept.specs.Kept.{coming, recovered_text, talk}
use Rattle.tp_kept.proofs.ProgramLemmas.{TellsLeft, greeted_front, left_front, left_over, left_over_front, left_taken, left_taken_front, on_err, on_err_weaker}
use Rattle.tp_kept.proofs.program.keep.Goals as goal

pub returns-in_err-greet-clause-front : goal.returns-in_err-greet-clause-front
returns-in_err-greet-clause-front g c =
    let k = c.args.kept.now in
    let before = g.W.Sink.contents c.args.writer.now in
    on_err c.from_residual.result (greeted_front c.args.cut c.args.kept.now.counted (coming k.line.items (g.R.Source.rest c.args.reader.now)) (talk k) before (g.W.Sink.contents c.greet.new.writer) (subst (λ n. AppendsFront before (g.W.Sink.contents c.greet.new.writer) (recovered_text c.args.cut n)) c.recovered.ensures c.in_err-greet.ensures.front))

pub returns-in-Err-clause-front : goal.returns-in-Err-clause-front
returns-in-Err-clause-front g c =
    left_front c.args.cut c.args.kept.now.counted (coming c.args.kept.now.line.items (g.R.Source.rest c.args.reader.now)) (coming c.loop-read.kept.line.items (g.R.Source.rest c.loop-read.reader)) (talk c.args.kept.now) (talk c.loop-read.kept) (g.W.Sink.contents c.args.writer.now) (g.W.Sink.contents c.loop-read.writer) c.loop-read.invariant.told

pub returns-clause-front : goal.returns-clause-front
returns-clause-front g c =
    left_front c.args.cut c.args.kept.now.counted (coming c.args.kept.now.line.items (g.R.Source.rest c.args.reader.now)) (coming c.loop-read.kept.line.items (g.R.Source.rest c.loop-read.reader)) (talk c.args.kept.now) (talk c.loop-read.kept) (g.W.Sink.contents c.args.writer.now) (g.W.Sink.contents c.loop-read.writer) c.loop-read.invariant.told

pub returns-in_err-text-clause-front : goal.returns-in_err-text-clause-front
returns-in_err-text-clause-front g c =
    on_err c.from_residual-in_err-text.result (left_front c.args.cut c.args.kept.now.counted (coming c.args.kept.now.line.items (g.R.Source.rest c.args.reader.now)) (coming c.loop-read.kept.line.items (g.R.Source.rest c.loop-read.reader)) (talk c.args.kept.now) (talk c.loop-read.kept) (g.W.Sink.contents c.args.writer.now) (g.W.Sink.contents c.loop-read.writer) c.loop-read.invariant.told)

pub returns-in_err-text-2-clause-front : goal.returns-in_err-text-2-clause-front
returns-in_err-text-2-clause-front g c =
    on_err c.from_residual-in_err-text-2.result (left_front c.args.cut c.args.kept.now.counted (coming c.args.kept.now.line.items (g.R.Source.rest c.args.reader.now)) (coming c.loop-read.kept.line.items (g.R.Source.rest c.loop-read.reader)) (talk c.args.kept.now) (talk c.loop-read.kept) (g.W.Sink.contents c.args.writer.now) (g.W.Sink.contents c.loop-read.writer) c.loop-read.invariant.told)

pub returns-then-n-eq0-clause-whole : goal.returns-then-n-eq0-clause-whole
returns-then-n-eq0-clause-whole g c =
    let rest = g.R.Source.rest c.loop-read.reader in
    let rest' = g.R.Source.rest c.read.new.self in
    let read : Consumes rest rest' [] = subst (λ n. Consumes rest rest' (take n c.read.new.buffer)) c.if-n-eq0.true c.in-Ok.ensures.bytes.0 in
    let end : IsAtEnd rest' = c.in-Ok.ensures.bytes.1 c.if-n-eq0.true (omega (arith, c.read.type_inv)) in
    on_ok_weaker c.write.result (λ wrote. left_over c.args.cut c.args.kept.now.counted c.loop-read.kept c.finish.new.self (coming c.args.kept.now.line.items (g.R.Source.rest c.args.reader.now)) (talk c.args.kept.now) rest rest' c.deref.result.now (g.W.Sink.contents c.args.writer.now) (g.W.Sink.contents c.loop-read.writer) (g.W.Sink.contents c.write.new.writer) c.loop-read.invariant.told read end (c.deref.ensures.value ∙ c.in_ok-text.ensures.answers) wrote) c.write.ensures.told

pub returns-then-n-eq0-clause-front : goal.returns-then-n-eq0-clause-front
returns-then-n-eq0-clause-front g c =
    let rest = g.R.Source.rest c.loop-read.reader in
    let rest' = g.R.Source.rest c.read.new.self in
    let read : Consumes rest rest' [] = subst (λ n. Consumes rest rest' (take n c.read.new.buffer)) c.if-n-eq0.true c.in-Ok.ensures.bytes.0 in
    let end : IsAtEnd rest' = c.in-Ok.ensures.bytes.1 c.if-n-eq0.true (omega (arith, c.read.type_inv)) in
    on_err_weaker c.write.result (λ wrote. left_over_front c.args.cut c.args.kept.now.counted c.loop-read.kept c.finish.new.self (coming c.args.kept.now.line.items (g.R.Source.rest c.args.reader.now)) (talk c.args.kept.now) rest rest' c.deref.result.now (g.W.Sink.contents c.args.writer.now) (g.W.Sink.contents c.loop-read.writer) (g.W.Sink.contents c.write.new.writer) c.loop-read.invariant.told read end (c.deref.ensures.value ∙ c.in_ok-text.ensures.answers) wrote) c.write.ensures.front

pub returns-in_err-write-clause-front : goal.returns-in_err-write-clause-front
returns-in_err-write-clause-front g c =
    let before = g.W.Sink.contents c.args.writer.now in
    let now = g.W.Sink.contents c.loop-read.writer in
    let after = g.W.Sink.contents c.write-in-loop-read.new.writer in
    let front : AppendsFront now after c.in_ok-text-2.text.items = subst (AppendsFront now after) c.deref-in-loop-read.ensures.value c.in_err-write.ensures.front in
    on_err c.from_residual-in_err-write.result (left_taken_front c.args.cut c.args.kept.now.counted c.loop-read.kept c.take.new.self (coming c.args.kept.now.line.items (g.R.Source.rest c.args.reader.now)) (talk c.args.kept.now) (g.R.Source.rest c.loop-read.reader) (g.R.Source.rest c.read.new.self) (take c.in-Ok.n c.read.new.buffer) c.in_ok-text-2.text.items before now after c.loop-read.invariant.told c.in-Ok.ensures.bytes.0 c.in_ok-text-2.ensures.takes front)

pub loop-read-preserved : goal.loop-read-preserved
loop-read-preserved g c =
    let first = talk c.args.kept.now in
    let come = coming c.args.kept.now.line.items (g.R.Source.rest c.args.reader.now) in
    let rest' = g.R.Source.rest c.read.new.self in
    let before = g.W.Sink.contents c.args.writer.now in
    let now = g.W.Sink.contents c.loop-read.writer in
    let after = g.W.Sink.contents c.write-in-loop-read.new.writer in
    let wrote : Appends now after c.in_ok-text-2.text.items = subst (Appends now after) c.deref-in-loop-read.ensures.value c.in_ok-write.ensures.told in
    let told = left_taken c.args.cut c.args.kept.now.counted c.loop-read.kept c.take.new.self come first (g.R.Source.rest c.loop-read.reader) rest' (take c.in-Ok.n c.read.new.buffer) c.in_ok-text-2.text.items before now after c.loop-read.invariant.told c.in-Ok.ensures.bytes.0 c.in_ok-text-2.ensures.takes wrote in
    record {
      ready = c.shorten.ensures.ready;
      asked = omega (arith, c.read.ensures.once, c.loop-read.invariant.asked);
      told = subst (λ line. TellsLeft c.args.cut c.args.kept.now.counted come first (coming line.items rest') (talk c.shorten.new.self) before after) (sym c.shorten.ensures.same.2)
          (subst (λ l. TellsLeft c.args.cut c.args.kept.now.counted come first (coming c.take.new.self.line.items rest') l before after) (sym c.shorten.ensures.same.1) told);
    }

pub returns-in_err-shorten-clause-front : goal.returns-in_err-shorten-clause-front
returns-in_err-shorten-clause-front g c =
    let first = talk c.args.kept.now in
    let come = coming c.args.kept.now.line.items (g.R.Source.rest c.args.reader.now) in
    let rest' = g.R.Source.rest c.read.new.self in
    let before = g.W.Sink.contents c.args.writer.now in
    let now = g.W.Sink.contents c.loop-read.writer in
    let after = g.W.Sink.contents c.write-in-loop-read.new.writer in
    let wrote : Appends now after c.in_ok-text-2.text.items = subst (Appends now after) c.deref-in-loop-read.ensures.value c.in_ok-write.ensures.told in
    let told = left_taken c.args.cut c.args.kept.now.counted c.loop-read.kept c.take.new.self come first (g.R.Source.rest c.loop-read.reader) rest' (take c.in-Ok.n c.read.new.buffer) c.in_ok-text-2.text.items before now after c.loop-read.invariant.told c.in-Ok.ensures.bytes.0 c.in_ok-text-2.ensures.takes wrote in
    on_err c.from_residual-in_err-shorten.result (left_front c.args.cut c.args.kept.now.counted come (coming c.take.new.self.line.items rest') first (talk c.take.new.self) before after told)
