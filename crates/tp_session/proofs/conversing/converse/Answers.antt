use Rattle.std.proofs.lemmas.Result.{on_err_weaker, on_ok_weaker}
use Rattle.tp_report.proofs.Devices.{Appends-none, always_err}
use Rattle.tp_session.proofs.ConverseLemmas.{come_all, conversed, conversed_front, lines_front, nothing_front}
use Rattle.tp_session.proofs.conversing.converse.Goals as goal

pub returns-in-Err-clause-front : goal.returns-in-Err-clause-front
returns-in-Err-clause-front g c =
    nothing_front (g.W.Wire.rest c.args.wire.now) _ _ (Appends-none (g.W.Wire.contents c.args.wire.now))

pub returns-in_err-attend-clause-front : goal.returns-in_err-attend-clause-front
returns-in_err-attend-clause-front g c =
    let all = come_all c.new-lines.result (g.W.Wire.rest c.args.wire.now) c.new-lines.ensures.unused in
    let front = rw (all, c.new-lines.ensures.untold, c.in-Ok.ensures) at c.in_err-attend.ensures.front in
    always_err c.from_residual.result (lines_front (g.W.Wire.rest c.args.wire.now) (g.W.Wire.contents c.args.wire.now) (g.W.Wire.contents c.attend.new.wire) front)

pub returns-clause-conversed : goal.returns-clause-conversed
returns-clause-conversed g c =
    let all = come_all c.new-lines.result (g.W.Wire.rest c.args.wire.now) c.new-lines.ensures.unused in
    let attends = rw (all, c.new-lines.ensures.untold, c.in-Ok.ensures) at c.in_ok-attend.ensures.attends in
    on_ok_weaker c.finish.result
    (λ wrote. conversed (g.W.Wire.rest c.args.wire.now) (g.W.Wire.contents c.args.wire.now) (g.W.Wire.contents c.attend.new.wire) (g.W.Wire.contents c.finish.new.wire) c.attend.new.session c.attend.new.lines.answers.items attends wrote)
    c.finish.ensures.told

pub returns-clause-front : goal.returns-clause-front
returns-clause-front g c =
    let all = come_all c.new-lines.result (g.W.Wire.rest c.args.wire.now) c.new-lines.ensures.unused in
    let attends = rw (all, c.new-lines.ensures.untold, c.in-Ok.ensures) at c.in_ok-attend.ensures.attends in
    on_err_weaker c.finish.result
    (λ wrote. conversed_front (g.W.Wire.rest c.args.wire.now) (g.W.Wire.contents c.args.wire.now) (g.W.Wire.contents c.attend.new.wire) (g.W.Wire.contents c.finish.new.wire) c.attend.new.session c.attend.new.lines.answers.items attends wrote)
    c.finish.ensures.front
