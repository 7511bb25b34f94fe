use Rattle.std.proofs.Common.{length, [], map, arith, ap, refl, sym}
use Rattle.std.specs.Prelude.{string_bytes}
use Rattle.tp_script.specs.Script.{script_view, server_view}
use Rattle.tp_reference.specs.PlainRunning.{state}
use Rattle.tp_reference.specs.PlainReport.{report_of, reports}
use Rattle.tp_report.proofs.Devices.{front_of, written_line, front_more, front_last, written_last, always_err, Appends-none}
use Rattle.tp_reference.proofs.ReportLemmas.{reports_more, reports_done}
use Rattle.tp_reference.proofs.plain_report.write_plain_report.Goals as goal

pub returns-in_err-run-clause-front : goal.returns-in_err-run-clause-front
returns-in_err-run-clause-front g c = always_err c.from_residual.result (front_of _ _ _ (report_of (script_view c.args.script.now)) ([], refl, Appends-none (g.W.Sink.contents c.args.sink.now)))

pub loop-act-init : goal.loop-act-init
loop-act-init g c = record {
  written = ([], ap (reports (map server_view c.args.script.now.head.servers.items) c.args.script.now.account c.args.script.now.acts.items) (sym c.in_ok-run.ensures.begins), Appends-none (g.W.Sink.contents c.args.sink.now));
  ready = c.in_ok-run.ensures.ready;
}

pub returns-in_err-line-clause-front : goal.returns-in_err-line-clause-front
returns-in_err-line-clause-front g c = always_err c.from_residual-in_err-line.result (front_of _ _ _ _ c.loop-act.invariant.written)

pub returns-in_err-write_all-clause-front : goal.returns-in_err-write_all-clause-front
returns-in_err-write_all-clause-front g c =
    let step = rw c.deref-act-items.ensures.value at c.in_ok-line.ensures.step in
    let more = reports_more (map server_view c.args.script.now.head.servers.items) c.args.script.now.account c.args.script.now.acts.items c.loop-act.act-index _ (state c.loop-act.run) (state c.act.new.self) (string_bytes c.in_ok-line.line) (omega (arith, ap length c.deref-act-items.ensures.value)) step in
    let here = rw more at c.loop-act.invariant.written in
    always_err c.from_residual-in_err-write_all.result (front_more _ (g.W.Sink.contents c.loop-act.sink) _ _ (string_bytes c.in_ok-line.line) _ here (rw c.as_bytes.ensures.value at c.in_err-write_all.ensures.err))

pub loop-act-preserved : goal.loop-act-preserved
loop-act-preserved g c =
    let step = rw c.deref-act-items.ensures.value at c.in_ok-line.ensures.step in
    let more = reports_more (map server_view c.args.script.now.head.servers.items) c.args.script.now.account c.args.script.now.acts.items c.loop-act.act-index _ (state c.loop-act.run) (state c.act.new.self) (string_bytes c.in_ok-line.line) (omega (arith, ap length c.deref-act-items.ensures.value)) step in
    let here = rw more at c.loop-act.invariant.written in
    record {
      written = written_line _ (g.W.Sink.contents c.loop-act.sink) _ _ (string_bytes c.in_ok-line.line) _ here (rw c.as_bytes.ensures.value at c.in_ok-write_all.ensures.ok);
      ready = c.in_ok-line.ensures.ready;
    }

pub act-requires-clause-ready : goal.act-requires-clause-ready
act-requires-clause-ready g c = c.loop-act.invariant.ready

pub returns-in_err-last-clause-front : goal.returns-in_err-last-clause-front
returns-in_err-last-clause-front g c = always_err c.from_residual-in_err-last.result (front_of _ _ _ _ c.loop-act.invariant.written)

pub returns-in_err-write_all-2-clause-front : goal.returns-in_err-write_all-2-clause-front
returns-in_err-write_all-2-clause-front g c =
    let done = reports_done (map server_view c.args.script.now.head.servers.items) c.args.script.now.account c.args.script.now.acts.items c.loop-act.act-index (state c.loop-act.run) (omega (arith, ap length c.deref-act-items.ensures.value)) in
    let last = rw c.as_slice.ensures.value at c.in_ok-last.ensures in
    let here = rw (done, ← last) at c.loop-act.invariant.written in
    always_err c.from_residual-in_err-write_all-2.result (front_last _ (g.W.Sink.contents c.loop-act.sink) _ _ (string_bytes c.in_ok-last.last) here (rw c.as_bytes-2.ensures.value at c.in_err-write_all-2.ensures.err))

pub returns-clause-done : goal.returns-clause-done
returns-clause-done g c =
    let done = reports_done (map server_view c.args.script.now.head.servers.items) c.args.script.now.account c.args.script.now.acts.items c.loop-act.act-index (state c.loop-act.run) (omega (arith, ap length c.deref-act-items.ensures.value)) in
    let last = rw c.as_slice.ensures.value at c.in_ok-last.ensures in
    let here = rw (done, ← last) at c.loop-act.invariant.written in
    written_last _ (g.W.Sink.contents c.loop-act.sink) _ _ (string_bytes c.in_ok-last.last) here (rw c.as_bytes-2.ensures.value at c.in_ok-write_all-2.ensures.ok)
