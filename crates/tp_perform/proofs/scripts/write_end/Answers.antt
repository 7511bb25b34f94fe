use Rattle.std.proofs.Common.{◌∙◌, ◌++◌, ap, map, subst}
use Rattle.std.specs.Io.KnownBytes.{Appends}
use Rattle.tp_report.proofs.Devices.{always_err, front_none}
use Rattle.tp_perform.specs.Performed.{closing_text, finals_text}
use Rattle.tp_perform.proofs.scripts.write_end.Goals as goal

pub returns-in_err-add_end-clause-front : goal.returns-in_err-add_end-clause-front
returns-in_err-add_end-clause-front g c = always_err c.from_residual.result (front_none _ _)

pub returns-in-Ok-clause-told : goal.returns-in-Ok-clause-told
returns-in-Ok-clause-told g c =
    subst (Appends (g.W.Sink.contents c.args.writer.now) (g.W.Sink.contents c.write_all.new.sink)) (c.as_slice.ensures.value ∙ (c.in_ok-add_end.ensures.told ∙ ap (λ before. before ++ (finals_text c.args.script.now (map (λ b. (goal.Server-dyn g (b.vtable, b.value)).registers b.value) c.args.servers.now) ++ closing_text c.args.account)) c.new-told.ensures.items)) c.in-Ok.ensures.ok
