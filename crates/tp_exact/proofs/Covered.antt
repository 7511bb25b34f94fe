-- Each command and each drain, between two looks together.
use Rattle.std.proofs.Common.{Some, sym, ◌∙◌, ap}
use Rattle.std.specs.Prelude.{slice_get}
use Rattle.tp_report.specs.declared.answer.Answer.TheVariants as answer
use Rattle.tp_report.specs.Answer.{answer_text, line}
use Rattle.tp_script.specs.declared.script.Command.TheVariants as command
use Rattle.tp_commands.specs.Scenes.{Scene}
use Rattle.tp_reference.specs.PlainReport.{balance_answer}
use Rattle.tp_exact.specs.Commands.{ExactCommand, ExactDrain}
use Rattle.tp_exact.specs.Stands.{IsFor}
use Rattle.tp_exact.proofs.Commands.{by_client, idles, summed_so, told_so, zip_at}
use Rattle.tp_exact.proofs.Drains.{drained}
use Rattle.tp_exact.proofs.Places.{at_desk}
use Rattle.tp_exact.proofs.Scenes.{looks, together}

pub exact_command : ExactCommand
exact_command (command.Client act) m head keeper keeper' old done next text s stands t g =
    by_client head.servers m.limits keeper keeper' keeper.seen keeper'.seen old done next s stands t.others.places t.others.racers (looks m keeper keeper' done next g) (together m keeper keeper' done next g) act text t.tells
exact_command (command.Desk at act) m head keeper keeper' old done next text s stands t g =
    at_desk m head act at keeper keeper' keeper.seen keeper'.seen old done next text s stands t (looks m keeper keeper' done next g) (together m keeper keeper' done next g)
exact_command (command.Balance at k) m head keeper keeper' old done next text s stands t g =
    let d = zip_at IsFor old.places s.desks at t.place stands.desks t.there in (
      told_so t.server k t.place d.0 text d.2 t.tells ∙ (ap (λ o. balance_answer (Some t.server) o k) (sym d.1) ∙ ap (λ o. balance_answer o (slice_get s.desks at) k) (sym t.named)),
      idles head.servers m.limits keeper keeper' keeper.seen keeper'.seen old done next s stands (ap (λ (z : Scene). z.places) t.same) (ap (λ (z : Scene). z.racers) t.same) (looks m keeper keeper' done next g) (together m keeper keeper' done next g) (ap (λ (z : Scene). z.client) t.same),
    )
exact_command (command.Sum k) m head keeper keeper' old done next text s stands t g = (
  t.0 ∙ ap (λ n. line (answer_text (answer.Sum k n))) (summed_so k old.places s.desks stands.desks),
  idles head.servers m.limits keeper keeper' keeper.seen keeper'.seen old done next s stands (ap (λ (z : Scene). z.places) t.1) (ap (λ (z : Scene). z.racers) t.1) (looks m keeper keeper' done next g) (together m keeper keeper' done next g) (ap (λ (z : Scene). z.client) t.1),
)

pub exact_drain : ExactDrain
exact_drain order m head keeper keeper' old new text s stands t = drained head.servers order m keeper keeper' old new text s stands t
