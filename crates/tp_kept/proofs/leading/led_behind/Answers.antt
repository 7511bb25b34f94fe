use Rattle.std.proofs.Common.{◌∙◌, ◌==◌, ap, sym, take}
use Rattle.std.specs.List.{starts_with}
use Rattle.std.specs.Prelude.{codes}
use Rattle.tp_session.specs.Session.{lines_step}
use Rattle.tp_wire.specs.Heard.{heard}
use Rattle.tp_kept.proofs.LeadLemmas.{leads_behind}
use Rattle.tp_kept.proofs.leading.led_behind.Goals as goal

pub returns-in-Some-clause-leads : goal.returns-in-Some-clause-leads
returns-in-Some-clause-leads c =
    leads_behind c.args.dumped c.args.counted c.in_ok-many.many c.in-Some.counted (heard c.args.lines.now) (heard c.in_ok-rest.rest.now) c.restore.new.session c.perform.new.session c.in_ok-rest.ensures.parts.0 c.in_ok-rest.ensures.parts.1 (c.in_ok-rest.ensures.restored ∙ ap (λ s. (lines_step 0 (take c.args.dumped (heard c.args.lines.now)) s).1) c.in_ok-session.ensures) c.in_ok-many.ensures.performed c.in_ok-many.ensures.many c.in-Some.ensures.1

pub returns-in-Some-clause-restored : goal.returns-in-Some-clause-restored
returns-in-Some-clause-restored c =
    let dump = take c.args.dumped (heard c.args.lines.now) in
    ap (λ t. starts_with (λ a b. a == b) t (codes "restored ")) (ap (λ s. (lines_step 0 dump s).0) (sym c.in_ok-session.ensures) ∙ (sym c.in_ok-rest.ensures.told ∙ sym c.deref.ensures.value)) ∙ (sym c.starts_with.ensures.value ∙ c.if-not-starts_with.false)
