use Rattle.tp_perform.proofs.StandLemmas.{leads_then}
use Rattle.tp_perform.proofs.commands.command_told.Goals as goal

pub returns-clause-tells : goal.returns-clause-tells
returns-clause-tells g c =
    leads_then (λ b. (goal.Server-dyn g (b.vtable, b.value)).behaviour b.value) (λ b. (goal.Server-dyn g (b.vtable, b.value)).registers b.value) (λ b. (goal.Server-dyn g (b.vtable, b.value)).pending b.value) _ _ _ c.args.held.now c.command_line.new.held c.gather.new.held (λ a m b did gathers. record { done = m; did = did; gathers = gathers }) c.in_ok-text.ensures.does c.gather.ensures.gathers
