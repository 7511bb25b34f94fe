use Rattle.std.proofs.Common.{◌≡◌, ◌∙◌, ◌+◌, ◌<◌, [], ◌++◌, ap, arith, get_or, length, refl, subst, sym}
use Rattle.std.specs.Prelude.{string_bytes}
use Rattle.tp_report.proofs.Devices.{Appends-none, Appends-then, front_then}
use Rattle.tp_model.specs.declared.types.Limits.{Limits}
use Rattle.tp_commands.proofs.Alls.{racing_next}
use Rattle.tp_commands.proofs.Shows.{sum_next}
use Rattle.tp_script.specs.Passes.{racers}
use Rattle.tp_script.specs.declared.head.Act.{Act}
use Rattle.tp_script.specs.declared.head.Act.TheVariants as acts
use Rattle.tp_script.specs.declared.script.ClientAct.TheVariants.{Submit}
use Rattle.tp_script.specs.declared.script.Command.TheVariants.{Client}
use Rattle.tp_perform.proofs.LeftLemmas.{reach_lead, reach_then}
use Rattle.tp_perform.proofs.StandLemmas.{begins_so, leads_none, leads_then}
use Rattle.tp_perform.proofs.PerformLemmas.{acts_done, acts_next}
use Rattle.tp_perform.proofs.performing.perform_all.Goals as goal

-- what stands for an act where there is none
abbrev no_act : Act
no_act = acts.Command (Client (Submit 0 []))

pub loop-act-init : goal.loop-act-init
loop-act-init g c = record {
  held = c.requires.held;
  limits = refl;
  raced = refl;
  left = omega arith;
  told = leads_none (λ b. (goal.Server-dyn g (b.vtable, b.value)).behaviour b.value) (λ b. (goal.Server-dyn g (b.vtable, b.value)).registers b.value) (λ b. (goal.Server-dyn g (b.vtable, b.value)).pending b.value) c.args.script.now.head c.args.held.now _ c.requires.held (λ l. ([], (refl, refl), Appends-none (g.W.Sink.contents c.args.writer.now)));
}

pub act_told-requires-clause-room : goal.act_told-requires-clause-room
act_told-requires-clause-room g c =
    let i = c.loop-act.invariant in
    let within : c.loop-act.act-index < length c.args.script.now.acts.items = omega (arith, ap length c.deref-act-items.ensures.value) in
    let item : get_or c.deref-act-items.result.now c.loop-act.act-index no_act ≡ get_or c.args.script.now.acts.items c.loop-act.act-index no_act = ap (λ xs. get_or xs c.loop-act.act-index no_act) c.deref-act-items.ensures.value in
    let next = racing_next c.args.script.now.acts.items c.loop-act.act-index no_act within in
    let parts = ap (λ (l : Limits). l.parts) i.limits in
    let needed = ap racers item in
    omega (arith, next, i.left, parts, i.held.managed.parts, c.requires.held.managed.parts, i.held.each_server, c.requires.room, needed)

pub returns-in_err-line-clause-went : goal.returns-in_err-line-clause-went
returns-in_err-line-clause-went g c =
    let i = c.loop-act.invariant in
    let within : c.loop-act.act-index < length c.args.script.now.acts.items = omega (arith, ap length c.deref-act-items.ensures.value) in
    reach_then (λ b. (goal.Server-dyn g (b.vtable, b.value)).behaviour b.value) (λ b. (goal.Server-dyn g (b.vtable, b.value)).registers b.value) (λ b. (goal.Server-dyn g (b.vtable, b.value)).pending b.value) c.args.held.now c.loop-act.held c.act_told.new.held _ _ _
    (λ a m b so_far one. acts_done c.args.script.now c.loop-act.act-index c.loop-act.raced _ a m b so_far.0 within i.raced so_far.1 (rw c.deref-act-items.ensures.value at one))
    i.told c.in_err-line.ensures.went

pub returns-in-Err-clause-went : goal.returns-in-Err-clause-went
returns-in-Err-clause-went g c =
    let i = c.loop-act.invariant in
    let within : c.loop-act.act-index < length c.args.script.now.acts.items = omega (arith, ap length c.deref-act-items.ensures.value) in
    reach_lead (λ b. (goal.Server-dyn g (b.vtable, b.value)).behaviour b.value) (λ b. (goal.Server-dyn g (b.vtable, b.value)).registers b.value) (λ b. (goal.Server-dyn g (b.vtable, b.value)).pending b.value) c.args.script.now.head c.args.held.now c.act_told.new.held _ _ c.in_ok-line.ensures.held (λ a b done. done)
    (leads_then (λ b. (goal.Server-dyn g (b.vtable, b.value)).behaviour b.value) (λ b. (goal.Server-dyn g (b.vtable, b.value)).registers b.value) (λ b. (goal.Server-dyn g (b.vtable, b.value)).pending b.value) _ _ _ c.args.held.now c.loop-act.held c.act_told.new.held
    (λ a m b so_far one. record { many = c.loop-act.act-index + 1; text = so_far.0 ++ string_bytes c.in_ok-line.line; acts = acts_next c.args.script.now.head c.args.script.now.acts.items c.loop-act.act-index c.loop-act.raced _ a m b so_far.0 (string_bytes c.in_ok-line.line) within i.raced so_far.1 (rw c.deref-act-items.ensures.value at one); told = tt })
    i.told c.in_ok-line.ensures.tells)

pub returns-in-Err-clause-front : goal.returns-in-Err-clause-front
returns-in-Err-clause-front g c =
    let i = c.loop-act.invariant in
    let within : c.loop-act.act-index < length c.args.script.now.acts.items = omega (arith, ap length c.deref-act-items.ensures.value) in
    begins_so (λ b. (goal.Server-dyn g (b.vtable, b.value)).behaviour b.value) (λ b. (goal.Server-dyn g (b.vtable, b.value)).registers b.value) (λ b. (goal.Server-dyn g (b.vtable, b.value)).pending b.value) _ _ c.args.held.now c.act_told.new.held (λ a b done. done)
    (leads_then (λ b. (goal.Server-dyn g (b.vtable, b.value)).behaviour b.value) (λ b. (goal.Server-dyn g (b.vtable, b.value)).registers b.value) (λ b. (goal.Server-dyn g (b.vtable, b.value)).pending b.value) _ _ _ c.args.held.now c.loop-act.held c.act_told.new.held
    (λ a m b so_far one. record { many = c.loop-act.act-index + 1; text = so_far.0 ++ string_bytes c.in_ok-line.line; acts = acts_next c.args.script.now.head c.args.script.now.acts.items c.loop-act.act-index c.loop-act.raced _ a m b so_far.0 (string_bytes c.in_ok-line.line) within i.raced so_far.1 (rw c.deref-act-items.ensures.value at one); told = front_then (g.W.Sink.contents c.args.writer.now) (g.W.Sink.contents c.loop-act.writer) (g.W.Sink.contents c.write_all.new.sink) so_far.0 (string_bytes c.in_ok-line.line) so_far.2 (rw c.as_bytes.ensures.value at c.in-Err.ensures.err) })
    i.told c.in_ok-line.ensures.tells)

pub loop-act-preserved : goal.loop-act-preserved
loop-act-preserved g c =
    let i = c.loop-act.invariant in
    let within : c.loop-act.act-index < length c.args.script.now.acts.items = omega (arith, ap length c.deref-act-items.ensures.value) in
    let item : get_or c.deref-act-items.result.now c.loop-act.act-index no_act ≡ get_or c.args.script.now.acts.items c.loop-act.act-index no_act = ap (λ xs. get_or xs c.loop-act.act-index no_act) c.deref-act-items.ensures.value in
    let tells = c.in_ok-line.ensures.tells in
    let next = racing_next c.args.script.now.acts.items c.loop-act.act-index no_act within in
    let more = sum_next racers c.args.script.now.acts.items c.loop-act.act-index no_act within in
    let needed = ap racers item in
    record {
      held = c.in_ok-line.ensures.held;
      limits = c.in_ok-line.ensures.limits ∙ i.limits;
      raced = omega (arith, more, needed, c.racers.ensures, c.from-raced.ensures, i.raced);
      left = omega (arith, next, needed, c.racers.ensures, c.from-raced.ensures, i.left);
      told = leads_then (λ b. (goal.Server-dyn g (b.vtable, b.value)).behaviour b.value) (λ b. (goal.Server-dyn g (b.vtable, b.value)).registers b.value) (λ b. (goal.Server-dyn g (b.vtable, b.value)).pending b.value) _ _ _ c.args.held.now c.loop-act.held c.act_told.new.held
          (λ a m b so_far one. (
            so_far.0 ++ string_bytes c.in_ok-line.line,
            acts_next c.args.script.now.head c.args.script.now.acts.items c.loop-act.act-index c.loop-act.raced _ a m b so_far.0 (string_bytes c.in_ok-line.line) within i.raced so_far.1 (rw c.deref-act-items.ensures.value at one),
            Appends-then (g.W.Sink.contents c.args.writer.now) (g.W.Sink.contents c.loop-act.writer) (g.W.Sink.contents c.write_all.new.sink) so_far.0 (string_bytes c.in_ok-line.line) so_far.2 (rw c.as_bytes.ensures.value at c.in-Ok.ensures.ok),
          ))
          i.told tells;
    }

pub returns-clause-went : goal.returns-clause-went
returns-clause-went g c =
    reach_lead (λ b. (goal.Server-dyn g (b.vtable, b.value)).behaviour b.value) (λ b. (goal.Server-dyn g (b.vtable, b.value)).registers b.value) (λ b. (goal.Server-dyn g (b.vtable, b.value)).pending b.value) c.args.script.now.head c.args.held.now c.loop-act.held _ _ c.loop-act.invariant.held (λ a b so_far. record { many = c.loop-act.act-index; text = so_far.0; acts = so_far.1; told = tt }) c.loop-act.invariant.told
