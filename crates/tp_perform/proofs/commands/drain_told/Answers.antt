use Rattle.std.proofs.Common.{◌∙◌, ap, length, refl}
use Rattle.std.specs.Vec.{with_items}
use Rattle.std.specs.List.{refill}
use Rattle.std.specs.Prelude.{string_bytes}
use Rattle.std.proofs.lemmas.Result.{IfOk-weaker}
use Rattle.tp_commands.specs.Drains.{Drains}
use Rattle.tp_commands.specs.Told.{units_held}
use Rattle.tp_perform.proofs.ActLemmas.{at_of, held_of, refilled, scene_leads}
use Rattle.tp_perform.proofs.LeftLemmas.{began_refilled}
use Rattle.tp_perform.proofs.commands.drain_told.Goals as goal

pub returns-clause-held : goal.returns-clause-held
returns-clause-held g c =
    let e = c.drain_line.ensures in
    let n = c.drain_line.new in
    let ps = c.drain_line.auto.passes ∙ ap length c.as_mut_slice.ensures.value in
    let ss = c.drain_line.auto.servers ∙ ap length c.as_mut_slice-2.ensures.value in
    let os = c.drain_line.auto.places ∙ ap length c.as_mut_slice-3.ensures.value in
    held_of (λ b. (goal.Server-dyn g (b.vtable, b.value)).behaviour b.value) (λ b. (goal.Server-dyn g (b.vtable, b.value)).registers b.value) (λ b. (goal.Server-dyn g (b.vtable, b.value)).pending b.value) c.args.head.now c.args.held.now (record { managed = record { manager = c.args.held.now.managed.manager; keeper = c.drain_line.new.keeper; passes = with_items c.args.held.now.managed.passes c.drain_line.new.passes }; servers = with_items c.args.held.now.servers c.drain_line.new.servers; places = record { items = refill (length c.args.held.now.places.items) c.args.held.now.places.items c.drain_line.new.places } }) n.passes n.servers n.places c.requires.held refl (refilled _ _ _ c.args.held.now.managed.passes.ok.0 ps) (refilled _ _ _ c.args.held.now.servers.ok.0 ss) (refilled _ _ _ refl os) e.keeper e.all e.ready
    ps ss (ap (λ k. units_held k n.passes) ss ∙ (rw (c.as_mut_slice.ensures.value, c.as_mut_slice-2.ensures.value) at e.held))

pub returns-clause-tells : goal.returns-clause-tells
returns-clause-tells g c =
    let n = c.drain_line.new in
    let ps = c.drain_line.auto.passes ∙ ap length c.as_mut_slice.ensures.value in
    let ss = c.drain_line.auto.servers ∙ ap length c.as_mut_slice-2.ensures.value in
    let os = c.drain_line.auto.places ∙ ap length c.as_mut_slice-3.ensures.value in
    IfOk-weaker c.drain_line.result _ _ (λ text t. scene_leads (λ b. (goal.Server-dyn g (b.vtable, b.value)).behaviour b.value) (λ b. (goal.Server-dyn g (b.vtable, b.value)).registers b.value) (λ b. (goal.Server-dyn g (b.vtable, b.value)).pending b.value) (λ m keeper scene keeper' scene'. Drains c.args.order m keeper scene (string_bytes text) keeper' scene') c.args.held.now (record { managed = record { manager = c.args.held.now.managed.manager; keeper = c.drain_line.new.keeper; passes = with_items c.args.held.now.managed.passes c.drain_line.new.passes }; servers = with_items c.args.held.now.servers c.drain_line.new.servers; places = record { items = refill (length c.args.held.now.places.items) c.args.held.now.places.items c.drain_line.new.places } }) refl (
      t.0,
      t.1,
      (rw (c.as_mut_slice.ensures.value, c.as_mut_slice-2.ensures.value, c.as_mut_slice-3.ensures.value) at t.2),
      t.3,
      at_of (λ b. (goal.Server-dyn g (b.vtable, b.value)).behaviour b.value) (λ b. (goal.Server-dyn g (b.vtable, b.value)).registers b.value) (λ b. (goal.Server-dyn g (b.vtable, b.value)).pending b.value) (record { managed = record { manager = c.args.held.now.managed.manager; keeper = c.drain_line.new.keeper; passes = with_items c.args.held.now.managed.passes c.drain_line.new.passes }; servers = with_items c.args.held.now.servers c.drain_line.new.servers; places = record { items = refill (length c.args.held.now.places.items) c.args.held.now.places.items c.drain_line.new.places } }) n.passes n.servers n.places t.1 (refilled _ _ _ c.args.held.now.managed.passes.ok.0 ps) (refilled _ _ _ c.args.held.now.servers.ok.0 ss) (refilled _ _ _ refl os) t.4,
    )) c.drain_line.ensures.tells

pub returns-clause-began : goal.returns-clause-began
returns-clause-began g c =
    let os = c.drain_line.auto.places ∙ ap length c.as_mut_slice-3.ensures.value in
    began_refilled (λ b. (goal.Server-dyn g (b.vtable, b.value)).behaviour b.value) (λ b. (goal.Server-dyn g (b.vtable, b.value)).registers b.value) (λ b. (goal.Server-dyn g (b.vtable, b.value)).pending b.value) c.args.held.now.places.items c.drain_line.new.places _ (refilled _ _ _ refl os) (rw c.as_mut_slice-3.ensures.value at c.drain_line.ensures.began)
