use Rattle.std.proofs.Common.{◌∙◌, ap, length, refl}
use Rattle.std.specs.Vec.{with_items}
use Rattle.tp_perform.proofs.ActLemmas.{gather_units, gather_leads, gather_ready, held_of, refilled}
use Rattle.tp_perform.proofs.commands.gather.Goals as goal

pub returns-clause-held : goal.returns-clause-held
returns-clause-held g c =
    let e = c.gather.ensures in
    let gathers = rw c.as_mut_slice.ensures.value at e.gathers in
    let long = c.gather.auto.passes ∙ ap length c.as_mut_slice.ensures.value in
    held_of (λ b. (goal.Server-dyn g (b.vtable, b.value)).behaviour b.value) (λ b. (goal.Server-dyn g (b.vtable, b.value)).registers b.value) (λ b. (goal.Server-dyn g (b.vtable, b.value)).pending b.value) c.args.head.now c.args.held.now (record { managed = record { manager = c.args.held.now.managed.manager; keeper = c.gather.new.self; passes = with_items c.args.held.now.managed.passes c.gather.new.passes }; servers = c.args.held.now.servers; places = c.args.held.now.places }) c.gather.new.passes c.args.held.now.servers.items c.args.held.now.places.items c.requires.held refl (refilled _ _ _ c.args.held.now.managed.passes.ok.0 long) refl refl e.keeper.0 e.all
    (gather_ready (λ b. (goal.Server-dyn g (b.vtable, b.value)).behaviour b.value) (λ b. (goal.Server-dyn g (b.vtable, b.value)).registers b.value) (λ b. (goal.Server-dyn g (b.vtable, b.value)).pending b.value) c.args.head.now c.args.held.now c.gather.new.self c.gather.new.passes c.requires.held gathers e.all e.keeper.1 e.own)
    long refl
    (gather_units (λ b. (goal.Server-dyn g (b.vtable, b.value)).behaviour b.value) (λ b. (goal.Server-dyn g (b.vtable, b.value)).registers b.value) (λ b. (goal.Server-dyn g (b.vtable, b.value)).pending b.value) c.args.head.now c.args.held.now c.gather.new.self c.gather.new.passes c.requires.held gathers e.all e.keeper.1 e.own)

pub returns-clause-gathers : goal.returns-clause-gathers
returns-clause-gathers g c =
    let e = c.gather.ensures in
    let gathers = rw c.as_mut_slice.ensures.value at e.gathers in
    let long = c.gather.auto.passes ∙ ap length c.as_mut_slice.ensures.value in
    gather_leads (λ b. (goal.Server-dyn g (b.vtable, b.value)).behaviour b.value) (λ b. (goal.Server-dyn g (b.vtable, b.value)).registers b.value) (λ b. (goal.Server-dyn g (b.vtable, b.value)).pending b.value) c.args.head.now c.args.held.now c.gather.new.self c.gather.new.passes c.requires.held gathers e.all e.keeper.1 e.own (record { managed = record { manager = c.args.held.now.managed.manager; keeper = c.gather.new.self; passes = with_items c.args.held.now.managed.passes c.gather.new.passes }; servers = c.args.held.now.servers; places = c.args.held.now.places }) refl refl (refilled _ _ _ c.args.held.now.managed.passes.ok.0 long) refl refl
