use Rattle.std.proofs.Common.{◌∙◌, None, Some, ap, length, refl, subst, sym}
use Rattle.std.specs.Vec.{with_items}
use Rattle.tp_perform.specs.Performed.{CountsAtEnd}
use Rattle.tp_perform.proofs.ActLemmas.{held_of, refilled}
use Rattle.tp_perform.proofs.CloseLemmas.{counted_units, counted_leads, counted_ready}
use Rattle.tp_perform.proofs.StandLemmas.{leads_none, leads_so}
use Rattle.tp_perform.proofs.closing.take_account.Goals as goal

pub returns-then-not-is_asked-clause-counts : goal.returns-then-not-is_asked-clause-counts
returns-then-not-is_asked-clause-counts g c =
    leads_none (λ b. (goal.Server-dyn g (b.vtable, b.value)).behaviour b.value) (λ b. (goal.Server-dyn g (b.vtable, b.value)).registers b.value) (λ b. (goal.Server-dyn g (b.vtable, b.value)).pending b.value) c.args.head.now c.args.held.now _ c.requires.held (λ l. subst (λ b. CountsAtEnd b l None l) (sym c.if-not-is_asked.true) (refl, refl))

pub returns-clause-held : goal.returns-clause-held
returns-clause-held g c =
    let e = c.account.ensures in
    let counts = rw c.as_mut_slice.ensures.value at e.account in
    let long = c.account.auto.passes ∙ ap length c.as_mut_slice.ensures.value in
    held_of (λ b. (goal.Server-dyn g (b.vtable, b.value)).behaviour b.value) (λ b. (goal.Server-dyn g (b.vtable, b.value)).registers b.value) (λ b. (goal.Server-dyn g (b.vtable, b.value)).pending b.value) c.args.head.now c.args.held.now (record { managed = record { manager = c.args.held.now.managed.manager; keeper = c.account.new.self; passes = with_items c.args.held.now.managed.passes c.account.new.passes }; servers = c.args.held.now.servers; places = c.args.held.now.places }) c.account.new.passes c.args.held.now.servers.items c.args.held.now.places.items c.requires.held refl (refilled _ _ _ c.args.held.now.managed.passes.ok.0 long) refl refl e.keeper.0 e.all
    (counted_ready (λ b. (goal.Server-dyn g (b.vtable, b.value)).behaviour b.value) (λ b. (goal.Server-dyn g (b.vtable, b.value)).registers b.value) (λ b. (goal.Server-dyn g (b.vtable, b.value)).pending b.value) c.args.head.now c.args.held.now c.account.new.self c.account.new.passes c.account.result c.requires.held counts e.all e.keeper.1 e.own)
    long refl
    (counted_units (λ b. (goal.Server-dyn g (b.vtable, b.value)).behaviour b.value) (λ b. (goal.Server-dyn g (b.vtable, b.value)).registers b.value) (λ b. (goal.Server-dyn g (b.vtable, b.value)).pending b.value) c.args.head.now c.args.held.now c.account.new.self c.account.new.passes c.account.result c.requires.held counts e.all e.keeper.1 e.own)

pub returns-clause-counts : goal.returns-clause-counts
returns-clause-counts g c =
    let e = c.account.ensures in
    let counts = rw c.as_mut_slice.ensures.value at e.account in
    let long = c.account.auto.passes ∙ ap length c.as_mut_slice.ensures.value in
    leads_so (λ b. (goal.Server-dyn g (b.vtable, b.value)).behaviour b.value) (λ b. (goal.Server-dyn g (b.vtable, b.value)).registers b.value) (λ b. (goal.Server-dyn g (b.vtable, b.value)).pending b.value) _ _ c.args.held.now (record { managed = record { manager = c.args.held.now.managed.manager; keeper = c.account.new.self; passes = with_items c.args.held.now.managed.passes c.account.new.passes }; servers = c.args.held.now.servers; places = c.args.held.now.places }) (λ a b counted. subst (λ z. CountsAtEnd z a (Some c.account.result) b) (sym c.if-not-is_asked.false) counted)
    (counted_leads (λ b. (goal.Server-dyn g (b.vtable, b.value)).behaviour b.value) (λ b. (goal.Server-dyn g (b.vtable, b.value)).registers b.value) (λ b. (goal.Server-dyn g (b.vtable, b.value)).pending b.value) c.args.head.now c.args.held.now c.account.new.self c.account.new.passes c.account.result c.requires.held counts e.all e.keeper.1 e.own (record { managed = record { manager = c.args.held.now.managed.manager; keeper = c.account.new.self; passes = with_items c.args.held.now.managed.passes c.account.new.passes }; servers = c.args.held.now.servers; places = c.args.held.now.places }) refl refl (refilled _ _ _ c.args.held.now.managed.passes.ok.0 long) refl refl)
