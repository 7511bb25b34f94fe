use Rattle.std.proofs.Common.{◌≡◌, ◌∙◌, None, arith, length, refl, subst, sym}
use Rattle.tp_manager.specs.Shown.{PassShown}
use Rattle.tp_commands.specs.Rollover.{IsUnrolled}
use Rattle.tp_commands.specs.Places.{workers}
use Rattle.tp_commands.proofs.Lies.{lie_servers}
use Rattle.tp_commands.specs.Told.{AreReady}
use Rattle.tp_commands.proofs.Rollovers.{all_clear, desks_free, gathers_of, held_refused, own_of, ready_again, ready_refused, refused, rolled, stands_refused, unrolled_in}
use Rattle.tp_commands.proofs.rollover.roll_over.Goals as goal

pub returns-in-Ok-clause-ready : goal.returns-in-Ok-clause-ready
returns-in-Ok-clause-ready g c =
    ready_again (λ b. (goal.Server-dyn g (b.vtable, b.value)).behaviour b.value) (λ b. (goal.Server-dyn g (b.vtable, b.value)).registers b.value) (λ b. (goal.Server-dyn g (b.vtable, b.value)).pending b.value) c.args.managed.now c.go_on.new.managed c.in-Ok.moved.items c.args.servers.now c.args.places.now c.begin_all_again.new.places c.requires.managed c.in-Ok.ensures.managed c.in-Ok.ensures.moved c.in-Ok.ensures.idle c.in-Ok.ensures.free c.requires.ready c.requires.enough
    (rw c.deref.ensures.value at c.begin_all_again.ensures.lie) (rw c.deref.ensures.value at c.begin_all_again.ensures.began) c.begin_all_again.ensures.dropped

pub returns-in-Ok-clause-rolled : goal.returns-in-Ok-clause-rolled
returns-in-Ok-clause-rolled g c =
    rolled (λ b. (goal.Server-dyn g (b.vtable, b.value)).behaviour b.value) (λ b. (goal.Server-dyn g (b.vtable, b.value)).registers b.value) (λ b. (goal.Server-dyn g (b.vtable, b.value)).pending b.value) c.args.managed.now c.go_on.new.managed c.in-Ok.moved.items c.args.servers.now c.args.places.now c.begin_all_again.new.places c.requires.managed c.in-Ok.ensures.managed c.in-Ok.ensures.moved c.in-Ok.ensures.idle c.in-Ok.ensures.free c.requires.ready c.requires.enough
    (rw c.deref.ensures.value at c.begin_all_again.ensures.lie) (rw c.deref.ensures.value at c.begin_all_again.ensures.began) c.begin_all_again.ensures.dropped

pub returns-in-Err-clause-held : goal.returns-in-Err-clause-held
returns-in-Err-clause-held g c =
    held_refused (λ b. (goal.Server-dyn g (b.vtable, b.value)).behaviour b.value) (λ b. (goal.Server-dyn g (b.vtable, b.value)).registers b.value) (λ b. (goal.Server-dyn g (b.vtable, b.value)).pending b.value) c.args.managed.now.manager c.args.managed.now.keeper c.go_on.new.managed.keeper c.gather_all.new.managed.keeper c.args.managed.now.passes.items c.go_on.new.managed.passes.items c.gather_all.new.managed.passes.items c.args.servers.now c.args.places.now c.requires.ready
    c.in-Err.ensures.refused.passes (own_of c.args.managed.now c.go_on.new.managed c.in-Err.ensures.managed c.in-Err.ensures.refused.manager) c.in-Err.ensures.refused.given (gathers_of c.args.managed.now c.go_on.new.managed c.gather_all.new.managed c.in-Err.ensures.refused.manager c.gather_all.ensures.gathers) c.gather_all.ensures.managed.all c.gather_all.ensures.given (own_of c.args.managed.now c.gather_all.new.managed c.gather_all.ensures.managed (c.gather_all.ensures.manager ∙ c.in-Err.ensures.refused.manager))
    (length c.args.servers.now)

pub returns-in-Err-clause-ready : goal.returns-in-Err-clause-ready
returns-in-Err-clause-ready g c =
    subst (λ z. AreReady (λ b. (goal.Server-dyn g (b.vtable, b.value)).behaviour b.value) (λ b. (goal.Server-dyn g (b.vtable, b.value)).registers b.value) (λ b. (goal.Server-dyn g (b.vtable, b.value)).pending b.value) z c.gather_all.new.managed.passes.items c.args.servers.now c.args.places.now) (sym (c.gather_all.ensures.manager ∙ c.in-Err.ensures.refused.manager))
    (ready_refused (λ b. (goal.Server-dyn g (b.vtable, b.value)).behaviour b.value) (λ b. (goal.Server-dyn g (b.vtable, b.value)).registers b.value) (λ b. (goal.Server-dyn g (b.vtable, b.value)).pending b.value) c.args.managed.now.manager c.args.managed.now.keeper c.go_on.new.managed.keeper c.gather_all.new.managed.keeper c.args.managed.now.passes.items c.go_on.new.managed.passes.items c.gather_all.new.managed.passes.items c.args.servers.now c.args.places.now c.requires.ready
    c.in-Err.ensures.refused.passes (own_of c.args.managed.now c.go_on.new.managed c.in-Err.ensures.managed c.in-Err.ensures.refused.manager) c.in-Err.ensures.refused.given (gathers_of c.args.managed.now c.go_on.new.managed c.gather_all.new.managed c.in-Err.ensures.refused.manager c.gather_all.ensures.gathers) c.gather_all.ensures.managed.all c.gather_all.ensures.given (own_of c.args.managed.now c.gather_all.new.managed c.gather_all.ensures.managed (c.gather_all.ensures.manager ∙ c.in-Err.ensures.refused.manager)))

pub returns-in-Err-clause-refused : goal.returns-in-Err-clause-refused
returns-in-Err-clause-refused g c =
    let t = refused (λ b. (goal.Server-dyn g (b.vtable, b.value)).behaviour b.value) (λ b. (goal.Server-dyn g (b.vtable, b.value)).registers b.value) (λ b. (goal.Server-dyn g (b.vtable, b.value)).pending b.value) c.args.managed.now.manager c.args.managed.now.keeper c.go_on.new.managed.keeper c.gather_all.new.managed.keeper c.args.managed.now.passes.items c.go_on.new.managed.passes.items c.gather_all.new.managed.passes.items c.args.servers.now c.args.places.now c.requires.ready
    c.in-Err.ensures.refused.passes (own_of c.args.managed.now c.go_on.new.managed c.in-Err.ensures.managed c.in-Err.ensures.refused.manager) c.in-Err.ensures.refused.given (gathers_of c.args.managed.now c.go_on.new.managed c.gather_all.new.managed c.in-Err.ensures.refused.manager c.gather_all.ensures.gathers) c.gather_all.ensures.managed.all c.gather_all.ensures.given (own_of c.args.managed.now c.gather_all.new.managed c.gather_all.ensures.managed (c.gather_all.ensures.manager ∙ c.in-Err.ensures.refused.manager))
    (IsUnrolled c.args.managed.now.manager.limits) c.in-Err.why _ (omega (arith, c.requires.enough))
    (λ a is. unrolled_in (λ b. (goal.Server-dyn g (b.vtable, b.value)).behaviour b.value) (λ b. (goal.Server-dyn g (b.vtable, b.value)).registers b.value) (λ b. (goal.Server-dyn g (b.vtable, b.value)).pending b.value) c.args.managed.now.manager c.args.managed.now.passes.items c.args.servers.now c.args.places.now a c.in-Err.why c.requires.ready c.in-Err.ensures.fault is) refl in
    (t.0, t.1, t.2, stands_refused (IsUnrolled c.args.managed.now.manager.limits) c.args.managed.now c.gather_all.new.managed t.0 t.1 _ (c.gather_all.ensures.manager ∙ c.in-Err.ensures.refused.manager) t.3, t.4)

pub begin_all_again-requires-clause-clear : goal.begin_all_again-requires-clause-clear
begin_all_again-requires-clause-clear g c =
    all_clear (λ b. (goal.Server-dyn g (b.vtable, b.value)).behaviour b.value) (λ b. (goal.Server-dyn g (b.vtable, b.value)).registers b.value) (λ b. (goal.Server-dyn g (b.vtable, b.value)).pending b.value) (workers (length c.args.servers.now) c.args.managed.now.passes.items) c.args.servers.now c.args.places.now c.requires.ready.lie
    (desks_free (length c.args.servers.now) c.args.managed.now.passes.items c.in-Ok.ensures.idle)

pub begin_all_again-requires-clause-free : goal.begin_all_again-requires-clause-free
begin_all_again-requires-clause-free g c =
    rw (sym c.deref.ensures.value) at (desks_free (length c.args.servers.now) c.go_on.new.managed.passes.items c.in-Ok.ensures.free)

pub begin_all_again-requires-clause-as_many : goal.begin_all_again-requires-clause-as_many
begin_all_again-requires-clause-as_many g c =
    lie_servers (λ b. (goal.Server-dyn g (b.vtable, b.value)).behaviour b.value) (λ b. (goal.Server-dyn g (b.vtable, b.value)).registers b.value) (λ b. (goal.Server-dyn g (b.vtable, b.value)).pending b.value) (workers (length c.args.servers.now) c.args.managed.now.passes.items) c.args.servers.now c.args.places.now c.requires.ready.lie
