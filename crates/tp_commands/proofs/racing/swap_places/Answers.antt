use Rattle.std.proofs.Common.{arith}
use Rattle.tp_manager.specs.Shown.{IsOf}
use Rattle.tp_commands.proofs.Alls.{all_swap}
use Rattle.tp_commands.proofs.Lies.{lie_passes, lie_servers, lie_swap}
use Rattle.tp_commands.proofs.Parts.{shown_swap}
use Rattle.tp_commands.proofs.racing.swap_places.Goals as goal

pub swap-requires-clause-a_in_bounds : goal.swap-requires-clause-a_in_bounds
swap-requires-clause-a_in_bounds g c = let e = lie_passes (λ b. (goal.Server-dyn g (b.vtable, b.value)).behaviour b.value) (λ b. (goal.Server-dyn g (b.vtable, b.value)).registers b.value) (λ b. (goal.Server-dyn g (b.vtable, b.value)).pending b.value) c.args.passes.now c.args.servers.now c.args.places.now c.requires.lie in omega (arith, e, c.requires.within.0, c.requires.within.1)

pub swap-requires-clause-b_in_bounds : goal.swap-requires-clause-b_in_bounds
swap-requires-clause-b_in_bounds g c = let e = lie_passes (λ b. (goal.Server-dyn g (b.vtable, b.value)).behaviour b.value) (λ b. (goal.Server-dyn g (b.vtable, b.value)).registers b.value) (λ b. (goal.Server-dyn g (b.vtable, b.value)).pending b.value) c.args.passes.now c.args.servers.now c.args.places.now c.requires.lie in omega (arith, e, c.requires.within.1)

pub swap-requires-2-clause-a_in_bounds : goal.swap-requires-2-clause-a_in_bounds
swap-requires-2-clause-a_in_bounds g c = let e = lie_servers (λ b. (goal.Server-dyn g (b.vtable, b.value)).behaviour b.value) (λ b. (goal.Server-dyn g (b.vtable, b.value)).registers b.value) (λ b. (goal.Server-dyn g (b.vtable, b.value)).pending b.value) c.args.passes.now c.args.servers.now c.args.places.now c.requires.lie in omega (arith, e, c.requires.within.0, c.requires.within.1)

pub swap-requires-2-clause-b_in_bounds : goal.swap-requires-2-clause-b_in_bounds
swap-requires-2-clause-b_in_bounds g c = let e = lie_servers (λ b. (goal.Server-dyn g (b.vtable, b.value)).behaviour b.value) (λ b. (goal.Server-dyn g (b.vtable, b.value)).registers b.value) (λ b. (goal.Server-dyn g (b.vtable, b.value)).pending b.value) c.args.passes.now c.args.servers.now c.args.places.now c.requires.lie in omega (arith, e, c.requires.within.1)

pub returns-clause-own : goal.returns-clause-own
returns-clause-own g c =
    let e = lie_passes (λ b. (goal.Server-dyn g (b.vtable, b.value)).behaviour b.value) (λ b. (goal.Server-dyn g (b.vtable, b.value)).registers b.value) (λ b. (goal.Server-dyn g (b.vtable, b.value)).pending b.value) c.args.passes.now c.args.servers.now c.args.places.now c.requires.lie in
    rw c.swap.ensures.after (all_swap (IsOf c.args.manager.now) c.args.passes.now c.args.a c.args.b (omega (arith, e, c.requires.within.0, c.requires.within.1)) (omega (arith, e, c.requires.within.1)) c.requires.own)

pub returns-clause-lie : goal.returns-clause-lie
returns-clause-lie g c =
    rw (c.swap.ensures.after, c.swap-2.ensures.after, c.swap-3.ensures.after)
    (lie_swap (λ b. (goal.Server-dyn g (b.vtable, b.value)).behaviour b.value) (λ b. (goal.Server-dyn g (b.vtable, b.value)).registers b.value) (λ b. (goal.Server-dyn g (b.vtable, b.value)).pending b.value) c.args.passes.now c.args.servers.now c.args.places.now c.args.a c.args.b (omega (arith, c.requires.within.0, c.requires.within.1)) c.requires.within.1 c.requires.lie)

pub returns-clause-shown : goal.returns-clause-shown
returns-clause-shown g c =
    rw (c.swap.ensures.after, c.swap-2.ensures.after, c.swap-3.ensures.after)
    (shown_swap (λ b. (goal.Server-dyn g (b.vtable, b.value)).behaviour b.value) (λ b. (goal.Server-dyn g (b.vtable, b.value)).registers b.value) (λ b. (goal.Server-dyn g (b.vtable, b.value)).pending b.value) c.args.passes.now c.args.servers.now c.args.places.now c.args.a c.args.b (omega (arith, c.requires.within.0, c.requires.within.1)) c.requires.within.1 c.requires.lie)
