use Rattle.std.proofs.Common.{[], refl}
use Rattle.tp_commands.proofs.Slices.{own_workers}
use Rattle.tp_perform.proofs.EndLemmas.{all_ended, all_left, desks_lie, free_ended}
use Rattle.tp_perform.proofs.ending.end_passes.Goals as goal

pub end_all-requires-clause-own : goal.end_all-requires-clause-own
end_all-requires-clause-own g c = own_workers (λ b. (goal.Server-dyn g (b.vtable, b.value)).behaviour b.value) (λ b. (goal.Server-dyn g (b.vtable, b.value)).registers b.value) (λ b. (goal.Server-dyn g (b.vtable, b.value)).pending b.value) c.args.manager.now c.args.passes.now c.in-Some._client.now c.in-Some.others.now c.split_at_mut-desks.result.0.now c.split_at_mut-desks.result.1.now [] c.split_at_mut-desks.result.1.now [] c.split_at_mut-desks.result.1.now
    c.args.servers.now c.args.places.now c.in-Some.ensures.cases.0 c.split_at_mut-desks.ensures.value c.split_at_mut-desks.ensures.front_len refl refl c.requires.ready

pub end_all-requires-clause-lie : goal.end_all-requires-clause-lie
end_all-requires-clause-lie g c = desks_lie (λ b. (goal.Server-dyn g (b.vtable, b.value)).behaviour b.value) (λ b. (goal.Server-dyn g (b.vtable, b.value)).registers b.value) (λ b. (goal.Server-dyn g (b.vtable, b.value)).pending b.value) c.args.manager.now c.args.passes.now c.in-Some._client.now c.in-Some.others.now c.split_at_mut-desks.result.0.now c.split_at_mut-desks.result.1.now c.args.servers.now c.args.places.now c.in-Some.ensures.cases.0 c.split_at_mut-desks.ensures.value c.split_at_mut-desks.ensures.front_len c.requires.ready c.requires.racers

pub returns-clause-free : goal.returns-clause-free
returns-clause-free g c =
    free_ended (λ b. (goal.Server-dyn g (b.vtable, b.value)).behaviour b.value) (λ b. (goal.Server-dyn g (b.vtable, b.value)).registers b.value) (λ b. (goal.Server-dyn g (b.vtable, b.value)).pending b.value) c.args.manager.now c.args.passes.now c.in-Some._client.now c.in-Some.others.now c.split_at_mut-desks.result.0.now c.split_at_mut-desks.result.1.now c.args.servers.now c.args.places.now c.in-Some.ensures.cases.0 c.split_at_mut-desks.ensures.value c.split_at_mut-desks.ensures.front_len c.requires.ready c.requires.racers c.end_all.new.passes c.end_all.auto.passes c.end_all.ensures.free

pub returns-clause-ended : goal.returns-clause-ended
returns-clause-ended g c =
    all_ended (λ b. (goal.Server-dyn g (b.vtable, b.value)).behaviour b.value) (λ b. (goal.Server-dyn g (b.vtable, b.value)).registers b.value) (λ b. (goal.Server-dyn g (b.vtable, b.value)).pending b.value) c.args.manager.now c.args.passes.now c.in-Some._client.now c.in-Some.others.now c.split_at_mut-desks.result.0.now c.split_at_mut-desks.result.1.now c.args.servers.now c.args.places.now c.in-Some.ensures.cases.0 c.split_at_mut-desks.ensures.value c.split_at_mut-desks.ensures.front_len c.requires.ready c.requires.racers c.end_all.new.passes c.end_all.auto.passes _ c.end_all.ensures.ended

pub returns-clause-left : goal.returns-clause-left
returns-clause-left g c =
    all_left (λ b. (goal.Server-dyn g (b.vtable, b.value)).behaviour b.value) (λ b. (goal.Server-dyn g (b.vtable, b.value)).registers b.value) (λ b. (goal.Server-dyn g (b.vtable, b.value)).pending b.value) c.args.manager.now c.args.passes.now c.in-Some._client.now c.in-Some.others.now c.split_at_mut-desks.result.0.now c.split_at_mut-desks.result.1.now c.args.servers.now c.args.places.now c.in-Some.ensures.cases.0 c.split_at_mut-desks.ensures.value c.split_at_mut-desks.ensures.front_len c.requires.ready c.requires.racers c.end_all.new.passes c.end_all.auto.passes c.end_all.new.servers c.end_all.ensures.left
