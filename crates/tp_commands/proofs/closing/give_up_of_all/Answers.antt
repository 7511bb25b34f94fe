use Rattle.std.proofs.Common.{[], refl}
use Rattle.std.proofs.lemmas.List.Elements.{All-nil}
use Rattle.tp_manager.specs.Shown.{IsOf}
use Rattle.tp_commands.proofs.Slices.{client_free, held_after, lie_workers, numbers_after, own_workers, ready_after, scene_after, scene_before}
use Rattle.tp_commands.proofs.closing.give_up_of_all.Goals as goal

pub give_up_in-requires-clause-own : goal.give_up_in-requires-clause-own
give_up_in-requires-clause-own g c = own_workers (λ b. (goal.Server-dyn g (b.vtable, b.value)).behaviour b.value) (λ b. (goal.Server-dyn g (b.vtable, b.value)).registers b.value) (λ b. (goal.Server-dyn g (b.vtable, b.value)).pending b.value) c.args.manager.now c.args.passes.now c.in-Some._client.now c.in-Some.others.now c.split_at_mut-workers.result.0.now c.split_at_mut-workers.result.1.now [] c.split_at_mut-workers.result.1.now [] c.split_at_mut-workers.result.1.now
    c.args.servers.now c.args.places.now c.in-Some.ensures.cases.0 c.split_at_mut-workers.ensures.value c.split_at_mut-workers.ensures.front_len refl refl c.requires.ready

pub give_up_in-requires-clause-lie : goal.give_up_in-requires-clause-lie
give_up_in-requires-clause-lie g c = lie_workers (λ b. (goal.Server-dyn g (b.vtable, b.value)).behaviour b.value) (λ b. (goal.Server-dyn g (b.vtable, b.value)).registers b.value) (λ b. (goal.Server-dyn g (b.vtable, b.value)).pending b.value) c.args.manager.now c.args.passes.now c.in-Some._client.now c.in-Some.others.now c.split_at_mut-workers.result.0.now c.split_at_mut-workers.result.1.now [] c.split_at_mut-workers.result.1.now [] c.split_at_mut-workers.result.1.now
    c.args.servers.now c.args.places.now c.in-Some.ensures.cases.0 c.split_at_mut-workers.ensures.value c.split_at_mut-workers.ensures.front_len refl refl c.requires.ready

pub returns-clause-ready : goal.returns-clause-ready
returns-clause-ready g c = ready_after (λ b. (goal.Server-dyn g (b.vtable, b.value)).behaviour b.value) (λ b. (goal.Server-dyn g (b.vtable, b.value)).registers b.value) (λ b. (goal.Server-dyn g (b.vtable, b.value)).pending b.value) c.args.manager.now c.args.passes.now c.in-Some._client.now c.in-Some.others.now c.split_at_mut-workers.result.0.now c.split_at_mut-workers.result.1.now [] c.split_at_mut-workers.result.1.now [] c.split_at_mut-workers.result.1.now
    c.args.servers.now c.args.places.now c.in-Some.ensures.cases.0 c.split_at_mut-workers.ensures.value c.split_at_mut-workers.ensures.front_len refl refl c.requires.ready
    c.in-Some._client.now c.give_up_in.new.passes [] c.give_up_in.new.servers c.give_up_in.new.places (client_free (λ b. (goal.Server-dyn g (b.vtable, b.value)).behaviour b.value) (λ b. (goal.Server-dyn g (b.vtable, b.value)).registers b.value) (λ b. (goal.Server-dyn g (b.vtable, b.value)).pending b.value) c.args.manager.now c.args.passes.now c.in-Some._client.now c.in-Some.others.now c.split_at_mut-workers.result.0.now c.split_at_mut-workers.result.1.now [] c.split_at_mut-workers.result.1.now [] c.split_at_mut-workers.result.1.now
    c.args.servers.now c.args.places.now c.in-Some.ensures.cases.0 c.split_at_mut-workers.ensures.value c.split_at_mut-workers.ensures.front_len refl refl c.requires.ready) c.give_up_in.ensures.own c.give_up_in.ensures.lie (All-nil (IsOf c.args.manager.now))

pub returns-clause-numbered : goal.returns-clause-numbered
returns-clause-numbered g c = numbers_after (λ b. (goal.Server-dyn g (b.vtable, b.value)).behaviour b.value) (λ b. (goal.Server-dyn g (b.vtable, b.value)).registers b.value) (λ b. (goal.Server-dyn g (b.vtable, b.value)).pending b.value) c.args.manager.now c.args.passes.now c.in-Some._client.now c.in-Some.others.now c.split_at_mut-workers.result.0.now c.split_at_mut-workers.result.1.now [] c.split_at_mut-workers.result.1.now [] c.split_at_mut-workers.result.1.now
    c.args.servers.now c.args.places.now c.in-Some.ensures.cases.0 c.split_at_mut-workers.ensures.value c.split_at_mut-workers.ensures.front_len refl refl c.requires.ready
    c.in-Some._client.now c.give_up_in.new.passes [] c.give_up_in.new.servers c.give_up_in.new.places (client_free (λ b. (goal.Server-dyn g (b.vtable, b.value)).behaviour b.value) (λ b. (goal.Server-dyn g (b.vtable, b.value)).registers b.value) (λ b. (goal.Server-dyn g (b.vtable, b.value)).pending b.value) c.args.manager.now c.args.passes.now c.in-Some._client.now c.in-Some.others.now c.split_at_mut-workers.result.0.now c.split_at_mut-workers.result.1.now [] c.split_at_mut-workers.result.1.now [] c.split_at_mut-workers.result.1.now
    c.args.servers.now c.args.places.now c.in-Some.ensures.cases.0 c.split_at_mut-workers.ensures.value c.split_at_mut-workers.ensures.front_len refl refl c.requires.ready) c.give_up_in.ensures.own c.give_up_in.ensures.lie (All-nil (IsOf c.args.manager.now)) refl c.give_up_in.ensures.began refl

pub returns-clause-held : goal.returns-clause-held
returns-clause-held g c = held_after (λ b. (goal.Server-dyn g (b.vtable, b.value)).behaviour b.value) (λ b. (goal.Server-dyn g (b.vtable, b.value)).registers b.value) (λ b. (goal.Server-dyn g (b.vtable, b.value)).pending b.value) c.args.manager.now c.args.passes.now c.in-Some._client.now c.in-Some.others.now c.split_at_mut-workers.result.0.now c.split_at_mut-workers.result.1.now [] c.split_at_mut-workers.result.1.now [] c.split_at_mut-workers.result.1.now
    c.args.servers.now c.args.places.now c.in-Some.ensures.cases.0 c.split_at_mut-workers.ensures.value c.split_at_mut-workers.ensures.front_len refl refl c.requires.ready
    c.in-Some._client.now c.give_up_in.new.passes [] c.give_up_in.new.servers c.give_up_in.new.places (client_free (λ b. (goal.Server-dyn g (b.vtable, b.value)).behaviour b.value) (λ b. (goal.Server-dyn g (b.vtable, b.value)).registers b.value) (λ b. (goal.Server-dyn g (b.vtable, b.value)).pending b.value) c.args.manager.now c.args.passes.now c.in-Some._client.now c.in-Some.others.now c.split_at_mut-workers.result.0.now c.split_at_mut-workers.result.1.now [] c.split_at_mut-workers.result.1.now [] c.split_at_mut-workers.result.1.now
    c.args.servers.now c.args.places.now c.in-Some.ensures.cases.0 c.split_at_mut-workers.ensures.value c.split_at_mut-workers.ensures.front_len refl refl c.requires.ready) c.give_up_in.ensures.own c.give_up_in.ensures.lie (All-nil (IsOf c.args.manager.now)) c.give_up_in.auto.servers refl

pub returns-clause-gives_up : goal.returns-clause-gives_up
returns-clause-gives_up g c = (
  _,
  _,
  scene_before (λ b. (goal.Server-dyn g (b.vtable, b.value)).behaviour b.value) (λ b. (goal.Server-dyn g (b.vtable, b.value)).registers b.value) (λ b. (goal.Server-dyn g (b.vtable, b.value)).pending b.value) c.args.manager.now c.args.passes.now c.in-Some._client.now c.in-Some.others.now c.split_at_mut-workers.result.0.now c.split_at_mut-workers.result.1.now [] c.split_at_mut-workers.result.1.now [] c.split_at_mut-workers.result.1.now
      c.args.servers.now c.args.places.now c.in-Some.ensures.cases.0 c.split_at_mut-workers.ensures.value c.split_at_mut-workers.ensures.front_len refl refl c.requires.ready
      c.in-Some._client.now c.give_up_in.new.passes [] c.give_up_in.new.servers c.give_up_in.new.places (client_free (λ b. (goal.Server-dyn g (b.vtable, b.value)).behaviour b.value) (λ b. (goal.Server-dyn g (b.vtable, b.value)).registers b.value) (λ b. (goal.Server-dyn g (b.vtable, b.value)).pending b.value) c.args.manager.now c.args.passes.now c.in-Some._client.now c.in-Some.others.now c.split_at_mut-workers.result.0.now c.split_at_mut-workers.result.1.now [] c.split_at_mut-workers.result.1.now [] c.split_at_mut-workers.result.1.now
      c.args.servers.now c.args.places.now c.in-Some.ensures.cases.0 c.split_at_mut-workers.ensures.value c.split_at_mut-workers.ensures.front_len refl refl c.requires.ready) c.give_up_in.ensures.own c.give_up_in.ensures.lie (All-nil (IsOf c.args.manager.now)),
  record { client = refl; racers = refl },
  c.give_up_in.ensures.gives_up,
  scene_after (λ b. (goal.Server-dyn g (b.vtable, b.value)).behaviour b.value) (λ b. (goal.Server-dyn g (b.vtable, b.value)).registers b.value) (λ b. (goal.Server-dyn g (b.vtable, b.value)).pending b.value) c.args.manager.now c.args.passes.now c.in-Some._client.now c.in-Some.others.now c.split_at_mut-workers.result.0.now c.split_at_mut-workers.result.1.now [] c.split_at_mut-workers.result.1.now [] c.split_at_mut-workers.result.1.now
      c.args.servers.now c.args.places.now c.in-Some.ensures.cases.0 c.split_at_mut-workers.ensures.value c.split_at_mut-workers.ensures.front_len refl refl c.requires.ready
      c.in-Some._client.now c.give_up_in.new.passes [] c.give_up_in.new.servers c.give_up_in.new.places (client_free (λ b. (goal.Server-dyn g (b.vtable, b.value)).behaviour b.value) (λ b. (goal.Server-dyn g (b.vtable, b.value)).registers b.value) (λ b. (goal.Server-dyn g (b.vtable, b.value)).pending b.value) c.args.manager.now c.args.passes.now c.in-Some._client.now c.in-Some.others.now c.split_at_mut-workers.result.0.now c.split_at_mut-workers.result.1.now [] c.split_at_mut-workers.result.1.now [] c.split_at_mut-workers.result.1.now
      c.args.servers.now c.args.places.now c.in-Some.ensures.cases.0 c.split_at_mut-workers.ensures.value c.split_at_mut-workers.ensures.front_len refl refl c.requires.ready) c.give_up_in.ensures.own c.give_up_in.ensures.lie (All-nil (IsOf c.args.manager.now)),
)
