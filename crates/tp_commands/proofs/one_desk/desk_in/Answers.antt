use Rattle.std.proofs.Common.{[], refl}
use Rattle.std.specs.Prelude.{string_bytes}
use Rattle.std.proofs.lemmas.List.Elements.{All-nil}
use Rattle.std.proofs.lemmas.Result.{IfOk-weaker}
use Rattle.tp_manager.specs.Shown.{IsOf}
use Rattle.tp_commands.proofs.Slices.{client_free, held_after, lie_workers, numbers_after, own_workers, ready_after, scene_after, scene_before}
use Rattle.tp_commands.proofs.LineTellings.{server_told}
use Rattle.tp_commands.proofs.one_desk.desk_in.Goals as goal

pub desk_line-requires-clause-own : goal.desk_line-requires-clause-own
desk_line-requires-clause-own g c = own_workers (λ b. (goal.Server-dyn g (b.vtable, b.value)).behaviour b.value) (λ b. (goal.Server-dyn g (b.vtable, b.value)).registers b.value) (λ b. (goal.Server-dyn g (b.vtable, b.value)).pending b.value) c.args.means.now.manager.now c.args.passes.now c.in-Some._client.now c.in-Some.others.now c.split_at_mut-workers.result.0.now c.split_at_mut-workers.result.1.now [] c.split_at_mut-workers.result.1.now [] c.split_at_mut-workers.result.1.now
    c.args.servers.now c.args.places.now c.in-Some.ensures.cases.0 c.split_at_mut-workers.ensures.value c.split_at_mut-workers.ensures.front_len refl refl c.requires.ready

pub desk_line-requires-clause-lie : goal.desk_line-requires-clause-lie
desk_line-requires-clause-lie g c = lie_workers (λ b. (goal.Server-dyn g (b.vtable, b.value)).behaviour b.value) (λ b. (goal.Server-dyn g (b.vtable, b.value)).registers b.value) (λ b. (goal.Server-dyn g (b.vtable, b.value)).pending b.value) c.args.means.now.manager.now c.args.passes.now c.in-Some._client.now c.in-Some.others.now c.split_at_mut-workers.result.0.now c.split_at_mut-workers.result.1.now [] c.split_at_mut-workers.result.1.now [] c.split_at_mut-workers.result.1.now
    c.args.servers.now c.args.places.now c.in-Some.ensures.cases.0 c.split_at_mut-workers.ensures.value c.split_at_mut-workers.ensures.front_len refl refl c.requires.ready

pub returns-clause-ready : goal.returns-clause-ready
returns-clause-ready g c = ready_after (λ b. (goal.Server-dyn g (b.vtable, b.value)).behaviour b.value) (λ b. (goal.Server-dyn g (b.vtable, b.value)).registers b.value) (λ b. (goal.Server-dyn g (b.vtable, b.value)).pending b.value) c.args.means.now.manager.now c.args.passes.now c.in-Some._client.now c.in-Some.others.now c.split_at_mut-workers.result.0.now c.split_at_mut-workers.result.1.now [] c.split_at_mut-workers.result.1.now [] c.split_at_mut-workers.result.1.now
    c.args.servers.now c.args.places.now c.in-Some.ensures.cases.0 c.split_at_mut-workers.ensures.value c.split_at_mut-workers.ensures.front_len refl refl c.requires.ready
    c.in-Some._client.now c.desk_line.new.passes [] c.desk_line.new.servers c.desk_line.new.places (client_free (λ b. (goal.Server-dyn g (b.vtable, b.value)).behaviour b.value) (λ b. (goal.Server-dyn g (b.vtable, b.value)).registers b.value) (λ b. (goal.Server-dyn g (b.vtable, b.value)).pending b.value) c.args.means.now.manager.now c.args.passes.now c.in-Some._client.now c.in-Some.others.now c.split_at_mut-workers.result.0.now c.split_at_mut-workers.result.1.now [] c.split_at_mut-workers.result.1.now [] c.split_at_mut-workers.result.1.now
    c.args.servers.now c.args.places.now c.in-Some.ensures.cases.0 c.split_at_mut-workers.ensures.value c.split_at_mut-workers.ensures.front_len refl refl c.requires.ready) c.desk_line.ensures.own c.desk_line.ensures.lie (All-nil (IsOf c.args.means.now.manager.now))

pub returns-clause-numbered : goal.returns-clause-numbered
returns-clause-numbered g c = numbers_after (λ b. (goal.Server-dyn g (b.vtable, b.value)).behaviour b.value) (λ b. (goal.Server-dyn g (b.vtable, b.value)).registers b.value) (λ b. (goal.Server-dyn g (b.vtable, b.value)).pending b.value) c.args.means.now.manager.now c.args.passes.now c.in-Some._client.now c.in-Some.others.now c.split_at_mut-workers.result.0.now c.split_at_mut-workers.result.1.now [] c.split_at_mut-workers.result.1.now [] c.split_at_mut-workers.result.1.now
    c.args.servers.now c.args.places.now c.in-Some.ensures.cases.0 c.split_at_mut-workers.ensures.value c.split_at_mut-workers.ensures.front_len refl refl c.requires.ready
    c.in-Some._client.now c.desk_line.new.passes [] c.desk_line.new.servers c.desk_line.new.places (client_free (λ b. (goal.Server-dyn g (b.vtable, b.value)).behaviour b.value) (λ b. (goal.Server-dyn g (b.vtable, b.value)).registers b.value) (λ b. (goal.Server-dyn g (b.vtable, b.value)).pending b.value) c.args.means.now.manager.now c.args.passes.now c.in-Some._client.now c.in-Some.others.now c.split_at_mut-workers.result.0.now c.split_at_mut-workers.result.1.now [] c.split_at_mut-workers.result.1.now [] c.split_at_mut-workers.result.1.now
    c.args.servers.now c.args.places.now c.in-Some.ensures.cases.0 c.split_at_mut-workers.ensures.value c.split_at_mut-workers.ensures.front_len refl refl c.requires.ready) c.desk_line.ensures.own c.desk_line.ensures.lie (All-nil (IsOf c.args.means.now.manager.now)) refl c.desk_line.ensures.began refl

pub returns-clause-held : goal.returns-clause-held
returns-clause-held g c = held_after (λ b. (goal.Server-dyn g (b.vtable, b.value)).behaviour b.value) (λ b. (goal.Server-dyn g (b.vtable, b.value)).registers b.value) (λ b. (goal.Server-dyn g (b.vtable, b.value)).pending b.value) c.args.means.now.manager.now c.args.passes.now c.in-Some._client.now c.in-Some.others.now c.split_at_mut-workers.result.0.now c.split_at_mut-workers.result.1.now [] c.split_at_mut-workers.result.1.now [] c.split_at_mut-workers.result.1.now
    c.args.servers.now c.args.places.now c.in-Some.ensures.cases.0 c.split_at_mut-workers.ensures.value c.split_at_mut-workers.ensures.front_len refl refl c.requires.ready
    c.in-Some._client.now c.desk_line.new.passes [] c.desk_line.new.servers c.desk_line.new.places (client_free (λ b. (goal.Server-dyn g (b.vtable, b.value)).behaviour b.value) (λ b. (goal.Server-dyn g (b.vtable, b.value)).registers b.value) (λ b. (goal.Server-dyn g (b.vtable, b.value)).pending b.value) c.args.means.now.manager.now c.args.passes.now c.in-Some._client.now c.in-Some.others.now c.split_at_mut-workers.result.0.now c.split_at_mut-workers.result.1.now [] c.split_at_mut-workers.result.1.now [] c.split_at_mut-workers.result.1.now
    c.args.servers.now c.args.places.now c.in-Some.ensures.cases.0 c.split_at_mut-workers.ensures.value c.split_at_mut-workers.ensures.front_len refl refl c.requires.ready) c.desk_line.ensures.own c.desk_line.ensures.lie (All-nil (IsOf c.args.means.now.manager.now)) c.desk_line.auto.servers refl

pub returns-clause-tells : goal.returns-clause-tells
returns-clause-tells g c =
    IfOk-weaker c.desk_line.result _ _ (λ text tells. (
      _,
      _,
      scene_before (λ b. (goal.Server-dyn g (b.vtable, b.value)).behaviour b.value) (λ b. (goal.Server-dyn g (b.vtable, b.value)).registers b.value) (λ b. (goal.Server-dyn g (b.vtable, b.value)).pending b.value) c.args.means.now.manager.now c.args.passes.now c.in-Some._client.now c.in-Some.others.now c.split_at_mut-workers.result.0.now c.split_at_mut-workers.result.1.now [] c.split_at_mut-workers.result.1.now [] c.split_at_mut-workers.result.1.now
          c.args.servers.now c.args.places.now c.in-Some.ensures.cases.0 c.split_at_mut-workers.ensures.value c.split_at_mut-workers.ensures.front_len refl refl c.requires.ready
          c.in-Some._client.now c.desk_line.new.passes [] c.desk_line.new.servers c.desk_line.new.places (client_free (λ b. (goal.Server-dyn g (b.vtable, b.value)).behaviour b.value) (λ b. (goal.Server-dyn g (b.vtable, b.value)).registers b.value) (λ b. (goal.Server-dyn g (b.vtable, b.value)).pending b.value) c.args.means.now.manager.now c.args.passes.now c.in-Some._client.now c.in-Some.others.now c.split_at_mut-workers.result.0.now c.split_at_mut-workers.result.1.now [] c.split_at_mut-workers.result.1.now [] c.split_at_mut-workers.result.1.now
          c.args.servers.now c.args.places.now c.in-Some.ensures.cases.0 c.split_at_mut-workers.ensures.value c.split_at_mut-workers.ensures.front_len refl refl c.requires.ready) c.desk_line.ensures.own c.desk_line.ensures.lie (All-nil (IsOf c.args.means.now.manager.now)),
      tells,
      scene_after (λ b. (goal.Server-dyn g (b.vtable, b.value)).behaviour b.value) (λ b. (goal.Server-dyn g (b.vtable, b.value)).registers b.value) (λ b. (goal.Server-dyn g (b.vtable, b.value)).pending b.value) c.args.means.now.manager.now c.args.passes.now c.in-Some._client.now c.in-Some.others.now c.split_at_mut-workers.result.0.now c.split_at_mut-workers.result.1.now [] c.split_at_mut-workers.result.1.now [] c.split_at_mut-workers.result.1.now
          c.args.servers.now c.args.places.now c.in-Some.ensures.cases.0 c.split_at_mut-workers.ensures.value c.split_at_mut-workers.ensures.front_len refl refl c.requires.ready
          c.in-Some._client.now c.desk_line.new.passes [] c.desk_line.new.servers c.desk_line.new.places (client_free (λ b. (goal.Server-dyn g (b.vtable, b.value)).behaviour b.value) (λ b. (goal.Server-dyn g (b.vtable, b.value)).registers b.value) (λ b. (goal.Server-dyn g (b.vtable, b.value)).pending b.value) c.args.means.now.manager.now c.args.passes.now c.in-Some._client.now c.in-Some.others.now c.split_at_mut-workers.result.0.now c.split_at_mut-workers.result.1.now [] c.split_at_mut-workers.result.1.now [] c.split_at_mut-workers.result.1.now
          c.args.servers.now c.args.places.now c.in-Some.ensures.cases.0 c.split_at_mut-workers.ensures.value c.split_at_mut-workers.ensures.front_len refl refl c.requires.ready) c.desk_line.ensures.own c.desk_line.ensures.lie (All-nil (IsOf c.args.means.now.manager.now)),
    )) (server_told c.desk_line.result string_bytes _ _ c.args.means.now.manager.now c.args.means.now.head.now.servers.items c.args.act c.args.server (record { client = refl; racers = refl }) c.requires.in_range c.desk_line.ensures.tells)
