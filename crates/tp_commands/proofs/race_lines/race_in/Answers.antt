use Rattle.std.proofs.Common.{◌≡◌, ◌∙◌, ◌+◌, ℕ, arith, All, refl, sym, subst, length, take, drop}
use Rattle.std.proofs.lemmas.List.Elements.{All-weaker}
use Rattle.tp_manager.specs.Shown.{IsOf}
use Rattle.tp_workers.specs.Free.{IsFreePass}
use Rattle.std.specs.Prelude.{string_bytes}
use Rattle.std.proofs.lemmas.Result.{IfOk-weaker}
use Rattle.tp_script.specs.Script.{head_view}
use Rattle.tp_commands.proofs.Chains.{all_steady, races}
use Rattle.tp_commands.proofs.Slices.{client_free, held_after, here_free, lie_workers, numbers_after, own_workers, ready_after, scene_after, scene_before}
use Rattle.tp_commands.proofs.Races.{none_open}
use Rattle.tp_commands.specs.Told.{after_servers}
use Rattle.tp_commands.proofs.race_lines.race_in.Goals as goal

pub race_line-requires-clause-own : goal.race_line-requires-clause-own
race_line-requires-clause-own g c κs within =
    own_workers (λ b. (goal.Server-dyn g (b.vtable, b.value)).behaviour b.value) (λ b. (goal.Server-dyn g (b.vtable, b.value)).registers b.value) (λ b. (goal.Server-dyn g (b.vtable, b.value)).pending b.value) c.args.racing.now.manager.now c.args.passes.now c.in-Some.client.now c.in-Some.others.now c.split_at_mut-workers.result.0.now c.split_at_mut-workers.result.1.now c.split_at_mut-before.result.0.now c.split_at_mut-before.result.1.now c.split_at_mut-here.result.0.now c.split_at_mut-here.result.1.now
    c.args.servers.now c.args.places.now c.in-Some.ensures.cases.0 c.split_at_mut-workers.ensures.value c.split_at_mut-workers.ensures.front_len c.split_at_mut-before.ensures.value c.split_at_mut-here.ensures.value c.requires.ready

pub race_line-requires-clause-lie : goal.race_line-requires-clause-lie
race_line-requires-clause-lie g c κs within =
    lie_workers (λ b. (goal.Server-dyn g (b.vtable, b.value)).behaviour b.value) (λ b. (goal.Server-dyn g (b.vtable, b.value)).registers b.value) (λ b. (goal.Server-dyn g (b.vtable, b.value)).pending b.value) c.args.racing.now.manager.now c.args.passes.now c.in-Some.client.now c.in-Some.others.now c.split_at_mut-workers.result.0.now c.split_at_mut-workers.result.1.now c.split_at_mut-before.result.0.now c.split_at_mut-before.result.1.now c.split_at_mut-here.result.0.now c.split_at_mut-here.result.1.now
    c.args.servers.now c.args.places.now c.in-Some.ensures.cases.0 c.split_at_mut-workers.ensures.value c.split_at_mut-workers.ensures.front_len c.split_at_mut-before.ensures.value c.split_at_mut-here.ensures.value c.requires.ready

pub race_line-requires-clause-racers : goal.race_line-requires-clause-racers
race_line-requires-clause-racers g c κs within =
    let needed : length c.split_at_mut-here.result.0.now ≡ c.args.racing.now.plan.clients + c.args.racing.now.plan.killers = omega (arith, c.split_at_mut-here.ensures.front_len, c.from.ensures, c.from-2.ensures) in
    let free = subst (λ (k : ℕ × ℕ). All (IsFreePass c.args.racing.now.manager.now) (take k.0 (drop k.1 (after_servers (length c.args.servers.now) c.args.passes.now)))) (λ i. (sym needed i, sym c.split_at_mut-before.ensures.front_len i)) c.requires.free in
    here_free (λ b. (goal.Server-dyn g (b.vtable, b.value)).behaviour b.value) (λ b. (goal.Server-dyn g (b.vtable, b.value)).registers b.value) (λ b. (goal.Server-dyn g (b.vtable, b.value)).pending b.value) c.args.racing.now.manager.now c.args.passes.now c.in-Some.client.now c.in-Some.others.now c.split_at_mut-workers.result.0.now c.split_at_mut-workers.result.1.now c.split_at_mut-before.result.0.now c.split_at_mut-before.result.1.now c.split_at_mut-here.result.0.now c.split_at_mut-here.result.1.now
    c.args.servers.now c.args.places.now c.in-Some.ensures.cases.0 c.split_at_mut-workers.ensures.value c.split_at_mut-workers.ensures.front_len c.split_at_mut-before.ensures.value c.split_at_mut-here.ensures.value c.requires.ready free

pub returns-clause-ready : goal.returns-clause-ready
returns-clause-ready g c =
    ready_after (λ b. (goal.Server-dyn g (b.vtable, b.value)).behaviour b.value) (λ b. (goal.Server-dyn g (b.vtable, b.value)).registers b.value) (λ b. (goal.Server-dyn g (b.vtable, b.value)).pending b.value) c.args.racing.now.manager.now c.args.passes.now c.in-Some.client.now c.in-Some.others.now c.split_at_mut-workers.result.0.now c.split_at_mut-workers.result.1.now c.split_at_mut-before.result.0.now c.split_at_mut-before.result.1.now c.split_at_mut-here.result.0.now c.split_at_mut-here.result.1.now
    c.args.servers.now c.args.places.now c.in-Some.ensures.cases.0 c.split_at_mut-workers.ensures.value c.split_at_mut-workers.ensures.front_len c.split_at_mut-before.ensures.value c.split_at_mut-here.ensures.value c.requires.ready
    c.in-Some.client.now c.race_line.new.passes c.race_line.new.racers c.race_line.new.servers c.race_line.new.places (client_free (λ b. (goal.Server-dyn g (b.vtable, b.value)).behaviour b.value) (λ b. (goal.Server-dyn g (b.vtable, b.value)).registers b.value) (λ b. (goal.Server-dyn g (b.vtable, b.value)).pending b.value) c.args.racing.now.manager.now c.args.passes.now c.in-Some.client.now c.in-Some.others.now c.split_at_mut-workers.result.0.now c.split_at_mut-workers.result.1.now c.split_at_mut-before.result.0.now c.split_at_mut-before.result.1.now c.split_at_mut-here.result.0.now c.split_at_mut-here.result.1.now
    c.args.servers.now c.args.places.now c.in-Some.ensures.cases.0 c.split_at_mut-workers.ensures.value c.split_at_mut-workers.ensures.front_len c.split_at_mut-before.ensures.value c.split_at_mut-here.ensures.value c.requires.ready) c.race_line.ensures.own c.race_line.ensures.lie (All-weaker (IsFreePass c.args.racing.now.manager.now) (IsOf c.args.racing.now.manager.now) (λ p is. is.own) _ c.race_line.ensures.racers.free)

pub returns-clause-numbered : goal.returns-clause-numbered
returns-clause-numbered g c =
    numbers_after (λ b. (goal.Server-dyn g (b.vtable, b.value)).behaviour b.value) (λ b. (goal.Server-dyn g (b.vtable, b.value)).registers b.value) (λ b. (goal.Server-dyn g (b.vtable, b.value)).pending b.value) c.args.racing.now.manager.now c.args.passes.now c.in-Some.client.now c.in-Some.others.now c.split_at_mut-workers.result.0.now c.split_at_mut-workers.result.1.now c.split_at_mut-before.result.0.now c.split_at_mut-before.result.1.now c.split_at_mut-here.result.0.now c.split_at_mut-here.result.1.now
    c.args.servers.now c.args.places.now c.in-Some.ensures.cases.0 c.split_at_mut-workers.ensures.value c.split_at_mut-workers.ensures.front_len c.split_at_mut-before.ensures.value c.split_at_mut-here.ensures.value c.requires.ready
    c.in-Some.client.now c.race_line.new.passes c.race_line.new.racers c.race_line.new.servers c.race_line.new.places (client_free (λ b. (goal.Server-dyn g (b.vtable, b.value)).behaviour b.value) (λ b. (goal.Server-dyn g (b.vtable, b.value)).registers b.value) (λ b. (goal.Server-dyn g (b.vtable, b.value)).pending b.value) c.args.racing.now.manager.now c.args.passes.now c.in-Some.client.now c.in-Some.others.now c.split_at_mut-workers.result.0.now c.split_at_mut-workers.result.1.now c.split_at_mut-before.result.0.now c.split_at_mut-before.result.1.now c.split_at_mut-here.result.0.now c.split_at_mut-here.result.1.now
    c.args.servers.now c.args.places.now c.in-Some.ensures.cases.0 c.split_at_mut-workers.ensures.value c.split_at_mut-workers.ensures.front_len c.split_at_mut-before.ensures.value c.split_at_mut-here.ensures.value c.requires.ready) c.race_line.ensures.own c.race_line.ensures.lie (All-weaker (IsFreePass c.args.racing.now.manager.now) (IsOf c.args.racing.now.manager.now) (λ p is. is.own) _ c.race_line.ensures.racers.free)
    refl c.race_line.ensures.began c.race_line.ensures.racers.numbered

pub returns-clause-tells : goal.returns-clause-tells
returns-clause-tells g c =
    let needed : length c.split_at_mut-here.result.0.now ≡ c.args.racing.now.plan.clients + c.args.racing.now.plan.killers = omega (arith, c.split_at_mut-here.ensures.front_len, c.from.ensures, c.from-2.ensures) in
    IfOk-weaker c.race_line.result _ _ (λ text tells. (
      _,
      _,
      scene_before (λ b. (goal.Server-dyn g (b.vtable, b.value)).behaviour b.value) (λ b. (goal.Server-dyn g (b.vtable, b.value)).registers b.value) (λ b. (goal.Server-dyn g (b.vtable, b.value)).pending b.value) c.args.racing.now.manager.now c.args.passes.now c.in-Some.client.now c.in-Some.others.now c.split_at_mut-workers.result.0.now c.split_at_mut-workers.result.1.now c.split_at_mut-before.result.0.now c.split_at_mut-before.result.1.now c.split_at_mut-here.result.0.now c.split_at_mut-here.result.1.now
          c.args.servers.now c.args.places.now c.in-Some.ensures.cases.0 c.split_at_mut-workers.ensures.value c.split_at_mut-workers.ensures.front_len c.split_at_mut-before.ensures.value c.split_at_mut-here.ensures.value c.requires.ready
          c.in-Some.client.now c.race_line.new.passes c.race_line.new.racers c.race_line.new.servers c.race_line.new.places (client_free (λ b. (goal.Server-dyn g (b.vtable, b.value)).behaviour b.value) (λ b. (goal.Server-dyn g (b.vtable, b.value)).registers b.value) (λ b. (goal.Server-dyn g (b.vtable, b.value)).pending b.value) c.args.racing.now.manager.now c.args.passes.now c.in-Some.client.now c.in-Some.others.now c.split_at_mut-workers.result.0.now c.split_at_mut-workers.result.1.now c.split_at_mut-before.result.0.now c.split_at_mut-before.result.1.now c.split_at_mut-here.result.0.now c.split_at_mut-here.result.1.now
          c.args.servers.now c.args.places.now c.in-Some.ensures.cases.0 c.split_at_mut-workers.ensures.value c.split_at_mut-workers.ensures.front_len c.split_at_mut-before.ensures.value c.split_at_mut-here.ensures.value c.requires.ready) c.race_line.ensures.own c.race_line.ensures.lie (All-weaker (IsFreePass c.args.racing.now.manager.now) (IsOf c.args.racing.now.manager.now) (λ p is. is.own) _ c.race_line.ensures.racers.free),
      races c.args.racing.now.manager.now (head_view c.args.racing.now.head.now) c.args.racing.now.behind c.args.racing.now.plan c.in-Some.client.now c.in-Some.client.now _ _ c.split_at_mut-before.result.0.now c.split_at_mut-before.result.1.now c.split_at_mut-here.result.0.now c.split_at_mut-here.result.1.now
          c.race_line.new.racers (string_bytes text) c.split_at_mut-here.ensures.value c.split_at_mut-before.ensures.front_len needed tells
          (all_steady (λ b. (goal.Server-dyn g (b.vtable, b.value)).behaviour b.value) (λ b. (goal.Server-dyn g (b.vtable, b.value)).registers b.value) (λ b. (goal.Server-dyn g (b.vtable, b.value)).pending b.value) _ _ _ c.race_line.ensures.lie),
      scene_after (λ b. (goal.Server-dyn g (b.vtable, b.value)).behaviour b.value) (λ b. (goal.Server-dyn g (b.vtable, b.value)).registers b.value) (λ b. (goal.Server-dyn g (b.vtable, b.value)).pending b.value) c.args.racing.now.manager.now c.args.passes.now c.in-Some.client.now c.in-Some.others.now c.split_at_mut-workers.result.0.now c.split_at_mut-workers.result.1.now c.split_at_mut-before.result.0.now c.split_at_mut-before.result.1.now c.split_at_mut-here.result.0.now c.split_at_mut-here.result.1.now
          c.args.servers.now c.args.places.now c.in-Some.ensures.cases.0 c.split_at_mut-workers.ensures.value c.split_at_mut-workers.ensures.front_len c.split_at_mut-before.ensures.value c.split_at_mut-here.ensures.value c.requires.ready
          c.in-Some.client.now c.race_line.new.passes c.race_line.new.racers c.race_line.new.servers c.race_line.new.places (client_free (λ b. (goal.Server-dyn g (b.vtable, b.value)).behaviour b.value) (λ b. (goal.Server-dyn g (b.vtable, b.value)).registers b.value) (λ b. (goal.Server-dyn g (b.vtable, b.value)).pending b.value) c.args.racing.now.manager.now c.args.passes.now c.in-Some.client.now c.in-Some.others.now c.split_at_mut-workers.result.0.now c.split_at_mut-workers.result.1.now c.split_at_mut-before.result.0.now c.split_at_mut-before.result.1.now c.split_at_mut-here.result.0.now c.split_at_mut-here.result.1.now
          c.args.servers.now c.args.places.now c.in-Some.ensures.cases.0 c.split_at_mut-workers.ensures.value c.split_at_mut-workers.ensures.front_len c.split_at_mut-before.ensures.value c.split_at_mut-here.ensures.value c.requires.ready) c.race_line.ensures.own c.race_line.ensures.lie (All-weaker (IsFreePass c.args.racing.now.manager.now) (IsOf c.args.racing.now.manager.now) (λ p is. is.own) _ c.race_line.ensures.racers.free),
    )) c.race_line.ensures.tells

pub returns-clause-held : goal.returns-clause-held
returns-clause-held g c =
    let needed : length c.split_at_mut-here.result.0.now ≡ c.args.racing.now.plan.clients + c.args.racing.now.plan.killers = omega (arith, c.split_at_mut-here.ensures.front_len, c.from.ensures, c.from-2.ensures) in
    let free = subst (λ (k : ℕ × ℕ). All (IsFreePass c.args.racing.now.manager.now) (take k.0 (drop k.1 (after_servers (length c.args.servers.now) c.args.passes.now)))) (λ i. (sym needed i, sym c.split_at_mut-before.ensures.front_len i)) c.requires.free in
    held_after (λ b. (goal.Server-dyn g (b.vtable, b.value)).behaviour b.value) (λ b. (goal.Server-dyn g (b.vtable, b.value)).registers b.value) (λ b. (goal.Server-dyn g (b.vtable, b.value)).pending b.value) c.args.racing.now.manager.now c.args.passes.now c.in-Some.client.now c.in-Some.others.now c.split_at_mut-workers.result.0.now c.split_at_mut-workers.result.1.now c.split_at_mut-before.result.0.now c.split_at_mut-before.result.1.now c.split_at_mut-here.result.0.now c.split_at_mut-here.result.1.now
    c.args.servers.now c.args.places.now c.in-Some.ensures.cases.0 c.split_at_mut-workers.ensures.value c.split_at_mut-workers.ensures.front_len c.split_at_mut-before.ensures.value c.split_at_mut-here.ensures.value c.requires.ready
    c.in-Some.client.now c.race_line.new.passes c.race_line.new.racers c.race_line.new.servers c.race_line.new.places (client_free (λ b. (goal.Server-dyn g (b.vtable, b.value)).behaviour b.value) (λ b. (goal.Server-dyn g (b.vtable, b.value)).registers b.value) (λ b. (goal.Server-dyn g (b.vtable, b.value)).pending b.value) c.args.racing.now.manager.now c.args.passes.now c.in-Some.client.now c.in-Some.others.now c.split_at_mut-workers.result.0.now c.split_at_mut-workers.result.1.now c.split_at_mut-before.result.0.now c.split_at_mut-before.result.1.now c.split_at_mut-here.result.0.now c.split_at_mut-here.result.1.now
    c.args.servers.now c.args.places.now c.in-Some.ensures.cases.0 c.split_at_mut-workers.ensures.value c.split_at_mut-workers.ensures.front_len c.split_at_mut-before.ensures.value c.split_at_mut-here.ensures.value c.requires.ready) c.race_line.ensures.own c.race_line.ensures.lie (All-weaker (IsFreePass c.args.racing.now.manager.now) (IsOf c.args.racing.now.manager.now) (λ p is. is.own) _ c.race_line.ensures.racers.free)
    c.race_line.auto.servers (none_open c.args.racing.now.manager.now c.split_at_mut-here.result.0.now c.race_line.new.racers c.race_line.ensures.racers.numbered (here_free (λ b. (goal.Server-dyn g (b.vtable, b.value)).behaviour b.value) (λ b. (goal.Server-dyn g (b.vtable, b.value)).registers b.value) (λ b. (goal.Server-dyn g (b.vtable, b.value)).pending b.value) c.args.racing.now.manager.now c.args.passes.now c.in-Some.client.now c.in-Some.others.now c.split_at_mut-workers.result.0.now c.split_at_mut-workers.result.1.now c.split_at_mut-before.result.0.now c.split_at_mut-before.result.1.now c.split_at_mut-here.result.0.now c.split_at_mut-here.result.1.now c.args.servers.now c.args.places.now c.in-Some.ensures.cases.0 c.split_at_mut-workers.ensures.value c.split_at_mut-workers.ensures.front_len c.split_at_mut-before.ensures.value c.split_at_mut-here.ensures.value c.requires.ready free) c.race_line.ensures.racers.free)
