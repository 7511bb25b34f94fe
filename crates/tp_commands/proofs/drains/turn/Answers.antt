use Rattle.std.proofs.Common.{◌∙◌, inl, inr, length, refl}
use Rattle.tp_commands.proofs.Everyone.{all_same}
use Rattle.tp_commands.proofs.Gatherings.{gathered, held_gathered, numbers_gathered, ready_gathered}
use Rattle.tp_commands.proofs.Slices.{scene_same}
use Rattle.tp_commands.proofs.drains.turn.Goals as goal

pub returns-in_default-clause-all : goal.returns-in_default-clause-all
returns-in_default-clause-all g c = all_same c.args.keeper.now c.args.passes.now c.turn_of_all.new.passes c.in_default.ensures.numbered c.requires.given

pub returns-in_default-clause-turn : goal.returns-in_default-clause-turn
returns-in_default-clause-turn g c =
    let t = c.in_default.ensures.turn in (
      t.0,
      t.1,
      t.2,
      inr (record { busy = t.4; claimed_is = refl; kept = refl; same = scene_same t.1 t.0 t.3.client t.4.same t.3.racers }),
      t.5,
    )

pub gather-requires-clause-all : goal.gather-requires-clause-all
gather-requires-clause-all g c = all_same c.args.keeper.now c.args.passes.now c.turn_of_all.new.passes c.in-Some.ensures.numbered c.requires.given

pub returns-clause-ready : goal.returns-clause-ready
returns-clause-ready g c = ready_gathered (λ b. (goal.Server-dyn g (b.vtable, b.value)).behaviour b.value) (λ b. (goal.Server-dyn g (b.vtable, b.value)).registers b.value) (λ b. (goal.Server-dyn g (b.vtable, b.value)).pending b.value) c.args.manager.now c.args.keeper.now c.gather.new.self c.turn_of_all.new.passes c.gather.new.passes c.turn_of_all.new.servers c.turn_of_all.new.places c.in-Some.ensures.ready c.gather.ensures.gathers c.gather.ensures.all c.gather.ensures.keeper.1 c.gather.ensures.own

pub returns-clause-numbered : goal.returns-clause-numbered
returns-clause-numbered g c = numbers_gathered (λ b. (goal.Server-dyn g (b.vtable, b.value)).behaviour b.value) (λ b. (goal.Server-dyn g (b.vtable, b.value)).registers b.value) (λ b. (goal.Server-dyn g (b.vtable, b.value)).pending b.value) c.args.manager.now c.args.keeper.now c.gather.new.self c.turn_of_all.new.passes c.gather.new.passes c.turn_of_all.new.servers c.turn_of_all.new.places c.in-Some.ensures.ready c.gather.ensures.gathers c.gather.ensures.all c.gather.ensures.keeper.1 c.gather.ensures.own ∙ c.in-Some.ensures.numbered

pub returns-clause-turn : goal.returns-clause-turn
returns-clause-turn g c =
    let t = c.in-Some.ensures.turn in
    let b = gathered (λ b. (goal.Server-dyn g (b.vtable, b.value)).behaviour b.value) (λ b. (goal.Server-dyn g (b.vtable, b.value)).registers b.value) (λ b. (goal.Server-dyn g (b.vtable, b.value)).pending b.value) c.args.manager.now c.args.keeper.now c.gather.new.self c.turn_of_all.new.passes c.gather.new.passes c.turn_of_all.new.servers c.turn_of_all.new.places c.in-Some.ensures.ready c.gather.ensures.gathers c.gather.ensures.all c.gather.ensures.keeper.1 c.gather.ensures.own t.1 t.5 in (
      t.0,
      b.0,
      t.2,
      inl (record { turned = c.in-Some.turned; claimed_is = c.claims.ensures; done = t.1; turns = t.4; others = t.3; gathered = b.1 }),
      b.2,
    )

pub returns-clause-held : goal.returns-clause-held
returns-clause-held g c = held_gathered (λ b. (goal.Server-dyn g (b.vtable, b.value)).behaviour b.value) (λ b. (goal.Server-dyn g (b.vtable, b.value)).registers b.value) (λ b. (goal.Server-dyn g (b.vtable, b.value)).pending b.value) c.args.manager.now c.args.keeper.now c.gather.new.self c.turn_of_all.new.passes c.gather.new.passes c.turn_of_all.new.servers c.turn_of_all.new.places c.in-Some.ensures.ready c.gather.ensures.gathers c.gather.ensures.all c.gather.ensures.keeper.1 c.gather.ensures.own (length c.args.servers.now) ∙ c.in-Some.ensures.held
