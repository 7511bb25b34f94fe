use Rattle.std.proofs.Common.{◌∙◌, length}
use Rattle.tp_commands.proofs.Everyone.{all_same}
use Rattle.tp_commands.proofs.Gatherings.{gathered, held_gathered, numbers_gathered, ready_gathered}
use Rattle.tp_commands.proofs.closing.give_up.Goals as goal

pub gather-requires-clause-all : goal.gather-requires-clause-all
gather-requires-clause-all g c = all_same c.args.keeper.now c.args.passes.now c.give_up_of_all.new.passes c.give_up_of_all.ensures.numbered c.requires.given

pub returns-clause-ready : goal.returns-clause-ready
returns-clause-ready g c = ready_gathered (λ b. (goal.Server-dyn g (b.vtable, b.value)).behaviour b.value) (λ b. (goal.Server-dyn g (b.vtable, b.value)).registers b.value) (λ b. (goal.Server-dyn g (b.vtable, b.value)).pending b.value) c.args.manager.now c.args.keeper.now c.gather.new.self c.give_up_of_all.new.passes c.gather.new.passes c.give_up_of_all.new.servers c.give_up_of_all.new.places c.give_up_of_all.ensures.ready c.gather.ensures.gathers c.gather.ensures.all c.gather.ensures.keeper.1 c.gather.ensures.own

pub returns-clause-numbered : goal.returns-clause-numbered
returns-clause-numbered g c = numbers_gathered (λ b. (goal.Server-dyn g (b.vtable, b.value)).behaviour b.value) (λ b. (goal.Server-dyn g (b.vtable, b.value)).registers b.value) (λ b. (goal.Server-dyn g (b.vtable, b.value)).pending b.value) c.args.manager.now c.args.keeper.now c.gather.new.self c.give_up_of_all.new.passes c.gather.new.passes c.give_up_of_all.new.servers c.give_up_of_all.new.places c.give_up_of_all.ensures.ready c.gather.ensures.gathers c.gather.ensures.all c.gather.ensures.keeper.1 c.gather.ensures.own ∙ c.give_up_of_all.ensures.numbered

pub returns-clause-gives_up : goal.returns-clause-gives_up
returns-clause-gives_up g c =
    let t = c.give_up_of_all.ensures.gives_up in
    let b = gathered (λ b. (goal.Server-dyn g (b.vtable, b.value)).behaviour b.value) (λ b. (goal.Server-dyn g (b.vtable, b.value)).registers b.value) (λ b. (goal.Server-dyn g (b.vtable, b.value)).pending b.value) c.args.manager.now c.args.keeper.now c.gather.new.self c.give_up_of_all.new.passes c.gather.new.passes c.give_up_of_all.new.servers c.give_up_of_all.new.places c.give_up_of_all.ensures.ready c.gather.ensures.gathers c.gather.ensures.all c.gather.ensures.keeper.1 c.gather.ensures.own t.1 t.5 in (
      t.0,
      b.0,
      t.2,
      record { done = t.1; gives_up = t.4; others = t.3; gathered = b.1 },
      b.2,
    )

pub returns-clause-held : goal.returns-clause-held
returns-clause-held g c = held_gathered (λ b. (goal.Server-dyn g (b.vtable, b.value)).behaviour b.value) (λ b. (goal.Server-dyn g (b.vtable, b.value)).registers b.value) (λ b. (goal.Server-dyn g (b.vtable, b.value)).pending b.value) c.args.manager.now c.args.keeper.now c.gather.new.self c.give_up_of_all.new.passes c.gather.new.passes c.give_up_of_all.new.servers c.give_up_of_all.new.places c.give_up_of_all.ensures.ready c.gather.ensures.gathers c.gather.ensures.all c.gather.ensures.keeper.1 c.gather.ensures.own (length c.args.servers.now) ∙ c.give_up_of_all.ensures.held
