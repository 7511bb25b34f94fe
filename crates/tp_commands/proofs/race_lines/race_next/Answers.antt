use Rattle.std.proofs.Common.{◌∙◌, length}
use Rattle.tp_commands.proofs.Everyone.{all_same}
use Rattle.tp_commands.proofs.Gatherings.{gathered, held_gathered, numbers_gathered, ready_gathered}
use Rattle.tp_commands.proofs.race_lines.race_next.Goals as goal

pub gather-requires-clause-all : goal.gather-requires-clause-all
gather-requires-clause-all g c = all_same c.args.keeper.now c.args.passes.now c.race_in.new.passes c.in_ok-line.ensures.numbered c.requires.given

pub returns-clause-ready : goal.returns-clause-ready
returns-clause-ready g c = ready_gathered (λ b. (goal.Server-dyn g (b.vtable, b.value)).behaviour b.value) (λ b. (goal.Server-dyn g (b.vtable, b.value)).registers b.value) (λ b. (goal.Server-dyn g (b.vtable, b.value)).pending b.value) c.args.racing.now.manager.now c.args.keeper.now c.gather.new.self c.race_in.new.passes c.gather.new.passes c.race_in.new.servers c.race_in.new.places c.in_ok-line.ensures.ready c.gather.ensures.gathers c.gather.ensures.all c.gather.ensures.keeper.1 c.gather.ensures.own

pub returns-clause-numbered : goal.returns-clause-numbered
returns-clause-numbered g c = numbers_gathered (λ b. (goal.Server-dyn g (b.vtable, b.value)).behaviour b.value) (λ b. (goal.Server-dyn g (b.vtable, b.value)).registers b.value) (λ b. (goal.Server-dyn g (b.vtable, b.value)).pending b.value) c.args.racing.now.manager.now c.args.keeper.now c.gather.new.self c.race_in.new.passes c.gather.new.passes c.race_in.new.servers c.race_in.new.places c.in_ok-line.ensures.ready c.gather.ensures.gathers c.gather.ensures.all c.gather.ensures.keeper.1 c.gather.ensures.own ∙ c.in_ok-line.ensures.numbered

pub returns-clause-held : goal.returns-clause-held
returns-clause-held g c =
    held_gathered (λ b. (goal.Server-dyn g (b.vtable, b.value)).behaviour b.value) (λ b. (goal.Server-dyn g (b.vtable, b.value)).registers b.value) (λ b. (goal.Server-dyn g (b.vtable, b.value)).pending b.value) c.args.racing.now.manager.now c.args.keeper.now c.gather.new.self c.race_in.new.passes c.gather.new.passes c.race_in.new.servers c.race_in.new.places c.in_ok-line.ensures.ready c.gather.ensures.gathers c.gather.ensures.all c.gather.ensures.keeper.1 c.gather.ensures.own (length c.args.servers.now) ∙ c.in_ok-line.ensures.held

pub returns-clause-tells : goal.returns-clause-tells
returns-clause-tells g c =
    let t = c.in_ok-line.ensures.tells in
    let b = gathered (λ b. (goal.Server-dyn g (b.vtable, b.value)).behaviour b.value) (λ b. (goal.Server-dyn g (b.vtable, b.value)).registers b.value) (λ b. (goal.Server-dyn g (b.vtable, b.value)).pending b.value) c.args.racing.now.manager.now c.args.keeper.now c.gather.new.self c.race_in.new.passes c.gather.new.passes c.race_in.new.servers c.race_in.new.places c.in_ok-line.ensures.ready c.gather.ensures.gathers c.gather.ensures.all c.gather.ensures.keeper.1 c.gather.ensures.own t.1 t.4 in
    (t.0, b.0, t.2, (t.1, t.3, b.1), b.2)

pub returns-in_err-line-clause-all : goal.returns-in_err-line-clause-all
returns-in_err-line-clause-all g c = all_same c.args.keeper.now c.args.passes.now c.race_in.new.passes c.in_err-line.ensures.numbered c.requires.given
