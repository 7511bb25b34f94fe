use Rattle.std.proofs.Common.{◌∙◌, arith, refl}
use Rattle.std.proofs.lemmas.Result.{IfOk-weaker}
use Rattle.tp_commands.proofs.Rounds.{drained, round_more, rounds_none}
use Rattle.tp_commands.proofs.drains.drain_line.Goals as goal

pub rounds-init : goal.rounds-init
rounds-init g c = record {
  keeper = c.requires.keeper;
  all = c.requires.given;
  given = refl;
  ready = c.requires.ready;
  enough = c.requires.enough;
  as_many = refl;
  began = refl;
  numbered = refl;
  held = refl;
  rounds = rounds_none (λ b. (goal.Server-dyn g (b.vtable, b.value)).behaviour b.value) (λ b. (goal.Server-dyn g (b.vtable, b.value)).registers b.value) (λ b. (goal.Server-dyn g (b.vtable, b.value)).pending b.value) c.args.order c.args.manager.now c.args.keeper.now c.args.passes.now c.args.servers.now c.args.places.now (omega (arith, c.requires.enough));
}

pub rounds-preserved : goal.rounds-preserved
rounds-preserved g c =
    let i = c.rounds.invariant in
    let e = c.round.ensures in
    record {
      keeper = e.keeper;
      all = e.all;
      given = e.given ∙ i.given;
      ready = e.ready;
      enough = omega (arith, i.enough, c.round.auto.passes, c.round.auto.servers);
      as_many = e.as_many ∙ i.as_many;
      began = e.began ∙ i.began;
      numbered = e.numbered ∙ i.numbered;
      held = (rw c.rounds.auto.servers at e.held) ∙ i.held;
      rounds = round_more (λ b. (goal.Server-dyn g (b.vtable, b.value)).behaviour b.value) (λ b. (goal.Server-dyn g (b.vtable, b.value)).registers b.value) (λ b. (goal.Server-dyn g (b.vtable, b.value)).pending b.value) c.args.order c.args.manager.now c.args.keeper.now c.rounds.keeper c.round.new.keeper c.args.passes.now c.rounds.passes c.round.new.passes c.args.servers.now c.rounds.servers c.round.new.servers c.args.places.now c.rounds.places c.round.new.places c.round.result c.rounds-test.true i.rounds e.turns;
    }

pub returns-clause-tells : goal.returns-clause-tells
returns-clause-tells g c =
    IfOk-weaker c.line.result _ _ (λ text told. drained (λ b. (goal.Server-dyn g (b.vtable, b.value)).behaviour b.value) (λ b. (goal.Server-dyn g (b.vtable, b.value)).registers b.value) (λ b. (goal.Server-dyn g (b.vtable, b.value)).pending b.value) c.args.order c.args.manager.now c.args.keeper.now c.rounds.keeper c.round.new.keeper c.args.passes.now c.rounds.passes c.round.new.passes c.args.servers.now c.rounds.servers c.round.new.servers c.args.places.now c.rounds.places c.round.new.places _ c.round.result c.rounds-test.false c.round.ensures.ready told c.rounds.invariant.rounds c.round.ensures.turns) c.line.ensures.text
