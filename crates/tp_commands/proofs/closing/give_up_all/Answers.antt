use Rattle.std.proofs.Common.{arith, refl, ◌∙◌}
use Rattle.tp_commands.proofs.GivingUps.{given_all, given_more, given_none}
use Rattle.tp_commands.proofs.closing.give_up_all.Goals as goal

pub loop-at-init : goal.loop-at-init
loop-at-init g c = record {
  keeper = c.requires.keeper;
  all = c.requires.given;
  given = refl;
  ready = c.requires.ready;
  enough = c.requires.enough;
  as_many = refl;
  began = refl;
  numbered = refl;
  held = refl;
  given_up = given_none (λ b. (goal.Server-dyn g (b.vtable, b.value)).behaviour b.value) (λ b. (goal.Server-dyn g (b.vtable, b.value)).registers b.value) (λ b. (goal.Server-dyn g (b.vtable, b.value)).pending b.value) c.args.manager.now c.args.keeper.now c.args.passes.now c.args.servers.now c.args.places.now (omega (arith, c.requires.enough));
}

pub loop-at-preserved : goal.loop-at-preserved
loop-at-preserved g c =
    let i = c.loop-at.invariant in
    let e = c.give_up.ensures in
    record {
      keeper = e.keeper;
      all = e.all;
      given = e.given ∙ i.given;
      ready = e.ready;
      enough = omega (arith, i.enough, c.give_up.auto.passes, c.give_up.auto.servers);
      as_many = e.as_many ∙ i.as_many;
      began = e.began ∙ i.began;
      numbered = e.numbered ∙ i.numbered;
      held = (rw c.loop-at.auto.servers at e.held) ∙ i.held;
      given_up = given_more (λ b. (goal.Server-dyn g (b.vtable, b.value)).behaviour b.value) (λ b. (goal.Server-dyn g (b.vtable, b.value)).registers b.value) (λ b. (goal.Server-dyn g (b.vtable, b.value)).pending b.value) c.args.manager.now c.loop-at.at c.args.keeper.now c.loop-at.keeper c.give_up.new.keeper c.args.passes.now c.loop-at.passes c.give_up.new.passes c.args.servers.now c.loop-at.servers c.give_up.new.servers c.args.places.now c.loop-at.places c.give_up.new.places i.given_up e.gives_up;
    }

pub returns-clause-gives_up : goal.returns-clause-gives_up
returns-clause-gives_up g c =
    let i = c.loop-at.invariant in
    given_all (λ b. (goal.Server-dyn g (b.vtable, b.value)).behaviour b.value) (λ b. (goal.Server-dyn g (b.vtable, b.value)).registers b.value) (λ b. (goal.Server-dyn g (b.vtable, b.value)).pending b.value) c.args.manager.now c.loop-at.at c.args.keeper.now c.loop-at.keeper c.args.passes.now c.loop-at.passes c.args.servers.now c.loop-at.servers c.args.places.now c.loop-at.places c.requires.ready
    (omega (arith, c.loop-at-test.false, c.loop-at.auto.at-end, i.as_many)) i.given_up
