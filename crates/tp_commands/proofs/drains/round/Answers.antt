use Rattle.std.proofs.Common.{◌≡◌, ◌||◌, ◌∙◌, arith, ap, refl, sym}
use Rattle.tp_commands.proofs.Rounds.{or_false, or_true, turned_more, turned_none, units_used, whole_round}
use Rattle.tp_commands.proofs.UnitsUsed.{count, count_or}
use Rattle.tp_commands.proofs.drains.round.Goals as goal
use Rattle.tp_commands.proofs.drains.round.Goals.{then-turn, else-turn}

pub loop-at-init : goal.loop-at-init
loop-at-init g c = record {
  keeper = c.requires.keeper;
  all = c.requires.given;
  given = refl;
  ready = c.requires.ready;
  enough = c.requires.enough;
  as_many = refl;
  began = refl;
  numbered = refl;
  held = refl;
  turns = turned_none (λ b. (goal.Server-dyn g (b.vtable, b.value)).behaviour b.value) (λ b. (goal.Server-dyn g (b.vtable, b.value)).registers b.value) (λ b. (goal.Server-dyn g (b.vtable, b.value)).pending b.value) c.args.order c.args.manager.now c.args.keeper.now c.args.passes.now c.args.servers.now c.args.places.now (omega (arith, c.requires.enough));
  fewer = omega arith;
}

pub loop-at-preserved : goal.loop-at-preserved
loop-at-preserved g c =
    let i = c.loop-at.invariant in
    let e = c.turn.ensures in
    let is : c.if-turn.claims ≡ c.loop-at.claims || c.turn.result = elim c.if-turn.branch [
      | then-turn w ↦ w.claims-is ∙ (or_true c.loop-at.claims ∙ ap (λ b. c.loop-at.claims || b) (sym w.if-turn.true))
      | else-turn w ↦ w.claims-is ∙ (or_false c.loop-at.claims ∙ ap (λ b. c.loop-at.claims || b) (sym w.if-turn.false))
    ] in
    let used = units_used (λ b. (goal.Server-dyn g (b.vtable, b.value)).behaviour b.value) (λ b. (goal.Server-dyn g (b.vtable, b.value)).registers b.value) (λ b. (goal.Server-dyn g (b.vtable, b.value)).pending b.value) c.args.order c.args.manager.now c.loop-at.at c.loop-at.keeper c.turn.new.keeper c.loop-at.passes c.turn.new.passes c.loop-at.servers c.turn.new.servers c.loop-at.places c.turn.new.places c.turn.result i.ready e.ready e.turn in
    let more = count_or c.loop-at.claims c.turn.result in
    let counted = ap count is in
    let fewer = i.fewer in
    record {
      keeper = e.keeper;
      all = e.all;
      given = e.given ∙ i.given;
      ready = e.ready;
      enough = omega (arith, i.enough, c.turn.auto.passes, c.turn.auto.servers);
      as_many = e.as_many ∙ i.as_many;
      began = e.began ∙ i.began;
      numbered = e.numbered ∙ i.numbered;
      held = (rw c.loop-at.auto.servers at e.held) ∙ i.held;
      turns = turned_more (λ b. (goal.Server-dyn g (b.vtable, b.value)).behaviour b.value) (λ b. (goal.Server-dyn g (b.vtable, b.value)).registers b.value) (λ b. (goal.Server-dyn g (b.vtable, b.value)).pending b.value) c.args.order c.args.manager.now c.loop-at.at c.args.keeper.now c.loop-at.keeper c.turn.new.keeper c.args.passes.now c.loop-at.passes c.turn.new.passes c.args.servers.now c.loop-at.servers c.turn.new.servers c.args.places.now c.loop-at.places c.turn.new.places c.loop-at.claims c.turn.result c.if-turn.claims i.turns e.turn is;
      fewer = omega (arith, used, more, counted, fewer);
    }

pub returns-clause-turns : goal.returns-clause-turns
returns-clause-turns g c =
    let i = c.loop-at.invariant in
    whole_round (λ b. (goal.Server-dyn g (b.vtable, b.value)).behaviour b.value) (λ b. (goal.Server-dyn g (b.vtable, b.value)).registers b.value) (λ b. (goal.Server-dyn g (b.vtable, b.value)).pending b.value) c.args.order c.args.manager.now c.loop-at.at c.args.keeper.now c.loop-at.keeper c.args.passes.now c.loop-at.passes c.args.servers.now c.loop-at.servers c.args.places.now c.loop-at.places c.loop-at.claims c.requires.ready
    (omega (arith, c.loop-at-test.false, c.loop-at.auto.at-end, i.as_many)) i.turns
