use Rattle.std.proofs.Common.{◌≡◌, ◌+◌, ◌<◌, ◌≤◌, length, refl, sym, ◌∙◌, ap, arith, rules, subst}
use Rattle.tp_model.specs.History.{rounds, status_of}
use Rattle.tp_model.specs.declared.types.Status.TheVariants.{Parked}
use Rattle.tp_model.specs.Steps.{rows_of}
use Rattle.tp_model.proofs.Lists.{whole_write}
use Rattle.tp_model.proofs.WordProofs.{rounds_by_words}
use Rattle.tp_plain.specs.OneThread.{State}
use Rattle.tp_plain.proofs.Requeues.{may_requeue, requeue_goes, requeue_leaves, requeue_over, round_read, rounds_given, row_inside}
use Rattle.tp_plain.proofs.plain.Plain.requeue.Goals as goal
use Rattle.tp_plain.proofs.plain.Plain.requeue.Goals.{In-Parked, After-index-round}

-- the id is below the capacity
inside : (c : In-Parked) → c.args.id < rows_of c.args.self.now.limits
inside c = row_inside c.args.self.now c.args.id c.in-Ok.look.element c.show_reached.ensures c.in-Ok.ensures.answer.0.element

parked : (c : In-Parked) → status_of c.args.self.now.limits.attempts c.args.self.now.history c.args.id ≡ Parked c.in-Parked.attempts
parked c = sym c.in-Ok.ensures.answer.0.status ∙ c.in-Parked.is

-- the rounds that are kept have a place for it
within : (c : In-Parked) → c.args.id < length c.self.inside.rounds.items
within c =
    let there : c.args.id < rows_of c.self.inside.limits = rw (← c.self.view_is) at (inside c) in
    rw (c.self.invariant.2.as_many) there

-- the round that was read is that of the element
round_is : (c : After-index-round) → c.args.id < rows_of c.args.self.now.limits → c.index-round.result.now ≡ rounds c.args.self.now.history c.args.id
round_is c small =
    let p = c.self.inside in
    let there : c.args.id < rows_of p.limits = rw (← c.self.view_is) at small in
    let is = round_read p.limits p.history.events p.rounds.items c.args.id c.index-round.result.now c.self.invariant.2 there c.index-round.ensures in
    rw (← c.self.view_is) is

pub index-round-requires : goal.index-round-requires
index-round-requires c =
    let low = within (goal.at.index-round-requires c).In-Parked in
    let len : length c.self.inside.rounds.items ≡ c.self.inside.rounds.len = search rules in subst (λ n. c.args.id < n) len low

pub index_mut-requires : goal.index_mut-requires
index_mut-requires c =
    let low = within (goal.at.index_mut-requires c).In-Parked in
    let len : length c.self.inside.rounds.items ≡ c.self.inside.rounds.len = search rules in subst (λ n. c.args.id < n) len low

pub returns-then-round-ge-MAX_ROUNDS-clause-answer : goal.returns-then-round-ge-MAX_ROUNDS-clause-answer
returns-then-round-ge-MAX_ROUNDS-clause-answer c =
    let at = goal.at.returns-then-round-ge-MAX_ROUNDS-clause-answer c in
    let r = round_is at.After-index-round (inside at.In-Parked) in
    let most : rounds c.args.self.now.history c.args.id ≤ 3 = (rounds_by_words c.args.self.now.limits c.args.self.now.history c.args.id c.show_reached.ensures.legal).1 in
    let many : 3 ≤ c.index-round.result.now = c.if-round-ge-MAX_ROUNDS.true in
    let last : rounds c.args.self.now.history c.args.id ≡ 3 = omega arith in
    ((c.in-Ok.look.element, c.in-Ok.ensures.answer.0.element, (c.in-Parked.attempts, parked at.In-Parked), last), refl)

pub returns-then-round-ge-MAX_ROUNDS-clause-computed : goal.returns-then-round-ge-MAX_ROUNDS-clause-computed
returns-then-round-ge-MAX_ROUNDS-clause-computed c =
    let at = goal.at.returns-then-round-ge-MAX_ROUNDS-clause-computed c in
    let r = round_is at.After-index-round (inside at.In-Parked) in
    let is = requeue_over c.args.self.now c.args.caller c.args.id c.index-round.result.now c.in-Parked.attempts c.in-Ok.look.element c.in-Ok.ensures.answer.0.element (parked at.In-Parked) r c.if-round-ge-MAX_ROUNDS.true in
    (ap (λ x. x.0) (sym is), ap (λ x. x.1) (sym is))

pub invariant_of-self : goal.invariant_of-self
invariant_of-self c =
    let at = goal.at.invariant_of-self c in
    let p = c.self.inside in
    let s : State = record { limits = p.limits; history = p.history.events; passes = p.passes.items; drawn = p.drawn } in
    let r = round_is at.After-index-round (inside at.In-Parked) in
    let few : c.index-round.result.now < 3 = c.if-round-ge-MAX_ROUNDS.false in
    let there : c.args.id < rows_of p.limits = rw (← c.self.view_is) at (inside at.In-Parked) in
    let step = rw (← c.self.view_is) at (may_requeue c.args.self.now c.args.caller c.args.id c.index-round.result.now c.in-Parked.attempts c.in-Ok.look.element c.requires c.in-Ok.ensures.answer.0.element (parked at.In-Parked) r few) in
    let told : c.index-round.result.now + 1 ≡ rounds p.history.events c.args.id + 1 = ap (λ n. n + 1) (rw (← c.self.view_is) at r) in
    let left = requeue_leaves s p.looks.items c.args.caller c.args.id (c.index-round.result.now + 1) c.self.invariant.0 c.self.invariant.1 step in
    let applied = rw c.deref_mut.ensures.value at c.apply.ensures in
    let written = whole_write p.looks.items c.apply.new.looks p.looks.len (search rules) (c.apply.auto.looks ∙ ap length c.deref_mut.ensures.value) in
    rw (c.then-self-inside.ensures) (left.0, written ∙ (applied ∙ left.1), rounds_given p.limits p.history.events c.args.caller c.args.id (c.index-round.result.now + 1) p.rounds.items there told c.self.invariant.2)

pub returns-clause-answer : goal.returns-clause-answer
returns-clause-answer c =
    let at = goal.at.returns-clause-answer c in
    let r = round_is at.After-index-round (inside at.In-Parked) in (
      may_requeue c.args.self.now c.args.caller c.args.id c.index-round.result.now c.in-Parked.attempts c.in-Ok.look.element c.requires c.in-Ok.ensures.answer.0.element (parked at.In-Parked) r c.if-round-ge-MAX_ROUNDS.false,
      rw (← c.self.view_is, c.then-self-inside.ensures) refl,
    )

pub returns-clause-computed : goal.returns-clause-computed
returns-clause-computed c =
    let at = goal.at.returns-clause-computed c in
    let r = round_is at.After-index-round (inside at.In-Parked) in
    let is = requeue_goes c.args.self.now c.args.caller c.args.id c.index-round.result.now c.in-Parked.attempts c.in-Ok.look.element c.in-Ok.ensures.answer.0.element (parked at.In-Parked) r c.if-round-ge-MAX_ROUNDS.false in
    (ap (λ x. x.0) (sym is), rw (← c.self.view_is, c.then-self-inside.ensures) refl ∙ ap (λ x. x.1) (sym is))
