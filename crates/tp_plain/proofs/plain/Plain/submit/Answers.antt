use Rattle.std.proofs.Common.{◌≡◌, ◌<◌, ◌≤◌, ◌+◌, arith, rules}
use Rattle.tp_model.specs.Steps.{IsBody, max_rows}
use Rattle.tp_plain.specs.OneThread.{State, ready, with_draw}
use Rattle.tp_plain.proofs.PlainLemmas.{submit_leaves}
use Rattle.tp_plain.proofs.Requeues.{rounds_enqueue}
use Rattle.tp_plain.proofs.UnitEnds.{next_few}
use Rattle.tp_plain.proofs.plain.Plain.submit.Goals as goal

pub overflow_add-used : goal.overflow_add-used
overflow_add-used c =
    let p = c.self.inside in
    let s : State = record { limits = p.limits; history = p.history.events; passes = p.passes.items; drawn = p.drawn } in
    let is_pass : c.args.caller < p.limits.parts = rw (← c.self.view_is) at c.requires in
    let at : c.ready-used.result ≡ ready s c.args.caller 1 = rw (← c.self.view_is) at c.ready-used.ensures in
    let few : c.ready-used.result.next + c.ready-used.result.left ≤ max_rows = next_few s p.looks.items c.args.caller 1 c.self.invariant.0 c.self.invariant.1 is_pass c.ready-used.result at in
    omega arith

pub invariant_of-self-2 : goal.invariant_of-self-2
invariant_of-self-2 c =
    let p = c.self.inside in
    let s : State = record { limits = p.limits; history = p.history.events; passes = p.passes.items; drawn = p.drawn } in
    let is_pass : c.args.caller < p.limits.parts = rw (← c.self.view_is) at c.requires in
    let at : c.ready-used.result ≡ ready s c.args.caller 1 = rw (← c.self.view_is) at c.ready-used.ensures in
    let count : c.drawn_with-drawn.result ≡ (with_draw s c.args.caller 1).drawn = rw (← c.self.view_is) at c.drawn_with-drawn.ensures in
    let some : 1 ≤ c.ready-used.result.left = (let none = c.if-used-eq0.false in omega arith) in
    let whole : IsBody c.args.body = search rules in
    let left = submit_leaves s p.looks.items c.args.caller c.args.stage c.args.body c.self.invariant.0 c.self.invariant.1 is_pass (omega arith, omega arith) whole c.ready-used.result c.drawn_with-drawn.result at count some in
    rw (c.then-self-inside.ensures, c.in-Ok.ensures.items) (left.0, left.1, rounds_enqueue p.limits p.history.events _ _ p.rounds.items c.self.invariant.2)

pub returns-clause-answer : goal.returns-clause-answer
returns-clause-answer c =
    let p = c.self.inside in
    let s : State = record { limits = p.limits; history = p.history.events; passes = p.passes.items; drawn = p.drawn } in
    let is_pass : c.args.caller < p.limits.parts = rw (← c.self.view_is) at c.requires in
    let at : c.ready-used.result ≡ ready s c.args.caller 1 = rw (← c.self.view_is) at c.ready-used.ensures in
    let count : c.drawn_with-drawn.result ≡ (with_draw s c.args.caller 1).drawn = rw (← c.self.view_is) at c.drawn_with-drawn.ensures in
    let some : 1 ≤ c.ready-used.result.left = (let none = c.if-used-eq0.false in omega arith) in
    let whole : IsBody c.args.body = search rules in
    let left = submit_leaves s p.looks.items c.args.caller c.args.stage c.args.body c.self.invariant.0 c.self.invariant.1 is_pass (omega arith, omega arith) whole c.ready-used.result c.drawn_with-drawn.result at count some in
    rw (← c.self.view_is, c.then-self-inside.ensures) left.2
