use Rattle.std.proofs.Common.{◌≡◌, ◌<◌, ◌≤◌, ◌+◌, Some, None, length, refl, sym, ◌∙◌, ap, arith, rules}
use Rattle.std.specs.List.{find}
use Rattle.tp_model.specs.declared.types.Look.{Look}
use Rattle.tp_plain.specs.Looks.{is_held_by}
use Rattle.tp_model.specs.Steps.{max_rows}
use Rattle.tp_model.proofs.Lists.{whole_write}
use Rattle.tp_plain.specs.OneThread.{State, ready, with_draw}
use Rattle.tp_plain.proofs.Computations.{commit_lost}
use Rattle.tp_plain.proofs.UnitEnds.{lost_leaves, next_few, undecided_leaves}
use Rattle.tp_plain.proofs.Commits.{commit_leaves}
use Rattle.tp_plain.proofs.Requeues.{rounds_commit}
use Rattle.tp_plain.proofs.plain.Plain.commit.Goals as goal

pub overflow_add-next : goal.overflow_add-next
overflow_add-next c =
    let p = c.self.inside in
    let s : State = record { limits = p.limits; history = p.history.events; passes = p.passes.items; drawn = p.drawn } in
    let k = length c.args.drafts.now in
    let is_pass : c.args.caller < p.limits.parts = rw (← c.self.view_is) at c.requires.pass in
    let at : c.ready-used.result ≡ ready s c.args.caller k = rw (← c.self.view_is) at c.ready-used.ensures in
    let few : c.ready-used.result.next + c.ready-used.result.left ≤ max_rows = next_few s p.looks.items c.args.caller k c.self.invariant.0 c.self.invariant.1 is_pass c.ready-used.result at in
    omega arith

pub invariant_of-self : goal.invariant_of-self
invariant_of-self c =
    let p = c.self.inside in
    let s : State = record { limits = p.limits; history = p.history.events; passes = p.passes.items; drawn = p.drawn } in
    let k = length c.args.drafts.now in
    let is_pass : c.args.caller < p.limits.parts = rw (← c.self.view_is) at c.requires.pass in
    let at : c.ready-used.result ≡ ready s c.args.caller k = rw (← c.self.view_is) at c.ready-used.ensures in
    let count : c.drawn_with-drawn.result ≡ (with_draw s c.args.caller k).drawn = rw (← c.self.view_is) at c.drawn_with-drawn.ensures in
    let none : find (λ (l : Look). is_held_by c.in-Some.unit l.status) p.looks.items ≡ None =
    ap (find (λ (l : Look). is_held_by c.in-Some.unit l.status)) (sym c.deref.ensures.value) ∙ (sym c.held_by.ensures ∙ c.in_default-held_by.is) in
    let left = lost_leaves s p.looks.items c.args.caller k c.self.invariant.0 c.self.invariant.1 is_pass c.in-Some.unit c.ready-used.result c.drawn_with-drawn.result at count c.in-Some.is c.if-drafts-used.false none in
    (left.0, c.self.invariant.1, c.self.invariant.2)

pub returns-in_default-held_by-clause-answer : goal.returns-in_default-held_by-clause-answer
returns-in_default-held_by-clause-answer c =
    let p = c.self.inside in
    let s : State = record { limits = p.limits; history = p.history.events; passes = p.passes.items; drawn = p.drawn } in
    let k = length c.args.drafts.now in
    let is_pass : c.args.caller < p.limits.parts = rw (← c.self.view_is) at c.requires.pass in
    let at : c.ready-used.result ≡ ready s c.args.caller k = rw (← c.self.view_is) at c.ready-used.ensures in
    let count : c.drawn_with-drawn.result ≡ (with_draw s c.args.caller k).drawn = rw (← c.self.view_is) at c.drawn_with-drawn.ensures in
    let none : find (λ (l : Look). is_held_by c.in-Some.unit l.status) p.looks.items ≡ None =
    ap (find (λ (l : Look). is_held_by c.in-Some.unit l.status)) (sym c.deref.ensures.value) ∙ (sym c.held_by.ensures ∙ c.in_default-held_by.is) in
    let left = lost_leaves s p.looks.items c.args.caller k c.self.invariant.0 c.self.invariant.1 is_pass c.in-Some.unit c.ready-used.result c.drawn_with-drawn.result at count c.in-Some.is c.if-drafts-used.false none in
    rw (← c.self.view_is) (c.in-Some.unit, left.1, (left.2, left.3, left.4))

pub returns-in_default-held_by-clause-computed : goal.returns-in_default-held_by-clause-computed
returns-in_default-held_by-clause-computed c =
    let p = c.self.inside in
    let s : State = record { limits = p.limits; history = p.history.events; passes = p.passes.items; drawn = p.drawn } in
    let k = length c.args.drafts.now in
    let is_pass : c.args.caller < p.limits.parts = rw (← c.self.view_is) at c.requires.pass in
    let at : c.ready-used.result ≡ ready s c.args.caller k = rw (← c.self.view_is) at c.ready-used.ensures in
    let count : c.drawn_with-drawn.result ≡ (with_draw s c.args.caller k).drawn = rw (← c.self.view_is) at c.drawn_with-drawn.ensures in
    let none : find (λ (l : Look). is_held_by c.in-Some.unit l.status) p.looks.items ≡ None =
    ap (find (λ (l : Look). is_held_by c.in-Some.unit l.status)) (sym c.deref.ensures.value) ∙ (sym c.held_by.ensures ∙ c.in_default-held_by.is) in
    let left = lost_leaves s p.looks.items c.args.caller k c.self.invariant.0 c.self.invariant.1 is_pass c.in-Some.unit c.ready-used.result c.drawn_with-drawn.result at count c.in-Some.is c.if-drafts-used.false none in
    let is = commit_lost s c.args.caller c.in-Some.unit c.args.drafts.now left.1 left.3 left.2 in
    rw (← c.self.view_is) (ap (λ x. x.0) is, left.4 ∙ ap (λ x. x.1) (sym is))

pub invariant_of-self-2 : goal.invariant_of-self-2
invariant_of-self-2 c =
    let p = c.self.inside in
    let s : State = record { limits = p.limits; history = p.history.events; passes = p.passes.items; drawn = p.drawn } in
    let k = length c.args.drafts.now in
    let is_pass : c.args.caller < p.limits.parts = rw (← c.self.view_is) at c.requires.pass in
    let at : c.ready-used.result ≡ ready s c.args.caller k = rw (← c.self.view_is) at c.ready-used.ensures in
    let count : c.drawn_with-drawn.result ≡ (with_draw s c.args.caller k).drawn = rw (← c.self.view_is) at c.drawn_with-drawn.ensures in
    let some : find (λ (l : Look). is_held_by c.in-Some.unit l.status) p.looks.items ≡ Some c.in-Some-held_by.look =
    ap (find (λ (l : Look). is_held_by c.in-Some.unit l.status)) (sym c.deref.ensures.value) ∙ (sym c.held_by.ensures ∙ c.in-Some-held_by.is) in
    let left = commit_leaves s p.looks.items c.args.caller c.self.invariant.0 c.self.invariant.1 is_pass
    c.in-Some.unit c.in-Some-held_by.look some c.args.drafts.now c.in-Ok.ensures.whole c.requires.few c.ready-used.result c.drawn_with-drawn.result at count c.in-Some.is c.if-drafts-used.false in
    let outs_are = c.deref-4.ensures.value ∙ c.in-Ok.ensures.outputs in
    let applied = rw (c.deref_mut.ensures.value, c.in-Ok-extend_from_slice.ensures.items, c.deref-3.ensures.value, c.in-Ok-fresh_looks.ensures, c.deref-2.ensures.value, c.in-Ok.ensures.outputs, outs_are) at c.apply.ensures in
    let written = whole_write c.extend_from_slice.new.self.items c.apply.new.looks c.extend_from_slice.new.self.len (search rules) (c.apply.auto.looks ∙ ap length c.deref_mut.ensures.value) in
    rw (c.then-self-inside.ensures, outs_are) (left.0, written ∙ (applied ∙ left.1), rounds_commit p.limits p.history.events _ _ _ p.rounds.items c.self.invariant.2)

pub returns-clause-answer : goal.returns-clause-answer
returns-clause-answer c =
    let p = c.self.inside in
    let s : State = record { limits = p.limits; history = p.history.events; passes = p.passes.items; drawn = p.drawn } in
    let k = length c.args.drafts.now in
    let is_pass : c.args.caller < p.limits.parts = rw (← c.self.view_is) at c.requires.pass in
    let at : c.ready-used.result ≡ ready s c.args.caller k = rw (← c.self.view_is) at c.ready-used.ensures in
    let count : c.drawn_with-drawn.result ≡ (with_draw s c.args.caller k).drawn = rw (← c.self.view_is) at c.drawn_with-drawn.ensures in
    let some : find (λ (l : Look). is_held_by c.in-Some.unit l.status) p.looks.items ≡ Some c.in-Some-held_by.look =
    ap (find (λ (l : Look). is_held_by c.in-Some.unit l.status)) (sym c.deref.ensures.value) ∙ (sym c.held_by.ensures ∙ c.in-Some-held_by.is) in
    let left = commit_leaves s p.looks.items c.args.caller c.self.invariant.0 c.self.invariant.1 is_pass
    c.in-Some.unit c.in-Some-held_by.look some c.args.drafts.now c.in-Ok.ensures.whole c.requires.few c.ready-used.result c.drawn_with-drawn.result at count c.in-Some.is c.if-drafts-used.false in
    let outs_are = c.deref-4.ensures.value ∙ c.in-Ok.ensures.outputs in
    rw (← c.self.view_is, c.then-self-inside.ensures, outs_are, c.first_of.ensures) (c.in-Some.unit, left.2, left.3)

pub returns-clause-computed : goal.returns-clause-computed
returns-clause-computed c =
    let p = c.self.inside in
    let s : State = record { limits = p.limits; history = p.history.events; passes = p.passes.items; drawn = p.drawn } in
    let k = length c.args.drafts.now in
    let is_pass : c.args.caller < p.limits.parts = rw (← c.self.view_is) at c.requires.pass in
    let at : c.ready-used.result ≡ ready s c.args.caller k = rw (← c.self.view_is) at c.ready-used.ensures in
    let count : c.drawn_with-drawn.result ≡ (with_draw s c.args.caller k).drawn = rw (← c.self.view_is) at c.drawn_with-drawn.ensures in
    let some : find (λ (l : Look). is_held_by c.in-Some.unit l.status) p.looks.items ≡ Some c.in-Some-held_by.look =
    ap (find (λ (l : Look). is_held_by c.in-Some.unit l.status)) (sym c.deref.ensures.value) ∙ (sym c.held_by.ensures ∙ c.in-Some-held_by.is) in
    let left = commit_leaves s p.looks.items c.args.caller c.self.invariant.0 c.self.invariant.1 is_pass
    c.in-Some.unit c.in-Some-held_by.look some c.args.drafts.now c.in-Ok.ensures.whole c.requires.few c.ready-used.result c.drawn_with-drawn.result at count c.in-Some.is c.if-drafts-used.false in
    let outs_are = c.deref-4.ensures.value ∙ c.in-Ok.ensures.outputs in
    rw (← c.self.view_is, c.then-self-inside.ensures, outs_are, c.first_of.ensures) (ap (λ x. x.0) left.4, ap (λ x. x.1) (sym left.4))

pub returns-in_default-outputs_of-clause-answer : goal.returns-in_default-outputs_of-clause-answer
returns-in_default-outputs_of-clause-answer c =
    let p = c.self.inside in
    let s : State = record { limits = p.limits; history = p.history.events; passes = p.passes.items; drawn = p.drawn } in
    let k = length c.args.drafts.now in
    let is_pass : c.args.caller < p.limits.parts = rw (← c.self.view_is) at c.requires.pass in
    let at : c.ready-used.result ≡ ready s c.args.caller k = rw (← c.self.view_is) at c.ready-used.ensures in
    let some : find (λ (l : Look). is_held_by c.in-Some.unit l.status) p.looks.items ≡ Some c.in-Some-held_by.look =
    ap (find (λ (l : Look). is_held_by c.in-Some.unit l.status)) (sym c.deref.ensures.value) ∙ (sym c.held_by.ensures ∙ c.in-Some-held_by.is) in
    let left = undecided_leaves s p.looks.items c.args.caller k c.self.invariant.0 c.self.invariant.1 is_pass c.in-Some.unit c.ready-used.result at c.in-Some.is c.if-drafts-used.false c.in-Some-held_by.look some in
    rw (← c.self.view_is) (c.in-Some.unit, left.0, ((left.1, left.2), refl))

pub returns-in_default-fresh_looks-clause-answer : goal.returns-in_default-fresh_looks-clause-answer
returns-in_default-fresh_looks-clause-answer c =
    let p = c.self.inside in
    let s : State = record { limits = p.limits; history = p.history.events; passes = p.passes.items; drawn = p.drawn } in
    let k = length c.args.drafts.now in
    let is_pass : c.args.caller < p.limits.parts = rw (← c.self.view_is) at c.requires.pass in
    let at : c.ready-used.result ≡ ready s c.args.caller k = rw (← c.self.view_is) at c.ready-used.ensures in
    let some : find (λ (l : Look). is_held_by c.in-Some.unit l.status) p.looks.items ≡ Some c.in-Some-held_by.look =
    ap (find (λ (l : Look). is_held_by c.in-Some.unit l.status)) (sym c.deref.ensures.value) ∙ (sym c.held_by.ensures ∙ c.in-Some-held_by.is) in
    let left = undecided_leaves s p.looks.items c.args.caller k c.self.invariant.0 c.self.invariant.1 is_pass c.in-Some.unit c.ready-used.result at c.in-Some.is c.if-drafts-used.false c.in-Some-held_by.look some in
    rw (← c.self.view_is) (c.in-Some.unit, left.0, ((left.1, left.2), refl))

pub returns-in_default-extend_from_slice-clause-answer : goal.returns-in_default-extend_from_slice-clause-answer
returns-in_default-extend_from_slice-clause-answer c =
    let p = c.self.inside in
    let s : State = record { limits = p.limits; history = p.history.events; passes = p.passes.items; drawn = p.drawn } in
    let k = length c.args.drafts.now in
    let is_pass : c.args.caller < p.limits.parts = rw (← c.self.view_is) at c.requires.pass in
    let at : c.ready-used.result ≡ ready s c.args.caller k = rw (← c.self.view_is) at c.ready-used.ensures in
    let some : find (λ (l : Look). is_held_by c.in-Some.unit l.status) p.looks.items ≡ Some c.in-Some-held_by.look =
    ap (find (λ (l : Look). is_held_by c.in-Some.unit l.status)) (sym c.deref.ensures.value) ∙ (sym c.held_by.ensures ∙ c.in-Some-held_by.is) in
    let left = undecided_leaves s p.looks.items c.args.caller k c.self.invariant.0 c.self.invariant.1 is_pass c.in-Some.unit c.ready-used.result at c.in-Some.is c.if-drafts-used.false c.in-Some-held_by.look some in
    rw (← c.self.view_is) (c.in-Some.unit, left.0, ((left.1, left.2), refl))
