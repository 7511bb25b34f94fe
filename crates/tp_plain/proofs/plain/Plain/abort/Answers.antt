use Rattle.std.proofs.Common.{◌≡◌, ◌<◌, Some, None, length, sym, ◌∙◌, ap, rules}
use Rattle.std.specs.List.{find}
use Rattle.tp_model.specs.declared.types.Look.{Look}
use Rattle.tp_model.specs.declared.types.Ended.TheVariants as ended
use Rattle.tp_plain.specs.Looks.{is_held_by}
use Rattle.tp_plain.specs.OneThread.{State, pass_at, with_pass, freed}
use Rattle.tp_plain.specs.Computed.{abort_of}
use Rattle.tp_model.proofs.Lists.{whole_write}
use Rattle.tp_plain.proofs.UnitEnds.{abort_leaves, already_leaves}
use Rattle.tp_plain.proofs.Computations.{abort_already}
use Rattle.tp_plain.proofs.Requeues.{rounds_abort}
use Rattle.tp_plain.proofs.plain.Plain.abort.Goals as goal

pub invariant_of-self : goal.invariant_of-self
invariant_of-self c =
    let p = c.self.inside in
    let is_pass : c.args.caller < p.limits.parts = rw (← c.self.view_is) at c.requires.pass in
    let none : find (λ (l : Look). is_held_by c.in-Some.unit l.status) p.looks.items ≡ None =
    ap (find (λ (l : Look). is_held_by c.in-Some.unit l.status)) (sym c.deref.ensures.value) ∙ (sym c.held_by-held.ensures ∙ c.in-None.is) in
    let left = already_leaves p.limits p.history.events p.passes.items p.drawn p.looks.items c.args.caller c.self.invariant.0 c.self.invariant.1 is_pass
    c.index-used.result.now c.index-used.ensures c.in-Some.unit c.in-Some.is none in
    (left.0, c.self.invariant.1, c.self.invariant.2)

pub returns-in-None-clause-answer : goal.returns-in-None-clause-answer
returns-in-None-clause-answer c =
    let p = c.self.inside in
    let is_pass : c.args.caller < p.limits.parts = rw (← c.self.view_is) at c.requires.pass in
    let none : find (λ (l : Look). is_held_by c.in-Some.unit l.status) p.looks.items ≡ None =
    ap (find (λ (l : Look). is_held_by c.in-Some.unit l.status)) (sym c.deref.ensures.value) ∙ (sym c.held_by-held.ensures ∙ c.in-None.is) in
    let left = already_leaves p.limits p.history.events p.passes.items p.drawn p.looks.items c.args.caller c.self.invariant.0 c.self.invariant.1 is_pass
    c.index-used.result.now c.index-used.ensures c.in-Some.unit c.in-Some.is none in
    rw (← c.self.view_is) (c.in-Some.unit, left.2, (left.1, left.3))

pub returns-in-None-clause-computed : goal.returns-in-None-clause-computed
returns-in-None-clause-computed c =
    let p = c.self.inside in
    let is_pass : c.args.caller < p.limits.parts = rw (← c.self.view_is) at c.requires.pass in
    let none : find (λ (l : Look). is_held_by c.in-Some.unit l.status) p.looks.items ≡ None =
    ap (find (λ (l : Look). is_held_by c.in-Some.unit l.status)) (sym c.deref.ensures.value) ∙ (sym c.held_by-held.ensures ∙ c.in-None.is) in
    let left = already_leaves p.limits p.history.events p.passes.items p.drawn p.looks.items c.args.caller c.self.invariant.0 c.self.invariant.1 is_pass
    c.index-used.result.now c.index-used.ensures c.in-Some.unit c.in-Some.is none in
    let s : State = record { limits = p.limits; history = p.history.events; passes = p.passes.items; drawn = p.drawn } in
    let is : abort_of s c.args.caller ≡ (ended.AlreadyAborted, with_pass s c.args.caller (freed (pass_at s c.args.caller))) = abort_already s c.args.caller c.in-Some.unit left.2 left.1 in
    rw (← c.self.view_is) (ap (λ x. x.0) (sym is), left.3 ∙ ap (λ x. x.1) (sym is))

pub invariant_of-self-in-Some-held : goal.invariant_of-self-in-Some-held
invariant_of-self-in-Some-held c =
    let p = c.self.inside in
    let is_pass : c.args.caller < p.limits.parts = rw (← c.self.view_is) at c.requires.pass in
    let some : find (λ (l : Look). is_held_by c.in-Some.unit l.status) p.looks.items ≡ Some c.in-Some-held.field-0 =
    ap (find (λ (l : Look). is_held_by c.in-Some.unit l.status)) (sym c.deref.ensures.value) ∙ (sym c.held_by-held.ensures ∙ c.in-Some-held.is) in
    let left = abort_leaves p.limits p.history.events p.passes.items p.drawn p.looks.items c.args.caller c.self.invariant.0 c.self.invariant.1 is_pass
    c.index-used.result.now c.index-used.ensures c.in-Some.unit c.in-Some.is c.in-Some-held.field-0 some in
    let written = whole_write p.looks.items c.apply.new.looks p.looks.len (search rules) (c.apply.auto.looks ∙ ap length c.deref_mut.ensures.value) in
    let applied = rw c.deref_mut.ensures.value at c.apply.ensures in
    rw c.then-self-inside.ensures (left.0, written ∙ (applied ∙ left.1), rounds_abort p.limits p.history.events _ _ p.rounds.items c.self.invariant.2)

pub returns-in-Some-held-clause-answer : goal.returns-in-Some-held-clause-answer
returns-in-Some-held-clause-answer c =
    let p = c.self.inside in
    let is_pass : c.args.caller < p.limits.parts = rw (← c.self.view_is) at c.requires.pass in
    let some : find (λ (l : Look). is_held_by c.in-Some.unit l.status) p.looks.items ≡ Some c.in-Some-held.field-0 =
    ap (find (λ (l : Look). is_held_by c.in-Some.unit l.status)) (sym c.deref.ensures.value) ∙ (sym c.held_by-held.ensures ∙ c.in-Some-held.is) in
    let left = abort_leaves p.limits p.history.events p.passes.items p.drawn p.looks.items c.args.caller c.self.invariant.0 c.self.invariant.1 is_pass
    c.index-used.result.now c.index-used.ensures c.in-Some.unit c.in-Some.is c.in-Some-held.field-0 some in
    rw (← c.self.view_is, c.then-self-inside.ensures) (c.in-Some.unit, left.3, (left.2, left.4))

pub returns-in-Some-held-clause-computed : goal.returns-in-Some-held-clause-computed
returns-in-Some-held-clause-computed c =
    let p = c.self.inside in
    let is_pass : c.args.caller < p.limits.parts = rw (← c.self.view_is) at c.requires.pass in
    let some : find (λ (l : Look). is_held_by c.in-Some.unit l.status) p.looks.items ≡ Some c.in-Some-held.field-0 =
    ap (find (λ (l : Look). is_held_by c.in-Some.unit l.status)) (sym c.deref.ensures.value) ∙ (sym c.held_by-held.ensures ∙ c.in-Some-held.is) in
    let left = abort_leaves p.limits p.history.events p.passes.items p.drawn p.looks.items c.args.caller c.self.invariant.0 c.self.invariant.1 is_pass
    c.index-used.result.now c.index-used.ensures c.in-Some.unit c.in-Some.is c.in-Some-held.field-0 some in
    rw (← c.self.view_is, c.then-self-inside.ensures) (ap (λ x. x.0) (sym left.5), left.4 ∙ ap (λ x. x.1) (sym left.5))
