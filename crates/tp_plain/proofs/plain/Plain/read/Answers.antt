use Rattle.std.proofs.Common.{◌≡◌, ◌==◌, Some, None, refl, sym, ◌∙◌, ap}
use Rattle.std.specs.List.{find}
use Rattle.tp_model.specs.declared.types.Look.{Look}
use Rattle.tp_plain.specs.OneThread.{State}
use Rattle.tp_plain.proofs.PlainLemmas.{shown, missing}
use Rattle.tp_plain.proofs.Computations.{read_shows, read_misses}
use Rattle.tp_plain.proofs.plain.Plain.read.Goals as goal

pub returns-in-Some : goal.returns-in-Some
returns-in-Some c =
    let p = c.self.inside in
    let s : State = record { limits = p.limits; history = p.history.events; passes = p.passes.items; drawn = p.drawn } in
    let is : find (λ (l : Look). l.element.id == c.args.id) p.looks.items ≡ Some c.in-Some.look =
    ap (find (λ (l : Look). l.element.id == c.args.id)) (sym c.deref.ensures.value) ∙ (sym c.look_of.ensures ∙ c.in-Some.is) in
    let seen = shown p.limits.attempts p.history.events p.looks.items c.self.invariant.1 c.args.id c.in-Some.look is in
    record {
      answer = (rw (← c.self.view_is) (record { element = seen.0; status = seen.1 }), refl);
      computed = rw (← c.self.view_is) (sym (read_shows s c.args.id c.in-Some.look seen.0 seen.1));
    }

pub returns-in-None : goal.returns-in-None
returns-in-None c =
    let p = c.self.inside in
    let s : State = record { limits = p.limits; history = p.history.events; passes = p.passes.items; drawn = p.drawn } in
    let is : find (λ (l : Look). l.element.id == c.args.id) p.looks.items ≡ None =
    ap (find (λ (l : Look). l.element.id == c.args.id)) (sym c.deref.ensures.value) ∙ (sym c.look_of.ensures ∙ c.in-None.is) in
    let none = missing p.limits.attempts p.history.events p.looks.items c.self.invariant.1 c.args.id is in
    record {
      answer = (rw (← c.self.view_is) none, refl);
      computed = rw (← c.self.view_is) (sym (read_misses s c.args.id none));
    }
