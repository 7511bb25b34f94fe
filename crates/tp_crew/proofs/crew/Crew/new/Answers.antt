use Rattle.std.proofs.Common.{◌≤◌, ◌∙◌, ap, length, refl, subst}
use Rattle.tp_model.specs.declared.types.Limits.{Limits}
use Rattle.tp_crew.proofs.CrewLemmas.{exact, served_first, served_same}
use Rattle.tp_crew.proofs.Rollings.{both_all}
use Rattle.tp_crew.proofs.crew.Crew.new.Goals as goal

pub returns-clause-steady : goal.returns-clause-steady
returns-clause-steady g c =
    let made = c.in_ok-managed.managed in
    let e = c.in_ok-managed.ensures in
    let parts = ap (λ (l : Limits). l.parts) (e.limits ∙ c.with_parts.ensures) in
    let within : c.passes_for-parts.result ≤ 32 = subst (λ (n : _). n ≤ 32) parts e.managed.limits.parts.1 in
    let long = e.managed.parts ∙ (parts ∙ exact _ c.passes_for-parts.result c.passes_for-parts.ensures.few c.passes_for-parts.ensures.many within) in
    let begins = rw (c.deref.ensures.value, c.deref-2.ensures.value) at c.in-Ok.ensures.begun in
    record {
      managed = e.managed;
      free = both_all made.manager made.passes.items e.managed.own e.free;
      count = rw (long, c.len.ensures, c.args.boxes.ok.0) refl;
      clear = c.requires.clear;
      same_count = c.in-Ok.ensures.count ∙ ap length c.deref-2.ensures.value;
      served = served_same _ _ {ps = made.passes.items} {us = c.args.boxes.items} begins refl refl (served_first _ _ made.passes.items c.args.boxes.items e.new);
    }
