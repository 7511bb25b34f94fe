use Rattle.std.proofs.Common.{◌≡◌, ◌∙◌, length, refl, subst, sym}
use Rattle.std.specs.List.{AllZip}
use Rattle.std.proofs.lemmas.List.{with_items_is}
use Rattle.tp_rollover.specs.Thread.{Stays}
use Rattle.tp_rollover.proofs.Assembly.{gathered, stay_trans}
use Rattle.tp_crew.specs.Rolling.{RefusedSteps}
use Rattle.tp_crew.proofs.CrewLemmas.{stayed_steady}
use Rattle.tp_crew.proofs.Rollings.{gathered_after, rolled_free, rolled_steady, show_each, stays_free}
use Rattle.tp_crew.proofs.crew.Crew.roll_over.Goals as goal

pub returns-in-Ok-clause-steady : goal.returns-in-Ok-clause-steady
returns-in-Ok-clause-steady g c =
    let old = c.args.self.now in
    let m = c.roll_over.new.self in
    let e = c.in-Ok.ensures in
    let begins = rw (c.deref.ensures.value, c.deref-in-Ok.ensures.value) at c.begin_all.ensures.begun in
    let free = rolled_free old.managed.manager.limits m.manager.limits old.managed.manager m.manager e.moved.keeper m.keeper old.managed.passes.items e.moved.passes m.passes.items _ e.moved.rolls c.requires.steady.free e.managed.own in
    rolled_steady _ _ _ old _ _ _ c.requires.steady refl refl e.limits e.managed free e.moved.rolls.new_together c.begin_all.ensures.kept begins

pub returns-in-Err-clause-steady : goal.returns-in-Err-clause-steady
returns-in-Err-clause-steady g c =
    let old = c.args.self.now in
    let m = c.roll_over.new.self in
    let e = c.in-Err.ensures in
    let qs = c.gather.new.passes in
    let same = e.refused.manager in
    let t = gathered m.manager _ m.keeper c.gather.new.self c.deref_mut.result.now qs c.gather.ensures.gathers c.gather.ensures.all c.gather.ensures.keeper.1 c.gather.ensures.own in
    let looked : AllZip Stays old.managed.passes.items c.deref_mut.result.now = subst (λ ps. AllZip Stays old.managed.passes.items ps) (sym c.deref_mut.ensures.value) e.refused.passes in
    let stays = stay_trans old.managed.passes.items c.deref_mut.result.now qs looked t.1 in
    let short : length qs ≡ length m.passes.items = c.gather.ensures.all.0 ∙ (c.gather.ensures.keeper.1 ∙ sym e.managed.all.0) in
    let long : length qs ≡ length old.managed.passes.items = c.gather.ensures.all.0 ∙ (c.gather.ensures.keeper.1 ∙ (e.refused.given ∙ sym c.requires.steady.managed.all.0)) in
    stayed_steady _ _ _ old _ qs c.requires.steady same refl refl refl (with_items_is m.passes qs (short ∙ sym m.passes.ok.0))
    (rw (same) at c.gather.ensures.keeper.0) c.gather.ensures.all long
    (stays_free old.managed.manager old.managed.passes.items qs stays c.requires.steady.free (rw (same) at c.gather.ensures.own)) stays
    (show_each m.manager.limits c.gather.new.self qs c.gather.new.self.seen t.0)

pub returns-in-Err-clause-refused : goal.returns-in-Err-clause-refused
returns-in-Err-clause-refused g c =
    let old = c.args.self.now in
    let m = c.roll_over.new.self in
    let e = c.in-Err.ensures in
    let qs = c.gather.new.passes in
    let t = gathered m.manager _ m.keeper c.gather.new.self c.deref_mut.result.now qs c.gather.ensures.gathers c.gather.ensures.all c.gather.ensures.keeper.1 c.gather.ensures.own in
    let looked : AllZip Stays old.managed.passes.items c.deref_mut.result.now = subst (λ ps. AllZip Stays old.managed.passes.items ps) (sym c.deref_mut.ensures.value) e.refused.passes in
    let short : length qs ≡ length m.passes.items = c.gather.ensures.all.0 ∙ (c.gather.ensures.keeper.1 ∙ sym e.managed.all.0) in
    let now = with_items_is m.passes qs (short ∙ sym m.passes.ok.0) in
    record {
      same = record { manager = e.refused.manager; boxes = refl; clients = refl; starts = refl };
      boxes = refl;
      stays = record {
        manager = e.refused.manager;
        given = c.gather.ensures.keeper.1 ∙ e.refused.given;
        passes = subst (λ ps. AllZip Stays old.managed.passes.items ps) (sym now) (stay_trans old.managed.passes.items c.deref_mut.result.now qs looked t.1);
      };
    }

pub returns-in-Err-clause-refused_steps : goal.returns-in-Err-clause-refused_steps
returns-in-Err-clause-refused_steps g c =
    let old = c.args.self.now in
    let m = c.roll_over.new.self in
    let h = c.requires.steady.managed in
    let e = c.in-Err.ensures in
    let d = c.gather.ensures in
    let qs = c.gather.new.passes in
    let l = old.managed.manager.limits in
    let short : length qs ≡ length m.passes.items = d.all.0 ∙ (d.keeper.1 ∙ sym e.managed.all.0) in
    let now = with_items_is m.passes qs (short ∙ sym m.passes.ok.0) in
    let steps = gathered_after l m.keeper.seen old.managed.keeper m.keeper c.gather.new.self old.managed.passes.items m.passes.items qs
    (e.refused.given ∙ (sym h.all.0 ∙ h.parts)) e.managed.all d.all d.keeper.1 (rw (e.limits, c.deref_mut.ensures.value) at d.steps) e.refused_steps in
    record {
      point = m.keeper.seen;
      seen = d.gathers.begins;
      steps = subst (λ ps. RefusedSteps l m.keeper.seen old.managed.keeper old.managed.passes.items c.gather.new.self ps) (sym now) steps;
    }
