use Rattle.std.proofs.Common.{◌∙◌, ap, length, refl, sym}
use Rattle.std.proofs.lemmas.List.{with_items_is}
use Rattle.tp_crew.specs.Crew.{folds}
use Rattle.tp_manager.specs.Shown.{numbers}
use Rattle.tp_crew.proofs.CrewLemmas.{all_same, next_steady, same_length, served_drained}
use Rattle.tp_crew.proofs.crew.Crew.drain.Goals as goal

pub returns-clause-steady : goal.returns-clause-steady
returns-clause-steady g c =
    let old = c.args.self.now in
    let numbered = c.drain_desks.ensures.numbered ∙ ap numbers c.deref_mut.ensures.value in
    let long = same_length old.managed.passes.items c.drain_desks.new.passes numbered in
    let boxed = c.drain_desks.ensures.kept ∙ ap length c.deref_mut-2.ensures.value in
    next_steady _ _ _ old _ c.drain_desks.new.passes c.drain_desks.new.boxes c.requires.steady refl refl refl
    (with_items_is old.managed.passes c.drain_desks.new.passes (long ∙ sym old.managed.passes.ok.0))
    (with_items_is old.boxes c.drain_desks.new.boxes (boxed ∙ sym old.boxes.ok.0))
    c.requires.steady.managed.keeper (all_same old.managed.keeper old.managed.passes.items c.drain_desks.new.passes numbered c.requires.steady.managed.all) long
    c.drain_desks.ensures.free boxed c.drain_desks.ensures.clear
    (served_drained _ _ _ old.managed.manager (folds old) old.managed.passes.items c.deref_mut.result.now old.boxes.items c.deref_mut-2.result.now _ c.drain_desks.new.passes c.drain_desks.new.boxes c.args.order c.deref_mut.ensures.value c.deref_mut-2.ensures.value c.drain_desks.ensures.kept c.requires.steady.served c.drain_desks.ensures.desks.2)
