use Rattle.std.proofs.Common.{◌∙◌, ap, length, refl, sym}
use Rattle.std.proofs.lemmas.List.{with_items_is}
use Rattle.tp_crew.specs.Crew.{folds}
use Rattle.tp_manager.specs.Shown.{numbers}
use Rattle.tp_crew.proofs.CrewLemmas.{all_same, next_steady, same_length, served_shift}
use Rattle.tp_crew.proofs.crew.Crew.shift.Goals as goal

pub returns-clause-steady : goal.returns-clause-steady
returns-clause-steady g c =
    let old = c.args.self.now in
    let numbered = c.shift_all.ensures.numbered ∙ ap numbers c.deref_mut.ensures.value in
    let long = same_length old.managed.passes.items c.shift_all.new.passes numbered in
    let boxed = c.shift_all.ensures.kept ∙ ap length c.deref_mut-2.ensures.value in
    next_steady _ _ _ old _ c.shift_all.new.passes c.shift_all.new.boxes c.requires.steady refl refl refl
    (with_items_is old.managed.passes c.shift_all.new.passes (long ∙ sym old.managed.passes.ok.0))
    (with_items_is old.boxes c.shift_all.new.boxes (boxed ∙ sym old.boxes.ok.0))
    c.requires.steady.managed.keeper (all_same old.managed.keeper old.managed.passes.items c.shift_all.new.passes numbered c.requires.steady.managed.all) long
    c.shift_all.ensures.free boxed c.shift_all.ensures.clear
    (served_shift _ _ _ old.managed.manager (folds old) old.managed.passes.items c.deref_mut.result.now old.boxes.items c.deref_mut-2.result.now _ c.shift_all.new.passes c.shift_all.new.boxes _ c.deref_mut.ensures.value c.deref_mut-2.ensures.value c.shift_all.ensures.kept c.requires.steady.served c.shift_all.ensures.desks)
