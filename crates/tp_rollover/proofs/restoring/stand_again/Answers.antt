use Rattle.std.proofs.Common.{◌≡◌, ◌∙◌, ◌<◌, ◌≤◌, List, None, Option, Some, ap, length, refl, subst, sym}
use Rattle.std.specs.Option.{option_and_then}
use Rattle.tp_plain.specs.OneThread.{State, start}
use Rattle.tp_rollover.specs.Anew.{all_held, made_anew, made_unheld}
use Rattle.tp_rollover.specs.Carries.{DiffersAnew}
use Rattle.tp_rollover.specs.Lone.{lone}
use Rattle.tp_rollover.specs.declared.moved.Moved.{Moved}
use Rattle.tp_rollover.proofs.Idling.{unheld_idle}
use Rattle.tp_rollover.specs.Alike.{StandsUnheld}
use Rattle.tp_rollover.proofs.Lists.{zip_as_many}
use Rattle.tp_rollover.proofs.MadeAlike.{all_free, none_anew, none_first, unless_first}
use Rattle.tp_rollover.proofs.Carrying.{are_holders}
use Rattle.tp_rollover.proofs.Holding.{held_again, stands_free}
use Rattle.tp_rollover.proofs.MadeAnew.{made_held, made_so_far}
use Rattle.tp_rollover.proofs.Standing.{are_hands, none_in_hand, stand_again, thread_long}
use Rattle.tp_rollover.proofs.Sums.{held_by, held_within}
use Rattle.tp_rollover.proofs.restoring.stand_again.Goals as goal

pub hold_all-requires : goal.hold_all-requires
hold_all-requires c = record { lone = record { kept = c.stand_unheld.ensures.keeper.0; own = c.stand_unheld.ensures.own; together = c.in_ok-stand_unheld.ensures.together }; many = ap length c.deref.ensures.value ∙ zip_as_many (StandsUnheld c.args.manager.now.limits.attempts c.stand_unheld.new.keeper.seen) c.args.survivors.now c.stand_unheld.new.space.moved.items c.in_ok-stand_unheld.ensures.restored.each }

pub returns-in_err-stand_unheld-clause-computed : goal.returns-in_err-stand_unheld-clause-computed
returns-in_err-stand_unheld-clause-computed c fresh =
    let l = c.args.of.now.limits in
    let p = length c.args.passes.now in
    let ss = c.args.survivors.now in
    let s = start c.args.manager.now.limits in
    let rest : List Moved × State → Option (List Moved × State) = λ x. option_and_then (λ done. Some (x.0, done)) (all_held p ss x.0 x.1) in
    unless_first _ _ (made_unheld l p ss s) (made_anew l p ss s) (DiffersAnew l p ss s) (λ none. ap (option_and_then rest) none) (DiffersAnew l p ss s) c.from_residual.result c.in_err-stand_unheld.field-0.0 c.from_residual.ensures.1
    (λ w. w) (c.in_err-stand_unheld.ensures.computed fresh)

pub returns-in_err-hold_all-clause-computed : goal.returns-in_err-hold_all-clause-computed
returns-in_err-hold_all-clause-computed c fresh =
    let m = c.args.manager.now in
    let l = c.args.of.now.limits in
    let p = length c.args.passes.now in
    let ss = c.args.survivors.now in
    let s = start m.limits in
    let t = lone m c.stand_unheld.new.keeper c.stand_unheld.new.passes in
    let q = length c.stand_unheld.new.passes in
    let moved = c.deref.result.now in
    let long = c.stand_unheld.ensures.all.0 ∙ (c.stand_unheld.ensures.keeper.1 ∙ sym c.requires.all.0) in
    let made = subst (λ ms. made_unheld l p ss s ≡ Some (ms, t)) (sym c.deref.ensures.value) (c.in_ok-stand_unheld.ensures.computed fresh) in
    let none : all_held q ss moved t ≡ None → made_anew l p ss s ≡ None = λ x. made_held l p q ss s t moved long made ∙ ap (option_and_then (λ done. Some (moved, done))) x in
    none_first _ _ (all_held q ss moved t) (made_anew l p ss s) (DiffersAnew l p ss s) none c.from_residual-in_err-hold_all.result c.in_err-hold_all.field-0.0 c.from_residual-in_err-hold_all.ensures.1 (none_anew l p ss s) c.in_err-hold_all.ensures.gives

pub returns-then-has_open-clause-computed : goal.returns-then-has_open-clause-computed
returns-then-has_open-clause-computed c fresh fit alike =
    let k = c.args.manager.now.limits in
    let t = lone c.args.manager.now c.stand_unheld.new.keeper c.stand_unheld.new.passes in
    c.if-has_open.ensures.busy refl (all_free k c.stand_unheld.new.passes c.stand_unheld.new.keeper.seen
    (λ i less. unheld_idle c.args.of.now.limits k (length c.args.passes.now) c.args.survivors.now c.stand_unheld.new.space.moved.items t (c.in_ok-stand_unheld.ensures.computed fresh) i))

pub returns-clause-computed : goal.returns-clause-computed
returns-clause-computed c fresh =
    let m = c.args.manager.now in
    let p = length c.args.passes.now in
    let t = lone m c.stand_unheld.new.keeper c.stand_unheld.new.passes in
    let done = lone m c.hold_all.new.keeper c.hold_all.new.passes in
    let long = c.stand_unheld.ensures.all.0 ∙ (c.stand_unheld.ensures.keeper.1 ∙ sym c.requires.all.0) in
    made_so_far c.args.of.now.limits p (length c.stand_unheld.new.passes) c.args.survivors.now (start m.limits) t c.stand_unheld.new.space.moved.items long (c.in_ok-stand_unheld.ensures.computed fresh) done
    (subst (λ (ms : List Moved). all_held (length c.stand_unheld.new.passes) c.args.survivors.now ms t ≡ Some done) c.deref.ensures.value c.in_ok-hold_all.ensures.gives)

pub returns-in_err-hold_all-clause-steps : goal.returns-in_err-hold_all-clause-steps
returns-in_err-hold_all-clause-steps c =
    held_within c.args.manager.now.limits c.args.keeper.now.given c.args.survivors.now c.args.keeper.now c.stand_unheld.new.keeper c.hold_all.new.keeper c.args.passes.now c.stand_unheld.new.passes c.hold_all.new.passes
    c.in_ok-stand_unheld.ensures.replayed c.stand_unheld.ensures.keeper.1 c.hold_all.ensures.steps c.in_ok-stand_unheld.ensures.within

pub returns-clause-steps : goal.returns-clause-steps
returns-clause-steps c =
    held_within c.args.manager.now.limits c.args.keeper.now.given c.args.survivors.now c.args.keeper.now c.stand_unheld.new.keeper c.hold_all.new.keeper c.args.passes.now c.stand_unheld.new.passes c.hold_all.new.passes
    c.in_ok-stand_unheld.ensures.replayed c.stand_unheld.ensures.keeper.1 c.hold_all.ensures.steps c.in_ok-stand_unheld.ensures.within

pub returns-clause-restored : goal.returns-clause-restored
returns-clause-restored c =
    let m = c.args.manager.now in
    let ps = c.stand_unheld.new.passes in
    let qs = c.hold_all.new.passes in
    let moved = c.stand_unheld.new.space.moved.items in
    let free = lone m c.stand_unheld.new.keeper ps in
    let done = lone m c.hold_all.new.keeper qs in
    let unheld = c.in_ok-stand_unheld.ensures.restored in
    let all = c.hold_all.ensures.lone.0.together.all in
    let long = all.0 ∙ (c.hold_all.ensures.lone.1 ∙ sym c.stand_unheld.ensures.all.0) in
    let held = subst (λ (ms : List Moved). all_held (length ps) c.args.survivors.now ms free ≡ Some done) c.deref.ensures.value c.in_ok-hold_all.ensures.gives in
    let many = subst (λ n. n ≤ length free.passes) (sym long) (thread_long m.limits ps c.stand_unheld.new.keeper.seen) in
    let held' = subst (λ n. all_held n c.args.survivors.now moved free ≡ Some done) (sym long) held in
    let holds = held_again (length qs) c.args.survivors.now moved free done 0 many unheld.once.1 (stands_free m.limits free c.args.survivors.now moved refl unheld.each) held' in
    let again = stand_again (length qs) free done c.args.survivors.now moved unheld holds in
    let hands = are_hands m.limits qs c.hold_all.new.keeper.seen all.1 free c.args.survivors.now moved
    (λ d less. none_in_hand m.limits ps c.stand_unheld.new.keeper.seen c.stand_unheld.ensures.all.1 (c.if-has_open.ensures.free refl) d (subst (λ n. d < n) long less)) holds in
    record {
      again = again;
      hands = hands;
      holders = are_holders m.limits c.hold_all.new.keeper.seen qs c.args.survivors.now moved again.each hands;
      together = c.hold_all.ensures.lone.0.together;
    }

pub returns-clause-replayed : goal.returns-clause-replayed
returns-clause-replayed c =
    held_by c.args.manager.now.limits c.args.keeper.now.given c.args.survivors.now c.args.keeper.now c.stand_unheld.new.keeper c.hold_all.new.keeper c.args.passes.now c.stand_unheld.new.passes c.hold_all.new.passes
    c.in_ok-stand_unheld.ensures.replayed c.stand_unheld.ensures.keeper.1 c.hold_all.ensures.steps c.hold_all.new.keeper.seen c.stand_unheld.new.space.moved.items (returns-clause-restored c).again.each
