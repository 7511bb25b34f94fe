use Rattle.std.proofs.Common.{ap, arith, length, subst, sym}
use Rattle.tp_model.specs.Steps.{rows_of}
use Rattle.tp_plain.specs.OneThread.{start}
use Rattle.tp_rollover.specs.Bounds.{alive_after}
use Rattle.tp_rollover.specs.Survivors.{AreInHand, AreSurvivors}
use Rattle.tp_rollover.proofs.Assembly.{if_ok}
use Rattle.tp_rollover.proofs.FoundFit.{found_fit}
use Rattle.tp_rollover.proofs.MadeAlike.{differs_so, unless_so}
use Rattle.tp_rollover.proofs.MadeAnew.{on_ok}
use Rattle.tp_rollover.proofs.StandsAnew.{none_computed}
use Rattle.tp_rollover.proofs.Roots.{fewer}
use Rattle.tp_rollover.proofs.Stopping.{if_err}
use Rattle.tp_rollover.proofs.Sums.{most_for}
use Rattle.tp_rollover.proofs.rolling.prepare.Goals as goal

pub returns-clause-lone : goal.returns-clause-lone
returns-clause-lone c = on_ok c.stand_again.result _ (record { kept = c.find_all.ensures.keeper.0; own = c.find_all.ensures.own; together = c.find_all.ensures.together })

pub returns-clause-steps : goal.returns-clause-steps
returns-clause-steps c =
    let k = c.args.new.now.limits in
    let long = ap length c.deref.ensures.value in
    let enough = c.in_ok-find_all.ensures.few in (
      c.find_all.ensures.steps,
      most_for k c.args.new_keeper.now.given (length c.deref.result.now) (alive_after c.args.old.now.limits.attempts c.find_all.new.keeper.seen) c.args.new_keeper.now c.stand_again.new.keeper c.args.new_passes.now c.stand_again.new.passes (omega (arith, long, enough)) c.stand_again.ensures.steps,
    )

pub returns-clause-ready : goal.returns-clause-ready
returns-clause-ready c =
    let e = c.in_ok-find_all.ensures in
    if_ok c.stand_again.result _ _ (λ _ t. record {
      history = c.find_all.ensures.history;
      old_together = c.find_all.ensures.together;
      new_together = t.together;
      survivors = c.deref.result.now;
      found = subst (AreSurvivors c.args.old.now.limits c.find_all.new.keeper.seen) (sym c.deref.ensures.value) e.found;
      in_hand = subst (AreInHand c.args.old_passes.now) (sym c.deref.ensures.value) e.in_hand;
      again = t.again;
      hands = t.hands;
      some = c.find_all.ensures.some;
    }) c.stand_again.ensures.restored

pub returns-clause-computed : goal.returns-clause-computed
returns-clause-computed c fresh =
    let e = c.in_ok-find_all.ensures in
    unless_so c.stand_again.result _ _ _ _ (c.stand_again.ensures.computed fresh) (λ _ made. record {
      keeper = c.find_all.new.keeper;
      looked = c.find_all.new.passes;
      together = c.find_all.ensures.together;
      stay = e.stays;
      survivors = c.deref.result.now;
      found = subst (AreSurvivors c.args.old.now.limits c.find_all.new.keeper.seen) (sym c.deref.ensures.value) e.found;
      in_hand = subst (AreInHand c.args.old_passes.now) (sym c.deref.ensures.value) e.in_hand;
      made = made;
    })

pub returns-clause-unfit : goal.returns-clause-unfit
returns-clause-unfit c limits fresh =
    let e = c.in_ok-find_all.ensures in
    let l = c.args.old.now.limits in
    let k = c.args.new.now.limits in
    let h = c.find_all.new.keeper.seen in
    let ss = c.deref.result.now in
    let p = length c.args.new_passes.now in
    let found = subst (AreSurvivors l h) (sym c.deref.ensures.value) e.found in
    let legal = c.find_all.ensures.together.legal in
    let same = c.requires.alike in
    let some = limits.attempts.0 in
    let fit = found_fit l k h (omega (arith, some, same)) same legal ss found in
    differs_so l p ss (start k) c.stand_again.result _ _ (c.stand_again.ensures.computed fresh) (λ stop differs not. record {
      keeper = c.find_all.new.keeper;
      looked = c.find_all.new.passes;
      together = c.find_all.ensures.together;
      stay = e.stays;
      survivors = ss;
      found = found;
      in_hand = subst (AreInHand c.args.old_passes.now) (sym c.deref.ensures.value) e.in_hand;
      full = none_computed l l k h p ss limits same c.stand_again.ensures.parts legal found fit (differs not fit);
    })

pub returns-clause-memory : goal.returns-clause-memory
returns-clause-memory c =
    let l = c.args.old.now.limits in
    let long = ap length c.deref.ensures.value in
    let rows = c.in_ok-find_all.ensures.rows in
    if_err c.stand_again.result _ _ (λ stop lacks is has. lacks is (fewer l c.args.new.now.limits (length c.deref.result.now) (rows_of l) c.args.space.now.restore (omega (arith, long, rows)) has.restore)) c.stand_again.ensures.memory
