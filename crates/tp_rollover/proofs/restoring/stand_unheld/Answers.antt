use Rattle.std.proofs.Common.{◌≡◌, ◌∙◌, ℕ, ◌≤◌, All, List, None, Some, ap, arith, length, refl, subst, sym}
use Rattle.tp_model.specs.declared.types.Account.{Account}
use Rattle.tp_plain.specs.OneThread.{start}
use Rattle.tp_manager.specs.Bounds.{account_steps, gather_steps}
use Rattle.tp_rollover.specs.Alike.{StandAlike}
use Rattle.std.specs.Option.{option_and_then}
use Rattle.tp_model.specs.Counts.{counts}
use Rattle.tp_rollover.specs.Anew.{all_born, all_replayed, kept_for, made_unheld}
use Rattle.tp_rollover.specs.Carries.{DiffersAnew}
use Rattle.tp_rollover.specs.Finding.{StopsFirst}
use Rattle.tp_rollover.specs.Fits.{AreFit}
use Rattle.tp_rollover.specs.Checks.{CountsOnly}
use Rattle.tp_rollover.specs.Lone.{lone}
use Rattle.tp_rollover.specs.declared.moved.Moved.{Moved}
use Rattle.tp_rollover.proofs.Agreeing.{as_long}
use Rattle.tp_rollover.proofs.Assembly.{all_numbers, restored, stays_numbers}
use Rattle.tp_rollover.proofs.MadeAlike.{differs_count, held_told, none_first, none_unheld, seen_same, stops_alike, unless_first}
use Rattle.tp_manager.specs.Accounts.{AreAll, Gathers}
use Rattle.tp_manager.specs.Shown.{IsKeptBy, IsOf, KeeperShown, ManagerShown, PassShown}
use Rattle.tp_rollover.proofs.MadeAnew.{as_many, few_parts, from_born, lone_first, made_all, made_born, made_then, starts, still_lone}
use Rattle.tp_rollover.proofs.Sums.{again_born, again_by, again_counted, again_gathered, again_replayed, all_make}
use Rattle.tp_rollover.specs.Space.{AreWithin}
use Rattle.tp_rollover.proofs.Roots.{differs_roots, holds_roots}
use Rattle.tp_model.specs.Steps.{rows_of}
use Rattle.tp_rollover.proofs.restoring.stand_unheld.Goals as goal

pub bear_all-requires : goal.bear_all-requires
bear_all-requires c = record { lone = lone_first c.args.manager.now _ c.args.keeper.now c.gather.new.self c.args.passes.now c.gather.new.passes c.gather.ensures.gathers c.gather.ensures.all c.gather.ensures.keeper c.gather.ensures.own }

pub returns-in_err-bear_all-clause-computed : goal.returns-in_err-bear_all-clause-computed
returns-in_err-bear_all-clause-computed c fresh =
    let m = c.args.manager.now in
    let l = c.args.of.now.limits in
    let p = length c.args.passes.now in
    let ss = c.args.survivors.now in
    let g = c.gather.ensures in
    let long = as_many m _ c.args.keeper.now c.gather.new.self c.args.passes.now c.gather.new.passes g.gathers g.all g.keeper g.own in
    let begins = starts m _ c.args.keeper.now c.gather.new.self c.args.passes.now c.gather.new.passes g.gathers g.all g.keeper g.own fresh in
    let t = lone m c.gather.new.self c.gather.new.passes in
    let q = length c.gather.new.passes in
    let none : all_born l q ss t ≡ None → made_unheld l p ss (start m.limits) ≡ None = λ x. made_born l p q ss (start m.limits) t long begins ∙ ap (option_and_then (from_born l p q ss (start m.limits) t long begins)) x in
    unless_first _ _ (all_born l q ss t) (made_unheld l p ss (start m.limits)) (DiffersAnew l p ss (start m.limits)) none (AreFit l m.limits ss → all_born l q ss t ≡ None) c.from_residual.result c.in_err-bear_all.field-0.0 c.from_residual.ensures.1
    (λ w fit. none_unheld l p ss (start m.limits) (none (w fit)) fit) c.in_err-bear_all.ensures.gives

pub returns-in_err-bear_all-clause-steps : goal.returns-in_err-bear_all-clause-steps
returns-in_err-bear_all-clause-steps c =
    let l = c.args.manager.now.limits in
    let q = c.args.keeper.now.given in
    again_born l q (length c.args.survivors.now) c.args.keeper.now c.gather.new.self c.bear_all.new.keeper c.args.passes.now c.gather.new.passes c.bear_all.new.passes
    (all_make (gather_steps l q) c.args.keeper.now c.gather.new.self c.args.passes.now c.gather.new.passes c.requires.all c.gather.ensures.all c.gather.ensures.keeper.1 c.gather.ensures.steps) c.gather.ensures.keeper.1 c.bear_all.ensures.steps

pub returns-in_err-replay_all-clause-computed : goal.returns-in_err-replay_all-clause-computed
returns-in_err-replay_all-clause-computed c fresh =
    let m = c.args.manager.now in
    let l = c.args.of.now.limits in
    let p = length c.args.passes.now in
    let ss = c.args.survivors.now in
    let g = c.gather.ensures in
    let long = as_many m _ c.args.keeper.now c.gather.new.self c.args.passes.now c.gather.new.passes g.gathers g.all g.keeper g.own in
    let long' = as_long m c.gather.new.self c.bear_all.new.keeper c.gather.new.passes c.bear_all.new.passes (lone_first m _ c.args.keeper.now c.gather.new.self c.args.passes.now c.gather.new.passes g.gathers g.all g.keeper g.own) c.bear_all.ensures.lone.0 c.bear_all.ensures.lone.1 ∙ long in
    let begins = starts m _ c.args.keeper.now c.gather.new.self c.args.passes.now c.gather.new.passes g.gathers g.all g.keeper g.own fresh in
    let t = lone m c.gather.new.self c.gather.new.passes in
    let u = lone m c.bear_all.new.keeper c.bear_all.new.passes in
    let q = length c.gather.new.passes in
    let born = subst (λ ms. all_born l q ss t ≡ Some (ms, u)) (sym c.deref.ensures.value) c.in_ok-bear_all.ensures.gives in
    let replays = all_replayed (length c.bear_all.new.passes) (kept_for ss) m.limits.attempts ss c.deref.result.now (0, u) in
    let none : replays ≡ None → made_unheld l p ss (start m.limits) ≡ None =
    λ x. made_then l p q ss (start m.limits) t long begins c.deref.result.now u born (length c.bear_all.new.passes) long' ∙ ap (option_and_then (λ done. Some (c.deref.result.now, done))) x in
    none_first _ _ replays (made_unheld l p ss (start m.limits)) (DiffersAnew l p ss (start m.limits)) none c.from_residual-in_err-replay_all.result c.in_err-replay_all.field-0.0 c.from_residual-in_err-replay_all.ensures.1
    (none_unheld l p ss (start m.limits)) c.in_err-replay_all.ensures.gives

pub returns-in_err-replay_all-clause-steps : goal.returns-in_err-replay_all-clause-steps
returns-in_err-replay_all-clause-steps c =
    let l = c.args.manager.now.limits in
    let q = c.args.keeper.now.given in
    again_replayed l q (length c.args.survivors.now) c.args.keeper.now c.gather.new.self c.bear_all.new.keeper c.args.passes.now c.gather.new.passes c.bear_all.new.passes
    (all_make (gather_steps l q) c.args.keeper.now c.gather.new.self c.args.passes.now c.gather.new.passes c.requires.all c.gather.ensures.all c.gather.ensures.keeper.1 c.gather.ensures.steps) c.gather.ensures.keeper.1 c.bear_all.ensures.steps
    c.replay_all.new.keeper c.replay_all.new.passes c.bear_all.ensures.lone.1 c.replay_all.ensures.steps

pub returns-then-not-counts_only-clause-steps : goal.returns-then-not-counts_only-clause-steps
returns-then-not-counts_only-clause-steps c =
    let l = c.args.manager.now.limits in
    let q = c.args.keeper.now.given in
    again_counted l q (length c.args.survivors.now) c.args.keeper.now c.gather.new.self c.bear_all.new.keeper c.args.passes.now c.gather.new.passes c.bear_all.new.passes
    (all_make (gather_steps l q) c.args.keeper.now c.gather.new.self c.args.passes.now c.gather.new.passes c.requires.all c.gather.ensures.all c.gather.ensures.keeper.1 c.gather.ensures.steps) c.gather.ensures.keeper.1 c.bear_all.ensures.steps
    c.replay_all.new.keeper c.replay_all.new.passes c.bear_all.ensures.lone.1 c.replay_all.ensures.steps
    c.account-account.new.self c.account-account.new.passes c.replay_all.ensures.lone.1
    (all_make (account_steps l c.replay_all.new.keeper.given) c.replay_all.new.keeper c.account-account.new.self c.replay_all.new.passes c.account-account.new.passes c.replay_all.ensures.lone.0.together.all c.account-account.ensures.all c.account-account.ensures.keeper.1 c.account-account.ensures.steps)

pub returns-then-not-are_within-clause-steps : goal.returns-then-not-are_within-clause-steps
returns-then-not-are_within-clause-steps c =
    let l = c.args.manager.now.limits in
    let q = c.args.keeper.now.given in
    again_counted l q (length c.args.survivors.now) c.args.keeper.now c.gather.new.self c.bear_all.new.keeper c.args.passes.now c.gather.new.passes c.bear_all.new.passes
    (all_make (gather_steps l q) c.args.keeper.now c.gather.new.self c.args.passes.now c.gather.new.passes c.requires.all c.gather.ensures.all c.gather.ensures.keeper.1 c.gather.ensures.steps) c.gather.ensures.keeper.1 c.bear_all.ensures.steps
    c.replay_all.new.keeper c.replay_all.new.passes c.bear_all.ensures.lone.1 c.replay_all.ensures.steps
    c.account-account.new.self c.account-account.new.passes c.replay_all.ensures.lone.1
    (all_make (account_steps l c.replay_all.new.keeper.given) c.replay_all.new.keeper c.account-account.new.self c.replay_all.new.passes c.account-account.new.passes c.replay_all.ensures.lone.0.together.all c.account-account.ensures.all c.account-account.ensures.keeper.1 c.account-account.ensures.steps)

pub gather-requires-2-clause-all : goal.gather-requires-2-clause-all
gather-requires-2-clause-all c = all_numbers c.account-account.new.self c.account-account.new.self c.account-account.new.passes c.hold-held.new.passes refl (stays_numbers c.account-account.new.passes c.hold-held.new.passes c.hold-held.ensures.stays) c.account-account.ensures.all

pub returns-in-Ok-clause-steps : goal.returns-in-Ok-clause-steps
returns-in-Ok-clause-steps c =
    let l = c.args.manager.now.limits in
    let q = c.args.keeper.now.given in
    again_gathered l q (length c.args.survivors.now) c.args.keeper.now c.gather.new.self c.bear_all.new.keeper c.args.passes.now c.gather.new.passes c.bear_all.new.passes
    (all_make (gather_steps l q) c.args.keeper.now c.gather.new.self c.args.passes.now c.gather.new.passes c.requires.all c.gather.ensures.all c.gather.ensures.keeper.1 c.gather.ensures.steps) c.gather.ensures.keeper.1 c.bear_all.ensures.steps
    c.replay_all.new.keeper c.replay_all.new.passes c.bear_all.ensures.lone.1 c.replay_all.ensures.steps
    c.account-account.new.self c.account-account.new.passes c.replay_all.ensures.lone.1
    (all_make (account_steps l c.replay_all.new.keeper.given) c.replay_all.new.keeper c.account-account.new.self c.replay_all.new.passes c.account-account.new.passes c.replay_all.ensures.lone.0.together.all c.account-account.ensures.all c.account-account.ensures.keeper.1 c.account-account.ensures.steps)
    c.hold-held.new.passes c.hold-held.ensures.steps c.gather-2.new.self c.gather-2.new.passes c.account-account.ensures.keeper.1
    (all_make (gather_steps l c.account-account.new.self.given) c.account-account.new.self c.gather-2.new.self c.hold-held.new.passes c.gather-2.new.passes (all_numbers c.account-account.new.self c.account-account.new.self c.account-account.new.passes c.hold-held.new.passes refl (stays_numbers c.account-account.new.passes c.hold-held.new.passes c.hold-held.ensures.stays) c.account-account.ensures.all) c.gather-2.ensures.all c.gather-2.ensures.keeper.1 c.gather-2.ensures.steps)

pub returns-in-Ok-clause-restored : goal.returns-in-Ok-clause-restored
returns-in-Ok-clause-restored c =
    (restored c.args.manager.now _ _ c.replay_all.new.keeper c.account-account.new.self c.gather-2.new.self c.replay_all.new.passes c.account-account.new.passes c.hold-held.new.passes c.gather-2.new.passes c.args.survivors.now c.hold-held.new.space.moved.items
    c.account-account.ensures.account.gathers c.account-account.ensures.all c.account-account.ensures.keeper.1 c.account-account.ensures.own
    (subst (λ (a : Account). CountsOnly (length c.hold-held.new.space.moved.items) a.total) c.account-account.ensures.account.account_is (subst (λ (ms : List Moved). CountsOnly (length ms) c.account-account.result.total) (c.deref-2.ensures.value ∙ sym c.hold-held.ensures.moved) (c.if-not-counts_only.ensures.only refl)))
    c.hold-held.ensures.stays c.in-Ok.ensures.told (omega (arith, c.account-account.ensures.all.0, c.account-account.ensures.keeper.1, c.replay_all.ensures.lone.1, c.bear_all.ensures.lone.1, c.gather.ensures.keeper.1, c.requires.all.0, c.requires.some))
    c.gather-2.ensures.gathers c.gather-2.ensures.all c.gather-2.ensures.keeper.1 c.gather-2.ensures.own).0

pub returns-in-Ok-clause-together : goal.returns-in-Ok-clause-together
returns-in-Ok-clause-together c =
    (restored c.args.manager.now _ _ c.replay_all.new.keeper c.account-account.new.self c.gather-2.new.self c.replay_all.new.passes c.account-account.new.passes c.hold-held.new.passes c.gather-2.new.passes c.args.survivors.now c.hold-held.new.space.moved.items
    c.account-account.ensures.account.gathers c.account-account.ensures.all c.account-account.ensures.keeper.1 c.account-account.ensures.own
    (subst (λ (a : Account). CountsOnly (length c.hold-held.new.space.moved.items) a.total) c.account-account.ensures.account.account_is (subst (λ (ms : List Moved). CountsOnly (length ms) c.account-account.result.total) (c.deref-2.ensures.value ∙ sym c.hold-held.ensures.moved) (c.if-not-counts_only.ensures.only refl)))
    c.hold-held.ensures.stays c.in-Ok.ensures.told (omega (arith, c.account-account.ensures.all.0, c.account-account.ensures.keeper.1, c.replay_all.ensures.lone.1, c.bear_all.ensures.lone.1, c.gather.ensures.keeper.1, c.requires.all.0, c.requires.some))
    c.gather-2.ensures.gathers c.gather-2.ensures.all c.gather-2.ensures.keeper.1 c.gather-2.ensures.own).1

pub returns-in-Ok-clause-replayed : goal.returns-in-Ok-clause-replayed
returns-in-Ok-clause-replayed c =
    let l = c.args.manager.now.limits in
    let q = c.args.keeper.now.given in
    again_by l q (length c.args.survivors.now) c.args.keeper.now c.gather.new.self c.bear_all.new.keeper c.args.passes.now c.gather.new.passes c.bear_all.new.passes
    (all_make (gather_steps l q) c.args.keeper.now c.gather.new.self c.args.passes.now c.gather.new.passes c.requires.all c.gather.ensures.all c.gather.ensures.keeper.1 c.gather.ensures.steps) c.gather.ensures.keeper.1 c.bear_all.ensures.steps
    c.replay_all.new.keeper c.replay_all.new.passes c.bear_all.ensures.lone.1 c.replay_all.ensures.steps
    c.account-account.new.self c.account-account.new.passes c.replay_all.ensures.lone.1
    (all_make (account_steps l c.replay_all.new.keeper.given) c.replay_all.new.keeper c.account-account.new.self c.replay_all.new.passes c.account-account.new.passes c.replay_all.ensures.lone.0.together.all c.account-account.ensures.all c.account-account.ensures.keeper.1 c.account-account.ensures.steps)
    c.hold-held.new.passes c.hold-held.ensures.steps c.gather-2.new.self c.gather-2.new.passes c.account-account.ensures.keeper.1
    (all_make (gather_steps l c.account-account.new.self.given) c.account-account.new.self c.gather-2.new.self c.hold-held.new.passes c.gather-2.new.passes (all_numbers c.account-account.new.self c.account-account.new.self c.account-account.new.passes c.hold-held.new.passes refl (stays_numbers c.account-account.new.passes c.hold-held.new.passes c.hold-held.ensures.stays) c.account-account.ensures.all) c.gather-2.ensures.all c.gather-2.ensures.keeper.1 c.gather-2.ensures.steps)
    c.args.survivors.now refl c.in_ok-replay_all.ensures.told

pub returns-in-Ok-clause-computed : goal.returns-in-Ok-clause-computed
returns-in-Ok-clause-computed c fresh =
    let m = c.args.manager.now in
    let g = c.gather.ensures in
    let long = as_many m _ c.args.keeper.now c.gather.new.self c.args.passes.now c.gather.new.passes g.gathers g.all g.keeper g.own in
    let long' = as_long m c.gather.new.self c.bear_all.new.keeper c.gather.new.passes c.bear_all.new.passes (lone_first m _ c.args.keeper.now c.gather.new.self c.args.passes.now c.gather.new.passes g.gathers g.all g.keeper g.own) c.bear_all.ensures.lone.0 c.bear_all.ensures.lone.1 ∙ long in
    let begins = starts m _ c.args.keeper.now c.gather.new.self c.args.passes.now c.gather.new.passes g.gathers g.all g.keeper g.own fresh in
    let done = lone m c.replay_all.new.keeper c.replay_all.new.passes in
    subst (λ (ms : List Moved). made_unheld c.args.of.now.limits (length c.args.passes.now) c.args.survivors.now (start m.limits) ≡ Some (ms, lone m c.gather-2.new.self c.gather-2.new.passes)) (sym c.hold-held.ensures.moved)
    (made_all c.args.of.now.limits (length c.args.passes.now) (length c.gather.new.passes) c.args.survivors.now (start m.limits) (lone m c.gather.new.self c.gather.new.passes) long begins c.bear_all.new.moved.items (lone m c.bear_all.new.keeper c.bear_all.new.passes)
    c.in_ok-bear_all.ensures.gives (length c.bear_all.new.passes) long' done
    (subst (λ ms. all_replayed (length c.bear_all.new.passes) (kept_for c.args.survivors.now) m.limits.attempts c.args.survivors.now ms (0, lone m c.bear_all.new.keeper c.bear_all.new.passes) ≡ Some done) c.deref.ensures.value c.in_ok-replay_all.ensures.gives) _
    (still_lone m _ _ c.replay_all.new.keeper c.account-account.new.self c.gather-2.new.self c.replay_all.new.passes c.account-account.new.passes c.hold-held.new.passes c.gather-2.new.passes c.replay_all.ensures.lone.0
    c.account-account.ensures.account.gathers c.account-account.ensures.all c.account-account.ensures.keeper.1 c.account-account.ensures.own c.hold-held.ensures.stays
    c.gather-2.ensures.gathers c.gather-2.ensures.all c.gather-2.ensures.keeper.1 c.gather-2.ensures.own))

pub returns-in-Err-clause-steps : goal.returns-in-Err-clause-steps
returns-in-Err-clause-steps c =
    let l = c.args.manager.now.limits in
    let q = c.args.keeper.now.given in
    again_gathered l q (length c.args.survivors.now) c.args.keeper.now c.gather.new.self c.bear_all.new.keeper c.args.passes.now c.gather.new.passes c.bear_all.new.passes
    (all_make (gather_steps l q) c.args.keeper.now c.gather.new.self c.args.passes.now c.gather.new.passes c.requires.all c.gather.ensures.all c.gather.ensures.keeper.1 c.gather.ensures.steps) c.gather.ensures.keeper.1 c.bear_all.ensures.steps
    c.replay_all.new.keeper c.replay_all.new.passes c.bear_all.ensures.lone.1 c.replay_all.ensures.steps
    c.account-account.new.self c.account-account.new.passes c.replay_all.ensures.lone.1
    (all_make (account_steps l c.replay_all.new.keeper.given) c.replay_all.new.keeper c.account-account.new.self c.replay_all.new.passes c.account-account.new.passes c.replay_all.ensures.lone.0.together.all c.account-account.ensures.all c.account-account.ensures.keeper.1 c.account-account.ensures.steps)
    c.hold-held.new.passes c.hold-held.ensures.steps c.gather-2.new.self c.gather-2.new.passes c.account-account.ensures.keeper.1
    (all_make (gather_steps l c.account-account.new.self.given) c.account-account.new.self c.gather-2.new.self c.hold-held.new.passes c.gather-2.new.passes (all_numbers c.account-account.new.self c.account-account.new.self c.account-account.new.passes c.hold-held.new.passes refl (stays_numbers c.account-account.new.passes c.hold-held.new.passes c.hold-held.ensures.stays) c.account-account.ensures.all) c.gather-2.ensures.all c.gather-2.ensures.keeper.1 c.gather-2.ensures.steps)

pub returns-then-not-counts_only-clause-computed : goal.returns-then-not-counts_only-clause-computed
returns-then-not-counts_only-clause-computed c fresh =
    let m = c.args.manager.now in
    let g = c.gather.ensures in
    let long = as_many m _ c.args.keeper.now c.gather.new.self c.args.passes.now c.gather.new.passes g.gathers g.all g.keeper g.own in
    let long' = as_long m c.gather.new.self c.bear_all.new.keeper c.gather.new.passes c.bear_all.new.passes (lone_first m _ c.args.keeper.now c.gather.new.self c.args.passes.now c.gather.new.passes g.gathers g.all g.keeper g.own) c.bear_all.ensures.lone.0 c.bear_all.ensures.lone.1 ∙ long in
    let begins = starts m _ c.args.keeper.now c.gather.new.self c.args.passes.now c.gather.new.passes g.gathers g.all g.keeper g.own fresh in
    let done = lone m c.replay_all.new.keeper c.replay_all.new.passes in
    let ss = c.args.survivors.now in
    let l = c.args.of.now.limits in
    let p = length c.args.passes.now in
    let made =
    made_all c.args.of.now.limits (length c.args.passes.now) (length c.gather.new.passes) c.args.survivors.now (start m.limits) (lone m c.gather.new.self c.gather.new.passes) long begins c.bear_all.new.moved.items (lone m c.bear_all.new.keeper c.bear_all.new.passes)
    c.in_ok-bear_all.ensures.gives (length c.bear_all.new.passes) long' done
    (subst (λ ms. all_replayed (length c.bear_all.new.passes) (kept_for c.args.survivors.now) m.limits.attempts c.args.survivors.now ms (0, lone m c.bear_all.new.keeper c.bear_all.new.passes) ≡ Some done) c.deref.ensures.value c.in_ok-replay_all.ensures.gives) done refl in
    let a = c.account-account.ensures in
    let same = seen_same m _ c.replay_all.new.keeper c.account-account.new.self c.replay_all.new.passes c.account-account.new.passes c.replay_all.ensures.lone.0 a.account.gathers a.all a.keeper.1 a.own in
    let other = subst (λ (x : Account). ¬ CountsOnly (length c.deref-2.result.now) x.total) a.account.account_is (c.if-not-counts_only.ensures.other refl) in
    let seen = subst (λ h. ¬ CountsOnly (length c.deref-2.result.now) (counts m.limits.attempts h)) same other in
    differs_count l p ss (start m.limits) c.bear_all.new.moved.items done made (subst (λ (ms : List Moved). ¬ CountsOnly (length ms) (counts m.limits.attempts c.replay_all.new.keeper.seen)) c.deref-2.ensures.value seen)

pub returns-in-Err-clause-computed : goal.returns-in-Err-clause-computed
returns-in-Err-clause-computed c fresh =
    let m = c.args.manager.now in
    let g = c.gather.ensures in
    let long = as_many m _ c.args.keeper.now c.gather.new.self c.args.passes.now c.gather.new.passes g.gathers g.all g.keeper g.own in
    let long' = as_long m c.gather.new.self c.bear_all.new.keeper c.gather.new.passes c.bear_all.new.passes (lone_first m _ c.args.keeper.now c.gather.new.self c.args.passes.now c.gather.new.passes g.gathers g.all g.keeper g.own) c.bear_all.ensures.lone.0 c.bear_all.ensures.lone.1 ∙ long in
    let begins = starts m _ c.args.keeper.now c.gather.new.self c.args.passes.now c.gather.new.passes g.gathers g.all g.keeper g.own fresh in
    let done = lone m c.replay_all.new.keeper c.replay_all.new.passes in
    let ss = c.args.survivors.now in
    let l = c.args.of.now.limits in
    let p = length c.args.passes.now in
    let made =
    made_all c.args.of.now.limits (length c.args.passes.now) (length c.gather.new.passes) c.args.survivors.now (start m.limits) (lone m c.gather.new.self c.gather.new.passes) long begins c.bear_all.new.moved.items (lone m c.bear_all.new.keeper c.bear_all.new.passes)
    c.in_ok-bear_all.ensures.gives (length c.bear_all.new.passes) long' done
    (subst (λ ms. all_replayed (length c.bear_all.new.passes) (kept_for c.args.survivors.now) m.limits.attempts c.args.survivors.now ms (0, lone m c.bear_all.new.keeper c.bear_all.new.passes) ≡ Some done) c.deref.ensures.value c.in_ok-replay_all.ensures.gives) done refl in
    let a = c.account-account.ensures in
    let b = c.gather-2.ensures in
    let same = seen_same m _ c.replay_all.new.keeper c.account-account.new.self c.replay_all.new.passes c.account-account.new.passes c.replay_all.ensures.lone.0 a.account.gathers a.all a.keeper.1 a.own in
    stops_alike l p ss (start m.limits) c.bear_all.new.moved.items done made c.in-Err.stop _ c.account-account.new.passes c.hold-held.new.passes
    (subst (λ (ms : List Moved). StopsFirst c.account-account.new.passes c.hold-held.new.passes (λ h. StandAlike m.limits.attempts h ss ms) c.in-Err.stop) c.hold-held.ensures.moved c.in-Err.ensures.stops)
    (λ told. subst (λ h. ¬ StandAlike m.limits.attempts h ss c.bear_all.new.moved.items) same
    (held_told m _ c.replay_all.new.keeper c.account-account.new.self c.replay_all.new.passes c.account-account.new.passes c.replay_all.ensures.lone.0 a.account.gathers a.all a.keeper.1 a.own
    _ c.gather-2.new.self c.hold-held.new.passes c.gather-2.new.passes (λ h. ¬ StandAlike m.limits.attempts h ss c.bear_all.new.moved.items) c.hold-held.ensures.stays b.gathers b.all b.keeper.1 b.own
    (omega (arith, c.account-account.ensures.all.0, c.account-account.ensures.keeper.1, c.replay_all.ensures.lone.1, c.bear_all.ensures.lone.1, c.gather.ensures.keeper.1, c.requires.all.0, c.requires.some)) told))

pub returns-then-not-are_within-clause-computed : goal.returns-then-not-are_within-clause-computed
returns-then-not-are_within-clause-computed c fresh =
    let m = c.args.manager.now in
    let g = c.gather.ensures in
    let long = as_many m _ c.args.keeper.now c.gather.new.self c.args.passes.now c.gather.new.passes g.gathers g.all g.keeper g.own in
    let long' = as_long m c.gather.new.self c.bear_all.new.keeper c.gather.new.passes c.bear_all.new.passes (lone_first m _ c.args.keeper.now c.gather.new.self c.args.passes.now c.gather.new.passes g.gathers g.all g.keeper g.own) c.bear_all.ensures.lone.0 c.bear_all.ensures.lone.1 ∙ long in
    let begins = starts m _ c.args.keeper.now c.gather.new.self c.args.passes.now c.gather.new.passes g.gathers g.all g.keeper g.own fresh in
    let done = lone m c.replay_all.new.keeper c.replay_all.new.passes in
    let ss = c.args.survivors.now in
    let l = c.args.of.now.limits in
    let p = length c.args.passes.now in
    let made =
    made_all c.args.of.now.limits (length c.args.passes.now) (length c.gather.new.passes) c.args.survivors.now (start m.limits) (lone m c.gather.new.self c.gather.new.passes) long begins c.bear_all.new.moved.items (lone m c.bear_all.new.keeper c.bear_all.new.passes)
    c.in_ok-bear_all.ensures.gives (length c.bear_all.new.passes) long' done
    (subst (λ ms. all_replayed (length c.bear_all.new.passes) (kept_for c.args.survivors.now) m.limits.attempts c.args.survivors.now ms (0, lone m c.bear_all.new.keeper c.bear_all.new.passes) ≡ Some done) c.deref.ensures.value c.in_ok-replay_all.ensures.gives) done refl in
    differs_roots l m.limits c.bear_all.new.moved.items p ss done made c.replay_all.ensures.lone.0.together.legal (subst (λ ms. ¬ AreWithin (rows_of l) (rows_of m.limits) ms) c.deref-3.ensures.value (c.if-not-are_within.ensures.other refl))

pub returns-in-Err-clause-memory : goal.returns-in-Err-clause-memory
returns-in-Err-clause-memory c lacks has =
    let l = c.args.of.now.limits in
    let k = c.args.manager.now.limits in
    c.in-Err.ensures.memory lacks (holds_roots l k c.bear_all.new.moved.items (length c.args.survivors.now) c.args.space.now has (subst (AreWithin (rows_of l) (rows_of k)) c.deref-3.ensures.value (c.if-not-are_within.ensures.within refl)))

pub hold-held-requires-clause-some : goal.hold-held-requires-clause-some
hold-held-requires-clause-some c = omega (arith, c.account-account.ensures.all.0, c.account-account.ensures.keeper.1, c.replay_all.ensures.lone.1, c.bear_all.ensures.lone.1, c.gather.ensures.keeper.1, c.requires.all.0, c.requires.some)

pub replay_all-requires-clause-many : goal.replay_all-requires-clause-many
replay_all-requires-clause-many c = ap length c.deref.ensures.value ∙ c.in_ok-bear_all.ensures.many

few : (m : ManagerShown) (n : ℕ) (k0 k1 : KeeperShown) (ps0 ps1 : List PassShown) → Gathers m.limits n k0 k1 ps0 ps1 → AreAll k1 ps1 → IsKeptBy m k1 × (k1.given ≡ k0.given) → All (IsOf m) ps1 → length ps0 ≤ m.limits.parts
few m n k0 k1 ps0 ps1 g all kept own =
    let low = few_parts m.limits k1 ps1 k1.seen (lone_first m n k0 k1 ps0 ps1 g all kept own).together in
    let long = as_many m n k0 k1 ps0 ps1 g all kept own in
    omega (arith, low, long)

pub returns-in_err-bear_all-clause-parts : goal.returns-in_err-bear_all-clause-parts
returns-in_err-bear_all-clause-parts c = few c.args.manager.now _ c.args.keeper.now c.gather.new.self c.args.passes.now c.gather.new.passes c.gather.ensures.gathers c.gather.ensures.all c.gather.ensures.keeper c.gather.ensures.own

pub returns-in_err-replay_all-clause-parts : goal.returns-in_err-replay_all-clause-parts
returns-in_err-replay_all-clause-parts c = few c.args.manager.now _ c.args.keeper.now c.gather.new.self c.args.passes.now c.gather.new.passes c.gather.ensures.gathers c.gather.ensures.all c.gather.ensures.keeper c.gather.ensures.own

pub returns-then-not-counts_only-clause-parts : goal.returns-then-not-counts_only-clause-parts
returns-then-not-counts_only-clause-parts c = few c.args.manager.now _ c.args.keeper.now c.gather.new.self c.args.passes.now c.gather.new.passes c.gather.ensures.gathers c.gather.ensures.all c.gather.ensures.keeper c.gather.ensures.own

pub returns-in-Ok-clause-parts : goal.returns-in-Ok-clause-parts
returns-in-Ok-clause-parts c = few c.args.manager.now _ c.args.keeper.now c.gather.new.self c.args.passes.now c.gather.new.passes c.gather.ensures.gathers c.gather.ensures.all c.gather.ensures.keeper c.gather.ensures.own

pub returns-in-Err-clause-parts : goal.returns-in-Err-clause-parts
returns-in-Err-clause-parts c = few c.args.manager.now _ c.args.keeper.now c.gather.new.self c.args.passes.now c.gather.new.passes c.gather.ensures.gathers c.gather.ensures.all c.gather.ensures.keeper c.gather.ensures.own

pub returns-then-not-are_within-clause-parts : goal.returns-then-not-are_within-clause-parts
returns-then-not-are_within-clause-parts c = few c.args.manager.now _ c.args.keeper.now c.gather.new.self c.args.passes.now c.gather.new.passes c.gather.ensures.gathers c.gather.ensures.all c.gather.ensures.keeper c.gather.ensures.own
