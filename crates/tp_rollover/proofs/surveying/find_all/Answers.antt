use Rattle.std.proofs.Common.{◌≡◌, ◌≤◌, ◌∙◌, ap, arith, length, refl, subst, sym}
use Rattle.std.specs.List.{AllZip}
use Rattle.tp_model.specs.declared.types.Account.{Account}
use Rattle.tp_model.specs.Steps.{IsLegal}
use Rattle.tp_manager.specs.Bounds.{account_steps, gather_steps}
use Rattle.tp_rollover.specs.Thread.{AreTogether, Stays}
use Rattle.tp_rollover.specs.Answers.{IsHistoryOf}
use Rattle.tp_rollover.specs.Finding.{CountsAlive}
use Rattle.tp_rollover.specs.Bounds.{AllMake, alive_after, survey_steps}
use Rattle.tp_rollover.specs.Told.{seen_first}
use Rattle.tp_rollover.proofs.Assembly.{all_numbers, gathered, if_ok, looked_between, stay_trans, stays_numbers, surveyed}
use Rattle.tp_rollover.proofs.Standing.{in_hand_stays}
use Rattle.tp_rollover.proofs.Stopping.{found_in_hand, memory_alone}
use Rattle.tp_rollover.proofs.Sums.{all_make, count_is, survey_gathered}
use Rattle.tp_rollover.proofs.surveying.find_all.Goals as goal
use Rattle.tp_rollover.proofs.surveying.find_all.Goals.{After-gather}

pub gather-requires-clause-all : goal.gather-requires-clause-all
gather-requires-clause-all c = all_numbers c.account-account.new.self c.account-account.new.self c.account-account.new.passes c.find-found.new.passes refl (stays_numbers c.account-account.new.passes c.find-found.new.passes c.find-found.ensures.stays) c.account-account.ensures.all

-- there are passes
some : (c : After-gather) → 1 ≤ length c.account-account.new.passes
some c = let before = c.requires.some in let old = c.requires.all.0 in let new = c.account-account.ensures.all.0 in let given = c.account-account.ensures.keeper.1 in omega (arith, before, old, new, given)

-- nothing happened between the account and the gathering
between : (c : After-gather) → let k1 = c.account-account.new.self in let k2 = c.gather.new.self in
    (k2.seen ≡ k1.seen) × (seen_first c.account-account.new.passes ≡ k2.seen) × (seen_first c.find-found.new.passes ≡ seen_first c.account-account.new.passes) × IsHistoryOf k2 c.args.passes.now k2.seen × AreTogether c.args.manager.now.limits k2 c.gather.new.passes k2.seen
between c = looked_between c.args.manager.now _ _ c.args.keeper.now c.account-account.new.self c.gather.new.self c.args.passes.now c.account-account.new.passes c.find-found.new.passes c.gather.new.passes
    c.account-account.ensures.account.gathers c.account-account.ensures.all c.account-account.ensures.keeper.1 c.account-account.ensures.own c.find-found.ensures.stays (some c)
    c.gather.ensures.gathers c.gather.ensures.all c.gather.ensures.keeper.1 c.gather.ensures.own

stayed : (c : After-gather) → AllZip Stays c.args.passes.now c.gather.new.passes
stayed c =
    let t = gathered c.args.manager.now _ c.args.keeper.now c.account-account.new.self c.args.passes.now c.account-account.new.passes c.account-account.ensures.account.gathers c.account-account.ensures.all c.account-account.ensures.keeper.1 c.account-account.ensures.own in
    let u = gathered c.args.manager.now _ c.account-account.new.self c.gather.new.self c.find-found.new.passes c.gather.new.passes c.gather.ensures.gathers c.gather.ensures.all c.gather.ensures.keeper.1 c.gather.ensures.own in
    stay_trans c.args.passes.now c.account-account.new.passes c.gather.new.passes t.1 (stay_trans c.account-account.new.passes c.find-found.new.passes c.gather.new.passes c.find-found.ensures.stays u.1)

-- so many are alive
counted : (c : After-gather) → alive_after c.args.manager.now.limits.attempts c.gather.new.self.seen ≡ c.alive_in-count.result
counted c =
    let l = c.args.manager.now.limits.attempts in
    ap (alive_after l) (between c).0 ∙ count_is l c.account-account.result c.account-account.new.self.seen c.alive_in-count.result c.account-account.ensures.account.account_is c.alive_in-count.ensures

pub returns-clause-stays : goal.returns-clause-stays
returns-clause-stays c = stayed (goal.at.returns-clause-stays c).After-gather

pub returns-clause-history : goal.returns-clause-history
returns-clause-history c = (between (goal.at.returns-clause-history c).After-gather).3

pub returns-clause-together : goal.returns-clause-together
returns-clause-together c = (between (goal.at.returns-clause-together c).After-gather).4

pub returns-clause-found : goal.returns-clause-found
returns-clause-found c =
    let at = (goal.at.returns-clause-found c).After-gather in
    if_ok c.find-found.result _ _ (λ _ told.
    surveyed c.args.manager.now c.alive_in-count.result _ _ c.args.keeper.now c.account-account.new.self c.gather.new.self c.args.passes.now c.account-account.new.passes c.find-found.new.passes c.gather.new.passes c.find-found.new.space.found.items
    c.account-account.ensures.account.gathers c.account-account.ensures.all c.account-account.ensures.keeper.1 c.account-account.ensures.own c.find-found.ensures.stays told
    (subst (λ (a : Account). CountsAlive c.alive_in-count.result a.total) c.account-account.ensures.account.account_is c.alive_in-count.ensures) (some at)
    c.gather.ensures.gathers c.gather.ensures.all c.gather.ensures.keeper.1 c.gather.ensures.own) c.find-found.ensures.told

pub returns-clause-in_hand : goal.returns-clause-in_hand
returns-clause-in_hand c =
    let at = (goal.at.returns-clause-in_hand c).After-gather in
    if_ok c.find-found.result _ _ (λ _ told.
    in_hand_stays c.args.passes.now c.gather.new.passes c.find-found.new.space.found.items (stayed at)
    (found_in_hand c.args.manager.now.limits c.gather.new.self c.gather.new.passes c.gather.new.self.seen (between at).4 c.find-found.new.space.found.items
    (surveyed c.args.manager.now c.alive_in-count.result _ _ c.args.keeper.now c.account-account.new.self c.gather.new.self c.args.passes.now c.account-account.new.passes c.find-found.new.passes c.gather.new.passes c.find-found.new.space.found.items
    c.account-account.ensures.account.gathers c.account-account.ensures.all c.account-account.ensures.keeper.1 c.account-account.ensures.own c.find-found.ensures.stays told
    (subst (λ (a : Account). CountsAlive c.alive_in-count.result a.total) c.account-account.ensures.account.account_is c.alive_in-count.ensures) (some at)
    c.gather.ensures.gathers c.gather.ensures.all c.gather.ensures.keeper.1 c.gather.ensures.own))) c.find-found.ensures.told

pub returns-clause-alone : goal.returns-clause-alone
returns-clause-alone c =
    let t = between (goal.at.returns-clause-alone c).After-gather in
    memory_alone c.find-found.result (IsLegal c.args.manager.now.limits) c.account-account.new.passes c.find-found.new.passes t.2 (subst (IsLegal c.args.manager.now.limits) (sym t.1) t.4.legal) c.find-found.ensures.stops

pub returns-clause-few : goal.returns-clause-few
returns-clause-few c =
    let is = counted (goal.at.returns-clause-few c).After-gather in
    if_ok c.find-found.result _ _ (λ _ few. omega (arith, is, few)) c.find-found.ensures.few

pub returns-clause-steps : goal.returns-clause-steps
returns-clause-steps c =
    let l = c.args.manager.now.limits in
    let p = c.args.keeper.now.given in
    let k1 = c.account-account.new.self in
    let k2 = c.gather.new.self in
    let made = all_make (account_steps l p) c.args.keeper.now k1 c.args.passes.now c.account-account.new.passes c.requires.all c.account-account.ensures.all c.account-account.ensures.keeper.1 c.account-account.ensures.steps in
    let all = all_numbers k1 k1 c.account-account.new.passes c.find-found.new.passes refl (stays_numbers c.account-account.new.passes c.find-found.new.passes c.find-found.ensures.stays) c.account-account.ensures.all in
    let together = all_make (gather_steps l k1.given) k1 k2 c.find-found.new.passes c.gather.new.passes all c.gather.ensures.all c.gather.ensures.keeper.1 c.gather.ensures.steps in
    subst (λ n. AllMake (survey_steps l p n) c.args.keeper.now c.args.passes.now k2 c.gather.new.passes) (sym (counted (goal.at.returns-clause-steps c).After-gather))
    (survey_gathered l p c.alive_in-count.result c.args.keeper.now k1 c.args.passes.now c.account-account.new.passes made c.find-found.new.passes c.find-found.ensures.steps k2 c.gather.new.passes
    (subst (λ z. AllMake (gather_steps l z) k1 c.find-found.new.passes k2 c.gather.new.passes) c.account-account.ensures.keeper.1 together))
