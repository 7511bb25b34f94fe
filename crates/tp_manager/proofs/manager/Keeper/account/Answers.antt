use Rattle.std.proofs.Common.{◌≡◌, ℕ, ◌+◌, ◌-◌, ◌*◌, ◌≤◌, ◌∙◌, ap, sym, refl, rules, subst, All, List, [], ◌∷◌, length}
use Rattle.tp_model.specs.declared.types.Limits.{Limits}
use Rattle.tp_model.specs.Accounts.{account_of}
use Rattle.tp_rule.specs.Tables.{table_limits, table_of}
use Rattle.tp_rule.specs.Views.{seen_by, view_of}
use Rattle.tp_manager.specs.Accounts.{Accounts, steps_together}
use Rattle.tp_manager.specs.Bounds.{account_steps, first_steps, kept_steps, led_steps}
use Rattle.tp_manager.specs.Shown.{ManagerShown, KeeperShown, PassShown, shown, steps_in, spot}
use Rattle.tp_manager.specs.Together.{IsAt}
use Rattle.tp_manager.specs.BetweenCalls.{Keeps}
use Rattle.tp_manager.proofs.Accounts.Accounted.{account_enough, account_led, accounts_none, all_at, all_steps, all_still, gathers, keeps_seen, kept_long}
use Rattle.tp_manager.proofs.Calls.Passes.{drawn_risen, rests_drawn, rests_looked, steady_at}
use Rattle.tp_manager.proofs.Accounts.RowCounts.{none_left}
use Rattle.tp_manager.proofs.Accounts.Together.{first_at, rest_at}
use Rattle.tp_manager.proofs.Calls.CallSteps.{looked, rises_same, remembers}
use Rattle.tp_manager.proofs.manager.Keeper.account.Goals as goal
use Rattle.tp_manager.proofs.manager.Keeper.account.Goals.{After-count_with-drawn, After-split_first_mut}

-- the limits of the words are those of the keeper, and of the manager
kept : (c : After-split_first_mut) → c.self.inside.limits ≡ c.args.manager.now.limits
kept c = ap (λ (k : KeeperShown). k.limits) c.self.view_is ∙ c.requires.keeper.1

limits : (c : After-split_first_mut) → table_limits c.manager.inside.shared.words ≡ c.args.manager.now.limits
limits c = c.manager.inside.shared.same ∙ ap (λ (m : ManagerShown). m.limits) c.manager.view_is

table : (c : After-split_first_mut) → table_of c.manager.inside.shared.words ≡ c.args.manager.now.table
table c = ap (λ (m : ManagerShown). m.table) c.manager.view_is

own : (c : After-split_first_mut) → All (IsAt (table_of c.manager.inside.shared.words) (table_limits c.manager.inside.shared.words)) c.args.passes.now
own c = λ k d less. let o = c.requires.own k d less in record { table_is = o.0 ∙ sym (table c); limits_are = o.1 ∙ sym (limits c) }

pub returns-in_default-clause-account : goal.returns-in_default-clause-account
returns-in_default-clause-account c =
    let at = (goal.at.returns-in_default-clause-account c).After-split_first_mut in
    let l : Limits = c.args.manager.now.limits in
    let keeper : KeeperShown = c.args.self.now in
    let keeps : Keeps c.self.inside.seat l keeper.given = subst (λ (z : Limits). Keeps c.self.inside.seat z keeper.given) (kept at) (subst (λ n. Keeps c.self.inside.seat c.self.inside.limits n) (ap (λ (k : KeeperShown). k.given) c.self.view_is) c.self.invariant) in
    let none = none_left c.args.passes.now (search rules) in
    subst (λ (k : KeeperShown). Accounts l keeper k c.args.passes.now c.args.passes.now c.no_account.result) (sym c.self.view_is)
    (accounts_none l c.self.inside.seat keeper c.args.passes.now keeps (sym (ap (λ (k : KeeperShown). k.seen) c.self.view_is)) none c.no_account.result c.requires.all.0 (c.no_account.ensures.none l.attempts []))

pub count_with-drawn-requires-clause-steady : goal.count_with-drawn-requires-clause-steady
count_with-drawn-requires-clause-steady c = let at = (goal.at.count_with-drawn-requires-clause-steady c).After-split_first_mut in
    steady_at _ _ _ (ap (λ (p : PassShown). p.limits) c.first.view_is ∙ (first_at (table_of c.manager.inside.shared.words) (table_limits c.manager.inside.shared.words) c.args.passes.now c.in-Some.first.now c.in-Some.rest.now c.in-Some.ensures.cases.0 (own at)).limits_are) c.first.invariant.0.steady

pub count_with-drawn-requires-clause-passes : goal.count_with-drawn-requires-clause-passes
count_with-drawn-requires-clause-passes c = let at = (goal.at.count_with-drawn-requires-clause-passes c).After-split_first_mut in
    rest_at (table_of c.manager.inside.shared.words) (table_limits c.manager.inside.shared.words) c.args.passes.now c.in-Some.first.now c.in-Some.rest.now c.in-Some.ensures.cases.0 (own at)

-- what the first pass has found by then
risen : (c : After-count_with-drawn) → c.first.inside.run.drawn ≤ c.count_with-drawn.result.1
risen c = drawn_risen (view_of c.first.inside.seat) c.first.inside.run.drawn c.count_with-drawn.result.1 c.first.invariant.0.drawn c.count_with-drawn.ensures.risen

pub invariant_of-first : goal.invariant_of-first
invariant_of-first c = let at = (goal.at.invariant_of-first c).After-split_first_mut in let l = table_limits c.manager.inside.shared.words in
    let first = first_at (table_of c.manager.inside.shared.words) l c.args.passes.now c.in-Some.first.now c.in-Some.rest.now c.in-Some.ensures.cases.0 (own at) in
    (rests_drawn c.count_with-drawn.new.first _ _ _ _ c.count_with-drawn.result.1 (rests_looked l c.first.inside.seat c.count_with-drawn.new.first (ap (λ (p : PassShown). p.limits) c.first.view_is ∙ first.limits_are) _ _ _ _ c.first.invariant.0 _ (looked l _ _ _ c.count_with-drawn.ensures.counts.gathered.first)) c.count_with-drawn.ensures.drawn, remembers c.first.inside.lows _ _ _ _ _ c.count_with-drawn.ensures.counts.gathered.first.walk c.first.invariant.1)

pub invariant_of-self-2 : goal.invariant_of-self-2
invariant_of-self-2 c = let at = (goal.at.invariant_of-self-2 c).After-split_first_mut in let counts = c.count_with-drawn.ensures.counts.gathered in
    keeps_seen c.self.inside.seat c.count_with-drawn.new.keeper c.self.inside.limits (table_limits c.manager.inside.shared.words) c.self.inside.given kept_steps (seen_by c.count_with-drawn.new.first) (limits at ∙ sym (kept at)) c.self.invariant counts.first.walk.steady.shows.legal counts.others

pub returns-clause-own : goal.returns-clause-own
returns-clause-own c = λ k d less. let at = (goal.at.returns-clause-own c).After-split_first_mut in let words = c.manager.inside.shared.words in
    let first = first_at (table_of words) (table_limits words) c.args.passes.now c.in-Some.first.now c.in-Some.rest.now c.in-Some.ensures.cases.0 (own at) in
    let a = all_at (table_of words) (table_limits words) (first_steps (table_limits words) (length c.in-Some.rest.now + 1)) kept_steps (2 * led_steps) (account_steps (table_limits words) (length c.args.passes.now)) (spot c.first.inside.seat.table c.first.inside.lows c.first.inside.run.drawn c.first.inside.from) (spot c.count_with-drawn.new.first.table c.first.inside.lows c.count_with-drawn.result.1 c.first.inside.from) (rises_same c.first.inside.lows, risen (goal.at.returns-clause-own c).After-count_with-drawn) refl (view_of c.first.inside.seat) (view_of c.count_with-drawn.new.first) (view_of c.self.inside.seat) (view_of c.count_with-drawn.new.keeper)
    c.args.passes.now c.in-Some.rest.now c.count_with-drawn.new.passes c.in-Some.first.now c.in-Some.ensures.cases.0 c.first.view_is c.count_with-drawn.ensures.counts.gathered
    (account_led (table_limits words) c.args.passes.now c.in-Some.rest.now c.in-Some.first.now c.in-Some.ensures.cases.0) (account_enough (table_limits words) c.args.passes.now c.in-Some.rest.now c.in-Some.first.now c.in-Some.ensures.cases.0)
    (c.count_with-drawn.ensures.same.0 ∙ (ap (λ (p : PassShown). p.table) c.first.view_is ∙ first.table_is)) k d less in
    (a.table_is ∙ table at, a.limits_are ∙ limits at)

pub returns-clause-steps : goal.returns-clause-steps
returns-clause-steps c = let at = (goal.at.returns-clause-steps c).After-split_first_mut in let words = c.manager.inside.shared.words in
    let news : List PassShown = shown (spot c.count_with-drawn.new.first.table c.first.inside.lows c.count_with-drawn.result.1 c.first.inside.from) (view_of c.count_with-drawn.new.first) ∷ c.count_with-drawn.new.passes in
    let after : ℕ = steps_together c.args.passes.now news + steps_in (view_of c.count_with-drawn.new.keeper).hands in
    let before : ℕ = steps_in (view_of c.self.inside.seat).hands in
    let out : c.self.inside.given ≡ length c.args.passes.now = ap (λ (k : KeeperShown). k.given) c.self.view_is ∙ sym c.requires.all.0 in
    let kept_by : (l : Limits) → c.self.inside.limits ≡ l → length (view_of c.self.inside.seat).hands ≡ l.parts - length c.args.passes.now =
    λ l same. kept_long c.self.inside.seat c.self.inside.limits c.self.inside.given c.self.invariant ∙ (ap (λ n. c.self.inside.limits.parts - n) out ∙ ap (λ (z : Limits). z.parts - length c.args.passes.now) same) in
    subst (λ n. after ≤ n + account_steps c.args.manager.now.limits c.args.self.now.given) (ap (λ (k : KeeperShown). k.steps) c.self.view_is)
    (subst (λ (l : Limits). after ≤ before + account_steps l c.args.self.now.given) (limits at)
    (subst (λ n. after ≤ before + account_steps (table_limits words) n) c.requires.all.0
    (all_steps (table_of words) (table_limits words) (first_steps (table_limits words) (length c.in-Some.rest.now + 1)) kept_steps (2 * led_steps) (account_steps (table_limits words) (length c.args.passes.now)) (spot c.first.inside.seat.table c.first.inside.lows c.first.inside.run.drawn c.first.inside.from) (spot c.count_with-drawn.new.first.table c.first.inside.lows c.count_with-drawn.result.1 c.first.inside.from) (rises_same c.first.inside.lows, risen (goal.at.returns-clause-steps c).After-count_with-drawn) refl (view_of c.first.inside.seat) (view_of c.count_with-drawn.new.first) (view_of c.self.inside.seat) (view_of c.count_with-drawn.new.keeper)
    c.args.passes.now c.in-Some.rest.now c.count_with-drawn.new.passes c.in-Some.first.now c.in-Some.ensures.cases.0 c.first.view_is c.count_with-drawn.ensures.counts.gathered
    (account_led (table_limits words) c.args.passes.now c.in-Some.rest.now c.in-Some.first.now c.in-Some.ensures.cases.0) (account_enough (table_limits words) c.args.passes.now c.in-Some.rest.now c.in-Some.first.now c.in-Some.ensures.cases.0) (kept_by (table_limits words) (kept at ∙ sym (limits at))))))

pub returns-clause-all : goal.returns-clause-all
returns-clause-all c = let words = c.manager.inside.shared.words in
    all_still (table_of words) (table_limits words) (first_steps (table_limits words) (length c.in-Some.rest.now + 1)) kept_steps (2 * led_steps) (account_steps (table_limits words) (length c.args.passes.now)) (spot c.first.inside.seat.table c.first.inside.lows c.first.inside.run.drawn c.first.inside.from) (spot c.count_with-drawn.new.first.table c.first.inside.lows c.count_with-drawn.result.1 c.first.inside.from) (rises_same c.first.inside.lows, risen (goal.at.returns-clause-all c).After-count_with-drawn) refl (view_of c.first.inside.seat) (view_of c.count_with-drawn.new.first) (view_of c.self.inside.seat) (view_of c.count_with-drawn.new.keeper)
    c.args.passes.now c.in-Some.rest.now c.count_with-drawn.new.passes c.in-Some.first.now c.in-Some.ensures.cases.0 c.first.view_is c.count_with-drawn.ensures.counts.gathered
    (account_led (table_limits words) c.args.passes.now c.in-Some.rest.now c.in-Some.first.now c.in-Some.ensures.cases.0) (account_enough (table_limits words) c.args.passes.now c.in-Some.rest.now c.in-Some.first.now c.in-Some.ensures.cases.0)
    c.args.self.now c.requires.all record { table = c.count_with-drawn.new.keeper.table; limits = c.self.inside.limits; given = c.self.inside.given; seen = seen_by c.count_with-drawn.new.keeper; steps = steps_in (view_of c.count_with-drawn.new.keeper).hands }
    (ap (λ (k : KeeperShown). k.given) c.self.view_is)

pub returns-clause-account : goal.returns-clause-account
returns-clause-account c = let at = (goal.at.returns-clause-account c).After-split_first_mut in let words = c.manager.inside.shared.words in
    let news : List PassShown = shown (spot c.count_with-drawn.new.first.table c.first.inside.lows c.count_with-drawn.result.1 c.first.inside.from) (view_of c.count_with-drawn.new.first) ∷ c.count_with-drawn.new.passes in
    let keeper : KeeperShown = record { table = c.count_with-drawn.new.keeper.table; limits = c.self.inside.limits; given = c.self.inside.given; seen = seen_by c.count_with-drawn.new.keeper; steps = steps_in (view_of c.count_with-drawn.new.keeper).hands } in
    subst (λ (l : Limits). Accounts l c.args.self.now keeper c.args.passes.now news c.count_with-drawn.result.0) (limits at)
    record {
      gathers = gathers (table_of words) (table_limits words) (first_steps (table_limits words) (length c.in-Some.rest.now + 1)) kept_steps (2 * led_steps) (account_steps (table_limits words) (length c.args.passes.now)) (spot c.first.inside.seat.table c.first.inside.lows c.first.inside.run.drawn c.first.inside.from) (spot c.count_with-drawn.new.first.table c.first.inside.lows c.count_with-drawn.result.1 c.first.inside.from) (rises_same c.first.inside.lows, risen (goal.at.returns-clause-account c).After-count_with-drawn) refl (view_of c.first.inside.seat) (view_of c.count_with-drawn.new.first) (view_of c.self.inside.seat) (view_of c.count_with-drawn.new.keeper)
          c.args.passes.now c.in-Some.rest.now c.count_with-drawn.new.passes c.in-Some.first.now c.in-Some.ensures.cases.0 c.first.view_is c.count_with-drawn.ensures.counts.gathered
          (account_led (table_limits words) c.args.passes.now c.in-Some.rest.now c.in-Some.first.now c.in-Some.ensures.cases.0) (account_enough (table_limits words) c.args.passes.now c.in-Some.rest.now c.in-Some.first.now c.in-Some.ensures.cases.0)
          c.self.inside.seat c.self.inside.given c.args.self.now keeper (subst (λ (l : Limits). Keeps c.self.inside.seat l c.self.inside.given) (kept at ∙ sym (limits at)) c.self.invariant)
          (ap (λ (k : KeeperShown). k.given) c.self.view_is) refl (sym (ap (λ (k : KeeperShown). k.seen) c.self.view_is)) refl c.requires.all c.count_with-drawn.result.1 c.count_with-drawn.ensures.shares (refl, c.count_with-drawn.ensures.seen);
      account_is = c.count_with-drawn.ensures.counts.account_is ∙ ap (account_of (table_limits words).attempts) (sym c.count_with-drawn.ensures.counts.gathered.others.seen);
    }
