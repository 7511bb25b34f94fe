use Rattle.std.proofs.Common.{ℕ, ◌≡◌, ◌+◌, ◌*◌, ◌≤◌, ◌++◌, List, [], length, MatchOption, None, sym, ◌∙◌, ap, arith, subst, mul-le-mul_right, mul-le-mul_left}
use Rattle.tp_model.specs.declared.types.Limits.{Limits}
use Rattle.tp_model.specs.declared.event.Event.{Event}
use Rattle.tp_model.specs.Families.{family}
use Rattle.tp_model.specs.Steps.{rows_of}
use Rattle.tp_rule.specs.Tables.{table_limits}
use Rattle.tp_rule.specs.Views.{hand, seen_by, view_of}
use Rattle.tp_manager.specs.Shown.{ManagerShown, PassShown, shown, spot}
use Rattle.tp_manager.specs.Bounds.{collect_next_steps, family_collect_steps, lean_collect_steps, one_take_steps, root_steps}
use Rattle.tp_manager.specs.Calls.{Follows, claims_in}
use Rattle.tp_manager.specs.Lists.{CollectsNext, NoneCollected, killed_between, walks_of}
use Rattle.tp_manager.specs.CallSteps.{Gained}
use Rattle.tp_manager.specs.BetweenCalls.{Rests}
use Rattle.tp_manager.proofs.Families.Answered.{none_killed, request_inside}
use Rattle.tp_manager.proofs.Families.Collected.{taken_answer, taken_gained, killed_none}
use Rattle.tp_manager.proofs.Calls.Gains.{gained_looked, gained_then, rests_gained}
use Rattle.tp_manager.proofs.Calls.Passes.{rests_looked, quiet_looked, task_none}
use Rattle.tp_manager.proofs.Calls.Points.{has_more}
use Rattle.tp_manager.proofs.Families.KilledMeanwhile.{killed_few, killed_since, walks_few, walks_more}
use Rattle.tp_manager.proofs.Families.Trees.{family_few}
use Rattle.tp_manager.proofs.Calls.CallSteps.{climbs_same, follows, has_looked, looked, looked_begins, looked_none, remembers, walked_then}
use Rattle.tp_manager.proofs.manager.Manager.collect_next.Goals as goal
use Rattle.tp_manager.proofs.manager.Manager.collect_next.Goals.{After-rows, After-is_request, After-take_of_family}

lim : (c : After-rows) → (view_of c.pass.inside.seat).limits ≡ table_limits c.self.inside.shared.words
lim c = ap (λ (p : PassShown). p.limits) c.pass.view_is ∙ (c.requires.own.1 ∙ (sym (ap (λ (m : ManagerShown). m.limits) c.self.view_is) ∙ sym c.self.inside.shared.same))

limits : (c : After-rows) → table_limits c.self.inside.shared.words ≡ c.args.self.now.limits
limits c = c.self.inside.shared.same ∙ ap (λ (m : ManagerShown). m.limits) c.self.view_is

free : (c : After-rows) → (hand (view_of c.pass.inside.seat)).open_unit ≡ None
free c = ap (λ (p : PassShown). p.open_unit) c.pass.view_is ∙ c.requires.free

no_task : (c : After-rows) → c.pass.inside.task ≡ None
no_task c = task_none c.pass.inside.task (sym c.pass.invariant.0.open_is ∙ free c)

rests : (c : After-rows) → Rests c.pass.inside.seat c.pass.inside.number c.pass.inside.run c.pass.inside.used None
rests c = subst (λ t. Rests c.pass.inside.seat c.pass.inside.number c.pass.inside.run c.pass.inside.used t) (no_task c) c.pass.invariant.0

-- how many elements the family has at the end
abbrev size : (c : After-take_of_family) → ℕ
size c = length (family (seen_by c.take_of_family.new.seat) c.args.root)

-- and how often the call walks
abbrev walks : (c : After-take_of_family) → ℕ
walks c = walks_of c.take_of_family.result (killed_between (table_limits c.self.inside.shared.words) c.args.root (seen_by c.is_request.new.seat) (seen_by c.take_of_family.new.seat))

whole : (c : After-take_of_family) → (es : List Event) × Gained (table_limits c.self.inside.shared.words) (lean_collect_steps (size c) (walks c)) es (view_of c.pass.inside.seat) (view_of c.take_of_family.new.seat) × (claims_in es ≡ 0)
whole c = let l : Limits = table_limits c.self.inside.shared.words in
    let g = taken_gained l (walks c * one_take_steps (size c)) c.args.root (view_of c.is_request.new.seat) (view_of c.take_of_family.new.seat) c.take_of_family.result c.take_of_family.ensures.told in
    (g.0, gained_then l root_steps (walks c * one_take_steps (size c)) [] g.0 _ _ _ (gained_looked l root_steps _ _ (looked l root_steps _ _ c.is_request.ensures.acted)) g.1, g.2)

-- no request

pub returns-then-root-rows-clause-answer : goal.returns-then-root-rows-clause-answer
returns-then-root-rows-clause-answer c = let r = c.pass.invariant.0 in let at = (goal.at.returns-then-root-rows-clause-answer c).After-rows in
    let out : rows_of (view_of c.pass.inside.seat).limits ≤ c.args.root = subst (λ (z : Limits). rows_of z ≤ c.args.root) (sym (lim at ∙ c.self.inside.shared.same)) (subst (λ n. n ≤ c.args.root) c.rows.ensures c.if-root-rows.true) in
    let t = spot c.pass.inside.seat.table c.pass.inside.lows c.pass.inside.run.drawn c.pass.inside.from in (
      quiet_looked t t (view_of c.pass.inside.seat) (view_of c.pass.inside.seat) c.args.pass.now c.pass.view_is _ 0 (looked_none _ _ r.steady),
      killed_none t (view_of c.pass.inside.seat) c.args.pass.now c.pass.view_is _ c.args.self.now.limits r.steady c.args.root (request_inside _ (seen_by c.pass.inside.seat) c.args.root r.steady.shows.legal out),
    )

pub invariant_of-pass-then-not-is_request : goal.invariant_of-pass-then-not-is_request
invariant_of-pass-then-not-is_request c = let at = (goal.at.invariant_of-pass-then-not-is_request c).After-rows in let a = c.is_request.ensures.acted in
    (rests_looked _ c.pass.inside.seat c.is_request.new.seat (lim at) _ _ _ _ c.pass.invariant.0 root_steps (looked _ _ _ _ a), remembers c.pass.inside.lows _ _ _ _ _ a.walk c.pass.invariant.1)

refused : (c : After-is_request) (m : ℕ) → root_steps ≤ m → Follows m c.args.pass.now (shown (spot c.is_request.new.seat.table c.pass.inside.lows c.pass.inside.run.drawn c.pass.inside.from) (view_of c.is_request.new.seat))
refused c m le = follows (spot c.pass.inside.seat.table c.pass.inside.lows c.pass.inside.run.drawn c.pass.inside.from) (spot c.is_request.new.seat.table c.pass.inside.lows c.pass.inside.run.drawn c.pass.inside.from) (climbs_same c.pass.inside.lows c.pass.inside.run.drawn) (view_of c.pass.inside.seat) (view_of c.is_request.new.seat) c.args.pass.now c.pass.view_is _ root_steps _ c.is_request.ensures.acted.walk m le

pub returns-then-not-is_request-clause-follows : goal.returns-then-not-is_request-clause-follows
returns-then-not-is_request-clause-follows c = refused (goal.at.returns-then-not-is_request-clause-follows c).After-is_request (collect_next_steps c.args.self.now.limits) (omega arith)

pub returns-then-not-is_request-clause-few : goal.returns-then-not-is_request-clause-few
returns-then-not-is_request-clause-few c = refused (goal.at.returns-then-not-is_request-clause-few c).After-is_request (family_collect_steps (length (family (seen_by c.is_request.new.seat) c.args.root))) (omega arith)

pub returns-then-not-is_request-clause-lean : goal.returns-then-not-is_request-clause-lean
returns-then-not-is_request-clause-lean c = let walks = killed_between c.args.self.now.limits c.args.root c.args.pass.now.seen (seen_by c.is_request.new.seat) + 1 in
    refused (goal.at.returns-then-not-is_request-clause-lean c).After-is_request (lean_collect_steps (length (family (seen_by c.is_request.new.seat) c.args.root)) walks) (omega arith)

pub returns-then-not-is_request-clause-answer : goal.returns-then-not-is_request-clause-answer
returns-then-not-is_request-clause-answer c = let at = (goal.at.returns-then-not-is_request-clause-answer c).After-rows in let l : Limits = table_limits c.self.inside.shared.words in let a = c.is_request.ensures.acted in
    let t = spot c.pass.inside.seat.table c.pass.inside.lows c.pass.inside.run.drawn c.pass.inside.from in let t' = spot c.is_request.new.seat.table c.pass.inside.lows c.pass.inside.run.drawn c.pass.inside.from in let x = view_of c.is_request.new.seat in
    subst (λ (z : Limits). NoneCollected z c.args.root c.args.pass.now (shown t' x)) (limits at)
    (quiet_looked t t' (view_of c.pass.inside.seat) x c.args.pass.now c.pass.view_is l root_steps (looked l root_steps _ _ a), none_killed t t' (view_of c.pass.inside.seat) x c.args.pass.now c.pass.view_is l root_steps a c.args.root (λ i. Unit {0}) (c.is_request.ensures.no c.if-not-is_request.true))

-- the walks

pub invariant_of-pass-2 : goal.invariant_of-pass-2
invariant_of-pass-2 c = let at = goal.at.invariant_of-pass-2 c in let k = whole at.After-take_of_family in (
  subst (λ t. Rests c.take_of_family.new.seat c.pass.inside.number c.pass.inside.run c.pass.inside.used t) (sym (no_task at.After-rows))
      (rests_gained (table_limits c.self.inside.shared.words) c.pass.inside.seat c.take_of_family.new.seat _ _ _ (lim at.After-rows) (rests at.After-rows) _ k.0 k.1 k.2),
  remembers c.pass.inside.lows _ _ _ _ _ k.1.walk c.pass.invariant.1,
)

within : (c : After-take_of_family) (m : ℕ) → lean_collect_steps (size c) (walks c) ≤ m → Follows m c.args.pass.now (shown (spot c.take_of_family.new.seat.table c.pass.inside.lows c.pass.inside.run.drawn c.pass.inside.from) (view_of c.take_of_family.new.seat))
within c m le = follows (spot c.pass.inside.seat.table c.pass.inside.lows c.pass.inside.run.drawn c.pass.inside.from) (spot c.take_of_family.new.seat.table c.pass.inside.lows c.pass.inside.run.drawn c.pass.inside.from) (climbs_same c.pass.inside.lows c.pass.inside.run.drawn) (view_of c.pass.inside.seat) (view_of c.take_of_family.new.seat) c.args.pass.now c.pass.view_is _ _ _ (whole c).1.walk m le

-- a larger family has no lesser bound
more : (n m : ℕ) → n ≤ m → family_collect_steps n ≤ family_collect_steps m
more n m le = let one : (n + 1) * one_take_steps n ≤ (m + 1) * one_take_steps n = mul-le-mul_right (one_take_steps n) (omega arith) in
    let two : (m + 1) * one_take_steps n ≤ (m + 1) * one_take_steps m = mul-le-mul_left (m + 1) (omega arith) in omega arith

-- it walks once for each element of the family at most, and once more
few_walks : (c : After-take_of_family) → lean_collect_steps (size c) (walks c) ≤ family_collect_steps (size c)
few_walks c =
    let few = killed_few (table_limits c.self.inside.shared.words) c.args.root (seen_by c.is_request.new.seat) (seen_by c.take_of_family.new.seat) in
    let all : walks c * one_take_steps (size c) ≤ (size c + 1) * one_take_steps (size c) = mul-le-mul_right (one_take_steps (size c)) (walks_few c.take_of_family.result _ (size c) few) in
    omega arith

pub returns-clause-follows : goal.returns-clause-follows
returns-clause-follows c = let at = goal.at.returns-clause-follows c in let l : Limits = table_limits c.self.inside.shared.words in let w = at.After-take_of_family in
    let few = family_few l c.args.root (seen_by c.take_of_family.new.seat) (whole w).1.walk.steady.shows.legal in
    within w (collect_next_steps c.args.self.now.limits) (subst (λ (z : Limits). lean_collect_steps (size w) (walks w) ≤ collect_next_steps z) (limits at.After-rows) (let one = few_walks w in let all = more (size w) (rows_of l) few in omega arith))

pub returns-clause-few : goal.returns-clause-few
returns-clause-few c = let w = (goal.at.returns-clause-few c).After-take_of_family in within w (family_collect_steps (size w)) (few_walks w)

pub returns-clause-lean : goal.returns-clause-lean
returns-clause-lean c = let at = goal.at.returns-clause-lean c in let l : Limits = table_limits c.self.inside.shared.words in let w = at.After-take_of_family in
    let a = c.is_request.ensures.acted in let seen = ap (λ (p : PassShown). p.seen) c.pass.view_is in
    let m : Limits → List Event → ℕ = λ z h. walks_of c.take_of_family.result (killed_between z c.args.root h (seen_by c.take_of_family.new.seat)) in
    let fewer : walks w ≤ m l (seen_by c.pass.inside.seat) = walks_more c.take_of_family.result _ _
    (killed_since l c.args.root (seen_by c.pass.inside.seat) (seen_by c.is_request.new.seat) (seen_by c.take_of_family.new.seat) a.walk.steady.shows.legal (looked_begins l root_steps _ _ (looked l root_steps _ _ a))) in
    let all : lean_collect_steps (size w) (walks w) ≤ lean_collect_steps (size w) (m l (seen_by c.pass.inside.seat)) = (let each : walks w * one_take_steps (size w) ≤ m l (seen_by c.pass.inside.seat) * one_take_steps (size w) = mul-le-mul_right (one_take_steps (size w)) fewer in omega arith) in
    within w (lean_collect_steps (size w) (m c.args.self.now.limits c.args.pass.now.seen))
    (subst (λ (h : List Event). lean_collect_steps (size w) (walks w) ≤ lean_collect_steps (size w) (m c.args.self.now.limits h)) seen (subst (λ (z : Limits). lean_collect_steps (size w) (walks w) ≤ lean_collect_steps (size w) (m z (seen_by c.pass.inside.seat))) (limits at.After-rows) all))

pub returns-clause-looks : goal.returns-clause-looks
returns-clause-looks c = λ _. let l : Limits = table_limits c.self.inside.shared.words in let w = (goal.at.returns-clause-looks c).After-take_of_family in let a = c.is_request.ensures.acted in
    let g = taken_gained l (walks w * one_take_steps (size w)) c.args.root (view_of c.is_request.new.seat) (view_of c.take_of_family.new.seat) c.take_of_family.result c.take_of_family.ensures.told in
    has_looked (spot c.pass.inside.seat.table c.pass.inside.lows c.pass.inside.run.drawn c.pass.inside.from) (spot c.take_of_family.new.seat.table c.pass.inside.lows c.pass.inside.run.drawn c.pass.inside.from) (view_of c.pass.inside.seat) (view_of c.take_of_family.new.seat) c.args.pass.now c.pass.view_is l _ (a.marks ++ g.1.marks)
    (walked_then l root_steps _ a.marks g.1.marks _ _ _ a.walk g.1.walk) (has_more a.marks g.1.marks a.step)

pub returns-clause-answer : goal.returns-clause-answer
returns-clause-answer c = let at = goal.at.returns-clause-answer c in let l : Limits = table_limits c.self.inside.shared.words in let w = at.After-take_of_family in
    let t = spot c.pass.inside.seat.table c.pass.inside.lows c.pass.inside.run.drawn c.pass.inside.from in let t' = spot c.take_of_family.new.seat.table c.pass.inside.lows c.pass.inside.run.drawn c.pass.inside.from in let y = view_of c.take_of_family.new.seat in
    subst (λ (z : Limits). MatchOption c.take_of_family.result (NoneCollected z c.args.root c.args.pass.now (shown t' y)) (λ x. CollectsNext z c.args.root x c.args.pass.now (shown t' y))) (limits at.After-rows)
    (taken_answer t t' (view_of c.pass.inside.seat) (view_of c.is_request.new.seat) y c.args.pass.now c.pass.view_is l root_steps (walks w * one_take_steps (size w)) c.args.root c.is_request.ensures.acted (free at.After-rows) c.take_of_family.result c.take_of_family.ensures.told)
