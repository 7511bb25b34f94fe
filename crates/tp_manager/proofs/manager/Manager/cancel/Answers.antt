use Rattle.std.proofs.Common.{◌≡◌, ◌≤◌, ◌++◌, ℕ, List, length, sym, ◌∙◌, ap, refl, arith, subst, mul-le-mul_right, None}
use Rattle.tp_model.specs.declared.types.Limits.{Limits}
use Rattle.tp_model.specs.declared.types.Element.{Element}
use Rattle.tp_model.specs.Families.{IsRequest, family}
use Rattle.tp_model.specs.Steps.{rows_of}
use Rattle.tp_rule.specs.Tables.{table_limits}
use Rattle.tp_rule.specs.Views.{hand, seen_by, view_of}
use Rattle.tp_manager.specs.Shown.{ManagerShown, PassShown, shown, spot}
use Rattle.tp_manager.specs.Bounds.{cancel_steps, each_end_steps, end_steps, family_cancel_steps, lean_cancel_steps, root_steps}
use Rattle.tp_manager.specs.Calls.{Follows}
use Rattle.tp_manager.specs.Cancels.{Cancels}
use Rattle.tp_manager.specs.Endings.{CancelsIn}
use Rattle.tp_manager.specs.BetweenCalls.{Rests}
use Rattle.tp_manager.proofs.Families.Answered.{request_inside}
use Rattle.tp_manager.proofs.Families.EndSums.{ends_most}
use Rattle.tp_manager.proofs.Families.InTurn.{cancels_after}
use Rattle.tp_manager.proofs.Families.Cancels.{rests_swept, cancels_shown, request_later, swept_begins}
use Rattle.tp_manager.proofs.Calls.Passes.{rests_looked, quiet_looked, point_none, task_none}
use Rattle.tp_manager.proofs.Calls.Points.{has_more}
use Rattle.tp_manager.proofs.Families.Trees.{family_few}
use Rattle.tp_manager.proofs.Calls.CallSteps.{at_point, climbs_same, follows, has_looked, looked, looked_none, point_last, remembers, walked_then}
use Rattle.tp_manager.proofs.manager.Manager.cancel.Goals as goal
use Rattle.tp_manager.proofs.manager.Manager.cancel.Goals.{After-rows, After-is_request, After-cancel_family-killed}

lim : (c : After-rows) → (view_of c.pass.inside.seat).limits ≡ table_limits c.self.inside.shared.words
lim c = ap (λ (p : PassShown). p.limits) c.pass.view_is ∙ (c.requires.own.1 ∙ (sym (ap (λ (m : ManagerShown). m.limits) c.self.view_is) ∙ sym c.self.inside.shared.same))

limits : (c : After-rows) → table_limits c.self.inside.shared.words ≡ c.args.self.now.limits
limits c = c.self.inside.shared.same ∙ ap (λ (m : ManagerShown). m.limits) c.self.view_is

free : (c : After-rows) → (hand (view_of c.pass.inside.seat)).open_unit ≡ None
free c = ap (λ (p : PassShown). p.open_unit) c.pass.view_is ∙ c.requires.free

no_task : (c : After-rows) → c.pass.inside.task ≡ None
no_task c = task_none c.pass.inside.task (sym c.pass.invariant.0.open_is ∙ free c)

rests : (c : After-rows) → Rests c.pass.inside.seat c.pass.inside.number c.pass.inside.run c.pass.inside.used None
rests c = subst (λ t. Rests c.pass.inside.seat c.pass.inside.number c.pass.inside.run c.pass.inside.used t) (no_task c) c.pass.invariant.0

-- the family at the end
abbrev all_of : (c : After-cancel_family-killed) → List Element
all_of c = family (seen_by c.cancel_family-killed.new.seat) c.args.root

whole : (c : After-cancel_family-killed) → CancelsIn (table_limits c.self.inside.shared.words) (lean_cancel_steps (table_limits c.self.inside.shared.words) (all_of c)) c.args.root c.cancel_family-killed.result (view_of c.pass.inside.seat) (view_of c.cancel_family-killed.new.seat)
whole c = let l : Limits = table_limits c.self.inside.shared.words in
    cancels_after l c.args.root root_steps (each_end_steps l (all_of c)) c.cancel_family-killed.result (view_of c.pass.inside.seat) (view_of c.is_request.new.seat) (view_of c.cancel_family-killed.new.seat)
    (looked l root_steps _ _ c.is_request.ensures.acted) c.cancel_family-killed.ensures.told

-- no request

pub returns-then-root-rows-clause-answer : goal.returns-then-root-rows-clause-answer
returns-then-root-rows-clause-answer c = let r = c.pass.invariant.0 in let at = (goal.at.returns-then-root-rows-clause-answer c).After-rows in
    let out : rows_of (view_of c.pass.inside.seat).limits ≤ c.args.root = subst (λ (z : Limits). rows_of z ≤ c.args.root) (sym (lim at ∙ c.self.inside.shared.same)) (subst (λ n. n ≤ c.args.root) c.rows.ensures c.if-root-rows.true) in
    let t = spot c.pass.inside.seat.table c.pass.inside.lows c.pass.inside.run.drawn c.pass.inside.from in (
      refl,
      quiet_looked t t (view_of c.pass.inside.seat) (view_of c.pass.inside.seat) c.args.pass.now c.pass.view_is _ 0 (looked_none _ _ r.steady),
      point_none t (view_of c.pass.inside.seat) c.args.pass.now c.pass.view_is _ r.steady (λ h. ¬ IsRequest h c.args.root) (request_inside _ (seen_by c.pass.inside.seat) c.args.root r.steady.shows.legal out),
    )

pub invariant_of-pass-then-not-is_request : goal.invariant_of-pass-then-not-is_request
invariant_of-pass-then-not-is_request c = let at = (goal.at.invariant_of-pass-then-not-is_request c).After-rows in let a = c.is_request.ensures.acted in
    (rests_looked _ c.pass.inside.seat c.is_request.new.seat (lim at) _ _ _ _ c.pass.invariant.0 root_steps (looked _ _ _ _ a), remembers c.pass.inside.lows _ _ _ _ _ a.walk c.pass.invariant.1)

refused : (c : After-is_request) (m : ℕ) → root_steps ≤ m → Follows m c.args.pass.now (shown (spot c.is_request.new.seat.table c.pass.inside.lows c.pass.inside.run.drawn c.pass.inside.from) (view_of c.is_request.new.seat))
refused c m le = follows (spot c.pass.inside.seat.table c.pass.inside.lows c.pass.inside.run.drawn c.pass.inside.from) (spot c.is_request.new.seat.table c.pass.inside.lows c.pass.inside.run.drawn c.pass.inside.from) (climbs_same c.pass.inside.lows c.pass.inside.run.drawn) (view_of c.pass.inside.seat) (view_of c.is_request.new.seat) c.args.pass.now c.pass.view_is _ root_steps _ c.is_request.ensures.acted.walk m le

pub returns-then-not-is_request-clause-follows : goal.returns-then-not-is_request-clause-follows
returns-then-not-is_request-clause-follows c = refused (goal.at.returns-then-not-is_request-clause-follows c).After-is_request (cancel_steps c.args.self.now.limits) (omega arith)

pub returns-then-not-is_request-clause-few : goal.returns-then-not-is_request-clause-few
returns-then-not-is_request-clause-few c = refused (goal.at.returns-then-not-is_request-clause-few c).After-is_request (family_cancel_steps c.args.self.now.limits (length (family (seen_by c.is_request.new.seat) c.args.root))) (omega arith)

pub returns-then-not-is_request-clause-lean : goal.returns-then-not-is_request-clause-lean
returns-then-not-is_request-clause-lean c = refused (goal.at.returns-then-not-is_request-clause-lean c).After-is_request (lean_cancel_steps c.args.self.now.limits (family (seen_by c.is_request.new.seat) c.args.root)) (omega arith)

pub returns-then-not-is_request-clause-answer : goal.returns-then-not-is_request-clause-answer
returns-then-not-is_request-clause-answer c = let l : Limits = table_limits c.self.inside.shared.words in let a = c.is_request.ensures.acted in let v = view_of c.pass.inside.seat in let x = view_of c.is_request.new.seat in
    let t = spot c.pass.inside.seat.table c.pass.inside.lows c.pass.inside.run.drawn c.pass.inside.from in let t' = spot c.is_request.new.seat.table c.pass.inside.lows c.pass.inside.run.drawn c.pass.inside.from in (
      refl,
      quiet_looked t t' v x c.args.pass.now c.pass.view_is l root_steps (looked l root_steps v x a),
      at_point t t' v x c.args.pass.now c.pass.view_is l root_steps a.marks a.walk (λ z. ¬ IsRequest z c.args.root) (seen_by c.is_request.new.seat) (point_last l root_steps a.marks v x a.walk) (c.is_request.ensures.no c.if-not-is_request.true),
    )

-- the walk

pub invariant_of-pass-2 : goal.invariant_of-pass-2
invariant_of-pass-2 c = let at = goal.at.invariant_of-pass-2 c in let k = whole at.After-cancel_family-killed in (
  subst (λ t. Rests c.cancel_family-killed.new.seat c.pass.inside.number c.pass.inside.run c.pass.inside.used t) (sym (no_task at.After-rows))
      (rests_swept (table_limits c.self.inside.shared.words) c.pass.inside.seat c.cancel_family-killed.new.seat _ _ _ (lim at.After-rows) (rests at.After-rows) _ c.args.root k.events k.swept),
  remembers c.pass.inside.lows _ _ _ _ _ k.swept.gained.walk c.pass.invariant.1,
)

within : (c : After-cancel_family-killed) (m : ℕ) → lean_cancel_steps (table_limits c.self.inside.shared.words) (all_of c) ≤ m → Follows m c.args.pass.now (shown (spot c.cancel_family-killed.new.seat.table c.pass.inside.lows c.pass.inside.run.drawn c.pass.inside.from) (view_of c.cancel_family-killed.new.seat))
within c m le = follows (spot c.pass.inside.seat.table c.pass.inside.lows c.pass.inside.run.drawn c.pass.inside.from) (spot c.cancel_family-killed.new.seat.table c.pass.inside.lows c.pass.inside.run.drawn c.pass.inside.from) (climbs_same c.pass.inside.lows c.pass.inside.run.drawn) (view_of c.pass.inside.seat) (view_of c.cancel_family-killed.new.seat) c.args.pass.now c.pass.view_is _ _ _ (whole c).swept.gained.walk m le

pub returns-clause-follows : goal.returns-clause-follows
returns-clause-follows c = let at = goal.at.returns-clause-follows c in let l : Limits = table_limits c.self.inside.shared.words in let w = at.After-cancel_family-killed in
    let few = mul-le-mul_right (end_steps l) (family_few l c.args.root (seen_by c.cancel_family-killed.new.seat) (whole w).swept.gained.walk.steady.shows.legal) in
    let each = ends_most l (all_of w) in
    within w (cancel_steps c.args.self.now.limits) (subst (λ (z : Limits). lean_cancel_steps l (all_of w) ≤ cancel_steps z) (limits at.After-rows) (omega arith))

pub returns-clause-few : goal.returns-clause-few
returns-clause-few c = let at = goal.at.returns-clause-few c in let l : Limits = table_limits c.self.inside.shared.words in let w = at.After-cancel_family-killed in
    let each = ends_most l (all_of w) in
    within w (family_cancel_steps c.args.self.now.limits (length (all_of w))) (subst (λ (z : Limits). lean_cancel_steps l (all_of w) ≤ family_cancel_steps z (length (all_of w))) (limits at.After-rows) (omega arith))

pub returns-clause-lean : goal.returns-clause-lean
returns-clause-lean c = let at = goal.at.returns-clause-lean c in let l : Limits = table_limits c.self.inside.shared.words in let w = at.After-cancel_family-killed in
    within w (lean_cancel_steps c.args.self.now.limits (all_of w)) (subst (λ (z : Limits). lean_cancel_steps l (all_of w) ≤ lean_cancel_steps z (all_of w)) (limits at.After-rows) (omega arith))

pub returns-clause-looks : goal.returns-clause-looks
returns-clause-looks c = λ _. let l : Limits = table_limits c.self.inside.shared.words in let a = c.is_request.ensures.acted in let k = c.cancel_family-killed.ensures.told.swept.gained in
    has_looked (spot c.pass.inside.seat.table c.pass.inside.lows c.pass.inside.run.drawn c.pass.inside.from) (spot c.cancel_family-killed.new.seat.table c.pass.inside.lows c.pass.inside.run.drawn c.pass.inside.from) (view_of c.pass.inside.seat) (view_of c.cancel_family-killed.new.seat) c.args.pass.now c.pass.view_is l _ (a.marks ++ k.marks)
    (walked_then l root_steps _ a.marks k.marks _ _ _ a.walk k.walk) (has_more a.marks k.marks a.step)

pub returns-clause-open_unit : goal.returns-clause-open_unit
returns-clause-open_unit c = let at = goal.at.returns-clause-open_unit c in (whole at.After-cancel_family-killed).swept.gained.open_unit (free at.After-rows)

pub returns-clause-answer : goal.returns-clause-answer
returns-clause-answer c = let at = goal.at.returns-clause-answer c in let l : Limits = table_limits c.self.inside.shared.words in let k = whole at.After-cancel_family-killed in let told = c.cancel_family-killed.ensures.told in
    let t = spot c.pass.inside.seat.table c.pass.inside.lows c.pass.inside.run.drawn c.pass.inside.from in let t' = spot c.cancel_family-killed.new.seat.table c.pass.inside.lows c.pass.inside.run.drawn c.pass.inside.from in
    let request = request_later (seen_by c.is_request.new.seat) (seen_by c.cancel_family-killed.new.seat) c.args.root (swept_begins l c.args.root _ told.events _ _ told.swept) (c.is_request.ensures.yes c.if-not-is_request.false) in
    subst (λ (z : Limits). Cancels z c.args.root c.cancel_family-killed.result c.args.pass.now (shown t' (view_of c.cancel_family-killed.new.seat))) (limits at.After-rows)
    (cancels_shown t t' (view_of c.pass.inside.seat) (view_of c.cancel_family-killed.new.seat) c.args.pass.now c.pass.view_is l (free at.After-rows) _ c.args.root c.cancel_family-killed.result request k)
