use Rattle.std.proofs.Common.{ℕ, ◌≡◌, ◌≤◌, ◌<◌, length, IfSome, MatchOption, sym, ◌∙◌, ap, arith, subst}
use Rattle.tp_model.specs.declared.types.Limits.{Limits}
use Rattle.tp_model.specs.Families.{family}
use Rattle.tp_model.specs.Steps.{rows_of}
use Rattle.tp_rule.specs.Tables.{table_limits}
use Rattle.tp_rule.specs.Views.{seen_by, view_of}
use Rattle.tp_manager.specs.Shown.{ManagerShown, PassShown, shown, spot}
use Rattle.tp_manager.specs.Bounds.{family_reply_steps, reply_steps, root_steps, walk_steps}
use Rattle.tp_manager.specs.Calls.{Follows}
use Rattle.tp_manager.specs.Lists.{AllKilled, NextReply}
use Rattle.tp_manager.specs.CallSteps.{Acted}
use Rattle.tp_manager.proofs.Families.Answered.{listed_answer, listed_inside, none_killed, request_inside}
use Rattle.tp_manager.proofs.Rows.Finds.{killed_beyond}
use Rattle.tp_manager.proofs.Calls.Passes.{rests_looked}
use Rattle.tp_manager.proofs.Families.Trees.{family_few}
use Rattle.tp_manager.proofs.Calls.CallSteps.{acted_then, climbs_same, follows, has_looked, looked, remembers}
use Rattle.tp_manager.proofs.manager.Manager.reply.Goals as goal
use Rattle.tp_manager.proofs.manager.Manager.reply.Goals.{After-rows-capacity, After-list_family}

lim : (c : After-rows-capacity) → (view_of c.pass.inside.seat).limits ≡ table_limits c.self.inside.shared.words
lim c = ap (λ (p : PassShown). p.limits) c.pass.view_is ∙ (c.requires.own.1 ∙ (sym (ap (λ (m : ManagerShown). m.limits) c.self.view_is) ∙ sym c.self.inside.shared.same))

limits : (c : After-rows-capacity) → table_limits c.self.inside.shared.words ≡ c.args.self.now.limits
limits c = c.self.inside.shared.same ∙ ap (λ (m : ManagerShown). m.limits) c.self.view_is

-- how many elements the family has at the end
abbrev size : (c : After-list_family) → ℕ
size c = length (family (seen_by c.list_family.new.seat) c.args.root)

whole : (c : After-list_family) → Acted (table_limits c.self.inside.shared.words) (family_reply_steps (size c)) (view_of c.pass.inside.seat) (view_of c.list_family.new.seat)
whole c = acted_then _ root_steps (walk_steps (size c)) _ _ _ c.is_request.ensures.acted c.list_family.ensures.told.looked

-- no request

pub returns-then-from-capacity-clause-answer : goal.returns-then-from-capacity-clause-answer
returns-then-from-capacity-clause-answer c = let at = (goal.at.returns-then-from-capacity-clause-answer c).After-rows-capacity in let v = view_of c.pass.inside.seat in let t = spot c.pass.inside.seat.table c.pass.inside.lows c.pass.inside.run.drawn c.pass.inside.from in
    let out : rows_of v.limits ≤ c.args.from = subst (λ (z : Limits). rows_of z ≤ c.args.from) (sym (lim at ∙ c.self.inside.shared.same)) (subst (λ n. n ≤ c.args.from) c.rows-capacity.ensures c.if-from-capacity.true) in
    subst (λ (l : Limits). AllKilled l c.args.root (λ i. c.args.from ≤ i) c.args.pass.now (shown t v)) (lim at ∙ limits at) (killed_beyond t v c.args.pass.now c.pass.view_is v.limits c.pass.invariant.0.steady c.args.from out c.args.root)

pub invariant_of-pass-then-root-capacity : goal.invariant_of-pass-then-root-capacity
invariant_of-pass-then-root-capacity c = let at = (goal.at.invariant_of-pass-then-root-capacity c).After-rows-capacity in let a = c.head_at.ensures.acted in
    (rests_looked _ c.pass.inside.seat c.head_at.new.seat (lim at) _ _ _ _ c.pass.invariant.0 1 (looked _ _ _ _ a), remembers c.pass.inside.lows _ _ _ _ _ a.walk c.pass.invariant.1)

pub returns-then-root-capacity-clause-answer : goal.returns-then-root-capacity-clause-answer
returns-then-root-capacity-clause-answer c = let at = (goal.at.returns-then-root-capacity-clause-answer c).After-rows-capacity in let l : Limits = table_limits c.self.inside.shared.words in let a = c.head_at.ensures.acted in
    let t = spot c.pass.inside.seat.table c.pass.inside.lows c.pass.inside.run.drawn c.pass.inside.from in let t' = spot c.head_at.new.seat.table c.pass.inside.lows c.pass.inside.run.drawn c.pass.inside.from in
    let out : rows_of l ≤ c.args.root = subst (λ (z : Limits). rows_of z ≤ c.args.root) (sym c.self.inside.shared.same) (subst (λ n. n ≤ c.args.root) c.rows-capacity.ensures c.if-root-capacity.true) in
    subst (λ (z : Limits). AllKilled z c.args.root (λ i. c.args.from ≤ i) c.args.pass.now (shown t' (view_of c.head_at.new.seat))) (limits at)
    (none_killed t t' (view_of c.pass.inside.seat) (view_of c.head_at.new.seat) c.args.pass.now c.pass.view_is l 1 a c.args.root (λ i. c.args.from ≤ i) (request_inside l (seen_by c.head_at.new.seat) c.args.root a.walk.steady.shows.legal out))

pub invariant_of-pass-then-not-is_request : goal.invariant_of-pass-then-not-is_request
invariant_of-pass-then-not-is_request c = let at = (goal.at.invariant_of-pass-then-not-is_request c).After-rows-capacity in let a = c.is_request.ensures.acted in
    (rests_looked _ c.pass.inside.seat c.is_request.new.seat (lim at) _ _ _ _ c.pass.invariant.0 root_steps (looked _ _ _ _ a), remembers c.pass.inside.lows _ _ _ _ _ a.walk c.pass.invariant.1)

pub returns-then-not-is_request-clause-follows : goal.returns-then-not-is_request-clause-follows
returns-then-not-is_request-clause-follows c = follows (spot c.pass.inside.seat.table c.pass.inside.lows c.pass.inside.run.drawn c.pass.inside.from) (spot c.is_request.new.seat.table c.pass.inside.lows c.pass.inside.run.drawn c.pass.inside.from) (climbs_same c.pass.inside.lows c.pass.inside.run.drawn) (view_of c.pass.inside.seat) (view_of c.is_request.new.seat) c.args.pass.now c.pass.view_is _ root_steps _ c.is_request.ensures.acted.walk
    (reply_steps c.args.self.now.limits) (omega arith)

pub returns-then-not-is_request-clause-few : goal.returns-then-not-is_request-clause-few
returns-then-not-is_request-clause-few c = follows (spot c.pass.inside.seat.table c.pass.inside.lows c.pass.inside.run.drawn c.pass.inside.from) (spot c.is_request.new.seat.table c.pass.inside.lows c.pass.inside.run.drawn c.pass.inside.from) (climbs_same c.pass.inside.lows c.pass.inside.run.drawn) (view_of c.pass.inside.seat) (view_of c.is_request.new.seat) c.args.pass.now c.pass.view_is _ root_steps _ c.is_request.ensures.acted.walk
    (family_reply_steps (length (family (seen_by c.is_request.new.seat) c.args.root))) (omega arith)

pub returns-then-not-is_request-clause-answer : goal.returns-then-not-is_request-clause-answer
returns-then-not-is_request-clause-answer c = let at = (goal.at.returns-then-not-is_request-clause-answer c).After-rows-capacity in let l : Limits = table_limits c.self.inside.shared.words in
    let t = spot c.pass.inside.seat.table c.pass.inside.lows c.pass.inside.run.drawn c.pass.inside.from in let t' = spot c.is_request.new.seat.table c.pass.inside.lows c.pass.inside.run.drawn c.pass.inside.from in
    subst (λ (z : Limits). AllKilled z c.args.root (λ i. c.args.from ≤ i) c.args.pass.now (shown t' (view_of c.is_request.new.seat))) (limits at)
    (none_killed t t' (view_of c.pass.inside.seat) (view_of c.is_request.new.seat) c.args.pass.now c.pass.view_is l root_steps c.is_request.ensures.acted c.args.root (λ i. c.args.from ≤ i) (c.is_request.ensures.no c.if-not-is_request.true))

-- the walk

pub invariant_of-pass-2 : goal.invariant_of-pass-2
invariant_of-pass-2 c = let at = goal.at.invariant_of-pass-2 c in let a = whole at.After-list_family in
    (rests_looked _ c.pass.inside.seat c.list_family.new.seat (lim at.After-rows-capacity) _ _ _ _ c.pass.invariant.0 _ (looked _ _ _ _ a), remembers c.pass.inside.lows _ _ _ _ _ a.walk c.pass.invariant.1)

within : (c : After-list_family) (m : ℕ) → family_reply_steps (size c) ≤ m → Follows m c.args.pass.now (shown (spot c.list_family.new.seat.table c.pass.inside.lows c.pass.inside.run.drawn c.pass.inside.from) (view_of c.list_family.new.seat))
within c m le = follows (spot c.pass.inside.seat.table c.pass.inside.lows c.pass.inside.run.drawn c.pass.inside.from) (spot c.list_family.new.seat.table c.pass.inside.lows c.pass.inside.run.drawn c.pass.inside.from) (climbs_same c.pass.inside.lows c.pass.inside.run.drawn) (view_of c.pass.inside.seat) (view_of c.list_family.new.seat) c.args.pass.now c.pass.view_is _ _ _ (whole c).walk m le

pub returns-clause-follows : goal.returns-clause-follows
returns-clause-follows c = let at = goal.at.returns-clause-follows c in let a = whole at.After-list_family in
    let few = family_few (table_limits c.self.inside.shared.words) c.args.root (seen_by c.list_family.new.seat) a.walk.steady.shows.legal in
    within at.After-list_family (reply_steps c.args.self.now.limits) (subst (λ (z : Limits). family_reply_steps (size at.After-list_family) ≤ reply_steps z) (limits at.After-rows-capacity) (omega arith))

pub returns-clause-few : goal.returns-clause-few
returns-clause-few c = let at = (goal.at.returns-clause-few c).After-list_family in within at (family_reply_steps (size at)) (omega arith)

pub returns-clause-looks : goal.returns-clause-looks
returns-clause-looks c = λ _. let a = whole (goal.at.returns-clause-looks c).After-list_family in
    has_looked (spot c.pass.inside.seat.table c.pass.inside.lows c.pass.inside.run.drawn c.pass.inside.from) (spot c.list_family.new.seat.table c.pass.inside.lows c.pass.inside.run.drawn c.pass.inside.from) (view_of c.pass.inside.seat) (view_of c.list_family.new.seat) c.args.pass.now c.pass.view_is _ _ _ a.walk a.step

pub returns-clause-inside : goal.returns-clause-inside
returns-clause-inside c = let at = goal.at.returns-clause-inside c in let l : Limits = table_limits c.self.inside.shared.words in let told = c.list_family.ensures.told in
    let t = spot c.pass.inside.seat.table c.pass.inside.lows c.pass.inside.run.drawn c.pass.inside.from in let t' = spot c.list_family.new.seat.table c.pass.inside.lows c.pass.inside.run.drawn c.pass.inside.from in
    subst (λ (z : Limits). IfSome c.list_family.result (λ id. id < rows_of z)) (limits at.After-rows-capacity)
    (listed_inside t t' (view_of c.pass.inside.seat) (view_of c.is_request.new.seat) (view_of c.list_family.new.seat) c.args.pass.now c.pass.view_is l _ _ c.is_request.ensures.acted told.looked c.args.root c.args.from c.list_family.result told)

pub returns-clause-answer : goal.returns-clause-answer
returns-clause-answer c = let at = goal.at.returns-clause-answer c in let l : Limits = table_limits c.self.inside.shared.words in let told = c.list_family.ensures.told in let y = view_of c.list_family.new.seat in
    let t = spot c.pass.inside.seat.table c.pass.inside.lows c.pass.inside.run.drawn c.pass.inside.from in let t' = spot c.list_family.new.seat.table c.pass.inside.lows c.pass.inside.run.drawn c.pass.inside.from in
    subst (λ (z : Limits). MatchOption c.list_family.result (AllKilled z c.args.root (λ i. c.args.from ≤ i) c.args.pass.now (shown t' y)) (λ id. NextReply z c.args.root c.args.from id c.args.pass.now (shown t' y))) (limits at.After-rows-capacity)
    (listed_answer t t' (view_of c.pass.inside.seat) (view_of c.is_request.new.seat) y c.args.pass.now c.pass.view_is l _ _ c.is_request.ensures.acted told.looked c.args.root c.args.from c.list_family.result told)
