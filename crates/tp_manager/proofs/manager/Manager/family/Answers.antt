use Rattle.std.proofs.Common.{ℕ, ◌≡◌, ◌+◌, ◌≤◌, length, sym, ◌∙◌, ap, arith, subst}
use Rattle.tp_model.specs.declared.types.Limits.{Limits}
use Rattle.tp_model.specs.Families.{IsOfFamily, family}
use Rattle.tp_model.specs.Steps.{rows_of}
use Rattle.tp_model.proofs.Bridges.{element_of-id, found_later, is_born}
use Rattle.tp_model.proofs.Later.{births_inside}
use Rattle.tp_rule.specs.Tables.{table_limits}
use Rattle.tp_rule.specs.Views.{seen_by, view_of}
use Rattle.tp_manager.specs.Shown.{ManagerShown, PassShown, shown, spot}
use Rattle.tp_manager.specs.Bounds.{family_look_steps, family_reply_steps, family_steps, read_steps, root_steps, walk_steps}
use Rattle.tp_manager.specs.Calls.{Follows}
use Rattle.tp_manager.specs.Lists.{NextOfFamily}
use Rattle.tp_manager.specs.CallSteps.{Acted}
use Rattle.tp_manager.proofs.Families.Answered.{followed_beyond, followed_none, followed_some, none_followed, request_inside}
use Rattle.tp_manager.proofs.Calls.Passes.{rests_looked}
use Rattle.tp_manager.proofs.Families.Trees.{family_few, family_grows}
use Rattle.tp_manager.proofs.Calls.CallSteps.{acted_then, climbs_same, follows, has_looked, looked, looked_begins, looked_then, remembers}
use Rattle.tp_manager.proofs.manager.Manager.family.Goals as goal
use Rattle.tp_manager.proofs.manager.Manager.family.Goals.{After-rows-capacity, After-is_request, After-first_of_family, After-look_at}

lim : (c : After-rows-capacity) → (view_of c.pass.inside.seat).limits ≡ table_limits c.self.inside.shared.words
lim c = ap (λ (p : PassShown). p.limits) c.pass.view_is ∙ (c.requires.own.1 ∙ (sym (ap (λ (m : ManagerShown). m.limits) c.self.view_is) ∙ sym c.self.inside.shared.same))

limits : (c : After-rows-capacity) → table_limits c.self.inside.shared.words ≡ c.args.self.now.limits
limits c = c.self.inside.shared.same ∙ ap (λ (m : ManagerShown). m.limits) c.self.view_is

-- how many elements the family has at the end of the walk
abbrev size : (c : After-first_of_family) → ℕ
size c = length (family (seen_by c.first_of_family.new.seat) c.args.root)

walked : (c : After-first_of_family) → Acted (table_limits c.self.inside.shared.words) (family_reply_steps (size c)) (view_of c.pass.inside.seat) (view_of c.first_of_family.new.seat)
walked c = acted_then _ root_steps (walk_steps (size c)) _ _ _ c.is_request.ensures.acted c.first_of_family.ensures.told.looked

-- no request

pub returns-then-from-capacity-clause-answer : goal.returns-then-from-capacity-clause-answer
returns-then-from-capacity-clause-answer c = let at = (goal.at.returns-then-from-capacity-clause-answer c).After-rows-capacity in let v = view_of c.pass.inside.seat in
    let out : rows_of v.limits ≤ c.args.from = subst (λ (z : Limits). rows_of z ≤ c.args.from) (sym (lim at ∙ c.self.inside.shared.same)) (subst (λ n. n ≤ c.args.from) c.rows-capacity.ensures c.if-from-capacity.true) in
    followed_beyond (spot c.pass.inside.seat.table c.pass.inside.lows c.pass.inside.run.drawn c.pass.inside.from) v c.args.pass.now c.pass.view_is v.limits c.pass.invariant.0.steady c.args.root c.args.from out

pub invariant_of-pass-then-root-capacity : goal.invariant_of-pass-then-root-capacity
invariant_of-pass-then-root-capacity c = let at = (goal.at.invariant_of-pass-then-root-capacity c).After-rows-capacity in let a = c.head_at.ensures.acted in
    (rests_looked _ c.pass.inside.seat c.head_at.new.seat (lim at) _ _ _ _ c.pass.invariant.0 1 (looked _ _ _ _ a), remembers c.pass.inside.lows _ _ _ _ _ a.walk c.pass.invariant.1)

pub returns-then-root-capacity-clause-answer : goal.returns-then-root-capacity-clause-answer
returns-then-root-capacity-clause-answer c = let l : Limits = table_limits c.self.inside.shared.words in let a = c.head_at.ensures.acted in
    let out : rows_of l ≤ c.args.root = subst (λ (z : Limits). rows_of z ≤ c.args.root) (sym c.self.inside.shared.same) (subst (λ n. n ≤ c.args.root) c.rows-capacity.ensures c.if-root-capacity.true) in
    none_followed (spot c.pass.inside.seat.table c.pass.inside.lows c.pass.inside.run.drawn c.pass.inside.from) (spot c.head_at.new.seat.table c.pass.inside.lows c.pass.inside.run.drawn c.pass.inside.from) (view_of c.pass.inside.seat) (view_of c.head_at.new.seat) c.args.pass.now c.pass.view_is l 1 a c.args.root c.args.from (request_inside l (seen_by c.head_at.new.seat) c.args.root a.walk.steady.shows.legal out)

pub invariant_of-pass-then-not-is_request : goal.invariant_of-pass-then-not-is_request
invariant_of-pass-then-not-is_request c = let at = (goal.at.invariant_of-pass-then-not-is_request c).After-rows-capacity in let a = c.is_request.ensures.acted in
    (rests_looked _ c.pass.inside.seat c.is_request.new.seat (lim at) _ _ _ _ c.pass.invariant.0 root_steps (looked _ _ _ _ a), remembers c.pass.inside.lows _ _ _ _ _ a.walk c.pass.invariant.1)

refused : (c : After-is_request) (m : ℕ) → root_steps ≤ m → Follows m c.args.pass.now (shown (spot c.is_request.new.seat.table c.pass.inside.lows c.pass.inside.run.drawn c.pass.inside.from) (view_of c.is_request.new.seat))
refused c m le = follows (spot c.pass.inside.seat.table c.pass.inside.lows c.pass.inside.run.drawn c.pass.inside.from) (spot c.is_request.new.seat.table c.pass.inside.lows c.pass.inside.run.drawn c.pass.inside.from) (climbs_same c.pass.inside.lows c.pass.inside.run.drawn) (view_of c.pass.inside.seat) (view_of c.is_request.new.seat) c.args.pass.now c.pass.view_is _ root_steps _ c.is_request.ensures.acted.walk m le

pub returns-then-not-is_request-clause-follows : goal.returns-then-not-is_request-clause-follows
returns-then-not-is_request-clause-follows c = refused (goal.at.returns-then-not-is_request-clause-follows c).After-is_request (family_steps c.args.self.now.limits) (omega arith)

pub returns-then-not-is_request-clause-few : goal.returns-then-not-is_request-clause-few
returns-then-not-is_request-clause-few c = refused (goal.at.returns-then-not-is_request-clause-few c).After-is_request (family_look_steps c.args.self.now.limits (length (family (seen_by c.is_request.new.seat) c.args.root))) (omega arith)

pub returns-then-not-is_request-clause-answer : goal.returns-then-not-is_request-clause-answer
returns-then-not-is_request-clause-answer c = none_followed (spot c.pass.inside.seat.table c.pass.inside.lows c.pass.inside.run.drawn c.pass.inside.from) (spot c.is_request.new.seat.table c.pass.inside.lows c.pass.inside.run.drawn c.pass.inside.from) (view_of c.pass.inside.seat) (view_of c.is_request.new.seat) c.args.pass.now c.pass.view_is (table_limits c.self.inside.shared.words) root_steps c.is_request.ensures.acted c.args.root c.args.from (c.is_request.ensures.no c.if-not-is_request.true)

-- a walk that found none

pub invariant_of-pass-in_default : goal.invariant_of-pass-in_default
invariant_of-pass-in_default c = let at = goal.at.invariant_of-pass-in_default c in let a = walked at.After-first_of_family in
    (rests_looked _ c.pass.inside.seat c.first_of_family.new.seat (lim at.After-rows-capacity) _ _ _ _ c.pass.invariant.0 _ (looked _ _ _ _ a), remembers c.pass.inside.lows _ _ _ _ _ a.walk c.pass.invariant.1)

passed : (c : After-first_of_family) (m : ℕ) → family_reply_steps (size c) ≤ m → Follows m c.args.pass.now (shown (spot c.first_of_family.new.seat.table c.pass.inside.lows c.pass.inside.run.drawn c.pass.inside.from) (view_of c.first_of_family.new.seat))
passed c m le = follows (spot c.pass.inside.seat.table c.pass.inside.lows c.pass.inside.run.drawn c.pass.inside.from) (spot c.first_of_family.new.seat.table c.pass.inside.lows c.pass.inside.run.drawn c.pass.inside.from) (climbs_same c.pass.inside.lows c.pass.inside.run.drawn) (view_of c.pass.inside.seat) (view_of c.first_of_family.new.seat) c.args.pass.now c.pass.view_is _ _ _ (walked c).walk m le

pub returns-in_default-clause-follows : goal.returns-in_default-clause-follows
returns-in_default-clause-follows c = let at = goal.at.returns-in_default-clause-follows c in let a = walked at.After-first_of_family in
    let few = family_few (table_limits c.self.inside.shared.words) c.args.root (seen_by c.first_of_family.new.seat) a.walk.steady.shows.legal in
    passed at.After-first_of_family (family_steps c.args.self.now.limits) (subst (λ (z : Limits). family_reply_steps (size at.After-first_of_family) ≤ family_steps z) (limits at.After-rows-capacity) (omega arith))

pub returns-in_default-clause-few : goal.returns-in_default-clause-few
returns-in_default-clause-few c = let at = (goal.at.returns-in_default-clause-few c).After-first_of_family in passed at (family_look_steps c.args.self.now.limits (size at)) (omega arith)

pub returns-in_default-clause-looks : goal.returns-in_default-clause-looks
returns-in_default-clause-looks c = λ _. let a = walked (goal.at.returns-in_default-clause-looks c).After-first_of_family in
    has_looked (spot c.pass.inside.seat.table c.pass.inside.lows c.pass.inside.run.drawn c.pass.inside.from) (spot c.first_of_family.new.seat.table c.pass.inside.lows c.pass.inside.run.drawn c.pass.inside.from) (view_of c.pass.inside.seat) (view_of c.first_of_family.new.seat) c.args.pass.now c.pass.view_is _ _ _ a.walk a.step

pub returns-in_default-clause-answer : goal.returns-in_default-clause-answer
returns-in_default-clause-answer c = let told = c.in_default.ensures.told in
    followed_none (spot c.pass.inside.seat.table c.pass.inside.lows c.pass.inside.run.drawn c.pass.inside.from) (spot c.first_of_family.new.seat.table c.pass.inside.lows c.pass.inside.run.drawn c.pass.inside.from) (view_of c.pass.inside.seat) (view_of c.is_request.new.seat) (view_of c.first_of_family.new.seat) c.args.pass.now c.pass.view_is (table_limits c.self.inside.shared.words) _ _ c.is_request.ensures.acted told.looked c.args.root c.args.from told.passed

-- and one that found one

pub look_at-requires-clause-row : goal.look_at-requires-clause-row
look_at-requires-clause-row c = let l : Limits = table_limits c.self.inside.shared.words in let told = c.in-Some.ensures.told in let x = told.found.1 in let h = seen_by c.first_of_family.new.seat in
    let inside = births_inside l h told.looked.walk.steady.shows.legal x.0 (is_born h c.in-Some.id x.0 x.1) in let id = element_of-id h c.in-Some.id x.0 x.1 in
    (omega arith, (x.0, x.1))

-- how many elements the family has at the end of the call
abbrev final : (c : After-look_at) → ℕ
final c = length (family (seen_by c.look_at.new.seat) c.args.root)

whole : (c : After-look_at) → Acted (table_limits c.self.inside.shared.words) (family_reply_steps (length (family (seen_by c.first_of_family.new.seat) c.args.root)) + read_steps (table_limits c.self.inside.shared.words)) (view_of c.pass.inside.seat) (view_of c.look_at.new.seat)
whole c = let l : Limits = table_limits c.self.inside.shared.words in
    acted_then l (family_reply_steps (length (family (seen_by c.first_of_family.new.seat) c.args.root))) (read_steps l) _ _ _ (acted_then l root_steps (walk_steps (length (family (seen_by c.first_of_family.new.seat) c.args.root))) _ _ _ c.is_request.ensures.acted c.first_of_family.ensures.told.looked) c.look_at.ensures.looked

pub invariant_of-pass-2 : goal.invariant_of-pass-2
invariant_of-pass-2 c = let at = goal.at.invariant_of-pass-2 c in let a = whole at.After-look_at in
    (rests_looked _ c.pass.inside.seat c.look_at.new.seat (lim at.After-rows-capacity) _ _ _ _ c.pass.invariant.0 _ (looked _ _ _ _ a), remembers c.pass.inside.lows _ _ _ _ _ a.walk c.pass.invariant.1)

grows : (c : After-look_at) → length (family (seen_by c.first_of_family.new.seat) c.args.root) ≤ final c
grows c = family_grows (seen_by c.first_of_family.new.seat) (seen_by c.look_at.new.seat) c.args.root (looked_begins _ _ _ _ c.look_at.ensures.looked)

within : (c : After-look_at) (m : ℕ) → family_look_steps (table_limits c.self.inside.shared.words) (final c) ≤ m → Follows m c.args.pass.now (shown (spot c.look_at.new.seat.table c.pass.inside.lows c.pass.inside.run.drawn c.pass.inside.from) (view_of c.look_at.new.seat))
within c m le = let more = grows c in
    follows (spot c.pass.inside.seat.table c.pass.inside.lows c.pass.inside.run.drawn c.pass.inside.from) (spot c.look_at.new.seat.table c.pass.inside.lows c.pass.inside.run.drawn c.pass.inside.from) (climbs_same c.pass.inside.lows c.pass.inside.run.drawn) (view_of c.pass.inside.seat) (view_of c.look_at.new.seat) c.args.pass.now c.pass.view_is _ _ _ (whole c).walk m (omega arith)

pub returns-clause-follows : goal.returns-clause-follows
returns-clause-follows c = let at = goal.at.returns-clause-follows c in let l : Limits = table_limits c.self.inside.shared.words in let a = whole at.After-look_at in
    let few = family_few l c.args.root (seen_by c.look_at.new.seat) a.walk.steady.shows.legal in
    within at.After-look_at (family_steps c.args.self.now.limits) (subst (λ (z : Limits). family_look_steps l (final at.After-look_at) ≤ family_steps z) (limits at.After-rows-capacity) (omega arith))

pub returns-clause-few : goal.returns-clause-few
returns-clause-few c = let at = goal.at.returns-clause-few c in let l : Limits = table_limits c.self.inside.shared.words in
    within at.After-look_at (family_look_steps c.args.self.now.limits (final at.After-look_at)) (subst (λ (z : Limits). family_look_steps l (final at.After-look_at) ≤ family_look_steps z (final at.After-look_at)) (limits at.After-rows-capacity) (omega arith))

pub returns-clause-looks : goal.returns-clause-looks
returns-clause-looks c = λ _. let a = whole (goal.at.returns-clause-looks c).After-look_at in
    has_looked (spot c.pass.inside.seat.table c.pass.inside.lows c.pass.inside.run.drawn c.pass.inside.from) (spot c.look_at.new.seat.table c.pass.inside.lows c.pass.inside.run.drawn c.pass.inside.from) (view_of c.pass.inside.seat) (view_of c.look_at.new.seat) c.args.pass.now c.pass.view_is _ _ _ a.walk a.step

pub returns-clause-answer : goal.returns-clause-answer
returns-clause-answer c = let at = goal.at.returns-clause-answer c in let l : Limits = table_limits c.self.inside.shared.words in let told = c.in-Some.ensures.told in let x = told.found.1 in let s = c.look_at.ensures in let y = view_of c.look_at.new.seat in
    let of : IsOfFamily (seen_by c.look_at.new.seat) c.args.root c.in-Some.id = (x.0, found_later (seen_by c.first_of_family.new.seat) (seen_by c.look_at.new.seat) (looked_begins l (read_steps l) _ _ s.looked) c.in-Some.id x.0 x.1, x.2) in
    subst (λ (z : Limits). NextOfFamily z c.args.root c.args.from c.look_at.result c.args.pass.now (shown (spot c.look_at.new.seat.table c.pass.inside.lows c.pass.inside.run.drawn c.pass.inside.from) y)) (limits at.After-rows-capacity)
    (followed_some (spot c.pass.inside.seat.table c.pass.inside.lows c.pass.inside.run.drawn c.pass.inside.from) (spot c.look_at.new.seat.table c.pass.inside.lows c.pass.inside.run.drawn c.pass.inside.from) (view_of c.pass.inside.seat) (view_of c.is_request.new.seat) y c.args.pass.now c.pass.view_is l root_steps _ c.is_request.ensures.acted (looked_then l _ (read_steps l) _ _ _ told.looked s.looked) c.args.root c.args.from c.in-Some.id c.look_at.result told.passed told.found.0 of s.told)
