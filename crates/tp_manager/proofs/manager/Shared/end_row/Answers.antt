use Rattle.std.proofs.Common.{◌≤◌, ℕ, arith}
use Rattle.tp_model.specs.declared.types.Limits.{Limits}
use Rattle.tp_model.specs.Families.{IsOfFamily}
use Rattle.tp_model.specs.Steps.{tries}
use Rattle.tp_model.proofs.Bridges.{found_later}
use Rattle.tp_rule.specs.Tables.{table_limits}
use Rattle.tp_rule.specs.Views.{seen_by, view_of}
use Rattle.tp_manager.specs.Bounds.{end_steps, end_steps_at, slay_steps}
use Rattle.tp_manager.specs.Cancels.{IsTarget}
use Rattle.tp_manager.specs.CallSteps.{Looked}
use Rattle.tp_manager.proofs.Families.CancelWalks.{ends_killed, ends_left, ends_reply, target}
use Rattle.tp_manager.proofs.Families.EndSums.{end_all, end_some}
use Rattle.tp_manager.proofs.Calls.CallSteps.{looked, looked_begins}
use Rattle.tp_manager.proofs.manager.Shared.end_row.Goals as goal
use Rattle.tp_manager.proofs.manager.Shared.end_row.Goals.{After-head_at-head, Else-is_reply}

one : (c : After-head_at-head) → Looked (table_limits c.args.self.now.words) 1 (view_of c.args.seat.now) (view_of c.head_at-head.new.seat)
one c = looked _ 1 _ _ c.head_at-head.ensures.acted

-- the element is one that may be killed
may : (c : Else-is_reply) (root : ℕ) → Looked (table_limits c.args.self.now.words) 1 (view_of c.args.seat.now) (view_of c.head_at-head.new.seat) → IsOfFamily (seen_by c.args.seat.now) root c.args.row → IsTarget root c.args.row (seen_by c.head_at-head.new.seat)
may c root o of = target (table_limits c.args.self.now.words) c.args.row root _ _ (looked_begins _ 1 _ _ o) of (λ x born. c.is_reply.ensures.no c.if-is_reply.false x (c.head_at-head.ensures.told.born x born))

pub returns-then-is_reply-clause-told : goal.returns-then-is_reply-clause-told
returns-then-is_reply-clause-told c = λ root of. let l : Limits = table_limits c.args.self.now.words in let o = one (goal.at.returns-then-is_reply-clause-told c).After-head_at-head in
    let born = found_later _ _ (looked_begins l 1 _ _ o) c.args.row of.0 of.1 in
    ends_reply l c.args.row root 1 (end_steps_at l of.0) _ _ of.0 (end_some l of.0) o born (c.is_reply.ensures.yes c.if-is_reply.true of.0 (c.head_at-head.ensures.told.born of.0 born))

-- and costs as much
costs : (c : Else-is_reply) (root : ℕ) → Looked (table_limits c.args.self.now.words) 1 (view_of c.args.seat.now) (view_of c.head_at-head.new.seat) → (of : IsOfFamily (seen_by c.args.seat.now) root c.args.row) → end_steps (table_limits c.args.self.now.words) ≤ end_steps_at (table_limits c.args.self.now.words) of.0
costs c root o of = end_all (table_limits c.args.self.now.words) of.0 (c.is_reply.ensures.no c.if-is_reply.false of.0 (c.head_at-head.ensures.told.born of.0 (found_later _ _ (looked_begins _ 1 _ _ o) c.args.row of.0 of.1)))

pub kill_row-requires-clause-row : goal.kill_row-requires-clause-row
kill_row-requires-clause-row c = let o = one (goal.at.kill_row-requires-clause-row c).After-head_at-head in let t = c.requires.row.1 in
    (c.requires.row.0, (t.0, found_later _ _ (looked_begins _ 1 _ _ o) c.args.row t.0 t.1))

pub returns-in-Ok-clause-told : goal.returns-in-Ok-clause-told
returns-in-Ok-clause-told c = λ root of. let l : Limits = table_limits c.args.self.now.words in let at = goal.at.returns-in-Ok-clause-told c in let o = one at.After-head_at-head in
    ends_killed l c.args.row root 1 (slay_steps l) (tries l.attempts) _ _ _ o (may at.Else-is_reply root o of) (end_steps_at l of.0) c.in-Ok.field-0 (let all = costs at.Else-is_reply root o of in omega arith) c.in-Ok.ensures.told

pub returns-in-Err-clause-told : goal.returns-in-Err-clause-told
returns-in-Err-clause-told c = λ root of. let l : Limits = table_limits c.args.self.now.words in let at = goal.at.returns-in-Err-clause-told c in let o = one at.After-head_at-head in
    ends_left l c.args.row root 1 (slay_steps l) (tries l.attempts) _ _ _ o (may at.Else-is_reply root o of) (end_steps_at l of.0) c.in-Err.refusal c.left_by.result _ (let all = costs at.Else-is_reply root o of in omega arith) c.in-Err.ensures.told c.left_by.ensures.looked c.left_by.ensures.told c.left_by.ensures.none
