use Rattle.std.proofs.Common.{◌≡◌, Some, None, [], sym, ◌∙◌}
use Rattle.tp_model.specs.declared.types.Limits.{Limits}
use Rattle.tp_model.proofs.Bridges.{begins_trans, found_later}
use Rattle.tp_rule.specs.Tables.{table_limits}
use Rattle.tp_rule.specs.Views.{seen_by, view_of}
use Rattle.tp_manager.specs.Bounds.{birth_steps, take_steps}
use Rattle.tp_manager.specs.CallSteps.{Looked}
use Rattle.tp_manager.proofs.Kills.OneKill.{freed_looked, freed_slain}
use Rattle.tp_manager.proofs.Families.Taken.{past_killed, staged}
use Rattle.tp_manager.proofs.Calls.CallSteps.{looked, looked_begins, looked_then}
use Rattle.tp_manager.proofs.manager.Shared.take_row.Goals as goal
use Rattle.tp_manager.proofs.manager.Shared.take_row.Goals.{After-birth_from}

two : (c : After-birth_from) → Looked (table_limits c.args.self.now.words) birth_steps (view_of c.args.seat.now) (view_of c.birth_from.new.seat)
two c = looked_then _ 1 1 _ _ _ (looked _ 1 _ _ c.head_at-head.ensures.acted) c.birth_from.ensures.looked

pub unreachable-requires : goal.unreachable-requires
unreachable-requires c =
    let t = c.requires.reply in let born = found_later _ _ (looked_begins _ birth_steps _ _ (two (goal.at.unreachable-requires c).After-birth_from)) c.args.row t.0 t.1 in
    let none = c.in_default.ensures.told in let e : None ≡ Some t.0 = sym none ∙ born in absurd cc

pub collect_row-requires-clause-reply : goal.collect_row-requires-clause-reply
collect_row-requires-clause-reply c =
    let t = c.requires.reply in let born = found_later _ _ (looked_begins _ birth_steps _ _ (two (goal.at.collect_row-requires-clause-reply c).After-birth_from)) c.args.row t.0 t.1 in
    staged (seen_by c.birth_from.new.seat) c.args.row t.0 c.in-Some.birth born t.2 c.in-Some.ensures.told.0

pub returns-in-Ok-clause-told : goal.returns-in-Ok-clause-told
returns-in-Ok-clause-told c = let l : Limits = table_limits c.args.self.now.words in let b = two (goal.at.returns-in-Ok-clause-told c).After-birth_from in let told = c.in-Ok.ensures.told in
    (freed_slain l birth_steps take_steps c.args.row [] [] _ _ _ (freed_looked l birth_steps c.args.row _ _ b) told.0, told.1)

pub returns-in-Err-clause-told : goal.returns-in-Err-clause-told
returns-in-Err-clause-told c = let l : Limits = table_limits c.args.self.now.words in let b = two (goal.at.returns-in-Err-clause-told c).After-birth_from in let told = c.in-Err.ensures.told in
    let p = past_killed l c.args.row (seen_by c.birth_from.new.seat) (seen_by c.collect_row.new.seat) c.in-Err.field-0 told.1 in
    (looked_then l birth_steps take_steps _ _ _ b told.0, (p.0, begins_trans _ _ _ (looked_begins l birth_steps _ _ b) p.1, p.2, p.3))
