use Rattle.std.proofs.Common.{◌≡◌, ◌+◌, Some, None, sym, ◌∙◌}
use Rattle.tp_model.specs.declared.types.Limits.{Limits}
use Rattle.tp_model.proofs.Bridges.{found_later}
use Rattle.tp_rule.specs.Tables.{table_limits}
use Rattle.tp_rule.specs.Views.{view_of}
use Rattle.tp_manager.specs.Bounds.{birth_steps, body_steps, status_steps}
use Rattle.tp_manager.specs.CallSteps.{Looked}
use Rattle.tp_manager.proofs.Calls.CallSteps.{looked, looked_begins, looked_then}
use Rattle.tp_manager.proofs.manager.Shared.look_at.Goals as goal
use Rattle.tp_manager.proofs.manager.Shared.look_at.Goals.{After-birth_from, After-status_at-status}

two : (c : After-birth_from) → Looked (table_limits c.args.self.now.words) birth_steps (view_of c.args.seat.now) (view_of c.birth_from.new.seat)
two c = looked_then _ 1 1 _ _ _ (looked _ 1 _ _ c.head_at-head.ensures.acted) c.birth_from.ensures.looked

pub unreachable-requires : goal.unreachable-requires
unreachable-requires c =
    let t = c.requires.row.1 in let born = found_later _ _ (looked_begins _ birth_steps _ _ (two (goal.at.unreachable-requires c).After-birth_from)) c.args.row t.0 t.1 in
    let none = c.in_default.ensures.told in let e : None ≡ Some t.0 = sym none ∙ born in absurd cc

pub returns-clause-looked : goal.returns-clause-looked
returns-clause-looked c = let l : Limits = table_limits c.args.self.now.words in let b = two (goal.at.returns-clause-looked c).After-birth_from in
    looked_then l (birth_steps + body_steps) (status_steps l) _ _ _ (looked_then l birth_steps body_steps _ _ _ b c.element_at-element.ensures.looked) (looked _ _ _ _ c.status_at-status.ensures.acted)

pub returns-clause-told : goal.returns-clause-told
returns-clause-told c = let s = c.status_at-status.ensures in
    (found_later _ _ (looked_begins _ _ _ _ (looked _ _ _ _ s.acted)) c.args.row _ c.element_at-element.ensures.born, s.status)
