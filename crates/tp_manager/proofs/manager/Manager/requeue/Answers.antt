use Rattle.std.proofs.Common.{◌≡◌, ◌≤◌, ◌++◌, sym, ◌∙◌, ap, arith, subst}
use Rattle.tp_model.specs.declared.types.Limits.{Limits}
use Rattle.tp_model.specs.History.{IsUnborn}
use Rattle.tp_model.specs.Steps.{rows_of}
use Rattle.tp_rule.specs.Tables.{table_limits}
use Rattle.tp_rule.specs.Views.{seen_by, view_of}
use Rattle.tp_rule.specs.declared.view.Hand.{Hand}
use Rattle.tp_manager.specs.Shown.{ManagerShown, PassShown, shown, spot}
use Rattle.tp_manager.specs.Bounds.{birth_steps, renew_steps, requeue_steps}
use Rattle.tp_manager.specs.Requeues.{Renewed, RequeueFails}
use Rattle.tp_manager.specs.CallSteps.{Acted}
use Rattle.tp_manager.proofs.Calls.Points.{has_more}
use Rattle.tp_manager.proofs.Calls.CallSteps.{acted_then, looked, looked_none, follows, at_point, has_looked, point_last, walked_then, climbs_same, remembers}
use Rattle.tp_manager.proofs.Calls.Passes.{rests_looked, quiet_looked, point_none, unborn_beyond}
use Rattle.tp_manager.proofs.Kills.Requeues.{renewed_then, requeue_shown, requeues_shown, rests_renewed}
use Rattle.tp_manager.proofs.manager.Manager.requeue.Goals as goal
use Rattle.tp_manager.proofs.manager.Manager.requeue.Goals.{After-rows, After-birth_from, In-Ok, In-Err}

lim : (c : After-rows) → (view_of c.pass.inside.seat).limits ≡ table_limits c.self.inside.shared.words
lim c = ap (λ (p : PassShown). p.limits) c.pass.view_is ∙ (c.requires.own.1 ∙ (sym (ap (λ (m : ManagerShown). m.limits) c.self.view_is) ∙ sym c.self.inside.shared.same))

limits : (c : After-rows) → table_limits c.self.inside.shared.words ≡ c.args.self.now.limits
limits c = c.self.inside.shared.same ∙ ap (λ (m : ManagerShown). m.limits) c.self.view_is

none : (c : After-birth_from) → Acted (table_limits c.self.inside.shared.words) birth_steps (view_of c.pass.inside.seat) (view_of c.birth_from.new.seat)
none c = acted_then _ 1 1 _ _ _ c.head_at-head.ensures.acted c.birth_from.ensures.looked

-- a requeue that went through
renewed : (c : In-Ok) → Acted (table_limits c.self.inside.shared.words) birth_steps (view_of c.pass.inside.seat) (view_of c.birth_from.new.seat) → Renewed (table_limits c.self.inside.shared.words) requeue_steps c.args.id c.in-Ok.round (view_of c.pass.inside.seat) (view_of c.requeue_row.new.seat)
renewed c n = renewed_then _ birth_steps renew_steps c.args.id c.in-Ok.round _ _ _ (looked _ birth_steps _ _ n) c.in-Ok.ensures.told

-- one that was refused
refused : (c : In-Err) → Acted (table_limits c.self.inside.shared.words) birth_steps (view_of c.pass.inside.seat) (view_of c.birth_from.new.seat) → Acted (table_limits c.self.inside.shared.words) requeue_steps (view_of c.pass.inside.seat) (view_of c.requeue_row.new.seat)
refused c n = acted_then _ birth_steps renew_steps _ _ _ n c.in-Err.ensures.told.0

pub returns-then-id-rows-clause-answer : goal.returns-then-id-rows-clause-answer
returns-then-id-rows-clause-answer c = let r = c.pass.invariant.0 in let at = (goal.at.returns-then-id-rows-clause-answer c).After-rows in
    let out : rows_of (view_of c.pass.inside.seat).limits ≤ c.args.id = subst (λ (z : Limits). rows_of z ≤ c.args.id) (sym (lim at ∙ c.self.inside.shared.same)) (subst (λ n. n ≤ c.args.id) c.rows.ensures c.if-id-rows.true) in (
      quiet_looked (spot c.pass.inside.seat.table c.pass.inside.lows c.pass.inside.run.drawn c.pass.inside.from) (spot c.pass.inside.seat.table c.pass.inside.lows c.pass.inside.run.drawn c.pass.inside.from) (view_of c.pass.inside.seat) (view_of c.pass.inside.seat) c.args.pass.now c.pass.view_is _ 0 (looked_none _ _ r.steady),
      point_none (spot c.pass.inside.seat.table c.pass.inside.lows c.pass.inside.run.drawn c.pass.inside.from) (view_of c.pass.inside.seat) c.args.pass.now c.pass.view_is _ r.steady (λ h. IsUnborn h c.args.id) (unborn_beyond _ _ c.args.id r.steady.shows.legal out),
    )

pub invariant_of-pass-in_default : goal.invariant_of-pass-in_default
invariant_of-pass-in_default c = let at = goal.at.invariant_of-pass-in_default c in
    (rests_looked _ c.pass.inside.seat c.birth_from.new.seat (lim at.After-rows) _ _ _ _ c.pass.invariant.0 birth_steps (looked _ _ _ _ (none at.After-birth_from)), remembers c.pass.inside.lows _ _ _ _ _ (none at.After-birth_from).walk c.pass.invariant.1)

pub returns-in_default-clause-follows : goal.returns-in_default-clause-follows
returns-in_default-clause-follows c = let at = goal.at.returns-in_default-clause-follows c in
    follows (spot c.pass.inside.seat.table c.pass.inside.lows c.pass.inside.run.drawn c.pass.inside.from) (spot c.birth_from.new.seat.table c.pass.inside.lows c.pass.inside.run.drawn c.pass.inside.from) (climbs_same c.pass.inside.lows c.pass.inside.run.drawn) (view_of c.pass.inside.seat) (view_of c.birth_from.new.seat) c.args.pass.now c.pass.view_is _ birth_steps _ (none at.After-birth_from).walk requeue_steps (omega arith)

pub returns-in_default-clause-looks : goal.returns-in_default-clause-looks
returns-in_default-clause-looks c = λ _. let at = goal.at.returns-in_default-clause-looks c in let a = none at.After-birth_from in
    has_looked (spot c.pass.inside.seat.table c.pass.inside.lows c.pass.inside.run.drawn c.pass.inside.from) (spot c.birth_from.new.seat.table c.pass.inside.lows c.pass.inside.run.drawn c.pass.inside.from) (view_of c.pass.inside.seat) (view_of c.birth_from.new.seat) c.args.pass.now c.pass.view_is _ birth_steps _ a.walk a.step

pub returns-in_default-clause-answer : goal.returns-in_default-clause-answer
returns-in_default-clause-answer c = let at = goal.at.returns-in_default-clause-answer c in let l : Limits = table_limits c.self.inside.shared.words in let n = none at.After-birth_from in
    let v = view_of c.pass.inside.seat in let x = view_of c.birth_from.new.seat in (
      quiet_looked (spot c.pass.inside.seat.table c.pass.inside.lows c.pass.inside.run.drawn c.pass.inside.from) (spot c.birth_from.new.seat.table c.pass.inside.lows c.pass.inside.run.drawn c.pass.inside.from) v x c.args.pass.now c.pass.view_is l birth_steps (looked l birth_steps v x n),
      at_point (spot c.pass.inside.seat.table c.pass.inside.lows c.pass.inside.run.drawn c.pass.inside.from) (spot c.birth_from.new.seat.table c.pass.inside.lows c.pass.inside.run.drawn c.pass.inside.from) v x c.args.pass.now c.pass.view_is l birth_steps n.marks n.walk (λ z. IsUnborn z c.args.id) (seen_by c.birth_from.new.seat) (point_last l birth_steps n.marks v x n.walk) c.in_default.ensures.told,
    )

pub returns-in_default-clause-open_unit : goal.returns-in_default-clause-open_unit
returns-in_default-clause-open_unit c = let at = goal.at.returns-in_default-clause-open_unit c in ap (λ (h : Hand). h.open_unit) (none at.After-birth_from).kept ∙ ap (λ (p : PassShown). p.open_unit) c.pass.view_is

pub invariant_of-pass-in-Ok : goal.invariant_of-pass-in-Ok
invariant_of-pass-in-Ok c = let at = goal.at.invariant_of-pass-in-Ok c in
    let a = renewed at.In-Ok (none at.After-birth_from) in
    (rests_renewed (table_limits c.self.inside.shared.words) c.pass.inside.seat c.requeue_row.new.seat _ _ _ _ (lim at.After-rows) c.pass.invariant.0 requeue_steps c.args.id c.in-Ok.round a, remembers c.pass.inside.lows _ _ _ _ _ a.walk c.pass.invariant.1)

pub invariant_of-pass-in-Err : goal.invariant_of-pass-in-Err
invariant_of-pass-in-Err c = let at = goal.at.invariant_of-pass-in-Err c in
    let a = refused at.In-Err (none at.After-birth_from) in
    (rests_looked _ c.pass.inside.seat c.requeue_row.new.seat (lim at.After-rows) _ _ _ _ c.pass.invariant.0 requeue_steps (looked _ _ _ _ a), remembers c.pass.inside.lows _ _ _ _ _ a.walk c.pass.invariant.1)

pub returns-in-Ok-clause-follows : goal.returns-in-Ok-clause-follows
returns-in-Ok-clause-follows c = let at = goal.at.returns-in-Ok-clause-follows c in let a = renewed at.In-Ok (none at.After-birth_from) in
    follows (spot c.pass.inside.seat.table c.pass.inside.lows c.pass.inside.run.drawn c.pass.inside.from) (spot c.requeue_row.new.seat.table c.pass.inside.lows c.pass.inside.run.drawn c.pass.inside.from) (climbs_same c.pass.inside.lows c.pass.inside.run.drawn) (view_of c.pass.inside.seat) (view_of c.requeue_row.new.seat) c.args.pass.now c.pass.view_is _ requeue_steps a.marks a.walk requeue_steps (omega arith)

pub returns-in-Ok-clause-looks : goal.returns-in-Ok-clause-looks
returns-in-Ok-clause-looks c = λ _. let at = goal.at.returns-in-Ok-clause-looks c in let l : Limits = table_limits c.self.inside.shared.words in let n = none at.After-birth_from in let k = c.in-Ok.ensures.told in
    has_looked (spot c.pass.inside.seat.table c.pass.inside.lows c.pass.inside.run.drawn c.pass.inside.from) (spot c.requeue_row.new.seat.table c.pass.inside.lows c.pass.inside.run.drawn c.pass.inside.from) (view_of c.pass.inside.seat) (view_of c.requeue_row.new.seat) c.args.pass.now c.pass.view_is l requeue_steps (n.marks ++ k.marks)
    (walked_then l birth_steps renew_steps n.marks k.marks _ _ _ n.walk k.walk) (has_more n.marks k.marks n.step)

pub returns-in-Ok-clause-open_unit : goal.returns-in-Ok-clause-open_unit
returns-in-Ok-clause-open_unit c = let at = goal.at.returns-in-Ok-clause-open_unit c in ap (λ (h : Hand). h.open_unit) (renewed at.In-Ok (none at.After-birth_from)).kept ∙ ap (λ (p : PassShown). p.open_unit) c.pass.view_is

pub returns-in-Ok-clause-answer : goal.returns-in-Ok-clause-answer
returns-in-Ok-clause-answer c = let at = goal.at.returns-in-Ok-clause-answer c in let n = none at.After-birth_from in
    requeues_shown (spot c.pass.inside.seat.table c.pass.inside.lows c.pass.inside.run.drawn c.pass.inside.from) (spot c.requeue_row.new.seat.table c.pass.inside.lows c.pass.inside.run.drawn c.pass.inside.from) (view_of c.pass.inside.seat) (view_of c.birth_from.new.seat) (view_of c.requeue_row.new.seat) c.args.pass.now c.pass.view_is (table_limits c.self.inside.shared.words) birth_steps requeue_steps n c.args.id c.in-Ok.round (renewed at.In-Ok n)

pub returns-in-Err-clause-follows : goal.returns-in-Err-clause-follows
returns-in-Err-clause-follows c = let at = goal.at.returns-in-Err-clause-follows c in let a = refused at.In-Err (none at.After-birth_from) in
    follows (spot c.pass.inside.seat.table c.pass.inside.lows c.pass.inside.run.drawn c.pass.inside.from) (spot c.requeue_row.new.seat.table c.pass.inside.lows c.pass.inside.run.drawn c.pass.inside.from) (climbs_same c.pass.inside.lows c.pass.inside.run.drawn) (view_of c.pass.inside.seat) (view_of c.requeue_row.new.seat) c.args.pass.now c.pass.view_is _ requeue_steps a.marks a.walk requeue_steps (omega arith)

pub returns-in-Err-clause-looks : goal.returns-in-Err-clause-looks
returns-in-Err-clause-looks c = λ _. let at = goal.at.returns-in-Err-clause-looks c in let a = refused at.In-Err (none at.After-birth_from) in
    has_looked (spot c.pass.inside.seat.table c.pass.inside.lows c.pass.inside.run.drawn c.pass.inside.from) (spot c.requeue_row.new.seat.table c.pass.inside.lows c.pass.inside.run.drawn c.pass.inside.from) (view_of c.pass.inside.seat) (view_of c.requeue_row.new.seat) c.args.pass.now c.pass.view_is _ requeue_steps a.marks a.walk a.step

pub returns-in-Err-clause-open_unit : goal.returns-in-Err-clause-open_unit
returns-in-Err-clause-open_unit c = let at = goal.at.returns-in-Err-clause-open_unit c in ap (λ (h : Hand). h.open_unit) (refused at.In-Err (none at.After-birth_from)).kept ∙ ap (λ (p : PassShown). p.open_unit) c.pass.view_is

pub returns-in-Err-clause-answer : goal.returns-in-Err-clause-answer
returns-in-Err-clause-answer c = let at = goal.at.returns-in-Err-clause-answer c in let l : Limits = table_limits c.self.inside.shared.words in let n = none at.After-birth_from in let told = c.in-Err.ensures.told in let there = c.in-Some.ensures.told.0 in
    subst (λ (z : Limits). RequeueFails z c.args.id c.args.pass.now (shown (spot c.requeue_row.new.seat.table c.pass.inside.lows c.pass.inside.run.drawn c.pass.inside.from) (view_of c.requeue_row.new.seat)) c.in-Err.refusal) (limits at.After-rows)
    (requeue_shown (spot c.pass.inside.seat.table c.pass.inside.lows c.pass.inside.run.drawn c.pass.inside.from) (spot c.requeue_row.new.seat.table c.pass.inside.lows c.pass.inside.run.drawn c.pass.inside.from) (view_of c.pass.inside.seat) (view_of c.birth_from.new.seat) (view_of c.requeue_row.new.seat) c.args.pass.now c.pass.view_is l birth_steps renew_steps n c.args.id c.in-Err.refusal told.0 (there.0, there.1) told.1)
