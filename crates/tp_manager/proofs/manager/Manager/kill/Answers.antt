use Rattle.std.proofs.Common.{◌≡◌, ◌+◌, ◌≤◌, ◌++◌, sym, ◌∙◌, ap, refl, arith, subst, None}
use Rattle.tp_model.specs.declared.types.Limits.{Limits}
use Rattle.tp_model.specs.History.{IsUnborn}
use Rattle.tp_model.specs.Steps.{rows_of, tries}
use Rattle.tp_model.proofs.Bridges.{found_later}
use Rattle.tp_rule.specs.Steps.{HasElement}
use Rattle.tp_rule.specs.Tables.{table_limits}
use Rattle.tp_rule.specs.Views.{hand, seen_by, view_of}
use Rattle.tp_rule.specs.declared.view.Hand.{Hand}
use Rattle.tp_manager.specs.Shown.{ManagerShown, PassShown, shown, spot}
use Rattle.tp_manager.specs.Bounds.{birth_steps, kill_steps, slay_steps}
use Rattle.tp_manager.specs.Calls.{Kills, KillFails}
use Rattle.tp_manager.specs.CallSteps.{Acted}
use Rattle.tp_manager.specs.BetweenCalls.{Rests}
use Rattle.tp_manager.proofs.Calls.Points.{has_more}
use Rattle.tp_manager.proofs.Calls.CallSteps.{acted_then, looked, looked_none, follows, at_point, has_looked, point_last, walked_begins, walked_then, climbs_same, remembers}
use Rattle.tp_manager.proofs.Calls.Passes.{rests_looked, quiet_looked, point_none, unborn_beyond, task_none}
use Rattle.tp_manager.proofs.Kills.OneKill.{kills_after, fails_after, kills_shown, fails_shown, rests_slain, rests_freed}
use Rattle.tp_manager.proofs.manager.Manager.kill.Goals as goal
use Rattle.tp_manager.proofs.manager.Manager.kill.Goals.{After-rows, After-birth_from}

lim : (c : After-rows) → (view_of c.pass.inside.seat).limits ≡ table_limits c.self.inside.shared.words
lim c = ap (λ (p : PassShown). p.limits) c.pass.view_is ∙ (c.requires.own.1 ∙ (sym (ap (λ (m : ManagerShown). m.limits) c.self.view_is) ∙ sym c.self.inside.shared.same))

limits : (c : After-rows) → table_limits c.self.inside.shared.words ≡ c.args.self.now.limits
limits c = c.self.inside.shared.same ∙ ap (λ (m : ManagerShown). m.limits) c.self.view_is

free : (c : After-rows) → (hand (view_of c.pass.inside.seat)).open_unit ≡ None
free c = ap (λ (p : PassShown). p.open_unit) c.pass.view_is ∙ c.requires.free

no_task : (c : After-rows) → c.pass.inside.task ≡ None
no_task c = task_none c.pass.inside.task (sym c.pass.invariant.0.open_is ∙ free c)

rests : (c : After-rows) → Rests c.pass.inside.seat c.pass.inside.number c.pass.inside.run c.pass.inside.used None
rests c = subst (λ t. Rests c.pass.inside.seat c.pass.inside.number c.pass.inside.run c.pass.inside.used t) (no_task c) c.pass.invariant.0

none : (c : After-birth_from) → Acted (table_limits c.self.inside.shared.words) birth_steps (view_of c.pass.inside.seat) (view_of c.birth_from.new.seat)
none c = acted_then _ 1 1 _ _ _ c.head_at-head.ensures.acted c.birth_from.ensures.looked

pub returns-then-id-rows-clause-answer : goal.returns-then-id-rows-clause-answer
returns-then-id-rows-clause-answer c = let r = c.pass.invariant.0 in let at = (goal.at.returns-then-id-rows-clause-answer c).After-rows in
    let out : rows_of (view_of c.pass.inside.seat).limits ≤ c.args.id = subst (λ (z : Limits). rows_of z ≤ c.args.id) (sym (lim at ∙ c.self.inside.shared.same)) (subst (λ n. n ≤ c.args.id) c.rows.ensures c.if-id-rows.true) in (
      quiet_looked (spot c.pass.inside.seat.table c.pass.inside.lows c.pass.inside.run.drawn c.pass.inside.from) (spot c.pass.inside.seat.table c.pass.inside.lows c.pass.inside.run.drawn c.pass.inside.from) (view_of c.pass.inside.seat) (view_of c.pass.inside.seat) c.args.pass.now c.pass.view_is _ 0 (looked_none _ _ r.steady),
      point_none (spot c.pass.inside.seat.table c.pass.inside.lows c.pass.inside.run.drawn c.pass.inside.from) (view_of c.pass.inside.seat) c.args.pass.now c.pass.view_is _ r.steady (λ h. IsUnborn h c.args.id) (unborn_beyond _ _ c.args.id r.steady.shows.legal out),
    )

pub invariant_of-pass-in_default : goal.invariant_of-pass-in_default
invariant_of-pass-in_default c = let at = goal.at.invariant_of-pass-in_default c in
    (rests_looked _ c.pass.inside.seat c.birth_from.new.seat (lim at.After-rows) _ _ _ _ c.pass.invariant.0 birth_steps (looked _ _ _ _ (none at.After-birth_from)), remembers c.pass.inside.lows _ _ _ _ _ (none at.After-birth_from).walk c.pass.invariant.1)

pub returns-in_default-clause-follows : goal.returns-in_default-clause-follows
returns-in_default-clause-follows c = let at = goal.at.returns-in_default-clause-follows c in
    follows (spot c.pass.inside.seat.table c.pass.inside.lows c.pass.inside.run.drawn c.pass.inside.from) (spot c.birth_from.new.seat.table c.pass.inside.lows c.pass.inside.run.drawn c.pass.inside.from) (climbs_same c.pass.inside.lows c.pass.inside.run.drawn) (view_of c.pass.inside.seat) (view_of c.birth_from.new.seat) c.args.pass.now c.pass.view_is _ birth_steps _ (none at.After-birth_from).walk (kill_steps c.args.self.now.limits) (omega arith)

pub returns-in_default-clause-looks : goal.returns-in_default-clause-looks
returns-in_default-clause-looks c = λ _. let at = goal.at.returns-in_default-clause-looks c in let a = none at.After-birth_from in
    has_looked (spot c.pass.inside.seat.table c.pass.inside.lows c.pass.inside.run.drawn c.pass.inside.from) (spot c.birth_from.new.seat.table c.pass.inside.lows c.pass.inside.run.drawn c.pass.inside.from) (view_of c.pass.inside.seat) (view_of c.birth_from.new.seat) c.args.pass.now c.pass.view_is _ birth_steps _ a.walk a.step

pub returns-in_default-clause-answer : goal.returns-in_default-clause-answer
returns-in_default-clause-answer c = let at = goal.at.returns-in_default-clause-answer c in let l : Limits = table_limits c.self.inside.shared.words in let n = none at.After-birth_from in
    let v = view_of c.pass.inside.seat in let x = view_of c.birth_from.new.seat in (
      quiet_looked (spot c.pass.inside.seat.table c.pass.inside.lows c.pass.inside.run.drawn c.pass.inside.from) (spot c.birth_from.new.seat.table c.pass.inside.lows c.pass.inside.run.drawn c.pass.inside.from) v x c.args.pass.now c.pass.view_is l birth_steps (looked l birth_steps v x n),
      at_point (spot c.pass.inside.seat.table c.pass.inside.lows c.pass.inside.run.drawn c.pass.inside.from) (spot c.birth_from.new.seat.table c.pass.inside.lows c.pass.inside.run.drawn c.pass.inside.from) v x c.args.pass.now c.pass.view_is l birth_steps n.marks n.walk (λ z. IsUnborn z c.args.id) (seen_by c.birth_from.new.seat) (point_last l birth_steps n.marks v x n.walk) c.in_default.ensures.told,
    )

pub invariant_of-pass-in-Ok : goal.invariant_of-pass-in-Ok
invariant_of-pass-in-Ok c = let at = goal.at.invariant_of-pass-in-Ok c in let l : Limits = table_limits c.self.inside.shared.words in let a = tries l.attempts in
    let k = kills_after l birth_steps (slay_steps l) (kill_steps l) c.args.id a a (view_of c.pass.inside.seat) (view_of c.birth_from.new.seat) (view_of c.kill_row.new.seat) (looked l birth_steps _ _ (none at.After-birth_from)) refl (omega arith) c.in-Ok.units_aborted c.in-Ok.ensures.told in (
      subst (λ t. Rests c.kill_row.new.seat c.pass.inside.number c.pass.inside.run c.pass.inside.used t) (sym (no_task at.After-rows))
          (rests_slain l c.pass.inside.seat c.kill_row.new.seat _ _ _ (lim at.After-rows) (rests at.After-rows) _ c.args.id k.0 k.3),
      remembers c.pass.inside.lows _ _ _ _ _ k.3.gained.walk c.pass.invariant.1,
    )

pub invariant_of-pass-in-Err : goal.invariant_of-pass-in-Err
invariant_of-pass-in-Err c = let at = goal.at.invariant_of-pass-in-Err c in let l : Limits = table_limits c.self.inside.shared.words in let a = tries l.attempts in
    let k = fails_after l birth_steps (slay_steps l) (kill_steps l) c.args.id a a (view_of c.pass.inside.seat) (view_of c.birth_from.new.seat) (view_of c.kill_row.new.seat) (looked l birth_steps _ _ (none at.After-birth_from)) refl (omega arith) c.in-Err.refusal c.in-Err.ensures.told in (
      subst (λ t. Rests c.kill_row.new.seat c.pass.inside.number c.pass.inside.run c.pass.inside.used t) (sym (no_task at.After-rows))
          (rests_freed l c.pass.inside.seat c.kill_row.new.seat _ _ _ (lim at.After-rows) (rests at.After-rows) _ c.args.id k.0 k.2),
      remembers c.pass.inside.lows _ _ _ _ _ k.2.gained.walk c.pass.invariant.1,
    )

few : (l k : Limits) → l ≡ k → birth_steps + slay_steps l ≤ kill_steps k
few l k same = subst (λ (z : Limits). birth_steps + slay_steps l ≤ kill_steps z) same (omega arith)

pub returns-in-Ok-clause-follows : goal.returns-in-Ok-clause-follows
returns-in-Ok-clause-follows c = let at = goal.at.returns-in-Ok-clause-follows c in let l : Limits = table_limits c.self.inside.shared.words in let n = none at.After-birth_from in let k = c.in-Ok.ensures.told.3.gained in
    follows (spot c.pass.inside.seat.table c.pass.inside.lows c.pass.inside.run.drawn c.pass.inside.from) (spot c.kill_row.new.seat.table c.pass.inside.lows c.pass.inside.run.drawn c.pass.inside.from) (climbs_same c.pass.inside.lows c.pass.inside.run.drawn) (view_of c.pass.inside.seat) (view_of c.kill_row.new.seat) c.args.pass.now c.pass.view_is l (birth_steps + slay_steps l) (n.marks ++ k.marks)
    (walked_then l birth_steps (slay_steps l) n.marks k.marks _ _ _ n.walk k.walk) (kill_steps c.args.self.now.limits) (few l c.args.self.now.limits (limits at.After-rows))

pub returns-in-Ok-clause-looks : goal.returns-in-Ok-clause-looks
returns-in-Ok-clause-looks c = λ _. let at = goal.at.returns-in-Ok-clause-looks c in let l : Limits = table_limits c.self.inside.shared.words in let n = none at.After-birth_from in let k = c.in-Ok.ensures.told.3.gained in
    has_looked (spot c.pass.inside.seat.table c.pass.inside.lows c.pass.inside.run.drawn c.pass.inside.from) (spot c.kill_row.new.seat.table c.pass.inside.lows c.pass.inside.run.drawn c.pass.inside.from) (view_of c.pass.inside.seat) (view_of c.kill_row.new.seat) c.args.pass.now c.pass.view_is l (birth_steps + slay_steps l) (n.marks ++ k.marks)
    (walked_then l birth_steps (slay_steps l) n.marks k.marks _ _ _ n.walk k.walk) (has_more n.marks k.marks n.step)

pub returns-in-Err-clause-follows : goal.returns-in-Err-clause-follows
returns-in-Err-clause-follows c = let at = goal.at.returns-in-Err-clause-follows c in let l : Limits = table_limits c.self.inside.shared.words in let n = none at.After-birth_from in let k = c.in-Err.ensures.told.2.gained in
    follows (spot c.pass.inside.seat.table c.pass.inside.lows c.pass.inside.run.drawn c.pass.inside.from) (spot c.kill_row.new.seat.table c.pass.inside.lows c.pass.inside.run.drawn c.pass.inside.from) (climbs_same c.pass.inside.lows c.pass.inside.run.drawn) (view_of c.pass.inside.seat) (view_of c.kill_row.new.seat) c.args.pass.now c.pass.view_is l (birth_steps + slay_steps l) (n.marks ++ k.marks)
    (walked_then l birth_steps (slay_steps l) n.marks k.marks _ _ _ n.walk k.walk) (kill_steps c.args.self.now.limits) (few l c.args.self.now.limits (limits at.After-rows))

pub returns-in-Err-clause-looks : goal.returns-in-Err-clause-looks
returns-in-Err-clause-looks c = λ _. let at = goal.at.returns-in-Err-clause-looks c in let l : Limits = table_limits c.self.inside.shared.words in let n = none at.After-birth_from in let k = c.in-Err.ensures.told.2.gained in
    has_looked (spot c.pass.inside.seat.table c.pass.inside.lows c.pass.inside.run.drawn c.pass.inside.from) (spot c.kill_row.new.seat.table c.pass.inside.lows c.pass.inside.run.drawn c.pass.inside.from) (view_of c.pass.inside.seat) (view_of c.kill_row.new.seat) c.args.pass.now c.pass.view_is l (birth_steps + slay_steps l) (n.marks ++ k.marks)
    (walked_then l birth_steps (slay_steps l) n.marks k.marks _ _ _ n.walk k.walk) (has_more n.marks k.marks n.step)

pub returns-in-Ok-clause-answer : goal.returns-in-Ok-clause-answer
returns-in-Ok-clause-answer c = let at = goal.at.returns-in-Ok-clause-answer c in let l : Limits = table_limits c.self.inside.shared.words in let a = tries l.attempts in
    let k = kills_after l birth_steps (slay_steps l) (kill_steps l) c.args.id a a (view_of c.pass.inside.seat) (view_of c.birth_from.new.seat) (view_of c.kill_row.new.seat) (looked l birth_steps _ _ (none at.After-birth_from)) refl (omega arith) c.in-Ok.units_aborted c.in-Ok.ensures.told in
    subst (λ (z : Limits). Kills z c.args.id c.in-Ok.units_aborted c.args.pass.now (shown (spot c.kill_row.new.seat.table c.pass.inside.lows c.pass.inside.run.drawn c.pass.inside.from) (view_of c.kill_row.new.seat))) (limits at.After-rows)
    (kills_shown (spot c.pass.inside.seat.table c.pass.inside.lows c.pass.inside.run.drawn c.pass.inside.from) (spot c.kill_row.new.seat.table c.pass.inside.lows c.pass.inside.run.drawn c.pass.inside.from) (view_of c.pass.inside.seat) (view_of c.kill_row.new.seat) c.args.pass.now c.pass.view_is l (free at.After-rows) _ c.args.id c.in-Ok.units_aborted k)

pub returns-in-Err-clause-answer : goal.returns-in-Err-clause-answer
returns-in-Err-clause-answer c = let at = goal.at.returns-in-Err-clause-answer c in let l : Limits = table_limits c.self.inside.shared.words in let a = tries l.attempts in
    let k = fails_after l birth_steps (slay_steps l) (kill_steps l) c.args.id a a (view_of c.pass.inside.seat) (view_of c.birth_from.new.seat) (view_of c.kill_row.new.seat) (looked l birth_steps _ _ (none at.After-birth_from)) refl (omega arith) c.in-Err.refusal c.in-Err.ensures.told in
    let told = c.in-Err.ensures.told in let there = c.in-Some.ensures.told.0 in let later = walked_begins l _ _ _ _ told.2.gained.walk in let born : HasElement (seen_by c.kill_row.new.seat) c.args.id = (there.0, found_later _ _ later c.args.id there.0 there.1) in
    subst (λ (z : Limits). KillFails z c.args.id c.args.pass.now (shown (spot c.kill_row.new.seat.table c.pass.inside.lows c.pass.inside.run.drawn c.pass.inside.from) (view_of c.kill_row.new.seat)) c.in-Err.refusal) (limits at.After-rows)
    (fails_shown (spot c.pass.inside.seat.table c.pass.inside.lows c.pass.inside.run.drawn c.pass.inside.from) (spot c.kill_row.new.seat.table c.pass.inside.lows c.pass.inside.run.drawn c.pass.inside.from) (view_of c.pass.inside.seat) (view_of c.kill_row.new.seat) c.args.pass.now c.pass.view_is l (free at.After-rows) _ c.args.id c.in-Err.refusal born k)

pub returns-in_default-clause-open_unit : goal.returns-in_default-clause-open_unit
returns-in_default-clause-open_unit c = let at = goal.at.returns-in_default-clause-open_unit c in ap (λ (h : Hand). h.open_unit) (none at.After-birth_from).kept ∙ free at.After-rows

pub returns-in-Ok-clause-open_unit : goal.returns-in-Ok-clause-open_unit
returns-in-Ok-clause-open_unit c = let at = goal.at.returns-in-Ok-clause-open_unit c in c.in-Ok.ensures.told.3.gained.open_unit (ap (λ (h : Hand). h.open_unit) (none at.After-birth_from).kept ∙ free at.After-rows)

pub returns-in-Err-clause-open_unit : goal.returns-in-Err-clause-open_unit
returns-in-Err-clause-open_unit c = let at = goal.at.returns-in-Err-clause-open_unit c in c.in-Err.ensures.told.2.gained.open_unit (ap (λ (h : Hand). h.open_unit) (none at.After-birth_from).kept ∙ free at.After-rows)
