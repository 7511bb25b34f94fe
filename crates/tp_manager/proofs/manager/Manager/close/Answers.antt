use Rattle.std.proofs.Common.{◌≡◌, ◌+◌, ◌<◌, ◌≤◌, ℕ, List, [], ◌∷◌, sym, ◌∙◌, ap, refl, arith, subst, Some, length, inl}
use Rattle.tp_model.specs.declared.types.Limits.{Limits}
use Rattle.tp_model.specs.declared.event.Event.TheVariants.{Abort, Commit}
use Rattle.tp_model.specs.declared.types.Element.{Element}
use Rattle.tp_model.specs.declared.trace.StepKind.TheVariants as kinds
use Rattle.tp_model.specs.declared.event.Event.{Event}
use Rattle.tp_model.specs.Births.{outputs}
use Rattle.tp_model.specs.Steps.{units_of}
use Rattle.tp_model.proofs.Outputs.{length-outputs}
use Rattle.tp_rule.specs.Steps.{IsClaimed, MakesCommit, commit_event}
use Rattle.tp_rule.specs.declared.view.View.{View}
use Rattle.tp_model.specs.History.{Aborted, In}
use Rattle.tp_rule.specs.Tables.{table_limits}
use Rattle.tp_rule.specs.Views.{hand, view_of}
use Rattle.tp_manager.specs.Shown.{ManagerShown, PassShown, spot}
use Rattle.tp_manager.specs.Bounds.{close_steps}
use Rattle.tp_manager.specs.CallSteps.{Steady}
use Rattle.tp_manager.specs.BetweenCalls.{Rests, unit_in}
use Rattle.tp_manager.specs.Drafts.{Shut}
use Rattle.tp_manager.specs.Marks.{Recalls}
use Rattle.tp_manager.specs.declared.streak.Streak.{Streak}
use Rattle.tp_rule.specs.Rule.{AreCommitted}
use Rattle.tp_manager.proofs.Calls.CallSteps.{follows, climbs_same, remembers, streak_kept}
use Rattle.tp_manager.proofs.Rows.UnitsSeen.{streak_before, streak_on}
use Rattle.tp_manager.proofs.Calls.Passes.{done_walked, steady_at, cleared_later}
use Rattle.tp_manager.proofs.Rows.Drafts.{commit_commits, units_few, own_work, own_count, own_first, wrote_shut, committed_answer, task_claimed, shut_done, shut_hit, shut_miss, shut_rests, shut_closes, shut_uses, shut_loses}
use Rattle.tp_manager.proofs.manager.Manager.close.Goals as goal
use Rattle.tp_manager.proofs.manager.Manager.close.Goals.{In-Some, After-write_all, then-count-eq0, else-count-eq0}

lim : (c : In-Some) → (view_of c.pass.inside.seat).limits ≡ table_limits c.self.inside.shared.words
lim c = ap (λ (p : PassShown). p.limits) c.pass.view_is ∙ (c.requires.own.1 ∙ (sym (ap (λ (m : ManagerShown). m.limits) c.self.view_is) ∙ sym c.self.inside.shared.same))

steady : (c : In-Some) → Steady (table_limits c.self.inside.shared.words) (view_of c.pass.inside.seat)
steady c = steady_at _ _ _ (lim c) c.pass.invariant.0.steady

held : (c : In-Some) → (hand (view_of c.pass.inside.seat)).open_unit ≡ Some c.in-Some.task.unit
held c = c.pass.invariant.0.open_is ∙ ap unit_in c.in-Some.is

left_is : (c : In-Some) → c.args.pass.now.left ≡ c.pass.inside.run.left
left_is c = sym (ap (λ (p : PassShown). p.left) c.pass.view_is) ∙ c.pass.invariant.0.run_is.1

rests : (c : In-Some) → Rests c.pass.inside.seat c.pass.inside.number c.pass.inside.run c.pass.inside.used (Some c.in-Some.task)
rests c = subst (λ t. Rests c.pass.inside.seat c.pass.inside.number c.pass.inside.run c.pass.inside.used t) c.in-Some.is c.pass.invariant.0

claimed_unit : (c : In-Some) → IsClaimed (view_of c.pass.inside.seat).seen c.in-Some.task.unit × (c.in-Some.task.unit < units_of (table_limits c.self.inside.shared.words))
claimed_unit c = task_claimed (table_limits c.self.inside.shared.words) (view_of c.pass.inside.seat).seen c.pass.inside.number c.in-Some.task (steady c).shows.legal (rests c).work

pub write_all-requires-clause-fits : goal.write_all-requires-clause-fits
write_all-requires-clause-fits c = let i = (goal.at.write_all-requires-clause-fits c).In-Some in let b = (claimed_unit i).1 in let few = units_few (table_limits c.self.inside.shared.words) c.self.inside.shared.words.places.valid in omega arith

pub commit_exchange-requires-clause-unit : goal.commit_exchange-requires-clause-unit
commit_exchange-requires-clause-unit c = let i = (goal.at.commit_exchange-requires-clause-unit c).In-Some in (c.write_all.ensures.wrote.open_unit ∙ held i, (claimed_unit i).1)

pub commit_exchange-requires-clause-work : goal.commit_exchange-requires-clause-work
commit_exchange-requires-clause-work c = let i = (goal.at.commit_exchange-requires-clause-work c).In-Some in
    own_work (table_limits c.self.inside.shared.words) (view_of c.pass.inside.seat) _ _ _ _ _ c.in-Some.task c.args.drafts.now c.pass.inside.seat refl (rests i) refl c.write_all.ensures.wrote c.write_all.ensures.whole

pub commit_exchange-requires-clause-count : goal.commit_exchange-requires-clause-count
commit_exchange-requires-clause-count c = let i = (goal.at.commit_exchange-requires-clause-count c).In-Some in
    (own_count (table_limits c.self.inside.shared.words) (view_of c.pass.inside.seat) _ _ _ _ _ c.in-Some.task c.args.drafts.now c.pass.inside.seat refl (rests i) refl c.write_all.ensures.wrote, c.requires.few)

pub commit_exchange-requires-clause-first : goal.commit_exchange-requires-clause-first
commit_exchange-requires-clause-first c = let i = (goal.at.commit_exchange-requires-clause-first c).In-Some in
    own_first (table_limits c.self.inside.shared.words) (view_of c.pass.inside.seat) _ _ _ _ _ c.in-Some.task c.args.drafts.now c.pass.inside.seat refl (rests i) refl c.write_all.ensures.wrote c.if-count-eq0.first
    (λ some. elim c.if-count-eq0.branch [ then-count-eq0 w ↦ let z = w.if-count-eq0.true in absurd (omega arith) | else-count-eq0 w ↦ w.first-is ])
    (λ none. elim c.if-count-eq0.branch [ then-count-eq0 w ↦ w.first-is | else-count-eq0 w ↦ absurd (w.if-count-eq0.false none) ])

hit : (c : After-write_all) (i : In-Some) → (y : View) → MakesCommit (view_of c.write_all.new.seat) c.in-Some.task.unit y
    → Shut (table_limits c.self.inside.shared.words) 1 0 (commit_event (view_of c.write_all.new.seat) c.in-Some.task.unit ∷ []) (view_of c.write_all.new.seat) y
hit c i y made = let l : Limits = table_limits c.self.inside.shared.words in
    shut_hit l kinds.CommitExchange _ _ _ refl c.write_all.ensures.wrote.walk.steady made

both : (c : After-write_all) → (es : List Event) (y : View) → Shut (table_limits c.self.inside.shared.words) 1 0 es (view_of c.write_all.new.seat) y
    → Shut (table_limits c.self.inside.shared.words) (close_steps (length c.args.drafts.now)) (length c.args.drafts.now) es (view_of c.pass.inside.seat) y
both c es y sh = let row : ℕ = c.pass.inside.run.next in
    subst (λ n. Shut (table_limits c.self.inside.shared.words) (close_steps n) n es (view_of c.pass.inside.seat) y) (length-outputs c.in-Some.task.unit c.in-Some.task.root row c.args.drafts.now)
    (wrote_shut (table_limits c.self.inside.shared.words) (outputs c.in-Some.task.unit c.in-Some.task.root row c.args.drafts.now) es (view_of c.pass.inside.seat) (view_of c.write_all.new.seat) y c.write_all.ensures.wrote sh)

pub commit_exchange-requires-clause-tail : goal.commit_exchange-requires-clause-tail
commit_exchange-requires-clause-tail c = let w = c.write_all.ensures.wrote.walk in
    streak_before (view_of c.write_all.new.seat).seen c.pass.inside.streak c.in-Some.task.unit c.before-tail.result (streak_kept _ _ _ _ _ _ _ w c.pass.invariant.1.streak) c.before-tail.ensures

pub behind-pass-inside-requires : goal.behind-pass-inside-requires
behind-pass-inside-requires c = let i = (goal.at.behind-pass-inside-requires c).In-Some in let b = (claimed_unit i).1 in let few = units_few (table_limits c.self.inside.shared.words) c.self.inside.shared.words.places.valid in omega arith

-- what it remembers once the unit is committed
noted : (c : After-write_all) → (outs : List Element) (y : View) → Shut (table_limits c.self.inside.shared.words) (close_steps (length c.args.drafts.now)) (length c.args.drafts.now) (Commit (hand (view_of c.write_all.new.seat)).number c.in-Some.task.unit outs ∷ []) (view_of c.pass.inside.seat) y
    → (tail : ℕ) (next : Streak) → AreCommitted (view_of c.pass.inside.seat).seen c.in-Some.task.unit tail → next.end ≡ c.in-Some.task.unit + 1 → next.length ≤ tail + 1
    → Recalls (view_of c.pass.inside.seat) c.pass.inside.lows c.pass.inside.gaps c.pass.inside.begins c.pass.inside.units.committed c.pass.inside.streak
    → Recalls y c.pass.inside.lows c.pass.inside.gaps c.pass.inside.begins c.pass.inside.units.committed next
noted c outs y sh tail next before end long old = let l : Limits = table_limits c.self.inside.shared.words in let u : ℕ = c.in-Some.task.unit in let r = remembers c.pass.inside.lows _ _ _ _ _ sh.walk old in record {
  marks = r.marks;
  gaps = r.gaps;
  behind = r.behind;
  committed = r.committed;
  streak = streak_on y.seen next u tail (streak_kept _ _ _ _ _ _ _ sh.walk before) (commit_commits l _ u y.seen sh.before outs sh.walk.steady.shows.legal sh.ends) end long;
}

pub invariant_of-pass : goal.invariant_of-pass
invariant_of-pass c = let at = goal.at.invariant_of-pass c in (
  shut_rests _ _ _ _ c.pass.inside.seat c.commit_exchange.new.seat _ _ _ _ _ (lim at.In-Some) (both at.After-write_all _ _ (hit at.After-write_all at.In-Some _ (c.commit_exchange.ensures.hit c.if-commit_exchange.true))) refl refl (let few = c.requires.room in let same = left_is at.In-Some in omega arith) refl refl
      (shut_done _ _ _ _ _ _ _ c.pass.inside.number c.in-Some.task (both at.After-write_all _ _ (hit at.After-write_all at.In-Some _ (c.commit_exchange.ensures.hit c.if-commit_exchange.true))) (rests at.In-Some).work) c.pass.invariant.0,
  noted at.After-write_all _ _ (both at.After-write_all _ _ (hit at.After-write_all at.In-Some _ (c.commit_exchange.ensures.hit c.if-commit_exchange.true))) c.before-tail.result _
      (streak_before (view_of c.pass.inside.seat).seen c.pass.inside.streak c.in-Some.task.unit c.before-tail.result c.pass.invariant.1.streak c.before-tail.ensures) c.behind-pass-inside.ensures.end c.behind-pass-inside.ensures.length c.pass.invariant.1,
)

pub invariant_of-pass-else-commit_exchange : goal.invariant_of-pass-else-commit_exchange
invariant_of-pass-else-commit_exchange c = let at = goal.at.invariant_of-pass-else-commit_exchange c in (
  shut_rests _ _ _ _ c.pass.inside.seat c.commit_exchange.new.seat _ _ _ _ _ (lim at.In-Some) (both at.After-write_all _ _ (shut_miss _ kinds.CommitExchange _ _ refl c.write_all.ensures.wrote.walk.steady (c.commit_exchange.ensures.miss c.if-commit_exchange.false).0)) refl refl (let few = c.requires.room in let same = left_is at.In-Some in omega arith) refl refl
      (done_walked _ _ _ _ _ c.pass.inside.run.done (lim at.In-Some) (both at.After-write_all _ _ (shut_miss _ kinds.CommitExchange _ _ refl c.write_all.ensures.wrote.walk.steady (c.commit_exchange.ensures.miss c.if-commit_exchange.false).0)).walk c.pass.invariant.0.done) c.pass.invariant.0,
  remembers c.pass.inside.lows _ _ _ _ _ (both at.After-write_all _ _ (shut_miss _ kinds.CommitExchange _ _ refl c.write_all.ensures.wrote.walk.steady (c.commit_exchange.ensures.miss c.if-commit_exchange.false).0)).walk c.pass.invariant.1,
)

pub returns-then-commit_exchange-clause-follows : goal.returns-then-commit_exchange-clause-follows
returns-then-commit_exchange-clause-follows c = let at = goal.at.returns-then-commit_exchange-clause-follows c in let k : ℕ = length c.args.drafts.now in
    let sh = both at.After-write_all _ _ (hit at.After-write_all at.In-Some _ (c.commit_exchange.ensures.hit c.if-commit_exchange.true)) in
    follows (spot c.pass.inside.seat.table c.pass.inside.lows c.pass.inside.run.drawn c.pass.inside.from) (spot c.commit_exchange.new.seat.table c.pass.inside.lows c.pass.inside.run.drawn c.pass.inside.from) (climbs_same c.pass.inside.lows c.pass.inside.run.drawn) (view_of c.pass.inside.seat) (view_of c.commit_exchange.new.seat) c.args.pass.now c.pass.view_is _ (close_steps k) _ sh.walk (close_steps k) (omega arith)

pub returns-else-commit_exchange-clause-follows : goal.returns-else-commit_exchange-clause-follows
returns-else-commit_exchange-clause-follows c = let at = goal.at.returns-else-commit_exchange-clause-follows c in let k : ℕ = length c.args.drafts.now in
    let sh = both at.After-write_all _ _ (shut_miss _ kinds.CommitExchange _ _ refl c.write_all.ensures.wrote.walk.steady (c.commit_exchange.ensures.miss c.if-commit_exchange.false).0) in
    follows (spot c.pass.inside.seat.table c.pass.inside.lows c.pass.inside.run.drawn c.pass.inside.from) (spot c.commit_exchange.new.seat.table c.pass.inside.lows c.pass.inside.run.drawn c.pass.inside.from) (climbs_same c.pass.inside.lows c.pass.inside.run.drawn) (view_of c.pass.inside.seat) (view_of c.commit_exchange.new.seat) c.args.pass.now c.pass.view_is _ (close_steps k) _ sh.walk (close_steps k) (omega arith)

pub returns-then-commit_exchange-clause-answer : goal.returns-then-commit_exchange-clause-answer
returns-then-commit_exchange-clause-answer c = let at = goal.at.returns-then-commit_exchange-clause-answer c in let i = at.In-Some in let u = c.in-Some.task.unit in let l : Limits = table_limits c.self.inside.shared.words in
    let v = view_of c.pass.inside.seat in let w = view_of c.write_all.new.seat in let y = view_of c.commit_exchange.new.seat in
    let sh : Shut l _ _ (commit_event w u ∷ []) v y = both at.After-write_all _ _ (hit at.After-write_all i y (c.commit_exchange.ensures.hit c.if-commit_exchange.true)) in
    committed_answer (spot c.pass.inside.seat.table c.pass.inside.lows c.pass.inside.run.drawn c.pass.inside.from) (spot c.commit_exchange.new.seat.table c.pass.inside.lows c.pass.inside.run.drawn c.pass.inside.from) l v w y c.args.pass.now c.pass.view_is _ _ _ _ c.in-Some.task c.args.drafts.now c.pass.inside.seat refl (rests i) refl c.write_all.ensures.wrote (lim i) (held i) c.if-count-eq0.first _ sh
    (λ some. elim c.if-count-eq0.branch [ then-count-eq0 w ↦ let z = w.if-count-eq0.true in absurd (omega arith) | else-count-eq0 w ↦ w.first-is ])
    (λ none. elim c.if-count-eq0.branch [ then-count-eq0 w ↦ w.first-is | else-count-eq0 w ↦ absurd (w.if-count-eq0.false none) ])

pub returns-else-commit_exchange-clause-answer : goal.returns-else-commit_exchange-clause-answer
returns-else-commit_exchange-clause-answer c = let at = goal.at.returns-else-commit_exchange-clause-answer c in let i = at.In-Some in let u = c.in-Some.task.unit in let l : Limits = table_limits c.self.inside.shared.words in
    let v = view_of c.pass.inside.seat in let w = view_of c.write_all.new.seat in let y = view_of c.commit_exchange.new.seat in
    let miss = c.commit_exchange.ensures.miss c.if-commit_exchange.false in
    let sh : Shut l _ _ [] v y = both at.After-write_all _ _ (shut_miss l kinds.CommitExchange w y refl c.write_all.ensures.wrote.walk.steady miss.0) in (
      u,
      shut_closes (spot c.pass.inside.seat.table c.pass.inside.lows c.pass.inside.run.drawn c.pass.inside.from) (spot c.commit_exchange.new.seat.table c.pass.inside.lows c.pass.inside.run.drawn c.pass.inside.from) v y c.args.pass.now c.pass.view_is l _ _ u _ sh (held i) (Aborted, miss.1),
      (hand v).next,
      inl (shut_uses (spot c.pass.inside.seat.table c.pass.inside.lows c.pass.inside.run.drawn c.pass.inside.from) (spot c.commit_exchange.new.seat.table c.pass.inside.lows c.pass.inside.run.drawn c.pass.inside.from) v y c.args.pass.now c.pass.view_is l _ _ _ sh),
      shut_loses (spot c.pass.inside.seat.table c.pass.inside.lows c.pass.inside.run.drawn c.pass.inside.from) (spot c.commit_exchange.new.seat.table c.pass.inside.lows c.pass.inside.run.drawn c.pass.inside.from) v y c.args.pass.now c.pass.view_is l _ _ u sh miss.1 (subst (λ k. ¬ (In (Abort k u) y.seen)) c.write_all.ensures.wrote.walk.number miss.2),
    )

pub commit_exchange-requires-clause-cleared : goal.commit_exchange-requires-clause-cleared
commit_exchange-requires-clause-cleared c = let w = c.write_all.ensures.wrote in cleared_later (view_of c.pass.inside.seat) (view_of c.write_all.new.seat) w.run.3 w.walk.knows c.pass.invariant.0.cleared
