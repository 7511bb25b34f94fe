use Rattle.std.proofs.Common.{◌<◌, [], length, set, ℕ, ◌≡◌, ◌≤◌, MatchOption, sym, ◌∙◌, ap, arith, subst}
use Rattle.tp_model.specs.declared.types.Limits.{Limits}
use Rattle.tp_model.specs.Steps.{rows_of}
use Rattle.tp_rule.specs.Tables.{table_limits}
use Rattle.tp_rule.specs.Views.{view_of}
use Rattle.tp_manager.specs.Shown.{ManagerShown, PassShown, marks_of, shown, spot}
use Rattle.tp_manager.specs.Lists.{NoneParked, NextError}
use Rattle.tp_manager.specs.Bounds.{next_error_steps, listing_steps_left, marked_steps, seek_steps}
use Rattle.tp_manager.specs.Calls.{Follows}
use Rattle.tp_manager.specs.CallSteps.{Acted, IsKnown}
use Rattle.tp_manager.proofs.Marks.Lows.{listing_few, listing_shown, remembers_in, rises_in, marked_most, units_in}
use Rattle.tp_manager.proofs.Calls.CallSteps.{looked, follows, has_looked, remembers, climbs_same, walked_none}
use Rattle.tp_manager.proofs.Calls.Passes.{rests_drawn, quiet_looked, rests_looked}
use Rattle.tp_manager.proofs.Rows.Finds.{finds_acted, error_answer, none_beyond}
use Rattle.tp_manager.proofs.manager.Manager.next_error.Goals as goal
use Rattle.tp_manager.proofs.manager.Manager.next_error.Goals.{After-rows, After-find}

lim : (c : After-rows) → (view_of c.pass.inside.seat).limits ≡ table_limits c.self.inside.shared.words
lim c = ap (λ (p : PassShown). p.limits) c.pass.view_is ∙ (c.requires.own.1 ∙ (sym (ap (λ (m : ManagerShown). m.limits) c.self.view_is) ∙ sym c.self.inside.shared.same))

limits : (c : After-rows) → table_limits c.self.inside.shared.words ≡ c.args.self.now.limits
limits c = c.self.inside.shared.same ∙ ap (λ (m : ManagerShown). m.limits) c.self.view_is

whole : (c : After-find) → Acted (table_limits c.self.inside.shared.words) (marked_steps (table_limits c.self.inside.shared.words) seek_steps (marks_of c.pass.inside.lows 0)) (view_of c.pass.inside.seat) (view_of c.find.new.seat)
whole c = finds_acted _ _ c.args.from _ _ _ c.find.result c.find.ensures.told

pub returns-then-from-rows-clause-answer : goal.returns-then-from-rows-clause-answer
returns-then-from-rows-clause-answer c = let at = (goal.at.returns-then-from-rows-clause-answer c).After-rows in let v = view_of c.pass.inside.seat in let t = (spot c.pass.inside.seat.table c.pass.inside.lows c.pass.inside.run.drawn c.pass.inside.from) in
    let out : rows_of v.limits ≤ c.args.from = subst (λ (z : Limits). rows_of z ≤ c.args.from) (sym (lim at ∙ c.self.inside.shared.same)) (subst (λ n. n ≤ c.args.from) c.rows.ensures c.if-from-rows.true) in
    subst (λ (l : Limits). NoneParked l (λ i. c.args.from ≤ i) c.args.pass.now (shown t v)) (lim at ∙ limits at) (none_beyond t v c.args.pass.now c.pass.view_is v.limits c.pass.invariant.0.steady c.args.from out)

-- the kind is one of those that are remembered
kinds : (c : After-find) → 0 < length c.pass.inside.lows
kinds c = let all = c.pass.told in omega arith

pub invariant_of-pass-2 : goal.invariant_of-pass-2
invariant_of-pass-2 c = let at = goal.at.invariant_of-pass-2 c in (
  rests_drawn c.find.new.seat _ _ _ _ c.find.new.drawn (rests_looked _ c.pass.inside.seat c.find.new.seat (lim at.After-rows) _ _ _ _ c.pass.invariant.0 _ (looked _ _ _ _ (whole at.After-find))) c.find.ensures.drawn,
  units_in c.find.new.units.committed (view_of c.find.new.seat) c.find.ensures.units
      (remembers_in _ c.pass.inside.lows c.find.new.lows 0 (view_of c.find.new.seat) (kinds at.After-find) (whole at.After-find).walk.steady c.find.ensures.lows c.find.ensures.remembers
      (remembers c.pass.inside.lows _ _ _ _ _ (whole at.After-find).walk c.pass.invariant.1)),
)

within : (c : After-find) (m : ℕ) → marked_steps (table_limits c.self.inside.shared.words) seek_steps (marks_of c.pass.inside.lows 0) ≤ m
    → Follows m c.args.pass.now (shown (spot c.find.new.seat.table (set c.pass.inside.lows 0 c.find.new.lows) c.find.new.drawn c.pass.inside.from) (view_of c.find.new.seat))
within c m le = follows (spot c.pass.inside.seat.table c.pass.inside.lows c.pass.inside.run.drawn c.pass.inside.from) (spot c.find.new.seat.table (set c.pass.inside.lows 0 c.find.new.lows) c.find.new.drawn c.pass.inside.from) (rises_in c.pass.inside.lows c.find.new.lows 0 (kinds c) c.find.ensures.lows, c.find.ensures.risen) (view_of c.pass.inside.seat) (view_of c.find.new.seat) c.args.pass.now c.pass.view_is _ _ _ (whole c).walk m le

pub returns-clause-follows : goal.returns-clause-follows
returns-clause-follows c = let at = goal.at.returns-clause-follows c in let l = table_limits c.self.inside.shared.words in
    within at.After-find (next_error_steps c.args.self.now.limits) (subst (λ (z : Limits). marked_steps l seek_steps (marks_of c.pass.inside.lows 0) ≤ next_error_steps z) (limits at.After-rows) (let all = marked_most l seek_steps (marks_of c.pass.inside.lows 0) in omega arith))

pub returns-clause-few : goal.returns-clause-few
returns-clause-few c = let at = goal.at.returns-clause-few c in let l = table_limits c.self.inside.shared.words in
    within at.After-find (listing_steps_left c.args.self.now.limits (marks_of c.args.pass.now.lows 0)) (listing_shown l c.args.self.now.limits (marks_of c.pass.inside.lows 0) (marks_of c.args.pass.now.lows 0) _ (limits at.After-rows) (ap (λ (p : PassShown). marks_of p.lows 0) c.pass.view_is)
    (listing_few l (marks_of c.pass.inside.lows 0) 0 (view_of c.pass.inside.seat) (lim at.After-rows) (subst (λ (z : Limits). IsKnown z (view_of c.pass.inside.seat)) (lim at.After-rows) c.pass.invariant.0.steady.known) (c.pass.invariant.1.marks 0)))

pub returns-then-from-rows-clause-few : goal.returns-then-from-rows-clause-few
returns-then-from-rows-clause-few c = let at = (goal.at.returns-then-from-rows-clause-few c).After-rows in let v = view_of c.pass.inside.seat in let t = spot c.pass.inside.seat.table c.pass.inside.lows c.pass.inside.run.drawn c.pass.inside.from in
    follows t t (climbs_same c.pass.inside.lows c.pass.inside.run.drawn) v v c.args.pass.now c.pass.view_is v.limits 0 [] (walked_none v.limits v c.pass.invariant.0.steady) (listing_steps_left c.args.self.now.limits (marks_of c.args.pass.now.lows 0)) (omega arith)

pub returns-clause-quiet : goal.returns-clause-quiet
returns-clause-quiet c = quiet_looked (spot c.pass.inside.seat.table c.pass.inside.lows c.pass.inside.run.drawn c.pass.inside.from) (spot c.find.new.seat.table (set c.pass.inside.lows 0 c.find.new.lows) c.find.new.drawn c.pass.inside.from) (view_of c.pass.inside.seat) (view_of c.find.new.seat) c.args.pass.now c.pass.view_is _ _ (looked _ _ _ _ (whole (goal.at.returns-clause-quiet c).After-find))

pub returns-clause-looks : goal.returns-clause-looks
returns-clause-looks c = λ _. let a = whole (goal.at.returns-clause-looks c).After-find in
    has_looked (spot c.pass.inside.seat.table c.pass.inside.lows c.pass.inside.run.drawn c.pass.inside.from) (spot c.find.new.seat.table (set c.pass.inside.lows 0 c.find.new.lows) c.find.new.drawn c.pass.inside.from) (view_of c.pass.inside.seat) (view_of c.find.new.seat) c.args.pass.now c.pass.view_is _ _ _ a.walk a.step

pub returns-clause-answer : goal.returns-clause-answer
returns-clause-answer c = let at = goal.at.returns-clause-answer c in let t' = (spot c.find.new.seat.table (set c.pass.inside.lows 0 c.find.new.lows) c.find.new.drawn c.pass.inside.from) in let y = view_of c.find.new.seat in
    subst (λ (l : Limits). MatchOption c.find.result (NoneParked l (λ i. c.args.from ≤ i) c.args.pass.now (shown t' y)) (λ id. NextError l c.args.from id c.args.pass.now (shown t' y))) (limits at.After-rows)
    (error_answer (spot c.pass.inside.seat.table c.pass.inside.lows c.pass.inside.run.drawn c.pass.inside.from) t' (view_of c.pass.inside.seat) y c.args.pass.now c.pass.view_is _ _ c.args.from c.find.result c.find.ensures.told)
