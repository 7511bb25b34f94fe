use Rattle.std.proofs.Common.{inl, ◌≡◌, ◌<◌, sym, ◌∙◌, ap, arith, rules, subst, Some}
use Rattle.tp_model.specs.declared.types.Limits.{Limits}
use Rattle.tp_rule.specs.Tables.{table_limits}
use Rattle.tp_model.specs.Births.{request}
use Rattle.tp_model.specs.History.{element_of}
use Rattle.tp_rule.specs.Views.{hand, seen_by, view_of}
use Rattle.tp_manager.specs.Shown.{ManagerShown, PassShown, shown, spot}
use Rattle.tp_manager.specs.Calls.{Adds}
use Rattle.tp_model.specs.declared.event.Event.TheVariants.{Enqueue}
use Rattle.tp_manager.specs.Bounds.{next_steps}
use Rattle.tp_manager.specs.CallSteps.{Steady}
use Rattle.tp_manager.proofs.Calls.CallSteps.{follows, climbs_same, remembers}
use Rattle.tp_manager.proofs.Calls.Passes.{steady_at}
use Rattle.tp_manager.proofs.Rows.Submits.{body_cleared, made_adds, made_request, made_rests, made_walked}
use Rattle.tp_manager.proofs.manager.Manager.submit_next.Goals as goal
use Rattle.tp_manager.proofs.manager.Manager.submit_next.Goals.{After-publish}

lim : (c : After-publish) → (view_of c.pass.inside.seat).limits ≡ table_limits c.self.inside.shared.words
lim c = ap (λ (p : PassShown). p.limits) c.pass.view_is ∙ (c.requires.own.1 ∙ (sym (ap (λ (m : ManagerShown). m.limits) c.self.view_is) ∙ sym c.self.inside.shared.same))

room : (c : After-publish) → 0 < (hand (view_of c.pass.inside.seat)).left
room c = let some = c.requires.room in let is = ap (λ (p : PassShown). p.left) c.pass.view_is in omega arith

steady : (c : After-publish) → Steady (table_limits c.self.inside.shared.words) (view_of c.pass.inside.seat)
steady c = steady_at _ _ _ (lim c) c.pass.invariant.0.steady

pub invariant_of-pass : goal.invariant_of-pass
invariant_of-pass c = let at = (goal.at.invariant_of-pass c).After-publish in (
  made_rests (table_limits c.self.inside.shared.words) c.args.body c.args.stage _ _ c.pass.inside.seat c.publish.new.seat _ (lim at) (steady at) c.store_draft_body.ensures.view (search rules) c.publish.ensures.grew (room at) _ _ _ _ c.pass.invariant.0,
  remembers c.pass.inside.lows _ next_steps _ _ _ (made_walked (table_limits c.self.inside.shared.words) c.args.body c.args.stage _ _ _ _ (steady at) c.store_draft_body.ensures.view c.publish.ensures.grew (room at)) c.pass.invariant.1,
)

pub returns-clause-follows : goal.returns-clause-follows
returns-clause-follows c = let at = (goal.at.returns-clause-follows c).After-publish in
    follows (spot c.pass.inside.seat.table c.pass.inside.lows c.pass.inside.run.drawn c.pass.inside.from) (spot c.publish.new.seat.table c.pass.inside.lows c.pass.inside.run.drawn c.pass.inside.from) (climbs_same c.pass.inside.lows c.pass.inside.run.drawn) (view_of c.pass.inside.seat) (view_of c.publish.new.seat) c.args.pass.now c.pass.view_is (table_limits c.self.inside.shared.words) next_steps _
    (made_walked (table_limits c.self.inside.shared.words) c.args.body c.args.stage _ _ _ _ (steady at) c.store_draft_body.ensures.view c.publish.ensures.grew (room at)) next_steps (omega arith)

pub returns-clause-answer : goal.returns-clause-answer
returns-clause-answer c = let at = (goal.at.returns-clause-answer c).After-publish in let l : Limits = table_limits c.self.inside.shared.words in record {
  stage_is = c.requires.stage;
  adds = subst (λ n. Adds (Enqueue c.args.pass.now.number (request n c.args.stage c.args.body)) c.args.pass.now (shown (spot c.publish.new.seat.table c.pass.inside.lows c.pass.inside.run.drawn c.pass.inside.from) (view_of c.publish.new.seat))) (at.pass.invariant.0.run_is.0)
      (made_adds l c.args.body c.args.stage _ _ _ (view_of c.publish.new.seat) (steady at) c.store_draft_body.ensures.view c.publish.ensures.grew (room at)
      (spot c.pass.inside.seat.table c.pass.inside.lows c.pass.inside.run.drawn c.pass.inside.from) (spot c.publish.new.seat.table c.pass.inside.lows c.pass.inside.run.drawn c.pass.inside.from) c.args.pass.now c.pass.view_is);
  is_born = let t = made_request l c.args.body c.args.stage _ _ _ (view_of c.publish.new.seat) (steady at) c.store_draft_body.ensures.view c.publish.ensures.grew (room at) in
      subst (λ n. element_of (seen_by c.publish.new.seat) n ≡ Some (request n c.args.stage c.args.body)) (t.1 ∙ (search rules)) t.0;
  open_unit = search rules;
  run = inl record {
    room = c.requires.room;
    first_is = search rules;
    next = search rules;
    left = search rules;
    blocks = search rules;
  };
}

pub publish-requires-clause-cleared : goal.publish-requires-clause-cleared
publish-requires-clause-cleared c = let l : Limits = table_limits c.self.inside.shared.words in
    let lim : (view_of c.pass.inside.seat).limits ≡ l = ap (λ (p : PassShown). p.limits) c.pass.view_is ∙ (c.requires.own.1 ∙ (sym (ap (λ (m : ManagerShown). m.limits) c.self.view_is) ∙ sym c.self.inside.shared.same)) in
    body_cleared l c.args.body (view_of c.pass.inside.seat) (view_of c.store_draft_body.new.seat) (steady_at _ _ _ lim c.pass.invariant.0.steady) c.store_draft_body.ensures.view c.pass.invariant.0.cleared
