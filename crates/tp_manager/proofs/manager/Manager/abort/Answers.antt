use Rattle.std.proofs.Common.{◌≡◌, [], ◌∷◌, sym, ◌∙◌, ap, refl, arith, subst, Some}
use Rattle.tp_model.specs.declared.types.Limits.{Limits}
use Rattle.tp_model.specs.declared.event.Event.TheVariants.{Abort}
use Rattle.tp_model.specs.declared.trace.StepKind.TheVariants as kinds
use Rattle.tp_model.specs.History.{Aborted}
use Rattle.tp_rule.specs.Tables.{table_limits}
use Rattle.tp_rule.specs.Views.{hand, view_of}
use Rattle.tp_manager.specs.Shown.{ManagerShown, PassShown, spot}
use Rattle.tp_manager.specs.Bounds.{abort_steps}
use Rattle.tp_manager.specs.CallSteps.{Steady}
use Rattle.tp_manager.specs.BetweenCalls.{IsTask, unit_in}
use Rattle.tp_manager.specs.Drafts.{Shut}
use Rattle.tp_manager.proofs.Calls.CallSteps.{follows, climbs_same, remembers}
use Rattle.tp_manager.proofs.Calls.Passes.{done_walked, steady_at}
use Rattle.tp_manager.proofs.Rows.Drafts.{closed_ended, task_claimed, abort_ended, shut_hit, shut_miss, shut_rests, shut_closes, shut_keeps, shut_adds, shut_loses}
use Rattle.tp_manager.proofs.manager.Manager.abort.Goals as goal
use Rattle.tp_manager.proofs.manager.Manager.abort.Goals.{In-Some}

lim : (c : In-Some) → (view_of c.pass.inside.seat).limits ≡ table_limits c.self.inside.shared.words
lim c = ap (λ (p : PassShown). p.limits) c.pass.view_is ∙ (c.requires.own.1 ∙ (sym (ap (λ (m : ManagerShown). m.limits) c.self.view_is) ∙ sym c.self.inside.shared.same))

steady : (c : In-Some) → Steady (table_limits c.self.inside.shared.words) (view_of c.pass.inside.seat)
steady c = steady_at _ _ _ (lim c) c.pass.invariant.0.steady

held : (c : In-Some) → (hand (view_of c.pass.inside.seat)).open_unit ≡ Some c.in-Some.task.unit
held c = c.pass.invariant.0.open_is ∙ ap unit_in c.in-Some.is

pub abort_exchange-requires-clause-unit : goal.abort_exchange-requires-clause-unit
abort_exchange-requires-clause-unit c = let i = (goal.at.abort_exchange-requires-clause-unit c).In-Some in
    task_claimed (table_limits c.self.inside.shared.words) (view_of c.pass.inside.seat).seen c.pass.inside.number c.in-Some.task (steady i).shows.legal (subst (IsTask (view_of c.pass.inside.seat).seen c.pass.inside.number) c.in-Some.is c.pass.invariant.0.work)

pub invariant_of-pass : goal.invariant_of-pass
invariant_of-pass c = let i = (goal.at.invariant_of-pass c).In-Some in let l : Limits = table_limits c.self.inside.shared.words in (
  shut_rests l 1 0 _ c.pass.inside.seat c.abort_exchange.new.seat _ _ _ _ _ (lim i) (shut_hit l kinds.AbortExchange _ _ _ refl (steady i) c.in-Ok.ensures.hit) refl (omega arith) (omega arith) refl refl
      (done_walked l _ _ _ _ c.pass.inside.run.done (lim i) (shut_hit l kinds.AbortExchange _ _ _ refl (steady i) c.in-Ok.ensures.hit).walk c.pass.invariant.0.done) c.pass.invariant.0,
  remembers c.pass.inside.lows _ _ _ _ _ (shut_hit l kinds.AbortExchange _ _ _ refl (steady i) c.in-Ok.ensures.hit).walk c.pass.invariant.1,
)

pub invariant_of-pass-in-Err : goal.invariant_of-pass-in-Err
invariant_of-pass-in-Err c = let i = (goal.at.invariant_of-pass-in-Err c).In-Some in let l : Limits = table_limits c.self.inside.shared.words in (
  shut_rests l 1 0 _ c.pass.inside.seat c.abort_exchange.new.seat _ _ _ _ _ (lim i) (shut_miss l kinds.AbortExchange _ _ refl (steady i) (c.in-Err.ensures.miss.own (held i)).0) refl (omega arith) (omega arith) refl refl
      (done_walked l _ _ _ _ c.pass.inside.run.done (lim i) (shut_miss l kinds.AbortExchange _ _ refl (steady i) (c.in-Err.ensures.miss.own (held i)).0).walk c.pass.invariant.0.done) c.pass.invariant.0,
  remembers c.pass.inside.lows _ _ _ _ _ (shut_miss l kinds.AbortExchange _ _ refl (steady i) (c.in-Err.ensures.miss.own (held i)).0).walk c.pass.invariant.1,
)

pub returns-in-Ok-clause-follows : goal.returns-in-Ok-clause-follows
returns-in-Ok-clause-follows c = let i = (goal.at.returns-in-Ok-clause-follows c).In-Some in let l : Limits = table_limits c.self.inside.shared.words in
    let sh = shut_hit l kinds.AbortExchange _ _ _ refl (steady i) c.in-Ok.ensures.hit in
    follows (spot c.pass.inside.seat.table c.pass.inside.lows c.pass.inside.run.drawn c.pass.inside.from) (spot c.abort_exchange.new.seat.table c.pass.inside.lows c.pass.inside.run.drawn c.pass.inside.from) (climbs_same c.pass.inside.lows c.pass.inside.run.drawn) (view_of c.pass.inside.seat) (view_of c.abort_exchange.new.seat) c.args.pass.now c.pass.view_is l 1 _ sh.walk abort_steps (omega arith)

pub returns-in-Err-clause-follows : goal.returns-in-Err-clause-follows
returns-in-Err-clause-follows c = let i = (goal.at.returns-in-Err-clause-follows c).In-Some in let l : Limits = table_limits c.self.inside.shared.words in
    let sh = shut_miss l kinds.AbortExchange _ _ refl (steady i) (c.in-Err.ensures.miss.own (held i)).0 in
    follows (spot c.pass.inside.seat.table c.pass.inside.lows c.pass.inside.run.drawn c.pass.inside.from) (spot c.abort_exchange.new.seat.table c.pass.inside.lows c.pass.inside.run.drawn c.pass.inside.from) (climbs_same c.pass.inside.lows c.pass.inside.run.drawn) (view_of c.pass.inside.seat) (view_of c.abort_exchange.new.seat) c.args.pass.now c.pass.view_is l 1 _ sh.walk abort_steps (omega arith)

pub returns-in-Ok-clause-answer : goal.returns-in-Ok-clause-answer
returns-in-Ok-clause-answer c = let i = (goal.at.returns-in-Ok-clause-answer c).In-Some in let l : Limits = table_limits c.self.inside.shared.words in let u = c.in-Some.task.unit in
    let v = view_of c.pass.inside.seat in let w = view_of c.abort_exchange.new.seat in
    let sh : Shut l 1 0 (Abort (hand v).number u ∷ []) v w = shut_hit l kinds.AbortExchange _ _ _ refl (steady i) c.in-Ok.ensures.hit in (
      u,
      shut_closes (spot c.pass.inside.seat.table c.pass.inside.lows c.pass.inside.run.drawn c.pass.inside.from) (spot c.abort_exchange.new.seat.table c.pass.inside.lows c.pass.inside.run.drawn c.pass.inside.from) v w c.args.pass.now c.pass.view_is l 1 0 u _ sh (held i) (abort_ended u (hand v).number w.seen sh.before sh.ends),
      shut_keeps (spot c.pass.inside.seat.table c.pass.inside.lows c.pass.inside.run.drawn c.pass.inside.from) (spot c.abort_exchange.new.seat.table c.pass.inside.lows c.pass.inside.run.drawn c.pass.inside.from) v w c.args.pass.now c.pass.view_is l 1 _ sh,
      shut_adds (spot c.pass.inside.seat.table c.pass.inside.lows c.pass.inside.run.drawn c.pass.inside.from) (spot c.abort_exchange.new.seat.table c.pass.inside.lows c.pass.inside.run.drawn c.pass.inside.from) v w c.args.pass.now c.pass.view_is l 1 0 u sh,
    )

pub returns-in-Err-clause-answer : goal.returns-in-Err-clause-answer
returns-in-Err-clause-answer c = let i = (goal.at.returns-in-Err-clause-answer c).In-Some in let l : Limits = table_limits c.self.inside.shared.words in let u = c.in-Some.task.unit in
    let v = view_of c.pass.inside.seat in let w = view_of c.abort_exchange.new.seat in
    let miss = c.in-Err.ensures.miss.own (held i) in
    let sh : Shut l 1 0 [] v w = shut_miss l kinds.AbortExchange _ _ refl (steady i) miss.0 in (
      u,
      shut_closes (spot c.pass.inside.seat.table c.pass.inside.lows c.pass.inside.run.drawn c.pass.inside.from) (spot c.abort_exchange.new.seat.table c.pass.inside.lows c.pass.inside.run.drawn c.pass.inside.from) v w c.args.pass.now c.pass.view_is l 1 0 u _ sh (held i) (Aborted, miss.1),
      shut_keeps (spot c.pass.inside.seat.table c.pass.inside.lows c.pass.inside.run.drawn c.pass.inside.from) (spot c.abort_exchange.new.seat.table c.pass.inside.lows c.pass.inside.run.drawn c.pass.inside.from) v w c.args.pass.now c.pass.view_is l 1 _ sh,
      shut_loses (spot c.pass.inside.seat.table c.pass.inside.lows c.pass.inside.run.drawn c.pass.inside.from) (spot c.abort_exchange.new.seat.table c.pass.inside.lows c.pass.inside.run.drawn c.pass.inside.from) v w c.args.pass.now c.pass.view_is l 1 0 u sh miss.1 miss.2,
    )

pub returns-in-Ok-clause-free : goal.returns-in-Ok-clause-free
returns-in-Ok-clause-free c = (returns-in-Ok-clause-answer c).1.open_unit

pub returns-in-Ok-clause-ended : goal.returns-in-Ok-clause-ended
returns-in-Ok-clause-ended c = closed_ended _ _ _ (returns-in-Ok-clause-answer c).1

pub returns-in-Err-clause-free : goal.returns-in-Err-clause-free
returns-in-Err-clause-free c = (returns-in-Err-clause-answer c).1.open_unit

pub returns-in-Err-clause-ended : goal.returns-in-Err-clause-ended
returns-in-Err-clause-ended c = closed_ended _ _ _ (returns-in-Err-clause-answer c).1
