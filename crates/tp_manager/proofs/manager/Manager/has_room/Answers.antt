use Rattle.std.proofs.Common.{Bool, true, false, ℕ, List, rules, ◌≡◌, ◌+◌, ◌-◌, ◌<◌, ◌≤◌, sym, refl, ap, ◌∙◌, subst, inr, arith}
use Rattle.tp_model.specs.declared.types.Limits.{Limits}
use Rattle.tp_rule.specs.Tables.{table_limits}
use Rattle.tp_rule.specs.Steps.{tail_before}
use Rattle.tp_rule.specs.Views.{hand, view_of}
use Rattle.tp_rule.specs.declared.view.Hand.{Hand}
use Rattle.tp_manager.specs.Bounds.{draw_steps, room_steps}
use Rattle.tp_manager.specs.Shown.{ManagerShown, PassShown, spot}
use Rattle.tp_manager.specs.declared.manager.Run.{Run}
use Rattle.tp_manager.proofs.Rows.Rooms.{drew_shown, tried_same, tried_shown}
use Rattle.tp_manager.specs.CallSteps.{Stepped}
use Rattle.tp_model.specs.declared.trace.TraceEntry.{TraceEntry}
use Rattle.tp_manager.proofs.Calls.CallSteps.{follows, remembers, rises_same}
use Rattle.tp_manager.proofs.manager.Manager.has_room.Goals as goal
use Rattle.tp_manager.proofs.manager.Manager.has_room.Goals.{After-draw_on}

lim : (c : After-draw_on) → (view_of c.pass.inside.seat).limits ≡ table_limits c.self.inside.shared.words
lim c = ap (λ (p : PassShown). p.limits) c.pass.view_is ∙ (c.requires.own.1 ∙ (sym (ap (λ (m : ManagerShown). m.limits) c.self.view_is) ∙ sym c.self.inside.shared.same))

limits : (c : After-draw_on) → table_limits c.self.inside.shared.words ≡ c.args.self.now.limits
limits c = c.self.inside.shared.same ∙ ap (λ (m : ManagerShown). m.limits) c.self.view_is

few : (c : After-draw_on) → c.args.pass.now.left < c.args.rows
few c = let less = c.if-rows-pass.false in let is = c.pass.invariant.0.run_is.1 in let seen = ap (λ (p : PassShown). p.left) c.pass.view_is in omega arith

pub returns-clause-yes : goal.returns-clause-yes
returns-clause-yes c = λ q. let at = (goal.at.returns-clause-yes c).After-draw_on in let l : Limits = table_limits c.self.inside.shared.words in let d = c.draw_on.ensures.yes q in
    let t = spot c.pass.inside.seat.table c.pass.inside.lows c.pass.inside.run.drawn c.pass.inside.from in let t' = spot c.draw_on.new.seat.table c.pass.inside.lows c.draw_on.new.run.drawn c.pass.inside.from in let v = view_of c.pass.inside.seat in let w = view_of c.draw_on.new.seat in
    inr (
      few at,
      d.0,
      drew_shown t t' c.args.pass.now l (draw_steps l + c.pass.inside.run.left) d.0 v w c.pass.view_is c.draw_on.ensures.same refl refl (lim at) d.1,
      (let is = d.4 in let up = c.draw_on.ensures.fresh q in let seen = ap (λ (p : PassShown). p.seen_blocks) c.pass.view_is in (omega arith, omega arith)),
      follows t t' (rises_same c.pass.inside.lows, c.draw_on.ensures.risen) v w c.args.pass.now c.pass.view_is l (draw_steps l + c.pass.inside.run.left) d.1.marks d.1.walk (room_steps c.args.self.now.limits c.args.rows)
          (let e = ap (λ (z : Limits). z.spare) (limits at) in let less = c.if-rows-pass.false in omega arith),
    )

pub returns-clause-no : goal.returns-clause-no
returns-clause-no c = λ q. let at = (goal.at.returns-clause-no c).After-draw_on in let l : Limits = table_limits c.self.inside.shared.words in let d = c.draw_on.ensures.no q in
    let t = spot c.pass.inside.seat.table c.pass.inside.lows c.pass.inside.run.drawn c.pass.inside.from in let t' = spot c.draw_on.new.seat.table c.pass.inside.lows c.draw_on.new.run.drawn c.pass.inside.from in let v = view_of c.pass.inside.seat in let w = view_of c.draw_on.new.seat in
    let n = l.spare - c.pass.inside.run.drawn in let all : c.draw_on.new.run.drawn ≡ l.spare = ap (λ (r : Run). r.drawn) d.1 in let old : c.args.pass.now.limits ≡ l = sym (ap (λ (p : PassShown). p.limits) c.pass.view_is) ∙ lim at in
    let inside : c.pass.inside.run.drawn ≤ l.spare = subst (λ (z : Limits). c.pass.inside.run.drawn ≤ z.spare) (lim at) c.pass.invariant.0.drawn.0 in (
      record {
        few = few at;
        same = tried_shown t t' c.args.pass.now l n v w c.pass.view_is c.draw_on.ensures.same refl refl all (lim at) d.0;
        none = λ zero. let e = ap (λ (z : Limits). z.spare) old in tried_same t t' c.args.pass.now l n v w c.pass.view_is c.draw_on.ensures.same refl refl (omega arith) (lim at) (omega arith) d.0;
      },
      follows t t' (rises_same c.pass.inside.lows, c.draw_on.ensures.risen) v w c.args.pass.now c.pass.view_is l n d.0.marks d.0.walk (draw_steps c.args.self.now.limits) (let e = ap (λ (z : Limits). z.spare) (limits at) in omega arith),
    )

-- the steps, whether a block was drawn or not
walked : (c : After-draw_on) (t : Bool) → c.draw_on.result ≡ t → (n : ℕ) × (ms : List TraceEntry) × Stepped (table_limits c.self.inside.shared.words) n ms (view_of c.pass.inside.seat) (view_of c.draw_on.new.seat)
walked c true drew = let d = (c.draw_on.ensures.yes drew).1 in (_, d.marks, d.walk)
walked c false none = let d = (c.draw_on.ensures.no none).0 in (_, d.marks, d.walk)

tail_after : (c : After-draw_on) (t : Bool) → c.draw_on.result ≡ t → c.draw_on.new.run.tail ≤ tail_before c.draw_on.new.run.tail_stage (hand (view_of c.draw_on.new.seat))
tail_after c true drew = let none : c.draw_on.new.run.tail ≡ 0 = (c.draw_on.ensures.yes drew).5 in omega arith
tail_after c false none = let d = c.draw_on.ensures.no none in subst (λ (z : Run × Hand). z.0.tail ≤ tail_before z.0.tail_stage z.1) (λ i. (sym d.1 i, sym d.0.hand_is i)) c.pass.invariant.0.tail

pub invariant_of-pass : goal.invariant_of-pass
invariant_of-pass c = let a = walked (goal.at.invariant_of-pass c).After-draw_on c.draw_on.result refl in let tail = tail_after (goal.at.invariant_of-pass c).After-draw_on c.draw_on.result refl in
    (search rules, remembers c.pass.inside.lows _ a.0 a.1 (view_of c.pass.inside.seat) (view_of c.draw_on.new.seat) a.2 c.pass.invariant.1)
