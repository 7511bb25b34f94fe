use Rattle.std.proofs.Common.{◌≡◌, ⊎_elim, ℕ, suc, ◌+◌, ◌-◌, ◌*◌, ◌<◌, ◌≤◌, slice_index, inr, sym, ap, ◌∙◌, subst, rules, arith, suc-mul}
use mathlib.Core.Logic.{dite}
use native.Mathlib.Decide.{ℕ_discrete}
use Rattle.tp_model.specs.declared.types.Limits.{Limits}
use Rattle.tp_rule.specs.Views.{SeatShown, view_of}
use Rattle.tp_rule.specs.Tables.{table_limits}
use Rattle.tp_manager.specs.CallSteps.{Acted}
use Rattle.tp_manager.specs.Marks.{Rose}
use Rattle.tp_manager.proofs.Calls.CallSteps.{acted_few, acted_then, looked, looked_few}
use Rattle.tp_manager.proofs.Marks.Raises.{goes_walked}
use Rattle.tp_manager.proofs.Marks.Useless.{rose_later}
use Rattle.tp_manager.proofs.manager.Shared.past_aside.Goals as goal
use Rattle.tp_manager.proofs.manager.Shared.past_aside.Goals.{After-tells_of_tail}

-- the parts before are of other stages still
before : (c : After-tells_of_tail) (q : ℕ) → c.args.from ≤ q → q < c.loop-part.part → let l : Limits = table_limits c.args.self.now.words in Rose c.args.stage (view_of c.tells_of_tail.new.seat) (q * l.rows + slice_index c.args.lows.now q) (q * l.rows + l.rows)
before c q low high = let l : Limits = table_limits c.args.self.now.words in let i = c.loop-part.invariant in
    rose_later l c.args.stage (view_of c.loop-part.seat) (view_of c.tells_of_tail.new.seat) _ _ (goes_walked l 1 _ _ _ i.few.walk.steady.pass.1 c.tells_of_tail.ensures.acted.walk) (i.rose q low high)

-- and this look is one more
acted : (c : After-tells_of_tail) → Acted (table_limits c.args.self.now.words) (c.loop-part.part - c.args.from + 1) (view_of c.args.seat.now) (view_of c.tells_of_tail.new.seat)
acted c = let l : Limits = table_limits c.args.self.now.words in let one = c.tells_of_tail.ensures.acted in ⊎_elim
    (λ t. acted_few l 1 (c.loop-part.part - c.args.from + 1) _ _ (omega arith) (subst (λ (z : SeatShown). Acted l 1 (view_of z) (view_of c.tells_of_tail.new.seat)) t.1 one))
    (λ a. acted_then l (c.loop-part.part - c.args.from) 1 _ _ _ a (looked l 1 _ _ one)) c.loop-part.invariant.acted

wide : (c : After-tells_of_tail) → (table_limits c.args.self.now.words).rows ≡ c.args.self.now.places.limits.rows
wide c = ap (λ (z : Limits). z.rows) c.args.self.now.same

pub returns-then-not-tells_of_tail-clause-rose : goal.returns-then-not-tells_of_tail-clause-rose
returns-then-not-tells_of_tail-clause-rose c = before (goal.at.returns-then-not-tells_of_tail-clause-rose c).After-tells_of_tail

pub returns-then-low-limits-clause-few : goal.returns-then-low-limits-clause-few
returns-then-low-limits-clause-few c = looked_few (table_limits c.args.self.now.words) _ _ _ _ (omega arith) c.loop-part.invariant.few

pub returns-then-not-tells_of_tail-clause-few : goal.returns-then-not-tells_of_tail-clause-few
returns-then-not-tells_of_tail-clause-few c = looked (table_limits c.args.self.now.words) _ _ _ (acted (goal.at.returns-then-not-tells_of_tail-clause-few c).After-tells_of_tail)

pub returns-then-not-tells_of_tail-clause-acted : goal.returns-then-not-tells_of_tail-clause-acted
returns-then-not-tells_of_tail-clause-acted c = inr (acted (goal.at.returns-then-not-tells_of_tail-clause-acted c).After-tells_of_tail)

pub loop-part-preserved : goal.loop-part-preserved
loop-part-preserved c = let l : Limits = table_limits c.args.self.now.words in let at = (goal.at.loop-part-preserved c).After-tells_of_tail in let i = c.loop-part.invariant in let n = c.loop-part.part in let w = wide at in let up = i.from in
    let begins : c.loop-part.first ≡ n * l.rows = i.begins ∙ ap (λ z. n * z) (sym w) in let some = c.args.self.now.words.places.valid.rows.0 in
    let own : Rose c.args.stage (view_of c.tells_of_tail.new.seat) (n * l.rows + slice_index c.args.lows.now n) (n * l.rows + l.rows) = subst (Rose c.args.stage (view_of c.tells_of_tail.new.seat) (n * l.rows + slice_index c.args.lows.now n)) (omega arith)
    (subst (λ z. Rose c.args.stage (view_of c.tells_of_tail.new.seat) (z + slice_index c.args.lows.now n) (z + c.args.self.now.places.limits.rows - 1 + 1)) begins (c.tells_of_tail.ensures.aside c.if-not-tells_of_tail.false)) in record {
      same = search rules;
      from = omega arith;
      begins = let is = i.begins in let next : suc n ≡ n + 1 = omega arith in subst (λ z. c.loop-part.first + c.args.self.now.places.limits.rows ≡ z * c.args.self.now.places.limits.rows) next (omega (arith, suc-mul n c.args.self.now.places.limits.rows));
      left = λ q low high same. dite (ℕ_discrete q n) (λ is. c.if-low-limits.false (sym (ap (slice_index c.args.lows.now) is) ∙ (same ∙ w))) (λ other. i.left q low (omega arith) same);
      rose = λ q low high. dite (ℕ_discrete q n) (λ is. subst (λ z. Rose c.args.stage (view_of c.tells_of_tail.new.seat) (z * l.rows + slice_index c.args.lows.now z) (z * l.rows + l.rows)) (sym is) own) (λ other. before at q low (omega arith));
      few = let one : n - c.args.from + 1 ≡ n + 1 - c.args.from = omega arith in looked l _ _ _ (subst (λ z. Acted l z (view_of c.args.seat.now) (view_of c.tells_of_tail.new.seat)) one (acted at));
      acted = let one : n - c.args.from + 1 ≡ n + 1 - c.args.from = omega arith in inr (subst (λ z. Acted l z (view_of c.args.seat.now) (view_of c.tells_of_tail.new.seat)) one (acted at));
    }

pub returns-clause-rose : goal.returns-clause-rose
returns-clause-rose c = λ q low high. let past = c.loop-part-test.false in c.loop-part.invariant.rose q low (omega arith)

pub returns-clause-few : goal.returns-clause-few
returns-clause-few c = let past = c.loop-part-test.false in let fair : c.args.from ≤ c.args.self.now.places.limits.parts = subst (λ (z : Limits). c.args.from ≤ z.parts) c.args.self.now.same c.requires.from in let high = c.loop-part.auto.part-end fair in
    looked_few (table_limits c.args.self.now.words) _ _ _ _ (omega arith) c.loop-part.invariant.few
