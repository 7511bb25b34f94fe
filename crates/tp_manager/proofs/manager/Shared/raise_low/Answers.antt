use Rattle.std.proofs.Common.{◌≡◌, ◌+◌, ◌-◌, ◌*◌, ◌<◌, ℕ, Bool, true, false, refl, inl, inr, sym, ap, arith, subst}
use Rattle.tp_model.specs.declared.types.Limits.{Limits}
use Rattle.tp_rule.specs.Rule.{IsInside}
use Rattle.tp_rule.specs.Tables.{table_limits}
use Rattle.tp_rule.specs.Views.{view_of}
use Rattle.tp_rule.specs.declared.view.View.{View}
use Rattle.tp_manager.specs.CallSteps.{Looked}
use Rattle.tp_manager.specs.Marks.{MayRemember, Rose}
use Rattle.tp_manager.proofs.Calls.CallSteps.{looked_few, looked_none, remembers_kind}
use Rattle.tp_manager.proofs.Marks.Raises.{goes_walked, raised_looked, rose_low}
use Rattle.tp_manager.proofs.Marks.Rests.{remembers_set}
use Rattle.tp_manager.proofs.Marks.Useless.{rose_later}
use Rattle.tp_manager.proofs.manager.Shared.raise_low.Goals as goal
use Rattle.tp_manager.proofs.manager.Shared.raise_low.Goals.{After-raise-raised}

pub returns-then-to-mark-clause-looked : goal.returns-then-to-mark-clause-looked
returns-then-to-mark-clause-looked c = let l : Limits = table_limits c.args.self.now.words in let v = view_of c.args.seat.now in looked_few l 0 1 v v (omega arith) (looked_none l v c.requires.steady.steady)

-- the rows of a part up to the first that isn't known of no use, counted from where the part begins
rose_part : (l k : Limits) (c p mark low : ℕ) (v : View) → l ≡ k → mark < low - p * k.rows → Rose c v (p * l.rows + mark) low → Rose c v (p * l.rows + mark) (p * l.rows + (low - p * k.rows))
rose_part l k c p mark low v same more rose = let e : p * l.rows ≡ p * k.rows = ap (λ (z : Limits). p * z.rows) same in subst (λ n. Rose c v (p * l.rows + mark) n) (omega arith) rose

pub raise-raised-requires-clause-done : goal.raise-raised-requires-clause-done
raise-raised-requires-clause-done c = (rose_part (table_limits c.args.self.now.words) c.args.self.now.places.limits c.args.stage c.args.part c.args.mark c.args.low (view_of c.args.seat.now) c.args.self.now.same c.if-to-mark.false c.requires.low.2).1

abbrev to : (c : After-raise-raised) → ℕ
to c = c.args.low - c.args.part * c.args.self.now.places.limits.rows

inside : (c : After-raise-raised) → IsInside (table_limits c.args.self.now.words) c.args.part (to c)
inside c = subst (IsInside (table_limits c.args.self.now.words) c.args.part) (ap (λ (z : Limits). c.args.low - c.args.part * z.rows) c.args.self.now.same) c.requires.low.0

rose : (c : After-raise-raised) → Rose c.args.stage (view_of c.args.seat.now) (c.args.part * (table_limits c.args.self.now.words).rows + c.args.mark) (c.args.part * (table_limits c.args.self.now.words).rows + to c)
rose c = rose_part (table_limits c.args.self.now.words) c.args.self.now.places.limits c.args.stage c.args.part c.args.mark c.args.low (view_of c.args.seat.now) c.args.self.now.same c.if-to-mark.false c.requires.low.2

-- the exchange, whether it went through or not
one : (c : After-raise-raised) → Looked (table_limits c.args.self.now.words) 1 (view_of c.args.seat.now) (view_of c.raise-raised.new.seat)
one c = let l : Limits = table_limits c.args.self.now.words in let v = view_of c.args.seat.now in
    raised_looked l c.args.stage c.args.part c.args.mark (to c) v (view_of c.raise-raised.new.seat) c.requires.steady.steady c.raise-raised.ensures.raises
    (rose_low l c.args.stage v c.args.part c.args.mark (to c) c.requires.steady.steady c.requires.mark.0 (inside c) (rose c)) c.if-to-mark.false

-- the pass may remember that row, in either case
may : (c : After-raise-raised) (t : Bool) → c.raise-raised.result ≡ t → MayRemember (table_limits c.args.self.now.words) c.args.stage (view_of c.raise-raised.new.seat) c.args.part (to c)
may c true went = inl (c.raise-raised.ensures.hit went)
may c false failed = let l : Limits = table_limits c.args.self.now.words in let v = view_of c.args.seat.now in let w = view_of c.raise-raised.new.seat in let a = (one c).walk in inr record {
  stage = c.requires.stage;
  found = c.args.mark;
  knows = a.knows _ c.requires.mark.0;
  above = c.raise-raised.ensures.miss failed c.requires.mark.0;
  inside = inside c;
  rose = rose_later l c.args.stage v w _ _ (goes_walked l _ _ v w c.requires.steady.steady.pass.1 a) (rose c);
}

pub returns-clause-looked : goal.returns-clause-looked
returns-clause-looked c = one (goal.at.returns-clause-looked c).After-raise-raised

pub returns-clause-remembers : goal.returns-clause-remembers
returns-clause-remembers c = let at = (goal.at.returns-clause-remembers c).After-raise-raised in let a = (one at).walk in let w = view_of c.raise-raised.new.seat in
    let all = c.told-lows in let top = c.args.self.now.words.places.valid.parts.1 in let inside = c.requires.part in
    remembers_set c.args.stage c.args.part (to at) c.args.lows.now w (omega arith) (subst (λ (z : Limits). MayRemember z c.args.stage w c.args.part (to at)) (sym a.steady.pass.1) (may at c.raise-raised.result refl))
    (remembers_kind c.args.stage c.args.lows.now _ _ _ _ _ a c.requires.remembers)
