use Rattle.std.proofs.Common.{rules, inl, ◌≡◌, ◌+◌, ◌-◌, ◌*◌, ◌≤◌, ap, arith, subst}
use Rattle.tp_model.specs.declared.types.Limits.{Limits}
use Rattle.tp_rule.specs.Rule.{IsInside}
use Rattle.tp_rule.specs.Tables.{table_limits}
use Rattle.tp_rule.specs.Views.{view_of}
use Rattle.tp_manager.specs.CallSteps.{Looked}
use Rattle.tp_manager.specs.Marks.{Rose}
use Rattle.tp_manager.proofs.Marks.Rests.{remembers_set}
use Rattle.tp_manager.proofs.Calls.CallSteps.{looked_few, looked_none, remembers_kind}
use Rattle.tp_manager.proofs.Marks.Raises.{raised_looked, rose_low}
use Rattle.tp_manager.proofs.manager.Shared.raise_to.Goals as goal
use Rattle.tp_manager.proofs.manager.Shared.raise_to.Goals.{After-raise}

pub raise-requires-clause-done : goal.raise-requires-clause-done
raise-requires-clause-done c = λ i low high. let l : Limits = table_limits c.args.self.now.words in
    let same : c.args.part * l.rows ≡ c.args.part * c.args.self.now.places.limits.rows = ap (λ (z : Limits). c.args.part * z.rows) c.args.self.now.same in
    let up : c.args.part * l.rows + c.args.mark ≤ c.args.low = c.requires.low.1.0 in
    c.requires.low.1.1 i low (omega arith)

-- the exchange, whether it went through or not
one : (c : After-raise) → Looked (table_limits c.args.self.now.words) 1 (view_of c.args.seat.now) (view_of c.raise.new.seat)
one c = let l : Limits = table_limits c.args.self.now.words in let up = c.requires.low.1.0 in let top = c.requires.low.0 in
    let same : c.args.part * l.rows ≡ c.args.part * c.args.self.now.places.limits.rows = ap (λ (z : Limits). c.args.part * z.rows) c.args.self.now.same in
    raised_looked l c.args.kind c.args.part c.args.mark _ (view_of c.args.seat.now) (view_of c.raise.new.seat) c.requires.steady.steady c.raise.ensures.raises
    (rose_low l c.args.kind (view_of c.args.seat.now) c.args.part c.args.mark _ c.requires.steady.steady c.requires.mark.0 (subst (IsInside l c.args.part) (ap (λ z. c.args.low - z) same) top) (subst (λ n. Rose c.args.kind (view_of c.args.seat.now) (c.args.part * l.rows + c.args.mark) n) (omega arith) c.requires.low.1)) (let more = c.if-to-mark.false in omega arith)

pub returns-then-not-raise-clause-looked : goal.returns-then-not-raise-clause-looked
returns-then-not-raise-clause-looked c = one (goal.at.returns-then-not-raise-clause-looked c).After-raise

pub returns-clause-looked : goal.returns-clause-looked
returns-clause-looked c = one (goal.at.returns-clause-looked c).After-raise

pub returns-then-not-raise-clause-remembers : goal.returns-then-not-raise-clause-remembers
returns-then-not-raise-clause-remembers c = remembers_kind c.args.kind c.args.lows.now _ _ _ _ _ (one (goal.at.returns-then-not-raise-clause-remembers c).After-raise).walk c.requires.remembers

pub returns-clause-remembers : goal.returns-clause-remembers
returns-clause-remembers c = let at = (goal.at.returns-clause-remembers c).After-raise in let a = (one at).walk in
    let all = c.told-lows in let top = c.args.self.now.words.places.valid.parts.1 in let inside = c.requires.part in
    remembers_set c.args.kind c.args.part _ c.args.lows.now (view_of c.raise.new.seat) (omega arith) (inl (c.raise.ensures.hit (search rules)))
    (remembers_kind c.args.kind c.args.lows.now _ _ _ _ _ a c.requires.remembers)

pub returns-then-to-mark-clause-looked : goal.returns-then-to-mark-clause-looked
returns-then-to-mark-clause-looked c = let l : Limits = table_limits c.args.self.now.words in let v = view_of c.args.seat.now in looked_few l 0 1 v v (omega arith) (looked_none l v c.requires.steady.steady)
