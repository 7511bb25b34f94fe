use Rattle.std.proofs.Common.{◌≤◌, slice_index, refl, subst, inl, arith}
use mathlib.Core.Logic.{dite}
use native.Mathlib.Decide.{dec_le}
use Rattle.tp_model.specs.declared.types.Limits.{Limits}
use Rattle.tp_rule.specs.Tables.{table_limits}
use Rattle.tp_rule.specs.Views.{view_of}
use Rattle.tp_manager.specs.CallSteps.{Acted}
use Rattle.tp_manager.specs.Marks.{MayRemember, Remembers}
use Rattle.tp_manager.proofs.Marks.Raises.{goes_walked, low_any}
use Rattle.tp_manager.proofs.Marks.Rests.{remembers_set, rose_found}
use Rattle.tp_manager.proofs.Calls.CallSteps.{acted_by, remembers_kind}
use Rattle.tp_manager.proofs.manager.Shared.low_at.Goals as goal
use Rattle.tp_manager.proofs.manager.Shared.low_at.Goals.{After-load_mark-mark}

acted : (c : After-load_mark-mark) → Acted (table_limits c.args.self.now.words) 1 (view_of c.args.seat.now) (view_of c.load_mark-mark.new.seat)
acted c = acted_by _ _ _ _ c.requires.steady.steady refl c.load_mark-mark.ensures.grew

-- what was remembered is so after the load
kept : (c : After-load_mark-mark) → Remembers c.args.stage (view_of c.load_mark-mark.new.seat) c.args.lows.now
kept c = remembers_kind c.args.stage c.args.lows.now _ _ _ _ _ (acted c).walk c.requires.remembers

pub returns-then-lows-part-clause-acted : goal.returns-then-lows-part-clause-acted
returns-then-lows-part-clause-acted c = acted (goal.at.returns-then-lows-part-clause-acted c).After-load_mark-mark

pub returns-else-lows-part-clause-acted : goal.returns-else-lows-part-clause-acted
returns-else-lows-part-clause-acted c = acted (goal.at.returns-else-lows-part-clause-acted c).After-load_mark-mark

pub returns-then-lows-part-clause-remembers : goal.returns-then-lows-part-clause-remembers
returns-then-lows-part-clause-remembers c = let at = goal.at.returns-then-lows-part-clause-remembers c in
    let all = c.told-lows in let top = c.args.self.now.words.places.valid.parts.1 in let inside = c.requires.part in
    remembers_set c.args.stage c.args.part c.load_mark-mark.result c.args.lows.now (view_of c.load_mark-mark.new.seat) (omega arith) (inl c.load_mark-mark.ensures.knows) (kept at.After-load_mark-mark)

pub returns-else-lows-part-clause-remembers : goal.returns-else-lows-part-clause-remembers
returns-else-lows-part-clause-remembers c = kept (goal.at.returns-else-lows-part-clause-remembers c).After-load_mark-mark

pub returns-else-lows-part-clause-low : goal.returns-else-lows-part-clause-low
returns-else-lows-part-clause-low c = let at = (goal.at.returns-else-lows-part-clause-low c).After-load_mark-mark in
    low_any (table_limits c.args.self.now.words) c.args.stage (view_of c.load_mark-mark.new.seat) c.args.part c.args.lows.now (acted at).walk.steady (kept at)

pub returns-else-lows-part-clause-rose : goal.returns-else-lows-part-clause-rose
returns-else-lows-part-clause-rose c = let l : Limits = table_limits c.args.self.now.words in let at = (goal.at.returns-else-lows-part-clause-rose c).After-load_mark-mark in let v = view_of c.args.seat.now in
    let n = slice_index c.args.lows.now c.args.part in let M = c.load_mark-mark.result in let le : M ≤ n = (let not = c.if-lows-part.false in omega arith) in
    dite (dec_le 1 n)
    (λ some. rose_found l c.args.stage c.args.part n M v (view_of c.load_mark-mark.new.seat) (goes_walked l _ _ v _ c.requires.steady.steady.pass.1 (acted at).walk) le c.load_mark-mark.ensures.rises
    (subst (λ (z : Limits). MayRemember z c.args.stage v c.args.part n) c.requires.steady.steady.pass.1 (c.requires.remembers c.args.part some)))
    (λ none. (omega arith, λ i low high. absurd (omega arith)))
