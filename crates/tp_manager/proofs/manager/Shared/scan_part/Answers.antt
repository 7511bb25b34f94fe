use Rattle.std.proofs.Common.{◌≡◌, ◌+◌, ◌-◌, ◌*◌, ◌≤◌, ℕ, sym, ap, arith, slice_index, subst, mul-le-mul_right}
use Rattle.tp_model.specs.declared.types.Limits.{Limits}
use Rattle.tp_rule.specs.Tables.{table_limits}
use Rattle.tp_rule.specs.Views.{view_of}
use Rattle.tp_manager.specs.Bounds.{try_steps}
use Rattle.tp_manager.specs.Leans.{scan_end}
use Rattle.tp_manager.specs.Marks.{Rose}
use Rattle.tp_manager.proofs.Calls.CallSteps.{gaps_kind, remembers_kind}
use Rattle.tp_manager.proofs.Calls.Passes.{done_walked}
use Rattle.tp_manager.proofs.Claims.Leans.{lean_apart, lean_rows}
use Rattle.tp_manager.proofs.Claims.Scans.{ends_behind, scan_behind, told_walked}
use Rattle.tp_manager.proofs.Marks.Lows.{lows_inside}
use Rattle.tp_manager.proofs.Marks.Rests.{rests_before}
use Rattle.tp_manager.proofs.Rows.Seeks.{rows_more}
use Rattle.tp_manager.proofs.manager.Shared.scan_part.Goals as goal
use Rattle.tp_manager.proofs.manager.Shared.scan_part.Goals.{Start}

-- where the part begins
first : (c : Start) → c.args.part * (table_limits c.args.self.now.words).rows ≡ c.args.part * c.args.self.now.places.limits.rows
first c = ap (λ (z : Limits). c.args.part * z.rows) c.args.self.now.same

wide : (c : Start) → (table_limits c.args.self.now.words).rows ≡ c.args.self.now.places.limits.rows
wide c = ap (λ (z : Limits). z.rows) c.args.self.now.same

inside : (c : Start) → slice_index c.args.lows.now c.args.part ≤ (table_limits c.args.self.now.words).rows
inside c = let s = c.requires.steady.steady in lows_inside (table_limits c.args.self.now.words) c.args.lows.now c.args.who.stage (view_of c.args.seat.now) s.pass.1 s.known c.requires.remembers c.args.part c.requires.part

pub leap-next-requires-clause-rows : goal.leap-next-requires-clause-rows
leap-next-requires-clause-rows c = let at = (goal.at.leap-next-requires-clause-rows c).Start in let l : Limits = table_limits c.args.self.now.words in let e = first at in let w = wide at in let i = inside at in let all = rows_more c.args.part l.parts l.rows c.requires.part in (omega arith, omega arith)

pub leap-next-requires-clause-known : goal.leap-next-requires-clause-known
leap-next-requires-clause-known c = λ yes. let at = (goal.at.leap-next-requires-clause-known c).Start in let l : Limits = table_limits c.args.self.now.words in let e = first at in let w = wide at in let known = c.requires.aside yes in let less = known.0 in
    (omega arith, subst (λ z. Rose c.args.who.stage (view_of c.args.seat.now) (z + slice_index c.args.lows.now c.args.part) (z + slice_index c.args.lows.now c.args.part + 1)) e known.1)

pub scan_from_mark-requires-clause-remembers : goal.scan_from_mark-requires-clause-remembers
scan_from_mark-requires-clause-remembers c = remembers_kind c.args.who.stage c.args.lows.now _ _ _ _ _ c.leap-next.ensures.few.walk c.requires.remembers

pub scan_from_mark-requires-clause-gaps : goal.scan_from_mark-requires-clause-gaps
scan_from_mark-requires-clause-gaps c = gaps_kind c.args.who.stage c.args.gaps.now _ _ _ _ _ c.leap-next.ensures.few.walk c.requires.gaps

pub scan_from_mark-requires-clause-done : goal.scan_from_mark-requires-clause-done
scan_from_mark-requires-clause-done c = done_walked _ _ _ _ _ c.args.who.done c.requires.steady.steady.pass.1 c.leap-next.ensures.few.walk c.requires.done

pub scan_from_mark-requires-clause-next : goal.scan_from_mark-requires-clause-next
scan_from_mark-requires-clause-next c = let at = (goal.at.scan_from_mark-requires-clause-next c).Start in let e = first at in let w = wide at in let end = c.leap-next.ensures.end in
    (omega arith, subst (λ z. Rose c.args.who.stage (view_of c.leap-next.new.seat) (z + slice_index c.args.lows.now c.args.part) c.leap-next.result) (sym e) c.leap-next.ensures.rose)

pub returns-clause-lean : goal.returns-clause-lean
returns-clause-lean c = let at = (goal.at.returns-clause-lean c).Start in let l : Limits = table_limits c.args.self.now.words in let e = first at in let w = wide at in let up = c.leap-next.ensures.rose.0 in let top = c.leap-next.ensures.end in
    let n : ℕ = c.args.part * l.rows + slice_index c.args.lows.now c.args.part in let next : ℕ = c.leap-next.result in let end : ℕ = scan_end (c.args.part * l.rows + l.rows) c.scan_from_mark.result in
    let behind : next ≤ end = ends_behind next (c.args.part * l.rows + l.rows) c.scan_from_mark.result (omega arith) c.scan_from_mark.ensures.behind in
    lean_apart l c.args.who.stage 0 n (next - n) 2 next (end - next) 2 n (end - n) _ _ _ (omega arith) (omega arith) (omega arith) (omega arith)
    (lean_rows l c.args.who.stage _ n (next - n) _ _ _ (omega arith) c.leap-next.ensures.few.walk) c.scan_from_mark.ensures.lean

pub returns-clause-told : goal.returns-clause-told
returns-clause-told c = let at = (goal.at.returns-clause-told c).Start in let l : Limits = table_limits c.args.self.now.words in let e = first at in let w = wide at in let up = c.leap-next.ensures.rose.0 in let top = c.leap-next.ensures.end in let i = inside at in
    let next : ℕ = c.leap-next.result in let n : ℕ = c.args.part * l.rows + slice_index c.args.lows.now c.args.part in let gone : ℕ = next - n in let rest : ℕ = c.args.part * l.rows + l.rows - next in
    let both : (gone + rest) * try_steps ≤ (l.rows - slice_index c.args.lows.now c.args.part) * try_steps = mul-le-mul_right try_steps (omega arith) in
    scan_behind l c.args.who.stage c.args.who.unit _ _ _ (c.args.part * l.rows) (c.args.part * l.rows + l.rows) _ _ _ c.scan_from_mark.result (omega arith) c.leap-next.ensures.few c.scan_from_mark.ensures.told

pub returns-clause-rests : goal.returns-clause-rests
returns-clause-rests c = let l : Limits = table_limits c.args.self.now.words in
    let w = told_walked l _ (c.args.part * l.rows) c.args.who.stage c.args.who.unit _ (view_of c.leap-next.new.seat) (view_of c.scan_from_mark.new.seat) c.scan_from_mark.result c.scan_from_mark.ensures.told in
    rests_before l _ _ _ _ _ _ _ c.leap-next.ensures.few.walk w.1 c.args.who.stage c.args.part _ c.scan_from_mark.ensures.rests
