use Rattle.std.proofs.Common.{◌≡◌, ℕ, ◌+◌, ◌-◌, ◌*◌, ◌∙◌, ap, sym, arith}
use Rattle.tp_model.specs.declared.types.Limits.{Limits}
use Rattle.tp_rule.specs.Tables.{table_limits}
use Rattle.tp_rule.specs.Views.{view_of}
use Rattle.tp_manager.specs.Bounds.{drawn_steps, scan_steps, try_steps, circle_steps}
use Rattle.tp_manager.proofs.Claims.Circles.{rows_both, split_rows}
use Rattle.tp_manager.specs.Scans.{PassedBy}
use Rattle.tp_manager.proofs.Marks.Rests.{begun_walked}
use Rattle.tp_manager.proofs.Claims.Scans.{passed_widens}
use Rattle.tp_manager.proofs.Rows.Seeks.{begun_looked}
use Rattle.tp_manager.proofs.Calls.CallSteps.{remembers_kind}
use Rattle.tp_model.specs.Steps.{part_rows}
use Rattle.tp_manager.proofs.Calls.Makes.{made, made_few, made_then}
use Rattle.tp_manager.proofs.Claims.LeanTurns.{span_both, span_parts, span_spare}
use Rattle.tp_manager.proofs.manager.Shared.scan_rows.Goals as goal
use Rattle.tp_manager.proofs.manager.Shared.scan_rows.Goals.{After-part_rows-parts}

pub returns-clause-told : goal.returns-clause-told
returns-clause-told c = let l : Limits = table_limits c.args.self.now.words in let s = try_steps in let a = c.if-from-parts.false in let b = c.if-to-parts.false in let mid = c.part_rows-parts.result in
    let e = split_rows c.args.from mid c.args.to s (omega arith) (omega arith) in
    rows_both l c.args.who.stage c.args.who.unit (circle_steps l (c.args.to - c.args.from)) (3 * l.parts + (mid - c.args.from) * s) (drawn_steps l.spare + (c.args.to - mid) * s) c.args.from mid c.args.to (view_of c.args.seat.now) (view_of c.scan_spans-2.new.seat) (view_of c.scan_block_span-2.new.seat) c.scan_block_span-2.result
    (omega arith) (omega arith) (omega arith) c.in_default.ensures.told c.scan_block_span-2.ensures.told

pub returns-then-from-parts-clause-remembers : goal.returns-then-from-parts-clause-remembers
returns-then-from-parts-clause-remembers c = let l : Limits = table_limits c.args.self.now.words in
    let w = begun_walked l c.args.who.stage c.args.who.unit (drawn_steps l.spare + (c.args.to - c.args.from) * try_steps) c.args.from c.args.to (view_of c.args.seat.now) (view_of c.scan_block_span.new.seat) c.scan_block_span.result c.requires.steady.steady c.scan_block_span.ensures.told in
    remembers_kind c.args.who.stage c.args.lows.now _ _ _ _ _ w.1 c.requires.remembers

pub returns-clause-remembers : goal.returns-clause-remembers
returns-clause-remembers c = let l : Limits = table_limits c.args.self.now.words in let mid = c.part_rows-parts.result in let v = view_of c.scan_spans-2.new.seat in
    let w = begun_walked l c.args.who.stage c.args.who.unit (drawn_steps l.spare + (c.args.to - mid) * try_steps) mid c.args.to v (view_of c.scan_block_span-2.new.seat) c.scan_block_span-2.result
    (begun_looked l (PassedBy l c.args.who.stage) (passed_widens l c.args.who.stage) _ _ mid _ _ c.in_default.ensures.told c.requires.steady.steady).walk.steady c.scan_block_span-2.ensures.told in
    remembers_kind c.args.who.stage c.scan_spans-2.new.lows _ _ _ _ _ w.1 c.scan_spans-2.ensures.remembers

-- where the spare rows begin
mid : (c : After-part_rows-parts) → c.part_rows-parts.result ≡ part_rows (table_limits c.args.self.now.words)
mid c = c.part_rows-parts.ensures ∙ ap part_rows (sym c.args.self.now.same)

pub returns-then-from-parts-clause-few : goal.returns-then-from-parts-clause-few
returns-then-from-parts-clause-few c = let l : Limits = table_limits c.args.self.now.words in let v = view_of c.args.seat.now in let y = view_of c.scan_block_span.new.seat in let n : ℕ = drawn_steps l.spare + (c.args.to - c.args.from) * try_steps in
    let w = begun_walked l c.args.who.stage c.args.who.unit n c.args.from c.args.to v y c.scan_block_span.result c.requires.steady.steady c.scan_block_span.ensures.told in
    let p = mid (goal.at.returns-then-from-parts-clause-few c).After-part_rows-parts in let past = c.if-from-parts.true in
    let e : c.args.to - c.args.from ≡ c.args.to - part_rows l - (c.args.from - part_rows l) = omega arith in
    made_few n _ v y (omega (arith, ap (λ z. z * try_steps) e)) (made l n w.0 v y w.1)

pub returns-then-to-parts-clause-few : goal.returns-then-to-parts-clause-few
returns-then-to-parts-clause-few c = let l : Limits = table_limits c.args.self.now.words in
    made_few (scan_steps l try_steps 3 c.args.lows.now l.parts) _ (view_of c.args.seat.now) (view_of c.scan_spans.new.seat) (omega arith) c.scan_spans.ensures.few

pub returns-in-Some-clause-few : goal.returns-in-Some-clause-few
returns-in-Some-clause-few c = let l : Limits = table_limits c.args.self.now.words in
    made_few (scan_steps l try_steps 3 c.args.lows.now l.parts) _ (view_of c.args.seat.now) (view_of c.scan_spans-2.new.seat) (omega arith) c.scan_spans-2.ensures.few

pub returns-clause-few : goal.returns-clause-few
returns-clause-few c = let l : Limits = table_limits c.args.self.now.words in let v = view_of c.args.seat.now in let x = view_of c.scan_spans-2.new.seat in let y = view_of c.scan_block_span-2.new.seat in let at = (goal.at.returns-clause-few c).After-part_rows-parts in
    let m = c.part_rows-parts.result in let n : ℕ = drawn_steps l.spare + (c.args.to - m) * try_steps in let k = scan_steps l try_steps 3 c.args.lows.now l.parts in
    let w = begun_walked l c.args.who.stage c.args.who.unit n m c.args.to x y c.scan_block_span-2.result
    (begun_looked l (PassedBy l c.args.who.stage) (passed_widens l c.args.who.stage) _ _ m _ _ c.in_default.ensures.told c.requires.steady.steady).walk.steady c.scan_block_span-2.ensures.told in
    let p = mid at in let before = c.if-from-parts.false in
    let e : c.args.to - m ≡ c.args.to - part_rows l - (c.args.from - part_rows l) = omega arith in
    made_few (k + n) _ v y (omega (arith, ap (λ z. z * try_steps) e)) (made_then k n v x y c.scan_spans-2.ensures.few (made l n w.0 x y w.1))

pub returns-then-from-parts-clause-lean : goal.returns-then-from-parts-clause-lean
returns-then-from-parts-clause-lean c = span_spare (table_limits c.args.self.now.words) c.args.who.stage c.args.lows.now c.scan_block_span.new.drawn c.args.from c.args.to _ _ c.scan_block_span.ensures.lean

pub returns-then-to-parts-clause-lean : goal.returns-then-to-parts-clause-lean
returns-then-to-parts-clause-lean c = span_parts (table_limits c.args.self.now.words) c.args.who.stage c.args.lows.now _ c.args.from c.args.to c.args.to _ _ (omega arith) c.scan_spans.ensures.lean

pub returns-in-Some-clause-lean : goal.returns-in-Some-clause-lean
returns-in-Some-clause-lean c = let past = c.if-to-parts.false in
    span_parts (table_limits c.args.self.now.words) c.args.who.stage c.args.lows.now _ c.args.from c.part_rows-parts.result c.args.to _ _ (omega arith) c.scan_spans-2.ensures.lean

pub returns-clause-lean : goal.returns-clause-lean
returns-clause-lean c = let before = c.if-from-parts.false in let past = c.if-to-parts.false in
    span_both (table_limits c.args.self.now.words) c.args.who.stage c.args.lows.now c.scan_block_span-2.new.drawn c.args.from c.part_rows-parts.result c.args.to _ _ _ (omega arith) (omega arith) c.scan_spans-2.ensures.lean c.scan_block_span-2.ensures.lean
