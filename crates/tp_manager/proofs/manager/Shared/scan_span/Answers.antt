use Rattle.std.proofs.Common.{◌≡◌, ◌+◌, ◌-◌, ◌*◌, ℕ, ⊎_elim, slice_index, arith, ap}
use Rattle.tp_model.specs.declared.types.Limits.{Limits}
use Rattle.tp_rule.specs.Tables.{table_limits}
use Rattle.tp_rule.specs.Views.{view_of}
use Rattle.tp_manager.specs.Bounds.{try_steps}
use Rattle.tp_manager.specs.Scans.{PassedBy}
use Rattle.tp_manager.proofs.Marks.Lows.{lows_inside}
use Rattle.tp_manager.proofs.Calls.Makes.{made, made_few, made_then}
use Rattle.tp_manager.proofs.Marks.Raises.{remembered_passed}
use Rattle.tp_manager.proofs.Calls.Passes.{done_walked}
use Rattle.tp_manager.proofs.Claims.Scans.{none_passed, passed_widens, scan_behind}
use Rattle.tp_manager.proofs.Rows.Seeks.{sought_bare}
use Rattle.tp_manager.proofs.Calls.CallSteps.{remembers_kind, sought_few}
use Rattle.tp_manager.proofs.Claims.LeanTurns.{lean_late, within_none}
use Rattle.tp_manager.proofs.manager.Shared.scan_span.Goals as goal

pub is_bare-requires-clause-row : goal.is_bare-requires-clause-row
is_bare-requires-clause-row c = let l : Limits = table_limits c.args.self.now.words in let inside = lows_inside l c.args.lows.now c.args.who.stage (view_of c.args.seat.now) c.requires.steady.steady.pass.1 c.requires.steady.steady.known c.requires.remembers c.args.part in
    let e : c.args.part * l.rows ≡ c.args.part * c.args.self.now.places.limits.rows = ap (λ (z : Limits). c.args.part * z.rows) c.args.self.now.same in let span = c.requires.span in let a = span.0 in let b = span.1 in let d = span.2 in
    ⊎_elim (λ t. (let is = t.0 in let le = t.1 in (omega arith, omega arith))) (λ t. (let is = t.0 in let less = t.1 in (omega arith, omega arith))) c.later-begin.ensures

pub returns-then-is_bare-clause-told : goal.returns-then-is_bare-clause-told
returns-then-is_bare-clause-told c = let l : Limits = table_limits c.args.self.now.words in let P = PassedBy l c.args.who.stage in let bare = c.is_bare.ensures.bare c.if-is_bare.true in let low = slice_index c.args.lows.now c.args.part in let span = c.requires.span in
    let e : c.args.part * l.rows ≡ c.args.part * c.args.self.now.places.limits.rows = ap (λ (z : Limits). c.args.part * z.rows) c.args.self.now.same in let a = span.0 in let d = span.2 in
    sought_few l 1 (3 + (c.args.to - c.args.from) * try_steps) _ _ _ (omega arith)
    (sought_bare l P (passed_widens l c.args.who.stage) c.args.from c.later-begin.result c.args.to (view_of c.args.seat.now) (view_of c.is_bare.new.seat) bare.0 (none_passed l c.args.who.stage)
    (λ i from below. ⊎_elim (λ t. (let is = t.0 in remembered_passed l c.args.who.stage c.args.lows.now c.args.part i _ _ (view_of c.args.seat.now) (view_of c.is_bare.new.seat) c.args.who.valid.0.0 c.requires.remembers bare.0.walk (omega arith) (omega arith))) (λ t. absurd (let is = t.0 in omega arith)) c.later-begin.ensures)
    (λ i past high. bare.1 i past (omega arith)))

pub returns-then-is_bare-clause-remembers : goal.returns-then-is_bare-clause-remembers
returns-then-is_bare-clause-remembers c = remembers_kind c.args.who.stage c.args.lows.now _ _ _ _ _ (c.is_bare.ensures.bare c.if-is_bare.true).0.walk c.requires.remembers

pub scan_span_from_mark-requires-clause-remembers : goal.scan_span_from_mark-requires-clause-remembers
scan_span_from_mark-requires-clause-remembers c = remembers_kind c.args.who.stage c.args.lows.now _ _ _ _ _ (c.is_bare.ensures.more c.if-is_bare.false).walk c.requires.remembers

pub scan_span_from_mark-requires-clause-done : goal.scan_span_from_mark-requires-clause-done
scan_span_from_mark-requires-clause-done c = done_walked _ _ _ _ _ c.args.who.done c.requires.steady.steady.pass.1 (c.is_bare.ensures.more c.if-is_bare.false).walk c.requires.done

pub returns-clause-told : goal.returns-clause-told
returns-clause-told c = let l : Limits = table_limits c.args.self.now.words in let m : ℕ = (c.args.to - c.args.from) * try_steps in
    scan_behind l c.args.who.stage c.args.who.unit 1 (2 + m) (3 + m) c.args.from c.args.to (view_of c.args.seat.now) (view_of c.is_bare.new.seat) (view_of c.scan_span_from_mark.new.seat) c.scan_span_from_mark.result (omega arith)
    (c.is_bare.ensures.more c.if-is_bare.false) c.scan_span_from_mark.ensures.told

pub returns-then-is_bare-clause-few : goal.returns-then-is_bare-clause-few
returns-then-is_bare-clause-few c = let l : Limits = table_limits c.args.self.now.words in let v = view_of c.args.seat.now in let w = view_of c.is_bare.new.seat in
    made_few 1 _ v w (omega arith) (made l 1 _ v w (c.is_bare.ensures.bare c.if-is_bare.true).0.walk)

pub returns-clause-few : goal.returns-clause-few
returns-clause-few c = let l : Limits = table_limits c.args.self.now.words in let v = view_of c.args.seat.now in let w = view_of c.is_bare.new.seat in
    let n : ℕ = 2 + (l.rows - slice_index c.args.lows.now c.args.part) * try_steps in
    made_few (1 + n) _ v (view_of c.scan_span_from_mark.new.seat) (omega arith) (made_then 1 n v w (view_of c.scan_span_from_mark.new.seat) (made l 1 _ v w (c.is_bare.ensures.more c.if-is_bare.false).walk) c.scan_span_from_mark.ensures.few)

pub returns-then-is_bare-clause-lean : goal.returns-then-is_bare-clause-lean
returns-then-is_bare-clause-lean c = let l : Limits = table_limits c.args.self.now.words in let n : ℕ = slice_index c.args.lows.now c.args.part in
    lean_late l c.args.who.stage 1 (c.args.part * l.rows + n) (l.rows - n) 0 3 c.args.from c.args.to _ (view_of c.args.seat.now) (view_of c.is_bare.new.seat) (view_of c.is_bare.new.seat) (omega arith) (c.is_bare.ensures.bare c.if-is_bare.true).0.walk
    (within_none l c.args.who.stage (c.args.part * l.rows + n) (l.rows - n) c.args.from c.args.to (view_of c.is_bare.new.seat))

pub returns-clause-lean : goal.returns-clause-lean
returns-clause-lean c = let l : Limits = table_limits c.args.self.now.words in let n : ℕ = slice_index c.args.lows.now c.args.part in
    lean_late l c.args.who.stage 1 (c.args.part * l.rows + n) (l.rows - n) 2 3 c.args.from c.args.to _ (view_of c.args.seat.now) (view_of c.is_bare.new.seat) (view_of c.scan_span_from_mark.new.seat) (omega arith) (c.is_bare.ensures.more c.if-is_bare.false).walk c.scan_span_from_mark.ensures.lean
