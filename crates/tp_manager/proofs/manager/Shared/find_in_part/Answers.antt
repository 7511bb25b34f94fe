use Rattle.std.proofs.Common.{◌≡◌, ◌+◌, ◌-◌, ◌*◌, ◌≤◌, ℕ, slice_index, ⊎_elim, arith}
use Rattle.tp_model.specs.declared.types.Limits.{Limits}
use Rattle.tp_rule.specs.Tables.{table_limits}
use Rattle.tp_rule.specs.Views.{view_of}
use Rattle.tp_manager.specs.Bounds.{error_steps, listed_steps}
use Rattle.tp_manager.specs.Finds.{PassedOver}
use Rattle.tp_manager.proofs.Rows.Finds.{finds_behind, none_over, over_remembered, over_widens}
use Rattle.tp_manager.proofs.Marks.Lows.{lows_inside}
use Rattle.tp_manager.proofs.Rows.Seeks.{sought_bare}
use Rattle.tp_manager.proofs.Calls.CallSteps.{looked_none, remembers_kind, sought_few}
use Rattle.tp_manager.proofs.manager.Shared.find_in_part.Goals as goal
use Rattle.tp_manager.proofs.manager.Shared.find_in_part.Goals.{After-later-start}

-- where the walk starts
upto : (c : After-later-start) → c.later-start.result ≤ c.args.end
upto c = let l : Limits = table_limits c.args.self.now.words in let inside = lows_inside l c.args.lows.now 0 (view_of c.args.seat.now) c.requires.steady.steady.pass.1 c.requires.steady.steady.known c.requires.remembers c.args.part in
    let e = c.requires.first.0 in let top = c.requires.first.1 in let high = c.requires.from.2 in let most = inside c.requires.from.0 in
    ⊎_elim (λ (q : c.later-start.result ≡ c.args.from). let r : c.later-start.result ≤ c.args.end = omega arith in r)
    (λ (q : c.later-start.result ≡ c.args.first + slice_index c.args.lows.now c.args.part). omega arith) c.later-start.ensures.one

pub is_bare_to-requires-clause-row : goal.is_bare_to-requires-clause-row
is_bare_to-requires-clause-row c = let e = c.requires.first.0 in let low = c.requires.from.1 in let most = c.later-start.ensures.most.0 in
    (omega arith, upto (goal.at.is_bare_to-requires-clause-row c).After-later-start, c.requires.first.1)

pub returns-then-is_bare_to-clause-told : goal.returns-then-is_bare_to-clause-told
returns-then-is_bare_to-clause-told c = let l : Limits = table_limits c.args.self.now.words in let bare = c.is_bare_to.ensures.bare c.if-is_bare_to.true in
    let low = slice_index c.args.lows.now c.args.part in let e = c.requires.first.0 in let from_on = c.requires.from.1 in
    sought_few l 1 (2 + (l.rows - low) * listed_steps) _ _ _ (omega arith)
    (sought_bare l (PassedOver l) (over_widens l) c.args.from c.later-start.result (c.args.part * l.rows + l.rows) (view_of c.args.seat.now) (view_of c.is_bare_to.new.seat) bare.0 (none_over l)
    (λ i from below. ⊎_elim (λ (q : c.later-start.result ≡ c.args.from). absurd (omega arith))
    (λ (q : c.later-start.result ≡ c.args.first + low).
    over_remembered l c.args.lows.now c.args.part i _ _ (view_of c.args.seat.now) (view_of c.is_bare_to.new.seat) c.requires.remembers bare.0.walk (omega arith) (omega arith))
    c.later-start.ensures.one) bare.1)

pub find_from_mark-requires-2-clause-remembers : goal.find_from_mark-requires-2-clause-remembers
find_from_mark-requires-2-clause-remembers c = remembers_kind 0 c.args.lows.now _ _ _ _ _ (c.is_bare_to.ensures.more c.if-is_bare_to.false).walk c.requires.remembers

pub returns-then-start-end-clause-told : goal.returns-then-start-end-clause-told
returns-then-start-end-clause-told c = let l : Limits = table_limits c.args.self.now.words in let d : ℕ = l.rows - slice_index c.args.lows.now c.args.part in let v = view_of c.args.seat.now in
    finds_behind l 0 (2 + d * error_steps) (2 + d * listed_steps) c.args.from (c.args.part * l.rows + l.rows) v v (view_of c.find_from_mark.new.seat) c.find_from_mark.result (omega arith)
    (looked_none l v c.requires.steady.steady) c.find_from_mark.ensures.told

pub returns-clause-told : goal.returns-clause-told
returns-clause-told c = let l : Limits = table_limits c.args.self.now.words in let d : ℕ = l.rows - slice_index c.args.lows.now c.args.part in
    let e = c.requires.first.0 in let top = c.requires.first.1 in let not = c.if-start-end.false in let most = c.later-start.ensures.most.1 in let high = upto (goal.at.returns-clause-told c).After-later-start in
    finds_behind l 1 (2 + d * error_steps) (2 + d * listed_steps) c.args.from (c.args.part * l.rows + l.rows) (view_of c.args.seat.now) (view_of c.is_bare_to.new.seat) (view_of c.find_from_mark-2.new.seat) c.find_from_mark-2.result (omega arith)
    (c.is_bare_to.ensures.more c.if-is_bare_to.false) c.find_from_mark-2.ensures.told
