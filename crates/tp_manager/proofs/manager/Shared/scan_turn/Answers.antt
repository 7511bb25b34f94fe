use Rattle.std.proofs.Common.{◌≡◌, ◌≤◌, ℕ, ◌+◌, ◌-◌, ◌*◌, ◌∙◌, ap, sym, subst, ⊎_elim, arith, mul-le-mul_right}
use Rattle.tp_model.specs.declared.types.Limits.{Limits}
use Rattle.tp_model.specs.Steps.{part_rows, rows_of}
use Rattle.tp_rule.specs.Tables.{table_limits}
use Rattle.tp_rule.specs.Views.{view_of}
use Rattle.tp_manager.specs.CallSteps.{StepsTo}
use Rattle.tp_manager.specs.Scans.{PassedBy}
use Rattle.tp_manager.proofs.Claims.Circles.{turn_both, turn_first}
use Rattle.tp_manager.proofs.Calls.Passes.{done_walked}
use Rattle.tp_manager.proofs.Claims.Scans.{passed_widens, rows_some}
use Rattle.tp_manager.proofs.Rows.Seeks.{begun_looked}
use Rattle.std.proofs.Math.Nat.{add-mul}
use Rattle.tp_model.specs.declared.types.TheConstants.{BLOCK_ROWS}
use Rattle.tp_rule.specs.declared.view.View.{View}
use Rattle.tp_manager.specs.Bounds.{drawn_steps, scan_steps, try_steps}
use Rattle.tp_manager.proofs.Calls.Makes.{made_few, made_then, scan_less}
use Rattle.tp_manager.proofs.Claims.LeanTurns.{turn_early, turn_lean}
use Rattle.tp_manager.proofs.manager.Shared.scan_turn.Goals as goal
use Rattle.tp_manager.proofs.manager.Shared.scan_turn.Goals.{After-earlier-from}

all : (c : After-earlier-from) → c.rows-rows.result ≡ rows_of (table_limits c.args.self.now.words)
all c = c.rows-rows.ensures ∙ ap rows_of (sym c.args.self.now.same)

inside : (c : After-earlier-from) → c.earlier-from.result ≤ c.rows-rows.result
inside c = ⊎_elim (λ t. (let e = t.0 in let le = t.1 in omega arith)) (λ t. (let e = t.0 in omega arith)) c.earlier-from.ensures

pub returns-in-Some-clause-told : goal.returns-in-Some-clause-told
returns-in-Some-clause-told c = let at = (goal.at.returns-in-Some-clause-told c).After-earlier-from in let l : Limits = table_limits c.args.self.now.words in
    (turn_first l c.args.who.stage c.args.who.unit c.rows-rows.result c.earlier-from.result c.args.turn (all at) (inside at) c.earlier-from.ensures (view_of c.args.seat.now) (view_of c.scan_rows.new.seat) c.in-Some.taken c.in-Some.ensures.told.0, c.in-Some.ensures.told.1)

pub scan_rows-requires-2-clause-done : goal.scan_rows-requires-2-clause-done
scan_rows-requires-2-clause-done c = let l : Limits = table_limits c.args.self.now.words in
    let gone = begun_looked l (PassedBy l c.args.who.stage) (passed_widens l c.args.who.stage) _ _ _ _ _ c.in_default.ensures.told c.requires.steady.steady in
    done_walked l _ gone.marks _ _ c.args.who.done c.requires.steady.steady.pass.1 gone.walk c.requires.done

pub returns-clause-told : goal.returns-clause-told
returns-clause-told c = let at = (goal.at.returns-clause-told c).After-earlier-from in let l : Limits = table_limits c.args.self.now.words in
    turn_both l c.args.who.stage c.args.who.unit c.rows-rows.result c.earlier-from.result c.args.turn (all at) (inside at) c.earlier-from.ensures (view_of c.args.seat.now) (view_of c.scan_rows.new.seat) (view_of c.scan_rows-2.new.seat) c.scan_rows-2.result (rows_some l c.args.self.now.words.places.valid) c.in_default.ensures.told c.scan_rows-2.ensures.told

-- the rows of the spare blocks, in two scans
both : (l : Limits) (from : ℕ) → from ≤ rows_of l → (rows_of l - part_rows l - (from - part_rows l)) * try_steps + (from - part_rows l - (0 - part_rows l)) * try_steps ≤ BLOCK_ROWS * l.spare * try_steps
both l from inside = let e = add-mul (rows_of l - part_rows l - (from - part_rows l)) (from - part_rows l - (0 - part_rows l)) try_steps in
    let all : (rows_of l - part_rows l - (from - part_rows l)) + (from - part_rows l - (0 - part_rows l)) ≤ BLOCK_ROWS * l.spare = omega arith in
    let few : ((rows_of l - part_rows l - (from - part_rows l)) + (from - part_rows l - (0 - part_rows l))) * try_steps ≤ BLOCK_ROWS * l.spare * try_steps = mul-le-mul_right try_steps all in omega arith

-- what the first scan made
one : (l : Limits) (rows from k : ℕ) (v w : View) → rows ≡ rows_of l → StepsTo (k + (drawn_steps l.spare + (rows - part_rows l - (from - part_rows l)) * try_steps)) v w → StepsTo (k + (drawn_steps l.spare + (rows_of l - part_rows l - (from - part_rows l)) * try_steps)) v w
one l rows from k v w same m = subst (λ z. StepsTo (k + (drawn_steps l.spare + (z - part_rows l - (from - part_rows l)) * try_steps)) v w) same m

pub returns-in-Some-clause-few : goal.returns-in-Some-clause-few
returns-in-Some-clause-few c = let at = (goal.at.returns-in-Some-clause-few c).After-earlier-from in let l : Limits = table_limits c.args.self.now.words in let from = c.earlier-from.result in let k = scan_steps l try_steps 3 c.args.lows.now l.parts in
    let e = all at in let top = inside at in let few = both l from (omega arith) in let v = view_of c.args.seat.now in let w = view_of c.scan_rows.new.seat in
    made_few (k + (drawn_steps l.spare + (rows_of l - part_rows l - (from - part_rows l)) * try_steps)) _ v w (omega arith) (one l c.rows-rows.result from k v w e c.scan_rows.ensures.few)

pub returns-clause-few : goal.returns-clause-few
returns-clause-few c = let at = (goal.at.returns-clause-few c).After-earlier-from in let l : Limits = table_limits c.args.self.now.words in let from = c.earlier-from.result in let lows = c.args.lows.now in let lows' = c.scan_rows.new.lows in
    let k = scan_steps l try_steps 3 lows l.parts in let k' = scan_steps l try_steps 3 lows' l.parts in let less : k' ≤ k = scan_less l try_steps 3 lows lows' c.scan_rows.ensures.lows l.parts in
    let e = all at in let top = inside at in let few = both l from (omega arith) in let v = view_of c.args.seat.now in let w = view_of c.scan_rows.new.seat in let y = view_of c.scan_rows-2.new.seat in
    let a : ℕ = k + (drawn_steps l.spare + (rows_of l - part_rows l - (from - part_rows l)) * try_steps) in let b : ℕ = k' + (drawn_steps l.spare + (from - part_rows l - (0 - part_rows l)) * try_steps) in
    made_few (a + b) _ v y (omega arith) (made_then a b v w y (one l c.rows-rows.result from k v w e c.scan_rows.ensures.few) c.scan_rows-2.ensures.few)

pub returns-in-Some-clause-lean : goal.returns-in-Some-clause-lean
returns-in-Some-clause-lean c = turn_early (table_limits c.args.self.now.words) c.args.who.stage c.args.lows.now c.scan_rows.new.drawn c.earlier-from.result c.rows-rows.result _ _ c.scan_rows.ensures.lean

pub returns-clause-lean : goal.returns-clause-lean
returns-clause-lean c = turn_lean (table_limits c.args.self.now.words) c.args.who.stage c.args.lows.now c.scan_rows.new.lows c.scan_rows.new.drawn c.scan_rows-2.new.drawn c.earlier-from.result c.rows-rows.result _ _ _
    c.scan_rows.ensures.lows c.scan_rows-2.ensures.risen c.scan_rows.ensures.lean c.scan_rows-2.ensures.lean
