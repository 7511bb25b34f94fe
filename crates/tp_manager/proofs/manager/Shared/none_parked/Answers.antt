use Rattle.std.proofs.Common.{◌≡◌, ◌+◌, ◌-◌, ℕ, slice_index, inl, ap, refl, rules, arith, subst}
use Rattle.tp_model.specs.declared.types.Limits.{Limits}
use Rattle.tp_rule.specs.Tables.{table_limits}
use Rattle.tp_rule.specs.Views.{view_of}
use Rattle.tp_manager.specs.Bounds.{scan_steps, unit_looks}
use Rattle.tp_manager.specs.CallSteps.{Looked}
use Rattle.tp_manager.specs.Scans.{Begun}
use Rattle.tp_manager.specs.UnitsSeen.{NoneAborted}
use Rattle.tp_manager.proofs.Calls.CallSteps.{looked_few, looked_then}
use Rattle.tp_manager.proofs.Marks.Lows.{scan_next, scan_rises}
use Rattle.tp_manager.proofs.Rows.Seeks.{begun_done, begun_few, begun_looked, begun_on, sought_behind}
use Rattle.tp_manager.proofs.Rows.UnitsSeen.{all_over, well_widens}
use Rattle.tp_manager.proofs.manager.Shared.none_parked.Goals as goal
use Rattle.tp_manager.proofs.manager.Shared.none_parked.Goals.{After-none_aborted}

-- the steps so far
since : (c : After-none_aborted) → Looked (table_limits c.args.self.now.words) (scan_steps (table_limits c.args.self.now.words) unit_looks 1 c.args.lows.now c.loop-part.part) (view_of c.args.seat.now) (view_of c.loop-part.seat)
since c = let l : Limits = table_limits c.args.self.now.words in begun_looked l (NoneAborted l) (well_widens l) _ 0 c.loop-part.part _ _ c.loop-part.invariant.begun c.requires.steady.steady

parts : (c : After-none_aborted) → (table_limits c.args.self.now.words).parts ≡ c.args.self.now.places.limits.parts
parts c = ap (λ (z : Limits). z.parts) c.args.self.now.same

rows : (c : After-none_aborted) → (table_limits c.args.self.now.words).rows ≡ c.args.self.now.places.limits.rows
rows c = ap (λ (z : Limits). z.rows) c.args.self.now.same

pub loop-part-init : goal.loop-part-init
loop-part-init c = record {
  same = search rules;
  remembers = c.requires.remembers;
  begun = inl (refl, refl);
}

-- the first look at the part and those that come after it
looked_part : (c : After-none_aborted) → Looked (table_limits c.args.self.now.words) (1 + (c.args.self.now.places.limits.rows - slice_index c.args.lows.now c.loop-part.part)) (view_of c.loop-part.seat) (view_of c.none_aborted.new.seat)
looked_part c = let l : Limits = table_limits c.args.self.now.words in let left : ℕ = c.args.self.now.places.limits.rows - slice_index c.args.lows.now c.loop-part.part in
    looked_then l 1 left _ _ _ c.shows_none_aborted.ensures.looked c.none_aborted.ensures.looked

pub returns-then-not-none_aborted-clause-looked : goal.returns-then-not-none_aborted-clause-looked
returns-then-not-none_aborted-clause-looked c = let l : Limits = table_limits c.args.self.now.words in let at = (goal.at.returns-then-not-none_aborted-clause-looked c).After-none_aborted in let n = c.loop-part.part in let lows = c.args.lows.now in
    let wide = rows at in let p = parts at in let less = c.loop-part-test.true in let next = scan_next l lows unit_looks 1 n in let all = scan_rises l lows unit_looks 1 (n + 1) l.parts (omega arith) in
    looked_few l (scan_steps l unit_looks 1 lows n + (1 + (c.args.self.now.places.limits.rows - slice_index lows n))) (scan_steps l unit_looks 1 lows l.parts) _ _ (omega arith)
    (looked_then l (scan_steps l unit_looks 1 lows n) (1 + (c.args.self.now.places.limits.rows - slice_index lows n)) _ _ _ (since at) (looked_part at))

pub loop-part-preserved-then-shows_none_aborted : goal.loop-part-preserved-then-shows_none_aborted
loop-part-preserved-then-shows_none_aborted c = let l : Limits = table_limits c.args.self.now.words in let n = c.loop-part.part in let lows = c.args.lows.now in
    let wide : l.rows ≡ c.args.self.now.places.limits.rows = ap (λ (z : Limits). z.rows) c.args.self.now.same in let next = scan_next l lows unit_looks 1 n in record {
      same = search rules;
      remembers = c.shows_none_aborted.ensures.remembers;
      begun = begun_few l (NoneAborted l) (well_widens l) (scan_steps l unit_looks 1 lows n + 1) 0 (scan_steps l unit_looks 1 lows (n + 1)) (n + 1) _ _ (omega arith)
          (begun_on l (NoneAborted l) (well_widens l) (scan_steps l unit_looks 1 lows n) 0 1 n _ _ _ c.loop-part.invariant.begun (n + 1) (omega arith) (c.shows_none_aborted.ensures.none c.if-shows_none_aborted.true));
    }

pub loop-part-preserved : goal.loop-part-preserved
loop-part-preserved c = let l : Limits = table_limits c.args.self.now.words in let at = (goal.at.loop-part-preserved c).After-none_aborted in let n = c.loop-part.part in let lows = c.args.lows.now in
    let wide = rows at in let next = scan_next l lows unit_looks 1 n in let left : ℕ = c.args.self.now.places.limits.rows - slice_index lows n in let k : ℕ = 1 + left in record {
      same = search rules;
      remembers = c.none_aborted.ensures.remembers;
      begun = begun_few l (NoneAborted l) (well_widens l) (scan_steps l unit_looks 1 lows n + k) 0 (scan_steps l unit_looks 1 lows (n + 1)) (n + 1) _ _ (omega arith)
          (begun_on l (NoneAborted l) (well_widens l) (scan_steps l unit_looks 1 lows n) 0 k n _ _ _ c.loop-part.invariant.begun (n + 1) (omega arith)
          (sought_behind l 1 left (NoneAborted l) (well_widens l) n (n + 1) _ _ _ c.shows_none_aborted.ensures.looked (c.none_aborted.ensures.none c.if-not-none_aborted.false)));
    }

pub returns-clause-none : goal.returns-clause-none
returns-clause-none c = λ _. let l : Limits = table_limits c.args.self.now.words in let n = c.loop-part.part in let lows = c.args.lows.now in
    let p : l.parts ≡ c.args.self.now.places.limits.parts = ap (λ (z : Limits). z.parts) c.args.self.now.same in let past = c.loop-part-test.false in let end = c.loop-part.auto.part-end in let some = c.args.self.now.words.places.valid.parts.0 in let is : n ≡ l.parts = omega arith in
    all_over l (scan_steps l unit_looks 1 lows l.parts) _ _
    (begun_done l (NoneAborted l) (well_widens l) (scan_steps l unit_looks 1 lows l.parts) 0 l.parts _ _
    (subst (λ z. Begun l (NoneAborted l) (scan_steps l unit_looks 1 lows z) 0 z (view_of c.args.seat.now) (view_of c.loop-part.seat)) is c.loop-part.invariant.begun) some)
