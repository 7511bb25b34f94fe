use Rattle.std.proofs.Common.{◌≡◌, ◌+◌, ◌-◌, ◌*◌, ◌<◌, ◌≤◌, ℕ, slice_index, ⊎_elim, inl, inr, ap, arith, refl, rules, subst, sym, ◌∙◌, mul-le-mul_right}
use Rattle.tp_model.specs.declared.types.Limits.{Limits}
use Rattle.tp_model.specs.Steps.{IsRowOf}
use Rattle.tp_rule.specs.Tables.{table_limits}
use Rattle.tp_rule.specs.Views.{seen_by, view_of}
use Rattle.tp_rule.specs.declared.view.View.{View}
use Rattle.tp_manager.specs.Bounds.{error_steps}
use Rattle.tp_manager.specs.Finds.{Hits, PassedOver}
use Rattle.tp_manager.specs.CallSteps.{Looked}
use Rattle.tp_manager.specs.Marks.{Remembers, RisesAt, Rose}
use Rattle.tp_manager.specs.Scans.{Begun, EachRow, Sought}
use Rattle.tp_manager.proofs.Calls.CallSteps.{remembers_kind, sought_few}
use Rattle.tp_manager.proofs.Marks.Lows.{rises_at_then}
use Rattle.tp_manager.proofs.Marks.Raises.{goes_walked, rose_none, rose_then}
use Rattle.tp_rule.specs.declared.view.Known.TheVariants.{PartMark}
use Rattle.tp_manager.proofs.Rows.Finds.{not_server, over_low, over_widens, sought_raised}
use Rattle.tp_manager.proofs.Rows.Seeks.{part_on, begun_few, begun_hit, begun_looked, begun_on, rows_more, sought_from}
use Rattle.tp_manager.proofs.manager.Shared.find_from_mark.Goals as goal
use Rattle.tp_manager.proofs.manager.Shared.find_from_mark.Goals.{After-later-start, After-is_parked_at, After-loop-row, After-mark_at-mark}

-- where the part begins
first : (c : After-later-start) → c.args.part * (table_limits c.args.self.now.words).rows ≡ c.args.part * c.args.self.now.places.limits.rows
first c = ap (λ (z : Limits). c.args.part * z.rows) c.args.self.now.same

wide : (c : After-later-start) → (table_limits c.args.self.now.words).rows ≡ c.args.self.now.places.limits.rows
wide c = ap (λ (z : Limits). z.rows) c.args.self.now.same

-- the rows before the start are below the mark
skipped : (c : After-later-start) (i : ℕ) → c.args.from ≤ i → i < c.later-start.result
    → PassedOver (table_limits c.args.self.now.words) i (seen_by c.mark_at-mark.new.seat) (seen_by c.mark_at-mark.new.seat)
skipped c i low high = let l : Limits = table_limits c.args.self.now.words in let from_on = c.requires.from.1 in let e = first c in ⊎_elim
    (λ (q : c.later-start.result ≡ c.args.from). absurd (omega arith))
    (λ (q : c.later-start.result ≡ c.args.part * c.args.self.now.places.limits.rows + c.mark_at-mark.result). over_low l (seen_by c.mark_at-mark.new.seat) c.args.part c.mark_at-mark.result i c.mark_at-mark.ensures.acted.walk.steady.shows.legal c.mark_at-mark.ensures.low.1 (omega arith) (omega arith))
    c.later-start.ensures.one

-- the mark, and then the rows from the start on
from_mark : (c : After-later-start) (m n : ℕ) (y : View) → Begun (table_limits c.args.self.now.words) (PassedOver (table_limits c.args.self.now.words)) m c.later-start.result n (view_of c.mark_at-mark.new.seat) y
    → Sought (table_limits c.args.self.now.words) (1 + m) (EachRow (PassedOver (table_limits c.args.self.now.words)) c.args.from n) (view_of c.args.seat.now) y
from_mark c m n y b = let l : Limits = table_limits c.args.self.now.words in
    sought_from l (PassedOver l) (over_widens l) m c.args.from c.later-start.result n (view_of c.args.seat.now) (view_of c.mark_at-mark.new.seat) y c.mark_at-mark.ensures.acted b (skipped c)

-- the row is of the part
near : (c : After-is_parked_at) → IsRowOf (table_limits c.args.self.now.words) c.args.part c.loop-row.row
near c = let l : Limits = table_limits c.args.self.now.words in
    let a : c.args.part * l.rows ≡ c.args.part * c.args.self.now.places.limits.rows = ap (λ (z : Limits). c.args.part * z.rows) c.args.self.now.same in
    let b : l.rows ≡ c.args.self.now.places.limits.rows = ap (λ (z : Limits). z.rows) c.args.self.now.same in
    let low = c.loop-row.invariant.start in let most = c.later-start.ensures.most.0 in let from_on = c.requires.from.1 in let less = c.loop-row-test.true in
    (c.requires.from.0, omega arith, omega arith)

-- and not more rows than the part has were looked at
few : (c : After-is_parked_at) → (c.loop-row.row - c.later-start.result) < ((table_limits c.args.self.now.words).rows - slice_index c.args.lows.now c.args.part)
few c = let l : Limits = table_limits c.args.self.now.words in let n = near c in let low = c.loop-row.invariant.start in let most = c.later-start.ensures.most.1 in let high = n.2 in
    let a : c.args.part * l.rows ≡ c.args.part * c.args.self.now.places.limits.rows = ap (λ (z : Limits). c.args.part * z.rows) c.args.self.now.same in
    let up = c.mark_at-mark.ensures.lows.1.0 c.args.part in let is = c.mark_at-mark.ensures.lows.0 in omega arith

-- the steps from the mark up to the row
since : (c : After-is_parked_at) → Looked (table_limits c.args.self.now.words) ((c.loop-row.row - c.later-start.result) * error_steps) (view_of c.mark_at-mark.new.seat) (view_of c.loop-row.seat)
since c = let l : Limits = table_limits c.args.self.now.words in
    begun_looked l (PassedOver l) (over_widens l) _ _ c.loop-row.row _ _ c.loop-row.invariant.begun c.mark_at-mark.ensures.acted.walk.steady

-- what is known of no use after one more row
rose : (c : After-is_parked_at) → Rose 0 (view_of c.is_parked_at.new.seat) (c.args.part * c.args.self.now.places.limits.rows + c.mark_at-mark.result) c.is_parked_at.new.low
rose c = let l : Limits = table_limits c.args.self.now.words in
    rose_then l 0 (view_of c.loop-row.seat) (view_of c.is_parked_at.new.seat) _ c.loop-row.low c.is_parked_at.new.low (goes_walked l _ _ (view_of c.loop-row.seat) _ (since c).walk.steady.pass.1 c.is_parked_at.ensures.acted.walk) c.loop-row.invariant.rose c.is_parked_at.ensures.low.1

pub mark_at-mark-requires-clause-listed : goal.mark_at-mark-requires-clause-listed
mark_at-mark-requires-clause-listed c = not_server

pub mark_at-mark-requires-clause-remembers : goal.mark_at-mark-requires-clause-remembers
mark_at-mark-requires-clause-remembers c = c.requires.remembers

pub raise_to-requires-clause-low : goal.raise_to-requires-clause-low
raise_to-requires-clause-low c = let at = goal.at.raise_to-requires-clause-low c in let l : Limits = table_limits c.args.self.now.words in let e = first at.After-later-start in
    let low = c.is_parked_at.ensures.low.0 in let end = part_on l c.loop-row.row c.is_parked_at.new.row c.args.part c.is_parked_at.ensures.on (near at.After-is_parked_at) in (
      omega arith,
      subst (λ (z : ℕ). Rose 0 (view_of c.is_parked_at.new.seat) (z + c.mark_at-mark.result) c.is_parked_at.new.low) (sym e) (rose at.After-is_parked_at),
    )

pub raise_to-requires-clause-mark : goal.raise_to-requires-clause-mark
raise_to-requires-clause-mark c = let at = (goal.at.raise_to-requires-clause-mark c).After-is_parked_at in let known = PartMark 0 c.args.part c.mark_at-mark.result in
    (c.is_parked_at.ensures.acted.walk.knows known ((since at).walk.knows known c.mark_at-mark.ensures.knows), ap (λ lows. slice_index lows c.args.part) c.loop-row.invariant.lows ∙ c.mark_at-mark.ensures.lows.0)

pub raise_to-requires-clause-remembers : goal.raise_to-requires-clause-remembers
raise_to-requires-clause-remembers c = let at = (goal.at.raise_to-requires-clause-remembers c).After-is_parked_at in let k : ℕ = 0 in
    subst (Remembers k (view_of c.is_parked_at.new.seat)) (sym c.loop-row.invariant.lows) (remembers_kind k c.mark_at-mark.new.lows _ _ _ _ _ c.is_parked_at.ensures.acted.walk (remembers_kind k c.mark_at-mark.new.lows _ _ _ _ _ (since at).walk c.mark_at-mark.ensures.remembers))

pub returns-then-is_parked_at-clause-remembers : goal.returns-then-is_parked_at-clause-remembers
returns-then-is_parked_at-clause-remembers c = c.raise_to.ensures.remembers

pub returns-then-is_parked_at-clause-lows : goal.returns-then-is_parked_at-clause-lows
returns-then-is_parked_at-clause-lows c = rises_at_then c.args.part c.args.lows.now c.mark_at-mark.new.lows c.raise_to.new.lows c.mark_at-mark.ensures.lows.1 (subst (λ lows. RisesAt c.args.part lows c.raise_to.new.lows) c.loop-row.invariant.lows c.raise_to.ensures.lows)

pub returns-then-is_parked_at-clause-told : goal.returns-then-is_parked_at-clause-told
returns-then-is_parked_at-clause-told c = let l : Limits = table_limits c.args.self.now.words in let at = goal.at.returns-then-is_parked_at-clause-told c in let s = error_steps in let i = c.loop-row.invariant in
    let P = PassedOver l in let d : ℕ = c.loop-row.row - c.later-start.result in let most = c.later-start.ensures.most.0 in let start = i.start in
    let room : d * s + s ≤ (l.rows - slice_index c.args.lows.now c.args.part) * s = rows_more d (l.rows - slice_index c.args.lows.now c.args.part) s (few at.After-is_parked_at) in (
      omega arith,
      (near at.After-is_parked_at).2,
      subst (Hits l c.loop-row.row) (sym c.raise_to.ensures.seen) (c.is_parked_at.ensures.yes c.if-is_parked_at.true),
      sought_few l ((1 + (d * s + s)) + 1) (2 + (l.rows - slice_index c.args.lows.now c.args.part) * s) (EachRow P c.args.from c.loop-row.row) _ _ (omega arith)
          (sought_raised l (1 + (d * s + s)) c.args.from c.loop-row.row (view_of c.args.seat.now) (view_of c.is_parked_at.new.seat) (view_of c.raise_to.new.seat)
          (from_mark at.After-later-start (d * s + s) c.loop-row.row (view_of c.is_parked_at.new.seat)
          (inr (begun_hit l P (over_widens l) (d * s) c.later-start.result s c.loop-row.row _ _ _ i.begun c.is_parked_at.ensures.acted))) c.raise_to.ensures.looked),
    )

pub loop-row-init : goal.loop-row-init
loop-row-init c = let l : Limits = table_limits c.args.self.now.words in let at = goal.at.loop-row-init c in record {
  start = omega arith;
  inside = let e = first at.After-later-start in let w = wide at.After-later-start in let high = c.requires.from.2 in let low = c.mark_at-mark.ensures.low.0 in
      ⊎_elim (λ (q : c.later-start.result ≡ c.args.from). let r : c.later-start.result ≤ c.args.part * c.args.self.now.places.limits.rows + c.args.self.now.places.limits.rows = omega arith in r)
      (λ (q : c.later-start.result ≡ c.args.part * c.args.self.now.places.limits.rows + c.mark_at-mark.result). omega arith) c.later-start.ensures.one;
  same = search rules;
  lows = refl;
  low = let most = c.later-start.ensures.most.1 in omega arith;
  rose = rose_none l 0 (view_of c.mark_at-mark.new.seat) _;
  begun = inl (search rules, search rules);
}

pub loop-row-preserved : goal.loop-row-preserved
loop-row-preserved c = let l : Limits = table_limits c.args.self.now.words in let at = goal.at.loop-row-preserved c in let s = error_steps in let i = c.loop-row.invariant in let start = i.start in let on = c.is_parked_at.ensures.on.on in
    let P = PassedOver l in let W = over_widens l in let F = c.later-start.result in let d : ℕ = c.loop-row.row - F in record {
      start = omega arith;
      inside = let e = first at.After-later-start in let w = wide at.After-later-start in let end = part_on l c.loop-row.row c.is_parked_at.new.row c.args.part c.is_parked_at.ensures.on (near at.After-is_parked_at) in omega arith;
      same = search rules;
      lows = i.lows;
      low = c.is_parked_at.ensures.low.0;
      rose = rose at.After-is_parked_at;
      begun = begun_few l P W (d * s + s) F _ c.is_parked_at.new.row _ _ (rows_more d (c.is_parked_at.new.row - F) s (omega arith))
          (begun_on l P W (d * s) F s c.loop-row.row _ _ _ i.begun c.is_parked_at.new.row start (c.is_parked_at.ensures.no c.if-is_parked_at.false));
    }

-- the steps from the mark to the end of the part
all_since : (c : After-loop-row) → Looked (table_limits c.args.self.now.words) ((c.loop-row.row - c.later-start.result) * error_steps) (view_of c.mark_at-mark.new.seat) (view_of c.loop-row.seat)
all_since c = let l : Limits = table_limits c.args.self.now.words in
    begun_looked l (PassedOver l) (over_widens l) _ _ c.loop-row.row _ _ c.loop-row.invariant.begun c.mark_at-mark.ensures.acted.walk.steady

pub raise_to-requires-2-clause-low : goal.raise_to-requires-2-clause-low
raise_to-requires-2-clause-low c = let at = goal.at.raise_to-requires-2-clause-low c in let i = c.loop-row.invariant in let e = first at.After-later-start in let w = wide at.After-later-start in let high = i.inside in let low = i.low in (
  omega arith,
  subst (λ (z : ℕ). Rose 0 (view_of c.loop-row.seat) (z + c.mark_at-mark.result) c.loop-row.low) (sym e) i.rose,
)

pub raise_to-requires-2-clause-mark : goal.raise_to-requires-2-clause-mark
raise_to-requires-2-clause-mark c = ((all_since (goal.at.raise_to-requires-2-clause-mark c).After-loop-row).walk.knows (PartMark 0 c.args.part c.mark_at-mark.result) c.mark_at-mark.ensures.knows, ap (λ lows. slice_index lows c.args.part) c.loop-row.invariant.lows ∙ c.mark_at-mark.ensures.lows.0)

pub raise_to-requires-2-clause-remembers : goal.raise_to-requires-2-clause-remembers
raise_to-requires-2-clause-remembers c = let k : ℕ = 0 in
    subst (Remembers k (view_of c.loop-row.seat)) (sym c.loop-row.invariant.lows) (remembers_kind k c.mark_at-mark.new.lows _ _ _ _ _ (all_since (goal.at.raise_to-requires-2-clause-remembers c).After-loop-row).walk c.mark_at-mark.ensures.remembers)

pub returns-clause-remembers : goal.returns-clause-remembers
returns-clause-remembers c = c.raise_to-2.ensures.remembers

pub returns-clause-lows : goal.returns-clause-lows
returns-clause-lows c = rises_at_then c.args.part c.args.lows.now c.mark_at-mark.new.lows c.raise_to-2.new.lows c.mark_at-mark.ensures.lows.1 (subst (λ lows. RisesAt c.args.part lows c.raise_to-2.new.lows) c.loop-row.invariant.lows c.raise_to-2.ensures.lows)

pub returns-clause-told : goal.returns-clause-told
returns-clause-told c = let l : Limits = table_limits c.args.self.now.words in let at = goal.at.returns-clause-told c in let i = c.loop-row.invariant in
    let s = error_steps in let P = PassedOver l in let d : ℕ = c.loop-row.row - c.later-start.result in
    let most = c.later-start.ensures.most.0 in let from_on = c.requires.from.1 in let high = i.inside in let low = c.loop-row-test.false in let e = first at.After-later-start in let w = wide at.After-later-start in
    let all : c.loop-row.row ≡ c.args.part * l.rows + l.rows = omega arith in
    let up = c.mark_at-mark.ensures.lows.1.0 c.args.part in let is = c.mark_at-mark.ensures.lows.0 in let start = c.later-start.ensures.most.1 in
    let few : d * s ≤ (l.rows - slice_index c.args.lows.now c.args.part) * s = mul-le-mul_right s (omega arith) in
    sought_few l ((1 + d * s) + 1) (2 + (l.rows - slice_index c.args.lows.now c.args.part) * s) _ _ _ (omega arith)
    (sought_raised l (1 + d * s) c.args.from (c.args.part * l.rows + l.rows) (view_of c.args.seat.now) (view_of c.loop-row.seat) (view_of c.raise_to-2.new.seat)
    (subst (λ n. Sought l (1 + d * s) (EachRow P c.args.from n) (view_of c.args.seat.now) (view_of c.loop-row.seat)) all (from_mark at.After-later-start (d * s) c.loop-row.row (view_of c.loop-row.seat) i.begun)) c.raise_to-2.ensures.looked)
