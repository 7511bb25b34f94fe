use Rattle.std.proofs.Common.{inr, MatchOption, ⊎_elim, ◌<◌, ◌≡◌, ◌+◌, ◌-◌, ◌*◌, ◌≤◌, ℕ, List, length, inl, slice_index, refl, sym, ap, subst, arith, rules, mul-le-mul_right}
use Rattle.tp_model.specs.declared.types.Limits.{Limits}
use Rattle.tp_model.specs.declared.trace.TraceEntry.{TraceEntry}
use Rattle.tp_model.specs.Steps.{IsRowOf}
use Rattle.tp_model.proofs.Bridges.{begins_refl}
use Rattle.tp_rule.specs.Tables.{table_limits}
use Rattle.tp_rule.specs.Views.{seen_by, view_of}
use Rattle.tp_rule.specs.declared.view.View.{View}
use Rattle.tp_manager.specs.Bounds.{try_steps}
use Rattle.tp_manager.specs.CallSteps.{Looked, Stepped}
use Rattle.tp_manager.specs.BetweenCalls.{RemembersDone}
use Rattle.tp_manager.specs.Marks.{Remembers, RemembersGaps, RisesAt, Rose, WasOfUse}
use Rattle.tp_manager.specs.Scans.{EachRow, OfPart, PassedBy, Sought, Took}
use Rattle.std.proofs.Math.Nat.{add-mul}
use Rattle.tp_manager.specs.declared.seeker.Taken.{Taken}
use Rattle.tp_manager.proofs.Calls.Points.{has_more}
use Rattle.tp_manager.proofs.Claims.Behind.{gaps_set, scan_on}
use Rattle.tp_manager.proofs.Marks.Rests.{drawn_walked, rests_behind, rests_by}
use Rattle.tp_manager.proofs.Calls.CallSteps.{gaps_kind, looked_begins, looked_none, remembers_kind, sought_few, walked_begins, walked_then}
use Rattle.tp_rule.specs.declared.view.Known.TheVariants.{PartMark}
use mathlib.Core.Logic.{dite}
use native.Mathlib.Decide.{dec_le}
use Rattle.tp_manager.proofs.Marks.Lows.{rises_at_then}
use Rattle.tp_manager.proofs.Calls.Passes.{done_walked}
use Rattle.tp_manager.proofs.Marks.Useless.{rose_later}
use Rattle.tp_manager.proofs.Marks.Raises.{done_passed, goes_walked, over_passed, past_near, rose_both, rose_past, rose_then, took_looked, use_later, useless_passed}
use Rattle.tp_manager.proofs.Claims.Scans.{came_behind, passed_widens, scan_behind, took_few, took_from, took_then}
use Rattle.tp_manager.proofs.Rows.Seeks.{part_on, begun_few, begun_looked, begun_on, rows_more, sought_from, sought_then}
use Rattle.tp_manager.specs.Leans.{IsLeanAt, scan_end}
use Rattle.tp_manager.proofs.Claims.Leans.{ends_far, ends_most, lean_apart, lean_between, lean_less, lean_row, lean_start}
use Rattle.tp_manager.proofs.manager.Shared.scan_from_mark.Goals as goal
use Rattle.tp_manager.proofs.manager.Shared.scan_from_mark.Goals.{After-loop-row, After-low_at-mark, After-past_done-begin, After-try_row}

-- where the part begins, and where the scan does
first : (c : After-low_at-mark) → c.args.part * (table_limits c.args.self.now.words).rows ≡ c.args.part * c.args.self.now.places.limits.rows
first c = ap (λ (z : Limits). c.args.part * z.rows) c.args.self.now.same

wide : (c : After-low_at-mark) → (table_limits c.args.self.now.words).rows ≡ c.args.self.now.places.limits.rows
wide c = ap (λ (z : Limits). z.rows) c.args.self.now.same

abbrev from : (c : After-past_done-begin) → ℕ
from c = c.later-known.result

-- that is no row before the mark, nor before the next one that isn't known of no use
abbrev lowest : (c : After-past_done-begin) → ℕ
lowest c = c.args.part * c.args.self.now.places.limits.rows + slice_index c.low_at-mark.new.lows c.args.part

-- nor behind the part
top : (c : After-past_done-begin) → from c ≤ c.args.part * c.args.self.now.places.limits.rows + c.args.self.now.places.limits.rows
top c = let inside = c.low_at-mark.ensures.low.0 in let w = ap (λ (z : Limits). z.rows) c.args.self.now.same in let e = ap (λ (z : Limits). c.args.part * z.rows) c.args.self.now.same in let n = c.requires.next.0 in
    ⊎_elim (λ same. omega arith) (λ same. omega arith) c.later-known.ensures.one

-- what the pass remembers as done is so after the load of the mark
still_done : (c : After-low_at-mark) → RemembersDone (view_of c.low_at-mark.new.seat) c.args.who.done
still_done c = done_walked _ 1 _ _ _ c.args.who.done c.requires.steady.steady.pass.1 c.low_at-mark.ensures.acted.walk c.requires.done

-- the scan begins at the mark, or one row after it
begins : (c : After-past_done-begin) → (lowest c ≤ c.past_done-begin.result) × (from c ≤ c.past_done-begin.result) × (c.past_done-begin.result ≤ from c + 1) × (c.past_done-begin.result ≤ c.args.part * c.args.self.now.places.limits.rows + c.args.self.now.places.limits.rows)
begins c = let near_from = past_near (table_limits c.args.self.now.words) c.past_done-begin.result (from c) _ c.args.who.done (top c) c.past_done-begin.ensures in
    let low = c.later-known.ensures.most.0 in let up = near_from.0 in (omega arith, up, near_from.1, near_from.2)

-- the row is of the part, and so is what comes next, but for the part's end
near : (c : After-try_row) → IsRowOf (table_limits c.args.self.now.words) c.args.part c.loop-row.row × (c.try_row.new.row ≤ c.args.part * (table_limits c.args.self.now.words).rows + (table_limits c.args.self.now.words).rows)
near c = let l : Limits = table_limits c.args.self.now.words in let i = c.loop-row.invariant in let low = i.from in let less = c.loop-row-test.true in
    let a : c.args.part * l.rows ≡ c.args.part * c.args.self.now.places.limits.rows = ap (λ (z : Limits). c.args.part * z.rows) c.args.self.now.same in
    let b : l.rows ≡ c.args.self.now.places.limits.rows = ap (λ (z : Limits). z.rows) c.args.self.now.same in
    let own : IsRowOf l c.args.part c.loop-row.row = (c.requires.part, omega arith, omega arith) in (own, part_on l c.loop-row.row c.try_row.new.row c.args.part c.try_row.ensures.on own)

-- the steps from the mark up to the row
since : (c : After-try_row) → Looked (table_limits c.args.self.now.words) ((c.loop-row.row - c.past_done-begin.result) * try_steps) (view_of c.low_at-mark.new.seat) (view_of c.loop-row.seat)
since c = let l : Limits = table_limits c.args.self.now.words in
    begun_looked l (PassedBy l c.args.who.stage) (passed_widens l c.args.who.stage) _ _ c.loop-row.row _ _ c.loop-row.invariant.begun c.low_at-mark.ensures.acted.walk.steady

-- the rows from the mark on up to the first that isn't known of no use
rose_next : (c : After-past_done-begin) → Rose c.args.who.stage (view_of c.low_at-mark.new.seat) (lowest c) (from c)
rose_next c = let l : Limits = table_limits c.args.self.now.words in let low = c.later-known.ensures.most.0 in ⊎_elim
    (λ same. (omega arith, λ i from_on below. absurd (omega arith)))
    (λ same. let old = rose_later l c.args.who.stage (view_of c.args.seat.now) (view_of c.low_at-mark.new.seat) _ c.args.next (goes_walked l 1 _ _ _ c.requires.steady.steady.pass.1 c.low_at-mark.ensures.acted.walk) c.requires.next.1 in
    let up = c.low_at-mark.ensures.lows.0 c.args.part in let e = ap (λ (z : Limits). c.args.part * z.rows) c.args.self.now.same in (omega arith, λ i from_on below. old.1 i (omega arith) (omega arith))) c.later-known.ensures.one

-- the rows before the first that is looked at are over
under : (c : After-past_done-begin) (j : ℕ) → c.args.part * (table_limits c.args.self.now.words).rows ≤ j → j < c.past_done-begin.result → PassedBy (table_limits c.args.self.now.words) c.args.who.stage j (seen_by c.low_at-mark.new.seat) (seen_by c.low_at-mark.new.seat)
under c j from_on below = let l : Limits = table_limits c.args.self.now.words in let e = ap (λ (z : Limits). c.args.part * z.rows) c.args.self.now.same in let old = done_walked l 1 _ _ _ c.args.who.done c.requires.steady.steady.pass.1 c.low_at-mark.ensures.acted.walk c.requires.done in
    dite (dec_le (from c) j)
    (λ past. done_passed l c.args.who.stage (view_of c.low_at-mark.new.seat) c.past_done-begin.result (from c) _ c.args.who.done c.low_at-mark.ensures.acted.walk.steady.pass.1 old c.past_done-begin.ensures j past below)
    (λ before. dite (dec_le (lowest c) j)
    (λ past. useless_passed l c.args.who.stage (view_of c.low_at-mark.new.seat) j c.args.who.valid.0.0 c.low_at-mark.ensures.acted.walk.steady ((rose_next c).1 j past (omega arith)))
    (λ not. over_passed l c.args.who.stage (seen_by c.low_at-mark.new.seat) c.args.part (slice_index c.low_at-mark.new.lows c.args.part) j c.args.who.valid.0.0 c.low_at-mark.ensures.low.1 from_on (omega arith)))

-- what is known finished after one more row
rose : (c : After-try_row) (n : ℕ) (ms : List TraceEntry) → Stepped (table_limits c.args.self.now.words) n ms (view_of c.loop-row.seat) (view_of c.try_row.new.seat)
    → Rose c.args.who.stage (view_of c.try_row.new.seat) (c.args.part * c.args.self.now.places.limits.rows + c.low_at-mark.result) c.try_row.new.low
rose c n ms a = let l : Limits = table_limits c.args.self.now.words in let v = view_of c.loop-row.seat in
    rose_then l c.args.who.stage v (view_of c.try_row.new.seat) _ c.loop-row.low c.try_row.new.low (goes_walked l n ms v _ (since c).walk.steady.pass.1 a) c.loop-row.invariant.rose c.try_row.ensures.low.1

-- the first row that isn't known of no use, after one more row
stuck : (c : After-try_row) (n : ℕ) (ms : List TraceEntry) → Stepped (table_limits c.args.self.now.words) n ms (view_of c.loop-row.seat) (view_of c.try_row.new.seat) → c.try_row.new.low < c.try_row.new.row
    → WasOfUse (table_limits c.args.self.now.words) c.args.who.stage c.try_row.new.low (seen_by c.low_at-mark.new.seat) (seen_by c.try_row.new.seat)
stuck c n ms a less = let l : Limits = table_limits c.args.self.now.words in let h = seen_by c.low_at-mark.new.seat in let i = c.loop-row.invariant in
    ⊎_elim (λ t. subst (λ z. WasOfUse l c.args.who.stage z h (seen_by c.try_row.new.seat)) (sym t.1) (use_later l c.args.who.stage c.loop-row.low h h _ _ (begins_refl h) (walked_begins l n ms _ _ a) (i.stuck t.0)))
    (λ was. use_later l c.args.who.stage c.try_row.new.low h (seen_by c.loop-row.seat) _ _ (looked_begins l _ _ _ (since c)) (begins_refl _) was) (c.try_row.ensures.stays less)

-- the steps from the mark to the end of the part
all_since : (c : After-loop-row) → Looked (table_limits c.args.self.now.words) ((c.loop-row.row - c.past_done-begin.result) * try_steps) (view_of c.low_at-mark.new.seat) (view_of c.loop-row.seat)
all_since c = let l : Limits = table_limits c.args.self.now.words in
    begun_looked l (PassedBy l c.args.who.stage) (passed_widens l c.args.who.stage) _ _ c.loop-row.row _ _ c.loop-row.invariant.begun c.low_at-mark.ensures.acted.walk.steady

pub returns-in-Some-clause-rests : goal.returns-in-Some-clause-rests
returns-in-Some-clause-rests c = let l : Limits = table_limits c.args.self.now.words in let at = goal.at.returns-in-Some-clause-rests c in let t = c.in-Some.ensures.told.0 in
    rests_by l 1 _ _ (view_of c.args.seat.now) (view_of c.low_at-mark.new.seat) (view_of c.try_row.new.seat) (view_of c.raise_low.new.seat) c.low_at-mark.ensures.acted
    (walked_then l _ 1 _ _ _ _ _ (walked_then l _ _ _ _ _ _ _ (since at.After-try_row).walk t.walk) c.raise_low.ensures.looked.walk) c.raise_low.ensures.seen
    c.args.who.stage c.args.part _ c.try_row.new.low c.try_row.new.row c.raise_low.ensures.rests (stuck at.After-try_row _ _ t.walk) (inl c.in-Some.ensures.behind.0)

pub returns-clause-rests : goal.returns-clause-rests
returns-clause-rests c = let l : Limits = table_limits c.args.self.now.words in let at = goal.at.returns-clause-rests c in let i = c.loop-row.invariant in
    let high = i.inside in let low = i.low in let past = c.loop-row-test.false in let e = first at.After-low_at-mark in let wd = wide at.After-low_at-mark in
    rests_by l 1 _ _ (view_of c.args.seat.now) (view_of c.low_at-mark.new.seat) (view_of c.loop-row.seat) (view_of c.raise_low-2.new.seat) c.low_at-mark.ensures.acted
    (walked_then l _ 1 _ _ _ _ _ (all_since at.After-loop-row).walk c.raise_low-2.ensures.looked.walk) c.raise_low-2.ensures.seen
    c.args.who.stage c.args.part _ c.loop-row.low c.loop-row.row c.raise_low-2.ensures.rests i.stuck
    (dite (dec_le (c.loop-row.low + 1) c.loop-row.row) (λ less. let r : c.loop-row.low < c.loop-row.row = omega arith in inl r) (λ not. inr (omega arith)))

pub returns-in-Some-clause-inside : goal.returns-in-Some-clause-inside
returns-in-Some-clause-inside c = let n = near (goal.at.returns-in-Some-clause-inside c).After-try_row in let is = c.in-Some.ensures.behind.1 in let high = n.0.2 in omega arith

-- what is taken is no row before the next one
pub returns-in-Some-clause-behind : goal.returns-in-Some-clause-behind
returns-in-Some-clause-behind c = let at = goal.at.returns-in-Some-clause-behind c in let is = c.in-Some.ensures.behind.1 in let start = c.loop-row.invariant.from in let known = c.later-known.ensures.most.1 in let past = (begins at.After-past_done-begin).1 in omega arith

pub returns-then-row-end-clause-behind : goal.returns-then-row-end-clause-behind
returns-then-row-end-clause-behind c = let at = goal.at.returns-then-row-end-clause-behind c in let start = c.loop-row.invariant.from in let on = c.try_row.ensures.on.on in let known = c.later-known.ensures.most.1 in let past = (begins at.After-past_done-begin).1 in
    came_behind _ (table_limits c.args.self.now.words) _ c.args.who.stage c.args.who.unit c.args.next c.try_row.new.row _ _ c.scan_behind-found.result (omega arith) c.scan_behind-found.ensures.told

-- the pass remembered no more than it does now
above : (c : After-low_at-mark) → slice_index c.args.lows.now c.args.part ≤ slice_index c.low_at-mark.new.lows c.args.part
above c = c.low_at-mark.ensures.lows.0 c.args.part

-- nor less than the mark that was found
found : (c : After-low_at-mark) → c.low_at-mark.result ≤ slice_index c.low_at-mark.new.lows c.args.part
found c = let up = c.low_at-mark.ensures.rose.0 in omega arith

-- the scan began no row before it
under_low : (c : After-past_done-begin) (lows : List ℕ) (low : ℕ) → lows ≡ c.low_at-mark.new.lows → c.past_done-begin.result ≤ low → c.args.part * (table_limits c.args.self.now.words).rows + slice_index lows c.args.part ≤ low
under_low c lows low same up = let behind = (begins c).0 in let e = ap (λ (z : Limits). c.args.part * z.rows) c.args.self.now.same in
    subst (λ z. c.args.part * (table_limits c.args.self.now.words).rows + slice_index z c.args.part ≤ low) (sym same) (omega arith)

more : (c : After-try_row) → c.past_done-begin.result ≤ c.try_row.new.low
more c = let up = c.loop-row.invariant.above in let on = c.try_row.ensures.low.1.0 in omega arith

pub raise_low-requires-clause-low : goal.raise_low-requires-clause-low
raise_low-requires-clause-low c = let l : Limits = table_limits c.args.self.now.words in let at = (goal.at.raise_low-requires-clause-low c).After-try_row in let t = c.in-Some.ensures.told.0 in
    let on = (near at).1 in let low = c.try_row.ensures.low.0 in (
      omega arith,
      under_low (goal.at.raise_low-requires-clause-low c).After-past_done-begin c.loop-row.lows c.try_row.new.low c.loop-row.invariant.lows (more at),
      subst (λ z. Rose c.args.who.stage (view_of c.try_row.new.seat) (z + c.low_at-mark.result) c.try_row.new.low) (sym (first (goal.at.raise_low-requires-clause-low c).After-low_at-mark))
          (rose at _ _ t.walk),
    )

pub raise_low-requires-clause-mark : goal.raise_low-requires-clause-mark
raise_low-requires-clause-mark c = let at = (goal.at.raise_low-requires-clause-mark c).After-try_row in let low = (goal.at.raise_low-requires-clause-mark c).After-low_at-mark in let known = PartMark c.args.who.stage c.args.part c.low_at-mark.result in
    (c.in-Some.ensures.told.0.walk.knows known ((since at).walk.knows known c.low_at-mark.ensures.knows), subst (λ lows. c.low_at-mark.result ≤ slice_index lows c.args.part) (sym c.loop-row.invariant.lows) (found low))

pub raise_low-requires-clause-remembers : goal.raise_low-requires-clause-remembers
raise_low-requires-clause-remembers c = let at = (goal.at.raise_low-requires-clause-remembers c).After-try_row in
    subst (Remembers c.args.who.stage (view_of c.try_row.new.seat)) (sym c.loop-row.invariant.lows) (remembers_kind c.args.who.stage c.low_at-mark.new.lows _ _ _ _ _ c.in-Some.ensures.told.0.walk (remembers_kind c.args.who.stage c.low_at-mark.new.lows _ _ _ _ _ (since at).walk c.low_at-mark.ensures.remembers))

pub returns-in-Some-clause-lows : goal.returns-in-Some-clause-lows
returns-in-Some-clause-lows c = rises_at_then c.args.part c.args.lows.now c.low_at-mark.new.lows c.raise_low.new.lows c.low_at-mark.ensures.lows (subst (λ lows. RisesAt c.args.part lows c.raise_low.new.lows) c.loop-row.invariant.lows c.raise_low.ensures.lows)

pub returns-in-Some-clause-told : goal.returns-in-Some-clause-told
returns-in-Some-clause-told c = let l : Limits = table_limits c.args.self.now.words in let s = try_steps in let at = goal.at.returns-in-Some-clause-told c in let n = near at.After-try_row in let start = c.loop-row.invariant.from in let behind = (begins at.After-past_done-begin).0 in
    let known = c.later-known.ensures.most.1 in let past = (begins at.After-past_done-begin).1 in let e = first at.After-low_at-mark in let high = n.0.2 in let d : ℕ = c.loop-row.row - c.past_done-begin.result in
    let low = above at.After-low_at-mark in
    let room : d * s + s ≤ (c.args.part * l.rows + l.rows - c.args.next) * s = rows_more d (c.args.part * l.rows + l.rows - c.args.next) s (omega arith) in (
      took_few l c.args.who.stage c.args.who.unit c.in-Some.taken.attempt c.in-Some.taken.element ((1 + (d * s + s)) + 1) (2 + (c.args.part * l.rows + l.rows - c.args.next) * s) (c.args.part * l.rows) _ _ (omega arith)
          (took_looked l (c.args.part * l.rows) c.args.who.stage c.args.who.unit c.in-Some.taken.attempt c.in-Some.taken.element (1 + (d * s + s)) 1 _ _ _
          (took_from l c.args.who.stage c.args.who.unit c.in-Some.taken.attempt c.in-Some.taken.element (d * s + s) (c.args.part * l.rows) c.past_done-begin.result _ _ _ (omega arith) c.low_at-mark.ensures.acted (under at.After-past_done-begin)
          (took_then l c.args.who.stage c.args.who.unit c.in-Some.taken.attempt c.in-Some.taken.element (d * s) s c.past_done-begin.result c.loop-row.row _ _ _ start c.loop-row.invariant.begun c.in-Some.ensures.told.0)) c.raise_low.ensures.looked c.raise_low.ensures.seen),
      c.in-Some.ensures.told.1,
    )

-- what the pass remembers of gaps is so after the load of the mark, and later
gaps_then : (c : After-low_at-mark) (gaps : List ℕ) (n : ℕ) (ms : List TraceEntry) (y : View) → gaps ≡ c.args.gaps.now → Stepped (table_limits c.args.self.now.words) n ms (view_of c.low_at-mark.new.seat) y → RemembersGaps c.args.who.stage y gaps
gaps_then c gaps n ms y same a = subst (RemembersGaps c.args.who.stage y) (sym same) (gaps_kind c.args.who.stage c.args.gaps.now _ n ms _ y a (gaps_kind c.args.who.stage c.args.gaps.now _ _ _ _ _ c.low_at-mark.ensures.acted.walk c.requires.gaps))

pub returns-in-Some-clause-gaps : goal.returns-in-Some-clause-gaps
returns-in-Some-clause-gaps c = let l : Limits = table_limits c.args.self.now.words in let at = goal.at.returns-in-Some-clause-gaps c in
    gaps_then at.After-low_at-mark c.loop-row.gaps _ _ (view_of c.raise_low.new.seat) c.loop-row.invariant.gaps (walked_then l _ 1 _ _ _ _ _ (walked_then l _ _ _ _ _ _ _ (since at.After-try_row).walk c.in-Some.ensures.told.0.walk) c.raise_low.ensures.looked.walk)

pub returns-clause-gaps : goal.returns-clause-gaps
returns-clause-gaps c = let l : Limits = table_limits c.args.self.now.words in let at = goal.at.returns-clause-gaps c in
    gaps_then at.After-low_at-mark c.loop-row.gaps _ _ (view_of c.raise_low-2.new.seat) c.loop-row.invariant.gaps (walked_then l _ 1 _ _ _ _ _ (all_since at.After-loop-row).walk c.raise_low-2.ensures.looked.walk)

-- a row that may be of use: the scan goes on behind it
pub raise_low-requires-then-row-end-clause-remembers : goal.raise_low-requires-then-row-end-clause-remembers
raise_low-requires-then-row-end-clause-remembers c = let at = (goal.at.raise_low-requires-then-row-end-clause-remembers c).After-try_row in
    subst (Remembers c.args.who.stage (view_of c.try_row.new.seat)) (sym c.loop-row.invariant.lows) (remembers_kind c.args.who.stage c.low_at-mark.new.lows _ _ _ _ _ c.in_default.ensures.told.walk (remembers_kind c.args.who.stage c.low_at-mark.new.lows _ _ _ _ _ (since at).walk c.low_at-mark.ensures.remembers))

pub raise_low-requires-then-row-end-clause-low : goal.raise_low-requires-then-row-end-clause-low
raise_low-requires-then-row-end-clause-low c = let l : Limits = table_limits c.args.self.now.words in let at = goal.at.raise_low-requires-then-row-end-clause-low c in
    let on = (near at.After-try_row).1 in let low = c.try_row.ensures.low.0 in (
      omega arith,
      under_low at.After-past_done-begin c.loop-row.lows c.try_row.new.low c.loop-row.invariant.lows (more at.After-try_row),
      subst (λ z. Rose c.args.who.stage (view_of c.try_row.new.seat) (z + c.low_at-mark.result) c.try_row.new.low) (sym (first at.After-low_at-mark)) (rose at.After-try_row _ _ c.in_default.ensures.told.walk),
    )

pub scan_behind-found-requires-clause-rows : goal.scan_behind-found-requires-clause-rows
scan_behind-found-requires-clause-rows c = let l : Limits = table_limits c.args.self.now.words in let at = goal.at.scan_behind-found-requires-clause-rows c in let on = (near at.After-try_row).1 in
    let e = first at.After-low_at-mark in let w = wide at.After-low_at-mark in let all = rows_more c.args.part l.parts l.rows c.requires.part in (omega arith, omega arith)

pub scan_behind-found-requires-clause-gap : goal.scan_behind-found-requires-clause-gap
scan_behind-found-requires-clause-gap c = let l : Limits = table_limits c.args.self.now.words in let at = goal.at.scan_behind-found-requires-clause-gap c in
    gaps_then at.After-low_at-mark c.loop-row.gaps _ _ (view_of c.raise_low-then-row-end.new.seat) c.loop-row.invariant.gaps
    (walked_then l _ 1 _ _ _ _ _ (walked_then l _ _ _ _ _ _ _ (since at.After-try_row).walk c.in_default.ensures.told.walk) c.raise_low-then-row-end.ensures.looked.walk) c.args.part

pub scan_behind-found-requires-clause-done : goal.scan_behind-found-requires-clause-done
scan_behind-found-requires-clause-done c = let l : Limits = table_limits c.args.self.now.words in let at = goal.at.scan_behind-found-requires-clause-done c in
    done_walked l _ _ _ _ c.args.who.done c.low_at-mark.ensures.acted.walk.steady.pass.1
    (walked_then l _ 1 _ _ _ _ _ (walked_then l _ _ _ _ _ _ _ (since at.After-try_row).walk c.in_default.ensures.told.walk) c.raise_low-then-row-end.ensures.looked.walk) (still_done at.After-low_at-mark)

pub returns-then-row-end-clause-remembers : goal.returns-then-row-end-clause-remembers
returns-then-row-end-clause-remembers c = let l : Limits = table_limits c.args.self.now.words in
    let w = drawn_walked l c.args.who.stage c.args.who.unit _ c.try_row.new.row _ (view_of c.raise_low-then-row-end.new.seat) (view_of c.scan_behind-found.new.seat) c.scan_behind-found.result c.scan_behind-found.ensures.told in
    remembers_kind c.args.who.stage c.raise_low-then-row-end.new.lows _ _ _ _ _ w.1 c.raise_low-then-row-end.ensures.remembers

pub returns-then-row-end-clause-gaps : goal.returns-then-row-end-clause-gaps
returns-then-row-end-clause-gaps c = let l : Limits = table_limits c.args.self.now.words in let at = goal.at.returns-then-row-end-clause-gaps c in
    let w = drawn_walked l c.args.who.stage c.args.who.unit _ c.try_row.new.row _ (view_of c.raise_low-then-row-end.new.seat) (view_of c.scan_behind-found.new.seat) c.scan_behind-found.result c.scan_behind-found.ensures.told in
    let long = c.told-gaps in let same = ap length c.loop-row.invariant.gaps in let few = c.args.self.now.words.places.valid.parts.1 in
    gaps_set c.args.who.stage c.args.part c.scan_behind-found.new.gap c.loop-row.gaps (view_of c.scan_behind-found.new.seat) (omega arith) c.scan_behind-found.ensures.gap
    (gaps_then at.After-low_at-mark c.loop-row.gaps _ _ (view_of c.scan_behind-found.new.seat) c.loop-row.invariant.gaps
    (walked_then l _ _ _ _ _ _ _ (walked_then l _ 1 _ _ _ _ _ (walked_then l _ _ _ _ _ _ _ (since at.After-try_row).walk c.in_default.ensures.told.walk) c.raise_low-then-row-end.ensures.looked.walk) w.1))

pub returns-then-row-end-clause-rests : goal.returns-then-row-end-clause-rests
returns-then-row-end-clause-rests c = let l : Limits = table_limits c.args.self.now.words in let at = goal.at.returns-then-row-end-clause-rests c in let t = c.in_default.ensures.told in let first = c.low_at-mark.ensures.acted in
    let w = drawn_walked l c.args.who.stage c.args.who.unit _ c.try_row.new.row _ (view_of c.raise_low-then-row-end.new.seat) (view_of c.scan_behind-found.new.seat) c.scan_behind-found.result c.scan_behind-found.ensures.told in
    let a = walked_then l _ 1 _ _ _ _ _ (walked_then l _ _ _ _ _ _ _ (since at.After-try_row).walk t.walk) c.raise_low-then-row-end.ensures.looked.walk in
    rests_behind l _ _ _ w.0 (view_of c.args.seat.now) (view_of c.raise_low-then-row-end.new.seat) (view_of c.scan_behind-found.new.seat) (walked_then l 1 _ _ _ _ _ _ first.walk a) w.1 c.args.who.stage c.args.part _ (has_more _ _ first.step)
    (rests_by l 1 _ _ (view_of c.args.seat.now) (view_of c.low_at-mark.new.seat) (view_of c.try_row.new.seat) (view_of c.raise_low-then-row-end.new.seat) first a c.raise_low-then-row-end.ensures.seen
    c.args.who.stage c.args.part _ c.try_row.new.low c.try_row.new.row c.raise_low-then-row-end.ensures.rests (stuck at.After-try_row _ _ t.walk) (inl c.if-low-row.true))

pub returns-then-row-end-clause-told : goal.returns-then-row-end-clause-told
returns-then-row-end-clause-told c = let l : Limits = table_limits c.args.self.now.words in let s = try_steps in let P = PassedBy l c.args.who.stage in let W = passed_widens l c.args.who.stage in let i = c.loop-row.invariant in let from = i.from in let on = c.try_row.ensures.on.on in
    let at = goal.at.returns-then-row-end-clause-told c in let F : ℕ = c.past_done-begin.result in let d : ℕ = c.loop-row.row - F in let k : ℕ = c.try_row.new.row - F in let top = (near at.After-try_row).1 in
    let e = first at.After-low_at-mark in let wd = wide at.After-low_at-mark in let low = above at.After-low_at-mark in let mark = (begins at.After-past_done-begin).0 in let known = c.later-known.ensures.most.1 in let past = (begins at.After-past_done-begin).1 in
    let begun = begun_few l P W (d * s + s) F (k * s) c.try_row.new.row _ _ (rows_more d k s (omega arith)) (begun_on l P W (d * s) F s c.loop-row.row _ _ _ i.begun c.try_row.new.row from c.in_default.ensures.told) in
    let sought = sought_from l P W (k * s) (c.args.part * l.rows) F c.try_row.new.row (view_of c.args.seat.now) (view_of c.low_at-mark.new.seat) (view_of c.try_row.new.seat) c.low_at-mark.ensures.acted begun (under at.After-past_done-begin) in
    let raised = sought_then l (1 + k * s) 1 (EachRow P (c.args.part * l.rows) c.try_row.new.row) _ _ _ (λ a b g later each j p q. passed_widens l c.args.who.stage j a a b g (begins_refl a) later (each j p q)) sought c.raise_low-then-row-end.ensures.looked in
    let end : c.args.part * c.args.self.now.places.limits.rows + c.args.self.now.places.limits.rows ≡ c.args.part * l.rows + l.rows = omega arith in
    let room : (k + (c.args.part * c.args.self.now.places.limits.rows + c.args.self.now.places.limits.rows - c.try_row.new.row)) * s ≤ (c.args.part * l.rows + l.rows - c.args.next) * s = mul-le-mul_right s (omega arith) in
    let both = add-mul k (c.args.part * c.args.self.now.places.limits.rows + c.args.self.now.places.limits.rows - c.try_row.new.row) s in
    let v = view_of c.args.seat.now in let y = view_of c.scan_behind-found.new.seat in let n : ℕ = (1 + k * s) + 1 in let m : ℕ = (c.args.part * c.args.self.now.places.limits.rows + c.args.self.now.places.limits.rows - c.try_row.new.row) * s in
    subst (λ z. MatchOption c.scan_behind-found.result (Sought l (2 + (c.args.part * l.rows + l.rows - c.args.next) * s) (EachRow P (c.args.part * l.rows) z) v y) (λ (t : Taken). Took l (2 + (c.args.part * l.rows + l.rows - c.args.next) * s) (c.args.part * l.rows) c.args.who.stage c.args.who.unit v y t.element t.attempt × (t.element.root ≡ t.root))) end
    (scan_behind l c.args.who.stage c.args.who.unit 0 (n + m) (2 + (c.args.part * l.rows + l.rows - c.args.next) * s) (c.args.part * l.rows) _ v v y c.scan_behind-found.result (omega arith) (looked_none l v c.requires.steady.steady)
    (scan_on l c.args.who.stage c.args.who.valid.0.0 n m c.args.who.unit (c.args.part * l.rows) c.try_row.new.row _ v (view_of c.raise_low-then-row-end.new.seat) y c.scan_behind-found.result (omega arith) raised c.scan_behind-found.ensures.told))

-- what is made from the mark up to the row, and there
lean : (c : After-try_row) → IsLeanAt (table_limits c.args.self.now.words) c.args.who.stage 0 c.past_done-begin.result (c.loop-row.row + 1 - c.past_done-begin.result) (view_of c.low_at-mark.new.seat) (view_of c.try_row.new.seat)
lean c = let i = c.loop-row.invariant in lean_row (table_limits c.args.self.now.words) c.args.who.stage c.past_done-begin.result (c.loop-row.row - c.past_done-begin.result) c.loop-row.row _ _ _ i.from (omega arith) i.lean c.try_row.ensures.lean

pub returns-in-Some-clause-lean : goal.returns-in-Some-clause-lean
returns-in-Some-clause-lean c = let l : Limits = table_limits c.args.self.now.words in let at = goal.at.returns-in-Some-clause-lean c in let F : ℕ = c.past_done-begin.result in let N : ℕ = c.args.next in let known = c.later-known.ensures.most.1 in let past = (begins at.After-past_done-begin).1 in
    let start = c.loop-row.invariant.from in let behind = (begins at.After-past_done-begin).0 in let e = first at.After-low_at-mark in let low = above at.After-low_at-mark in let is = c.in-Some.ensures.behind.1 in
    lean_between l c.args.who.stage 1 F (c.loop-row.row + 1 - F) 1 2 N (c.in-Some.taken.element.id + 1 - N) _ _ _ _ _ _ (omega arith) (omega arith) (omega arith) c.low_at-mark.ensures.acted.walk (lean at.After-try_row) c.raise_low.ensures.looked.walk

pub returns-then-row-end-clause-lean : goal.returns-then-row-end-clause-lean
returns-then-row-end-clause-lean c = let l : Limits = table_limits c.args.self.now.words in let at = goal.at.returns-then-row-end-clause-lean c in let F : ℕ = c.past_done-begin.result in let N : ℕ = c.args.next in let known = c.later-known.ensures.most.1 in let past = (begins at.After-past_done-begin).1 in
    let start = c.loop-row.invariant.from in let behind = (begins at.After-past_done-begin).0 in let e = first at.After-low_at-mark in let wd = wide at.After-low_at-mark in let low = above at.After-low_at-mark in
    let on = c.try_row.ensures.on.on in let next : ℕ = c.try_row.new.row in let to : ℕ = c.args.part * c.args.self.now.places.limits.rows + c.args.self.now.places.limits.rows in let top = (near at.After-try_row).1 in let o = c.scan_behind-found.result in
    let far = ends_far l _ _ next to c.args.who.stage c.args.who.unit _ _ o (omega arith) c.scan_behind-found.ensures.told in let same : scan_end to o ≤ scan_end (c.args.part * l.rows + l.rows) o = ends_most to (c.args.part * l.rows + l.rows) o (omega arith) in
    lean_apart l c.args.who.stage 2 F (c.loop-row.row + 1 - F) 0 next (scan_end to o - next) 2 N (scan_end (c.args.part * l.rows + l.rows) o - N) _ _ _ (omega arith) (omega arith) (omega arith) (omega arith)
    (lean_between l c.args.who.stage 1 F (c.loop-row.row + 1 - F) 1 2 F (c.loop-row.row + 1 - F) _ _ _ _ _ _ (omega arith) (omega arith) (omega arith) c.low_at-mark.ensures.acted.walk (lean at.After-try_row) c.raise_low-then-row-end.ensures.looked.walk) c.scan_behind-found.ensures.lean

pub returns-clause-lean : goal.returns-clause-lean
returns-clause-lean c = let l : Limits = table_limits c.args.self.now.words in let at = goal.at.returns-clause-lean c in let F : ℕ = c.past_done-begin.result in let N : ℕ = c.args.next in let known = c.later-known.ensures.most.1 in let past = (begins at.After-past_done-begin).1 in let i = c.loop-row.invariant in
    let start = i.from in let high = i.inside in let behind = (begins at.After-past_done-begin).0 in let e = first at.After-low_at-mark in let wd = wide at.After-low_at-mark in let low = above at.After-low_at-mark in
    lean_between l c.args.who.stage 1 F (c.loop-row.row - F) 1 2 N (c.args.part * l.rows + l.rows - N) _ _ _ _ _ _ (omega arith) (omega arith) (omega arith) c.low_at-mark.ensures.acted.walk i.lean c.raise_low-2.ensures.looked.walk

pub loop-row-init : goal.loop-row-init
loop-row-init c = let at = goal.at.loop-row-init c in let b = begins at.After-past_done-begin in let inside = b.3 in let l : Limits = table_limits c.args.self.now.words in let v = view_of c.low_at-mark.new.seat in record {
  same = refl;
  lows = refl;
  gaps = refl;
  from = omega arith;
  inside = inside;
  above = omega arith;
  low = omega arith;
  rose = rose_both l c.args.who.stage v _ (from at.After-past_done-begin) _ (rose_both l c.args.who.stage v _ (lowest at.After-past_done-begin) _
      (subst (λ z. Rose c.args.who.stage v (z + c.low_at-mark.result) (z + slice_index c.low_at-mark.new.lows c.args.part)) (first at.After-low_at-mark) c.low_at-mark.ensures.rose) (rose_next at.After-past_done-begin))
      (rose_past l v c.past_done-begin.result (from at.After-past_done-begin) _ c.args.who.done (still_done at.After-low_at-mark) c.past_done-begin.ensures b.1 c.args.who.stage);
  stuck = λ less. absurd (omega arith);
  lean = lean_less (table_limits c.args.self.now.words) c.args.who.stage 0 c.past_done-begin.result 0 0 c.past_done-begin.result _ _ _ (omega arith) (omega arith) (omega arith) (lean_start (table_limits c.args.self.now.words) c.args.who.stage c.past_done-begin.result (view_of c.low_at-mark.new.seat));
  begun = inl (refl, refl);
}

pub loop-row-preserved : goal.loop-row-preserved
loop-row-preserved c = let l : Limits = table_limits c.args.self.now.words in let at = goal.at.loop-row-preserved c in let t = c.in_default.ensures.told in let i = c.loop-row.invariant in let on = c.try_row.ensures.on.on in let n = near at.After-try_row in
    let s = try_steps in let P = PassedBy l c.args.who.stage in let F : ℕ = c.past_done-begin.result in let d : ℕ = c.loop-row.row - F in
    let start = i.from in let e = first at.After-low_at-mark in let w = wide at.After-low_at-mark in let top = n.1 in record {
      same = search rules;
      lows = i.lows;
      gaps = i.gaps;
      from = omega arith;
      inside = omega arith;
      above = more at.After-try_row;
      low = c.try_row.ensures.low.0;
      rose = rose at.After-try_row _ _ t.walk;
      stuck = stuck at.After-try_row _ _ t.walk;
      lean = lean_less l c.args.who.stage 0 F (c.loop-row.row + 1 - F) 0 F (c.try_row.new.row - F) _ _ (omega arith) (omega arith) (omega arith) (lean at.After-try_row);
      begun = begun_few l P (passed_widens l c.args.who.stage) (d * s + s) F _ c.try_row.new.row _ _ (rows_more d (c.try_row.new.row - F) s (omega arith)) (begun_on l P (passed_widens l c.args.who.stage) (d * s) F s c.loop-row.row _ _ _ i.begun c.try_row.new.row start t);
    }

pub raise_low-requires-2-clause-low : goal.raise_low-requires-2-clause-low
raise_low-requires-2-clause-low c = let at = (goal.at.raise_low-requires-2-clause-low c).After-low_at-mark in let i = c.loop-row.invariant in let e = first at in let w = wide at in let high = i.inside in let low = i.low in (
  omega arith,
  under_low (goal.at.raise_low-requires-2-clause-low c).After-past_done-begin c.loop-row.lows c.loop-row.low i.lows i.above,
  subst (λ z. Rose c.args.who.stage (view_of c.loop-row.seat) (z + c.low_at-mark.result) c.loop-row.low) (sym e) i.rose,
)

pub raise_low-requires-2-clause-mark : goal.raise_low-requires-2-clause-mark
raise_low-requires-2-clause-mark c = let at = goal.at.raise_low-requires-2-clause-mark c in
    ((all_since at.After-loop-row).walk.knows (PartMark c.args.who.stage c.args.part c.low_at-mark.result) c.low_at-mark.ensures.knows, subst (λ lows. c.low_at-mark.result ≤ slice_index lows c.args.part) (sym c.loop-row.invariant.lows) (found at.After-low_at-mark))

pub raise_low-requires-2-clause-remembers : goal.raise_low-requires-2-clause-remembers
raise_low-requires-2-clause-remembers c = subst (Remembers c.args.who.stage (view_of c.loop-row.seat)) (sym c.loop-row.invariant.lows) (remembers_kind c.args.who.stage c.low_at-mark.new.lows _ _ _ _ _ (all_since (goal.at.raise_low-requires-2-clause-remembers c).After-loop-row).walk c.low_at-mark.ensures.remembers)

pub returns-clause-lows : goal.returns-clause-lows
returns-clause-lows c = rises_at_then c.args.part c.args.lows.now c.low_at-mark.new.lows c.raise_low-2.new.lows c.low_at-mark.ensures.lows (subst (λ lows. RisesAt c.args.part lows c.raise_low-2.new.lows) c.loop-row.invariant.lows c.raise_low-2.ensures.lows)

pub returns-clause-told : goal.returns-clause-told
returns-clause-told c = let l : Limits = table_limits c.args.self.now.words in let s = try_steps in let at = (goal.at.returns-clause-told c).After-low_at-mark in let i = c.loop-row.invariant in
    let high = i.inside in let low = c.loop-row-test.false in let e = first at in let w = wide at in let up = above at in
    let P = PassedBy l c.args.who.stage in let F : ℕ = c.past_done-begin.result in let near_mark = begins (goal.at.returns-clause-told c).After-past_done-begin in let behind = near_mark.0 in let known = c.later-known.ensures.most.1 in let past = near_mark.1 in let d : ℕ = c.loop-row.row - F in
    let all : c.loop-row.row ≡ c.args.part * l.rows + l.rows = omega arith in
    let few : d * s ≤ (c.args.part * l.rows + l.rows - c.args.next) * s = mul-le-mul_right s (omega arith) in
    let sought = sought_from l P (passed_widens l c.args.who.stage) (d * s) (c.args.part * l.rows) F c.loop-row.row (view_of c.args.seat.now) (view_of c.low_at-mark.new.seat) (view_of c.loop-row.seat) c.low_at-mark.ensures.acted i.begun
    (under (goal.at.returns-clause-told c).After-past_done-begin) in
    sought_few l ((1 + d * s) + 1) (2 + (c.args.part * l.rows + l.rows - c.args.next) * s) _ _ _ (omega arith)
    (sought_then l (1 + d * s) 1 (OfPart l P c.args.part) _ _ _ (λ a b g later each j p q. passed_widens l c.args.who.stage j a a b g (begins_refl a) later (each j p q))
    (subst (λ n. Sought l (1 + d * s) (EachRow P (c.args.part * l.rows) n) (view_of c.args.seat.now) (view_of c.loop-row.seat)) all sought) c.raise_low-2.ensures.looked)
