use Rattle.std.proofs.Common.{Bool, true, false, ◌≢◌, ℕ, ◌≤◌, inr, ⊎_elim, ◌≡◌, ◌+◌, ◌-◌, ◌*◌, ◌<◌, slice_index, sym, ◌∙◌, refl, ap, inl, arith, rules, subst, mul-le-mul_right}
use Rattle.tp_model.specs.declared.types.Limits.{Limits}
use Rattle.tp_rule.specs.Tables.{table_limits}
use Rattle.tp_rule.specs.Views.{view_of}
use Rattle.tp_manager.specs.Bounds.{looks_if, scan_steps, try_steps}
use Rattle.tp_manager.specs.RowSteps.{parts_left}
use Rattle.tp_manager.specs.CallSteps.{Looked}
use Rattle.tp_manager.specs.Marks.{RestsAt, Rose}
use Rattle.tp_manager.specs.Scans.{Begun, EachRow, OfPart, PassedBy, Sought, Took}
use Rattle.tp_manager.proofs.Marks.Lows.{behind_rises, lows_inside, rises_then, scan_apart, scan_left, scan_next, scan_rises}
use Rattle.tp_manager.proofs.Calls.CallSteps.{gaps_kind, looked_few, looked_then, remembers_kind, rises_none, sought_few}
use Rattle.tp_manager.proofs.Marks.Raises.{goes_walked}
use Rattle.tp_manager.proofs.Marks.Useless.{rose_later}
use Rattle.tp_manager.proofs.Claims.Scans.{finished_passed, passed_widens, took_then, took_few, begun_rows, finished_took}
use Rattle.tp_manager.proofs.Claims.Behind.{begun_both, finished_on}
use Rattle.tp_manager.proofs.Marks.Rests.{part_before, parts_both, parts_on}
use mathlib.Core.Logic.{dite}
use native.Mathlib.Decide.{dec_le}
use Rattle.tp_manager.proofs.Rows.Seeks.{rows_more, begun_done, begun_few, begun_looked, begun_on, one_row, part_widens, sought_all}
use Rattle.tp_manager.proofs.Calls.Passes.{done_walked}
use Rattle.tp_model.specs.Steps.{part_rows}
use Rattle.tp_manager.specs.Leans.{IsLeanAt, IsLeanIn}
use Rattle.tp_manager.proofs.Claims.Leans.{lean_from, lean_left, lean_part, lean_parts, lean_skip, parts_all, parts_more, parts_rise}
use Rattle.tp_manager.proofs.manager.Shared.scan_parts.Goals as goal
use Rattle.tp_manager.proofs.manager.Shared.scan_parts.Goals.{After-past_bare-next, After-past_full_once-end, After-scan_part, else-lows-part-2-via-then-lows-part-2+else-part-last-2, else-lows-part-2-via-else-lows-part-2}

at_least : (a : ℕ) → 1 ≤ a → 1 * try_steps ≤ a * try_steps
at_least a le = mul-le-mul_right try_steps le

looks_most : (b : Bool) → looks_if b ≤ 1
looks_most true = omega arith
looks_most false = omega arith

-- the looks at bare parts
gone : (c : After-past_bare-next) → Looked (table_limits c.args.self.now.words) (c.past_bare-next.result.part - c.loop-part.part + 1) (view_of c.loop-part.seat) (view_of c.past_bare-next.new.seat)
gone c = let l : Limits = table_limits c.args.self.now.words in let n : ℕ = c.past_bare-next.result.part - c.loop-part.part in ⊎_elim (λ a. looked_few l n (n + 1) _ _ (omega arith) a) (λ a. a.2) c.past_bare-next.ensures.few

-- the parts that were passed, up to the first that isn't bare
begun : (c : After-past_bare-next) → Begun (table_limits c.args.self.now.words) (OfPart (table_limits c.args.self.now.words) (PassedBy (table_limits c.args.self.now.words) c.args.who.stage))
    (scan_steps (table_limits c.args.self.now.words) try_steps 3 c.args.lows.now c.loop-part.part + (c.past_bare-next.result.part - c.loop-part.part + 1)) c.first_open-begin.result c.past_bare-next.result.part (view_of c.args.seat.now) (view_of c.past_bare-next.new.seat)
begun c = let l : Limits = table_limits c.args.self.now.words in let P = PassedBy l c.args.who.stage in let i = c.loop-part.invariant in
    begun_both l (OfPart l P) (part_widens l P (passed_widens l c.args.who.stage)) (scan_steps l try_steps 3 c.args.lows.now c.loop-part.part) (c.past_bare-next.result.part - c.loop-part.part + 1) c.first_open-begin.result c.loop-part.part c.past_bare-next.result.part _ _ _ i.from i.begun c.past_bare-next.ensures.told

all : (c : After-past_bare-next) → Looked (table_limits c.args.self.now.words) (scan_steps (table_limits c.args.self.now.words) try_steps 3 c.args.lows.now c.loop-part.part + (c.past_bare-next.result.part - c.loop-part.part + 1)) (view_of c.args.seat.now) (view_of c.past_bare-next.new.seat)
all c = let l : Limits = table_limits c.args.self.now.words in let P = PassedBy l c.args.who.stage in begun_looked l (OfPart l P) (part_widens l P (passed_widens l c.args.who.stage)) _ c.first_open-begin.result c.past_bare-next.result.part _ _ (begun c) c.requires.steady.steady

-- where their marks rest
rests : (c : After-past_bare-next) (q : ℕ) → c.first_open-begin.result ≤ q → q < c.past_bare-next.result.part → RestsAt (table_limits c.args.self.now.words) c.args.who.stage q (slice_index c.loop-part.lows q) (view_of c.args.seat.now) (view_of c.past_bare-next.new.seat)
rests c = let l : Limits = table_limits c.args.self.now.words in let i = c.loop-part.invariant in
    parts_both l c.args.who.stage c.first_open-begin.result c.loop-part.part c.past_bare-next.result.part _ _ (OfPart l (PassedBy l c.args.who.stage)) _ c.loop-part.lows _ _ _ i.begun (gone c).walk i.rests c.past_bare-next.ensures.rests

-- each of them has rows left
left : (c : After-past_bare-next) → parts_left (table_limits c.args.self.now.words) c.args.lows.now c.loop-part.part + (c.past_bare-next.result.part - c.loop-part.part) ≤ parts_left (table_limits c.args.self.now.words) c.args.lows.now c.past_bare-next.result.part
left c = let l : Limits = table_limits c.args.self.now.words in let e = c.past_bare-next.ensures in
    parts_all l c.args.lows.now c.loop-part.part c.past_bare-next.result.part e.part.0 (λ q low high same. e.left q low high (c.loop-part.invariant.rest q low ∙ same))

-- the looks at heads behind those
abbrev made : (c : After-past_full_once-end) → ℕ
made c = looks_if c.past_full_once-end.new.tried - looks_if c.loop-part.tried

further : (c : After-past_full_once-end) (k : ℕ) → Looked (table_limits c.args.self.now.words) k (view_of c.loop-part.seat) (view_of c.past_bare-next.new.seat)
    → Looked (table_limits c.args.self.now.words) (k + (3 * (c.past_full_once-end.result - c.past_bare-next.result.part) + made c)) (view_of c.loop-part.seat) (view_of c.past_full_once-end.new.seat)
further c k a = looked_then (table_limits c.args.self.now.words) k _ _ _ _ a c.past_full_once-end.ensures.goes.few

-- the parts up to the one at which the scan goes on
begun_more : (c : After-past_full_once-end) → Begun (table_limits c.args.self.now.words) (OfPart (table_limits c.args.self.now.words) (PassedBy (table_limits c.args.self.now.words) c.args.who.stage)) (scan_steps (table_limits c.args.self.now.words) try_steps 3 c.args.lows.now c.loop-part.part + (c.past_bare-next.result.part - c.loop-part.part + 1)) c.first_open-begin.result c.past_bare-next.result.part (view_of c.args.seat.now) (view_of c.past_bare-next.new.seat)
    → let l : Limits = table_limits c.args.self.now.words in Begun l (OfPart l (PassedBy l c.args.who.stage))
    (scan_steps l try_steps 3 c.args.lows.now c.loop-part.part + (c.past_bare-next.result.part - c.loop-part.part + 1) + (3 * (c.past_full_once-end.result - c.past_bare-next.result.part) + made c)) c.first_open-begin.result c.past_full_once-end.result (view_of c.args.seat.now) (view_of c.past_full_once-end.new.seat)
begun_more c bare = let l : Limits = table_limits c.args.self.now.words in let P = PassedBy l c.args.who.stage in let from = c.loop-part.invariant.from in let up = c.past_bare-next.ensures.part.0 in
    begun_both l (OfPart l P) (part_widens l P (passed_widens l c.args.who.stage)) _ _ c.first_open-begin.result c.past_bare-next.result.part c.past_full_once-end.result _ _ _ (omega arith) bare c.past_full_once-end.ensures.goes.told

begun_here : (c : After-past_full_once-end) → Begun (table_limits c.args.self.now.words) (OfPart (table_limits c.args.self.now.words) (PassedBy (table_limits c.args.self.now.words) c.args.who.stage)) (scan_steps (table_limits c.args.self.now.words) try_steps 3 c.args.lows.now c.loop-part.part + (c.past_bare-next.result.part - c.loop-part.part + 1)) c.first_open-begin.result c.past_bare-next.result.part (view_of c.args.seat.now) (view_of c.past_bare-next.new.seat) → c.past_full_once-end.result ≡ c.past_bare-next.result.part
    → let l : Limits = table_limits c.args.self.now.words in Begun l (OfPart l (PassedBy l c.args.who.stage))
    (scan_steps l try_steps 3 c.args.lows.now c.loop-part.part + (c.past_bare-next.result.part - c.loop-part.part + 1) + (3 * (c.past_full_once-end.result - c.past_bare-next.result.part) + made c)) c.first_open-begin.result c.past_bare-next.result.part (view_of c.args.seat.now) (view_of c.past_full_once-end.new.seat)
begun_here c bare is = let l : Limits = table_limits c.args.self.now.words in
    subst (λ z. Begun l (OfPart l (PassedBy l c.args.who.stage)) (scan_steps l try_steps 3 c.args.lows.now c.loop-part.part + (c.past_bare-next.result.part - c.loop-part.part + 1) + (3 * (c.past_full_once-end.result - c.past_bare-next.result.part) + made c)) c.first_open-begin.result z (view_of c.args.seat.now) (view_of c.past_full_once-end.new.seat)) is (begun_more c bare)

rests_more : (c : After-past_full_once-end) → Begun (table_limits c.args.self.now.words) (OfPart (table_limits c.args.self.now.words) (PassedBy (table_limits c.args.self.now.words) c.args.who.stage)) (scan_steps (table_limits c.args.self.now.words) try_steps 3 c.args.lows.now c.loop-part.part + (c.past_bare-next.result.part - c.loop-part.part + 1)) c.first_open-begin.result c.past_bare-next.result.part (view_of c.args.seat.now) (view_of c.past_bare-next.new.seat)
    → ((q : ℕ) → c.first_open-begin.result ≤ q → q < c.past_bare-next.result.part → RestsAt (table_limits c.args.self.now.words) c.args.who.stage q (slice_index c.loop-part.lows q) (view_of c.args.seat.now) (view_of c.past_bare-next.new.seat))
    → (q : ℕ) → c.first_open-begin.result ≤ q → q < c.past_full_once-end.result → RestsAt (table_limits c.args.self.now.words) c.args.who.stage q (slice_index c.past_full_once-end.new.lows q) (view_of c.args.seat.now) (view_of c.past_full_once-end.new.seat)
rests_more c bare old = let l : Limits = table_limits c.args.self.now.words in let r = c.past_bare-next.result.part in
    parts_both l c.args.who.stage c.first_open-begin.result r c.past_full_once-end.result _ _ (OfPart l (PassedBy l c.args.who.stage)) _ c.past_full_once-end.new.lows _ _ _ bare c.past_full_once-end.ensures.goes.few.walk
    (λ q low high. subst (λ z. RestsAt l c.args.who.stage q z (view_of c.args.seat.now) (view_of c.past_bare-next.new.seat)) (sym (c.past_full_once-end.ensures.goes.others q (inl high))) (old q low high)) c.past_full_once-end.ensures.goes.rests

-- no mark from that part on is remembered anew
rest_more : (c : After-past_full_once-end) (q : ℕ) → c.past_full_once-end.result ≤ q → slice_index c.past_full_once-end.new.lows q ≡ slice_index c.args.lows.now q
rest_more c q low = let a = c.past_bare-next.ensures.part.0 in let b = c.past_full_once-end.ensures.goes.part.0 in c.past_full_once-end.ensures.goes.others q (inr low) ∙ c.loop-part.invariant.rest q (omega arith)

-- and those before the first that was looked at are finished still
done_more : (c : After-past_full_once-end) (q : ℕ) → q < c.first_open-begin.result → slice_index c.past_full_once-end.new.lows q ≡ (table_limits c.args.self.now.words).rows
done_more c q less = let a = c.past_bare-next.ensures.part.0 in let from = c.loop-part.invariant.from in c.past_full_once-end.ensures.goes.others q (inl (omega arith)) ∙ c.loop-part.invariant.done q less

pub loop-part-init : goal.loop-part-init
loop-part-init c = record {
  same = refl;
  remembers = c.requires.remembers;
  gaps = c.requires.gaps;
  rises = rises_none c.args.lows.now;
  from = omega arith;
  top = let part = c.first_open-begin.ensures.part in omega arith;
  rest = λ q low. refl;
  done = λ q less. c.first_open-begin.ensures.finished q less;
  rests = λ q low high. absurd (omega arith);
  lean = lean_from (table_limits c.args.self.now.words) c.args.who.stage _ _ _ c.args.lows.now (view_of c.args.seat.now);
  begun = inl (refl, refl);
}

-- all parts that are left were bare
pub returns-then-part-limits-clause-remembers : goal.returns-then-part-limits-clause-remembers
returns-then-part-limits-clause-remembers c = remembers_kind c.args.who.stage c.loop-part.lows _ _ _ _ _ (gone (goal.at.returns-then-part-limits-clause-remembers c).After-past_bare-next).walk c.loop-part.invariant.remembers

pub returns-then-part-limits-clause-gaps : goal.returns-then-part-limits-clause-gaps
returns-then-part-limits-clause-gaps c = gaps_kind c.args.who.stage c.loop-part.gaps _ _ _ _ _ (gone (goal.at.returns-then-part-limits-clause-gaps c).After-past_bare-next).walk c.loop-part.invariant.gaps

pub returns-then-part-limits-clause-rests : goal.returns-then-part-limits-clause-rests
returns-then-part-limits-clause-rests c = λ p inside came. let l : Limits = table_limits c.args.self.now.words in let at = (goal.at.returns-then-part-limits-clause-rests c).After-past_bare-next in
    let count : l.parts ≡ c.args.self.now.places.limits.parts = ap (λ (z : Limits). z.parts) c.args.self.now.same in let end = c.if-part-limits.true in
    dite (dec_le c.first_open-begin.result p) (λ low. rests at p low (omega arith)) (λ not. inl (c.loop-part.invariant.done p (omega arith)))

pub returns-then-part-limits-clause-lean : goal.returns-then-part-limits-clause-lean
returns-then-part-limits-clause-lean c = let l : Limits = table_limits c.args.self.now.words in let at = (goal.at.returns-then-part-limits-clause-lean c).After-past_bare-next in let n = c.loop-part.part in let r = c.past_bare-next.result.part in let lows = c.args.lows.now in
    let count : l.parts ≡ c.args.self.now.places.limits.parts = ap (λ (z : Limits). z.parts) c.args.self.now.same in let end = c.if-part-limits.true in let more = left at in let most = looks_most c.loop-part.tried in let before = c.loop-part-test.true in let up = c.past_bare-next.ensures.part.0 in
    let whole : parts_left l lows r ≡ parts_left l lows l.parts = ap (parts_left l lows) (omega arith) in
    lean_skip l c.args.who.stage (3 * parts_left l lows n + 2 * (n + 1 - l.parts) + looks_if c.loop-part.tried) n (r - n + 1) (3 * (parts_left l lows l.parts + 1)) l.parts (part_rows l) lows _ _ _ _ (omega arith) (omega arith) c.loop-part.invariant.lean (gone at).walk

pub returns-then-part-limits-clause-told : goal.returns-then-part-limits-clause-told
returns-then-part-limits-clause-told c = let l : Limits = table_limits c.args.self.now.words in let s = try_steps in let P = PassedBy l c.args.who.stage in let at = (goal.at.returns-then-part-limits-clause-told c).After-past_bare-next in let n = c.loop-part.part in let r = c.past_bare-next.result.part in let lows = c.args.lows.now in
    let count : l.parts ≡ c.args.self.now.places.limits.parts = ap (λ (z : Limits). z.parts) c.args.self.now.same in let end = c.if-part-limits.true in let before = c.loop-part-test.true in
    let first = c.first_open-begin.result in let within = c.first_open-begin.ensures.part in let from = c.loop-part.invariant.from in let up = c.past_bare-next.ensures.part.0 in
    let same : r ≡ l.parts = omega arith in let some = c.args.self.now.words.places.valid.rows.0 in let apart = scan_apart l lows s 3 n l.parts (omega arith) in let k : ℕ = scan_steps l s 3 lows n + (r - n + 1) in
    sought_few l k (scan_steps l s 3 lows l.parts) _ _ _ (omega arith)
    (sought_all l k P _ _ (finished_passed l c.args.who.stage k first lows _ _ c.args.who.valid.0.0 some c.requires.remembers c.first_open-begin.ensures.finished
    (subst (λ m. Sought l k (EachRow (OfPart l P) first m) (view_of c.args.seat.now) (view_of c.past_bare-next.new.seat)) same
    (begun_done l (OfPart l P) (part_widens l P (passed_widens l c.args.who.stage)) k first r _ _ (begun at) (omega arith)))))

-- a part that the pass knows finished: it isn't the first of those that are looked at
pub loop-part-preserved-then-part-last : goal.loop-part-preserved-then-part-last
loop-part-preserved-then-part-last c = let l : Limits = table_limits c.args.self.now.words in let n = c.loop-part.part in let s = try_steps in let i = c.loop-part.invariant in let lows = c.args.lows.now in
    let count : l.parts ≡ c.args.self.now.places.limits.parts = ap (λ (z : Limits). z.parts) c.args.self.now.same in let wide : l.rows ≡ c.args.self.now.places.limits.rows = ap (λ (z : Limits). z.rows) c.args.self.now.same in
    let finished : slice_index c.loop-part.lows n ≡ l.rows = c.if-lows-part.true ∙ sym wide in let first = c.first_open-begin.result in let from = i.from in let below = c.loop-part-test.true in record {
      same = i.same;
      remembers = i.remembers;
      gaps = i.gaps;
      rises = i.rises;
      from = omega arith;
      top = omega arith;
      rest = λ q low. i.rest q (omega arith);
      done = i.done;
      rests = λ q low high. dite (dec_le n q)
          (λ at. let same : n ≡ q = omega arith in inl (subst (λ z. slice_index c.loop-part.lows z ≡ l.rows) same finished))
          (λ not. i.rests q low (omega arith));
      lean = let rise = parts_rise l lows n (n + 1) (omega arith) in lean_parts l c.args.who.stage (3 * parts_left l lows n + 2 * (n + 1 - l.parts) + looks_if c.loop-part.tried) n _ (n + 1) (part_rows l) lows _ _ (omega arith) (omega arith) i.lean;
      begun = ⊎_elim
          (λ t. absurd (let at = t.0 in let more = c.if-part-last.true in c.first_open-begin.ensures.open (omega arith) (subst (λ z. slice_index lows z ≡ l.rows) at (sym (i.rest n (omega arith)) ∙ finished))))
          (λ sought. inr (sought_few l (scan_steps l s 3 lows n) (scan_steps l s 3 lows (n + 1)) _ _ _ (scan_rises l lows s 3 n (n + 1) (omega arith))
          (finished_on l c.args.who.stage (scan_steps l s 3 lows n) first n c.loop-part.lows _ _ c.args.who.valid.0.0 c.args.self.now.words.places.valid.rows.0 i.remembers finished sought))) i.begun;
    }

-- nor is one that is found behind bare ones
pub loop-part-preserved-then-part-last-2 : goal.loop-part-preserved-then-part-last-2
loop-part-preserved-then-part-last-2 c = let l : Limits = table_limits c.args.self.now.words in let P = PassedBy l c.args.who.stage in let at = (goal.at.loop-part-preserved-then-part-last-2 c).After-past_bare-next in let n = c.loop-part.part in let r = c.past_bare-next.result.part in let s = try_steps in let i = c.loop-part.invariant in let lows = c.args.lows.now in
    let count : l.parts ≡ c.args.self.now.places.limits.parts = ap (λ (z : Limits). z.parts) c.args.self.now.same in let wide : l.rows ≡ c.args.self.now.places.limits.rows = ap (λ (z : Limits). z.rows) c.args.self.now.same in
    let finished : slice_index c.loop-part.lows r ≡ l.rows = c.if-lows-part-2.true ∙ sym wide in let first = c.first_open-begin.result in let from = i.from in let up = c.past_bare-next.ensures.part.0 in let high = c.past_bare-next.ensures.part.1 in let not_end = c.if-part-limits.false in let below = c.loop-part-test.true in
    let still = remembers_kind c.args.who.stage c.loop-part.lows _ _ _ _ _ (gone at).walk i.remembers in let k : ℕ = scan_steps l s 3 lows n + (r - n + 1) in record {
      same = search rules;
      remembers = still;
      gaps = gaps_kind c.args.who.stage c.loop-part.gaps _ _ _ _ _ (gone at).walk i.gaps;
      rises = i.rises;
      from = omega arith;
      top = omega arith;
      rest = λ q low. i.rest q (omega arith);
      done = i.done;
      rests = λ q low below_q. dite (dec_le r q)
          (λ here. let same : r ≡ q = omega arith in inl (subst (λ z. slice_index c.loop-part.lows z ≡ l.rows) same finished))
          (λ not. rests at q low (omega arith));
      lean = let more = left at in let rise = parts_rise l lows r (r + 1) (omega arith) in ⊎_elim
          (λ a. lean_skip l c.args.who.stage (3 * parts_left l lows n + 2 * (n + 1 - l.parts) + looks_if c.loop-part.tried) n (r - n) _ (r + 1) (part_rows l) lows _ _ _ _ (omega arith) (omega arith) i.lean a.walk)
          (λ a. absurd (a.1 finished)) c.past_bare-next.ensures.few;
      begun = ⊎_elim
          (λ t. absurd (let same = t.0 in let more = c.if-part-last-2.true in c.first_open-begin.ensures.open (omega arith) (subst (λ z. slice_index lows z ≡ l.rows) same (sym (i.rest r up) ∙ finished))))
          (λ sought. inr (sought_few l k (scan_steps l s 3 lows (r + 1)) _ _ _ (let apart = scan_apart l lows s 3 n (r + 1) (omega arith) in omega arith)
          (finished_on l c.args.who.stage k first r c.loop-part.lows _ _ c.args.who.valid.0.0 c.args.self.now.words.places.valid.rows.0 still finished sought))) (begun at);
    }

pub past_full_once-end-requires-clause-remembers : goal.past_full_once-end-requires-clause-remembers
past_full_once-end-requires-clause-remembers c = remembers_kind c.args.who.stage c.loop-part.lows _ _ _ _ _ (gone (goal.at.past_full_once-end-requires-clause-remembers c).After-past_bare-next).walk c.loop-part.invariant.remembers

-- parts that are full of other stages are passed, and the first of them has a row for the look at it
pub loop-part-preserved-then-end-part : goal.loop-part-preserved-then-end-part
loop-part-preserved-then-end-part c = let l : Limits = table_limits c.args.self.now.words in let P = PassedBy l c.args.who.stage in let at = goal.at.loop-part-preserved-then-end-part c in let bare = at.After-past_bare-next in let once = at.After-past_full_once-end in
    let n = c.loop-part.part in let r = c.past_bare-next.result.part in let e = c.past_full_once-end.result in let s = try_steps in let i = c.loop-part.invariant in let lows = c.args.lows.now in let count : l.parts ≡ c.args.self.now.places.limits.parts = ap (λ (z : Limits). z.parts) c.args.self.now.same in
    let up = c.past_bare-next.ensures.part.0 in let on = c.past_full_once-end.ensures.goes.part.0 in let high = c.past_full_once-end.ensures.goes.part.1 in let from = i.from in let further_on : r < e = (let other = c.if-end-part.true in omega arith) in
    let has_rows : slice_index lows r ≢ l.rows = (λ same. c.past_full_once-end.ensures.goes.left r (omega arith) further_on (i.rest r up ∙ same)) in
    let st = c.requires.steady.steady in let inside = lows_inside l lows c.args.who.stage (view_of c.args.seat.now) st.pass.1 st.known c.requires.remembers r (omega arith) in
    let some = at_least (l.rows - slice_index lows r) (omega arith) in let first = left bare in let once_more = c.past_full_once-end.ensures.once.0 in
    let rest = parts_all l lows r e on (λ q low less same. c.past_full_once-end.ensures.goes.left q low less (i.rest q (omega arith) ∙ same)) in record {
      same = search rules;
      remembers = c.past_full_once-end.ensures.remembers;
      gaps = gaps_kind c.args.who.stage c.loop-part.gaps _ _ _ _ _ (further once _ (gone bare)).walk i.gaps;
      rises = rises_then lows c.loop-part.lows c.past_full_once-end.new.lows i.rises c.past_full_once-end.ensures.goes.rises;
      from = omega arith;
      top = omega arith;
      rest = rest_more once;
      done = done_more once;
      rests = rests_more once (begun bare) (rests bare);
      lean = let top = rows_more r l.parts l.rows (omega arith) in lean_left l c.args.who.stage (3 * parts_left l lows n + 2 * (n + 1 - l.parts) + looks_if c.loop-part.tried) n _ _ r e (part_rows l) lows _ _ _ _ (omega arith) up further_on (omega arith) (omega arith) i.lean (further once _ (gone bare)).walk;
      begun = begun_few l (OfPart l P) (part_widens l P (passed_widens l c.args.who.stage)) _ c.first_open-begin.result _ e _ _ (let a = scan_apart l lows s 3 n r up in let b = scan_left l lows s 3 r e further_on in let most = c.past_full_once-end.ensures.once.1 in let aside = looks_most c.past_bare-next.result.aside in omega arith) (begun_more once (begun bare));
    }

pub scan_part-requires-clause-remembers : goal.scan_part-requires-clause-remembers
scan_part-requires-clause-remembers c = c.past_full_once-end.ensures.remembers

pub scan_part-requires-clause-gaps : goal.scan_part-requires-clause-gaps
scan_part-requires-clause-gaps c = let at = goal.at.scan_part-requires-clause-gaps c in gaps_kind c.args.who.stage c.loop-part.gaps _ _ _ _ _ (further at.After-past_full_once-end _ (gone at.After-past_bare-next)).walk c.loop-part.invariant.gaps

pub scan_part-requires-clause-aside : goal.scan_part-requires-clause-aside
scan_part-requires-clause-aside c = λ yes. let at = goal.at.scan_part-requires-clause-aside c in let l : Limits = table_limits c.args.self.now.words in let r = c.past_bare-next.result.part in let a = c.past_bare-next.ensures.aside yes in let low = slice_index c.loop-part.lows r in
    let same : low ≡ slice_index c.past_full_once-end.new.lows r = sym (c.past_full_once-end.ensures.goes.others r (inr (let is = c.if-end-part.false in omega arith))) in
    subst (λ n. (n < l.rows) × Rose c.args.who.stage (view_of c.past_full_once-end.new.seat) (r * l.rows + n) (r * l.rows + n + 1)) same
    (a.0, rose_later l c.args.who.stage (view_of c.past_bare-next.new.seat) (view_of c.past_full_once-end.new.seat) _ _ (goes_walked l _ _ _ _ (gone at.After-past_bare-next).walk.steady.pass.1 c.past_full_once-end.ensures.goes.few.walk) a.1)

pub scan_part-requires-clause-done : goal.scan_part-requires-clause-done
scan_part-requires-clause-done c = let at = goal.at.scan_part-requires-clause-done c in let l : Limits = table_limits c.args.self.now.words in
    done_walked _ _ _ _ _ c.args.who.done c.requires.steady.steady.pass.1 (looked_then l _ _ _ _ _ (all at.After-past_bare-next) c.past_full_once-end.ensures.goes.few).walk c.requires.done

-- the part has rows left, or it is the last one
enough : (c : After-scan_part) → c.past_full_once-end.result ≡ c.past_bare-next.result.part
    → parts_left (table_limits c.args.self.now.words) c.args.lows.now c.loop-part.part + (c.past_bare-next.result.part - c.loop-part.part) ≤ parts_left (table_limits c.args.self.now.words) c.args.lows.now c.past_bare-next.result.part
    → slice_index c.loop-part.lows c.past_bare-next.result.part ≡ slice_index c.args.lows.now c.past_bare-next.result.part
    → let l : Limits = table_limits c.args.self.now.words in let n = c.loop-part.part in let r = c.past_bare-next.result.part in let lows = c.args.lows.now in let v = view_of c.loop-part.seat in let w = view_of c.past_bare-next.new.seat in
    (looks : ℕ) × Looked l looks v w × ((3 * parts_left l lows n + 2 * (n + 1 - l.parts) + looks_if c.loop-part.tried) + looks + (looks_if c.past_full_once-end.new.tried - looks_if c.loop-part.tried) + 2 ≤ 3 * parts_left l lows (r + 1) + 2 * (r + 2 - l.parts) + looks_if c.past_full_once-end.new.tried)
enough c is several kept = let l : Limits = table_limits c.args.self.now.words in let n = c.loop-part.part in let r = c.past_bare-next.result.part in let lows = c.args.lows.now in let count : l.parts ≡ c.args.self.now.places.limits.parts = ap (λ (z : Limits). z.parts) c.args.self.now.same in
    let wide : l.rows ≡ c.args.self.now.places.limits.rows = ap (λ (z : Limits). z.rows) c.args.self.now.same in let rise = parts_rise l lows r (r + 1) (omega arith) in let before = c.loop-part-test.true in let up = c.past_bare-next.ensures.part.0 in let once = c.past_full_once-end.ensures.once.0 in
    ⊎_elim
    (λ a. (
      r - n,
      a,
      elim c.else-lows-part-2.branch [
        | else-lows-part-2-via-then-lows-part-2+else-part-last-2 w ↦ (let last = w.if-part-last-2.false in omega arith)
        | else-lows-part-2-via-else-lows-part-2 w ↦ (let one = parts_more l lows r (λ same. w.if-lows-part-2.false (kept ∙ (same ∙ wide))) in omega arith)
      ],
    ))
    (λ a. (r - n + 1, a.2, let one = parts_more l lows r (λ same. a.1 (kept ∙ same)) in omega arith)) c.past_bare-next.ensures.few

-- what is made in the parts so far, and in this one up to row e
lean : (c : After-scan_part) (e end : ℕ) → c.past_bare-next.result.part * (table_limits c.args.self.now.words).rows ≤ end → e ≤ end → e ≤ c.past_bare-next.result.part * (table_limits c.args.self.now.words).rows + (table_limits c.args.self.now.words).rows
    → c.past_full_once-end.result ≡ c.past_bare-next.result.part
    → parts_left (table_limits c.args.self.now.words) c.args.lows.now c.loop-part.part + (c.past_bare-next.result.part - c.loop-part.part) ≤ parts_left (table_limits c.args.self.now.words) c.args.lows.now c.past_bare-next.result.part
    → slice_index c.loop-part.lows c.past_bare-next.result.part ≡ slice_index c.args.lows.now c.past_bare-next.result.part
    → slice_index c.past_full_once-end.new.lows c.past_bare-next.result.part ≡ slice_index c.args.lows.now c.past_bare-next.result.part
    → IsLeanAt (table_limits c.args.self.now.words) c.args.who.stage 2 (c.past_bare-next.result.part * (table_limits c.args.self.now.words).rows + slice_index c.past_full_once-end.new.lows c.past_bare-next.result.part) (e - (c.past_bare-next.result.part * (table_limits c.args.self.now.words).rows + slice_index c.past_full_once-end.new.lows c.past_bare-next.result.part)) (view_of c.past_full_once-end.new.seat) (view_of c.scan_part.new.seat)
    → IsLeanIn (table_limits c.args.self.now.words) c.args.who.stage (3 * parts_left (table_limits c.args.self.now.words) c.args.lows.now (c.past_bare-next.result.part + 1) + 2 * (c.past_bare-next.result.part + 2 - (table_limits c.args.self.now.words).parts) + looks_if c.past_full_once-end.new.tried) c.args.lows.now (c.past_bare-next.result.part + 1) end (view_of c.args.seat.now) (view_of c.scan_part.new.seat)
lean c e end behind before inside is several kept still own = let l : Limits = table_limits c.args.self.now.words in let n = c.loop-part.part in let r = c.past_bare-next.result.part in let i = c.loop-part.invariant in let lows = c.args.lows.now in let up = c.past_bare-next.ensures.part.0 in
    let t = enough c is several kept in let spent = looks_if c.past_full_once-end.new.tried - looks_if c.loop-part.tried in
    let both : Looked l (t.0 + spent) (view_of c.loop-part.seat) (view_of c.past_full_once-end.new.seat) = looked_few l _ _ _ _ (omega arith) (looked_then l t.0 _ _ _ _ t.1 c.past_full_once-end.ensures.goes.few) in
    lean_part l c.args.who.stage ((3 * parts_left l lows n + 2 * (n + 1 - l.parts) + looks_if c.loop-part.tried) + t.0 + spent) r 2 _ (slice_index c.past_full_once-end.new.lows r) (part_rows l) end e lows _ _ _ t.2 still behind before inside
    (lean_skip l c.args.who.stage (3 * parts_left l lows n + 2 * (n + 1 - l.parts) + looks_if c.loop-part.tried) n (t.0 + spent) ((3 * parts_left l lows n + 2 * (n + 1 - l.parts) + looks_if c.loop-part.tried) + t.0 + spent) r (part_rows l) lows _ _ _ _ (omega arith) up i.lean both.walk) own

pub returns-in-Some-clause-lean : goal.returns-in-Some-clause-lean
returns-in-Some-clause-lean c = let l : Limits = table_limits c.args.self.now.words in let at = goal.at.returns-in-Some-clause-lean c in let bare = at.After-past_bare-next in let r = c.past_bare-next.result.part in let high = c.past_bare-next.ensures.part.1 in let not_end = c.if-part-limits.false in
    let count : l.parts ≡ c.args.self.now.places.limits.parts = ap (λ (z : Limits). z.parts) c.args.self.now.same in let is = c.if-end-part.false in let most = looks_most c.past_full_once-end.new.tried in
    let id : ℕ = c.in-Some.taken.element.id in let low = c.in-Some.ensures.told.0.reach in let inside = c.in-Some.ensures.inside in let rise = parts_rise l c.args.lows.now (r + 1) l.parts (omega arith) in
    lean_parts l c.args.who.stage (3 * parts_left l c.args.lows.now (r + 1) + 2 * (r + 2 - l.parts) + looks_if c.past_full_once-end.new.tried) (r + 1) (3 * (parts_left l c.args.lows.now l.parts + 1)) l.parts (id + 1) c.args.lows.now _ _ (omega arith) (omega arith)
    (lean at.After-scan_part (id + 1) (id + 1) (omega arith) (omega arith) (omega arith) is (left bare) (c.loop-part.invariant.rest r c.past_bare-next.ensures.part.0) (rest_more at.After-past_full_once-end r (omega arith)) c.in-Some.ensures.lean)

pub returns-in-Some-clause-lows : goal.returns-in-Some-clause-lows
returns-in-Some-clause-lows c = rises_then c.args.lows.now c.loop-part.lows c.scan_part.new.lows c.loop-part.invariant.rises (rises_then c.loop-part.lows c.past_full_once-end.new.lows c.scan_part.new.lows c.past_full_once-end.ensures.goes.rises c.scan_part.ensures.lows.0)

pub returns-in-Some-clause-told : goal.returns-in-Some-clause-told
returns-in-Some-clause-told c = let l : Limits = table_limits c.args.self.now.words in let s = try_steps in let P = PassedBy l c.args.who.stage in let at = (goal.at.returns-in-Some-clause-told c).After-past_full_once-end in let bare = (goal.at.returns-in-Some-clause-told c).After-past_bare-next in let n = c.loop-part.part in let r = c.past_bare-next.result.part in let i = c.loop-part.invariant in let lows = c.args.lows.now in
    let count : l.parts ≡ c.args.self.now.places.limits.parts = ap (λ (z : Limits). z.parts) c.args.self.now.same in let t = c.in-Some.taken in let first = c.first_open-begin.result in let up = c.past_bare-next.ensures.part.0 in let high = c.past_bare-next.ensures.part.1 in let not_end = c.if-part-limits.false in let from = i.from in let is = c.if-end-part.false in let once = c.past_full_once-end.ensures.once in
    let apart = scan_apart l lows s 3 n r up in let next = scan_next l lows s 3 r in let rise = scan_rises l lows s 3 (r + 1) l.parts (omega arith) in let spent = looks_if c.past_full_once-end.new.tried - looks_if c.loop-part.tried in let k : ℕ = scan_steps l s 3 lows n + (r - n + 1) + (3 * (c.past_full_once-end.result - r) + spent) in let m : ℕ = 2 + (l.rows - slice_index lows r) * s - looks_if c.past_bare-next.result.aside in (
      took_few l c.args.who.stage c.args.who.unit t.attempt t.element (k + m) (scan_steps l s 3 lows l.parts) 0 _ _ (let aside = looks_most c.past_bare-next.result.aside in omega arith)
          (finished_took l c.args.who.stage c.args.who.unit t.attempt t.element (k + m) first lows (view_of c.args.seat.now) (view_of c.scan_part.new.seat) c.args.who.valid.0.0 c.args.self.now.words.places.valid.rows.0 c.requires.remembers c.first_open-begin.ensures.finished
          (took_then l c.args.who.stage c.args.who.unit t.attempt t.element k m (first * l.rows) (r * l.rows) (view_of c.args.seat.now) (view_of c.past_full_once-end.new.seat) (view_of c.scan_part.new.seat) (mul-le-mul_right l.rows (omega arith))
          (begun_rows l P k first r _ _ (begun_here at (begun bare) is))
          (subst (λ z. Took l (2 + (l.rows - z) * s - looks_if c.past_bare-next.result.aside) (r * l.rows) c.args.who.stage c.args.who.unit (view_of c.past_full_once-end.new.seat) (view_of c.scan_part.new.seat) t.element t.attempt) (rest_more at r (omega arith)) c.in-Some.ensures.told.0))),
      c.in-Some.ensures.told.1,
    )

pub returns-in-Some-clause-rests : goal.returns-in-Some-clause-rests
returns-in-Some-clause-rests c = λ p inside came. let l : Limits = table_limits c.args.self.now.words in let at = (goal.at.returns-in-Some-clause-rests c).After-past_full_once-end in let bare = (goal.at.returns-in-Some-clause-rests c).After-past_bare-next in let r = c.past_bare-next.result.part in let i = c.loop-part.invariant in let first = c.first_open-begin.result in let from = i.from in let up = c.past_bare-next.ensures.part.0 in let is = c.if-end-part.false in
    let near = part_before l.rows p r c.in-Some.taken.element.id c.in-Some.ensures.inside came in
    dite (dec_le first p)
    (λ past. parts_on l c.args.who.stage first r _ _ (OfPart l (PassedBy l c.args.who.stage)) _ c.past_full_once-end.new.lows c.scan_part.new.lows _ _ _ (begun_here at (begun bare) is) c.in-Some.ensures.told.0.walk (λ q low high. rests_more at (begun bare) (rests bare) q low (omega arith)) c.scan_part.ensures.rests c.scan_part.ensures.lows.1 p past near)
    (λ not. inl (c.scan_part.ensures.lows.1 p (λ same. absurd (omega arith)) ∙ done_more at p (omega arith)))

pub returns-clause-rests : goal.returns-clause-rests
returns-clause-rests c = λ p inside came. let l : Limits = table_limits c.args.self.now.words in let i = c.loop-part.invariant in let first = c.first_open-begin.result in
    let count : l.parts ≡ c.args.self.now.places.limits.parts = ap (λ (z : Limits). z.parts) c.args.self.now.same in let past = c.loop-part-test.false in
    dite (dec_le first p) (λ low. i.rests p low (omega arith)) (λ not. inl (i.done p (omega arith)))

pub returns-in-Some-clause-inside : goal.returns-in-Some-clause-inside
returns-in-Some-clause-inside c = let l : Limits = table_limits c.args.self.now.words in let r = c.past_bare-next.result.part in let high = c.past_bare-next.ensures.part.1 in let not_end = c.if-part-limits.false in
    let count : l.parts ≡ c.args.self.now.places.limits.parts = ap (λ (z : Limits). z.parts) c.args.self.now.same in let all = rows_more r l.parts l.rows (omega arith) in let id = c.in-Some.ensures.inside in omega arith

pub loop-part-preserved : goal.loop-part-preserved
loop-part-preserved c = let l : Limits = table_limits c.args.self.now.words in let P = PassedBy l c.args.who.stage in let at = goal.at.loop-part-preserved c in let bare = at.After-past_bare-next in let once = at.After-past_full_once-end in let n = c.loop-part.part in let r = c.past_bare-next.result.part in let s = try_steps in let W = part_widens l P (passed_widens l c.args.who.stage) in let i = c.loop-part.invariant in let lows = c.args.lows.now in
    let count : l.parts ≡ c.args.self.now.places.limits.parts = ap (λ (z : Limits). z.parts) c.args.self.now.same in let up = c.past_bare-next.ensures.part.0 in let high = c.past_bare-next.ensures.part.1 in let not_end = c.if-part-limits.false in let from = i.from in let is = c.if-end-part.false in let few = c.past_full_once-end.ensures.once in
    let spent = looks_if c.past_full_once-end.new.tried - looks_if c.loop-part.tried in let k : ℕ = scan_steps l s 3 lows n + (r - n + 1) + (3 * (c.past_full_once-end.result - r) + spent) in let m : ℕ = 2 + (l.rows - slice_index lows r) * s - looks_if c.past_bare-next.result.aside in
    let here = begun_here once (begun bare) is in record {
      same = search rules;
      remembers = c.scan_part.ensures.remembers;
      gaps = c.scan_part.ensures.gaps;
      rises = rises_then lows c.loop-part.lows c.scan_part.new.lows i.rises (rises_then c.loop-part.lows c.past_full_once-end.new.lows c.scan_part.new.lows c.past_full_once-end.ensures.goes.rises c.scan_part.ensures.lows.0);
      from = omega arith;
      top = omega arith;
      rest = λ q low. c.scan_part.ensures.lows.1 q (λ same. absurd (omega arith)) ∙ rest_more once q (omega arith);
      done = λ q less. c.scan_part.ensures.lows.1 q (λ same. absurd (omega arith)) ∙ done_more once q less;
      rests = parts_on l c.args.who.stage c.first_open-begin.result r _ _ (OfPart l P) _ c.past_full_once-end.new.lows c.scan_part.new.lows _ _ _ here c.in_default.ensures.told.walk (λ q low less. rests_more once (begun bare) (rests bare) q low (omega arith)) c.scan_part.ensures.rests c.scan_part.ensures.lows.1;
      lean = let top = rows_more r l.parts l.rows (omega arith) in let same : r + 2 - l.parts ≡ r + 1 + 1 - l.parts = omega arith in
          subst (λ z. IsLeanIn l c.args.who.stage (3 * parts_left l lows (r + 1) + 2 * z + looks_if c.past_full_once-end.new.tried) lows (r + 1) (part_rows l) (view_of c.args.seat.now) (view_of c.scan_part.new.seat)) same
          (lean at.After-scan_part (r * l.rows + l.rows) (part_rows l) (omega arith) (omega arith) (omega arith) is (left bare) (i.rest r up) (rest_more once r (omega arith)) c.in_default.ensures.lean);
      begun = begun_few l (OfPart l P) W (k + m) c.first_open-begin.result _ (r + 1) _ _ (let apart = scan_apart l lows s 3 n r up in let next = scan_next l lows s 3 r in let aside = looks_most c.past_bare-next.result.aside in omega arith)
          (begun_on l (OfPart l P) W k c.first_open-begin.result m r _ _ _ here (r + 1) (omega arith)
          (subst (λ z. Sought l (2 + (l.rows - z) * s - looks_if c.past_bare-next.result.aside) (EachRow (OfPart l P) r (r + 1)) (view_of c.past_full_once-end.new.seat) (view_of c.scan_part.new.seat)) (rest_more once r (omega arith))
          (one_row l (OfPart l P) (2 + (l.rows - slice_index c.past_full_once-end.new.lows r) * s - looks_if c.past_bare-next.result.aside) r _ _ c.in_default.ensures.told)));
    }

pub returns-clause-told : goal.returns-clause-told
returns-clause-told c = let l : Limits = table_limits c.args.self.now.words in let s = try_steps in let P = PassedBy l c.args.who.stage in let n = c.loop-part.part in let i = c.loop-part.invariant in let lows = c.args.lows.now in
    let count : l.parts ≡ c.args.self.now.places.limits.parts = ap (λ (z : Limits). z.parts) c.args.self.now.same in let high = i.top in let low = c.loop-part-test.false in
    let first = c.first_open-begin.result in let within = c.first_open-begin.ensures.part in let from = i.from in
    let all : n ≡ l.parts = omega arith in let some = c.args.self.now.words.places.valid.rows.0 in
    sought_few l (scan_steps l s 3 lows n) (scan_steps l s 3 lows l.parts) _ _ _ (scan_rises l lows s 3 n l.parts (omega arith))
    (sought_all l (scan_steps l s 3 lows n) P _ _ (finished_passed l c.args.who.stage (scan_steps l s 3 lows n) first lows _ _ c.args.who.valid.0.0 some c.requires.remembers c.first_open-begin.ensures.finished
    (subst (λ m. Sought l (scan_steps l s 3 lows n) (EachRow (OfPart l P) first m) (view_of c.args.seat.now) (view_of c.loop-part.seat)) all
    (begun_done l (OfPart l P) (part_widens l P (passed_widens l c.args.who.stage)) (scan_steps l s 3 lows n) first n _ _ i.begun (omega arith)))))

-- the parts before the first that was looked at are finished still
pub returns-in-Some-clause-begins : goal.returns-in-Some-clause-begins
returns-in-Some-clause-begins c = let l : Limits = table_limits c.args.self.now.words in let first = c.first_open-begin.ensures in
    behind_rises l c.args.who.stage c.first_open-begin.result c.args.lows.now c.scan_part.new.lows (view_of c.scan_part.new.seat) c.in-Some.ensures.told.0.walk.steady c.scan_part.ensures.remembers
    (rises_then c.args.lows.now c.loop-part.lows c.scan_part.new.lows c.loop-part.invariant.rises (rises_then c.loop-part.lows c.past_full_once-end.new.lows c.scan_part.new.lows c.past_full_once-end.ensures.goes.rises c.scan_part.ensures.lows.0)) (first.part, first.finished)
