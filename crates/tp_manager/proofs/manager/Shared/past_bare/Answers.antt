use Rattle.std.proofs.Common.{◌≡◌, ◌+◌, ◌-◌, ◌*◌, ◌<◌, ◌≤◌, suc, inl, inr, ap, sym, ◌∙◌, refl, rules, arith, slice_index, subst, suc-mul}
use mathlib.Core.List.{IsPrefix}
use Rattle.tp_model.specs.declared.types.Limits.{Limits}
use Rattle.tp_model.proofs.Bridges.{begins_refl}
use Rattle.tp_rule.specs.Steps.{Knows, MayBeBorn}
use Rattle.tp_rule.specs.Tables.{table_limits}
use Rattle.tp_rule.specs.declared.packing.Head.TheVariants.{Empty}
use Rattle.tp_rule.specs.Views.{view_of}
use Rattle.tp_manager.specs.CallSteps.{Acted, Looked}
use Rattle.tp_manager.specs.Marks.{RestsAt}
use Rattle.tp_manager.specs.Scans.{Begun, OfPart, PassedBy, Sought}
use Rattle.tp_manager.proofs.Marks.Lows.{lows_inside}
use Rattle.tp_manager.proofs.Marks.Raises.{remembered_passed, rose_aside, unconcerned, use_unborn}
use Rattle.tp_rule.specs.declared.view.Known.TheVariants.{RowHead}
use Rattle.tp_manager.proofs.Marks.Rests.{parts_both, parts_on}
use Rattle.tp_manager.proofs.Claims.Scans.{none_passed, passed_widens}
use Rattle.tp_manager.proofs.Rows.Seeks.{begun_few, begun_hit, begun_looked, begun_on, one_row, part_widens, sought_bare}
use Rattle.tp_manager.proofs.Calls.CallSteps.{looked, looked_then, remembers_kind, steps_in}
use Rattle.tp_manager.proofs.manager.Shared.past_bare.Goals as goal
use Rattle.tp_manager.proofs.manager.Shared.past_bare.Goals.{After-loop-part, After-first_head-found}

-- the looks at the parts before
since : (c : After-loop-part) → Looked (table_limits c.args.self.now.words) (c.loop-part.part - c.args.from) (view_of c.args.seat.now) (view_of c.loop-part.seat)
since c = let l : Limits = table_limits c.args.self.now.words in let P = PassedBy l c.args.stage in
    begun_looked l (OfPart l P) (part_widens l P (passed_widens l c.args.stage)) (c.loop-part.part - c.args.from) c.args.from c.loop-part.part _ _ c.loop-part.invariant.begun c.requires.steady.steady

before : (c : After-first_head-found) → Looked (table_limits c.args.self.now.words) (c.loop-part.part - c.args.from) (view_of c.args.seat.now) (view_of c.loop-part.seat)
before c = let l : Limits = table_limits c.args.self.now.words in let P = PassedBy l c.args.stage in
    begun_looked l (OfPart l P) (part_widens l P (passed_widens l c.args.stage)) (c.loop-part.part - c.args.from) c.args.from c.loop-part.part _ _ c.loop-part.invariant.begun c.requires.steady.steady

wide : (c : After-first_head-found) → (table_limits c.args.self.now.words).rows ≡ c.args.self.now.places.limits.rows
wide c = ap (λ (z : Limits). z.rows) c.args.self.now.same

-- where the part begins
starts : (c : After-first_head-found) → c.loop-part.first ≡ c.loop-part.part * (table_limits c.args.self.now.words).rows
starts c = c.loop-part.invariant.begins ∙ ap (λ (z : Limits). c.loop-part.part * z.rows) (sym c.args.self.now.same)

-- the part isn't known finished, so it was looked at
acted : (c : After-first_head-found) → ¬ (slice_index c.args.lows.now c.loop-part.part ≡ c.args.self.now.places.limits.rows) → Acted (table_limits c.args.self.now.words) 1 (view_of c.loop-part.seat) (view_of c.first_head-found.new.seat)
acted c not = c.first_head-found.ensures.acted

pub returns-then-low-limits-clause-few : goal.returns-then-low-limits-clause-few
returns-then-low-limits-clause-few c = let l : Limits = table_limits c.args.self.now.words in let P = PassedBy l c.args.stage in
    inl (begun_looked l (OfPart l P) (part_widens l P (passed_widens l c.args.stage)) (c.loop-part.part - c.args.from) c.args.from c.loop-part.part _ _ c.loop-part.invariant.begun c.requires.steady.steady)

pub returns-then-ne-clause-few : goal.returns-then-ne-clause-few
returns-then-ne-clause-few c = let l : Limits = table_limits c.args.self.now.words in let at = (goal.at.returns-then-ne-clause-few c).After-first_head-found in let w = wide at in
    inr (subst (λ (z : Limits). c.loop-part.part < z.parts) (sym c.args.self.now.same) c.loop-part-test.true, λ same. c.if-low-limits.false (same ∙ w), looked_then l _ 1 _ _ _ (before at) (looked l 1 _ _ (acted at c.if-low-limits.false)))

pub returns-then-ne-clause-told : goal.returns-then-ne-clause-told
returns-then-ne-clause-told c = let l : Limits = table_limits c.args.self.now.words in let P = PassedBy l c.args.stage in let at = (goal.at.returns-then-ne-clause-told c).After-first_head-found in
    inr (begun_hit l (OfPart l P) (part_widens l P (passed_widens l c.args.stage)) (c.loop-part.part - c.args.from) c.args.from 1 c.loop-part.part _ _ _ c.loop-part.invariant.begun (acted at c.if-low-limits.false))

pub returns-then-ne-clause-rests : goal.returns-then-ne-clause-rests
returns-then-ne-clause-rests c = let l : Limits = table_limits c.args.self.now.words in let P = PassedBy l c.args.stage in let at = (goal.at.returns-then-ne-clause-rests c).After-first_head-found in let n = c.loop-part.part in
    parts_both l c.args.stage c.args.from n n (n - c.args.from) 1 (OfPart l P) _ c.args.lows.now _ _ _ c.loop-part.invariant.begun (acted at c.if-low-limits.false).walk c.loop-part.invariant.rests (λ q low high. absurd (omega arith))

pub returns-then-ne-clause-aside : goal.returns-then-ne-clause-aside
returns-then-ne-clause-aside c = λ yes. let l : Limits = table_limits c.args.self.now.words in let at = (goal.at.returns-then-ne-clause-aside c).After-first_head-found in let gone = before at in let n = c.loop-part.part in let low = slice_index c.args.lows.now n in let w = view_of c.first_head-found.new.seat in
    let still = remembers_kind c.args.stage c.args.lows.now _ _ _ _ _ gone.walk c.requires.remembers in
    let inside = lows_inside l c.args.lows.now c.args.stage (view_of c.loop-part.seat) gone.walk.steady.pass.1 gone.walk.steady.known still n (subst (λ (z : Limits). n < z.parts) (sym c.args.self.now.same) c.loop-part-test.true) in
    let left = c.if-low-limits.false in let wd = wide at in let full : ¬ (c.first_head-found.result ≡ Empty) = search rules in let row : c.loop-part.first + low ≡ n * l.rows + low = ap (λ z. z + low) (starts at) in (
      omega arith,
      rose_aside l c.args.stage w (n * l.rows + low) (n * l.rows + low + 1) (n * l.rows + low) c.first_head-found.result (subst (λ z. Knows w (RowHead z c.first_head-found.result)) row c.first_head-found.ensures.knows)
          (λ of root by is. unconcerned l c.args.stage of c.requires.stage.0 (c.begins_leap.ensures yes of root by is)) (inr (refl, refl, full)),
    )

pub loop-part-preserved : goal.loop-part-preserved
loop-part-preserved c = let l : Limits = table_limits c.args.self.now.words in let P = PassedBy l c.args.stage in let W = part_widens l P (passed_widens l c.args.stage) in let at = (goal.at.loop-part-preserved c).After-first_head-found in let i = c.loop-part.invariant in let up = i.from in
    let n = c.loop-part.part in let v = view_of c.loop-part.seat in let w = view_of c.first_head-found.new.seat in let low = slice_index c.args.lows.now n in
    let empty : c.first_head-found.result ≡ Empty = search rules in let looked_at = c.first_head-found.ensures.acted in let none = c.first_head-found.ensures.bare empty in let e = starts at in let wd = wide at in let gone = before at in
    let still = remembers_kind c.args.stage c.args.lows.now _ _ _ _ _ gone.walk c.requires.remembers in
    let inside = lows_inside l c.args.lows.now c.args.stage v gone.walk.steady.pass.1 gone.walk.steady.known still n (subst (λ (z : Limits). n < z.parts) (sym c.args.self.now.same) c.loop-part-test.true) in let left = c.if-low-limits.false in
    let less : low < l.rows = omega arith in
    let one : Sought l 1 (OfPart l P n) v w = sought_bare l P (passed_widens l c.args.stage) (n * l.rows) (n * l.rows + low) (n * l.rows + l.rows) v w looked_at (none_passed l c.args.stage)
    (λ i from below. remembered_passed l c.args.stage c.args.lows.now n i _ _ v w c.requires.stage.0 still looked_at.walk from below) (λ i from below. none i (omega arith) (omega arith)) in
    let rest : RestsAt l c.args.stage n low v w = inr (
      w.seen,
      subst (λ z. IsPrefix z w.seen) (sym (steps_in l 1 _ v w looked_at.walk)) looked_at.walk.closes,
      begins_refl w.seen,
      use_unborn l c.args.stage (n * l.rows + low) w.seen (none (n * l.rows + low) (omega arith) (omega arith)) (subst (MayBeBorn l w.seen) (omega arith) (c.first_head-found.ensures.ahead empty)),
    ) in record {
      same = search rules;
      from = omega arith;
      begins = let is = i.begins in let next : suc n ≡ n + 1 = omega arith in subst (λ z. c.loop-part.first + c.args.self.now.places.limits.rows ≡ z * c.args.self.now.places.limits.rows) next (omega (arith, suc-mul n c.args.self.now.places.limits.rows));
      left = λ q from below same. search rules;
      rests = parts_on l c.args.stage c.args.from n (n - c.args.from) 1 (OfPart l P) _ c.args.lows.now c.args.lows.now _ _ _ i.begun looked_at.walk i.rests rest (λ q other. refl);
      begun = begun_few l (OfPart l P) W (n - c.args.from + 1) c.args.from (n + 1 - c.args.from) (n + 1) _ _ (omega arith) (begun_on l (OfPart l P) W (n - c.args.from) c.args.from 1 n _ _ _ i.begun (n + 1) up (one_row l (OfPart l P) 1 n v w one));
    }

pub returns-clause-few : goal.returns-clause-few
returns-clause-few c = let l : Limits = table_limits c.args.self.now.words in let past = c.loop-part-test.false in let fair : c.args.from ≤ c.args.self.now.places.limits.parts = subst (λ (z : Limits). c.args.from ≤ z.parts) c.args.self.now.same c.requires.from in let high = c.loop-part.auto.part-end in
    let same : c.loop-part.part ≡ c.args.self.now.places.limits.parts = omega arith in
    inl (subst (λ z. Looked l (z - c.args.from) (view_of c.args.seat.now) (view_of c.loop-part.seat)) same (since (goal.at.returns-clause-few c).After-loop-part))

pub returns-clause-told : goal.returns-clause-told
returns-clause-told c = let l : Limits = table_limits c.args.self.now.words in let P = PassedBy l c.args.stage in let past = c.loop-part-test.false in let fair : c.args.from ≤ c.args.self.now.places.limits.parts = subst (λ (z : Limits). c.args.from ≤ z.parts) c.args.self.now.same c.requires.from in let high = c.loop-part.auto.part-end in
    let same : c.loop-part.part ≡ c.args.self.now.places.limits.parts = omega arith in
    subst (λ z. Begun l (OfPart l P) (z - c.args.from + 1) c.args.from z (view_of c.args.seat.now) (view_of c.loop-part.seat)) same
    (begun_few l (OfPart l P) (part_widens l P (passed_widens l c.args.stage)) (c.loop-part.part - c.args.from) c.args.from (c.loop-part.part - c.args.from + 1) c.loop-part.part _ _ (omega arith) c.loop-part.invariant.begun)
