use Rattle.std.proofs.Common.{◌≡◌, ⊎_elim, ℕ, ◌+◌, ◌-◌, ◌*◌, ◌≤◌, slice_index, inl, inr, sym, ap, ◌∙◌, subst, rules, arith}
use mathlib.Core.Logic.{dite}
use native.Mathlib.Decide.{ℕ_discrete}
use Rattle.tp_model.specs.declared.types.Limits.{Limits}
use Rattle.tp_rule.specs.Views.{view_of}
use Rattle.tp_rule.specs.Tables.{table_limits}
use Rattle.tp_manager.specs.CallSteps.{Looked}
use Rattle.tp_manager.specs.Marks.{Rose}
use Rattle.tp_manager.proofs.Calls.CallSteps.{looked, looked_few, looked_then}
use Rattle.tp_manager.proofs.Marks.Lows.{lows_inside, rises_then}
use Rattle.tp_manager.proofs.Marks.Raises.{goes_walked, rose_both}
use Rattle.tp_manager.proofs.Marks.Useless.{rose_later}
use Rattle.tp_manager.proofs.manager.Shared.finish_parts.Goals as goal
use Rattle.tp_manager.proofs.manager.Shared.finish_parts.Goals.{After-low_at-mark}

-- the steps up to the load of the mark
since : (c : After-low_at-mark) → Looked (table_limits c.args.self.now.words) (2 * (c.loop-part.part - c.args.from) + 1) (view_of c.args.seat.now) (view_of c.low_at-mark.new.seat)
since c = let l : Limits = table_limits c.args.self.now.words in looked_then l _ 1 _ _ _ c.loop-part.invariant.few (looked l 1 _ _ c.low_at-mark.ensures.acted)

-- no row of the part is of use from the mark on
rose : (c : After-low_at-mark) → let l : Limits = table_limits c.args.self.now.words in Rose c.args.stage (view_of c.low_at-mark.new.seat) (c.loop-part.part * l.rows + c.low_at-mark.result) (c.loop-part.part * l.rows + l.rows)
rose c = let l : Limits = table_limits c.args.self.now.words in let n : ℕ = c.loop-part.part in let i = c.loop-part.invariant in let w = view_of c.low_at-mark.new.seat in let high = c.loop-part-test.true in let from = c.loop-part.auto.part in
    let old = rose_later l c.args.stage (view_of c.args.seat.now) w _ _ (goes_walked l _ _ _ _ c.requires.steady.steady.pass.1 (since c).walk) (c.requires.rose n from high) in
    let up = c.low_at-mark.ensures.lows.0 n in let kept = i.others n (inr (omega arith)) in let begin : ℕ = n * l.rows + slice_index c.low_at-mark.new.lows n in
    let top = lows_inside l c.low_at-mark.new.lows c.args.stage w c.low_at-mark.ensures.acted.walk.steady.pass.1 c.low_at-mark.ensures.acted.walk.steady.known c.low_at-mark.ensures.remembers n (let all = c.requires.parts.1 in omega arith) in
    rose_both l c.args.stage w (n * l.rows + c.low_at-mark.result) begin (n * l.rows + l.rows) c.low_at-mark.ensures.rose (omega arith, λ j low less. old.1 j (omega arith) less)

wide : (c : After-low_at-mark) → c.loop-part.part * (table_limits c.args.self.now.words).rows + (table_limits c.args.self.now.words).rows ≡ c.loop-part.part * c.args.self.now.places.limits.rows + c.args.self.now.places.limits.rows
wide c = ap (λ (z : Limits). c.loop-part.part * z.rows + z.rows) c.args.self.now.same

inside : (c : After-low_at-mark) → slice_index c.low_at-mark.new.lows c.loop-part.part ≤ (table_limits c.args.self.now.words).rows
inside c = let l : Limits = table_limits c.args.self.now.words in let high = c.loop-part-test.true in let all = c.requires.parts.1 in let s = c.low_at-mark.ensures.acted.walk.steady in
    lows_inside l c.low_at-mark.new.lows c.args.stage (view_of c.low_at-mark.new.seat) s.pass.1 s.known c.low_at-mark.ensures.remembers c.loop-part.part (omega arith)

pub raise_low-requires-clause-low : goal.raise_low-requires-clause-low
raise_low-requires-clause-low c = let at = (goal.at.raise_low-requires-clause-low c).After-low_at-mark in let l : Limits = table_limits c.args.self.now.words in let w = wide at in let top = inside at in let high = c.loop-part-test.true in let all = c.requires.parts.1 in
    ((λ part. omega arith, λ spare. absurd (omega arith)), omega arith, subst (Rose c.args.stage (view_of c.low_at-mark.new.seat) (c.loop-part.part * l.rows + c.low_at-mark.result)) w (rose at))

pub loop-part-preserved : goal.loop-part-preserved
loop-part-preserved c = let at = (goal.at.loop-part-preserved c).After-low_at-mark in let l : Limits = table_limits c.args.self.now.words in let n : ℕ = c.loop-part.part in let i = c.loop-part.invariant in let from = c.loop-part.auto.part in
    let w = wide at in let both = rises_then c.loop-part.lows c.low_at-mark.new.lows c.raise_low.new.lows c.low_at-mark.ensures.lows.0 c.raise_low.ensures.lows.0 in record {
      same = search rules;
      remembers = c.raise_low.ensures.remembers;
      finished = λ q low high. dite (ℕ_discrete q n) (λ is. let end = c.raise_low.ensures.rests in subst (λ z. slice_index c.raise_low.new.lows z ≡ l.rows) (sym is) (omega arith))
          (λ other. c.raise_low.ensures.lows.1 q other ∙ (c.low_at-mark.ensures.lows.1 q other ∙ i.finished q low (omega arith)));
      others = λ q out. let other : ¬ (q ≡ n) = (λ is. ⊎_elim (λ less. absurd (omega arith)) (λ more. absurd (omega arith)) out) in
          c.raise_low.ensures.lows.1 q other ∙ (c.low_at-mark.ensures.lows.1 q other ∙ i.others q (⊎_elim (λ less. inl less) (λ more. inr (omega arith)) out));
      rises = rises_then c.args.lows.now c.loop-part.lows c.raise_low.new.lows i.rises both;
      none = λ same. absurd (omega arith);
      few = looked_few l _ _ _ _ (omega arith) (looked_then l _ 1 _ _ _ (since at) c.raise_low.ensures.looked);
    }
