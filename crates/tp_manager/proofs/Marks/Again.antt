-- A stage that is claimed once more.
use Rattle.std.proofs.Common.{◌⊎◌, ℕ, zero, suc, ◌+◌, ◌*◌, ◌<◌, ◌≤◌, List, slice_index, sym, subst, inl, inr, ⊎_elim, arith, mul-le-mul_right}
use mathlib.Core.Logic.{dite}
use native.Mathlib.Decide.{dec_le, ℕ_discrete}
use Rattle.tp_model.specs.declared.types.Claimed.{Claimed}
use Rattle.tp_model.specs.declared.types.Limits.{Limits}
use Rattle.tp_model.specs.declared.types.TheConstants.{BLOCK_ROWS}
use Rattle.tp_model.specs.Steps.{part_rows}
use Rattle.tp_manager.specs.Bounds.{claim_steps_left, low_sum, rows_left, try_steps}
use Rattle.tp_manager.specs.Calls.{AtPoint, Follows}
use Rattle.tp_manager.specs.Raises.{CountsUseless, FewAgain, IsOfUse, RaisesMarks, WereUseless}
use Rattle.tp_manager.specs.Shown.{AllRise, PassShown, low_of, marks_of}

-- a mark that rests is after the rows that were of no use
behind : (l : Limits) (stage first n low top : ℕ) (old new : PassShown) → n ≤ top → (top ≤ low) ⊎ AtPoint old new (IsOfUse l stage (first + low)) → WereUseless l stage first (first + n) old new → n ≤ low
behind l stage first n low top old new inside rests none = ⊎_elim (λ end. omega arith)
    (λ was. dite (dec_le n low) (λ le. le) (λ not. absurd (none (first + low) (omega arith) (omega arith) was))) rests

-- this many rows and more are below the marks
sum_less : (ns lows : List ℕ) (n : ℕ) → ((p : ℕ) → p < n → slice_index ns p ≤ slice_index lows p) → low_sum ns n ≤ low_sum lows n
sum_less ns lows zero less = omega arith
sum_less ns lows (suc n) less = let rest = sum_less ns lows n (λ p low. less p (omega arith)) in let last = less n (omega arith) in omega arith

module _ (l : Limits) (stage : ℕ) (ns : List ℕ) (claimed : Claimed) (old mid again : PassShown) (raises : RaisesMarks l stage old mid claimed) (counts : CountsUseless l stage ns claimed old mid) (up : AllRise mid.lows again.lows) where
  in_part : (p : ℕ) → p < l.parts → slice_index ns p ≤ low_of mid stage p
  in_part p inside = dite (dec_le 1 (slice_index ns p))
      (λ some. (let c = counts.parts p inside some in behind l stage (p * l.rows) (slice_index ns p) (low_of mid stage p) l.rows old mid c.1
      (⊎_elim (λ end. inl (let e = end in omega arith)) (λ was. inr was) (raises.parts p inside c.0)) c.2))
      (λ none. omega arith)

  in_blocks : slice_index ns l.parts ≤ low_of mid stage l.parts
  in_blocks = dite (dec_le 1 (slice_index ns l.parts))
      (λ some. (let c = counts.blocks some in behind l stage (part_rows l) (slice_index ns l.parts) (low_of mid stage l.parts) (BLOCK_ROWS * mid.seen_blocks) old mid c.1 (raises.blocks c.0) c.2))
      (λ none. omega arith)

  each : (p : ℕ) → p < suc l.parts → slice_index ns p ≤ slice_index (marks_of again.lows stage) p
  each p inside = let rise = up stage p in dite (ℕ_discrete p l.parts)
      (λ at. (let below = subst (λ z. slice_index ns z ≤ low_of mid stage z) (sym at) in_blocks in omega arith))
      (λ other. (let below = in_part p (omega arith) in omega arith))

  fewer : claim_steps_left l (marks_of again.lows stage) ≤ claim_steps_left l ns
  fewer = let sum = sum_less ns (marks_of again.lows stage) (suc l.parts) each in
      let rows : rows_left l (marks_of again.lows stage) * try_steps ≤ rows_left l ns * try_steps = mul-le-mul_right try_steps (omega arith) in omega arith

-- where a call makes so few steps it makes no more than more
follows_most : (n m : ℕ) (old new : PassShown) → n ≤ m → Follows n old new → Follows m old new
follows_most n m old new le f = record {
  shows = f.shows;
  number = f.number;
  traced = f.traced;
  few = let few = f.few in omega arith;
  opened = f.opened;
  closed = f.closed;
  lows = f.lows;
  drawn = f.drawn;
}

pub again_few : (l : Limits) (stage : ℕ) → FewAgain l stage
again_few l stage ns claimed old mid again new raises counts up f = follows_most (claim_steps_left l (marks_of again.lows stage)) (claim_steps_left l ns) again new (fewer l stage ns claimed old mid again raises counts up) f
