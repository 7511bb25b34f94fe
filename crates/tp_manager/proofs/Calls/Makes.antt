-- How many steps were made, whatever they did.
use Rattle.std.proofs.Common.{◌≡◌, ℕ, zero, suc, ◌+◌, ◌-◌, ◌*◌, ◌≤◌, List, length, slice_index, ap, ◌∙◌, arith, length-append, mul-le-mul_right}
use Rattle.tp_model.specs.declared.types.Limits.{Limits}
use Rattle.tp_model.specs.declared.trace.TraceEntry.{TraceEntry}
use Rattle.tp_rule.specs.Views.{hand}
use Rattle.tp_rule.specs.declared.view.View.{View}
use Rattle.tp_manager.specs.Bounds.{scan_steps}
use Rattle.tp_manager.specs.Shown.{NoneFalls}
use Rattle.tp_manager.specs.CallSteps.{StepsTo, Stepped}

module _ (l : Limits) (n : ℕ) (ms : List TraceEntry) (v w : View) (a : Stepped l n ms v w) where
  all : length (hand w).trace ≡ length (hand v).trace + length ms
  all = ap length a.traced ∙ length-append (hand v).trace ms

  pub made : StepsTo n v w
  made = let e = all in let few = a.few in omega arith

  -- steps of which there are fewer
  pub walked_made : (m : ℕ) → StepsTo m v w → Stepped l m ms v w
  walked_made m most = let e = all in record { traced = a.traced; few = omega arith; opens = a.opens; closes = a.closes; number = a.number; limits = a.limits; steady = a.steady; knows = a.knows }

pub made_then : (n m : ℕ) (v w x : View) → StepsTo n v w → StepsTo m w x → StepsTo (n + m) v x
made_then n m v w x a b = omega arith

pub made_few : (n m : ℕ) (v w : View) → n ≤ m → StepsTo n v w → StepsTo m v w
made_few n m v w le a = omega arith

-- a scan by higher marks takes no more steps
pub scan_less : (l : Limits) (t k : ℕ) (lows lows' : List ℕ) → NoneFalls lows lows' → (n : ℕ) → scan_steps l t k lows' n ≤ scan_steps l t k lows n
scan_less l t k lows lows' up zero = omega arith
scan_less l t k lows lows' up (suc n) = let rest = scan_less l t k lows lows' up n in let rise = up n in
    let one : (l.rows - slice_index lows' n) * t ≤ (l.rows - slice_index lows n) * t = mul-le-mul_right t (omega arith) in omega arith
