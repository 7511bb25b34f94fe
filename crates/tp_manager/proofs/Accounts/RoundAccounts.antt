-- How many steps an account and a cancel make, as round numbers.
use Rattle.std.proofs.Common.{◌≡◌, ℕ, ◌+◌, ◌*◌, ◌≤◌, arith, mul-le-mul_left, le-mul_of_pos_right}
use Rattle.tp_model.specs.declared.types.Limits.{Limits}
use Rattle.tp_model.specs.Steps.{AreLimits, rows_of, changes}
use Rattle.tp_manager.specs.Bounds.{account_steps, end_steps, family_cancel_steps, gather_steps}

-- there is a row for each pass
rows_enough : (l : Limits) → AreLimits l → l.parts * 1 ≤ l.parts * l.rows
rows_enough l valid = let some = valid.rows.0 in let all = le-mul_of_pos_right {m = l.rows} l.parts (omega arith) in omega arith

pub account_round : (l : Limits) → AreLimits l → (n : ℕ) → n ≤ l.parts → account_steps l n ≤ rows_of l * (2 * changes l.attempts + 10) + 2 * l.parts
account_round l valid n few = let enough = rows_enough l valid in let some = valid.parts.0 in omega arith

pub gather_round : (l : Limits) (n : ℕ) → 1 ≤ n → n ≤ l.parts → gather_steps l n + 1 ≡ 5 * n + 2 * l.parts
gather_round l n some few = omega arith

-- a kill at each element of a family
pub cancel_round : (l : Limits) (n : ℕ) → family_cancel_steps l n ≤ n * (8 * l.attempts + 7) + 1
cancel_round l n = let one : n * end_steps l ≤ n * (8 * l.attempts + 7) = mul-le-mul_left n (omega arith) in omega arith
