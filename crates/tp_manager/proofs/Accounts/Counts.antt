-- How many numbers pass a test.
use Rattle.std.proofs.Common.{◌≡◌, ℕ, zero, suc, ◌<◌, ◌≤◌, ◌||◌, cond, Bool, true, false, sym, refl, subst, arith}
use mathlib.Core.Logic.{dite}
use native.Mathlib.Decide.{dec_le}
use Rattle.tp_manager.specs.Families.{count_below}

bit_le : (b c : Bool) → (b ≡ true → c ≡ true) → cond b 1 0 ≤ cond c 1 0
bit_le true true f = omega arith
bit_le true false f = let e = f refl in absurd cc
bit_le false true f = omega arith
bit_le false false f = omega arith

bit_most : (b : Bool) → cond b 1 0 ≤ 1
bit_most true = omega arith
bit_most false = omega arith

pub count_le : (f g : ℕ → Bool) (n : ℕ) → ((i : ℕ) → i < n → f i ≡ true → g i ≡ true) → count_below f n ≤ count_below g n
count_le f g zero sub = omega arith
count_le f g (suc n) sub =
    let rest = count_le f g n (λ i less. sub i (omega arith)) in
    let one = bit_le (f n) (g n) (sub n (omega arith)) in
    omega arith

pub count_most : (f : ℕ → Bool) (n : ℕ) → count_below f n ≤ n
count_most f zero = omega arith
count_most f (suc n) = let rest = count_most f n in let one = bit_most (f n) in omega arith

pub count_rises : (f : ℕ → Bool) (n m : ℕ) → n ≤ m → count_below f n ≤ count_below f m
count_rises f n zero le = let same : n ≡ zero = omega arith in subst (λ z. count_below f z ≤ 0) (sym same) (omega arith)
count_rises f n (suc m) le = dite (dec_le n m) (λ less. let rest = count_rises f n m less in omega arith)
    (λ not. let same : n ≡ suc m = omega arith in subst (λ z. count_below f z ≤ count_below f (suc m)) (sym same) (omega arith))

pub or_right : (p q : Bool) → q ≡ true → (p || q) ≡ true
or_right true q is = refl
or_right false q is = is

pub or_left : (p q : Bool) → p ≡ true → (p || q) ≡ true
or_left true q is = refl
or_left false q is = absurd cc
