-- The steps of births.
use Rattle.std.proofs.Common.{◌≡◌, ℕ, zero, suc, ◌+◌, ◌*◌, ◌≤◌, Result, Ok, Err, List, length, take, subst, arith}
use Rattle.std.proofs.Math.Nat.{add-mul, mul-le-mul_right, suc-mul}
use Rattle.std.proofs.lemmas.List.{length-take-le}
use Rattle.std.specs.Result.{IsErr}
use Rattle.tp_model.specs.declared.types.Limits.{Limits}
use Rattle.tp_manager.specs.Bounds.{claim_id_steps, commit_steps, gather_steps, submit_steps}
use Rattle.tp_manager.specs.Shown.{KeeperShown, PassShown}
use Rattle.tp_rollover.specs.Births.{born_of}
use Rattle.tp_rollover.specs.Bounds.{AllMake, bear_steps, commit_on_steps, gathered}
use Rattle.tp_rollover.specs.declared.survivors.Survivor.{Survivor}
use Rattle.tp_rollover.specs.declared.births.Group.{Group}
use Rattle.tp_rollover.specs.declared.stops.Stop.{Stop}

-- what comes once is less than what comes with each
shared : (n a b : ℕ) → a + suc n * b ≤ suc n * (a + b)
shared zero a b = let e = suc-mul 0 b in let f = suc-mul 0 (a + b) in omega (arith, e, f)
shared (suc n) a b = let e = suc-mul (suc n) b in let f = suc-mul (suc n) (a + b) in let rest = shared n a b in omega (arith, e, f, rest)

pub share : (n a b : ℕ) → 1 ≤ n → a + n * b ≤ n * (a + b)
share zero a b some = absurd (omega (arith, some))
share (suc n) a b some = shared n a b

-- what n cost, where a gathering costs so much
abbrev cost : Limits → ℕ → ℕ → ℕ
cost l g n = (submit_steps l + g) + ((claim_id_steps + g) + (commit_steps l (n + 1) + g))

-- those of a family that are born together take no more than each by itself
together : (l : Limits) (g n : ℕ) → 1 ≤ n → cost l g n ≤ n * cost l g 1
together l g n some =
    let a = l.spare + l.spare + 21 + 3 * g in
    let whole = subst (λ z. a + n * 6 ≤ n * z) (let e : a + 6 ≡ cost l g 1 = omega arith in e) (share n a 6 some) in
    omega (arith, whole)

pub born_together : (l : Limits) (q n : ℕ) → 1 ≤ n → bear_steps l q n ≤ n * bear_steps l q 1
born_together l q n some = together l (gather_steps l q) n some

-- more of them take more
pub up : (l : Limits) (q i n : ℕ) (k k' : KeeperShown) (ps qs : List PassShown) → i ≤ n → AllMake (i * bear_steps l q 1) k ps k' qs → AllMake (n * bear_steps l q 1) k ps k' qs
up l q i n k k' ps qs less made = more (i * bear_steps l q 1) (n * bear_steps l q 1) (mul-le-mul_right (bear_steps l q 1) less) made
  where
    more : (a b : ℕ) → a ≤ b → AllMake a k ps k' qs → AllMake b k ps k' qs
    more a b less made = omega (arith, less, made)

-- a carrier is there, or is made, and then n are born of it
module _ (l : Limits) (q : ℕ) (rest : List Survivor) (n : ℕ) (k k' k'' : KeeperShown) (ps qs rs : List PassShown) (some : 1 ≤ n) (inside : n ≤ length rest) where
  pub group_made : k'.given ≡ q → AllMake (gathered l q (submit_steps l)) k ps k' qs → AllMake (commit_on_steps l k'.given (length (take n rest) + 1)) k' qs k'' rs → AllMake (n * bear_steps l q 1) k ps k'' rs
  group_made given first second =
      let known = subst (λ z. AllMake (commit_on_steps l z (length (take n rest) + 1)) k' qs k'' rs) given second in
      let calls = subst (λ z. AllMake (commit_on_steps l q (z + 1)) k' qs k'' rs) (length-take-le n rest inside) known in
      let b = born_together l q n some in
      both (gathered l q (submit_steps l)) (commit_on_steps l q (n + 1)) (n * bear_steps l q 1) b first calls
    where
      both : (a b c : ℕ) → a + b ≤ c → AllMake a k ps k' qs → AllMake b k' qs k'' rs → AllMake c k ps k'' rs
      both a b c less first second = omega (arith, less, first, second)

  pub all_made : AllMake (n * bear_steps l q 1) k ps k'' rs → AllMake (length rest * bear_steps l q 1) k ps k'' rs
  all_made made = up l q n (length rest) k k'' ps rs inside made

  pub group_stopped : (result : Result Group Stop) → IsErr result → AllMake (n * bear_steps l q 1) k ps k'' rs → AllMake (born_of rest result * bear_steps l q 1) k ps k'' rs
  group_stopped (Ok g) is made = absurd cc
  group_stopped (Err e) is made = all_made made

-- i are born, and then n more of those that are left
module _ (l : Limits) (q i n : ℕ) (k k' k'' : KeeperShown) (ps qs rs : List PassShown) where
  pub born_on : k'.given ≡ q → AllMake (i * bear_steps l q 1) k ps k' qs → AllMake (n * bear_steps l k'.given 1) k' qs k'' rs → AllMake ((i + n) * bear_steps l q 1) k ps k'' rs
  born_on given calls more =
      let known = subst (λ z. AllMake (n * bear_steps l z 1) k' qs k'' rs) given more in
      let b = add-mul i n (bear_steps l q 1) in
      both (i * bear_steps l q 1) (n * bear_steps l q 1) ((i + n) * bear_steps l q 1) b calls known
    where
      both : (a b c : ℕ) → c ≡ a + b → AllMake a k ps k' qs → AllMake b k' qs k'' rs → AllMake c k ps k'' rs
      both a b c is first second = omega (arith, is, first, second)

  pub born_of_all : (all : ℕ) → i + n ≤ all → AllMake ((i + n) * bear_steps l q 1) k ps k'' rs → AllMake (all * bear_steps l q 1) k ps k'' rs
  born_of_all all few made = up l q (i + n) all k k'' ps rs few made
