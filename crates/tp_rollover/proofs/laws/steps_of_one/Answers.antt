use Rattle.std.proofs.Common.{◌≡◌, ℕ, ◌+◌, ◌*◌, ◌∙◌, ap, arith}
use Rattle.std.proofs.Math.Nat.{add-mul, mul-add, mul_assoc, mul_comm}
use Rattle.tp_model.specs.declared.types.Limits.{Limits}
use Rattle.tp_manager.specs.Bounds.{abort_steps, claim_id_steps, gather_steps, requeue_steps}
use Rattle.tp_rollover.specs.Bounds.{attempt_steps, bear_steps, compare_steps, gathered, most_replay_steps, replay_steps}
use Rattle.tp_rollover.proofs.Steps.{most_is}
use Rattle.tp_rollover.proofs.laws.steps_of_one.Goals as goal

-- an attempt and a round, of which g steps are those of a gathering
attempt_is : (g : ℕ) → (claim_id_steps + g) + (abort_steps + g) ≡ 11 + 2 * g
attempt_is g = omega arith

replay_is : (l : Limits) (q attempts further : ℕ) → replay_steps l q attempts further ≡ (11 + 2 * gather_steps l q) * attempts + (5 + gather_steps l q) * further
replay_is l q attempts further =
    let g = gather_steps l q in
    let a : attempts * attempt_steps l q ≡ (11 + 2 * g) * attempts = ap (λ n. attempts * n) (attempt_is g) ∙ mul_comm attempts (11 + 2 * g) in
    ap (λ n. n + further * gathered l q requeue_steps) a ∙ ap (λ n. (11 + 2 * g) * attempts + n) (mul_comm further (5 + g))

-- all attempts and rounds that an element can have had
all_attempts : (a g : ℕ) → 4 * a * (11 + 2 * g) + 3 * (5 + g) ≡ 44 * a + 15 + (8 * a * g + 3 * g)
all_attempts a g =
    let e = mul-add (4 * a) 11 (2 * g) in
    let f = mul_assoc (4 * a) 2 g in
    let h : 4 * a * 2 * g ≡ 8 * a * g = ap (λ n. n * g) (let same : 4 * a * 2 ≡ 8 * a = omega arith in same) in
    omega (arith, e, f, h)

most_steps : (l : Limits) (q : ℕ) → most_replay_steps l q ≡ 44 * l.attempts + 15 + (8 * l.attempts * gather_steps l q + 3 * gather_steps l q)
most_steps l q = most_is l q ∙ (ap (λ n. 4 * l.attempts * n + 3 * gathered l q requeue_steps) (attempt_is (gather_steps l q)) ∙ all_attempts l.attempts (gather_steps l q))

born_and_compared : (l : Limits) (q : ℕ) → bear_steps l q 1 + compare_steps l ≡ 16 * l.attempts + 2 * l.spare + 44 + 3 * gather_steps l q
born_and_compared l q = omega arith

together : (a s g r b c : ℕ) → r ≡ 44 * a + 15 + (8 * a * g + 3 * g) → b + c ≡ 16 * a + 2 * s + 44 + 3 * g → (b + r) + c ≡ 60 * a + 2 * s + 59 + (8 * a + 6) * g
together a s g r b c most born = let e = add-mul (8 * a) 6 g in omega (arith, e, most, born)

pub returns : goal.returns
returns c l q = record {
  old = omega arith;
  new = born_and_compared l q;
  replay = replay_is l q;
  most = together l.attempts l.spare (gather_steps l q) (most_replay_steps l q) (bear_steps l q 1) (compare_steps l) (most_steps l q) (born_and_compared l q);
}
