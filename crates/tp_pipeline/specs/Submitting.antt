-- What the pipeline submits.
use Rattle.std.specs.Prelude.{◌≡◌, ℕ, zero, suc, ◌+◌, List, [], ◌∷◌}
use Rattle.tp_manager.specs.Bounds.{submit_steps}
use Rattle.tp_manager.specs.Calls.{Submits}
use Rattle.tp_workers.specs.Calling.{Chain}
use Rattle.tp_crew.specs.Crew.{OwnCall}
use Rattle.tp_crew.specs.declared.crew.Crew.{Crew}
use Rattle.tp_pipeline.specs.Audits.{payment}

-- so many numbers from this one on
abbrev pub numbers_from : ℕ → ℕ → List ℕ
numbers_from n zero = []
numbers_from n (suc count) = n ∷ numbers_from (n + 1) count

module _ {X : Type 0} {F : X → Type 0} where
  -- the crew's own pass has submitted the payment with this number to the validator, and done nothing else
  abbrev pub SubmitsPayment : Crew X F → ℕ → Crew X F → Type 0
  SubmitsPayment old number new =
      OwnCall (submit_steps old.managed.manager.limits) (λ p q.
      (id : ℕ) × Submits id 1 (payment number) p q) old new

  -- from so many payments that were submitted to so many: each one between was, once, in order
  abbrev pub SubmitsPayments : ℕ → ℕ → Crew X F → Crew X F → Type 0
  SubmitsPayments from to old new =
      (count : ℕ) × (to ≡ from + count) × Chain SubmitsPayment old (numbers_from from count) new
