-- What the calls of a device do to its file, and what a crash may leave between two syncs.
use Rattle.std.specs.Prelude.{◌<◌, ◌≡◌, ◌⊎◌, ℕ, ◌+◌, ◌≤◌, List, [], ◌∷◌, ◌++◌, length, take, drop}
use Rattle.std.specs.Prelude.{replicate, Result, OnErr}
use Rattle.tp_journal.specs.declared.device.Failed.{Failed}

-- new is old with these bytes at this offset
abbrev pub HoldsBytes : List ℕ → ℕ → List ℕ → List ℕ → Type 0
HoldsBytes old at bytes new = new ≡ take at old ++ bytes ++ drop (at + length bytes) old

-- the bytes were written over the first of old: each of those is as it was or as it was written, and the
-- rest is the same
abbrev pub EachMixed : List ℕ → List ℕ → List ℕ → Type 0
EachMixed old [] new = new ≡ old
EachMixed [] (b ∷ bs) new = new ≡ []
EachMixed (o ∷ os) (b ∷ bs) [] = ⊥
EachMixed (o ∷ os) (b ∷ bs) (c ∷ cs) = ((c ≡ o) ⊎ (c ≡ b)) × EachMixed os bs cs

-- after a write of these bytes at this offset that a crash cuts short
pub record Mixed (at : ℕ) (bytes old new : List ℕ) : Type 0 where
  pub before : take at new ≡ take at old
  pub from_there : EachMixed (drop at old) bytes (drop at new)

-- after a growth by so many bytes that a crash cuts short: some of them
pub record Grown (count : ℕ) (old new : List ℕ) : Type 0 where
  pub more : ℕ
  pub at_most : more ≤ count
  pub is : new ≡ old ++ replicate more 0

-- each new outcome of a crash is an old outcome after a step
abbrev pub FollowsStep : (List ℕ → List ℕ → Type 0) → (List ℕ → Type 0) → (List ℕ → Type 0) → Type 0
FollowsStep step old new = (c : List ℕ) → new c → (d : List ℕ) × old d × step d c

-- a crash leaves this and nothing else
abbrev pub Only : List ℕ → (List ℕ → Type 0) → Type 0
Only file outcomes = (c : List ℕ) → outcomes c → c ≡ file

-- Time goes on: a crash since t might have left what it might have left before, or what it may leave now.
pub record Elapses (before now : ℕ) (past since : ℕ → List ℕ → Type 0) (may_leave : List ℕ → Type 0)
    : Type 0 where
  pub later : before ≤ now
  pub nothing_else : (t : ℕ) (c : List ℕ) → t ≤ before → since t c → past t c ⊎ may_leave c
  pub keeps : (t : ℕ) (c : List ℕ) → t ≤ before → past t c → since t c

-- A crash at any moment since old leaves a file that has P.
pub record LeavesOnly {D : Type 0} (moment : D → ℕ) (left_since : D → ℕ → List ℕ → Type 0) (old new : D)
    (P : List ℕ → Type 0) : Type 0 where
  pub later : moment old ≤ moment new
  pub each : (c : List ℕ) → left_since new (moment old) c → P c
  -- for a run that began earlier
  pub before : (t : ℕ) (c : List ℕ) → t ≤ moment old → left_since new t c → left_since old t c ⊎ P c

-- a failure is told only where the disk has failed since
pub record HasCause (before now : ℕ) (result : Result Unit Failed) : Type 0 where
  pub later : before ≤ now
  pub failed : OnErr result (before < now)
