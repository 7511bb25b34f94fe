-- What a list of workers did, each on its own. A worker is a place in two lists side by side.
use Rattle.std.specs.Prelude.{◌≡◌, ⊤, ℕ, ◌≤◌, ◌<◌, ◌^◌, List, [], ◌∷◌, All, length, sum_by, zip}
use denote.Ref.{MutBor}
use denote.Param.Members.{Shared}
use Rattle.tp_workers.specs.declared.tally.Shift.{Shift}
use Rattle.tp_workers.specs.Tally.{empty_shift, plus, sum_of, total}

-- Each worker of the first list ran, with counts of its own, and became the one at its place in the second
-- list. The counts add up to these.
abbrev pub RanAll : {T : Type 0} → (T → Shift → T → Type 0) → List T → Shift → List T → Type 0
RanAll R [] s [] = s ≡ empty_shift
RanAll R [] s (y ∷ ys) = ⊥
RanAll R (x ∷ xs) s [] = ⊥
RanAll R (x ∷ xs) s (y ∷ ys) = (a : Shift) × (b : Shift) × R x a y × RanAll R xs b ys × (s ≡ plus a b)

-- the same of two lists side by side, which stay as long as they are
pub record RanEach {T U : Type 0} (R : T × U → Shift → T × U → Type 0)
    (on : List T) (by : List U) (s : Shift) (on_new : List T) (by_new : List U) : Type 0 where
  pub ran : RanAll R (zip on by) s (zip on_new by_new)
  pub on_kept : length on_new ≡ length on
  pub by_kept : length by_new ≡ length by

-- Each worker of the first list ran, with the counts at its place in the list between them, and became the
-- one at its place in the last list.
abbrev pub RanList : {T : Type 0} → (T → Shift → T → Type 0) → List T → List Shift → List T → Type 0
RanList R [] [] [] = ⊤
RanList R [] [] (y ∷ ys) = ⊥
RanList R [] (s ∷ ss) ys = ⊥
RanList R (x ∷ xs) [] ys = ⊥
RanList R (x ∷ xs) (s ∷ ss) [] = ⊥
RanList R (x ∷ xs) (s ∷ ss) (y ∷ ys) = R x s y × RanList R xs ss ys

-- Where there is a place for each worker's counts, its own counts are left there, and all of them add up to
-- these.
pub record AreTold {T U : Type 0} (R : T × U → Shift → T × U → Type 0) (on : List T) (by : List U)
    (places : List Shift)
    (s : Shift) (on_new : List T) (by_new : List U) (told : List Shift) : Type 0 where
  pub kept : length told ≡ length places
  pub each : length places ≡ length on → RanList R (zip on by) told (zip on_new by_new)
  pub sum : length places ≡ length on → s ≡ sum_of told

module _ {F T U : Type 0}
    (g : Shared F (MutBor T × (MutBor U × (ℕ × Unit {0}))) (Shift × (MutBor T × (MutBor U × Unit {0}))))
    (run : F) where
  -- the worker may be run, under any number
  abbrev pub Accepts : T × U → Type 0
  Accepts x = (p : MutBor T) (q : MutBor U) (n : ℕ) → p.now ≡ x.0 → q.now ≡ x.1 → g.pre run (p, (q, (n, tt)))

  -- a run of worker x may count this, and leave it as y
  pub record Runs (x : T × U) (s : Shift) (y : T × U) : Type 0 where
    pub on : MutBor T
    pub on_is : on.now ≡ x.0
    pub by : MutBor U
    pub by_is : by.now ≡ x.1
    pub number : ℕ
    pub on_after : MutBor T
    pub by_after : MutBor U
    pub call : g.post run (on, (by, (number, tt))) (s, (on_after, (by_after, tt)))
    pub on_left : on_after.now ≡ y.0
    pub by_left : by_after.now ≡ y.1

  -- the lists are as long as each other, all workers may be run, and what they count adds up to a number of
  -- 32 bits
  pub record MayRun (on : List T) (by : List U) : Type 0 where
    pub paired : length on ≡ length by
    pub accepts : All Accepts (zip on by)
    pub most : T × U → ℕ
    pub bounded : (x : T × U) (s : Shift) (y : T × U) → Runs x s y → total s ≤ most x
    pub fits : sum_by most (zip on by) < 2 ^ 32
