-- One more call of a history.
use Rattle.std.proofs.Common.{◌≡◌, ◌⊎◌, inl, inr, ⊎_elim, ℕ, List, [], ◌∷◌, ◌++◌, length, replicate, sym, ap, subst, arith}
use Rattle.std.specs.Prelude.{Result, Ok, Err, OnOk, is_ok}
use Rattle.tp_journal.specs.declared.device.Failed.{Failed}
use Rattle.tp_journal.specs.Device.{Elapses, FollowsStep, Grown, HasCause, HoldsBytes, Mixed, Only}
use Rattle.tp_journal.specs.Event.{FileCall}
use Rattle.tp_journal.specs.History.{faults_after, leaves_after, left_after, seen_after, spare_after, spare_leaves_after}

abbrev Answer : Type 0
Answer = Result (Unit {0}) Failed

abbrev Time : List FileCall → List FileCall → Type 0
Time past now = Elapses (length past) (length now) (left_after past) (left_after now) (leaves_after now)

module _ (past now : List FileCall) (call number : ℕ) (bytes : List ℕ) (r : Answer) (is : now ≡ (call, number, is_ok r, bytes) ∷ past) where
  pub time : Time past now
  time = subst (Time past) (sym is) (record {
    later = omega arith;
    nothing_else = λ t c le left. ⊎_elim (λ new. inr new) (λ was. inl was.1) left;
    keeps = λ t c le left. inr (le, left);
  })

  pub cause : HasCause (faults_after past) (faults_after now) r
  cause = subst (λ (l : List FileCall). HasCause (faults_after past) (faults_after l) r) (sym is) (told r)
    where
      told : (r : Answer) → HasCause (faults_after past) (faults_after ((call, number, is_ok r, bytes) ∷ past)) r
      told (Ok u) = record { later = omega arith; failed = tt }
      told (Err e) = record { later = omega arith; failed = omega arith }

pub written : (past now : List FileCall) (at : ℕ) (bytes : List ℕ) (r : Answer) → now ≡ (1, at, is_ok r, bytes) ∷ past → OnOk r (HoldsBytes (seen_after past) at bytes (seen_after now))
written past now at bytes (Ok u) is = ap seen_after is
written past now at bytes (Err e) is = tt

pub written-crash : (past now : List FileCall) (at : ℕ) (bytes : List ℕ) (r : Answer) → now ≡ (1, at, is_ok r, bytes) ∷ past → FollowsStep (Mixed at bytes) (leaves_after past) (leaves_after now)
written-crash past now at bytes r is = λ c left. subst (λ (l : List FileCall). leaves_after l c) is left

pub grown : (past now : List FileCall) (count : ℕ) (r : Answer) → now ≡ (2, count, is_ok r, []) ∷ past → OnOk r (seen_after now ≡ seen_after past ++ replicate count 0)
grown past now count (Ok u) is = ap seen_after is
grown past now count (Err e) is = tt

pub grown-crash : (past now : List FileCall) (count : ℕ) (r : Answer) → now ≡ (2, count, is_ok r, []) ∷ past → FollowsStep (Grown count) (leaves_after past) (leaves_after now)
grown-crash past now count r is = λ c left. subst (λ (l : List FileCall). leaves_after l c) is left

pub synced : (past now : List FileCall) (r : Answer) → now ≡ (3, 0, is_ok r, []) ∷ past → OnOk r (Only (seen_after past) (leaves_after now))
synced past now (Ok u) is = λ c left. (subst (λ (l : List FileCall). leaves_after l c) is left).1
synced past now (Err e) is = tt

pub synced-seen : (past now : List FileCall) (r : Answer) → now ≡ (3, 0, is_ok r, []) ∷ past → seen_after now ≡ seen_after past
synced-seen past now r is = ap seen_after is

pub synced-crash : (past now : List FileCall) (r : Answer) → now ≡ (3, 0, is_ok r, []) ∷ past → (c : List ℕ) → leaves_after now c → leaves_after past c
synced-crash past now r is = λ c left. (subst (λ (l : List FileCall). leaves_after l c) is left).0

pub spare-written : (past now : List FileCall) (bytes : List ℕ) (r : Answer) → now ≡ (4, 0, is_ok r, bytes) ∷ past → OnOk r (spare_after now ≡ bytes)
spare-written past now bytes (Ok u) is = ap spare_after is
spare-written past now bytes (Err e) is = tt

pub spare-seen : (past now : List FileCall) (bytes : List ℕ) (r : Answer) → now ≡ (4, 0, is_ok r, bytes) ∷ past → seen_after now ≡ seen_after past
spare-seen past now bytes r is = ap seen_after is

pub spare-crash : (past now : List FileCall) (bytes : List ℕ) (r : Answer) → now ≡ (4, 0, is_ok r, bytes) ∷ past → (c : List ℕ) → leaves_after now c → leaves_after past c
spare-crash past now bytes r is = λ c left. subst (λ (l : List FileCall). leaves_after l c) is left

pub spare-synced : (past now : List FileCall) (r : Answer) → now ≡ (5, 0, is_ok r, []) ∷ past → OnOk r (Only (spare_after past) (spare_leaves_after now))
spare-synced past now (Ok u) is = λ c left. subst (λ (l : List FileCall). spare_leaves_after l c) is left
spare-synced past now (Err e) is = tt

pub spare-synced-spare : (past now : List FileCall) (r : Answer) → now ≡ (5, 0, is_ok r, []) ∷ past → spare_after now ≡ spare_after past
spare-synced-spare past now r is = ap spare_after is

pub spare-synced-seen : (past now : List FileCall) (r : Answer) → now ≡ (5, 0, is_ok r, []) ∷ past → seen_after now ≡ seen_after past
spare-synced-seen past now r is = ap seen_after is

pub spare-synced-crash : (past now : List FileCall) (r : Answer) → now ≡ (5, 0, is_ok r, []) ∷ past → (c : List ℕ) → leaves_after now c → leaves_after past c
spare-synced-crash past now r is = λ c left. subst (λ (l : List FileCall). leaves_after l c) is left

pub swapped : (past now : List FileCall) (r : Answer) → now ≡ (6, 0, is_ok r, []) ∷ past → OnOk r (seen_after now ≡ spare_after past)
swapped past now (Ok u) is = ap seen_after is
swapped past now (Err e) is = tt

pub swapped-durable : (past now : List FileCall) (r : Answer) → now ≡ (6, 0, is_ok r, []) ∷ past → OnOk r ((c : List ℕ) → leaves_after now c → spare_leaves_after past c)
swapped-durable past now (Ok u) is = λ c left. subst (λ (l : List FileCall). leaves_after l c) is left
swapped-durable past now (Err e) is = tt

pub swapped-crash : (past now : List FileCall) (r : Answer) → now ≡ (6, 0, is_ok r, []) ∷ past → (c : List ℕ) → leaves_after now c → leaves_after past c ⊎ spare_leaves_after past c
swapped-crash past now (Ok u) is = λ c left. inr (subst (λ (l : List FileCall). leaves_after l c) is left)
swapped-crash past now (Err e) is = λ c left. subst (λ (l : List FileCall). leaves_after l c) is left
