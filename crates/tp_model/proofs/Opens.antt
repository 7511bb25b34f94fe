-- What an account has open.
use Rattle.std.proofs.Common.{◌≡◌, ℕ, zero, suc, ◌+◌, ◌<◌, ◌≤◌, ◌==◌, ◌&&◌, ◌||◌, nat_le, cond, Bool, true, false, List, [], ◌∷◌, sym, refl, ◌∙◌, ap, subst, arith}
use Rattle.std.proofs.lemmas.Bool.{ne_eqb}
use Rattle.std.proofs.lemmas.Bool.Decides.{nat_tests}
use Rattle.std.proofs.lemmas.List.Sums.{sum_by-cons}
use Rattle.std.specs.List.{range_with_len, sum_by, count_by}
use Rattle.tp_model.specs.declared.types.Counts.{Counts}
use Rattle.tp_model.specs.declared.types.Element.{Element}
use Rattle.tp_model.specs.declared.types.Limits.{Limits}
use Rattle.tp_model.specs.declared.types.Status.{Status}
use Rattle.tp_model.specs.declared.types.Status.TheVariants.{Waiting, Held, Consumed, Parked, Killed}
use Rattle.tp_model.specs.declared.event.Event.{Event}
use Rattle.tp_model.specs.Accounts.{OpenAddsUp, is_open}
use Rattle.tp_model.specs.Counts.{is_waiting, is_held, counts_among, in_stage}
use Rattle.tp_model.specs.History.{In, here, there, born, status_of}
use Rattle.tp_model.specs.Steps.{IsLegal}
use Rattle.tp_model.proofs.Stages.{born_staged, none_at, one_at, staged_sum, sum_map, sum_none, sum_plus, sum_same}

-- a number above a range is none of it
none_above : (k v a n : ℕ) → a + n ≤ k → sum_by (λ s. cond (k == s) v 0) (range_with_len a n) ≡ 0
none_above k v a zero high = refl
none_above k v a (suc n) high =
    let one = sum_by-cons (λ s. cond (k == s) v 0) a (range_with_len (a + 1) n) in
    let off : cond (k == a) v 0 ≡ 0 = ap (λ b. cond b v 0) (ne_eqb k a (λ same. omega arith)) in
    let rest = none_above k v (a + 1) n (omega arith) in
    omega arith

-- one of the first 14 stages, or none of them
staged : (k v : ℕ) → 1 ≤ k → sum_by (λ s. cond (k == s) v 0) (range_with_len 1 14) ≡ cond (nat_le k 14) v 0
staged k v low = go (nat_le k 14) refl
  where
    go : (b : Bool) → nat_le k 14 ≡ b → sum_by (λ s. cond (k == s) v 0) (range_with_len 1 14) ≡ cond b v 0
    go true is = let high : k ≤ 14 = grind (arith, nat_tests) in one_at k v 1 14 low (omega arith)
    go false is = let high : 14 < k = grind (arith, nat_tests) in none_above k v 1 14 (omega arith)

-- a sum over the elements of the first 14 stages is that of the sums in each
by_first_stages : (g : Element → ℕ) (xs : List Element) → ((x : Element) → In x xs → 1 ≤ x.stage)
    → sum_by (λ s. sum_by g (in_stage s xs)) (range_with_len 1 14) ≡ sum_by (λ x. cond (nat_le x.stage 14) (g x) 0) xs
by_first_stages g [] low = sum_none (range_with_len 1 14)
by_first_stages g (x ∷ xs) low =
    let one = sum_by-cons (λ (y : Element). cond (nat_le y.stage 14) (g y) 0) x xs in
    let parts = sum_same (λ s. sum_by g (in_stage s (x ∷ xs))) (λ s. cond (x.stage == s) (g x) 0 + sum_by g (in_stage s xs)) (staged_sum g x xs) (range_with_len 1 14) in
    let both = sum_plus (λ s. cond (x.stage == s) (g x) 0) (λ s. sum_by g (in_stage s xs)) (range_with_len 1 14) in
    let first = staged x.stage (g x) (low x here) in
    let rest = by_first_stages g xs (λ y p. low y (there p)) in
    omega arith

-- one that waits isn't held
either : (s : Status) → cond (is_waiting s) 1 0 + cond (is_held s) 1 0 ≡ cond (is_waiting s || is_held s) 1 0
either (Waiting n) = refl
either (Held u n) = refl
either (Consumed u) = refl
either (Parked n) = refl
either Killed = refl

both_tests : (a b : Bool) → cond {A = ℕ} a (cond b 1 0) 0 ≡ cond {A = ℕ} (a && b) 1 0
both_tests true b = refl
both_tests false b = refl

pub open_adds_up : OpenAddsUp
open_adds_up l h legal =
    let status : Element → Status = λ x. status_of l.attempts h x.id in
    let one : Element → ℕ = λ x. cond (is_waiting (status x) || is_held (status x)) 1 0 in
    sum_map (λ (c : Counts). c.waiting + c.held) (λ s. counts_among l.attempts h (in_stage s (born h))) (range_with_len 1 14)
    ∙ (sum_same (λ s. (counts_among l.attempts h (in_stage s (born h))).waiting + (counts_among l.attempts h (in_stage s (born h))).held) (λ s. sum_by one (in_stage s (born h)))
    (λ s. sym (sum_plus (λ x. cond (is_waiting (status x)) 1 0) (λ x. cond (is_held (status x)) 1 0) (in_stage s (born h))) ∙ sum_same (λ x. cond (is_waiting (status x)) 1 0 + cond (is_held (status x)) 1 0) one (λ x. either (status x)) (in_stage s (born h)))
    (range_with_len 1 14)
    ∙ (by_first_stages one (born h) (λ x p. (born_staged l h legal x p).0)
    ∙ sum_same (λ x. cond (nat_le x.stage 14) (one x) 0) (λ x. cond (is_open l.attempts h x) 1 0) (λ x. both_tests (nat_le x.stage 14) (is_waiting (status x) || is_held (status x))) (born h)))
