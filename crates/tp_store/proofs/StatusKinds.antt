-- One kind of status in the counts, as an element is born and as it changes.
use Rattle.std.proofs.Common.{◌≡◌, ◌&&◌, ◌≤◌, ◌<◌, ◌+◌, ◌-◌, ◌^◌, ℕ, Bool, true, false, cond, Option, Some, None, List, length, slice_index_or, slice_set, sum_by, count_by, refl, ◌∙◌, ap, arith}
use Rattle.std.specs.Ordering.{nat_cmp}
use Rattle.std.specs.BTreeMap.{is_at}
use Rattle.std.specs.Map.{values_of}
use Rattle.std.proofs.lemmas.Cmp.{nat_cmp_total}
use Rattle.std.proofs.lemmas.List.Sums.{sum_by-set}
use Rattle.std.proofs.lemmas.Map.Entries.{sum_by-insert_entry, sum_by-remove_entry}
use Rattle.tp_store.specs.declared.counts.Counts.{Counts}
use Rattle.tp_store.specs.declared.element.Element.{Element}
use Rattle.tp_store.specs.declared.element.Status.{Status}
use Rattle.tp_store.specs.declared.element.Status.TheVariants.{Waiting, Held, Consumed, Parked, Killed}
use Rattle.tp_store.specs.Accounts.{all_in, is_held, is_parked}
use Rattle.tp_store.specs.Counting.{counted, less, more, no_counts, one_more}
use Rattle.tp_store.specs.Elements.{Entry, element_at, is_waiting, put, without}
use Rattle.tp_store.specs.Shelves.{AreSorted}

-- 1 for a test that passes
abbrev pub one : Bool → ℕ
one b = cond b 1 0

-- a number in the counts, and the statuses that it counts
pub record IsKind (get : Counts → ℕ) (is : Status → Bool) : Type 0 where
  pub more_is : (x : Status) (c : Counts) → get (more x c) ≡ cond (is x) (one_more (get c)) (get c)
  pub less_is : (x : Status) (c : Counts) → get (less x c) ≡ cond (is x) (get c - 1) (get c)
  pub below : (c : Counts) → get c ≤ all_in c
  pub none : get no_counts ≡ 0

-- one more where the element stands so now, one less where it stood so
moved : (from to : Bool) (n : ℕ) → (from && to) ≡ false → (from ≡ true → 1 ≤ n) → n < 2 ^ 64 - 1 → cond to (one_more (cond from (n - 1) n)) (cond from (n - 1) n) + one from ≡ n + one to
moved true true n apart some few = absurd cc
moved true false n apart some few = let least = some refl in omega arith
moved false true n apart some few = omega arith
moved false false n apart some few = refl

new_one : (to : Bool) (n : ℕ) → n < 2 ^ 64 - 1 → cond to (one_more n) n ≡ n + one to
new_one true n few = omega arith
new_one false n few = omega arith

-- the status that was there, if one was, stands so
abbrev pub was_so : (Status → Bool) → Option Status → Bool
was_so is None = false
was_so is (Some x) = is x

module _ (get : Counts → ℕ) (is : Status → Bool) (kind : IsKind get is) where
  -- the number, where an element goes from one status to another
  pub counted_is : (from : Option Status) (to : Status) (c : Counts) → (was_so is from && is to) ≡ false → (was_so is from ≡ true → 1 ≤ get c) → get c < 2 ^ 64 - 1 → get (counted from to c) + one (was_so is from) ≡ get c + one (is to)
  counted_is None to c apart some few = let e = kind.more_is to c ∙ new_one (is to) (get c) few in omega arith
  counted_is (Some x) to c apart some few = ap (λ v. v + one (is x)) (kind.more_is to (less x c) ∙ ap (λ v. cond (is to) (one_more v) v) (kind.less_is x c)) ∙ moved (is x) (is to) (get c) apart some few

  -- a number of one stage is at most that of all
  pub stage_below : (cs : List Counts) (n : ℕ) → n < length cs → get (slice_index_or cs n no_counts) ≤ sum_by get cs
  stage_below cs n inside = let e = sum_by-set get cs n no_counts no_counts inside in let z = kind.none in omega arith

  -- the sum over the stages goes as the number of the stage
  pub sum_is : (cs : List Counts) (n : ℕ) (c : Counts) (a b : ℕ) → n < length cs → get c + a ≡ get (slice_index_or cs n no_counts) + b → sum_by get (slice_set cs n c) + a ≡ sum_by get cs + b
  sum_is cs n c a b inside same = let e = sum_by-set get cs n c no_counts inside in omega arith

-- ---- the elements that stand so

module _ (test : Element → Bool) where
  abbrev pub count : List Entry → ℕ
  count es = count_by test (values_of es)

  pub count_put : (id : ℕ) (old new : Element) (es : List Entry) → AreSorted es → element_at id es ≡ Some old → count (put id new es) + one (test old) ≡ count es + one (test new)
  count_put id old new es sorted found = rw found at (sum_by-insert_entry (λ (e : Element). one (test e)) nat_cmp_total es id new sorted)

  pub count_new : (id : ℕ) (new : Element) (es : List Entry) → AreSorted es → element_at id es ≡ None → count (put id new es) ≡ count es + one (test new)
  count_new id new es sorted none = let e = rw none at (sum_by-insert_entry (λ (e : Element). one (test e)) nat_cmp_total es id new sorted) in omega arith

  pub count_without : (id : ℕ) (old : Element) (es : List Entry) → element_at id es ≡ Some old → test old ≡ false → count (without id es) ≡ count es
  count_without id old es found not = let e = rw (found, not) at (sum_by-remove_entry (λ (e : Element). one (test e)) (λ k. is_at (nat_cmp id) k) es) in omega arith

-- ---- the five kinds

abbrev pub is_consumed : Status → Bool
is_consumed (Consumed u) = true
is_consumed other = false

abbrev pub is_killed : Status → Bool
is_killed Killed = true
is_killed other = false

pub waiting_kind : IsKind (λ c. c.waiting) is_waiting
waiting_kind = record { more_is = more_is; less_is = less_is; below = λ c. omega arith; none = refl }
  where
    more_is : (x : Status) (c : Counts) → (more x c).waiting ≡ cond (is_waiting x) (one_more c.waiting) c.waiting
    more_is (Waiting n) c = refl
    more_is (Held u n) c = refl
    more_is (Consumed u) c = refl
    more_is (Parked n) c = refl
    more_is Killed c = refl

    less_is : (x : Status) (c : Counts) → (less x c).waiting ≡ cond (is_waiting x) (c.waiting - 1) c.waiting
    less_is (Waiting n) c = refl
    less_is (Held u n) c = refl
    less_is (Consumed u) c = refl
    less_is (Parked n) c = refl
    less_is Killed c = refl

pub held_kind : IsKind (λ c. c.held) is_held
held_kind = record { more_is = more_is; less_is = less_is; below = λ c. omega arith; none = refl }
  where
    more_is : (x : Status) (c : Counts) → (more x c).held ≡ cond (is_held x) (one_more c.held) c.held
    more_is (Waiting n) c = refl
    more_is (Held u n) c = refl
    more_is (Consumed u) c = refl
    more_is (Parked n) c = refl
    more_is Killed c = refl

    less_is : (x : Status) (c : Counts) → (less x c).held ≡ cond (is_held x) (c.held - 1) c.held
    less_is (Waiting n) c = refl
    less_is (Held u n) c = refl
    less_is (Consumed u) c = refl
    less_is (Parked n) c = refl
    less_is Killed c = refl

pub consumed_kind : IsKind (λ c. c.consumed) is_consumed
consumed_kind = record { more_is = more_is; less_is = less_is; below = λ c. omega arith; none = refl }
  where
    more_is : (x : Status) (c : Counts) → (more x c).consumed ≡ cond (is_consumed x) (one_more c.consumed) c.consumed
    more_is (Waiting n) c = refl
    more_is (Held u n) c = refl
    more_is (Consumed u) c = refl
    more_is (Parked n) c = refl
    more_is Killed c = refl

    less_is : (x : Status) (c : Counts) → (less x c).consumed ≡ cond (is_consumed x) (c.consumed - 1) c.consumed
    less_is (Waiting n) c = refl
    less_is (Held u n) c = refl
    less_is (Consumed u) c = refl
    less_is (Parked n) c = refl
    less_is Killed c = refl

pub parked_kind : IsKind (λ c. c.parked) is_parked
parked_kind = record { more_is = more_is; less_is = less_is; below = λ c. omega arith; none = refl }
  where
    more_is : (x : Status) (c : Counts) → (more x c).parked ≡ cond (is_parked x) (one_more c.parked) c.parked
    more_is (Waiting n) c = refl
    more_is (Held u n) c = refl
    more_is (Consumed u) c = refl
    more_is (Parked n) c = refl
    more_is Killed c = refl

    less_is : (x : Status) (c : Counts) → (less x c).parked ≡ cond (is_parked x) (c.parked - 1) c.parked
    less_is (Waiting n) c = refl
    less_is (Held u n) c = refl
    less_is (Consumed u) c = refl
    less_is (Parked n) c = refl
    less_is Killed c = refl

pub killed_kind : IsKind (λ c. c.killed) is_killed
killed_kind = record { more_is = more_is; less_is = less_is; below = λ c. omega arith; none = refl }
  where
    more_is : (x : Status) (c : Counts) → (more x c).killed ≡ cond (is_killed x) (one_more c.killed) c.killed
    more_is (Waiting n) c = refl
    more_is (Held u n) c = refl
    more_is (Consumed u) c = refl
    more_is (Parked n) c = refl
    more_is Killed c = refl

    less_is : (x : Status) (c : Counts) → (less x c).killed ≡ cond (is_killed x) (c.killed - 1) c.killed
    less_is (Waiting n) c = refl
    less_is (Held u n) c = refl
    less_is (Consumed u) c = refl
    less_is (Parked n) c = refl
    less_is Killed c = refl

-- each status is of one kind
pub one_kind : (x : Status) → one (is_waiting x) + one (is_held x) + one (is_consumed x) + one (is_parked x) + one (is_killed x) ≡ 1
one_kind (Waiting n) = refl
one_kind (Held u n) = refl
one_kind (Consumed u) = refl
one_kind (Parked n) = refl
one_kind Killed = refl
