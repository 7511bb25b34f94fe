-- What is ever settled is counted, as elements are born, change and are forgotten.
use Rattle.std.proofs.Common.{◌≡◌, ◌≢◌, ◌==◌, ◌&&◌, ◌≤◌, ◌<◌, ◌+◌, ◌-◌, ◌^◌, ℕ, Bool, true, false, Option, Some, None, List, [], slice_index_or, slice_set, refl, sym, ◌∙◌, ap, arith}
use Rattle.std.specs.BTreeMap.{is_at}
use Rattle.std.specs.Ordering.{nat_cmp}
use Rattle.std.proofs.lemmas.Bool.Decides.{nat_tests}
use Rattle.std.proofs.lemmas.List.{get_or-replicate, get_or-set_other, get_or-set_same}
use Rattle.std.proofs.lemmas.Map.Entries.{sum_by-remove_entry}
use Rattle.tp_store.specs.declared.counts.Counts.{Counts}
use Rattle.tp_store.specs.declared.element.Element.{Element}
use Rattle.tp_store.specs.declared.element.Status.{Status}
use Rattle.tp_store.specs.declared.element.Status.TheVariants.{Waiting, Held, Consumed, Parked, Killed}
use Rattle.tp_store.specs.declared.element.TheConstants.{LAST_STAGE}
use Rattle.tp_store.specs.Counting.{counted, no_counts, no_tally, tallied, TallyView}
use Rattle.tp_store.specs.Elements.{Entry, element_at, put, without}
use Rattle.tp_store.specs.Restoring.{is_attempt, is_root}
use Rattle.tp_store.specs.Shelves.{AreSorted}
use Rattle.tp_store.proofs.Accounting.{AddsUp, IsTold, IsTurn, Moves, moves}
use Rattle.tp_store.proofs.StatusKinds.{consumed_kind, count, count_new, count_put, is_consumed, is_killed, IsKind, killed_kind, one, was_so}

-- an element is of a stage that there is, from the least one on, its request may be the one that it has, and
-- what is held was taken at least once
pub record HasPlace (low id : ℕ) (e : Element) : Type 0 where
  pub from : low ≤ e.stage
  pub stage : e.stage ≤ LAST_STAGE
  pub root : is_root id e.by e.root ≡ true
  pub attempt : is_attempt e.status ≡ true

-- the counts of a kind that is settled are no less than what is there
abbrev pub IsAtLeast : (Counts → ℕ) → (Status → Bool) → TallyView → List Entry → Type 0
IsAtLeast get is t es = (n : ℕ) → n ≤ LAST_STAGE → count (λ (e : Element). e.stage == n && is e.status) es ≤ get (slice_index_or t.stages n no_counts)

-- both kinds, and nothing below the least stage
pub record IsSettled (low : ℕ) (t : TallyView) (es : List Entry) : Type 0 where
  pub consumed : IsAtLeast (λ c. c.consumed) is_consumed t es
  pub killed : IsAtLeast (λ c. c.killed) is_killed t es
  pub none : (n : ℕ) → n < low → slice_index_or t.stages n no_counts ≡ no_counts

pub none_settled : (low : ℕ) → low ≤ 1 → IsSettled low no_tally []
none_settled low least = record {
  consumed = λ n inside. omega arith;
  killed = λ n inside. omega arith;
  none = λ n below. get_or-replicate (LAST_STAGE + 1) n no_counts no_counts (omega arith);
}

other_number : (m n : ℕ) → (m == n) ≡ false → n ≢ m
other_number m n h e = absurd (grind (arith, nat_tests))

as_number : (m n : ℕ) → (m == n) ≡ true → m ≡ n
as_number m n h = grind (arith, nat_tests)

itself : (n : ℕ) → (n == n) ≡ true
itself n = grind (arith, nat_tests)

module _ (stage : ℕ) (from : Option Status) (to : Status) (next : ℕ) (t : TallyView) (es ns : List Entry) (new : Element) (inside : stage ≤ LAST_STAGE) (few : next < 2 ^ 64 - 1) (told : IsTold next t es) (place : new.stage ≡ stage) (status : new.status ≡ to) (goes : (test : Element → Bool) → count test ns ≤ count test es + one (test new)) where
  at_least_moved : (get : Counts → ℕ) (is : Status → Bool) → IsKind get is → AddsUp get t → was_so is from ≡ false → IsAtLeast get is t es → IsAtLeast get is (tallied stage from to t) ns
  at_least_moved get is kind adds dead least n low = go (stage == n) refl
    where
      c : Counts
      c = slice_index_or t.stages stage no_counts

      move : Moves get is stage from to t
      move = moves get is kind stage from to t told.long inside adds (let e = told.all in omega arith) (rw dead refl) (λ h. absurd (let no = rw dead at h in cc)) (λ h. absurd (let no = rw dead at h in cc))

      most : count (λ (e : Element). e.stage == n && is e.status) ns ≤ count (λ (e : Element). e.stage == n && is e.status) es + one (stage == n && is to)
      most = rw (place, status) at (goes (λ (e : Element). e.stage == n && is e.status))

      go : (b : Bool) → (stage == n) ≡ b → count (λ (e : Element). e.stage == n && is e.status) ns ≤ get (slice_index_or (slice_set t.stages stage (counted from to c)) n no_counts)
      go true h =
          let same = as_number stage n h in
          let long = told.long in
          let here = ap get (get_or-set_same t.stages stage (counted from to c) no_counts (omega arith)) in
          let a = rw dead at move.stage_is in
          let b = rw h at most in
          let l = least n low in
          let k : get (slice_index_or t.stages n no_counts) ≡ get c = ap (λ i. get (slice_index_or t.stages i no_counts)) (sym same) in
          let j : get (slice_index_or (slice_set t.stages stage (counted from to c)) n no_counts) ≡ get (counted from to c) = ap (λ i. get (slice_index_or (slice_set t.stages stage (counted from to c)) i no_counts)) (sym same) ∙ here in
          omega arith
      go false h =
          let here = ap get (get_or-set_other t.stages stage n (counted from to c) no_counts (other_number stage n h)) in
          let b = rw h at most in
          let l = least n low in
          omega arith

  settled_moved : (low : ℕ) → low ≤ stage → was_so is_consumed from ≡ false → was_so is_killed from ≡ false → IsSettled low t es → IsSettled low (tallied stage from to t) ns
  settled_moved low least p q s = record {
    consumed = at_least_moved (λ c. c.consumed) is_consumed consumed_kind told.add_consumed p s.consumed;
    killed = at_least_moved (λ c. c.killed) is_killed killed_kind told.add_killed q s.killed;
    none = λ n below. get_or-set_other t.stages stage n _ no_counts (apart n stage (omega arith)) ∙ s.none n below;
  }
    where
      apart : (m n : ℕ) → m < n → m ≢ n
      apart m n h e = absurd (omega arith)

pub settled_birth : (low next : ℕ) (t : TallyView) (es : List Entry) (id : ℕ) (new : Element) → AreSorted es → element_at id es ≡ None → new.status ≡ Waiting 0 → low ≤ new.stage → new.stage ≤ LAST_STAGE → next < 2 ^ 64 - 1 → IsTold next t es → IsSettled low t es → IsSettled low (tallied new.stage None (Waiting 0) t) (put id new es)
settled_birth low next t es id new sorted none status least inside few told s = settled_moved new.stage None (Waiting 0) next t es (put id new es) new inside few told refl status (λ test. let e = count_new test id new es sorted none in omega arith) low least refl refl s

pub settled_change : (low next : ℕ) (t : TallyView) (es : List Entry) (id : ℕ) (old new : Element) → AreSorted es → element_at id es ≡ Some old → new.stage ≡ old.stage → low ≤ old.stage → old.stage ≤ LAST_STAGE → IsTurn old.status new.status → next < 2 ^ 64 - 1 → IsTold next t es → IsSettled low t es → IsSettled low (tallied old.stage (Some old.status) new.status t) (put id new es)
settled_change low next t es id old new sorted found place least inside turn few told s = settled_moved old.stage (Some old.status) new.status next t es (put id new es) new inside few told place refl (λ test. let e = count_put test id old new es sorted found in omega arith) low least (not_consumed old.status new.status turn) (not_killed old.status new.status turn) s
  where
    not_consumed : (x y : Status) → IsTurn x y → is_consumed x ≡ false
    not_consumed (Waiting n) y turn = refl
    not_consumed (Held u n) y turn = refl
    not_consumed (Parked n) y turn = refl
    not_consumed Killed y turn = refl
    not_consumed (Consumed u) y turn = absurd turn

    not_killed : (x y : Status) → IsTurn x y → is_killed x ≡ false
    not_killed (Waiting n) y turn = refl
    not_killed (Held u n) y turn = refl
    not_killed (Parked n) y turn = refl
    not_killed (Consumed u) y turn = refl
    not_killed Killed y turn = absurd turn

pub settled_without : (low : ℕ) (t : TallyView) (es : List Entry) (id : ℕ) (old : Element) → element_at id es ≡ Some old → IsSettled low t es → IsSettled low t (without id es)
settled_without low t es id old found s = record {
  consumed = λ n inside. let a = s.consumed n inside in let b = fewer (λ (e : Element). e.stage == n && is_consumed e.status) in omega arith;
  killed = λ n inside. let a = s.killed n inside in let b = fewer (λ (e : Element). e.stage == n && is_killed e.status) in omega arith;
  none = s.none;
}
  where
    fewer : (test : Element → Bool) → count test (without id es) ≤ count test es
    fewer test = let e = rw found at (sum_by-remove_entry (λ (e : Element). one (test e)) (λ k. is_at (nat_cmp id) k) es) in omega arith
