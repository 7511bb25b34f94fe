-- The account of a store, as an element is born, changes and is forgotten.
use Rattle.std.proofs.Common.{◌≡◌, ◌≢◌, ◌==◌, ◌&&◌, ◌≤◌, ◌<◌, ◌+◌, ◌-◌, ◌^◌, ℕ, Bool, true, false, Option, Some, None, List, length, slice_index_or, slice_set, sum_by, refl, sym, ◌∙◌, ap, subst, arith}
use Rattle.std.proofs.lemmas.Bool.Decides.{nat_tests}
use Rattle.std.proofs.lemmas.List.{get_or-set_other, get_or-set_same, length-set}
use Rattle.tp_store.specs.declared.counts.Counts.{Counts}
use Rattle.tp_store.specs.declared.element.Element.{Element}
use Rattle.tp_store.specs.declared.element.Status.{Status}
use Rattle.tp_store.specs.declared.element.Status.TheVariants.{Waiting, Held, Consumed, Parked, Killed}
use Rattle.tp_store.specs.declared.element.TheConstants.{LAST_STAGE}
use Rattle.tp_store.specs.Accounts.{all_in, is_held, is_parked}
use Rattle.tp_store.specs.Counting.{counted, no_counts, tallied, TallyView}
use Rattle.tp_store.specs.Elements.{Entry, element_at, is_alive, is_waiting, put, without}
use Rattle.tp_store.specs.Shelves.{AreSorted}
use Rattle.tp_store.proofs.StatusKinds.{consumed_kind, count, count_new, count_put, count_without, counted_is, held_kind, is_consumed, is_killed, IsKind, killed_kind, one, one_kind, parked_kind, stage_below, sum_is, waiting_kind, was_so}

-- what the counts say of one kind: the stages add up
abbrev pub AddsUp : (Counts → ℕ) → TallyView → Type 0
AddsUp get t = sum_by get t.stages ≡ get t.total

-- and of one that is alive: its elements are there
pub record IsShown (get : Counts → ℕ) (is : Status → Bool) (t : TallyView) (es : List Entry) : Type 0 where
  pub total : get t.total ≡ count (λ (e : Element). is e.status) es
  pub stage : (n : ℕ) → n ≤ LAST_STAGE → get (slice_index_or t.stages n no_counts) ≡ count (λ (e : Element). e.stage == n && is e.status) es

-- all of it
pub record IsTold (next : ℕ) (t : TallyView) (es : List Entry) : Type 0 where
  pub long : length t.stages ≡ LAST_STAGE + 1
  pub all : all_in t.total ≡ next
  pub add_waiting : AddsUp (λ c. c.waiting) t
  pub add_held : AddsUp (λ c. c.held) t
  pub add_consumed : AddsUp (λ c. c.consumed) t
  pub add_parked : AddsUp (λ c. c.parked) t
  pub add_killed : AddsUp (λ c. c.killed) t
  pub waiting : IsShown (λ c. c.waiting) is_waiting t es
  pub held : IsShown (λ c. c.held) is_held t es
  pub parked : IsShown (λ c. c.parked) is_parked t es

-- one kind, where an element of a stage goes from one status to another
pub record Moves (get : Counts → ℕ) (is : Status → Bool) (stage : ℕ) (from : Option Status) (to : Status) (t : TallyView) : Type 0 where
  pub total : get (tallied stage from to t).total + one (was_so is from) ≡ get t.total + one (is to)
  pub stage_is : get (counted from to (slice_index_or t.stages stage no_counts)) + one (was_so is from) ≡ get (slice_index_or t.stages stage no_counts) + one (is to)
  pub adds : AddsUp get (tallied stage from to t)

module _ (get : Counts → ℕ) (is : Status → Bool) (kind : IsKind get is) (stage : ℕ) (from : Option Status) (to : Status) (t : TallyView) (long : length t.stages ≡ LAST_STAGE + 1) (inside : stage ≤ LAST_STAGE) (adds : AddsUp get t) (few : all_in t.total < 2 ^ 64 - 1) (apart : (was_so is from && is to) ≡ false) where
  pub moves : (was_so is from ≡ true → 1 ≤ get t.total) → (was_so is from ≡ true → 1 ≤ get (slice_index_or t.stages stage no_counts)) → Moves get is stage from to t
  moves some some_there = record { total = total; stage_is = at; adds = sum }
    where
      c : Counts
      c = slice_index_or t.stages stage no_counts

      in_list : stage < length t.stages
      in_list = omega arith

      total : get (counted from to t.total) + one (was_so is from) ≡ get t.total + one (is to)
      total = counted_is get is kind from to t.total apart some (let b = kind.below t.total in omega arith)

      at : get (counted from to c) + one (was_so is from) ≡ get c + one (is to)
      at = counted_is get is kind from to c apart some_there (let a = stage_below get is kind t.stages stage in_list in let b = kind.below t.total in omega arith)

      sum : sum_by get (slice_set t.stages stage (counted from to c)) ≡ get (counted from to t.total)
      sum = let e = sum_is get is kind t.stages stage (counted from to c) (one (was_so is from)) (one (is to)) in_list at in let f = total in omega arith

  -- and one that is alive, where the elements go with it
  module _ (new : Element) (es ns : List Entry) (was : (Element → Bool) → Bool) (goes : (test : Element → Bool) → count test ns + one (was test) ≡ count test es + one (test new)) (status : new.status ≡ to) (place : new.stage ≡ stage)
      (was_is : was (λ (e : Element). is e.status) ≡ was_so is from) (was_at : (n : ℕ) → was (λ (e : Element). e.stage == n && is e.status) ≡ (stage == n && was_so is from)) (shown : IsShown get is t es) where
    goes_all : count (λ (e : Element). is e.status) ns + one (was_so is from) ≡ count (λ (e : Element). is e.status) es + one (is to)
    goes_all = subst (λ b. count (λ (e : Element). is e.status) ns + one b ≡ count (λ (e : Element). is e.status) es + one (is to)) was_is (rw status at (goes (λ (e : Element). is e.status)))

    goes_at : (n : ℕ) → count (λ (e : Element). e.stage == n && is e.status) ns + one (stage == n && was_so is from) ≡ count (λ (e : Element). e.stage == n && is e.status) es + one (stage == n && is to)
    goes_at n = subst (λ b. count (λ (e : Element). e.stage == n && is e.status) ns + one b ≡ count (λ (e : Element). e.stage == n && is e.status) es + one (stage == n && is to)) (was_at n) (rw (place, status) at (goes (λ (e : Element). e.stage == n && is e.status)))

    itself : (n : ℕ) → (n == n) ≡ true
    itself n = grind (arith, nat_tests)

    least : (f g : Bool) (a b : ℕ) → (f && g) ≡ false → a + one f ≡ b + one g → f ≡ true → 1 ≤ b
    least true true a b apart same h = absurd cc
    least true false a b apart same h = omega arith
    least false g a b apart same h = absurd cc

    pub moves_shown : Moves get is stage from to t
    moves_shown = moves
        (λ h. let e = shown.total in let low = least (was_so is from) (is to) _ _ apart goes_all h in omega arith)
        (λ h. let e = shown.stage stage inside in let low = least (was_so is from) (is to) _ _ apart (rw (itself stage) at (goes_at stage)) h in omega arith)

    pub shown_moved : IsShown get is (tallied stage from to t) ns
    shown_moved = record {
      total = let a = moves_shown.total in let b = goes_all in let e = shown.total in omega arith;
      stage = λ n low. at n low (stage == n) refl;
    }
      where
        as_number : (m n : ℕ) → (m == n) ≡ true → m ≡ n
        as_number m n h = grind (arith, nat_tests)

        other_number : (m n : ℕ) → (m == n) ≡ false → n ≢ m
        other_number m n h e = absurd (grind (arith, nat_tests))

        c : Counts
        c = slice_index_or t.stages stage no_counts

        at : (n : ℕ) → n ≤ LAST_STAGE → (b : Bool) → (stage == n) ≡ b → get (slice_index_or (slice_set t.stages stage (counted from to c)) n no_counts) ≡ count (λ (e : Element). e.stage == n && is e.status) ns
        at n low true h =
            let same = as_number stage n h in
            let here = ap get (get_or-set_same t.stages stage (counted from to c) no_counts (omega arith)) in
            let goes = rw (itself stage) at (goes_at stage) in
            let a = moves_shown.stage_is in
            let e = shown.stage stage inside in
            subst (λ n. get (slice_index_or (slice_set t.stages stage (counted from to c)) n no_counts) ≡ count (λ (e : Element). e.stage == n && is e.status) ns) same (here ∙ omega arith)
        at n low false h =
            let here = ap get (get_or-set_other t.stages stage n (counted from to c) no_counts (other_number stage n h)) in
            let goes = rw h at (goes_at n) in
            let e = shown.stage n low in
            here ∙ omega arith

-- ---- an element is born

pub told_birth : (next : ℕ) (t : TallyView) (es : List Entry) (id : ℕ) (new : Element) → AreSorted es → element_at id es ≡ None → new.status ≡ Waiting 0 → new.stage ≤ LAST_STAGE → next < 2 ^ 64 - 1 → IsTold next t es → IsTold (next + 1) (tallied new.stage None (Waiting 0) t) (put id new es)
told_birth next t es id new sorted none status inside few told = record {
  long = length-set t.stages new.stage _ ∙ told.long;
  all = let a = waiting.total in let b = held.total in let c = consumed.total in let d = parked.total in let e = killed.total in let f = told.all in omega arith;
  add_waiting = waiting.adds;
  add_held = held.adds;
  add_consumed = consumed.adds;
  add_parked = parked.adds;
  add_killed = killed.adds;
  waiting = shown (λ c. c.waiting) is_waiting waiting_kind told.add_waiting told.waiting;
  held = shown (λ c. c.held) is_held held_kind told.add_held told.held;
  parked = shown (λ c. c.parked) is_parked parked_kind told.add_parked told.parked;
}
  where
    below : all_in t.total < 2 ^ 64 - 1
    below = let e = told.all in omega arith

    move : (get : Counts → ℕ) (is : Status → Bool) → IsKind get is → AddsUp get t → Moves get is new.stage None (Waiting 0) t
    move get is kind adds = moves get is kind new.stage None (Waiting 0) t told.long inside adds below refl (λ h. absurd cc) (λ h. absurd cc)

    waiting : Moves (λ c. c.waiting) is_waiting new.stage None (Waiting 0) t
    waiting = move (λ c. c.waiting) is_waiting waiting_kind told.add_waiting

    held : Moves (λ c. c.held) is_held new.stage None (Waiting 0) t
    held = move (λ c. c.held) is_held held_kind told.add_held

    consumed : Moves (λ c. c.consumed) is_consumed new.stage None (Waiting 0) t
    consumed = move (λ c. c.consumed) is_consumed consumed_kind told.add_consumed

    parked : Moves (λ c. c.parked) is_parked new.stage None (Waiting 0) t
    parked = move (λ c. c.parked) is_parked parked_kind told.add_parked

    killed : Moves (λ c. c.killed) is_killed new.stage None (Waiting 0) t
    killed = move (λ c. c.killed) is_killed killed_kind told.add_killed

    nothing : (b : Bool) → false ≡ (b && false)
    nothing true = refl
    nothing false = refl

    shown : (get : Counts → ℕ) (is : Status → Bool) → IsKind get is → AddsUp get t → IsShown get is t es → IsShown get is (tallied new.stage None (Waiting 0) t) (put id new es)
    shown get is kind adds is_shown = shown_moved get is kind new.stage None (Waiting 0) t told.long inside adds below refl new es (put id new es) (λ test. false) (λ test. let e = count_new test id new es sorted none in omega arith) status refl refl (λ n. nothing (new.stage == n)) is_shown

-- ---- an element changes

-- it is alive, and of another kind behind
abbrev pub IsTurn : Status → Status → Type 0
IsTurn (Waiting n) (Waiting m) = ⊥
IsTurn (Waiting n) to = Unit {0}
IsTurn (Held u n) (Held v m) = ⊥
IsTurn (Held u n) to = Unit {0}
IsTurn (Parked n) (Parked m) = ⊥
IsTurn (Parked n) to = Unit {0}
IsTurn from to = ⊥

pub told_change : (next : ℕ) (t : TallyView) (es : List Entry) (id : ℕ) (old new : Element) → AreSorted es → element_at id es ≡ Some old → new.stage ≡ old.stage → old.stage ≤ LAST_STAGE → IsTurn old.status new.status → next < 2 ^ 64 - 1 → IsTold next t es → IsTold next (tallied old.stage (Some old.status) new.status t) (put id new es)
told_change next t es id old new sorted found place inside turn few told = record {
  long = length-set t.stages old.stage _ ∙ told.long;
  all = let a = waiting.total in let b = held.total in let c = consumed.total in let d = parked.total in let e = killed.total in let f = told.all in let x = one_kind old.status in let y = one_kind new.status in omega arith;
  add_waiting = waiting.adds;
  add_held = held.adds;
  add_consumed = consumed.adds;
  add_parked = parked.adds;
  add_killed = killed.adds;
  waiting = shown (λ c. c.waiting) is_waiting waiting_kind told.add_waiting (apart_waiting old.status new.status turn) told.waiting;
  held = shown (λ c. c.held) is_held held_kind told.add_held (apart_held old.status new.status turn) told.held;
  parked = shown (λ c. c.parked) is_parked parked_kind told.add_parked (apart_parked old.status new.status turn) told.parked;
}
  where
    from : Option Status
    from = Some old.status

    to : Status
    to = new.status

    below : all_in t.total < 2 ^ 64 - 1
    below = let e = told.all in omega arith

    apart_waiting : (x y : Status) → IsTurn x y → (is_waiting x && is_waiting y) ≡ false
    apart_waiting (Waiting n) (Waiting m) turn = absurd turn
    apart_waiting (Waiting n) (Held v m) turn = refl
    apart_waiting (Waiting n) (Consumed v) turn = refl
    apart_waiting (Waiting n) (Parked m) turn = refl
    apart_waiting (Waiting n) Killed turn = refl
    apart_waiting (Held u n) y turn = refl
    apart_waiting (Consumed u) y turn = refl
    apart_waiting (Parked n) y turn = refl
    apart_waiting Killed y turn = refl

    apart_held : (x y : Status) → IsTurn x y → (is_held x && is_held y) ≡ false
    apart_held (Held u n) (Held v m) turn = absurd turn
    apart_held (Held u n) (Waiting m) turn = refl
    apart_held (Held u n) (Consumed v) turn = refl
    apart_held (Held u n) (Parked m) turn = refl
    apart_held (Held u n) Killed turn = refl
    apart_held (Waiting n) y turn = refl
    apart_held (Consumed u) y turn = refl
    apart_held (Parked n) y turn = refl
    apart_held Killed y turn = refl

    apart_parked : (x y : Status) → IsTurn x y → (is_parked x && is_parked y) ≡ false
    apart_parked (Parked n) (Parked m) turn = absurd turn
    apart_parked (Parked n) (Waiting m) turn = refl
    apart_parked (Parked n) (Held v m) turn = refl
    apart_parked (Parked n) (Consumed v) turn = refl
    apart_parked (Parked n) Killed turn = refl
    apart_parked (Waiting n) y turn = refl
    apart_parked (Held u n) y turn = refl
    apart_parked (Consumed u) y turn = refl
    apart_parked Killed y turn = refl

    not_consumed : (x y : Status) → IsTurn x y → is_consumed x ≡ false
    not_consumed (Waiting n) y turn = refl
    not_consumed (Held u n) y turn = refl
    not_consumed (Parked n) y turn = refl
    not_consumed Killed y turn = refl
    not_consumed (Consumed u) y turn = absurd turn

    not_killed : (x y : Status) → IsTurn x y → is_killed x ≡ false
    not_killed (Waiting n) y turn = refl
    not_killed (Held u n) y turn = refl
    not_killed (Parked n) y turn = refl
    not_killed (Consumed u) y turn = refl
    not_killed Killed y turn = absurd turn

    gone : (get : Counts → ℕ) (is : Status → Bool) → IsKind get is → AddsUp get t → is old.status ≡ false → Moves get is old.stage from to t
    gone get is kind adds not = moves get is kind old.stage from to t told.long inside adds below (rw not refl) (λ h. absurd (let no = rw not at h in cc)) (λ h. absurd (let no = rw not at h in cc))

    there : (get : Counts → ℕ) (is : Status → Bool) → IsKind get is → AddsUp get t → (is old.status && is new.status) ≡ false → IsShown get is t es → Moves get is old.stage from to t
    there get is kind adds apart is_shown = moves_shown get is kind old.stage from to t told.long inside adds below apart new es (put id new es) (λ test. test old) (λ test. count_put test id old new es sorted found) refl place refl (λ n. refl) is_shown

    shown : (get : Counts → ℕ) (is : Status → Bool) → IsKind get is → AddsUp get t → (is old.status && is new.status) ≡ false → IsShown get is t es → IsShown get is (tallied old.stage from to t) (put id new es)
    shown get is kind adds apart is_shown = shown_moved get is kind old.stage from to t told.long inside adds below apart new es (put id new es) (λ test. test old) (λ test. count_put test id old new es sorted found) refl place refl (λ n. refl) is_shown

    waiting : Moves (λ c. c.waiting) is_waiting old.stage from to t
    waiting = there (λ c. c.waiting) is_waiting waiting_kind told.add_waiting (apart_waiting old.status new.status turn) told.waiting

    held : Moves (λ c. c.held) is_held old.stage from to t
    held = there (λ c. c.held) is_held held_kind told.add_held (apart_held old.status new.status turn) told.held

    parked : Moves (λ c. c.parked) is_parked old.stage from to t
    parked = there (λ c. c.parked) is_parked parked_kind told.add_parked (apart_parked old.status new.status turn) told.parked

    consumed : Moves (λ c. c.consumed) is_consumed old.stage from to t
    consumed = gone (λ c. c.consumed) is_consumed consumed_kind told.add_consumed (not_consumed old.status new.status turn)

    killed : Moves (λ c. c.killed) is_killed old.stage from to t
    killed = gone (λ c. c.killed) is_killed killed_kind told.add_killed (not_killed old.status new.status turn)

-- ---- an element is forgotten, which isn't alive

pub told_without : (next : ℕ) (t : TallyView) (es : List Entry) (id : ℕ) (old : Element) → element_at id es ≡ Some old → is_alive old.status ≡ false → IsTold next t es → IsTold next t (without id es)
told_without next t es id old found dead told = record {
  long = told.long;
  all = told.all;
  add_waiting = told.add_waiting;
  add_held = told.add_held;
  add_consumed = told.add_consumed;
  add_parked = told.add_parked;
  add_killed = told.add_killed;
  waiting = shown (λ c. c.waiting) is_waiting (not_waiting old.status dead) told.waiting;
  held = shown (λ c. c.held) is_held (not_held old.status dead) told.held;
  parked = shown (λ c. c.parked) is_parked (not_parked old.status dead) told.parked;
}
  where
    not_waiting : (x : Status) → is_alive x ≡ false → is_waiting x ≡ false
    not_waiting (Waiting n) h = absurd cc
    not_waiting (Held u n) h = refl
    not_waiting (Consumed u) h = refl
    not_waiting (Parked n) h = refl
    not_waiting Killed h = refl

    not_held : (x : Status) → is_alive x ≡ false → is_held x ≡ false
    not_held (Held u n) h = absurd cc
    not_held (Waiting n) h = refl
    not_held (Consumed u) h = refl
    not_held (Parked n) h = refl
    not_held Killed h = refl

    not_parked : (x : Status) → is_alive x ≡ false → is_parked x ≡ false
    not_parked (Parked n) h = absurd cc
    not_parked (Waiting n) h = refl
    not_parked (Held u n) h = refl
    not_parked (Consumed u) h = refl
    not_parked Killed h = refl

    both : (a b : Bool) → b ≡ false → (a && b) ≡ false
    both true b h = h
    both false b h = refl

    shown : (get : Counts → ℕ) (is : Status → Bool) → is old.status ≡ false → IsShown get is t es → IsShown get is t (without id es)
    shown get is not s = record {
      total = s.total ∙ sym (count_without (λ (e : Element). is e.status) id old es found not);
      stage = λ n low. s.stage n low ∙ sym (count_without (λ (e : Element). e.stage == n && is e.status) id old es found (both (old.stage == n) (is old.status) not));
    }
