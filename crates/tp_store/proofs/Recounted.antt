-- Counts of elements that were put back one after another: of each kind, those that are there.
use Rattle.std.proofs.Common.{◌≡◌, ◌==◌, ◌&&◌, ◌≤◌, ◌<◌, ◌+◌, ◌-◌, ◌*◌, ◌^◌, ℕ, Bool, true, false, None, List, [], length, refl, ◌∙◌, ap, arith}
use Rattle.std.proofs.lemmas.List.{get_or-replicate, length-replicate, length-set}
use Rattle.std.proofs.lemmas.List.Folds.{sum_by-replicate}
use Rattle.tp_store.specs.declared.counts.Counts.{Counts}
use Rattle.tp_store.specs.declared.element.Element.{Element}
use Rattle.tp_store.specs.declared.element.Status.{Status}
use Rattle.tp_store.specs.declared.element.TheConstants.{LAST_STAGE}
use Rattle.tp_store.specs.Accounts.{all_in, is_held, is_parked}
use Rattle.tp_store.specs.Counting.{no_counts, no_tally, tallied, TallyView}
use Rattle.tp_store.specs.Elements.{Entry, element_at, is_waiting, put}
use Rattle.tp_store.specs.Shelves.{AreSorted}
use Rattle.tp_store.proofs.Accounting.{AddsUp, IsShown, Moves, moves, shown_moved}
use Rattle.tp_store.proofs.StatusKinds.{consumed_kind, count_new, held_kind, is_consumed, is_killed, IsKind, killed_kind, one_kind, parked_kind, waiting_kind}

-- one kind: the stages add up, and the counts are those of the elements
pub record IsCounted (get : Counts → ℕ) (is : Status → Bool) (t : TallyView) (es : List Entry) : Type 0 where
  pub adds : AddsUp get t
  pub shown : IsShown get is t es

-- all five
pub record AreCounted (t : TallyView) (es : List Entry) : Type 0 where
  pub long : length t.stages ≡ LAST_STAGE + 1
  pub all : all_in t.total ≡ length es
  pub waiting : IsCounted (λ c. c.waiting) is_waiting t es
  pub held : IsCounted (λ c. c.held) is_held t es
  pub consumed : IsCounted (λ c. c.consumed) is_consumed t es
  pub parked : IsCounted (λ c. c.parked) is_parked t es
  pub killed : IsCounted (λ c. c.killed) is_killed t es

nothing_times : (n x : ℕ) → x ≡ 0 → n * x ≡ x
nothing_times n x h = rw h (omega arith)

pub none_counted : AreCounted no_tally []
none_counted = record {
  long = length-replicate (LAST_STAGE + 1) no_counts;
  all = refl;
  waiting = nothing (λ c. c.waiting) is_waiting refl;
  held = nothing (λ c. c.held) is_held refl;
  consumed = nothing (λ c. c.consumed) is_consumed refl;
  parked = nothing (λ c. c.parked) is_parked refl;
  killed = nothing (λ c. c.killed) is_killed refl;
}
  where
    nothing : (get : Counts → ℕ) (is : Status → Bool) → get no_counts ≡ 0 → IsCounted get is no_tally []
    nothing get is zero_is = record {
      adds = sum_by-replicate get (LAST_STAGE + 1) no_counts ∙ nothing_times (LAST_STAGE + 1) (get no_counts) zero_is;
      shown = record {
        total = zero_is;
        stage = λ n low. ap get (get_or-replicate (LAST_STAGE + 1) n no_counts no_counts (omega arith)) ∙ zero_is;
      };
    }

-- one element more
pub one_counted : (t : TallyView) (es : List Entry) (id : ℕ) (new : Element) → AreSorted es → element_at id es ≡ None → length (put id new es) ≡ length es + 1 → new.stage ≤ LAST_STAGE → length es < 2 ^ 64 - 1 → AreCounted t es → AreCounted (tallied new.stage None new.status t) (put id new es)
one_counted t es id new sorted none longer inside few all = record {
  long = length-set t.stages new.stage _ ∙ all.long;
  all = let a = (move (λ c. c.waiting) is_waiting waiting_kind all.waiting.adds).total in
      let b = (move (λ c. c.held) is_held held_kind all.held.adds).total in
      let c = (move (λ c. c.consumed) is_consumed consumed_kind all.consumed.adds).total in
      let d = (move (λ c. c.parked) is_parked parked_kind all.parked.adds).total in
      let e = (move (λ c. c.killed) is_killed killed_kind all.killed.adds).total in
      let f = all.all in let g = one_kind new.status in omega arith;
  waiting = more (λ c. c.waiting) is_waiting waiting_kind all.waiting;
  held = more (λ c. c.held) is_held held_kind all.held;
  consumed = more (λ c. c.consumed) is_consumed consumed_kind all.consumed;
  parked = more (λ c. c.parked) is_parked parked_kind all.parked;
  killed = more (λ c. c.killed) is_killed killed_kind all.killed;
}
  where
    below : all_in t.total < 2 ^ 64 - 1
    below = let e = all.all in omega arith

    move : (get : Counts → ℕ) (is : Status → Bool) → IsKind get is → AddsUp get t → Moves get is new.stage None new.status t
    move get is kind adds = moves get is kind new.stage None new.status t all.long inside adds below refl (λ h. absurd cc) (λ h. absurd cc)

    nothing : (b : Bool) → false ≡ (b && false)
    nothing true = refl
    nothing false = refl

    more : (get : Counts → ℕ) (is : Status → Bool) → IsKind get is → IsCounted get is t es → IsCounted get is (tallied new.stage None new.status t) (put id new es)
    more get is kind c = record {
      adds = (move get is kind c.adds).adds;
      shown = shown_moved get is kind new.stage None new.status t all.long inside c.adds below refl new es (put id new es) (λ test. false) (λ test. let e = count_new test id new es sorted none in omega arith) refl refl refl (λ n. nothing (new.stage == n)) c.shown;
    }
