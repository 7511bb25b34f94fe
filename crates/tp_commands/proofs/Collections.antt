-- Replies that are collected one after another: each time fewer are left.
use Rattle.std.proofs.Common.{◌≡◌, ◌≢◌, ℕ, zero, suc, ◌+◌, ◌<◌, ◌≤◌, cond, not, Bool, true, false, Some, List, [], ◌∷◌, ◌++◌, refl, sym, ◌∙◌, ap, subst, inl, inr, arith}
use mathlib.Core.List.{IsPrefix}
use Rattle.std.proofs.lemmas.Bool.Decides.{eqb_tells}
use Rattle.tp_model.specs.declared.types.Element.{Element}
use Rattle.tp_model.specs.declared.types.Limits.{Limits}
use Rattle.tp_model.specs.declared.types.Status.{Status}
use Rattle.tp_model.specs.declared.types.Status.TheVariants as status
use Rattle.tp_model.specs.declared.event.Event.{Event}
use Rattle.tp_model.specs.declared.event.Event.TheVariants.{Kill}
use Rattle.tp_model.specs.Counts.{is_killed}
use Rattle.tp_model.specs.History.{IsSettled, element_of, status_of}
use Rattle.tp_model.specs.Steps.{IsKillable, IsLegal, Step, rows_of}
use Rattle.tp_model.proofs.Bridges.{begins_more, is_born}
use Rattle.tp_model.proofs.Histories.{legal_at, legal_start, status_of-snoc}
use Rattle.tp_model.proofs.Later.{births_inside}
use Rattle.tp_model.proofs.LawProofs.{settled_stay}
use Rattle.tp_model.proofs.Lists.{if_same}
use Rattle.tp_manager.specs.Calls.{Follows}
use Rattle.tp_manager.specs.Families.{count_below}
use Rattle.tp_manager.specs.Lists.{CollectsNext}
use Rattle.tp_manager.specs.Shown.{PassShown}
use Rattle.tp_manager.proofs.Accounts.Counts.{count_le}

-- how many pass a test, and one fewer
count_less : (f g : ℕ → Bool) (n k : ℕ) → k < n → ((i : ℕ) → f i ≡ true → g i ≡ true) → f k ≡ false → g k ≡ true → count_below f n + 1 ≤ count_below g n
count_less f g zero k less sub out is = absurd (omega arith)
count_less f g (suc n) k less sub out is =
    elim (eqb_tells k n) [
      | inl p ↦
          (let rest = count_le f g n (λ i low. sub i) in
          let here_out : f n ≡ false = ap f (sym p.1) ∙ out in
          let here_is : g n ≡ true = ap g (sym p.1) ∙ is in
          subst (λ b. count_below f n + cond b 1 0 + 1 ≤ count_below g (suc n)) (sym here_out)
          (subst (λ b. count_below f n + cond false 1 0 + 1 ≤ count_below g n + cond b 1 0) (sym here_is) (omega arith)))
      | inr p ↦
          (let apart : k ≢ n = p.1 in
          let rest = count_less f g n k (omega arith) sub out is in
          let one = bit (f n) (g n) (sub n) in
          omega arith)
    ]
  where
    bit : (b c : Bool) → (b ≡ true → c ≡ true) → cond b 1 0 ≤ cond c 1 0
    bit true true w = omega arith
    bit true false w = let e = w refl in absurd cc
    bit false true w = omega arith
    bit false false w = omega arith

-- the elements that aren't killed, and those that aren't born
abbrev pub alive : Limits → List Event → ℕ → Bool
alive l h i = not (is_killed (status_of l.attempts h i))

abbrev pub all_alive : Limits → List Event → ℕ
all_alive l h = count_below (alive l h) (rows_of l)

killed_is : (s : Status) → not (is_killed s) ≡ false → s ≡ status.Killed
killed_is (status.Waiting n) is = absurd cc
killed_is (status.Held u n) is = absurd cc
killed_is (status.Consumed u) is = absurd cc
killed_is (status.Parked n) is = absurd cc
killed_is status.Killed is = refl

killable_alive : (s : Status) → IsKillable s → s ≢ status.Killed
killable_alive s may is = subst IsKillable is may

module _ (l : Limits) (root n : ℕ) (x : Element) (old new : PassShown) (same : new.limits ≡ l) (f : Follows n old new) (says : CollectsNext l root x old new) where
  abbrev before : List Event
  before = says.collects.adds.before

  abbrev last : Event
  last = Kill old.number x.id

  ends : new.seen ≡ before ++ last ∷ []
  ends = says.collects.adds.seen

  legal : IsLegal l (before ++ last ∷ [])
  legal = subst (IsLegal l) ends (subst (λ (z : Limits). IsLegal z new.seen) same f.shows.legal)

  begins : IsPrefix old.seen (before ++ last ∷ [])
  begins = begins_more old.seen before last says.collects.adds.begins

  step : Step l before last
  step = legal_at l before last [] legal

  killed_stays : (i : ℕ) → status_of l.attempts old.seen i ≡ status.Killed → status_of l.attempts (before ++ last ∷ []) i ≡ status.Killed
  killed_stays i is = settled_stay l old.seen (before ++ last ∷ []) i legal begins (subst IsSettled (sym is) tt) ∙ is

  alive_before : (i : ℕ) → alive l (before ++ last ∷ []) i ≡ true → alive l old.seen i ≡ true
  alive_before i is = go (alive l old.seen i) refl
    where
      go : (b : Bool) → alive l old.seen i ≡ b → b ≡ true
      go true at = refl
      go false at = absurd (let clash : not true ≡ true = ap (λ s. not (is_killed s)) (sym (killed_stays i (killed_is (status_of l.attempts old.seen i) at))) ∙ is in cc)

  gone : alive l (before ++ last ∷ []) x.id ≡ false
  gone = ap (λ s. not (is_killed s)) (status_of-snoc l.attempts before last x.id ∙ if_same x.id x.id status.Killed (status_of l.attempts before x.id) refl)

  was_alive : alive l old.seen x.id ≡ true
  was_alive = go (alive l old.seen x.id) refl
    where
      go : (b : Bool) → alive l old.seen x.id ≡ b → b ≡ true
      go true at = refl
      go false at =
          let killed = killed_is (status_of l.attempts old.seen x.id) at in
          let still : status_of l.attempts before x.id ≡ status.Killed = settled_stay l old.seen before x.id (legal_start l before (last ∷ []) legal) says.collects.adds.begins (subst IsSettled (sym killed) tt) ∙ killed in
          absurd (killable_alive (status_of l.attempts before x.id) step.free still)

  inside : x.id < rows_of l
  inside = births_inside l (before ++ last ∷ []) legal x (is_born (before ++ last ∷ []) x.id x (subst (λ z. element_of z x.id ≡ Some x) ends says.collects.is_born))

  -- a reply more was collected
  pub fewer_alive : all_alive l new.seen < all_alive l old.seen
  fewer_alive = subst (λ z. all_alive l z < all_alive l old.seen) (sym ends)
      (let less = count_less (alive l (before ++ last ∷ [])) (alive l old.seen) (rows_of l) x.id inside alive_before gone was_alive in omega arith)
