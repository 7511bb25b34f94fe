-- What is computed of the kills that end the old manager, one after another.
use Rattle.std.proofs.Common.{◌≡◌, ◌≢◌, ℕ, ◌+◌, ◌≤◌, nat_lt, if◌then◌else◌, Some, Result, Ok, Err, List, [], ◌∷◌, ◌++◌, inl, inr, refl, sym, ◌∙◌, ap, subst, append_assoc, arith}
use Rattle.std.proofs.lemmas.Bool.Decides.{eqb_tells}
use Rattle.tp_model.specs.declared.types.Element.{Element}
use Rattle.tp_model.specs.declared.types.Killed.{Killed as KilledAnswer}
use Rattle.tp_model.specs.declared.types.Limits.{Limits}
use Rattle.tp_model.specs.declared.types.Refusal.{Refusal}
use Rattle.tp_model.specs.declared.types.Status.{Status}
use Rattle.tp_model.specs.declared.types.Status.TheVariants.{Waiting, Held, Consumed, Parked, Killed}
use Rattle.tp_model.specs.declared.event.Event.{Event}
use Rattle.tp_model.specs.declared.event.Event.TheVariants.{Abort, Kill}
use Rattle.tp_model.specs.History.{In, UnitClaim, aborted, claim_of, here, there, element_of, status_of}
use Rattle.tp_model.specs.Steps.{IsLegal}
use Rattle.tp_model.proofs.Bridges.{append_nil}
use Rattle.tp_model.proofs.Histories.{element_of-kept, status_of-snoc}
use Rattle.tp_model.proofs.Lists.{if_other, if_same}
use Rattle.tp_plain.specs.Computed.{kill_at, kill_found, kill_of}
use Rattle.tp_plain.specs.OneThread.{State}
use Rattle.tp_plain.proofs.Commits.{held_claimed}
use Rattle.tp_rollover.specs.Checks.{AscendFrom, IsNamed}
use Rattle.tp_rollover.specs.Finding.{StandsLiving}
use Rattle.tp_rollover.specs.Holds.{status_in}
use Rattle.tp_rollover.specs.Rolls.{ends, kills}
use Rattle.tp_rollover.specs.Survivors.{IsLiving}
use Rattle.tp_rollover.specs.declared.moved.Moved.{Moved}

-- no unit holds two elements
abbrev pub AreApart : ℕ → List Event → Type 0
AreApart limit h = (i j u n m : ℕ) → status_of limit h i ≡ Held u n → status_of limit h j ≡ Held u m → i ≡ j

some_same : (h : List Event) (u : ℕ) (s t : UnitClaim) → claim_of h u ≡ Some s → claim_of h u ≡ Some t → s ≡ t
some_same h u s t a b = cc

pub legal_apart : (l : Limits) (h : List Event) → IsLegal l h → AreApart l.attempts h
legal_apart l h legal i j u n m a b =
    let s = held_claimed l h i u n legal a in
    let t = held_claimed l h j u m legal b in
    sym s.2 ∙ (ap (λ (z : UnitClaim). z.item) (some_same h u s.0 t.0 s.1 t.1) ∙ t.2)

-- ---- one history after another

-- an abort of a unit leaves what others hold
aborted_other : (limit u : ℕ) (s : Status) → ((m : ℕ) → s ≢ Held u m) → aborted limit u s ≡ s
aborted_other limit u (Waiting m) not = refl
aborted_other limit u (Held v m) not = if_other u v (if nat_lt m limit then Waiting m else Parked m) (Held v m) (λ same. not m (ap (λ z. Held z m) (sym same)))
aborted_other limit u (Consumed v) not = refl
aborted_other limit u (Parked m) not = refl
aborted_other limit u Killed not = refl

-- what ends one element
abbrev pub end_of_one : ℕ → ℕ → List Event → ℕ → List Event
end_of_one limit c h i = ends c (status_of limit h i) ++ Kill c i ∷ []

module _ (limit c i : ℕ) (h : List Event) (apart : AreApart limit h) where
  -- leaves the others
  others_by : (st : Status) → status_of limit h i ≡ st → (j : ℕ) → j ≢ i → status_of limit (h ++ (ends c st ++ Kill c i ∷ [])) j ≡ status_of limit h j
  others_by (Waiting n) is j not = status_of-snoc limit h (Kill c i) j ∙ if_other i j Killed (status_of limit h j) (λ same. not (sym same))
  others_by (Held u n) is j not =
      let unit : aborted limit u (status_of limit h j) ≡ status_of limit h j = aborted_other limit u (status_of limit h j) (λ m held. not (apart j i u m n held is)) in
      ap (λ z. status_of limit z j) (sym (append_assoc h (Abort c u ∷ []) (Kill c i ∷ [])))
      ∙ (status_of-snoc limit (h ++ Abort c u ∷ []) (Kill c i) j
      ∙ (if_other i j Killed (status_of limit (h ++ Abort c u ∷ []) j) (λ same. not (sym same))
      ∙ (status_of-snoc limit h (Abort c u) j ∙ unit)))
  others_by (Consumed u) is j not = status_of-snoc limit h (Kill c i) j ∙ if_other i j Killed (status_of limit h j) (λ same. not (sym same))
  others_by (Parked n) is j not = status_of-snoc limit h (Kill c i) j ∙ if_other i j Killed (status_of limit h j) (λ same. not (sym same))
  others_by Killed is j not = status_of-snoc limit h (Kill c i) j ∙ if_other i j Killed (status_of limit h j) (λ same. not (sym same))

  pub others_stay : (j : ℕ) → j ≢ i → status_of limit (h ++ end_of_one limit c h i) j ≡ status_of limit h j
  others_stay j not = others_by (status_of limit h i) refl j not

  -- and kills this one
  pub is_killed_then : status_of limit (h ++ end_of_one limit c h i) i ≡ Killed
  is_killed_then =
      ap (λ z. status_of limit z i) (sym (append_assoc h (ends c (status_of limit h i)) (Kill c i ∷ [])))
      ∙ (status_of-snoc limit (h ++ ends c (status_of limit h i)) (Kill c i) i ∙ if_same i i Killed (status_of limit (h ++ ends c (status_of limit h i)) i) refl)

  not_held : (u n : ℕ) → status_of limit (h ++ end_of_one limit c h i) i ≡ Held u n → ⊥
  not_held u n held = let e : Killed ≡ Held u n = sym is_killed_then ∙ held in cc

  -- so no unit holds two after it
  pub apart_then : AreApart limit (h ++ end_of_one limit c h i)
  apart_then a b u n m first second = elim (eqb_tells a i) [
    | inl p ↦ absurd (not_held u n (ap (λ k. status_of limit (h ++ end_of_one limit c h i) k) (sym p.1) ∙ first))
    | inr p ↦ elim (eqb_tells b i) [
      | inl q ↦ absurd (not_held u m (ap (λ k. status_of limit (h ++ end_of_one limit c h i) k) (sym q.1) ∙ second))
      | inr q ↦ apart a b u n m (sym (others_stay a p.1) ∙ first) (sym (others_stay b q.1) ∙ second)
    ]
  ]

-- where the statuses are the same, so are the kills
kills_same : (limit : ℕ) (g h : List Event) (c : ℕ) (ms : List Moved) → ((m : Moved) → In m ms → status_of limit g m.old ≡ status_of limit h m.old) → kills limit g c ms ≡ kills limit h c ms
kills_same limit g h c [] same = refl
kills_same limit g h c (m ∷ ms) same =
    ap (λ s. ends c s ++ Kill c m.old ∷ kills limit g c ms) (same m here)
    ∙ ap (λ es. ends c (status_of limit h m.old) ++ Kill c m.old ∷ es) (kills_same limit g h c ms (λ x p. same x (there p)))

ids_above : (low : ℕ) (ms : List Moved) (m : Moved) → AscendFrom (λ m. m.old) low ms → In m ms → low ≤ m.old
ids_above low [] m up p = elim p [ ]
ids_above low (x ∷ ms) m up here = up.0
ids_above low (x ∷ ms) m up (there p) = let less = ids_above (x.old + 1) ms m up.1 p in let first = up.0 in omega (arith, less, first)

pub not_first : (m : Moved) (ms : List Moved) (x : Moved) → AscendFrom (λ m. m.old) (m.old + 1) ms → In x ms → x.old ≢ m.old
not_first m ms x up p same = let less = ids_above (m.old + 1) ms x up p in omega (arith, less, same)

-- the kills of one and of the rest, one history behind the other
pub kills_next : (limit : ℕ) (h : List Event) (c : ℕ) (m : Moved) (ms : List Moved) → AreApart limit h → AscendFrom (λ m. m.old) (m.old + 1) ms
    → (h ++ end_of_one limit c h m.old) ++ kills limit (h ++ end_of_one limit c h m.old) c ms ≡ h ++ kills limit h c (m ∷ ms)
kills_next limit h c m ms apart up =
    let e = ends c (status_of limit h m.old) in
    ap (λ ks. (h ++ (e ++ Kill c m.old ∷ [])) ++ ks) (kills_same limit (h ++ end_of_one limit c h m.old) h c ms (λ x p. others_stay limit c m.old h apart x.old (not_first m ms x up p)))
    ∙ (append_assoc h (e ++ Kill c m.old ∷ []) (kills limit h c ms)
    ∙ ap (λ ks. h ++ ks) (append_assoc e (Kill c m.old ∷ []) (kills limit h c ms)))

-- ---- the kills, computed

-- pass c has killed all these
abbrev pub all_killed : ℕ → List Moved → State → State
all_killed c [] s = s
all_killed c (m ∷ ms) s = all_killed c ms (kill_of s c m.old).1

refused_not : (why : Refusal) (k : KilledAnswer) → Err why ≡ Ok k → ⊥
refused_not why k e = absurd cc

module _ (s : State) (c i : ℕ) (x : Element) (born : element_of s.history i ≡ Some x) (alive : IsLiving (status_in s i)) where
  found : kill_of s c i ≡ kill_at s c i (status_in s i)
  found = ap (kill_found s c i) born

  history_at : (st : Status) → IsLiving st → (kill_at s c i st).1.history ≡ s.history ++ (ends c st ++ Kill c i ∷ [])
  history_at (Waiting n) lives = refl
  history_at (Held u n) lives = append_assoc s.history (Abort c u ∷ []) (Kill c i ∷ [])
  history_at (Consumed u) lives = absurd lives
  history_at (Parked n) lives = refl
  history_at Killed lives = absurd lives

  limits_at : (st : Status) → IsLiving st → (kill_at s c i st).1.limits ≡ s.limits
  limits_at (Waiting n) lives = refl
  limits_at (Held u n) lives = refl
  limits_at (Consumed u) lives = absurd lives
  limits_at (Parked n) lives = refl
  limits_at Killed lives = absurd lives

  never_at : (st : Status) → IsLiving st → (why : Refusal) (t : State) → (Err why, t) ≡ kill_at s c i st → ⊥
  never_at (Waiting n) lives why t e = refused_not why (record { units_aborted = 0 }) (ap (λ (z : Result KilledAnswer Refusal × State). z.0) e)
  never_at (Held u n) lives why t e = refused_not why (record { units_aborted = 1 }) (ap (λ (z : Result KilledAnswer Refusal × State). z.0) e)
  never_at (Consumed u) lives why t e = lives
  never_at (Parked n) lives why t e = refused_not why (record { units_aborted = 0 }) (ap (λ (z : Result KilledAnswer Refusal × State). z.0) e)
  never_at Killed lives why t e = lives

  pub killed_history : (kill_of s c i).1.history ≡ s.history ++ end_of_one s.limits.attempts c s.history i
  killed_history = ap (λ (z : Result KilledAnswer Refusal × State). z.1.history) found ∙ history_at (status_in s i) alive

  pub killed_limits : (kill_of s c i).1.limits ≡ s.limits
  killed_limits = ap (λ (z : Result KilledAnswer Refusal × State). z.1.limits) found ∙ limits_at (status_in s i) alive

  pub never_refused : (why : Refusal) (t : State) → (Err why, t) ≡ kill_of s c i → ⊥
  never_refused why t e = never_at (status_in s i) alive why t (e ∙ found)

-- what is left once all these are killed
pub record IsBuried (c : ℕ) (ms : List Moved) (s t : State) : Type 0 where
  pub history : t.history ≡ s.history ++ kills s.limits.attempts s.history c ms
  pub limits : t.limits ≡ s.limits
  pub others : (j : ℕ) → ¬ IsNamed (λ m. m.old) j ms → status_of s.limits.attempts t.history j ≡ status_of s.limits.attempts s.history j
  pub born : (j : ℕ) (x : Element) → element_of s.history j ≡ Some x → element_of t.history j ≡ Some x

abbrev pub AllLive : State → List Moved → Type 0
AllLive s ms = (m : Moved) → In m ms → StandsLiving s.limits.attempts m.old s.history

lives_then : (s t : State) (i : ℕ) → t.limits ≡ s.limits → status_of s.limits.attempts t.history i ≡ status_of s.limits.attempts s.history i → ((x : Element) → element_of s.history i ≡ Some x → element_of t.history i ≡ Some x)
    → StandsLiving s.limits.attempts i s.history → StandsLiving t.limits.attempts i t.history
lives_then s t i limits same kept live = record {
  item = live.item;
  born = kept live.item live.born;
  living = subst (λ (l : Limits). IsLiving (status_of l.attempts t.history i)) (sym limits) (subst IsLiving (sym same) live.living);
}

pub buried : (c low : ℕ) (ms : List Moved) (s : State) → AreApart s.limits.attempts s.history → AscendFrom (λ m. m.old) low ms → AllLive s ms → IsBuried c ms s (all_killed c ms s)
buried c low [] s apart up live = record { history = sym (append_nil s.history); limits = refl; others = λ j no. refl; born = λ j x is. is }
buried c low (m ∷ ms) s apart up live =
    let limit = s.limits.attempts in
    let h = s.history in
    let first = live m here in
    let t : State = (kill_of s c m.old).1 in
    let grown : t.history ≡ h ++ end_of_one limit c h m.old = killed_history s c m.old first.item first.born first.living in
    let limits : t.limits ≡ s.limits = killed_limits s c m.old first.item first.born first.living in
    let stay : (j : ℕ) → j ≢ m.old → status_of limit t.history j ≡ status_of limit h j = λ j not. ap (λ z. status_of limit z j) grown ∙ others_stay limit c m.old h apart j not in
    let kept : (j : ℕ) (x : Element) → element_of h j ≡ Some x → element_of t.history j ≡ Some x = λ j x is. ap (λ z. element_of z j) grown ∙ element_of-kept h (end_of_one limit c h m.old) j x is in
    let apart' : AreApart t.limits.attempts t.history = subst (λ (l : Limits). AreApart l.attempts t.history) (sym limits) (subst (AreApart limit) (sym grown) (apart_then limit c m.old h apart)) in
    let rest = buried c (m.old + 1) ms t apart' up.1 (λ x p. lives_then s t x.old limits (stay x.old (not_first m ms x up.1 p)) (kept x.old) (live x (there p))) in
    record {
      history = rest.history
          ∙ (ap (λ (l : Limits). t.history ++ kills l.attempts t.history c ms) limits
          ∙ (ap (λ z. z ++ kills limit z c ms) grown ∙ kills_next limit h c m ms apart up.1));
      limits = rest.limits ∙ limits;
      others = λ j no. subst (λ (l : Limits). status_of l.attempts (all_killed c ms t).history j ≡ status_of l.attempts t.history j) limits (rest.others j (λ named. no (named.0, there named.1, named.2)))
          ∙ stay j (λ same. no (m, here, sym same));
      born = λ j x is. rest.born j x (kept j x is);
    }
