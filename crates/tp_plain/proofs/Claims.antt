-- What a claim finds, and what it leaves.
use Rattle.std.proofs.Common.{◌≡◌, ℕ, zero, suc, ◌+◌, ◌-◌, ◌*◌, ◌<◌, ◌≤◌, ◌==◌, ⊎_elim, nat_lt, ◌&&◌, ◌||◌, Bool, true, false, cond, Option, Some, None, List, [], ◌∷◌, ◌++◌, map, slice_index_or, slice_set, refl, sym, ◌∙◌, ap, subst, inl, inr, append_assoc, arith, mul-le-mul_right, IfSome}
use Rattle.std.proofs.lemmas.Bool.{eqb-true, eq-eqb, and_from}
use Rattle.std.proofs.lemmas.Bool.Decides.{nat_tests}
use Rattle.std.proofs.lemmas.List.{append-nil}
use Rattle.std.proofs.lemmas.List.Elements.{Contains-append_left, Contains-append_right, Contains-append_cases}
use Rattle.std.specs.List.{find, fold, Contains}
use mathlib.Core.Logic.{dite}
use native.Mathlib.Decide.{dec_le}
use Rattle.tp_model.specs.declared.types.Element.{Element}
use Rattle.tp_model.specs.declared.types.Limits.{Limits}
use Rattle.tp_model.specs.declared.types.Look.{Look}
use Rattle.tp_plain.specs.declared.pass_state.PassState.{PassState}
use Rattle.tp_model.specs.declared.types.Status.{Status}
use Rattle.tp_model.specs.declared.types.Status.TheVariants.{Waiting, Held, Consumed, Parked, Killed}
use Rattle.tp_model.specs.declared.event.Event.{Event}
use Rattle.tp_model.specs.declared.event.Event.TheVariants.{Claim}
use Rattle.tp_model.specs.History.{births, born, UnitClaim, claim_by, claim_of, end_by, status_of}
use Rattle.tp_model.specs.Counts.{is_waiting}
use Rattle.tp_model.specs.Steps.{IsServerStage, IsOpen, Step, IsLegal, rows_of}
use Rattle.tp_plain.specs.Computed.{next_waiting, with_claimed, work_on}
use Rattle.tp_plain.specs.OneThread.{IsPlainBefore, State, pass_at, next_unit, turn_of_pass, Waits, PlainTakes, PlainTakesNext}
use Rattle.tp_plain.specs.Reached.{PassFits, IsReachable}
use Rattle.tp_plain.specs.Looks.{comes_before, look_at, look_after, looks_after_all, fresh_look, waits_in, sooner, attempts_in}
use Rattle.tp_model.proofs.Lists.{first-snoc, if_same, if_other, some_if}
use Rattle.tp_model.proofs.Bridges.{in_none, is_born}
use Rattle.tp_model.proofs.Histories.{born_once, open_before}
use Rattle.tp_model.proofs.Later.{births_inside}
use Rattle.tp_model.proofs.WordProofs.{unended}
use Rattle.tp_model.proofs.Attempts.{waiting_below}
use Rattle.tp_plain.proofs.PassStates.{reached_moved}
use Rattle.tp_plain.proofs.PlainLemmas.{looks_after}
use Rattle.tp_plain.proofs.Rooms.{run_quiet}

-- The order of a circle.

pub before_is : (from i j : ℕ) → comes_before from i j ≡ true → IsPlainBefore from j i
before_is from i j is = go (nat_lt i from) (nat_lt j from) (nat_lt i j) refl refl refl is
  where
    go : (a b c : Bool) → nat_lt i from ≡ a → nat_lt j from ≡ b → nat_lt i j ≡ c → cond a (b && c) (b || c) ≡ true → IsPlainBefore from j i
    go true true true p q r is = let below : j < from = grind (arith, nat_tests) in let less : i < j = grind (arith, nat_tests) in inr (below, inr less)
    go true true false p q r is = absurd (cc (is))
    go true false c p q r is = absurd (cc (is))
    go false true c p q r is = let below : j < from = grind (arith, nat_tests) in let low : from ≤ i = grind (arith, nat_tests) in inr (below, inl low)
    go false false true p q r is = let low : from ≤ i = grind (arith, nat_tests) in let less : i < j = grind (arith, nat_tests) in inl (low, less)
    go false false false p q r is = absurd (cc (is))

pub not_before : (from i j : ℕ) → comes_before from i j ≡ false → ¬ IsPlainBefore from j i
not_before from i j is = go (nat_lt i from) (nat_lt j from) (nat_lt i j) refl refl refl is
  where
    go : (a b c : Bool) → nat_lt i from ≡ a → nat_lt j from ≡ b → nat_lt i j ≡ c → cond a (b && c) (b || c) ≡ false → ¬ IsPlainBefore from j i
    go true true true p q r is before = cc (is)
    go true true false p q r is before =
        let high : i < from = grind (arith, nat_tests) in let more : j ≤ i = grind (arith, nat_tests) in
        ⊎_elim (λ x. let low = x.0 in omega arith) (λ x. ⊎_elim (λ low. omega arith) (λ less. omega arith) x.1) before
    go true false c p q r is before =
        let high : i < from = grind (arith, nat_tests) in let over : from ≤ j = grind (arith, nat_tests) in
        ⊎_elim (λ x. let low = x.0 in omega arith) (λ x. let below = x.0 in omega arith) before
    go false true c p q r is before = cc (is)
    go false false true p q r is before = cc (is)
    go false false false p q r is before =
        let over : from ≤ j = grind (arith, nat_tests) in let more : j ≤ i = grind (arith, nat_tests) in
        ⊎_elim (λ x. let less = x.1 in omega arith) (λ x. let below = x.0 in omega arith) before

before_itself : (from i : ℕ) → ¬ IsPlainBefore from i i
before_itself from i = ⊎_elim (λ x. let less = x.1 in omega arith) (λ x. let below = x.0 in ⊎_elim (λ low. omega arith) (λ less. omega arith) x.1)

-- what comes before i, which comes before j, comes before j
before_both : (from i j k : ℕ) → IsPlainBefore from i k → IsPlainBefore from j i → IsPlainBefore from j k
before_both from i j k one two = ⊎_elim
    (λ x. let low = x.0 in let less = x.1 in ⊎_elim
    (λ y. let more = y.1 in inl (low, let z : k < j = omega arith in z))
    (λ y. inr (y.0, inl low)) two)
    (λ x. let below = x.0 in ⊎_elim
    (λ y. absurd (let over = y.0 in omega arith))
    (λ y. inr (y.0, ⊎_elim (λ low. inl low) (λ less. ⊎_elim (λ over. absurd (omega arith)) (λ more. inr (let z : k < j = omega arith in z)) y.1) x.1)) two) one

-- The first that waits.

pub data Best (from stage : ℕ) (seen : List Look) : Option Look → Type 0 where
  no_best : ((m : Look) → Contains seen m → waits_in stage m ≡ true → ⊥) → Best from stage seen None
  best : (l : Look) → Contains seen l → waits_in stage l ≡ true → ((m : Look) → Contains seen m → waits_in stage m ≡ true → ¬ IsPlainBefore from l.element.id m.element.id) → Best from stage seen (Some l)

pub one_of : {A : Type 0} (x m : A) → Contains (x ∷ []) m → x ≡ m
one_of {A} x m there = go there.0 there.1 there.2
  where
    go : (k : ℕ) → k < 1 → slice_index_or (x ∷ []) k m ≡ m → x ≡ m
    go zero less is = is
    go (suc k) less is = absurd (omega arith)

more_seen : (seen : List Look) (x : Look) (P : Look → Type 0) → ((m : Look) → Contains seen m → P m) → P x → (m : Look) → Contains (seen ++ x ∷ []) m → P m
more_seen seen x P old here m there =
    elim (Contains-append_cases seen (x ∷ []) m there) [ inl before ↦ old m before | inr now ↦ subst P (one_of x m now) here ]

last_seen : (seen : List Look) (x : Look) → Contains (seen ++ x ∷ []) x
last_seen seen x = Contains-append_right seen (x ∷ []) x (0, omega arith, refl)

module _ (from stage : ℕ) where
  -- no look at an element that waits comes before this one
  abbrev IsFirst : Look → Look → Type 0
  IsFirst l m = waits_in stage m ≡ true → ¬ IsPlainBefore from l.element.id m.element.id

  better : (seen : List Look) (x : Look) (o : Option Look) → Best from stage seen o → Best from stage (seen ++ x ∷ []) (sooner from stage o x)
  better seen x None (no_best none) = go (waits_in stage x) refl
    where
      go : (b : Bool) → waits_in stage x ≡ b → Best from stage (seen ++ x ∷ []) (cond b (Some x) None)
      go true is = best x (last_seen seen x) is (more_seen seen x (IsFirst x) (λ m there waits. absurd (none m there waits)) (λ waits. before_itself from x.element.id))
      go false is = no_best (more_seen seen x (λ m. waits_in stage m ≡ true → ⊥) none (λ waits. cc))
  better seen x (Some k) (best l there waits least) = go (waits_in stage x) (comes_before from x.element.id l.element.id) refl refl
    where
      go : (b less : Bool) → waits_in stage x ≡ b → comes_before from x.element.id l.element.id ≡ less → Best from stage (seen ++ x ∷ []) (cond (b && less) (Some x) (Some l))
      go true true is below =
          let under : IsPlainBefore from l.element.id x.element.id = before_is from x.element.id l.element.id below in
          best x (last_seen seen x) is (more_seen seen x (IsFirst x) (λ m seen_m w before. least m seen_m w (before_both from x.element.id l.element.id m.element.id before under)) (λ w. before_itself from x.element.id))
      go true false is below =
          best l (Contains-append_left seen (x ∷ []) l there) waits (more_seen seen x (IsFirst l) least (λ w. not_before from x.element.id l.element.id below))
      go false less is below =
          best l (Contains-append_left seen (x ∷ []) l there) waits (more_seen seen x (IsFirst l) least (λ w. absurd (cc)))

  best_of_all : (seen rest : List Look) (o : Option Look) → Best from stage seen o → Best from stage (seen ++ rest) (fold (sooner from stage) o rest)
  best_of_all seen [] o is = rw (append-nil seen) is
  best_of_all seen (x ∷ rest) o is =
      subst (λ ls. Best from stage ls (fold (sooner from stage) (sooner from stage o x) rest)) (append_assoc seen (x ∷ []) rest) (best_of_all (seen ++ x ∷ []) rest (sooner from stage o x) (better seen x o is))

  nothing_there : (m : Look) → Contains [] m → ⊥
  nothing_there m there = let less = there.1 in omega arith

  pub best_is : (looks : List Look) → Best from stage looks (fold (sooner from stage) None looks)
  best_is looks = best_of_all [] looks None (no_best (λ m there waits. nothing_there m there))

  best_parts : (seen : List Look) (l : Look) → Best from stage seen (Some l)
      → Contains seen l × (waits_in stage l ≡ true) × ((m : Look) → Contains seen m → waits_in stage m ≡ true → ¬ IsPlainBefore from l.element.id m.element.id)
  best_parts seen l (best k there waits least) = (there, waits, least)

  none_parts : (seen : List Look) → Best from stage seen None → (m : Look) → Contains seen m → waits_in stage m ≡ true → ⊥
  none_parts seen (no_best none) = none

-- Elements and their looks.

pub mapped : {A B : Type 0} (f : A → B) (xs : List A) (y : B) → Contains (map f xs) y → (x : A) × Contains xs x × (f x ≡ y)
mapped f [] y there = absurd (let less = there.1 in omega arith)
mapped f (x ∷ xs) y there =
    elim (Contains-append_cases (f x ∷ []) (map f xs) y there) [
      | inl here ↦ (x, (0, omega arith, refl), one_of (f x) y here)
      | inr later ↦ let rest = mapped f xs y later in (rest.0, Contains-append_right (x ∷ []) xs rest.0 rest.1, rest.2)
    ]

pub map_contains : {A B : Type 0} (f : A → B) (xs : List A) (x : A) → Contains xs x → Contains (map f xs) (f x)
map_contains f [] x there = absurd (let less = there.1 in omega arith)
map_contains f (y ∷ xs) x there =
    elim (Contains-append_cases (y ∷ []) xs x there) [
      | inl here ↦ subst (λ z. Contains (map f (y ∷ xs)) (f z)) (one_of y x here) (0, omega arith, refl)
      | inr later ↦ Contains-append_right (f y ∷ []) (map f xs) (f x) (map_contains f xs x later)
    ]

pub found_contains : {A : Type 0} (p : A → Bool) (xs : List A) (x : A) → find p xs ≡ Some x → Contains xs x
found_contains p [] x is = absurd cc
found_contains {A} p (y ∷ xs) x is = go (found_contains p xs x) (p y) is
  where
    go : (find p xs ≡ Some x → Contains xs x) → (b : Bool) → cond b (Some y) (find p xs) ≡ Some x → Contains (y ∷ xs) x
    go later true is = let same : y ≡ x = cc in subst (Contains (y ∷ xs)) same (0, omega arith, refl)
    go later false is = Contains-append_right (y ∷ []) xs x (later is)

-- what it means that a look is of a waiting element of the stage
waits_parts : (stage : ℕ) (l : Look) → waits_in stage l ≡ true → (l.element.stage ≡ stage) × (l.status ≡ Waiting (attempts_in l.status))
waits_parts stage l is = go (l.element.stage == stage) refl is
  where
    status : (s : Status) → is_waiting s ≡ true → s ≡ Waiting (attempts_in s)
    status (Waiting n) w = refl
    status (Held u n) w = absurd (cc (w))
    status (Consumed u) w = absurd (cc (w))
    status (Parked n) w = absurd (cc (w))
    status Killed w = absurd (cc (w))

    go : (b : Bool) → (l.element.stage == stage) ≡ b → (b && is_waiting l.status) ≡ true → (l.element.stage ≡ stage) × (l.status ≡ Waiting (attempts_in l.status))
    go true same w = (eqb-true l.element.stage stage same, status l.status w)
    go false same w = absurd (cc (w))

module _ (s : State) (from stage : ℕ) (legal : IsLegal s.limits s.history) where
  abbrev limit : ℕ
  limit = s.limits.attempts

  abbrev looks : List Look
  looks = looks_after_all limit s.history

  -- a look that waits is of an element that does
  pub waits_of : (l : Look) → Contains looks l → waits_in stage l ≡ true → Waits s stage l.element (attempts_in l.status)
  waits_of l there is =
      let m = mapped (look_at limit s.history) (born s.history) l there in
      let same : m.0 ≡ l.element = ap (λ (x : Look). x.element) m.2 in
      let parts = waits_parts stage l is in
      record {
        born = rw (← same) (born_once s.limits s.history legal m.0 m.1);
        stage_is = parts.0;
        waits = ap (λ (x : Element). status_of limit s.history x.id) (sym same) ∙ (ap (λ (x : Look). x.status) m.2 ∙ parts.1);
      }

  -- and the other way round
  pub look_of_waits : (e : Element) (n : ℕ) → Waits s stage e n → Contains looks (look_at limit s.history e) × (waits_in stage (look_at limit s.history e) ≡ true)
  look_of_waits e n w = (
    map_contains (look_at limit s.history) (born s.history) e (found_contains (λ (x : Element). x.id == e.id) (born s.history) e w.born),
    and_from (e.stage == stage) (is_waiting (status_of limit s.history e.id)) (eq-eqb e.stage stage w.stage_is) (ap is_waiting w.waits),
  )

  pub idle : next_waiting s from stage ≡ None → (e : Element) (n : ℕ) → ¬ Waits s stage e n
  idle is e n w =
      let there = look_of_waits e n w in
      none_parts from stage looks (subst (Best from stage looks) is (best_is from stage looks)) (look_at limit s.history e) there.0 there.1

  module _ (l : Look) (is : next_waiting s from stage ≡ Some l) where
    abbrev parts : Contains looks l × (waits_in stage l ≡ true) × ((m : Look) → Contains looks m → waits_in stage m ≡ true → ¬ IsPlainBefore from l.element.id m.element.id)
    parts = best_parts from stage looks l (subst (Best from stage looks) is (best_is from stage looks))

    pub next_waits : Waits s stage l.element (attempts_in l.status)
    next_waits = waits_of l parts.0 parts.1

    pub next_first : (e : Element) (n : ℕ) → Waits s stage e n → ¬ IsPlainBefore from l.element.id e.id
    next_first e n w = let there = look_of_waits e n w in parts.2 (look_at limit s.history e) there.0 there.1

-- what is known of the first look that waits, if there is one
pub record IsFound (s : State) (stage : ℕ) (o : Option Look) : Type 0 where
  pub waits : IfSome o (λ look. Waits s stage look.element (attempts_in look.status))
  pub stage_is : IfSome o (λ look. look.element.stage ≡ stage)
  pub few : IfSome o (λ look. look.element.id < 65536)
  pub none : o ≡ None → (e : Element) (n : ℕ) → ¬ Waits s stage e n

pub is_found : (s : State) (from stage : ℕ) → IsReachable s → (o : Option Look) → next_waiting s from stage ≡ o → IsFound s stage o
is_found s from stage reached None is = record { waits = tt; stage_is = tt; few = tt; none = λ _. idle s from stage reached.legal is }
is_found s from stage reached (Some look) is =
    let waits = next_waits s from stage reached.legal look is in
    let inside : look.element.id < rows_of s.limits = births_inside s.limits s.history reached.legal look.element (is_born s.history look.element.id look.element waits.born) in
    let parts : s.limits.parts ≤ 32 = reached.limits.parts.1 in
    let rows : s.limits.rows ≤ 256 = reached.limits.rows.1 in
    let spare : s.limits.spare ≤ 256 = reached.limits.spare in
    let all : s.limits.parts * s.limits.rows ≤ 32 * s.limits.rows = mul-le-mul_right s.limits.rows parts in
    record { waits = waits; stage_is = waits.stage_is; few = omega arith; none = λ none. absurd (cc) }

-- What it leaves.

-- this many attempts are below the limit
pub waits_below : (s : State) (stage : ℕ) (e : Element) (n : ℕ) → IsReachable s → Waits s stage e n → n < s.limits.attempts
waits_below s stage e n reached w = waiting_below s.limits s.history e.id n reached.legal reached.limits.attempts.0 w.waits

fits_claim : (l : Limits) (h : List Event) (drawn c i n : ℕ) (used : PassState) (turns : List ℕ) → IsLegal l h → PassFits l h drawn c used → used.claimed < l.units → used.holding ≡ None
    → PassFits l (h ++ Claim c (c * l.units + used.claimed) i n ∷ []) drawn c (record { next = used.next; left = used.left; claimed = used.claimed + 1; holding = Some (c * l.units + used.claimed); turns = turns })
fits_claim l h drawn c i n used turns legal fits room free =
    let u = c * l.units + used.claimed in
    let e : Event = Claim c u i n in
    record {
      run = run_quiet l h drawn c used.next used.left fits.run e refl;
      claimed = omega arith;
      unclaimed = λ v low high. first-snoc (claim_by v) h e ∙ rw (fits.unclaimed v (omega arith) high) (if_other u v _ None (λ same. omega arith));
      holding = λ v t is own.
          elim (open_before h e v t is) [
            | inl by ↦ ap (λ k. Some k) (some_if u v (record { pass = c; item = i; attempt = n }) t by).0
            | inr old ↦ absurd (let hand = fits.holding v t old.0 own in cc)
          ];
      held = λ v hand whole. (let same : u ≡ v = cc in subst (λ k. (t : UnitClaim) × IsOpen (h ++ e ∷ []) k t × (t.pass ≡ c)) same (record { pass = c; item = i; attempt = n }, fresh u refl, refl));
    }
  where
    fresh : (u : ℕ) → u ≡ c * l.units + used.claimed → IsOpen (h ++ Claim c u i n ∷ []) u (record { pass = c; item = i; attempt = n })
    fresh u is =
        let none : claim_of h u ≡ None = fits.unclaimed u (omega arith) (omega arith) in
        record {
          claimed = first-snoc (claim_by u) h (Claim c u i n) ∙ rw none (if_same u u (Some (record { pass = c; item = i; attempt = n })) None refl);
          unfinished = first-snoc (end_by u) h (Claim c u i n) ∙ rw (unended l h legal u none) refl;
        }

-- the looks after an event that makes nothing
pub looks_changed : (l : Limits) (h : List Event) (e : Event) (looks : List Look) → births e ≡ [] → IsLegal l h → Step l h e → looks ≡ map (look_at l.attempts h) (born h)
    → map (look_after l.attempts e) looks ≡ map (look_at l.attempts (h ++ e ∷ [])) (born (h ++ e ∷ []))
looks_changed l h e ls none legal step agree =
    sym (looks_after l h e legal step ∙ (ap (λ xs. map (look_after l.attempts e) (map (look_at l.attempts h) (born h)) ++ map fresh_look xs) none
    ∙ (append-nil (map (look_after l.attempts e) (map (look_at l.attempts h) (born h))) ∙ ap (map (look_after l.attempts e)) (sym agree))))

-- a claim of an element that waits, and what it leaves
module _ (s : State) (c stage : ℕ) (look : Look) (reached : IsReachable s) (is_pass : c < s.limits.parts) (good : IsServerStage stage)
    (waits : Waits s stage look.element (attempts_in look.status)) (room : (pass_at s c).claimed < s.limits.units) (free : (pass_at s c).holding ≡ None) where
  abbrev the_claim : Event
  the_claim = Claim c (next_unit s c) look.element.id (attempts_in look.status + 1)

  pub may_claim : Step s.limits s.history the_claim
  may_claim =
      let fits : PassFits s.limits s.history s.drawn c (pass_at s c) = reached.fits c is_pass in
      let one_less : (attempts_in look.status + 1) - 1 ≡ attempts_in look.status = omega arith in
      let below = waits_below s stage look.element (attempts_in look.status) reached waits in
      record {
        unit = (is_pass, omega arith, omega arith);
        unused = fits.unclaimed (next_unit s c) (omega arith) (omega arith);
        alone = λ v t own is_open. (let hand = fits.holding v t is_open own in cc);
        item = look.element;
        born = waits.born;
        stage = rw (waits.stage_is) good;
        attempt = omega arith;
        waits = rw one_less (waits.waits);
      }

  pub reached_claim : (turns : List ℕ) → IsReachable (with_claimed s c look turns)
  reached_claim turns =
      reached_moved s the_claim c _ reached may_claim refl is_pass (fits_claim s.limits s.history s.drawn c look.element.id (attempts_in look.status + 1) (pass_at s c) turns reached.legal (reached.fits c is_pass) room free) refl (λ y p. absurd (in_none p))

  pub looks_claimed : (looks : List Look) → looks ≡ map (look_at s.limits.attempts s.history) (born s.history)
      → map (look_after s.limits.attempts the_claim) looks ≡ map (look_at s.limits.attempts (s.history ++ the_claim ∷ [])) (born (s.history ++ the_claim ∷ []))
  looks_claimed ls agree = looks_changed s.limits s.history the_claim ls refl reached.legal may_claim agree

-- what a claim takes, and a claim in turn
module _ (s : State) (c stage : ℕ) (look : Look) (reached : IsReachable s) (is_pass : c < s.limits.parts) (good : IsServerStage stage)
    (room : (pass_at s c).claimed < s.limits.units) (free : (pass_at s c).holding ≡ None) where
  one_less : (attempts_in look.status + 1) - 1 ≡ attempts_in look.status
  one_less = omega arith

  pub claim_takes : next_waiting s 0 stage ≡ Some look → PlainTakes s c stage (work_on s c look) (with_claimed s c look (pass_at s c).turns)
  claim_takes is =
      let waits = next_waits s 0 stage reached.legal look is in
      record {
        room = room;
        next = refl;
        waiting = rw one_less waits;
        least = λ e n w. (let not = next_first s 0 stage reached.legal look is e n w in dite (dec_le look.element.id e.id) (λ le. le) (λ over. absurd (not (inl (omega arith, omega arith)))));
        step = may_claim s c stage look reached is_pass good waits room free;
        after = refl;
      }

  pub claim_next_takes : next_waiting s (turn_of_pass s c stage) stage ≡ Some look
      → PlainTakesNext s c stage (work_on s c look) (with_claimed s c look (slice_set (pass_at s c).turns stage (look.element.id + 1)))
  claim_next_takes is =
      let waits = next_waits s (turn_of_pass s c stage) stage reached.legal look is in
      record {
        room = room;
        next = refl;
        waiting = rw one_less waits;
        first = next_first s (turn_of_pass s c stage) stage reached.legal look is;
        step = may_claim s c stage look reached is_pass good waits room free;
        after = refl;
      }
