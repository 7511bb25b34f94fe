-- What is computed of the claims by which elements are held, one by one.
use Rattle.std.proofs.Common.{◌≡◌, ◌≢◌, ℕ, suc, ◌+◌, ◌*◌, ◌<◌, ◌≤◌, ◌==◌, ◌&&◌, if◌then◌else◌, is_none, nat_lt, Bool, true, false, Option, Some, None, Result, Err, List, [], ◌∷◌, ◌++◌, length, drop, take, get_or, inl, inr, refl, sym, ◌∙◌, ap, subst, arith}
use Rattle.std.proofs.lemmas.Bool.{and_parts, leb-true}
use Rattle.std.proofs.lemmas.Bool.Decides.{eqb_tells}
use Rattle.std.proofs.lemmas.List.{get_or-set_same, get_or-set_other, length-set}
use Rattle.std.specs.List.{AllZip}
use Rattle.std.specs.Option.{option_and_then, option_or}
use Rattle.tp_model.specs.declared.types.Element.{Element}
use Rattle.tp_model.specs.declared.types.Limits.{Limits}
use Rattle.tp_model.specs.declared.types.Look.{Look}
use Rattle.tp_model.specs.declared.types.Refusal.{Refusal}
use Rattle.tp_model.specs.declared.types.Refusal.TheVariants as refusal
use Rattle.tp_model.specs.declared.types.Status.{Status}
use Rattle.tp_model.specs.declared.types.Status.TheVariants.{Waiting, Held, Consumed, Parked, Killed}
use Rattle.tp_model.specs.declared.types.Work.{Work}
use Rattle.tp_model.specs.declared.event.Event.{Event}
use Rattle.tp_model.specs.declared.event.Event.TheVariants.{Claim}
use Rattle.tp_model.specs.History.{In, here, there, element_of, rounds, status_of}
use Rattle.tp_model.proofs.Bridges.{element_of-id}
use Rattle.tp_model.proofs.Histories.{element_of-snoc, status_of-snoc}
use Rattle.tp_model.proofs.Lists.{if_other, if_same}
use Rattle.tp_model.proofs.WordProofs.{rounds-snoc}
use Rattle.tp_plain.specs.Computed.{claim_id_at, claim_id_found, with_claimed, work_on}
use Rattle.tp_plain.specs.OneThread.{State, next_unit, no_pass, pass_at, having_taken}
use Rattle.tp_plain.specs.declared.pass_state.PassState.{PassState}
use Rattle.tp_rollover.specs.Alike.{StandsUnheld}
use Rattle.tp_rollover.specs.Anew.{all_held, given, held_by, claimed_for}
use Rattle.tp_rollover.specs.Checks.{AscendFrom, IsNamed}
use Rattle.tp_rollover.specs.Holds.{HoldAgain, StandsFor, StandsFree, status_in}
use Rattle.tp_rollover.specs.declared.moved.Moved.{Moved}
use Rattle.tp_rollover.specs.declared.survivors.Survivor.{Survivor}
use Rattle.tp_manager.specs.Shown.{KeeperShown, PassShown}
use Rattle.tp_rollover.specs.Bounds.{AllMake, hold_of, holds_for}
use Rattle.std.proofs.lemmas.List.{take-append-drop}
use Rattle.tp_rollover.proofs.Lists.{drop_here, take_more}

-- the next of all
module _ (p : ℕ) (survivors : List Survivor) (moved : List Moved) (i : ℕ) (d : Survivor) (e : Moved) (x : State) (less : i < length survivors) (less' : i < length moved) where
  pub next_held : all_held p (drop i survivors) (drop i moved) x
      ≡ option_and_then (all_held p (drop (i + 1) survivors) (drop (i + 1) moved)) (held_by p (get_or survivors i d).holder (get_or moved i e).new x)
  next_held =
      ap (λ ss. all_held p ss (drop i moved) x) (drop_here survivors i d less)
      ∙ ap (λ ms. all_held p (get_or survivors i d ∷ drop (i + 1) survivors) ms x) (drop_here moved i e less')

-- one is claimed, or none
record OneHeld (p : ℕ) (s t : State) (i : ℕ) (status : Status) (holder : Option ℕ) : Type 0 where
  pub limits : t.limits ≡ s.limits
  pub long : length t.passes ≡ length s.passes
  pub stands : StandsFor p t i status holder
  pub others : (j : ℕ) → j ≢ i → status_in t j ≡ status_in s j
  pub born : (j : ℕ) → element_of t.history j ≡ element_of s.history j
  pub rounds_are : (j : ℕ) → rounds t.history j ≡ rounds s.history j
  pub kept : (c u : ℕ) → (pass_at s c).holding ≡ Some u → (pass_at t c).holding ≡ Some u
  pub idle : (c : ℕ) → ¬ (holder ≡ Some c) → (pass_at t c).holding ≡ (pass_at s c).holding

none_more : {A : Type 0} (o : Option A) → option_or o None ≡ o
none_more None = refl
none_more (Some x) = refl

none_not : (o : Option ℕ) (u : ℕ) → o ≡ None → o ≡ Some u → ⊥
none_not o u none some = let q : None ≡ Some u = sym none ∙ some in absurd cc

module _ (p : ℕ) (s t : State) (c i : ℕ) (status : Status) (stands : status_in s i ≡ status) (one_of : c < p) (inside : c < length s.passes) (free : (pass_at s c).holding ≡ None) where
  claimed_by : (e : Element) (n : ℕ) → element_of s.history i ≡ Some e → status_in s i ≡ Waiting n → (pass_at s c).claimed < s.limits.units
      → OneHeld p s (with_claimed s c (record { element = e; status = Waiting n }) (pass_at s c).turns) i status (Some c)
  claimed_by e n is waits room =
      let look : Look = record { element = e; status = Waiting n } in
      let event : Event = Claim c (next_unit s c) e.id (n + 1) in
      let used : PassState = having_taken s c (work_on s c look) (pass_at s c).turns in
      let own : pass_at (with_claimed s c look (pass_at s c).turns) c ≡ used = get_or-set_same s.passes c used no_pass inside in
      let other : (d : ℕ) → d ≢ c → pass_at (with_claimed s c look (pass_at s c).turns) d ≡ pass_at s d = λ d not. get_or-set_other s.passes c d used no_pass not in
      record {
        limits = refl;
        long = length-set s.passes c used;
        stands = record {
          place = (pass_at s c).claimed;
          tries = n;
          one_of = one_of;
          inside = room;
          in_hand = ap (λ (z : PassState). z.holding) own;
          is = status_of-snoc s.limits.attempts s.history event i ∙ if_same e.id i (Held (next_unit s c) (n + 1)) (status_in s i) (element_of-id s.history i e is);
          was = sym stands ∙ waits;
        };
        others = λ j not. status_of-snoc s.limits.attempts s.history event j
            ∙ if_other e.id j (Held (next_unit s c) (n + 1)) (status_in s j) (λ same. not (sym same ∙ element_of-id s.history i e is));
        born = λ j. element_of-snoc s.history event j ∙ none_more (element_of s.history j);
        rounds_are = λ j. rounds-snoc s.history event j;
        kept = λ d u hand. elim (eqb_tells d c) [
          | inl q ↦ absurd (none_not (pass_at s c).holding u free (ap (λ k. (pass_at s k).holding) (sym q.1) ∙ hand))
          | inr q ↦ ap (λ (z : PassState). z.holding) (other d q.1) ∙ hand
        ];
        idle = λ d not. ap (λ (z : PassState). z.holding) (other d (λ same. not (ap Some (sym same))));
      }

  at : (e : Element) → element_of s.history i ≡ Some e → (pass_at s c).claimed < s.limits.units → (st : Status) → status_in s i ≡ st → option_and_then (λ claimed. Some claimed.1) (given (claim_id_at s c e st)) ≡ Some t → OneHeld p s t i status (Some c)
  at e is room (Waiting n) waits got =
      let same : with_claimed s c (record { element = e; status = Waiting n }) (pass_at s c).turns ≡ t = cc in
      subst (λ z. OneHeld p s z i status (Some c)) same (claimed_by e n is waits room)
  at e is room (Held u n) waits got = absurd cc
  at e is room (Consumed u) waits got = absurd cc
  at e is room (Parked n) waits got = absurd cc
  at e is room Killed waits got = absurd cc

  abbrev after : Result Work Refusal × State → Option State
  after x = option_and_then (λ claimed. Some claimed.1) (given x)

  staged : (e : Element) → element_of s.history i ≡ Some e → (pass_at s c).claimed < s.limits.units → (b : Bool)
      → after (if b then (Err refusal.BadStage, s) else claim_id_at s c e (status_in s i)) ≡ Some t → OneHeld p s t i status (Some c)
  staged e is room true got = absurd cc
  staged e is room false got = at e is room (status_in s i) refl got

  found : (pass_at s c).claimed < s.limits.units → (o : Option Element) → element_of s.history i ≡ o → after (claim_id_found s c i o) ≡ Some t → OneHeld p s t i status (Some c)
  found room None is got = absurd cc
  found room (Some e) is got = staged e is room (e.stage == 15) got

  tried : (b : Bool) → nat_lt (pass_at s c).claimed s.limits.units ≡ b → after (if b then claim_id_found s c i (element_of s.history i) else (Err refusal.NoUnit, s)) ≡ Some t → OneHeld p s t i status (Some c)
  tried false less got = absurd cc
  tried true less got = found (leb-true (suc (pass_at s c).claimed) s.limits.units less) (element_of s.history i) refl got

  one_taken : claimed_for c i s ≡ Some t → OneHeld p s t i status (Some c)
  one_taken got = tried (nat_lt (pass_at s c).claimed s.limits.units) refl got

is_nothing : (o : Option ℕ) → is_none o ≡ true → o ≡ None
is_nothing None is = refl
is_nothing (Some u) is = absurd cc

tested : (p : ℕ) (s t : State) (c i : ℕ) (status : Status) → p ≤ length s.passes → status_in s i ≡ status → (b : Bool) → (nat_lt c p && is_none (pass_at s c).holding) ≡ b → (if b then claimed_for c i s else None) ≡ Some t
    → OneHeld p s t i status (Some c)
tested p s t c i status many stands false test got = absurd cc
tested p s t c i status many stands true test got =
    let both = and_parts (nat_lt c p) (is_none (pass_at s c).holding) test in
    let less = leb-true (suc c) p both.0 in
    one_taken p s t c i status stands less (omega (arith, less, many)) (is_nothing (pass_at s c).holding both.1) got

held_one : (p : ℕ) (s t : State) (i : ℕ) (status : Status) (holder : Option ℕ) → p ≤ length s.passes → status_in s i ≡ status → held_by p holder i s ≡ Some t → OneHeld p s t i status holder
held_one p s t i status None many stands got =
    let same : s ≡ t = cc in
    subst (λ z. OneHeld p s z i status None) same (record { limits = refl; long = refl; stands = stands; others = λ j other. refl; born = λ j. refl; rounds_are = λ j. refl; kept = λ c u hand. hand; idle = λ c not. refl })
held_one p s t i status (Some c) many stands got = tested p s t c i status many stands (nat_lt c p && is_none (pass_at s c).holding) refl got

-- ids that ascend
above : (low : ℕ) (ms : List Moved) (m : Moved) → AscendFrom (λ m. m.new) low ms → In m ms → low ≤ m.new
above low [] m up p = elim p [ ]
above low (x ∷ ms) m up here = up.0
above low (x ∷ ms) m up (there p) = let less = above (x.new + 1) ms m up.1 p in let first = up.0 in omega (arith, less, first)

-- the others stand as they did
still : (s t : State) (i low : ℕ) → i < low → ((j : ℕ) → j ≢ i → status_in t j ≡ status_in s j) → (xs : List Survivor) (ms : List Moved) → AscendFrom (λ m. m.new) low ms → AllZip (StandsFree s) xs ms → AllZip (StandsFree t) xs ms
still s t i low less others [] [] up all = tt
still s t i low less others [] (m ∷ ms) up all = absurd all
still s t i low less others (x ∷ xs) [] up all = absurd all
still s t i low less others (x ∷ xs) (m ∷ ms) up all =
    let first = up.0 in
    (others m.new (λ same. omega (arith, less, first, same)) ∙ all.0, still s t i (m.new + 1) (omega (arith, less, first)) others xs ms up.1 all.1)

carry : (p : ℕ) (s t : State) (i : ℕ) (status : Status) (holder : Option ℕ) → t.limits ≡ s.limits → status_in t i ≡ status_in s i → ((c u : ℕ) → (pass_at s c).holding ≡ Some u → (pass_at t c).holding ≡ Some u)
    → StandsFor p s i status holder → StandsFor p t i status holder
carry p s t i status None limits same kept stands = same ∙ stands
carry p s t i status (Some c) limits same kept stands = record {
  place = stands.place;
  tries = stands.tries;
  one_of = stands.one_of;
  inside = subst (λ (l : Limits). stands.place < l.units) (sym limits) stands.inside;
  in_hand = kept c (c * s.limits.units + stands.place) stands.in_hand ∙ ap (λ (l : Limits). Some (c * l.units + stands.place)) (sym limits);
  is = same ∙ (stands.is ∙ ap (λ (l : Limits). Held (c * l.units + stands.place) (stands.tries + 1)) (sym limits));
  was = stands.was;
}

-- one, and the rest
abbrev HeldFor : ℕ → List Survivor → List Moved → Type 0
HeldFor p xs ms = (s t : State) (low : ℕ) → p ≤ length s.passes → AscendFrom (λ m. m.new) low ms → AllZip (StandsFree s) xs ms → all_held p xs ms s ≡ Some t → HoldAgain p s t xs ms

one_and : (p : ℕ) (x : Survivor) (xs : List Survivor) (m : Moved) (ms : List Moved) (s t : State) → HeldFor p xs ms → p ≤ length s.passes → AscendFrom (λ m. m.new) (m.new + 1) ms → StandsFree s x m × AllZip (StandsFree s) xs ms
    → (o : Option State) → held_by p x.holder m.new s ≡ o → option_and_then (all_held p xs ms) o ≡ Some t → HoldAgain p s t (x ∷ xs) (m ∷ ms)
one_and p x xs m ms s t more many up all None is e = absurd cc
one_and p x xs m ms s t more many up all (Some s1) is e =
    let one = held_one p s s1 m.new x.status x.holder many all.0 is in
    let long = one.long in
    let rest = more s1 t (m.new + 1) (omega (arith, many, long)) up (still s s1 m.new (m.new + 1) (omega arith) one.others xs ms up all.1) e in
    let unnamed : ¬ IsNamed (λ m. m.new) m.new ms = λ named. (let less = above (m.new + 1) ms named.0 up named.1 in let same = named.2 in omega (arith, less, same)) in
    record {
      limits = rest.limits ∙ one.limits;
      each = (carry p s1 t m.new x.status x.holder rest.limits (rest.others m.new unnamed) rest.kept one.stands, rest.each);
      others = λ i no. rest.others i (λ named. no (named.0, there named.1, named.2)) ∙ one.others i (λ same. no (m, here, sym same));
      born = λ i. rest.born i ∙ one.born i;
      rounds_are = λ i. rest.rounds_are i ∙ one.rounds_are i;
      kept = λ c u hand. rest.kept c u (one.kept c u hand);
      idle = λ c no. rest.idle c (λ holds. no (holds.0, there holds.1, holds.2)) ∙ one.idle c (λ holds. no (x, here, holds));
    }

pub held_again : (p : ℕ) (survivors : List Survivor) (moved : List Moved) → HeldFor p survivors moved
held_again p [] [] s t low many up all got =
    let same : s ≡ t = cc in
    subst (λ z. HoldAgain p s z [] []) same (record { limits = refl; each = tt; others = λ i no. refl; born = λ i. refl; rounds_are = λ i. refl; kept = λ c u hand. hand; idle = λ c no. refl })
held_again p [] (m ∷ ms) s t low many up all got = absurd all
held_again p (x ∷ xs) [] s t low many up all got = absurd all
held_again p (x ∷ xs) (m ∷ ms) s t low many up all got = one_and p x xs m ms s t (held_again p xs ms) many up.1 all (held_by p x.holder m.new s) refl got

-- what stands again waits or is parked as described
pub stands_free : (l : Limits) (s : State) (xs : List Survivor) (ms : List Moved) → s.limits ≡ l → AllZip (StandsUnheld l.attempts s.history) xs ms → AllZip (StandsFree s) xs ms
stands_free l s [] [] same all = tt
stands_free l s [] (m ∷ ms) same all = absurd all
stands_free l s (x ∷ xs) [] same all = absurd all
stands_free l s (x ∷ xs) (m ∷ ms) same all = (ap (λ (z : Limits). status_of z.attempts s.history m.new) same ∙ all.0.status, stands_free l s xs ms same all.1)

-- the steps of one more
holds_more : (l : Limits) (q : ℕ) (ss : List Survivor) (s : Survivor) → holds_for l q (ss ++ s ∷ []) ≡ holds_for l q ss + hold_of l q s
holds_more l q [] s = omega arith
holds_more l q (x ∷ ss) s = let rest = holds_more l q ss s in omega (arith, rest)

-- up to it they are some of all
holds_some : (l : Limits) (q : ℕ) (ss ts : List Survivor) → holds_for l q ss ≤ holds_for l q (ss ++ ts)
holds_some l q [] ts = omega arith
holds_some l q (x ∷ ss) ts = let rest = holds_some l q ss ts in omega (arith, rest)

pub holds_then : (l : Limits) (q : ℕ) (survivors : List Survivor) (i : ℕ) (d : Survivor) (k k1 k2 : KeeperShown) (ps qs rs : List PassShown) → i < length survivors → k1.given ≡ q → AllMake (holds_for l q (take i survivors)) k ps k1 qs
    → AllMake (hold_of l k1.given (get_or survivors i d)) k1 qs k2 rs → AllMake (holds_for l q (take (i + 1) survivors)) k ps k2 rs
holds_then l q survivors i d k k1 k2 ps qs rs less given before next =
    let e = holds_more l q (take i survivors) (get_or survivors i d) in
    let made = subst (λ z. AllMake (hold_of l z (get_or survivors i d)) k1 qs k2 rs) given next in
    subst (λ ss. AllMake (holds_for l q ss) k ps k2 rs) (sym (take_more survivors i d less)) (omega (arith, e, before, made))

pub holds_within : (l : Limits) (q : ℕ) (survivors : List Survivor) (i : ℕ) (k k1 : KeeperShown) (ps qs : List PassShown) → AllMake (holds_for l q (take i survivors)) k ps k1 qs → AllMake (holds_for l q survivors) k ps k1 qs
holds_within l q survivors i k k1 ps qs made =
    let e = holds_some l q (take i survivors) (drop i survivors) in
    let f = ap (holds_for l q) (take-append-drop i survivors) in
    omega (arith, e, f, made)

-- of as many passes
pub same_held : (p q : ℕ) (holder : Option ℕ) (i : ℕ) (x : State) → p ≡ q → held_by p holder i x ≡ held_by q holder i x
same_held p q holder i x same = ap (λ n. held_by n holder i x) same
