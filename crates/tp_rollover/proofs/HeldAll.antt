-- Each that is to be held can be claimed by its pass: it waits, and the pass has a unit for it and nothing in hand.
use Rattle.std.proofs.Common.{◌≡◌, ◌≢◌, ℕ, zero, suc, ◌+◌, ◌<◌, ◌&&◌, if◌then◌else◌, is_none, nat_lt, replicate, Bool, true, false, Option, Some, None, List, [], ◌∷◌, length, slice_index_or, slice_set, inl, inr, ⊎_elim, refl, sym, ◌∙◌, ap, subst, arith}
use Rattle.std.proofs.lemmas.Bool.{le-leb}
use Rattle.std.proofs.lemmas.Bool.Decides.{eqb_tells}
use Rattle.std.proofs.lemmas.List.{get_or-set_other, get_or-set_same, length-set}
use Rattle.std.specs.List.{AllZip, fold}
use Rattle.std.specs.Option.{option_and_then}
use Rattle.tp_model.specs.declared.types.Element.{Element}
use Rattle.tp_model.specs.declared.types.Status.TheVariants.{Waiting, Held}
use Rattle.tp_model.specs.declared.types.TheConstants.{MAX_PASSES}
use Rattle.tp_model.specs.declared.types.Work.{Work}
use Rattle.tp_model.specs.declared.event.Event.{Event}
use Rattle.tp_model.specs.declared.event.Event.TheVariants.{Claim}
use Rattle.tp_model.specs.History.{In, element_of, here, there}
use Rattle.tp_model.proofs.Bridges.{element_of-id, in_cons, in_none}
use Rattle.tp_model.proofs.Histories.{element_of-snoc, status_of-snoc}
use Rattle.tp_model.proofs.Lists.{if_other}
use Rattle.tp_plain.specs.Computed.{claim_id_at, with_claimed, work_on}
use Rattle.tp_plain.specs.OneThread.{State, next_unit, no_pass, pass_at, having_taken}
use Rattle.tp_plain.specs.declared.pass_state.PassState.{PassState}
use Rattle.tp_plain.proofs.Given.{computes}
use Rattle.tp_rollover.specs.Anew.{all_held, claimed_for, given, held_by, kept_for, with_holder}
use Rattle.tp_rollover.specs.Checks.{AscendFrom}
use Rattle.tp_rollover.specs.Holds.{status_in}
use Rattle.tp_rollover.specs.declared.moved.Moved.{Moved}
use Rattle.tp_rollover.specs.declared.survivors.Survivor.{Survivor}
use Rattle.tp_rollover.proofs.Acts.{none_more}

-- pass c can claim element i
pub record CanClaim (p : ℕ) (s : State) (c i : ℕ) : Type 0 where
  pub one_of : c < p
  pub free : (pass_at s c).holding ≡ None
  pub unit : (pass_at s c).claimed < s.limits.units
  pub tries : ℕ
  pub waits : status_in s i ≡ Waiting tries
  pub item : Element
  pub born : element_of s.history i ≡ Some item
  pub served : item.stage ≢ 15

-- the pass that is to hold it can
abbrev pub CanHold : ℕ → State → Survivor → Moved → Type 0
CanHold p s one m = (c : ℕ) → one.holder ≡ Some c → CanClaim p s c m.new

module _ (p : ℕ) (s : State) (c i : ℕ) (can : CanClaim p s c i) where
  abbrev after : State
  after = with_claimed s c (record { element = can.item; status = Waiting can.tries }) (pass_at s c).turns

  goes : held_by p (Some c) i s ≡ Some after
  goes =
      let test : (nat_lt c p && is_none (pass_at s c).holding) ≡ true = ap (λ b. b && is_none (pass_at s c).holding) (le-leb (suc c) p can.one_of) ∙ ap is_none can.free in
      ap (λ b. if b then claimed_for c i s else None) test
      ∙ ap (λ z. option_and_then (λ (claimed : Work × State). Some claimed.1) (given z)) (computes s c i can.item can.unit can.born can.served ∙ ap (claim_id_at s c can.item) can.waits)

  -- what other passes are to claim they still can
  still : (d j : ℕ) → d ≢ c → j ≢ i → CanClaim p s d j → CanClaim p after d j
  still d j other apart claim =
      let event : Event = Claim c (next_unit s c) can.item.id (can.tries + 1) in
      let used : PassState = having_taken s c (work_on s c (record { element = can.item; status = Waiting can.tries })) (pass_at s c).turns in
      let same : pass_at after d ≡ pass_at s d = get_or-set_other s.passes c d used no_pass other in
      let id = element_of-id s.history i can.item can.born in
      record {
        one_of = claim.one_of;
        free = ap (λ (z : PassState). z.holding) same ∙ claim.free;
        unit = (let e = ap (λ (z : PassState). z.claimed) same in let u = claim.unit in omega arith);
        tries = claim.tries;
        waits = status_of-snoc s.limits.attempts s.history event j ∙ (if_other can.item.id j (Held (next_unit s c) (can.tries + 1)) (status_in s j) (λ at. apart (sym at ∙ id)) ∙ claim.waits);
        item = claim.item;
        born = element_of-snoc s.history event j ∙ (none_more (element_of s.history j) ∙ claim.born);
        served = claim.served;
      }

-- no two are to be held by one pass
abbrev pub AreHeldOnce : List Survivor → Type 0
AreHeldOnce [] = Unit {0}
AreHeldOnce (x ∷ xs) = ((y : Survivor) → In y xs → (c : ℕ) → x.holder ≡ Some c → y.holder ≢ Some c) × AreHeldOnce xs

all_still : (p : ℕ) (s : State) (c i low : ℕ) (can : CanClaim p s c i) → i < low → (xs : List Survivor) (ms : List Moved) → ((y : Survivor) → In y xs → y.holder ≢ Some c) → AscendFrom (λ m. m.new) low ms
    → AllZip (CanHold p s) xs ms → AllZip (CanHold p (after p s c i can)) xs ms
all_still p s c i low can less [] [] others up all = tt
all_still p s c i low can less [] (m ∷ ms) others up all = absurd all
all_still p s c i low can less (x ∷ xs) [] others up all = absurd all
all_still p s c i low can less (x ∷ xs) (m ∷ ms) others up all =
    let first = up.0 in (
      λ d is. still p s c i can d m.new (λ same. others x here (is ∙ ap Some same)) (λ same. omega (arith, less, first, same)) (all.0 d is),
      all_still p s c i (m.new + 1) can (omega (arith, less, first)) xs ms (λ y q. others y (there q)) up.1 all.1,
    )

abbrev AllFor : ℕ → List Survivor → List Moved → Type 0
AllFor p xs ms = (s : State) (low : ℕ) → AscendFrom (λ m. m.new) low ms → AreHeldOnce xs → AllZip (CanHold p s) xs ms → (t : State) × (all_held p xs ms s ≡ Some t)

one_and : (p : ℕ) (x : Survivor) (xs : List Survivor) (m : Moved) (ms : List Moved) → AllFor p xs ms → AllFor p (x ∷ xs) (m ∷ ms)
one_and p x xs m ms more s low up once all = go x.holder refl
  where
    go : (o : Option ℕ) → x.holder ≡ o → (t : State) × (all_held p (x ∷ xs) (m ∷ ms) s ≡ Some t)
    go None is = let t = more s (m.new + 1) up.1 once.1 all.1 in (t.0, ap (λ o. option_and_then (all_held p xs ms) (held_by p o m.new s)) is ∙ t.1)
    go (Some c) is =
        let can = all.0 c is in
        let t = more (after p s c m.new can) (m.new + 1) up.1 once.1 (all_still p s c m.new (m.new + 1) can (omega arith) xs ms (λ y q. once.0 y q c is) up.1 all.1) in
        (t.0, ap (λ o. option_and_then (all_held p xs ms) (held_by p o m.new s)) is ∙ (ap (option_and_then (all_held p xs ms)) (goes p s c m.new can) ∙ t.1))

pub all_goes : (p : ℕ) (xs : List Survivor) (ms : List Moved) → AllFor p xs ms
all_goes p [] ms s low up once all = (s, refl)
all_goes p (x ∷ xs) [] s low up once all = absurd all
all_goes p (x ∷ xs) (m ∷ ms) s low up once all = one_and p x xs m ms (all_goes p xs ms) s low up once all

-- ---- who is to hold one keeps a unit

holder_set : (o : Option ℕ) (kept : List Bool) → length (with_holder o kept) ≡ length kept
holder_set None kept = refl
holder_set (Some c) kept = go (nat_lt c (length kept))
  where
    go : (b : Bool) → length (if b then slice_set kept c true else kept) ≡ length kept
    go true = length-set kept c true
    go false = refl

stays_kept : (o : Option ℕ) (kept : List Bool) (c : ℕ) → slice_index_or kept c false ≡ true → slice_index_or (with_holder o kept) c false ≡ true
stays_kept None kept c is = is
stays_kept (Some d) kept c is = go (nat_lt d (length kept))
  where
    inside : (ks : List Bool) (n : ℕ) → slice_index_or ks n false ≡ true → n < length ks
    inside [] n is = absurd cc
    inside (k ∷ ks) zero is = omega arith
    inside (k ∷ ks) (suc n) is = let h = inside ks n is in omega (arith, h)

    go : (b : Bool) → slice_index_or (if b then slice_set kept d true else kept) c false ≡ true
    go true = elim (eqb_tells c d) [
      | inl e ↦ ap (λ n. slice_index_or (slice_set kept d true) n false) e.1 ∙ get_or-set_same kept d true false (subst (λ n. n < length kept) e.1 (inside kept c is))
      | inr e ↦ get_or-set_other kept d c true false e.1 ∙ is
    ]
    go false = is

abbrev keeping : List Bool → List Survivor → List Bool
keeping kept xs = fold (λ ks (x : Survivor). with_holder x.holder ks) kept xs

kept_on : (kept : List Bool) (xs : List Survivor) (c : ℕ) → slice_index_or kept c false ≡ true → slice_index_or (keeping kept xs) c false ≡ true
kept_on kept [] c is = is
kept_on kept (x ∷ xs) c is = kept_on (with_holder x.holder kept) xs c (stays_kept x.holder kept c is)

kept_in : (kept : List Bool) (xs : List Survivor) (x : Survivor) (c : ℕ) → In x xs → x.holder ≡ Some c → c < length kept → slice_index_or (keeping kept xs) c false ≡ true
kept_in kept [] x c q is less = absurd (in_none q)
kept_in kept (y ∷ xs) x c q is less = ⊎_elim
    (λ e. kept_on (with_holder y.holder kept) xs c
    (let held : y.holder ≡ Some c = ap (λ (z : Survivor). z.holder) (sym e) ∙ is in
    subst (λ o. slice_index_or (with_holder o kept) c false ≡ true) (sym held)
    (ap (λ b. slice_index_or (if b then slice_set kept c true else kept) c false) (le-leb (suc c) (length kept) less) ∙ get_or-set_same kept c true false less)))
    (λ r. kept_in (with_holder y.holder kept) xs x c r is (let e = holder_set y.holder kept in omega (arith, e, less)))
    (in_cons q)

length_replicate : {A : Type 0} (n : ℕ) (x : A) → length (replicate n x) ≡ n
length_replicate zero x = refl
length_replicate (suc n) x = let e = length_replicate n x in omega arith

pub is_kept : (xs : List Survivor) (x : Survivor) (c : ℕ) → In x xs → x.holder ≡ Some c → c < MAX_PASSES → slice_index_or (kept_for xs) c false ≡ true
is_kept xs x c q is less = kept_in (replicate MAX_PASSES false) xs x c q is (let e = length_replicate MAX_PASSES false in omega (arith, e, less))
