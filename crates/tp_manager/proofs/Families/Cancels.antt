-- The events of a cancel.
use Rattle.std.proofs.Common.{◌≡◌, ℕ, ◌+◌, ◌*◌, ◌≤◌, List, [], ◌∷◌, ◌++◌, length, sym, refl, ap, ◌∙◌, subst, inl, inr, ⊎_elim, arith, append_assoc, length-append, mul-le-mul_right, None}
use mathlib.Core.List.{IsPrefix}
use Rattle.tp_model.specs.declared.types.Limits.{Limits}
use Rattle.tp_model.specs.declared.event.Event.{Event}
use Rattle.tp_model.specs.declared.event.Event.TheVariants.{Enqueue, Claim, Commit, Abort, Kill, Requeue}
use Rattle.tp_model.specs.History.{here, there}
use Rattle.tp_model.specs.Families.{IsRequest}
use Rattle.tp_model.specs.Steps.{AreLimits, max_rows, rows_of}
use Rattle.tp_model.proofs.Bridges.{begins_refl, begins_trans, found_later, in_either, in_none, in_one}
use Rattle.tp_rule.specs.Views.{SeatShown, hand, view_of}
use Rattle.tp_rule.specs.declared.view.View.{View}
use Rattle.tp_manager.specs.declared.manager.Run.{Run}
use Rattle.tp_manager.specs.Shown.{Spot, PassShown, shown}
use Rattle.tp_manager.specs.Calls.{AreOfHolders, claims_in, one_claim}
use Rattle.tp_manager.specs.Cancels.{IsTarget, AreOfCancel, one_kill, kills_among, Cancels}
use Rattle.tp_manager.specs.Endings.{CancelsIn, Swept, killed_in, one_killed}
use Rattle.tp_manager.specs.Kills.{Freed, Slain}
use Rattle.tp_manager.specs.CallSteps.{Looked}
use Rattle.tp_manager.specs.BetweenCalls.{Rests}
use Rattle.tp_manager.proofs.Calls.Gains.{gained_begins, gained_few, gained_looked, gained_then, rests_gained}

-- how many rows there may be
pub few_rows : (l : Limits) → AreLimits l → rows_of l ≤ max_rows
few_rows l fair =
    let parts : l.parts ≤ 32 = fair.parts.1 in
    let rows : l.rows ≤ 256 = fair.rows.1 in
    let first : l.parts * l.rows ≤ 32 * l.rows = mul-le-mul_right l.rows parts in
    omega arith

module _ (l : Limits) (root : ℕ) where
  own_later : (c : ℕ) (s t t' : List Event) (es : List Event) → IsPrefix t t' → AreOfCancel l c root s t es → AreOfCancel l c root s t' es
  own_later c s t t' es b h e p = let r = h e p in record {
    item = r.item;
    before = r.before;
    begins = r.begins;
    target = r.target;
    does = r.does;
    within = begins_trans (r.before ++ e ∷ []) t t' r.within b;
  }

  own_sooner : (c : ℕ) (s s' t : List Event) (es : List Event) → IsPrefix s s' → AreOfCancel l c root s' t es → AreOfCancel l c root s t es
  own_sooner c s s' t es b h e p = let r = h e p in record {
    item = r.item;
    before = r.before;
    begins = begins_trans s s' r.before b r.begins;
    target = r.target;
    does = r.does;
    within = r.within;
  }

  own_both : (c : ℕ) (s t : List Event) (es fs : List Event) → AreOfCancel l c root s t es → AreOfCancel l c root s t fs → AreOfCancel l c root s t (es ++ fs)
  own_both c s t es fs a b e p = ⊎_elim (λ q. a e q) (λ q. b e q) (in_either es fs p)

  pub target_later : (i : ℕ) (a b : List Event) → IsPrefix a b → IsTarget root i a → IsTarget root i b
  target_later i a b begins t = (t.0, found_later a b begins i t.0 t.1, t.2, t.3)

  own_aborts : (c i : ℕ) (s t : List Event) (es : List Event) → IsTarget root i s → AreOfHolders l c i s t es → AreOfCancel l c root s t es
  own_aborts c i s t es target h e p = let r = h e p in record {
    item = i;
    before = r.before;
    begins = r.begins;
    target = target_later i s r.before r.begins target;
    does = inr (r.unit, r.attempt, r.is_abort, r.held);
    within = r.within;
  }

  own_kill : (c i : ℕ) (s before t : List Event) → IsTarget root i s → IsPrefix s before → t ≡ before ++ Kill c i ∷ [] → AreOfCancel l c root s t (Kill c i ∷ [])
  own_kill c i s before t target begins ends e p = record {
    item = i;
    before = before;
    begins = begins;
    target = target_later i s before begins target;
    does = inl (in_one p);
    within = subst (λ z. IsPrefix (before ++ z ∷ []) t) (sym (in_one p)) (subst (IsPrefix (before ++ Kill c i ∷ [])) (sym ends) (begins_refl (before ++ Kill c i ∷ [])));
  }

  pub own_no_claims : (c : ℕ) (s t : List Event) (es : List Event) → AreOfCancel l c root s t es → claims_in es ≡ 0
  own_no_claims c s t [] h = refl
  own_no_claims c s t (e ∷ es) h =
      let first : one_claim e ≡ 0 = ⊎_elim (λ k. ap one_claim k) (λ a. ap one_claim a.2) (h e here).does in
      let rest = own_no_claims c s t es (λ x p. h x (there p)) in
      omega arith

-- Aborts are no Kills
pub none_killed : (l : Limits) (c i : ℕ) (s t es : List Event) → AreOfHolders l c i s t es → killed_in es ≡ []
none_killed l c i s t [] h = refl
none_killed l c i s t (e ∷ es) h = ap (λ z. one_killed z ++ killed_in es) (h e here).is_abort ∙ none_killed l c i s t es (λ x p. h x (there p))

pub killed_append : (es fs : List Event) → killed_in (es ++ fs) ≡ killed_in es ++ killed_in fs
killed_append [] fs = refl
killed_append (e ∷ es) fs = ap (λ z. one_killed e ++ z) (killed_append es fs) ∙ sym (append_assoc (one_killed e) (killed_in es) (killed_in fs))

one_length : (e : Event) → one_kill e ≡ length (one_killed e)
one_length (Enqueue c x) = refl
one_length (Claim c u i n) = refl
one_length (Commit c u outs) = refl
one_length (Abort c u) = refl
one_length (Kill c i) = refl
one_length (Requeue c i k) = refl

-- there are as many Kills as elements that they kill
pub kills_are : (es : List Event) → kills_among es ≡ length (killed_in es)
kills_are [] = refl
kills_are (e ∷ es) = let one = one_length e in let rest = kills_are es in let all = length-append (one_killed e) (killed_in es) in omega arith

module _ (l : Limits) (root : ℕ) where
  pub swept_looked : (n : ℕ) (v w : View) → Looked l n v w → Swept l n root [] v w
  swept_looked n v w a = record { gained = gained_looked l n v w a; own = λ e p. absurd (in_none p) }

  pub swept_freed : (n i : ℕ) (es : List Event) (v w : View) → IsTarget root i v.seen → Freed l n i es v w → Swept l n root es v w
  swept_freed n i es v w target a = record { gained = a.gained; own = own_aborts l root (hand v).number i v.seen w.seen es target a.aborts }

  pub swept_slain : (n i : ℕ) (es : List Event) (v w : View) → IsTarget root i v.seen → Slain l n i es v w → Swept l n root (es ++ Kill (hand v).number i ∷ []) v w
  swept_slain n i es v w target a = let c = (hand v).number in record {
    gained = a.gained;
    own = own_both l root c v.seen w.seen es (Kill c i ∷ []) (own_aborts l root c i v.seen w.seen es target a.aborts) (own_kill l root c i v.seen a.before w.seen target a.begins a.ends);
  }

  pub swept_then : (n m : ℕ) (es fs : List Event) (v w y : View) → Swept l n root es v w → Swept l m root fs w y → Swept l (n + m) root (es ++ fs) v y
  swept_then n m es fs v w y a b = let c = (hand v).number in record {
    gained = gained_then l n m es fs v w y a.gained b.gained;
    own = own_both l root c v.seen y.seen es fs
        (own_later l root c v.seen w.seen y.seen es (gained_begins l m fs w y b.gained) a.own)
        (own_sooner l root c v.seen w.seen y.seen fs (gained_begins l n es v w a.gained) (subst (λ z. AreOfCancel l z root w.seen y.seen fs) a.gained.walk.number b.own));
  }

  pub swept_few : (n m : ℕ) (es : List Event) (v w : View) → n ≤ m → Swept l n root es v w → Swept l m root es v w
  swept_few n m es v w le a = record { gained = gained_few l n m es v w le a.gained; own = a.own }

  pub swept_begins : (n : ℕ) (es : List Event) (v w : View) → Swept l n root es v w → IsPrefix v.seen w.seen
  swept_begins n es v w a = gained_begins l n es v w a.gained

-- the call as a whole

module _ (l : Limits) (seat next : SeatShown) (number : ℕ) (run : Run) (used : ℕ) (same : (view_of seat).limits ≡ l) (r : Rests seat number run used None) where
  pub rests_swept : (n root : ℕ) (es : List Event) → Swept l n root es (view_of seat) (view_of next) → Rests next number run used None
  rests_swept n root es a = rests_gained l seat next number run used same r n es a.gained (own_no_claims l root (hand (view_of seat)).number _ _ es a.own)

module _ (t t' : Spot) (v w : View) (old : PassShown) (is : shown t v ≡ old) (l : Limits) (free : (hand v).open_unit ≡ None) where
  pub cancels_shown : (n root killed : ℕ) → IsRequest w.seen root → CancelsIn l n root killed v w → Cancels l root killed old (shown t' w)
  cancels_shown n root killed request a = subst (λ (p : PassShown). Cancels l root killed p (shown t' w)) is record {
    events = a.events;
    counted = kills_are a.events ∙ a.counted;
    own = a.swept.own;
    mine = a.swept.gained.mine;
    open_unit = a.swept.gained.open_unit free ∙ sym free;
    run = (a.swept.gained.run.0, a.swept.gained.run.1, a.swept.gained.run.2);
    request = request;
    settled = a.settled;
    walk = a.walk;
    in_order = a.in_order;
    whole = a.whole;
    turns = a.turns;
  }

pub request_later : (h g : List Event) (root : ℕ) → IsPrefix h g → IsRequest h root → IsRequest g root
request_later h g root begins r = (r.0, found_later h g begins root r.0 r.1, r.2)
