-- What stopped a restoration: nothing is computed, or it isn't as described.
use Rattle.std.proofs.Common.{◌≡◌, ◌≢◌, ℕ, ◌<◌, ◌≤◌, All, Option, Some, None, Result, Ok, Err, IfErr, IfOk, List, length, refl, sym, ◌∙◌, subst}
use Rattle.std.specs.List.{AllZip}
use Rattle.std.specs.Result.{IsErrAnd}
use Rattle.tp_model.specs.Counts.{counts}
use Rattle.tp_model.specs.declared.types.Limits.{Limits}
use Rattle.tp_model.specs.declared.event.Event.{Event}
use Rattle.tp_plain.specs.OneThread.{State, pass_at}
use Rattle.tp_manager.specs.Accounts.{AreAll, Gathers}
use Rattle.tp_manager.specs.Shown.{IsOf, KeeperShown, ManagerShown, PassShown}
use Rattle.tp_rollover.specs.Thread.{Stays, thread_of}
use Rattle.tp_rollover.proofs.AloneIdle.{alone_idle}
use Rattle.tp_rollover.specs.Alike.{StandAlike}
use Rattle.tp_rollover.specs.Anew.{made_anew, made_unheld}
use Rattle.tp_rollover.specs.Carries.{DiffersAnew, IsMadeAlike}
use Rattle.tp_rollover.specs.Checks.{CountsOnly}
use Rattle.tp_rollover.specs.Faults.{AreFree}
use Rattle.tp_rollover.specs.Finding.{StopsFirst}
use Rattle.tp_rollover.specs.Lone.{Agrees, AgreesUnless, AreLone}
use Rattle.tp_rollover.specs.Told.{ToldFirst}
use Rattle.tp_rollover.specs.declared.moved.Moved.{Moved}
use Rattle.tp_rollover.specs.declared.stops.Stop.{Stop}
use Rattle.tp_rollover.specs.declared.stops.Stop.TheVariants as stops
use Rattle.tp_rollover.specs.declared.survivors.Survivor.{Survivor}
use Rattle.tp_rollover.proofs.Assembly.{gathered, nothing_happened}
use Rattle.tp_rollover.proofs.GivingUp.{hand_is}
use Rattle.tp_rollover.proofs.MadeAnew.{made_so_far}

none_some : {A : Type 0} (o : Option A) (x : A) → o ≡ None → o ≡ Some x → ⊥
none_some o x none some = let q : None ≡ Some x = sym none ∙ some in absurd cc

same_pair : (o : Option (List Moved × State)) (x y : List Moved × State) → o ≡ Some x → o ≡ Some y → x ≡ y
same_pair o x y e f = let q : Some x ≡ Some y = sym e ∙ f in cc

-- ---- the error of a call, where all that follows is computed of what it is

module _ {A B C D : Type 0} (value : A → B) (value' : C → D) (computed : Option B) (computed' : Option D) (Wrong' : Type 0) (none : computed ≡ None → computed' ≡ None) where
  unless_at : (Wrong : Type 0) (why : Stop) → (Wrong → Wrong') → AgreesUnless Wrong (Err why) value computed → AgreesUnless Wrong' (Err why) value' computed'
  unless_at Wrong stops.NoMemory on e = tt
  unless_at Wrong stops.Full on e = none e
  unless_at Wrong stops.Unequal on e = on e

  pub unless_first : (Wrong : Type 0) (r : Result C Stop) (why : Stop) → IsErrAnd r (λ e. e ≡ why) → (Wrong → Wrong') → AgreesUnless Wrong (Err why) value computed → AgreesUnless Wrong' r value' computed'
  unless_first Wrong (Ok x) why is on e = absurd is
  unless_first Wrong (Err y) why is on e = subst (λ z. AgreesUnless {A = C} Wrong' (Err z) value' computed') (sym is) (unless_at Wrong why on e)

  none_at : (why : Stop) → (computed' ≡ None → Wrong') → Agrees (Err why) value computed → AgreesUnless Wrong' (Err why) value' computed'
  none_at stops.NoMemory on e = tt
  none_at stops.Full on e = none e
  none_at stops.Unequal on e = on (none e)

  pub none_first : (r : Result C Stop) (why : Stop) → IsErrAnd r (λ e. e ≡ why) → (computed' ≡ None → Wrong') → Agrees (Err why) value computed → AgreesUnless Wrong' r value' computed'
  none_first (Ok x) why is on e = absurd is
  none_first (Err y) why is on e = subst (λ z. AgreesUnless {A = C} Wrong' (Err z) value' computed') (sym is) (none_at why on e)

-- ---- where nothing is computed

module _ (l : Limits) (p : ℕ) (survivors : List Survivor) (s : State) where
  pub none_unheld : made_unheld l p survivors s ≡ None → DiffersAnew l p survivors s
  none_unheld none fit alike = none_some (made_unheld l p survivors s) (alike.moved, alike.unheld) none alike.made

  pub none_anew : made_anew l p survivors s ≡ None → DiffersAnew l p survivors s
  none_anew none fit alike = none_some (made_anew l p survivors s) (alike.moved, alike.after) none (made_so_far l p p survivors s alike.unheld alike.moved refl alike.made alike.after alike.held)

  -- ---- where it isn't as described

  module _ (moved : List Moved) (unheld : State) (made : made_unheld l p survivors s ≡ Some (moved, unheld)) where
    abbrev made_one : List Moved × State
    made_one = (moved, unheld)

    abbrev made_in : IsMadeAlike l p survivors s → List Moved × State
    made_in alike = (alike.moved, alike.unheld)

    is_made : (alike : IsMadeAlike l p survivors s) → made_in alike ≡ made_one
    is_made alike = same_pair (made_unheld l p survivors s) (made_in alike) made_one alike.made made

    pub differs_count : ¬ CountsOnly (length moved) (counts s.limits.attempts unheld.history) → DiffersAnew l p survivors s
    differs_count not fit alike = not (subst (λ (x : List Moved × State). CountsOnly (length x.0) (counts s.limits.attempts x.1.history)) (is_made alike) alike.only)

    pub differs_one : ¬ StandAlike s.limits.attempts unheld.history survivors moved → DiffersAnew l p survivors s
    differs_one not fit alike = not (subst (λ (x : List Moved × State). StandAlike s.limits.attempts x.1.history survivors x.0) (is_made alike) alike.alike)

    -- why the looks stopped
    pub stops_alike : {A : Type 0} (stop : Stop) (value : A → List Moved × State) (ps qs : List PassShown) → StopsFirst ps qs (λ h. StandAlike s.limits.attempts h survivors moved) stop
        → (ToldFirst ps qs (λ h. ¬ StandAlike s.limits.attempts h survivors moved) → ¬ StandAlike s.limits.attempts unheld.history survivors moved) → AgreesUnless {A = A} (DiffersAnew l p survivors s) (Err stop) value (made_unheld l p survivors s)
    stops_alike stops.NoMemory value ps qs stops_for told = tt
    stops_alike stops.Full value ps qs stops_for told = absurd stops_for
    stops_alike stops.Unequal value ps qs stops_for told = differs_one (told stops_for)

  -- ---- so it is told

  pub differs_for : {A : Type 0} (stop : Stop) (value : A → List Moved × State) → stop ≢ stops.NoMemory → AgreesUnless {A = A} (DiffersAnew l p survivors s) (Err stop) value (made_anew l p survivors s) → DiffersAnew l p survivors s
  differs_for stops.NoMemory value not e = absurd (not refl)
  differs_for stops.Full value not e = none_anew e
  differs_for stops.Unequal value not e = e

  pub differs_so : {A : Type 0} (r : Result A Stop) (value : A → List Moved × State) (P : Stop → Type 0) → AgreesUnless (DiffersAnew l p survivors s) r value (made_anew l p survivors s)
      → ((stop : Stop) → (stop ≢ stops.NoMemory → DiffersAnew l p survivors s) → P stop) → IfErr r P
  differs_so (Ok x) value P e so = tt
  differs_so {A = A} (Err stop) value P e so = so stop (λ not. differs_for {A = A} stop value not e)

-- ---- what the account counts, and what the looks find

module _ (m : ManagerShown) (n : ℕ) (k k' : KeeperShown) (ps qs : List PassShown) (is : AreLone m k ps) (g : Gathers m.limits n k k' ps qs) (all : AreAll k' qs) (kept : k'.given ≡ k.given) (own : All (IsOf m) qs) where
  pub seen_same : k'.seen ≡ k.seen
  seen_same = let t = gathered m n k k' ps qs g all kept own in (alone_idle m.limits k k' ps qs k.seen k'.seen is.together t.1 t.0).0

  pub held_told : (c : ℕ) (k2 : KeeperShown) (rs ts : List PassShown) (P : List Event → Type 0) → AllZip Stays qs rs → Gathers m.limits c k' k2 rs ts → AreAll k2 ts → k2.given ≡ k'.given → All (IsOf m) ts → 1 ≤ length qs → ToldFirst qs rs P → P k'.seen
  held_told c k2 rs ts P stay g2 all2 kept2 own2 some told =
      let t = gathered m n k k' ps qs g all kept own in
      let t2 = gathered m c k' k2 rs ts g2 all2 kept2 own2 in
      let no = nothing_happened m.limits k' k2 qs rs ts k'.seen k2.seen t.0 stay t2.1 t2.0 some in
      subst P no.1 (told no.2)

-- ---- passes that have nothing in hand

pub all_free : (l : Limits) (ps : List PassShown) (h : List Event) → ((c : ℕ) → c < length ps → (pass_at (thread_of l ps h) c).holding ≡ None) → AreFree ps
all_free l ps h free c d less = sym (hand_is l ps h c d less) ∙ free c less

-- ---- what was done is what is computed

pub unless_so : {A B : Type 0} (r : Result A Stop) (value : A → B) (computed : Option B) (Wrong : Type 0) (P : A → Type 0) → AgreesUnless Wrong r value computed → ((x : A) → computed ≡ Some (value x) → P x) → IfOk r P
unless_so (Ok x) value computed Wrong P agrees so = so x agrees
unless_so (Err e) value computed Wrong P agrees so = tt
