-- All passes of a manager.
use Rattle.std.proofs.Common.{◌≡◌, ℕ, ◌+◌, ◌*◌, ◌≤◌, All, Option, Some, Err, List, [], ◌∷◌, ◌++◌, sym, ◌∙◌, ap, subst, arith, length, refl, ⊎_elim}
use Rattle.std.proofs.lemmas.List.{length-append, with_items_is}
use Rattle.std.specs.Vec.{with_items}
use Rattle.tp_model.specs.declared.types.Limits.{Limits}
use Rattle.tp_model.specs.Steps.{AreLimits}
use Rattle.tp_manager.specs.Accounts.{AreAll, AreNumberedFrom}
use Rattle.tp_plain.specs.OneThread.{start}
use Rattle.tp_manager.specs.Shown.{IsKeptBy, IsOf, KeeperShown, ManagerShown, PassShown}
use Rattle.tp_rollover.specs.Thread.{IsFresh, thread_of}
use Rattle.tp_rollover.specs.Anew.{made_anew}
use Rattle.tp_rollover.specs.Answers.{Rolls}
use Rattle.tp_rollover.specs.Survivors.{Restores}
use Rattle.tp_rollover.specs.Carries.{AreFresh, Carries, DiffersAnew, IsAsComputed, IsUncomputed, WouldNotFit}
use Rattle.tp_rollover.specs.Faults.{IsDue, IsRestoreDue, MayBegin, fault_anew, fault_of}
use Rattle.tp_rollover.specs.Lone.{AgreesUnless, lone}
use Rattle.tp_rollover.specs.Managed.{FindsRoom, IsManaged, IsNewPass, IsRefusedFor, IsUnrestored}
use Rattle.tp_rollover.specs.declared.managed.Managed.{Managed}
use Rattle.tp_rollover.specs.declared.moved.Moved.{Moved}
use Rattle.tp_rollover.specs.declared.moved.RollFault.{RollFault}
use Rattle.tp_rollover.specs.declared.moved.RollFault.TheVariants.{BadLimits, Busy, Full, NoMemory, NoPass, Unequal}
use Rattle.tp_rollover.specs.declared.stops.Stop.{Stop}
use Rattle.tp_rollover.specs.declared.stops.Stop.TheVariants as stops
use Rattle.tp_rollover.specs.declared.survivors.Survivor.{Survivor}
use Rattle.tp_rollover.proofs.Assembly.{all_in}

-- one pass more, with the next number
from_more : (c : ℕ) (ps : List PassShown) (p : PassShown) → p.number ≡ c + length ps → AreNumberedFrom c ps → AreNumberedFrom c (ps ++ p ∷ [])
from_more c [] p next all = (omega (arith, next), tt)
from_more c (q ∷ ps) p next all = (all.0, from_more (c + 1) ps p (omega (arith, next)) all.1)

pub all_more : (old new : KeeperShown) (ps : List PassShown) (p : PassShown) → p.number ≡ old.given → new.given ≡ old.given + 1 → AreAll old ps → AreAll new (ps ++ p ∷ [])
all_more old new ps p next given all =
    let long = length-append ps (p ∷ []) in
    (omega (arith, long, all.0, given), from_more 0 ps p (omega (arith, next, all.0)) all.1)

-- the faults that a manager with all its passes can meet
not_empty : (ps : List PassShown) → 1 ≤ length ps → ps ≡ [] → ⊥
not_empty ps some none = let e = ap length none in omega (arith, some, e)

pub refused_for : (l k : Limits) (olds news : List PassShown) (fault : RollFault) → k.attempts ≡ l.attempts → 1 ≤ length olds → 1 ≤ length news
    → AreLimits k → AreFresh k news → (WouldNotFit l olds (length news) (start k) → WouldNotFit l olds l.parts (start l)) → IsDue l k olds news fault → IsRefusedFor l olds fault
refused_for l k olds news NoMemory same some some' limits fresh unfit due = tt
refused_for l k olds news BadLimits same some some' limits fresh unfit due = due same
refused_for l k olds news NoPass same some some' limits fresh unfit due = ⊎_elim (λ none. not_empty olds some none) (λ none. not_empty news some' none) due.1
refused_for l k olds news Busy same some some' limits fresh unfit due = due
refused_for l k olds news Full same some some' limits fresh unfit due = unfit (due.1 limits fresh)
refused_for l k olds news Unequal same some some' limits fresh unfit due = due

-- none of these, where there is room and memory
pub not_refused : (l : Limits) (passes : List PassShown) (fault : RollFault) → (fault ≡ NoMemory → ⊥) → FindsRoom l passes → IsRefusedFor l passes fault → ⊥
not_refused l passes NoMemory memory room due = memory refl
not_refused l passes BadLimits memory room due = due
not_refused l passes NoPass memory room due = due
not_refused l passes Busy memory room due = due
not_refused l passes Full memory room due = room due
not_refused l passes Unequal memory room due = due

-- and those that none of descriptions can be made for
pub unrestored_for : (l k : Limits) (survivors : List Survivor) (news : List PassShown) (fault : RollFault) → AreLimits l → 1 ≤ length news → IsRestoreDue k survivors news fault → IsUnrestored l fault
unrestored_for l k survivors news NoMemory limits some due = limits
unrestored_for l k survivors news BadLimits limits some due = absurd due
unrestored_for l k survivors news NoPass limits some due = absurd (not_empty news some due)
unrestored_for l k survivors news Busy limits some due = absurd due
unrestored_for l k survivors news Full limits some due = limits
unrestored_for l k survivors news Unequal limits some due = limits

-- what doesn't fit into a manager with the same limits, by as many passes
pub unfit_same : (l k : Limits) (p q : ℕ) (olds : List PassShown) → k ≡ l → q ≡ p → WouldNotFit l olds q (start k) → WouldNotFit l olds p (start l)
unfit_same l k p q olds same long unfit = subst (λ n. WouldNotFit l olds n (start l)) long (subst (λ z. WouldNotFit l olds q (start z)) same unfit)

-- nor does what is described otherwise
pub differ_anew : (l k : Limits) (p q : ℕ) (survivors : List Survivor) → k ≡ l → q ≡ p → DiffersAnew k q survivors (start k) → DiffersAnew l p survivors (start l)
differ_anew l k p q survivors same long differs = subst (λ n. DiffersAnew l n survivors (start l)) long (subst (λ z. DiffersAnew z q survivors (start z)) same differs)

pub uncomputed_anew : (l k : Limits) (p q : ℕ) (survivors : List Survivor) → k ≡ l → q ≡ p → IsUncomputed k q survivors (start k) → IsUncomputed l p survivors (start l)
uncomputed_anew l k p q survivors same long none = subst (λ n. IsUncomputed l n survivors (start l)) long (subst (λ z. IsUncomputed z q survivors (start z)) same none)

-- a fault that comes after the first calls is due
pub late_due : (l k : Limits) (olds news : List PassShown) (stop : Stop) → MayBegin l k olds news
    → ((stop ≡ stops.NoMemory → ⊥) → AreLimits k → AreFresh k news → WouldNotFit l olds (length news) (start k)) → IsDue l k olds news (fault_anew stop)
late_due l k olds news stops.NoMemory may unfit = may
late_due l k olds news stops.Full may unfit = (may, unfit (λ is. cc))
late_due l k olds news stops.Unequal may unfit = (may, unfit (λ is. cc))

pub restore_due : (k : Limits) (survivors : List Survivor) (news : List PassShown) (stop : Stop)
    → (stop ≡ stops.Unequal → AreFresh k news → DiffersAnew k (length news) survivors (start k) × (AreLimits k → IsUncomputed k (length news) survivors (start k))) → IsRestoreDue k survivors news (fault_of stop)
restore_due k survivors news stops.NoMemory differs = tt
restore_due k survivors news stops.Full differs = tt
restore_due k survivors news stops.Unequal differs = differs refl

-- where it is told as full nothing is computed
pub as_computed : {A C B : Type 0} (stop : Stop) (Wrong : Type 0) (value : A → B) (value' : C → B) (computed : Option B) → AgreesUnless Wrong (Err stop) value computed → IsAsComputed (Err (fault_of stop)) value' computed
as_computed stops.NoMemory Wrong value value' computed agrees = tt
as_computed stops.Full Wrong value value' computed agrees = agrees
as_computed stops.Unequal Wrong value value' computed agrees = tt

-- passes that are new are fresh
fresh_new : (m : ManagerShown) (p : PassShown) → IsNewPass p → IsOf m p → IsFresh m.limits p
fresh_new m p new own = record {
  mine = new.mine;
  open_unit = new.open_unit;
  next = new.next ∙ ap (λ (l : Limits). p.number * l.rows) own.1;
  left = new.left ∙ ap (λ (l : Limits). l.rows) own.1;
  blocks = new.blocks;
  turn = new.turn;
}

pub all_fresh : (m : ManagerShown) (ps qs : List PassShown) → ps ≡ qs → All IsNewPass qs → All (IsOf m) qs → AreFresh m.limits ps
all_fresh m ps qs same new own = subst (AreFresh m.limits) (sym same) (λ p q. fresh_new m p (all_in IsNewPass qs p new q) (all_in (IsOf m) qs p own q))

-- a fault comes of what is the same
pub fault_same : {A B C : Type 0} (fault : RollFault) (value : A → C) (value' : B → C) (computed computed' : Option C) → computed' ≡ computed → IsAsComputed (Err fault) value computed → IsAsComputed (Err fault) value' computed'
fault_same NoMemory value value' computed computed' same made = tt
fault_same BadLimits value value' computed computed' same made = tt
fault_same NoPass value value' computed computed' same made = tt
fault_same Busy value value' computed computed' same made = tt
fault_same Full value value' computed computed' same made = same ∙ made
fault_same Unequal value value' computed computed' same made = tt

-- what is made in a manager with the same limits, by as many passes
pub made_same : (l k : Limits) (p q : ℕ) (survivors : List Survivor) → k ≡ l → q ≡ p → made_anew l p survivors (start l) ≡ made_anew k q survivors (start k)
made_same l k p q survivors same long = ap (λ n. made_anew l n survivors (start l)) (sym long) ∙ ap (λ z. made_anew z q survivors (start z)) (sym same)

-- the same manager, with as many passes, after calls by them
module _ (m : Managed) (keeper : KeeperShown) (qs : List PassShown) (h : IsManaged m) (kept : IsKeptBy m.manager keeper) (given : keeper.given ≡ m.keeper.given) (own : All (IsOf m.manager) qs)
    (all : AreAll keeper qs) where
  as_long : length qs ≡ length m.passes.items
  as_long = all.0 ∙ (given ∙ sym h.all.0)

  pub again_is : (with_items m.passes qs).items ≡ qs
  again_is = with_items_is m.passes qs (as_long ∙ sym m.passes.ok.0)

  pub managed_again : IsManaged (record { manager = m.manager; keeper = keeper; passes = with_items m.passes qs })
  managed_again = record {
    keeper = kept;
    limits = h.limits;
    own = subst (All (IsOf m.manager)) (sym again_is) own;
    all = subst (AreAll keeper) (sym again_is) all;
    parts = ap length again_is ∙ (as_long ∙ h.parts);
  }

  -- and what was carried over into it
  pub carries_again : (l : Limits) (p : ℕ) (olds : List PassShown) (moved : List Moved) → m.manager.limits ≡ l → p ≡ l.parts → Carries l olds p (start m.manager.limits) moved (lone m.manager keeper qs)
      → Carries l olds l.parts (start l) moved (thread_of l (with_items m.passes qs).items keeper.seen)
  carries_again l p olds moved same long carries =
      let t = subst (λ n. Carries l olds n (start m.manager.limits) moved (lone m.manager keeper qs)) long carries in
      let u = subst (λ z. Carries l olds l.parts (start z) moved (thread_of z qs keeper.seen)) same t in
      subst (λ ps. Carries l olds l.parts (start l) moved (thread_of l ps keeper.seen)) (sym again_is) u

  -- or was made alive in it
  pub made_again : (l : Limits) (p : ℕ) (survivors : List Survivor) (moved : List Moved) → m.manager.limits ≡ l → p ≡ l.parts → made_anew m.manager.limits p survivors (start m.manager.limits) ≡ Some (moved, lone m.manager keeper qs)
      → made_anew l l.parts survivors (start l) ≡ Some (moved, thread_of l (with_items m.passes qs).items keeper.seen)
  made_again l p survivors moved same long made =
      let t = subst (λ n. made_anew m.manager.limits n survivors (start m.manager.limits) ≡ Some (moved, lone m.manager keeper qs)) long made in
      let u = subst (λ z. made_anew z l.parts survivors (start z) ≡ Some (moved, thread_of z qs keeper.seen)) same t in
      subst (λ ps. made_anew l l.parts survivors (start l) ≡ Some (moved, thread_of l ps keeper.seen)) (sym again_is) u
