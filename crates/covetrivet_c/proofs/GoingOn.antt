-- How a manager goes on in the next one, and why it doesn't.
use Rattle.std.proofs.Common.{◌≡◌, ◌≤◌, ◌∙◌, List, [], length, refl, ap, sym, subst, arith, inl, inr, ⊎_elim}
use Rattle.tp_model.specs.declared.types.Limits.{Limits}
use Rattle.tp_model.specs.declared.types.Refusal.TheVariants as refusals
use Rattle.tp_model.specs.Steps.{AreLimits}
use Rattle.tp_plain.specs.OneThread.{start}
use Rattle.tp_rollover.specs.Thread.{thread_of}
use Rattle.tp_manager.specs.Shown.{KeeperShown, PassShown}
use Rattle.tp_rollover.specs.Carries.{AreFresh, Carries, WouldNotFit}
use Rattle.tp_rollover.specs.declared.moved.Moved.{Moved}
use Rattle.covetrivet_c.specs.declared.fault.Fault.{Fault}
use Rattle.covetrivet_c.specs.declared.fault.Fault.TheVariants as faults
use Rattle.covetrivet_c.specs.declared.home.Home.{Home}
use Rattle.covetrivet_c.specs.Homes.{CarriesOver, HomeGoesOn, IsUncarried, IsHomeUnrolled, home_limits}

-- what was carried over, into a new manager all of whose passes were fresh
pub goes_on : (old new : Home) (k : Limits) (keeper : KeeperShown) (passes news : List PassShown)
    → home_limits new ≡ k → AreFresh k news → length news ≡ k.parts → length new.passes.items ≡ k.parts
    → CarriesOver (home_limits old) k old.keeper keeper new.keeper old.passes.items passes news new.passes.items new.moved.items
    → HomeGoesOn old new k
goes_on old new k keeper passes news limits fresh long parts over = record {
  limits = limits;
  keeper = keeper;
  passes = passes;
  given = over.given;
  rolls = over.rolls;
  all = over.all;
  parts = parts;
  computed = subst (λ n. Carries (home_limits old) old.passes.items n (start k) new.moved.items
      (thread_of k new.passes.items new.keeper.seen)) long (over.computed fresh);
}

-- no passes are some
none_of : (ps : List PassShown) (l : Limits) → length ps ≡ l.parts → 1 ≤ l.parts → ps ≡ [] → ⊥
none_of ps l long some none = let e = ap length none in omega (arith, long, some, e)

-- why it has not gone on
pub unrolled : (h : Home) (k : Limits) (news : List PassShown) (f : Fault)
    → AreLimits k → AreFresh k news → length news ≡ k.parts → 1 ≤ k.parts
    → IsUncarried (home_limits h) k h.passes.items news f → IsHomeUnrolled h k f
unrolled h k news (faults.Refused refusals.NoMemory) limits fresh long some why = tt
unrolled h k news (faults.Refused refusals.BadLimits) limits fresh long some why = inr (inl why)
unrolled h k news (faults.Refused refusals.BadStage) limits fresh long some why = absurd why
unrolled h k news (faults.Refused refusals.NotThere) limits fresh long some why = absurd why
unrolled h k news (faults.Refused (refusals.Consumed u)) limits fresh long some why = absurd why
unrolled h k news (faults.Refused refusals.AlreadyKilled) limits fresh long some why = absurd why
unrolled h k news (faults.Refused refusals.Full) limits fresh long some why =
    subst (λ n. WouldNotFit (home_limits h) h.passes.items n (start k)) long (why limits fresh)
unrolled h k news (faults.Refused refusals.NotParked) limits fresh long some why = absurd why
unrolled h k news (faults.Refused refusals.NoRound) limits fresh long some why = absurd why
unrolled h k news (faults.Refused refusals.NotHeld) limits fresh long some why = absurd why
unrolled h k news (faults.Refused refusals.NotWaiting) limits fresh long some why = absurd why
unrolled h k news (faults.Refused refusals.NoUnit) limits fresh long some why = absurd why
unrolled h k news faults.BadStage limits fresh long some why = absurd why
unrolled h k news faults.Busy limits fresh long some why = absurd why
unrolled h k news faults.NoOpen limits fresh long some why = absurd why
unrolled h k news faults.TooMany limits fresh long some why = absurd why
unrolled h k news faults.BadDraft limits fresh long some why = absurd why
unrolled h k news faults.Idle limits fresh long some why = absurd why
unrolled h k news faults.Lost limits fresh long some why = absurd why
unrolled h k news faults.Nothing limits fresh long some why =
    ⊎_elim (λ none. none) (λ none. absurd (none_of news k long some none)) why
unrolled h k news faults.NoPart limits fresh long some why = absurd why
unrolled h k news faults.NotAll limits fresh long some why = absurd why
unrolled h k news faults.Unequal limits fresh long some why = absurd why
unrolled h k news faults.FullLost limits fresh long some why = absurd why
