-- A call by one of the passes, after which all look together.
use Rattle.std.proofs.Common.{◌≡◌, ℕ, zero, suc, ◌+◌, ◌<◌, ◌≤◌, All, Option, None, Err, List, [], ◌∷◌, ◌++◌, length, take, drop, get_or, slice_set, refl, ap, subst, arith, length-append}
use Rattle.std.specs.List.{AllZip}
use Rattle.tp_model.specs.declared.types.Limits.{Limits}
use Rattle.tp_plain.specs.OneThread.{State}
use Rattle.tp_manager.specs.Accounts.{AreAll, Gathers, steps_together}
use Rattle.tp_manager.specs.Bounds.{gather_steps}
use Rattle.tp_manager.specs.Calls.{Follows, steps_of}
use Rattle.tp_manager.specs.Shown.{IsKeptBy, IsOf, KeeperShown, ManagerShown, PassShown}
use Rattle.tp_rollover.specs.AloneLaws.{Law}
use Rattle.tp_rollover.specs.Thread.{Alone, Stays}
use Rattle.tp_rollover.specs.Bounds.{AllMake, PassMakes, gathered}
use Rattle.tp_rollover.specs.Lone.{Agrees, AreLone, lone}
use Rattle.tp_rollover.specs.declared.stops.Stop.{Stop}
use Rattle.tp_rollover.specs.declared.stops.Stop.TheVariants as stops
use Rattle.tp_rollover.proofs.Assembly as assembly
use Rattle.tp_rollover.proofs.Lists.{map_set_same}
use Rattle.tp_rollover.proofs.Steps.{one_makes}
use Rattle.tp_rollover.proofs.Sums.{all_make}

-- one of them stands between those before it and those behind it
pub at_place : {A : Type 0} (xs : List A) (i : ℕ) (d : A) → i < length xs → xs ≡ take i xs ++ get_or xs i d ∷ drop (suc i) xs
at_place [] i d less = absurd (omega (arith, less))
at_place (x ∷ xs) zero d less = refl
at_place (x ∷ xs) (suc i) d less = ap (λ ys. x ∷ ys) (at_place xs i d (omega (arith, less)))

pub set_place : {A : Type 0} (xs : List A) (i : ℕ) (y : A) → i < length xs → slice_set xs i y ≡ take i xs ++ y ∷ drop (suc i) xs
set_place [] i y less = absurd (omega (arith, less))
set_place (x ∷ xs) zero y less = refl
set_place (x ∷ xs) (suc i) y less = ap (λ ys. x ∷ ys) (set_place xs i y (omega (arith, less)))

pub before_place : {A : Type 0} (xs : List A) (i : ℕ) → i < length xs → length (take i xs) ≡ i
before_place [] i less = absurd (omega (arith, less))
before_place (x ∷ xs) zero less = refl
before_place (x ∷ xs) (suc i) less = ap suc (before_place xs i (omega (arith, less)))

-- whatever it stopped for, nothing was computed
pub agrees_none : {A B : Type 0} (why : Stop) (value : A → B) (computed : Option B) → computed ≡ None → Agrees (Err why) value computed
agrees_none stops.NoMemory value computed none = tt
agrees_none stops.Full value computed none = none
agrees_none stops.Unequal value computed none = none

-- after a call by one of them all can gather
pub may_gather : (keeper : KeeperShown) (ps : List PassShown) (i : ℕ) (d p : PassShown) → i < length ps → p.number ≡ (get_or ps i d).number → AreAll keeper ps → AreAll keeper (slice_set ps i p)
may_gather keeper ps i d p less same all = assembly.all_numbers keeper keeper ps (slice_set ps i p) refl (map_set_same (λ q. q.number) ps i p d less same) all

-- a call by the pass at a place, and the gathering after it
module _ (m : ManagerShown) (keeper keeper' : KeeperShown) (olds news : List PassShown) (at : ℕ) (d new : PassShown) (n q : ℕ)
    (is : AreLone m keeper olds) (less : at < length olds) (own : IsOf m new) (follows : Follows n (get_or olds at d) new)
    (gathers : Gathers m.limits q keeper keeper' (slice_set olds at new) news) (kept : IsKeptBy m keeper' × (keeper'.given ≡ keeper.given)) (owns : All (IsOf m) news) (all : AreAll keeper' news) where
  pub lone_again : AreLone m keeper' news × (keeper'.given ≡ keeper.given)
  lone_again = (
    record {
      kept = kept.0;
      own = owns;
      together = (assembly.gathered m q keeper keeper' (slice_set olds at new) news gathers all kept.1 owns).0;
    },
    kept.1,
  )

  alone : Alone m.limits keeper keeper' olds news keeper.seen keeper'.seen n at (get_or olds at d) new
  alone = let t = assembly.gathered m q keeper keeper' (slice_set olds at new) news gathers all kept.1 owns in record {
    before = is.together;
    front = take at olds;
    back = drop (suc at) olds;
    olds_are = at_place olds at d less;
    place = before_place olds at less;
    limits = own.1;
    follows = follows;
    others = subst (λ ps. AllZip Stays ps news) (set_place olds at new less) t.1;
    after = t.0;
  }

  -- so what it answers and leaves is computed
  pub computed : {A : Type 0} (Answers : Limits → PassShown → PassShown → A → Type 0) (one : State → ℕ → A × State) → Law Answers one → (answer : A) → new.from ≡ (get_or olds at d).from → Answers m.limits (get_or olds at d) new answer
      → (answer, lone m keeper' news) ≡ one (lone m keeper olds) at
  computed Answers one law answer turn says = law m.limits keeper keeper' olds news keeper.seen keeper'.seen n at (get_or olds at d) new answer alone turn says

  call_makes : PassMakes n (get_or olds at d) new
  call_makes = let long = ap length follows.traced in let more = length-append (get_or olds at d).trace (steps_of (get_or olds at d) new) in let few = follows.few in omega (arith, long, more, few)

  pub made : steps_together (slice_set olds at new) news + keeper'.steps ≤ keeper.steps + gather_steps m.limits keeper.given → AllMake (gathered m.limits keeper.given n) keeper olds keeper' news
  made together =
      let call = one_makes n olds at new d less call_makes in
      let gather = all_make (gather_steps m.limits keeper.given) keeper keeper' (slice_set olds at new) news (may_gather keeper olds at d new less follows.number is.together.all) all kept.1 together in
      omega (arith, call, gather)
