-- A crew in a new manager.
use Rattle.std.proofs.Common.{◌≡◌, ◌∙◌, ◌+◌, ◌≤◌, arith, ℕ, List, [], ◌∷◌, Option, All, refl, sym, ap, subst, length, zip}
use Rattle.std.specs.List.{AllZip}
use Rattle.std.proofs.lemmas.List.Elements.{All-cons, All-nil}
use Rattle.std.specs.declared.alloc.Global.{Global}
use Rattle.std.specs.declared.dyn_box.DynBox.{DynBox}
use Rattle.tp_model.specs.declared.event.Event.{Event}
use Rattle.tp_model.specs.declared.types.Limits.{Limits}
use Rattle.tp_model.specs.History.{In, here, there}
use Rattle.tp_model.specs.Passes.{IsPassView}
use Rattle.tp_server.specs.Behaviour.{Behaviour}
use Rattle.tp_server.specs.Pending.{Pending}
use Rattle.tp_manager.specs.Accounts.{AreAll, steps_together}
use Rattle.tp_manager.specs.Bounds.{gather_steps}
use Rattle.tp_manager.specs.Shown.{IsOf, KeeperShown, ManagerShown, PassShown, view_in}
use Rattle.tp_rollover.specs.Thread.{AreTogether, HasSeen, Stays}
use Rattle.tp_rollover.specs.Bounds.{AllMake, alive_after, survey_steps}
use Rattle.tp_rollover.specs.Faults.{AreFree}
use Rattle.tp_rollover.specs.Managed.{IsManaged}
use Rattle.tp_workers.specs.Free.{IsFreePass}
use Rattle.tp_crew.specs.declared.crew.Crew.{Crew}
use Rattle.tp_crew.specs.Crew.{IsSteadyCrew, folds}
use Rattle.tp_crew.specs.CrewPasses.{ShowsAsPass, desks_in}
use Rattle.tp_crew.specs.Rolling.{RefusedSteps}
use Rattle.tp_rollover.specs.Answers.{Rolls}
use Rattle.tp_rollover.specs.declared.moved.Moved.{Moved}
use Rattle.tp_rollover.proofs.Assembly.{free_stays}
use Rattle.tp_rollover.proofs.Freed.{free_again}
use Rattle.tp_rollover.proofs.Sums.{all_make}
use Rattle.tp_crew.proofs.CrewLemmas.{served_new, served_same}

pub free_all : (m : ManagerShown) (ps : List PassShown) → All (IsFreePass m) ps → AreFree ps
free_all m ps all = λ k d less. (all k d less).free

pub both_all : (m : ManagerShown) (ps : List PassShown) → All (IsOf m) ps → AreFree ps → All (IsFreePass m) ps
both_all m ps own free = λ k d less. record { own = own k d less; free = free k d less }

-- passes that are together show what every pass shows
pub show_each : (l : Limits) (keeper : KeeperShown) (ps : List PassShown) (h : List Event) → AreTogether l keeper ps h → All ShowsAsPass ps
show_each l keeper ps h t = go ps t.each
  where
    go : (qs : List PassShown) → ((p : PassShown) → In p qs → HasSeen l h p) → All ShowsAsPass qs
    go [] each = All-nil ShowsAsPass
    go (q ∷ qs) each =
        let at = each q here in
        All-cons ShowsAsPass q qs (subst (λ (k : Limits). IsPassView k (view_in q)) (sym at.limits) at.shows) (go qs (λ p later. each p (there later)))

-- passes that were free and did nothing but look are free
pub stays_free : (m : ManagerShown) (ps qs : List PassShown) → AllZip Stays ps qs → All (IsFreePass m) ps → All (IsOf m) qs → All (IsFreePass m) qs
stays_free m ps qs stays free own = both_all m qs own (free_stays ps qs stays (free_all m ps free))

-- a gathering after what was refused
pub gathered_after : (l : Limits) (h : List Event) (keeper keeper1 keeper2 : KeeperShown) (olds olds1 olds2 : List PassShown) → keeper1.given ≡ l.parts → AreAll keeper1 olds1 → AreAll keeper2 olds2 → keeper2.given ≡ keeper1.given
    → steps_together olds1 olds2 + keeper2.steps ≤ keeper1.steps + gather_steps l keeper1.given → AllMake (survey_steps l l.parts (alive_after l.attempts h)) keeper olds keeper1 olds1
    → RefusedSteps l h keeper olds keeper2 olds2
gathered_after l h keeper keeper1 keeper2 olds olds1 olds2 parts all all' given gathered made =
    let e = all_make (gather_steps l keeper1.given) keeper1 keeper2 olds1 olds2 all all' given gathered in
    let f = subst (λ n. AllMake (gather_steps l n) keeper1 olds1 keeper2 olds2) parts e in
    omega (arith, f, made)

-- its passes are free in the new manager too
pub rolled_free : (l k : Limits) (m m' : ManagerShown) (old' new' : KeeperShown) (olds olds' news : List PassShown) (moved : List Moved) → Rolls l k old' new' olds olds' news moved → All (IsFreePass m) olds → All (IsOf m') news → All (IsFreePass m') news
rolled_free l k m m' old' new' olds olds' news moved rolls free own = both_all m' news own (free_again l k old' new' olds olds' news moved rolls (free_all m olds free))

module _ {X : Type 0} {F : X → Type 0} (behaviour : DynBox X Global F → Behaviour) (registers : DynBox X Global F → List ℕ)
    (pending : DynBox X Global F → Option Pending) where
  pub rolled_steady : (old new : Crew X F) (l : Limits) (h : List Event) → IsSteadyCrew behaviour registers pending old
      → new.boxes ≡ old.boxes → new.clients ≡ old.clients → new.managed.manager.limits ≡ old.managed.manager.limits
      → IsManaged new.managed → All (IsFreePass new.managed.manager) new.managed.passes.items
      → AreTogether l new.managed.keeper new.managed.passes.items h
      → length new.starts.items ≡ length old.starts.items → folds new ≡ zip (desks_in (length old.boxes.items) new.managed.passes.items) old.boxes.items
      → IsSteadyCrew behaviour registers pending new
  rolled_steady old new l seen h boxes clients limits managed free together starts begins =
      let us : new.boxes.items ≡ old.boxes.items = ap (λ v. v.items) boxes in
      record {
        managed = managed;
        free = free;
        count = rw (us, clients) (managed.parts ∙ (ap (λ (l : Limits). l.parts) limits ∙ (sym h.managed.parts ∙ h.count)));
        clear = rw (us) h.clear;
        same_count = rw (us) (starts ∙ h.same_count);
        served = served_same behaviour registers {ps = new.managed.passes.items} begins refl us
            (served_new behaviour registers new.managed.passes.items old.boxes.items (show_each l new.managed.keeper new.managed.passes.items seen together));
      }
