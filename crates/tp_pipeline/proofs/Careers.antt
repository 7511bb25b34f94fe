-- What boxes did over several managers.
use Rattle.std.proofs.Common.{◌≡◌, ℕ, List, [], Option, Some, subst, sym, length, zip}
use Rattle.std.specs.Prelude.{slice_get}
use Rattle.std.specs.declared.alloc.Global.{Global}
use Rattle.std.specs.declared.dyn_box.DynBox.{DynBox}
use Rattle.tp_server.specs.Behaviour.{Behaviour}
use Rattle.tp_server.specs.Books.{Raises}
use Rattle.tp_server.specs.Pending.{Pending}
use Rattle.tp_crew.specs.Careers.{HasBecome, Stint}
use Rattle.tp_crew.specs.Crew.{IsSteadyCrew, folds}
use Rattle.tp_crew.specs.CrewPasses.{desks_in}
use Rattle.tp_crew.specs.declared.crew.Crew.{Crew}
use Rattle.tp_crew.proofs.Careers.{career_raised, come_same, has_become, has_begun, has_rolled}
use Rattle.tp_pipeline.specs.Books.{CrewGoesOn, HasWorked, HaveWorked, charges_in, count_in, one_payment, takings_in}
use Rattle.tp_pipeline.specs.Payments.{payment_amount, charger, shipper, payment_validator}

module _ {X : Type 0} {F : X → Type 0} (behaviour : DynBox X Global F → Behaviour) (registers : DynBox X Global F → List ℕ) where
  -- where folds go on as they were, so does all work
  pub goes_same : (old new : Crew X F) → new.starts ≡ old.starts → CrewGoesOn behaviour registers old new
  goes_same old new same = record { come = λ k u stints come. (stints, come_same behaviour registers old new k u stints same come) }

  pub goes_further : (a b c : Crew X F) → CrewGoesOn behaviour registers a b → CrewGoesOn behaviour registers b c → CrewGoesOn behaviour registers a c
  goes_further a b c first then = record {
    come = λ k u stints come.
        let next = first.come k u stints come in
        then.come k u next.0 next.1;
  }

  -- what each effect adds, all of a career add up to
  has_worked : ((ceiling : ℕ) → Raises (payment_validator ceiling) count_in one_payment) → Raises charger takings_in payment_amount
      → Raises charger charges_in one_payment → Raises shipper count_in one_payment
      → (c : Crew X F) (k : ℕ) (u : DynBox X Global F) (stints : List Stint) (h : HasBecome behaviour registers k u stints c)
      → HasWorked behaviour registers u h.box
  has_worked validated takings charges shipped c k u stints h = record {
    stints = stints;
    career = h.career;
    validated = λ ceiling is. career_raised behaviour registers (payment_validator ceiling) count_in one_payment stints u h.box (validated ceiling) is h.career;
    takings = λ is. career_raised behaviour registers charger takings_in payment_amount stints u h.box takings is h.career;
    charges = λ is. career_raised behaviour registers charger charges_in one_payment stints u h.box charges is h.career;
    shipped = λ is. career_raised behaviour registers shipper count_in one_payment stints u h.box shipped is h.career;
  }

module _ {X : Type 0} {F : X → Type 0} (behaviour : DynBox X Global F → Behaviour) (registers : DynBox X Global F → List ℕ)
    (pending : DynBox X Global F → Option Pending) where
  pub goes_rolled : (old new : Crew X F) → IsSteadyCrew behaviour registers pending old → IsSteadyCrew behaviour registers pending new
      → new.boxes ≡ old.boxes → folds new ≡ zip (desks_in (length new.boxes.items) new.managed.passes.items) new.boxes.items
      → CrewGoesOn behaviour registers old new
  goes_rolled old new h h' boxes begun =
      record { come = λ k u stints come. has_rolled behaviour registers pending old new k u stints h h' boxes begun come }

  -- from a crew that begins to one that it has become
  pub have_worked : ((ceiling : ℕ) → Raises (payment_validator ceiling) count_in one_payment) → Raises charger takings_in payment_amount
      → Raises charger charges_in one_payment → Raises shipper count_in one_payment
      → (us : List (DynBox X Global F)) (old new : Crew X F) → IsSteadyCrew behaviour registers pending old → IsSteadyCrew behaviour registers pending new
      → old.boxes.items ≡ us → folds old ≡ zip (desks_in (length us) old.managed.passes.items) us → CrewGoesOn behaviour registers old new
      → HaveWorked behaviour registers us new.boxes.items
  have_worked validated takings charges shipped us old new h h' is begun goes k u at =
      let begins = subst (λ (l : List (DynBox X Global F)). folds old ≡ zip (desks_in (length l) old.managed.passes.items) l) (sym is) begun in
      let stands = subst (λ (l : List (DynBox X Global F)). slice_get l k ≡ Some u) (sym is) at in
      let first = has_begun behaviour registers pending old k u h begins stands in
      let come = goes.come k u [] first in
      let become = has_become behaviour registers pending new k u come.0 h' come.1 in
      (become.1.box, become.1.stands, has_worked behaviour registers validated takings charges shipped new k u become.0 become.1)
