-- The roots of what stands anew lie among the rows of the two managers, so that tables of so many places hold
-- them.
use Rattle.std.proofs.Common.{◌≡◌, ℕ, zero, suc, ◌<◌, ◌≤◌, ◌==◌, false, All, Err, List, Ok, OnErr, Result, Some, get_or, subst, sym, vec_capacity, arith}
use Rattle.std.proofs.lemmas.List.Elements.{All-weaker}
use Rattle.tp_model.specs.declared.types.Limits.{Limits}
use Rattle.tp_model.specs.declared.event.Event.{Event}
use Rattle.tp_model.specs.Steps.{IsLegal, rows_of}
use Rattle.tp_model.proofs.Bridges.{element_of-id, is_born}
use Rattle.tp_model.proofs.Later.{births_inside}
use Rattle.tp_plain.specs.OneThread.{State, start}
use Rattle.tp_rollover.specs.Alike.{AllStandUnheld, StandsUnheld}
use Rattle.tp_rollover.specs.Anew.{made_unheld}
use Rattle.tp_rollover.specs.Carries.{DiffersAnew}
use Rattle.tp_rollover.specs.Fits.{IsFit}
use Rattle.tp_rollover.specs.Space.{AreWithin, HasRestoreSpace}
use Rattle.tp_rollover.specs.declared.moved.Moved.{Moved}
use Rattle.tp_rollover.specs.declared.space.RestoreSpace.{RestoreSpace}
use Rattle.tp_rollover.specs.declared.survivors.Survivor.{Survivor}
use Rattle.tp_rollover.proofs.Assembly.{all_in}
use Rattle.tp_rollover.proofs.Lists.{in_at, zip_of_right}
use Rattle.tp_rollover.proofs.MadeAlike.{differs_one}

module _ (l k : Limits) (moved : List Moved) where
  stand_within : (g : List Event) (ss : List Survivor) → IsLegal k g → All (IsFit l k) ss → AllStandUnheld k.attempts g ss moved → AreWithin (rows_of l) (rows_of k) moved
  stand_within g ss legal fit each i d less =
      let m = get_or moved i d in
      let t = zip_of_right (StandsUnheld k.attempts g) ss moved m each (in_at moved i d less) in
      let stands = t.2 in
      let old = (all_in (IsFit l k) ss t.0 fit t.1).root in
      let new = births_inside k g legal stands.request (is_born g m.new_root stands.request stands.began) in
      (subst (λ n. n < rows_of l) (sym stands.named.1) old, subst (λ n. n < rows_of k) (element_of-id g m.new_root stands.request stands.began) new)

  -- where they don't, what is computed isn't as described
  pub differs_roots : (p : ℕ) (ss : List Survivor) (unheld : State) → made_unheld l p ss (start k) ≡ Some (moved, unheld) → IsLegal k unheld.history → ¬ AreWithin (rows_of l) (rows_of k) moved → DiffersAnew l p ss (start k)
  differs_roots p ss unheld made legal not fit alike = differs_one l p ss (start k) moved unheld made (λ again. not (stand_within unheld.history ss legal fit.each again.each)) fit alike

  -- tables of so many places hold them
  pub holds_roots : (n : ℕ) (space : RestoreSpace) → HasRestoreSpace l k n space → AreWithin (rows_of l) (rows_of k) moved → AreWithin (vec_capacity space.new_roots) (vec_capacity space.old_roots) moved
  holds_roots n space has within =
      let a = has.new_roots in
      let b = has.old_roots in
      All-weaker (λ (m : Moved). (m.old_root < rows_of l) × (m.new_root < rows_of k)) (λ (m : Moved). (m.old_root < vec_capacity space.new_roots) × (m.new_root < vec_capacity space.old_roots))
      (λ m low. let c = low.0 in let d = low.1 in (omega (arith, a, c), omega (arith, b, d))) moved within

-- what is enough for more elements is enough for these
pub fewer : (l k : Limits) (n more : ℕ) (space : RestoreSpace) → n ≤ more → HasRestoreSpace l k more space → HasRestoreSpace l k n space
fewer l k n more space few has = record { moved = (let enough = has.moved in omega (arith, few, enough)); families = has.families; new_roots = has.new_roots; old_roots = has.old_roots }

-- where it failed, that is so
pub on_err : {A E : Type 0} (r : Result A E) (P : Type 0) → P → OnErr r P
on_err (Ok x) P is = tt
on_err (Err e) P is = is

pub not_none : (n : ℕ) → (n == 0) ≡ false → 0 < n
not_none zero is = absurd cc
not_none (suc n) is = omega arith
