-- A pass takes its units in order.
use Rattle.std.proofs.Common.{◌≡◌, ℕ, ◌+◌, ◌*◌, ◌<◌, Option, None, sym, subst, arith, List}
use mathlib.Core.Logic.{dite}
use native.Mathlib.Decide.{dec_le}
use Rattle.tp_model.specs.declared.event.Event.{Event}
use Rattle.tp_model.specs.declared.trace.StepKind.TheVariants as kinds
use Rattle.tp_model.specs.declared.types.Limits.{Limits}
use Rattle.tp_model.specs.History.{IsUnused, end_of}
use Rattle.tp_model.specs.Steps.{IsUnitOf}
use Rattle.tp_rule.specs.Places.{unit_place}
use Rattle.tp_rule.specs.Doors.{Permits}
use Rattle.tp_rule.specs.Plays.{loads_unit}
use Rattle.tp_rule.specs.Rule.{HandHolds, Rule, UnitsHold}
use Rattle.tp_rule.specs.Steps.{AreInOrder, after, unchanged}
use Rattle.tp_rule.specs.Views.{HasPass}
use Rattle.tp_rule.specs.declared.view.Hand.{Hand}
use Rattle.tp_rule.specs.declared.view.View.{View}
use Rattle.tp_rule.proofs.Owning.{S}
use Rattle.tp_rule.proofs.Seats.{looks_knowing}

module _ (k : Limits) where
  -- where a unit of a pass is undecided, no later one was taken
  unused_after : (h : List Event) (c claimed : ℕ) (spare held : Option ℕ) → UnitsHold k h c claimed spare held → (u w : ℕ) → IsUnitOf k c u → IsUnitOf k c w → u < w → end_of h u ≡ None → IsUnused h w
  unused_after h c claimed spare held r u w own its less un = let low = own.1 in let top = its.2 in dite (dec_le (c * k.units + claimed) u)
      (λ past. r.unused w (omega arith) (omega arith))
      (λ not. let last = (r.in_order u low (omega arith) un).1 in r.unused w (omega arith) (omega arith))

  pub all_in_order : (s : S) (r : Rule k s) → AreInOrder k r.history
  all_in_order s r c u w own its less un = let t = r.complete c own.0 in let a : Hand = t.2 in let hold : HandHolds k r.history s.words a = (r.seats t.0 t.1 t.3).hands a t.4 in
      unused_after r.history c a.claimed a.spare_unit a.open_unit (subst (λ d. UnitsHold k r.history d a.claimed a.spare_unit a.open_unit) t.5 hold.units) u w own its less un

  -- the load of a unit's word
  pub looks_unit : (v : View) (u : ℕ) → HasPass v → Permits k v (unit_place k u) (λ n. n) (loads_unit (unit_place k u) 0 0 v)
  looks_unit v u has s r id at = let t = looks_knowing k v (unit_place k u) has s r id at v.known (r.seats id v at).known (λ x p. p) in (
    after kinds.Load unchanged r.history v.known v,
    t.0,
    (t.1, subst (λ l. AreInOrder l r.history) (sym ((r.seats id v at).limits has.0 has.1)) (all_in_order s r)),
  )
