-- What the manager's call ensures is what C is answered.
use Rattle.std.proofs.Common.{◌≡◌, ℕ, sym, subst}
use Rattle.std.specs.Prelude.{Option, Some, Result}
use Rattle.tp_model.specs.declared.types.Limits.{Limits}
use Rattle.tp_manager.specs.Shown.{PassShown}
use Rattle.covetrivet_c.specs.declared.caller.Caller.{Caller}
use Rattle.covetrivet_c.specs.declared.fault.Fault.{Fault}
use Rattle.covetrivet_c.specs.Callers.{caller_limits}
use Rattle.covetrivet_c.specs.Told.{AnswersByCode, TellsByCode}

pub answered : {X Y : Type 0} (shape : X → Y) (Says : Limits → PassShown → PassShown → Result X Fault → Type 0)
    (was is : Option Caller) (code : ℕ) (old new : Y) (a b : Caller) (r : Result X Fault)
    → was ≡ Some a → is ≡ Some b → b.manager ≡ a.manager → TellsByCode shape r code old new
    → Says (caller_limits a) a.pass b.pass r → AnswersByCode shape Says was is code old new
answered shape Says was is code old new a b r at_first at_last same told said =
    subst (λ c. AnswersByCode shape Says c is code old new) (sym at_first)
    (subst (λ c. AnswersByCode shape Says (Some a) c code old new) (sym at_last) (same, (r, told, said)))
