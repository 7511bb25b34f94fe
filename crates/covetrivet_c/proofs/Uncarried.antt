-- Why nothing goes over.
use Rattle.std.proofs.Common.{List}
use Rattle.tp_model.specs.declared.types.Limits.{Limits}
use Rattle.tp_manager.specs.Shown.{PassShown}
use Rattle.tp_rollover.specs.Faults.{IsDue}
use Rattle.tp_rollover.specs.declared.moved.RollFault.{RollFault}
use Rattle.tp_rollover.specs.declared.moved.RollFault.TheVariants as rolls
use Rattle.covetrivet_c.specs.Homes.{IsUncarried, rollover_fault}

pub uncarried : (l k : Limits) (olds news : List PassShown) (f : RollFault)
    → IsDue l k olds news f → IsUncarried l k olds news (rollover_fault f)
uncarried l k olds news rolls.NoMemory due = tt
uncarried l k olds news rolls.BadLimits due = due
uncarried l k olds news rolls.NoPass due = due.1
uncarried l k olds news rolls.Busy due = absurd due
uncarried l k olds news rolls.Full due = due.1
uncarried l k olds news rolls.Unequal due = absurd due
