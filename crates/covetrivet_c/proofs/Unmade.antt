-- Where a manager doesn't go on it stands as it did, and why.
use Rattle.std.proofs.Common.{inl}
use Rattle.tp_model.specs.declared.types.Limits.{Limits}
use Rattle.tp_model.specs.declared.types.Refusal.TheVariants as refusals
use Rattle.covetrivet_c.specs.declared.fault.Fault.{Fault}
use Rattle.covetrivet_c.specs.declared.fault.Fault.TheVariants as faults
use Rattle.covetrivet_c.specs.declared.home.Home.{Home}
use Rattle.covetrivet_c.specs.Homes.{IsUnmade, IsHomeUnrolled}

-- why there is no new manager
pub unmade : (h : Home) (l : Limits) (f : Fault) → IsUnmade l f → IsHomeUnrolled h l f
unmade h l (faults.Refused refusals.NoMemory) why = tt
unmade h l (faults.Refused refusals.BadLimits) why = inl why
unmade h l (faults.Refused refusals.BadStage) why = absurd why
unmade h l (faults.Refused refusals.NotThere) why = absurd why
unmade h l (faults.Refused (refusals.Consumed u)) why = absurd why
unmade h l (faults.Refused refusals.AlreadyKilled) why = absurd why
unmade h l (faults.Refused refusals.Full) why = absurd why
unmade h l (faults.Refused refusals.NotParked) why = absurd why
unmade h l (faults.Refused refusals.NoRound) why = absurd why
unmade h l (faults.Refused refusals.NotHeld) why = absurd why
unmade h l (faults.Refused refusals.NotWaiting) why = absurd why
unmade h l (faults.Refused refusals.NoUnit) why = absurd why
unmade h l faults.BadStage why = absurd why
unmade h l faults.Busy why = absurd why
unmade h l faults.NoOpen why = absurd why
unmade h l faults.TooMany why = absurd why
unmade h l faults.BadDraft why = absurd why
unmade h l faults.Idle why = absurd why
unmade h l faults.Lost why = absurd why
unmade h l faults.Nothing why = absurd why
unmade h l faults.NoPart why = absurd why
unmade h l faults.NotAll why = absurd why
unmade h l faults.Unequal why = absurd why
unmade h l faults.FullLost why = absurd why
