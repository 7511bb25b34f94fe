-- The numbers that C gets for answers.
use Rattle.std.specs.Prelude.{ℕ}
use Rattle.tp_model.specs.declared.types.Refusal.{Refusal}
use Rattle.tp_model.specs.declared.types.Refusal.TheVariants as refusals
use Rattle.covetrivet_c.specs.declared.fault.Fault.{Fault}
use Rattle.covetrivet_c.specs.declared.fault.Fault.TheVariants as faults

abbrev pub refusal_code : Refusal → ℕ
refusal_code refusals.NoMemory = 3
refusal_code refusals.BadLimits = 4
refusal_code refusals.BadStage = 6
refusal_code refusals.NotThere = 7
refusal_code (refusals.Consumed u) = 8
refusal_code refusals.AlreadyKilled = 9
refusal_code refusals.Full = 10
refusal_code refusals.NotParked = 11
refusal_code refusals.NoRound = 12
refusal_code refusals.NotHeld = 13
refusal_code refusals.NotWaiting = 14
refusal_code refusals.NoUnit = 15

-- 0 is for what was asked, 1 for a handle that leads to nothing, 2 for one that is to be opened and isn't
-- closed; the header has 25, and those from 27 on
abbrev pub code_of : Fault → ℕ
code_of (faults.Refused r) = refusal_code r
code_of faults.NoPart = 5
code_of faults.BadStage = 6
code_of faults.Idle = 16
code_of faults.Lost = 17
code_of faults.Nothing = 18
code_of faults.Busy = 19
code_of faults.NoOpen = 20
code_of faults.TooMany = 21
code_of faults.BadDraft = 22
code_of faults.NotAll = 23
code_of faults.Unequal = 24
code_of faults.FullLost = 26
