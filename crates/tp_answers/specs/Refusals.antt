-- The texts of refusals.
use Rattle.std.specs.Prelude.{ℕ, List, codes, decimal}
use Rattle.tp_store.specs.declared.answers.Refusal.{Refusal}
use Rattle.tp_store.specs.declared.answers.Refusal.TheVariants as refusal
use Rattle.tp_script.specs.Fault.{◌<>◌}

-- why a call was refused
abbrev pub refusal_name : Refusal → List ℕ
refusal_name refusal.NoMemory = codes "NoMemory"
refusal_name refusal.NoNumber = codes "NoNumber"
refusal_name refusal.BadStage = codes "BadStage"
refusal_name refusal.NotThere = codes "NotThere"
refusal_name (refusal.Consumed unit) = codes "Consumed " <> decimal unit
refusal_name refusal.AlreadyKilled = codes "AlreadyKilled"
refusal_name refusal.Full = codes "Full"
refusal_name refusal.NotParked = codes "NotParked"
refusal_name refusal.NoRound = codes "NoRound"
refusal_name refusal.NotHeld = codes "NotHeld"
refusal_name refusal.NotWaiting = codes "NotWaiting"
refusal_name refusal.Unsound = codes "Unsound"

-- the number of that reason
abbrev pub refusal_number : Refusal → ℕ
refusal_number refusal.NoMemory = 1
refusal_number refusal.NoNumber = 2
refusal_number refusal.BadStage = 3
refusal_number refusal.NotThere = 4
refusal_number (refusal.Consumed unit) = 5
refusal_number refusal.AlreadyKilled = 6
refusal_number refusal.Full = 7
refusal_number refusal.NotParked = 8
refusal_number refusal.NoRound = 9
refusal_number refusal.NotWaiting = 10
refusal_number refusal.NotHeld = 12
refusal_number refusal.Unsound = 14

-- a refused call
abbrev pub refusal_text : Refusal → List ℕ
refusal_text why = codes "refused " <> decimal (refusal_number why) <> codes " " <> refusal_name why

-- a command that needs what another one has not given back yet
abbrev pub busy_text : List ℕ
busy_text = codes "refused 11 Busy"

-- a send or a receive whose number isn't the next one
abbrev pub gap_text : List ℕ
gap_text = codes "refused 15 Gap"

-- one of an epoch that isn't the client's
abbrev pub fenced_text : List ℕ
fenced_text = codes "refused 16 Fenced"

-- the last send, with other words than it had
abbrev pub differs_text : List ℕ
differs_text = codes "refused 17 Differs"
