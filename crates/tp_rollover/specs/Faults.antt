-- Which fault a rollover is refused with. l and k are the limits of the old and of the new manager.
use Rattle.std.specs.Prelude.{◌≡◌, ◌≢◌, ◌⊎◌, All, None, List, [], length}
use Rattle.tp_model.specs.declared.types.Limits.{Limits}
use Rattle.tp_model.specs.Steps.{AreLimits}
use Rattle.tp_plain.specs.OneThread.{start}
use Rattle.tp_manager.specs.Shown.{PassShown}
use Rattle.tp_rollover.specs.Carries.{AreFresh, DiffersAnew, IsUncomputed, WouldNotFit}
use Rattle.tp_rollover.specs.declared.moved.RollFault.{RollFault}
use Rattle.tp_rollover.specs.declared.moved.RollFault.TheVariants.{NoMemory, BadLimits, NoPass, Full, Unequal}
use Rattle.tp_rollover.specs.declared.stops.Stop.{Stop}
use Rattle.tp_rollover.specs.declared.stops.Stop.TheVariants as stops
use Rattle.tp_rollover.specs.declared.survivors.Survivor.{Survivor}

-- no pass of one of the managers was given out
abbrev pub LacksPass : List PassShown → List PassShown → Type 0
LacksPass olds news = (olds ≡ []) ⊎ (news ≡ [])

-- none of these passes has a unit open
abbrev pub AreFree : List PassShown → Type 0
AreFree passes = All (λ p. p.open_unit ≡ None) passes

-- the fault of a stop
abbrev pub fault_of : Stop → RollFault
fault_of stops.NoMemory = NoMemory
fault_of stops.Full = Full
fault_of stops.Unequal = Unequal

-- What a rollover into a new manager is refused with. Where what is made isn't alike nothing is computed, and
-- that is where what is alive finds no room.
abbrev pub fault_anew : Stop → RollFault
fault_anew stops.NoMemory = NoMemory
fault_anew stops.Full = Full
fault_anew stops.Unequal = Full

-- nothing forbids the first call
abbrev pub MayBegin : Limits → Limits → List PassShown → List PassShown → Type 0
MayBegin l k olds news = (k.attempts ≡ l.attempts) × (¬ LacksPass olds news)

-- When each fault comes: the first two before any call, in this order; Full, where nothing had happened in
-- the new manager, only where what was alive finds no room in it.
abbrev pub IsDue : Limits → Limits → List PassShown → List PassShown → RollFault → Type 0
IsDue l k olds news BadLimits = k.attempts ≢ l.attempts
IsDue l k olds news NoPass = (k.attempts ≡ l.attempts) × LacksPass olds news
IsDue l k olds news NoMemory = MayBegin l k olds news
IsDue l k olds news Full = MayBegin l k olds news
    × (AreLimits k → AreFresh k news → WouldNotFit l olds (length news) (start k))
IsDue l k olds news other = ⊥

-- when each fault of a survey comes: the first one before any call
abbrev pub IsSurveyDue : List PassShown → RollFault → Type 0
IsSurveyDue passes NoPass = passes ≡ []
IsSurveyDue passes NoMemory = Unit {0}
IsSurveyDue passes other = ⊥

-- When each fault of a restoration comes: the first one before any call; Unequal, where nothing had happened
-- in the manager, only of descriptions that aren't fit, or of which what is computed isn't as they say: of
-- what was found alive, and is fit, only where nothing is computed.
abbrev pub IsRestoreDue : Limits → List Survivor → List PassShown → RollFault → Type 0
IsRestoreDue k survivors passes NoPass = passes ≡ []
IsRestoreDue k survivors passes NoMemory = Unit {0}
IsRestoreDue k survivors passes Full = Unit {0}
IsRestoreDue k survivors passes Unequal = AreFresh k passes
    → DiffersAnew k (length passes) survivors (start k)
    × (AreLimits k → IsUncomputed k (length passes) survivors (start k))
IsRestoreDue k survivors passes other = ⊥
