-- What is found alive.
use Rattle.std.specs.Prelude.{◌≡◌, ℕ, ◌+◌, ◌<◌, Option, Some, None, List, [], ◌∷◌}
use Rattle.std.specs.List.{AllZip}
use Rattle.tp_model.specs.declared.types.Counts.{Counts}
use Rattle.tp_model.specs.declared.types.Element.{Element}
use Rattle.tp_model.specs.declared.types.Limits.{Limits}
use Rattle.tp_model.specs.declared.event.Event.{Event}
use Rattle.tp_model.specs.Counts.{counts}
use Rattle.tp_model.specs.History.{In, IsBorn, element_of, status_of}
use Rattle.tp_model.specs.Steps.{IsKillable, IsLegal, rows_of}
use Rattle.tp_manager.specs.Shown.{PassShown}
use Rattle.tp_rollover.specs.Survivors.{AreSurvivors, IsLiving, IsSurvivor}
use Rattle.tp_rollover.specs.Told.{HoldsAsSeen, ToldFirst}
use Rattle.tp_rollover.specs.declared.stops.Stop.{Stop}
use Rattle.tp_rollover.specs.declared.stops.Stop.TheVariants.{NoMemory, Full, Unequal}
use Rattle.tp_rollover.specs.declared.survivors.Survivor.{Survivor}

-- the element of this row waits or is parked
pub record StandsAlive (limit row : ℕ) (h : List Event) : Type 0 where
  pub item : Element
  pub born : element_of h row ≡ Some item
  pub alive : IsKillable (status_of limit h row)

-- the element of this row is alive
pub record StandsLiving (limit row : ℕ) (h : List Event) : Type 0 where
  pub item : Element
  pub born : element_of h row ≡ Some item
  pub living : IsLiving (status_of limit h row)

-- the id of the element of this row was found where it is alive, and only then
abbrev pub IsAliveAt : ℕ → ℕ → Option ℕ → List Event → Type 0
IsAliveAt limit row found h = ((x : Element) → element_of h row ≡ Some x
    → IsLiving (status_of limit h row) → found ≡ Some row)
    × ((id : ℕ) → found ≡ Some id → StandsLiving limit row h)

-- the same of all born elements below this row: the id of each is among these
abbrev pub AreAliveBelow : ℕ → ℕ → List ℕ → List Event → Type 0
AreAliveBelow limit row found h = (x : Element) → IsBorn h x → x.id < row
    → IsLiving (status_of limit h x.id) → In x.id found

-- and of all rows
abbrev pub AreAlive : Limits → List ℕ → List Event → Type 0
AreAlive l found h = AreAliveBelow l.attempts (rows_of l) found h

-- an account counts so many elements that wait, are parked or are held
abbrev pub CountsAlive : ℕ → Counts → Type 0
CountsAlive n c = c.waiting + c.parked + c.held ≡ n

-- these are the ids of all that are alive, if a legal history's account counts so many
abbrev pub AreAliveOf : Limits → ℕ → List ℕ → List Event → Type 0
AreAliveOf l n found h = IsLegal l h → CountsAlive n (counts l.attempts h) → AreAlive l found h

-- each of these ids is that of an element that is alive
abbrev pub AreLiving : ℕ → List ℕ → List Event → Type 0
AreLiving limit ids h = (id : ℕ) → In id ids → StandsLiving limit id h

-- what was found, as a list
abbrev pub listed : Option ℕ → List ℕ
listed None = []
listed (Some id) = id ∷ []

-- the element with this id is described so
abbrev pub IsDescribed : Limits → List Event → ℕ → Survivor → Type 0
IsDescribed l h id s = (s.id ≡ id) × IsSurvivor l h s

-- each of these is described, in their order
abbrev pub AreDescribed : Limits → List Event → List ℕ → List Survivor → Type 0
AreDescribed l h ids survivors = AllZip (IsDescribed l h) ids survivors

-- these are all that are alive, if a legal history's account counts so many
abbrev pub AreSurvivorsOf : Limits → ℕ → List Event → List Survivor → Type 0
AreSurvivorsOf l n h survivors = IsLegal l h → CountsAlive n (counts l.attempts h)
    → AreSurvivors l h survivors

-- a look at what is alive stopped: for want of memory, or since this isn't so of what the pass had seen, or
-- it has seen something new
abbrev pub StopsLooking : PassShown → PassShown → (List Event → Type 0) → Stop → Type 0
StopsLooking old new Holds NoMemory = Unit {0}
StopsLooking old new Holds Full = ⊥
StopsLooking old new Holds Unequal = HoldsAsSeen old new (λ h. ¬ Holds h)

-- the same of the first of these passes
abbrev pub StopsFirst : List PassShown → List PassShown → (List Event → Type 0) → Stop → Type 0
StopsFirst olds news Holds NoMemory = Unit {0}
StopsFirst olds news Holds Full = ⊥
StopsFirst olds news Holds Unequal = ToldFirst olds news (λ h. ¬ Holds h)
