-- A manager all of whose passes are in one hand: after each call, or each run of requests by one pass, all
-- look together.
use Rattle.std.specs.Prelude.{◌≡◌, All, List, Option, Some, None, Result, Ok, Err}
use Rattle.tp_plain.specs.OneThread.{State}
use Rattle.tp_manager.specs.Shown.{IsKeptBy, IsOf, KeeperShown, ManagerShown, PassShown}
use Rattle.tp_rollover.specs.Thread.{AreTogether, thread_of}
use Rattle.tp_rollover.specs.Anew.{Bearing, Placing}
use Rattle.tp_rollover.specs.declared.births.Family.{Family}
use Rattle.tp_rollover.specs.declared.places.Cursor.{Cursor}
use Rattle.tp_rollover.specs.declared.stops.Stop.{Stop}
use Rattle.tp_rollover.specs.declared.stops.Stop.TheVariants.{Full, NoMemory, Unequal}

-- the keeper and the passes are this manager's, these are all that were given out, and they are together
pub record AreLone (m : ManagerShown) (keeper : KeeperShown) (passes : List PassShown) : Type 0 where
  pub kept : IsKeptBy m keeper
  pub own : All (IsOf m) passes
  pub together : AreTogether m.limits keeper passes keeper.seen

-- the manager of one thread that they are
abbrev pub lone : ManagerShown → KeeperShown → List PassShown → State
lone m keeper passes = thread_of m.limits passes keeper.seen

-- with how far the passes are used, and with the families
abbrev pub placing : ManagerShown → KeeperShown → List PassShown → Cursor → Placing
placing m keeper passes cursor = record { manager = lone m keeper passes; cursor = cursor }

abbrev pub bearing : ManagerShown → KeeperShown → List PassShown → Cursor → List Family → Bearing
bearing m keeper passes cursor families =
    record { placing = placing m keeper passes cursor; families = families }

-- What was done is what is computed. Where it stopped nothing is computed, unless it was for want of memory.
abbrev pub Agrees : {A B : Type 0} → Result A Stop → (A → B) → Option B → Type 0
Agrees (Ok x) value computed = computed ≡ Some (value x)
Agrees (Err NoMemory) value computed = Unit {0}
Agrees (Err other) value computed = computed ≡ None

-- the same, but that it may have stopped as unequal where that is so
abbrev pub AgreesUnless : {A B : Type 0} → Type 0 → Result A Stop → (A → B) → Option B → Type 0
AgreesUnless Wrong (Ok x) value computed = computed ≡ Some (value x)
AgreesUnless Wrong (Err NoMemory) value computed = Unit {0}
AgreesUnless Wrong (Err Full) value computed = computed ≡ None
AgreesUnless Wrong (Err Unequal) value computed = Wrong
