-- What making, opening, closing and handing back answer.
use Rattle.std.specs.Prelude.{◌≡◌, ◌<◌, ◌≤◌, ℕ, ◌+◌, List, Option, Some, None, length}
use Rattle.std.specs.Arc.{arc_value}
use Rattle.tp_model.specs.Steps.{rows_of}
use Rattle.tp_model.specs.declared.types.Limits.{Limits}
use Rattle.tp_manager.specs.Calls.{Follows, HasLooked, IsQuiet, claims_in}
use Rattle.tp_manager.specs.Bounds.{meet_steps, met_steps}
use Rattle.tp_manager.specs.Meetings.{Meets}
use Rattle.covetrivet_c.specs.declared.caller.Caller.{Caller}
use Rattle.covetrivet_c.specs.declared.fault.Fault.{Fault}
use Rattle.covetrivet_c.specs.declared.home.Home.{Home}
use Rattle.covetrivet_c.specs.declared.shapes.RoomOut.{RoomOut}
use Rattle.covetrivet_c.specs.Callers.{caller_limits}
use Rattle.covetrivet_c.specs.Codes.{code_of}
use Rattle.tp_manager.specs.Shown.{PassShown, low_of}
use Rattle.tp_model.specs.declared.types.TheConstants.{REPLY_STAGE}
use Rattle.covetrivet_c.specs.Homes.{IsNewHome, IsNumberUnlent, IsUnlent, IsUnmade, LendsFirst, LendsNumber}
use Rattle.covetrivet_c.specs.Homes.{TakesHome, home_limits}

-- the handle led to nothing, and leads to a new manager with these limits; or the code says why not, and it
-- leads where it led
abbrev pub MakesHome : Limits → Option Home → Option Home → ℕ → Type 0
MakesHome l None (Some new) code = (code ≡ 0) × IsNewHome l new
MakesHome l None None code = (f : Fault) × (code ≡ code_of f) × IsUnmade l f
MakesHome l (Some old) new code = (new ≡ Some old) × (code ≡ 2)

-- nothing else of the manager has changed than which passes are at home
pub record OnlyPasses (old new : Home) : Type 0 where
  pub manager : new.manager ≡ old.manager
  pub keeper : new.keeper ≡ old.keeper
  pub moved : new.moved ≡ old.moved

-- The caller's handle led to nothing, and leads to a caller of this manager, with the pass that is lent of
-- those that were at home. Or the code says why not, and both lead where they led: no pass is lost.
abbrev pub OpensBy : (List PassShown → PassShown → List PassShown → Type 0)
    → (List PassShown → Fault → Type 0)
    → Option Home → Option Home → Option Caller → Option Caller → ℕ → Type 0
OpensBy Lends Unlent home home' (Some c) c' code = (home' ≡ home) × (c' ≡ Some c) × (code ≡ 2)
OpensBy Lends Unlent None home' None c' code = (home' ≡ None) × (c' ≡ None) × (code ≡ 1)
OpensBy Lends Unlent (Some h) (Some h') None (Some c) code = (code ≡ 0) × OnlyPasses h h'
    × (arc_value c.manager ≡ arc_value h.manager) × Lends h.passes.items c.pass h'.passes.items
OpensBy Lends Unlent (Some h) (Some h') None None code = OnlyPasses h h' × (h'.passes.items ≡ h.passes.items)
    × ((f : Fault) × (code ≡ code_of f) × Unlent h.passes.items f)
OpensBy Lends Unlent (Some h) None None c' code = ⊥

-- that is the first one
abbrev pub OpensCaller : Option Home → Option Home → Option Caller → Option Caller → ℕ → Type 0
OpensCaller home home' c c' code = OpensBy LendsFirst IsUnlent home home' c c' code

-- that is the one of this number
abbrev pub OpensNumber : ℕ → Option Home → Option Home → Option Caller → Option Caller → ℕ → Type 0
OpensNumber n home home' c c' code = OpensBy (LendsNumber n) (IsNumberUnlent n) home home' c c' code

-- the caller is of this manager, where both are open
abbrev pub IsOfHome : Option Home → Option Caller → Type 0
IsOfHome (Some h) (Some c) = arc_value c.manager ≡ arc_value h.manager
IsOfHome (Some h) None = Unit {0}
IsOfHome None c = Unit {0}

-- The caller's pass is at home, and its handle leads to nothing; or the code isn't 0, and nothing has changed:
-- it is that of a want of memory only where as many passes are at home as the manager has.
abbrev pub HandsBack : Option Home → Option Home → Option Caller → Option Caller → ℕ → Type 0
HandsBack (Some h) (Some h') (Some c) None code = (code ≡ 0) × OnlyPasses h h'
    × TakesHome c.pass h.passes.items h'.passes.items
HandsBack (Some h) (Some h') (Some c) (Some c') code = (code ≡ 3) × (c' ≡ c) × OnlyPasses h h'
    × (h'.passes.items ≡ h.passes.items) × ((home_limits h).parts ≤ length h.passes.items)
HandsBack (Some h) (Some h') None c' code = (code ≡ 1) × (h' ≡ h) × (c' ≡ None)
HandsBack (Some h) None c c' code = ⊥
HandsBack None h' c c' code = (code ≡ 1) × (h' ≡ None) × (c' ≡ c)

-- The caller's handle leads to nothing. Where both led somewhere the pass is at home, as by handing it back.
abbrev pub Closes : Option Home → Option Home → Option Caller → Option Caller → ℕ → Type 0
Closes (Some h) h' (Some c) c' code = HandsBack (Some h) h' (Some c) c' code
Closes h h' c c' code = (code ≡ 0) × (h' ≡ h) × (c' ≡ None)

-- what is written is this of the manager, which stays as it is
abbrev pub ShowsHome : {Y : Type 0} → (Home → Y) → Option Home → Option Home → ℕ → Y → Y → Type 0
ShowsHome shape (Some h) is code old new = (is ≡ Some h) × (code ≡ 0) × (new ≡ shape h)
ShowsHome shape None is code old new = (is ≡ None) × (code ≡ 1) × (new ≡ old)

-- how many elements it has room for
abbrev pub capacity_of : Home → ℕ
capacity_of h = rows_of (home_limits h)

-- what is left to the pass
abbrev pub IsRoom : Caller → RoomOut → Type 0
IsRoom c room = (room.rows ≡ c.pass.left) × (claims_in c.pass.mine + room.units ≡ (caller_limits c).units)

-- the mark of a part that is about a stage; BAD_STAGE beyond the last one
abbrev pub ShowsLow : ℕ → ℕ → Option Caller → Option Caller → ℕ → ℕ → ℕ → Type 0
ShowsLow stage part (Some c) is code old new = (is ≡ Some c)
    × (stage ≤ REPLY_STAGE → (code ≡ 0) × (new ≡ low_of c.pass stage part))
    × (REPLY_STAGE < stage → (code ≡ 6) × (new ≡ old))
ShowsLow stage part None is code old new = (is ≡ None) × (code ≡ 1) × (new ≡ old)

-- both, where they are open, are of one manager
abbrev pub IsOneManager : Option Caller → Option Caller → Type 0
IsOneManager (Some a) (Some b) = arc_value a.manager ≡ arc_value b.manager
IsOneManager (Some a) None = Unit {0}
IsOneManager None b = Unit {0}

-- each has seen what either had seen, within its steps, and neither has done anything else
pub record HaveMet (a b a' b' : Caller) : Type 0 where
  pub managers : (a'.manager ≡ a.manager) × (b'.manager ≡ b.manager)
  pub steps : Follows meet_steps a.pass a'.pass × Follows met_steps b.pass b'.pass
  pub quiet : IsQuiet a.pass a'.pass × IsQuiet b.pass b'.pass
  pub looks : HasLooked a.pass a'.pass × HasLooked b.pass b'.pass
  pub turns : (a'.pass.from ≡ a.pass.from) × (b'.pass.from ≡ b.pass.from)
  pub meets : Meets a.pass b.pass a'.pass b'.pass

-- the two have met; or one led to nothing, and both lead where they led
abbrev pub Meeting : Option Caller → Option Caller → Option Caller → Option Caller → ℕ → Type 0
Meeting (Some a) (Some b) (Some a') (Some b') code = (code ≡ 0) × HaveMet a b a' b'
Meeting (Some a) (Some b) a' b' code = ⊥
Meeting (Some a) None a' b' code = (code ≡ 1) × (a' ≡ Some a) × (b' ≡ None)
Meeting None b a' b' code = (code ≡ 1) × (a' ≡ None) × (b' ≡ b)
