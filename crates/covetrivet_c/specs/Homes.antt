-- What contracts say of a manager with the passes that are at home.
use Rattle.std.specs.Prelude.{◌≡◌, ◌≢◌, ◌⊎◌, ◌==◌, ◌≤◌, ℕ, nat_le, not, zero, suc, All, None, List, [], ◌∷◌}
use Rattle.std.specs.Prelude.{length}
use Rattle.std.specs.Arc.{arc_value}
use Rattle.std.specs.List.{AllZip, insert, prefix_len, slice_index_or}
use Rattle.tp_model.specs.declared.types.Account.{Account}
use Rattle.tp_model.specs.declared.types.Counts.{Counts}
use Rattle.tp_model.specs.declared.types.Limits.{Limits}
use Rattle.tp_model.specs.declared.types.Refusal.TheVariants as refusals
use Rattle.tp_model.specs.History.{In}
use Rattle.tp_model.specs.Steps.{AreLimits}
use Rattle.tp_manager.specs.Accounts.{AreAll, Gathers}
use Rattle.tp_manager.specs.Bounds.{gather_steps}
use Rattle.tp_manager.specs.Shown.{KeeperShown, PassShown}
use Rattle.tp_plain.specs.OneThread.{start}
use Rattle.tp_rollover.specs.Thread.{Stays, thread_of}
use Rattle.tp_rollover.specs.Answers.{Rolls}
use Rattle.tp_rollover.specs.Carries.{AreFresh, Carries, WouldNotFit}
use Rattle.tp_rollover.specs.Faults.{LacksPass}
use Rattle.tp_rollover.specs.Managed.{IsNewPass}
use Rattle.tp_rollover.specs.declared.moved.Moved.{Moved}
use Rattle.tp_rollover.specs.declared.moved.RollFault.{RollFault}
use Rattle.tp_rollover.specs.declared.moved.RollFault.TheVariants as rolls
use Rattle.covetrivet_c.specs.declared.fault.Fault.{Fault}
use Rattle.covetrivet_c.specs.declared.fault.Fault.TheVariants as faults
use Rattle.covetrivet_c.specs.declared.home.Home.{Home}

-- the limits of its manager
abbrev pub home_limits : Home → Limits
home_limits h = (arc_value h.manager).limits

-- a new manager with these limits, all of whose passes are at home, and new; nothing was carried over
pub record IsNewHome (l : Limits) (h : Home) : Type 0 where
  pub limits : home_limits h ≡ l
  pub are : AreLimits l
  pub seen : h.keeper.seen ≡ []
  pub all : AreAll h.keeper h.passes.items
  pub parts : length h.passes.items ≡ l.parts
  pub new : All IsNewPass h.passes.items
  pub moved : h.moved.items ≡ []

-- why there is none
abbrev pub IsUnmade : Limits → Fault → Type 0
IsUnmade l (faults.Refused refusals.BadLimits) = ¬ AreLimits l
IsUnmade l (faults.Refused refusals.NoMemory) = Unit {0}
IsUnmade l (faults.Refused other) = ⊥
IsUnmade l other = ⊥

-- why no pass is lent
abbrev pub IsUnlent : List PassShown → Fault → Type 0
IsUnlent passes faults.NoPart = passes ≡ []
IsUnlent passes (faults.Refused refusals.NoMemory) = Unit {0}
IsUnlent passes (faults.Refused other) = ⊥
IsUnlent passes other = ⊥

-- the pass in this place is lent, and the others stay
abbrev pub LendsPlace : ℕ → List PassShown → PassShown → List PassShown → Type 0
LendsPlace place olds pass news = olds ≡ insert news place pass

-- the first one is
abbrev pub LendsFirst : List PassShown → PassShown → List PassShown → Type 0
LendsFirst olds pass news = olds ≡ pass ∷ news

-- how many first passes have another number than this
abbrev pub place_with : List PassShown → ℕ → ℕ
place_with passes number = prefix_len (λ (p : PassShown). not (p.number == number)) passes

-- the first one with this number is
abbrev pub LendsNumber : ℕ → List PassShown → PassShown → List PassShown → Type 0
LendsNumber number olds pass news =
    (pass.number ≡ number) × LendsPlace (place_with olds number) olds pass news

-- why none with this number is
abbrev pub IsNumberUnlent : ℕ → List PassShown → Fault → Type 0
IsNumberUnlent number passes faults.NoPart = All (λ (p : PassShown). p.number ≢ number) passes
IsNumberUnlent number passes (faults.Refused refusals.NoMemory) = Unit {0}
IsNumberUnlent number passes (faults.Refused other) = ⊥
IsNumberUnlent number passes other = ⊥

-- how many first passes have no higher number than this
abbrev pub place_in : List PassShown → ℕ → ℕ
place_in passes number = prefix_len (λ (p : PassShown). nat_le p.number number) passes

-- the pass is at home too, in order of number where the others were
abbrev pub TakesHome : PassShown → List PassShown → List PassShown → Type 0
TakesHome pass olds news = news ≡ insert olds (place_in olds pass.number) pass

-- in at most as many steps as a gathering takes, all have seen one history
abbrev pub HasGathered : Limits → KeeperShown → KeeperShown → List PassShown → List PassShown → Type 0
HasGathered l keeper keeper' olds news = Gathers l (gather_steps l (length olds)) keeper keeper' olds news

-- the counts of a stage, 1 to 15, and with 0 those of all stages
abbrev pub counts_of_stage : Account → ℕ → Counts
counts_of_stage a zero = a.total
counts_of_stage a (suc stage) = slice_index_or a.stages stage a.total

-- What was alive went over, held by the passes of the same numbers where it was held; and it was made anew as
-- is computed, where nothing had happened in the new manager. The keeper of the old one, with a dash, and its
-- passes show this at the last.
pub record CarriesOver (l k : Limits) (keeper keeper' new' : KeeperShown)
    (olds olds' news news' : List PassShown) (moved : List Moved) : Type 0 where
  pub given : keeper'.given ≡ keeper.given
  pub rolls : Rolls l k keeper' new' olds olds' news' moved
  pub all : AreAll new' news'
  pub computed : AreFresh k news
      → Carries l olds (length news) (start k) moved (thread_of k news' new'.seen)

-- the passes have done nothing but look
pub record StayPut (keeper keeper' : KeeperShown) (olds olds' : List PassShown) : Type 0 where
  pub given : keeper'.given ≡ keeper.given
  pub passes : AllZip Stays olds olds'

-- why nothing went over
abbrev pub IsUncarried : Limits → Limits → List PassShown → List PassShown → Fault → Type 0
IsUncarried l k olds news (faults.Refused refusals.NoMemory) = Unit {0}
IsUncarried l k olds news (faults.Refused refusals.BadLimits) = k.attempts ≢ l.attempts
IsUncarried l k olds news (faults.Refused refusals.Full) =
    AreLimits k → AreFresh k news → WouldNotFit l olds (length news) (start k)
IsUncarried l k olds news (faults.Refused other) = ⊥
IsUncarried l k olds news faults.Nothing = LacksPass olds news
IsUncarried l k olds news other = ⊥

-- It has gone on in a new manager with these limits, all of whose passes are at home: what a pass held, the
-- pass of the same number has in hand, and the others have no unit open. It keeps what was carried over,
-- which was made anew as is computed.
pub record HomeGoesOn (old new : Home) (l : Limits) : Type 0 where
  pub limits : home_limits new ≡ l
  pub keeper : KeeperShown
  pub passes : List PassShown
  pub given : keeper.given ≡ old.keeper.given
  pub rolls : Rolls (home_limits old) l keeper new.keeper old.passes.items passes new.passes.items
      new.moved.items
  pub all : AreAll new.keeper new.passes.items
  pub parts : length new.passes.items ≡ l.parts
  pub computed : Carries (home_limits old) old.passes.items l.parts (start l) new.moved.items
      (thread_of l new.passes.items new.keeper.seen)

-- it has the same manager, and its passes have done nothing but look
pub record StaysHome (old new : Home) : Type 0 where
  pub manager : new.manager ≡ old.manager
  pub put : StayPut old.keeper new.keeper old.passes.items new.passes.items
  pub moved : new.moved ≡ old.moved

-- a pass with this number or a higher one has a unit open
abbrev pub HasOpenFrom : ℕ → List PassShown → Type 0
HasOpenFrom number passes = (p : PassShown) × In p passes × (number ≤ p.number) × (p.open_unit ≢ None)

-- the limits are outside their ranges, have another attempt limit, or no part for a pass with a unit open
abbrev pub AreBadFor : Home → Limits → Type 0
AreBadFor h l = (¬ AreLimits l) ⊎ ((l.attempts ≢ (home_limits h).attempts)
    ⊎ HasOpenFrom l.parts h.passes.items)

-- why it has not gone on
abbrev pub IsHomeUnrolled : Home → Limits → Fault → Type 0
IsHomeUnrolled h l (faults.Refused refusals.NoMemory) = Unit {0}
IsHomeUnrolled h l (faults.Refused refusals.BadLimits) = AreBadFor h l
IsHomeUnrolled h l (faults.Refused refusals.Full) =
    WouldNotFit (home_limits h) h.passes.items l.parts (start l)
IsHomeUnrolled h l (faults.Refused other) = ⊥
IsHomeUnrolled h l faults.NotAll = ¬ AreAll h.keeper h.passes.items
IsHomeUnrolled h l faults.Nothing = h.passes.items ≡ []
IsHomeUnrolled h l other = ⊥

-- a rollover's fault
abbrev pub rollover_fault : RollFault → Fault
rollover_fault rolls.NoMemory = faults.Refused refusals.NoMemory
rollover_fault rolls.BadLimits = faults.Refused refusals.BadLimits
rollover_fault rolls.NoPass = faults.Nothing
rollover_fault rolls.Busy = faults.Busy
rollover_fault rolls.Full = faults.Refused refusals.Full
rollover_fault rolls.Unequal = faults.Unequal
