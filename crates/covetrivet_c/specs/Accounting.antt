-- What the calls over all passes of a manager answer.
use Rattle.std.specs.Prelude.{◌≡◌, ◌<◌, ℕ, Option, Some, None, Result, MatchResult, length, slice_get}
use Rattle.tp_model.specs.declared.types.Account.{Account}
use Rattle.tp_model.specs.declared.types.Counts.{Counts}
use Rattle.tp_model.specs.declared.types.Limits.{Limits}
use Rattle.tp_model.specs.declared.types.TheConstants.{REPLY_STAGE}
use Rattle.tp_manager.specs.Accounts.{Accounts, AreAll}
use Rattle.tp_rollover.specs.declared.moved.Moved.{Moved}
use Rattle.covetrivet_c.specs.declared.fault.Fault.{Fault}
use Rattle.covetrivet_c.specs.declared.fault.Fault.TheVariants as faults
use Rattle.covetrivet_c.specs.declared.home.Home.{Home}
use Rattle.covetrivet_c.specs.Homes.{HomeGoesOn, HasGathered, IsHomeUnrolled, StaysHome, counts_of_stage}
use Rattle.covetrivet_c.specs.Homes.{home_limits}
use Rattle.covetrivet_c.specs.Told.{TellsByCode, TellsEnd}

-- the handle led to a manager, and leads to one, for which this is so; or it led to nothing, the code says
-- so, and this is so
abbrev pub Within : Option Home → Option Home → ℕ → (Home → Home → Type 0) → Type 0 → Type 0
Within (Some old) (Some new) code Did Nothing = Did old new
Within (Some old) None code Did Nothing = ⊥
Within None new code Did Nothing = (new ≡ None) × (code ≡ 1) × Nothing

-- what a call of C answers, told by the code and by what is written
abbrev pub HomeAnswers : {X Y : Type 0} → (X → Y) → (Home → Home → Result X Fault → Type 0)
    → Option Home → Option Home → ℕ → Y → Y → Type 0
HomeAnswers {X} shape Says was is code old new = Within was is code
    (λ h h'. (r : Result X Fault) × TellsByCode shape r code old new × Says h h' r) (new ≡ old)

-- the same where nothing is to be written
abbrev pub HomeEnds : {X : Type 0} → (Home → Home → Result X Fault → Type 0) → Option Home → Option Home → ℕ
    → Type 0
HomeEnds {X} Says was is code = Within was is code
    (λ h h'. (r : Result X Fault) × TellsEnd r code × Says h h' r) (Unit {0})

-- nothing has changed
pub record IsSameHome (h h' : Home) : Type 0 where
  pub manager : h'.manager ≡ h.manager
  pub keeper : h'.keeper ≡ h.keeper
  pub passes : h'.passes.items ≡ h.passes.items
  pub moved : h'.moved ≡ h.moved

-- it is the same manager, and keeps what the last rollover carried over
abbrev pub IsSameManager : Home → Home → Type 0
IsSameManager h h' = (h'.manager ≡ h.manager) × (h'.moved ≡ h.moved)

-- why all passes are not asked
abbrev pub IsUnasked : Home → Fault → Type 0
IsUnasked h faults.NotAll = ¬ AreAll h.keeper h.passes.items
IsUnasked h other = ⊥

-- `gather`
abbrev pub GatherSays : Home → Home → Result (Unit {0}) Fault → Type 0
GatherSays h h' r = MatchResult r
    (λ _. IsSameManager h h' × HasGathered (home_limits h) h.keeper h'.keeper h.passes.items h'.passes.items)
    (λ f. IsSameHome h h' × IsUnasked h f)

-- the account, all of it
abbrev pub AccountSays : Home → Home → Result Account Fault → Type 0
AccountSays h h' r = MatchResult r
    (λ a. IsSameManager h h' × Accounts (home_limits h) h.keeper h'.keeper h.passes.items h'.passes.items a)
    (λ f. IsSameHome h h' × IsUnasked h f)

-- why a stage is not counted
abbrev pub IsUncounted : ℕ → Home → Fault → Type 0
IsUncounted stage h faults.BadStage = REPLY_STAGE < stage
IsUncounted stage h faults.NotAll = ¬ AreAll h.keeper h.passes.items
IsUncounted stage h other = ⊥

-- the counts of a stage are those of the account
pub record CountsStage (stage : ℕ) (h h' : Home) (counts : Counts) : Type 0 where
  pub account : Account
  pub same : IsSameManager h h'
  pub accounts : Accounts (home_limits h) h.keeper h'.keeper h.passes.items h'.passes.items account
  pub counts_are : counts ≡ counts_of_stage account stage

-- `account`
abbrev pub CountSays : ℕ → Home → Home → Result Counts Fault → Type 0
CountSays stage h h' r = MatchResult r (CountsStage stage h h') (λ f. IsSameHome h h' × IsUncounted stage h f)

-- `roll_over`
abbrev pub RollSays : Limits → Home → Home → Result ℕ Fault → Type 0
RollSays l h h' r = MatchResult r (λ n. HomeGoesOn h h' l × (n ≡ length h'.moved.items))
    (λ f. StaysHome h h' × IsHomeUnrolled h l f)

-- `moved_at`
abbrev pub MovedSays : ℕ → Home → Home → Result Moved Fault → Type 0
MovedSays place h h' r = (h' ≡ h) × MatchResult r (λ m. slice_get h.moved.items place ≡ Some m)
    (λ f. (f ≡ faults.Nothing) × (slice_get h.moved.items place ≡ None))
