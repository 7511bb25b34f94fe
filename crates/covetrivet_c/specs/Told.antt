-- How a code, and what is written, tell C what was answered.
use Rattle.std.specs.Prelude.{◌≡◌, ℕ, Option, Some, None, Result, Ok, Err}
use Rattle.tp_model.specs.declared.types.Limits.{Limits}
use Rattle.tp_manager.specs.Shown.{PassShown}
use Rattle.covetrivet_c.specs.declared.caller.Caller.{Caller}
use Rattle.covetrivet_c.specs.declared.fault.Fault.{Fault}
use Rattle.covetrivet_c.specs.Callers.{caller_limits}
use Rattle.covetrivet_c.specs.Codes.{code_of}

-- the code is 0, and what is written is the answer in this shape; or the code says why not, and nothing is
-- written
abbrev pub TellsByCode : {X Y : Type 0} → (X → Y) → Result X Fault → ℕ → Y → Y → Type 0
TellsByCode shape (Ok x) code old new = (code ≡ 0) × (new ≡ shape x)
TellsByCode shape (Err f) code old new = (code ≡ code_of f) × (new ≡ old)

-- the same where nothing is to be written
abbrev pub TellsEnd : {X : Type 0} → Result X Fault → ℕ → Type 0
TellsEnd (Ok x) code = code ≡ 0
TellsEnd (Err f) code = code ≡ code_of f

-- the handle led to a caller, and leads to the same one, of the same manager, for which this is so; or it led
-- to nothing, the code says so, and this is so
abbrev pub Through : Option Caller → Option Caller → ℕ → (Caller → Caller → Type 0) → Type 0 → Type 0
Through (Some old) (Some new) code Did Nothing = (new.manager ≡ old.manager) × Did old new
Through (Some old) None code Did Nothing = ⊥
Through None new code Did Nothing = (new ≡ None) × (code ≡ 1) × Nothing

-- What a call of C answers: what these words say of the manager's limits and of the pass before and after it,
-- told by the code and by what is written.
abbrev pub AnswersByCode : {X Y : Type 0} → (X → Y)
    → (Limits → PassShown → PassShown → Result X Fault → Type 0)
    → Option Caller → Option Caller → ℕ → Y → Y → Type 0
AnswersByCode {X} shape Says was is code old new = Through was is code
    (λ a b. (r : Result X Fault) × TellsByCode shape r code old new × Says (caller_limits a) a.pass b.pass r)
    (new ≡ old)

-- the same where nothing is to be written
abbrev pub Ends : {X : Type 0} → (Limits → PassShown → PassShown → Result X Fault → Type 0)
    → Option Caller → Option Caller → ℕ → Type 0
Ends {X} Says was is code = Through was is code
    (λ a b. (r : Result X Fault) × TellsEnd r code × Says (caller_limits a) a.pass b.pass r) (Unit {0})

-- what is written is this of the caller, which stays as it is
abbrev pub ShowsOfCaller : {Y : Type 0} → (Caller → Y → Type 0)
    → Option Caller → Option Caller → ℕ → Y → Y → Type 0
ShowsOfCaller Says (Some c) is code old new = (is ≡ Some c) × (code ≡ 0) × Says c new
ShowsOfCaller Says None is code old new = (is ≡ None) × (code ≡ 1) × (new ≡ old)
