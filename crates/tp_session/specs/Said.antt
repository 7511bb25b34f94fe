-- What a command is told, and what it leaves.
use Rattle.std.specs.Prelude.{◌≡◌, ℕ, List, Result, Ok, Err}
use Rattle.tp_script.specs.declared.fault.LineError.{LineError}
use Rattle.tp_script.specs.declared.fault.LineError.TheVariants as errors
use Rattle.tp_script.specs.declared.fault.LineFault.{LineFault}
use Rattle.tp_store.specs.State.{State}
use Rattle.tp_store.specs.declared.answers.Refusal.{Refusal}
use Rattle.tp_answers.specs.Answer.{answer_text, line}
use Rattle.tp_answers.specs.declared.answer.Answer.{Answer}
use Rattle.tp_answers.specs.declared.answer.Answer.TheVariants as answer
use Rattle.tp_session.specs.State.{SessionState, with_store}

-- a text, and the session behind it; or the fault of the line, which changes nothing
abbrev pub Step : Type 0
Step = Result (List ℕ × SessionState) LineFault

-- the answer is told, and so it is left; but where memory or numbers run out nothing is said of it
abbrev pub Says : {A : Type 0} → (A → List ℕ) → Result A LineError → SessionState → SessionState → Step → Type 0
Says text (Ok told) new old step = step ≡ Ok (text told, new)
Says text (Err errors.NoMemory) new old step = Unit {0}
Says text (Err (errors.Fault fault)) new old step = (step ≡ Err fault) × (new ≡ old)

-- the text of a call of the store
abbrev pub told_of : {A : Type 0} → (A → Answer) → Result A Refusal → List ℕ
told_of tell (Ok x) = line (answer_text (tell x))
told_of tell (Err why) = line (answer_text (answer.Refused why))

-- that, and what the call left
abbrev pub told_as : {A : Type 0} → (A → Answer) → Result A Refusal × State → SessionState → Step
told_as tell done s = Ok (told_of tell done.0, with_store done.1 s)

-- a text that changes nothing
abbrev pub just : List ℕ → SessionState → Step
just text s = Ok (line text, s)

-- so it is set, or the line's fault is told, and nothing has changed
abbrev pub Sets : Result (Unit {0}) LineError → SessionState → SessionState → Result SessionState LineFault → Type 0
Sets (Ok done) new old set = set ≡ Ok new
Sets (Err errors.NoMemory) new old set = Unit {0}
Sets (Err (errors.Fault fault)) new old set = (set ≡ Err fault) × (new ≡ old)
