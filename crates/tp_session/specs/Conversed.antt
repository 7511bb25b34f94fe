-- What becomes of a session on a wire.
use Rattle.std.specs.Prelude.{◌≡◌, ℕ, List, ◌++◌, Option, Some, None, Result, Ok, Err, IfSome}
use Rattle.std.specs.Io.KnownBytes.{Appends}
use Rattle.tp_report.specs.Written.{AppendsFront}
use Rattle.tp_report.specs.declared.fault.Exit.{Exit}
use Rattle.tp_report.specs.declared.fault.Exit.TheVariants as exits
use Rattle.tp_report.specs.declared.fault.Fault.{Fault}
use Rattle.tp_wire.specs.Heard.{heard}
use Rattle.tp_session.specs.Session.{lines_step, session_of}
use Rattle.tp_session.specs.State.{SessionState}

-- all that is answered to the lines of these bytes is written, and nothing else
abbrev pub Conversed : List ℕ → Option (List ℕ) → Option (List ℕ) → Type 0
Conversed bytes before after = Appends before after (session_of (heard bytes))

-- after a fault a front of it is
abbrev pub ConversedFront : List ℕ → Option (List ℕ) → Option (List ℕ) → Type 0
ConversedFront bytes before after = AppendsFront before after (session_of (heard bytes))

-- by how the program ended
abbrev pub ConversedAs : Result Exit Fault → List ℕ → Option (List ℕ) → Option (List ℕ) → Type 0
ConversedAs (Ok exits.Done) bytes before after = Conversed bytes before after
ConversedAs (Ok exits.Refused) bytes before after = ⊥
ConversedAs (Err fault) bytes before after = ConversedFront bytes before after

-- what the lines of these bytes are answered, and what they leave, behind so many others
abbrev pub step_of : ℕ → List ℕ → SessionState → List ℕ × SessionState
step_of past bytes s = lines_step past (heard bytes) s

-- the lines of known bytes were answered, and this was told of it
abbrev pub Attends : ℕ → Option (List ℕ) → SessionState → SessionState → (List ℕ → Type 0) → Type 0
Attends past come old new Told =
    IfSome come (λ bytes. (new ≡ (step_of past bytes old).1) × Told (step_of past bytes old).0)

-- some were, and a front was told
abbrev pub AttendsFront : ℕ → Option (List ℕ) → SessionState → (List ℕ → Type 0) → Type 0
AttendsFront past come old Told = IfSome come (λ bytes. Told (step_of past bytes old).0)

-- lines of known bytes were answered so: this text, and then what the lines that are left are answered
abbrev pub Goes : ℕ → Option (List ℕ) → SessionState → List ℕ → ℕ → Option (List ℕ) → SessionState → Type 0
Goes past None old text number left now = Unit {0}
Goes past (Some bytes) old text number None now = ⊥
Goes past (Some bytes) old text number (Some left) now =
    step_of past bytes old ≡ (text ++ (step_of number left now).0, (step_of number left now).1)

-- so far, and what was told of that text
pub record SoFar (past : ℕ) (come : Option (List ℕ)) (old : SessionState) (number : ℕ) (left : Option (List ℕ))
    (now : SessionState)
    (Told : List ℕ → Type 0) : Type 0 where
  pub text : List ℕ
  pub goes : Goes past come old text number left now
  pub told : Told text
