-- How what the code reads is related to what a script says.
use Rattle.std.specs.Prelude.{◌≡◌, ℕ, Result, Ok, Err, map}
use Rattle.tp_script.specs.declared.fault.LineFault.{LineFault}
use Rattle.tp_script.specs.declared.fault.LineError.{LineError}
use Rattle.tp_script.specs.declared.fault.LineError.TheVariants as errors
use Rattle.tp_script.specs.declared.fault.ReadFault.{ReadFault}
use Rattle.tp_script.specs.declared.fault.ReadFault.TheVariants as faults
use Rattle.tp_script.specs.declared.fault.Refused.{Refused}
use Rattle.tp_script.specs.declared.head.Head.{Head}
use Rattle.tp_script.specs.declared.whole.Script.{Script}
use Rattle.tp_script.specs.declared.servers.Shape.{Shape}
use Rattle.tp_script.specs.Script.{HeadView, ScriptView, head_view, script_view}
use Rattle.tp_script.specs.ServerLines as lines
use Rattle.tp_script.specs.declared.commands.RaceWords.{RaceWords}
use Rattle.tp_script.specs.declared.commands.SubmitWords.{SubmitWords}
use Rattle.tp_script.specs.Commands as commands

-- a fault is the one that is said, and a lack of memory may always come
abbrev pub Fails : {Y : Type 0} → LineError → Result Y LineFault → Type 0
Fails errors.NoMemory read = Unit {0}
Fails (errors.Fault f) read = read ≡ Err f

-- what the code answered, seen by view, is what is said, unless memory ran out
abbrev pub Gives : {X Y : Type 0} → (X → Y) → Result X LineError → Result Y LineFault → Type 0
Gives view (Ok x) read = read ≡ Ok (view x)
Gives view (Err e) read = Fails e read

-- the head, as it is now, is what is said, unless memory ran out
abbrev pub GivesHead : Head → Result (Unit {0}) LineError → Result HeadView LineFault → Type 0
GivesHead h r read = Gives (λ _. head_view h) r read

-- so is the script
abbrev pub GivesScript : Script → Result (Unit {0}) LineError → Result ScriptView LineFault → Type 0
GivesScript s r read = Gives (λ _. script_view s) r read

-- the words of a server line, without where they lie in memory
abbrev pub shape_view : Shape → lines.Shape
shape_view s = record {
  name = s.name.now;
  kind = s.kind;
  stage = s.stage.now;
  registers = s.registers.now;
  act = s.act;
  word = s.word;
  outputs = map (λ x. x.now) s.outputs.now;
}

-- the words of a submit line, without where they lie in memory
abbrev pub submit_view : SubmitWords → commands.SubmitWords
submit_view w = record {
  stage = w.stage.now;
  key = w.key.now;
  amount = w.amount.now;
  word_two = w.word_two.now;
  word_three = w.word_three.now;
}

-- the words of a race line, without where they lie in memory
abbrev pub race_view : RaceWords → commands.RaceWords
race_view w = record {
  clients = w.clients.now;
  submits = w.submits.now;
  stage = w.stage.now;
  key = w.key.now;
  amount = w.amount.now;
  killers = w.killers.now;
  turns = w.turns.now;
}

-- the answer is this script or this refusal, unless memory ran out or the reader stopped
abbrev pub ReadsAs : Result Script ReadFault → Result ScriptView Refused → Type 0
ReadsAs (Ok s) read = read ≡ Ok (script_view s)
ReadsAs (Err faults.NoMemory) read = Unit {0}
ReadsAs (Err faults.Read) read = Unit {0}
ReadsAs (Err (faults.Script refused)) read = read ≡ Err refused

-- the fault of a line
abbrev pub fault_at : ℕ → LineError → ReadFault
fault_at n errors.NoMemory = faults.NoMemory
fault_at n (errors.Fault fault) = faults.Script (record { line = n; fault = fault })
