-- What the whole run over the manager of one thread leaves.
use Rattle.std.specs.Prelude.{◌≡◌, ℕ, Bool, true, false, List, Option, Result, Ok}
use Rattle.std.specs.Prelude.{Err}
use Rattle.std.specs.Prelude.{IsOk, IsErr}
use Rattle.std.specs.List.{list_any}
use Rattle.std.specs.Io.KnownBytes.{Appends, Keeps}
use Rattle.tp_report.specs.declared.fault.Fault.{Fault}
use Rattle.tp_report.specs.declared.fault.Fault.TheVariants as faults
use Rattle.tp_script.specs.declared.fault.Refused.{Refused}
use Rattle.tp_report.specs.Written.{AppendsFront}
use Rattle.tp_script.specs.declared.head.Act.{Act}
use Rattle.tp_script.specs.declared.head.Act.TheVariants as act
use Rattle.tp_script.specs.Script.{ScriptView}
use Rattle.tp_reference.specs.declared.plain.PlainExit.{PlainExit}
use Rattle.tp_reference.specs.declared.plain.PlainExit.TheVariants as exits
use Rattle.tp_reference.specs.PlainReport.{report_of_read}

-- what one thread and one manager don't do: races and rollovers
abbrev pub is_other : Act → Bool
is_other (act.Command c) = false
is_other act.Drain = false
is_other act.DrainNext = false
is_other other = true

-- whether there is such in what was read
abbrev pub is_beyond : Result ScriptView Refused → Bool
is_beyond (Ok s) = list_any is_other s.acts
is_beyond (Err r) = false

-- Without fault the report is written and nothing else, where memory ran out or a write failed a prefix of
-- it, and after a failed read nothing. The exit says whether the script was refused, or wasn't run for what
-- is beyond it; then nothing is written.
abbrev pub Reports : Result PlainExit Fault → Result ScriptView Refused → Option (List ℕ) → Option (List ℕ)
    → Type 0
Reports (Ok exits.Done) script old new = IsOk script × (is_beyond script ≡ false)
    × Appends old new (report_of_read script)
Reports (Ok exits.Refused) script old new = IsErr script × Appends old new (report_of_read script)
Reports (Ok exits.NotRun) script old new = IsOk script × (is_beyond script ≡ true) × Keeps old new
Reports (Err faults.NoMemory) script old new = AppendsFront old new (report_of_read script)
Reports (Err faults.Write) script old new = AppendsFront old new (report_of_read script)
Reports (Err faults.Read) script old new = Keeps old new
