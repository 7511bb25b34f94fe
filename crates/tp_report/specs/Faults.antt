-- The faults that end a run, and how the program ends.
use Rattle.std.specs.Prelude.{◌≡◌, ℕ, Bool, List, Option, Result, Ok, Err, codes}
use Rattle.tp_report.specs.declared.fault.Exit.{Exit}
use Rattle.tp_report.specs.declared.fault.Exit.TheVariants as exits
use Rattle.tp_report.specs.declared.fault.Fault.{Fault}
use Rattle.tp_report.specs.declared.fault.Fault.TheVariants as faults
use Rattle.tp_report.specs.declared.fault.RunFault.{RunFault}
use Rattle.tp_report.specs.declared.fault.RunFault.TheVariants as runs
use Rattle.tp_report.specs.Answer.{line}
use Rattle.tp_report.specs.Written.{AppendsUnlessFailed}

-- the fault of the program that a fault of its run is
abbrev pub fault_of : RunFault → Fault
fault_of runs.NoMemory = faults.NoMemory
fault_of runs.Write = faults.Write

-- what a fault is called
abbrev pub fault_text : Fault → List ℕ
fault_text faults.NoMemory = codes "fault 1 NoMemory"
fault_text faults.Read = codes "fault 2 Read"
fault_text faults.Write = codes "fault 3 Write"

-- the exit status: 0 where the script was run, 2 where it was refused, and 1 after a fault
abbrev pub exit_status : Result Exit Fault → ℕ
exit_status (Ok exits.Done) = 0
exit_status (Ok exits.Refused) = 2
exit_status (Err fault) = 1

-- after a fault its line is written, or a prefix of it where the writer has failed, and without one nothing
abbrev pub TellsFault : Result Exit Fault → Bool → Option (List ℕ) → Option (List ℕ) → Type 0
TellsFault (Ok exit) failed before after = after ≡ before
TellsFault (Err fault) failed before after = AppendsUnlessFailed failed before after (line (fault_text fault))
