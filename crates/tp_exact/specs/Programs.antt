-- What the program writes of a script that has no race and no rollover: it is computed of its bytes.
use Rattle.std.specs.Prelude.{◌≡◌, ℕ, false, List, Option, Result, Ok, Err}
use Rattle.std.specs.Io.KnownBytes.{Appends, Keeps}
use Rattle.tp_server.specs.Check.{check_of}
use Rattle.tp_report.specs.Written.{AppendsFront}
use Rattle.tp_report.specs.declared.fault.Exit.{Exit}
use Rattle.tp_report.specs.declared.fault.Exit.TheVariants as exits
use Rattle.tp_report.specs.declared.fault.Fault.{Fault}
use Rattle.tp_report.specs.declared.fault.Fault.TheVariants as faults
use Rattle.tp_script.specs.Script.{ScriptView, ServerView}
use Rattle.tp_script.specs.Whole.{script}
use Rattle.tp_script.specs.declared.fault.Refused.{Refused}
use Rattle.tp_reference.specs.PlainReport.{report_of_read}
use Rattle.tp_reference.specs.Whole.{is_beyond}
use Rattle.tp_perform.specs.Performed.{Ran}

-- the server's recipe has no fault; a head that was read has only such
abbrev pub IsChecked : ServerView → Type 0
IsChecked server = check_of server.recipe ≡ Ok tt

-- how the program ends: it performed the script, or refused it
abbrev pub exit_of : Result ScriptView Refused → Exit
exit_of (Ok s) = exits.Done
exit_of (Err refused) = exits.Refused

-- the text is written and the program ended so; after a fault a prefix of it is, and nothing where the reader
-- failed
abbrev pub WritesAs : Result Exit Fault → Exit → List ℕ → Option (List ℕ) → Option (List ℕ) → Type 0
WritesAs (Ok exit) wanted text before after = (exit ≡ wanted) × Appends before after text
WritesAs (Err faults.Read) wanted text before after = Keeps before after
WritesAs (Err other) wanted text before after = AppendsFront before after text

-- So it is by what `tp_perform::run` promises, whatever bytes it read, unless these are a script with a race
-- or a rollover. What is written is what `tp_reference::run_plain` writes of the same bytes.
abbrev pub ExactProgram : Type 0
ExactProgram =
    (outcome : Result Exit Fault) (bytes : List ℕ) (before after : Option (List ℕ))
    → is_beyond (script bytes) ≡ false → Ran outcome (script bytes) before after
    → WritesAs outcome (exit_of (script bytes)) (report_of_read (script bytes)) before after
