-- The lines of a script, one after the other.
use Rattle.std.proofs.Common.{◌≡◌, ℕ, ◌+◌, ◌≤◌, ◌<◌, List, [], ◌∷◌, length, take, Option, Some, None, Result, Ok, Err, refl, sym, ap, ◌∙◌, arith, inl, inr}
use Rattle.std.specs.Prelude.{IfSome}
use Rattle.std.proofs.lemmas.Bool.{cases_lt, le-ltb, lt-ltb}
use Rattle.std.proofs.lemmas.List.{take_all, length-take}
use Rattle.tp_script.specs.declared.source.TheConstants.{MAX_SCRIPT_BYTES}
use Rattle.tp_script.specs.declared.fault.LineFault.TheVariants.{TooLong}
use Rattle.tp_script.specs.declared.fault.LineError.{LineError}
use Rattle.tp_script.specs.declared.fault.LineError.TheVariants as errors
use Rattle.tp_script.specs.declared.fault.Refused.{Refused}
use Rattle.tp_script.specs.declared.fault.ReadFault.{ReadFault}
use Rattle.tp_script.specs.declared.fault.ReadFault.TheVariants as faults
use Rattle.tp_script.specs.declared.whole.Script.{Script}
use Rattle.tp_script.specs.Script.{ScriptView}
use Rattle.tp_script.specs.Text.{lines}
use Rattle.tp_script.specs.Reading.{Fails}
use Rattle.tp_script.specs.Whole.{line_at, at_line, lines_from, no_lines, script}
use Rattle.tp_script.specs.Devices.{HasNoScript}
use Rattle.tp_script.specs.Reading.{ReadsAs, fault_at}

pub lines_go_on : (n : ℕ) (line : List ℕ) (others : List (List ℕ)) (s t : ScriptView) (all : Result ScriptView Refused) → line_at line s ≡ Ok t → lines_from n (line ∷ others) s ≡ all → lines_from (n + 1) others t ≡ all
unfolding lines_from
lines_go_on n line others s t all h so_far = sym (ap (λ r. at_line n r (λ t. lines_from (n + 1) others t)) h) ∙ so_far

pub lines_end : (n : ℕ) (line : List ℕ) (others : List (List ℕ)) (s : ScriptView) (e : LineError) (all read : Result ScriptView Refused) → read ≡ all → Fails e (line_at line s) → lines_from n (line ∷ others) s ≡ all → ReadsAs (Err (fault_at n e)) read
unfolding lines_from
lines_end n line others s errors.NoMemory all read same h so_far = tt
lines_end n line others s (errors.Fault f) all read same h so_far = same ∙ sym so_far ∙ ap (λ r. at_line n r (λ t. lines_from (n + 1) others t)) h

pub lines_done : (n : ℕ) (s : ScriptView) (all : Result ScriptView Refused) → lines_from n [] s ≡ all → all ≡ Ok s
unfolding lines_from
lines_done n s all so_far = sym so_far

-- a script that isn't too long is its lines
pub script_is : (bytes : List ℕ) → length bytes ≤ MAX_SCRIPT_BYTES → script bytes ≡ lines_from 1 (lines bytes) no_lines
unfolding script
script_is bytes short = rw (le-ltb MAX_SCRIPT_BYTES (length bytes) short) refl

pub script_past : (bytes : List ℕ) → MAX_SCRIPT_BYTES < length bytes → script bytes ≡ Err (record { line = 0; fault = TooLong })
unfolding script
script_past bytes long = rw (lt-ltb MAX_SCRIPT_BYTES (length bytes) long) refl

-- a prefix that is too long says as much as all
pub script_front : (bytes : List ℕ) → script (take (MAX_SCRIPT_BYTES + 1) bytes) ≡ script bytes
script_front bytes = elim (cases_lt MAX_SCRIPT_BYTES (length bytes)) [
  | inl long ↦ script_past (take (MAX_SCRIPT_BYTES + 1) bytes) (omega (arith, length-take (MAX_SCRIPT_BYTES + 1) bytes, long)) ∙ sym (script_past bytes long)
  | inr short ↦ ap script (take_all (MAX_SCRIPT_BYTES + 1) bytes (omega (arith, short)))
]

-- what was read of the source answers for all of it
pub answers_all : (rest : Option (List ℕ)) (read : List ℕ) (r : Result Script ReadFault) → IfSome rest (λ all. read ≡ take (MAX_SCRIPT_BYTES + 1) all) → ReadsAs r (script read) → IfSome rest (λ all. ReadsAs r (script all))
answers_all None read r h a = tt
answers_all (Some all) read r h a = rw (← script_front all, ← h) a

pub answers_none : (A : Type 0) (rest : Option (List ℕ)) (e : ReadFault) → HasNoScript {A = A} (Err e) → IfSome rest (λ all. ReadsAs (Err e) (script all))
answers_none A None e h = tt
answers_none A (Some all) faults.NoMemory h = tt
answers_none A (Some all) faults.Read h = tt
answers_none A (Some all) (faults.Script refused) h = absurd h
