-- What a script says, line by line, or its first fault.
use Rattle.std.specs.Prelude.{ℕ, ◌+◌, List, [], ◌∷◌, ◌++◌, length, true, false, Option, Some, None, Result}
use Rattle.std.specs.Prelude.{Ok}
use Rattle.std.specs.Prelude.{Err, nat_lt, nat_le, ◌==◌, if◌then◌else◌}
use Rattle.tp_model.specs.declared.types.TheConstants.{MAX_PASSES}
use Rattle.tp_script.specs.declared.source.TheConstants.{MAX_SCRIPT_BYTES}
use Rattle.tp_script.specs.declared.fault.LineFault.{LineFault}
use Rattle.tp_script.specs.declared.fault.LineFault.TheVariants.{Syntax, BadLimits, TooLong, Order}
use Rattle.tp_script.specs.declared.fault.Refused.{Refused}
use Rattle.tp_script.specs.declared.head.Act.{Act}
use Rattle.tp_script.specs.declared.head.Said.{Said}
use Rattle.tp_script.specs.declared.head.Said.TheVariants as said
use Rattle.tp_script.specs.Grammar.{body_words, head_words, line_words}
use Rattle.tp_script.specs.Passes.{racers}
use Rattle.tp_script.specs.Script.{ScriptView, no_head, passes}
use Rattle.tp_script.specs.Text.{lines}
use Rattle.tp_script.specs.LineWords.{◌>>=◌, require}

-- ---- what commands add

-- the script with one command more, unless it needs more passes then than there can be
unfoldable pub with_act : Act → ScriptView → Result ScriptView LineFault
with_act a s = do
  _ ← require (nat_le (passes s + racers a) MAX_PASSES) BadLimits
  Ok (record s { acts = s.acts ++ a ∷ [] })

-- the same of what a line says; the account is told at the end
abbrev pub with_said : Option Said → ScriptView → Result ScriptView LineFault
with_said None s = Ok s
with_said (Some said.Account) s = Ok (record s { account = true })
with_said (Some (said.Act a)) s = with_act a s

-- a line after `account` is out of order, whatever it says, unless it says nothing that a line could
abbrev pub behind_account : Result (Option Said) LineFault → ScriptView → Result ScriptView LineFault
behind_account (Ok None) s = Ok s
behind_account (Err Syntax) s = Err Syntax
behind_account said s = Err Order

-- ---- a line

-- the words of a line of the head, up to the first command
abbrev pub in_head_words : List (List ℕ) → ScriptView → Result ScriptView LineFault
in_head_words ws s = head_words ws s.head >>= λ read. with_said read.1 (record s { head = read.0 })

-- and behind it
abbrev pub in_body_words : List (List ℕ) → ScriptView → Result ScriptView LineFault
in_body_words ws s = body_words ws s.head >>= λ read. with_said read s

-- the words of a line: behind `account`, in the head, or behind it
unfoldable pub words_line : List (List ℕ) → ScriptView → Result ScriptView LineFault
words_line ws s = if s.account then behind_account (body_words ws s.head) s
    else if length s.acts == 0 then in_head_words ws s else in_body_words ws s

unfoldable pub line_at : List ℕ → ScriptView → Result ScriptView LineFault
line_at line s = line_words line >>= λ ws. words_line ws s

-- ---- all lines

-- what the others say, unless line n has a fault
abbrev pub at_line : ℕ → Result ScriptView LineFault → (ScriptView → Result ScriptView Refused)
    → Result ScriptView Refused
at_line n (Ok s) others = others s
at_line n (Err fault) others = Err (record { line = n; fault = fault })

-- the lines from number n on
unfoldable pub lines_from : ℕ → List (List ℕ) → ScriptView → Result ScriptView Refused
lines_from n [] s = Ok s
lines_from n (line ∷ others) s = at_line n (line_at line s) (λ t. lines_from (n + 1) others t)

-- a script without lines
abbrev pub no_lines : ScriptView
no_lines = record { head = no_head; acts = []; account = false }

-- what the bytes of a script say, or the line and number of its first fault
unfoldable pub script : List ℕ → Result ScriptView Refused
script bytes = if nat_lt MAX_SCRIPT_BYTES (length bytes) then Err (record { line = 0; fault = TooLong })
    else lines_from 1 (lines bytes) no_lines
