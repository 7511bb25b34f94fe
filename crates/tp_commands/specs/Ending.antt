-- The final lines.
use Rattle.std.specs.Prelude.{ℕ, zero, suc, List, [], ◌++◌, Option, Some, slice_get}
use Rattle.tp_report.specs.Answer.{final_text, line}
use Rattle.tp_script.specs.Script.{ServerView}

-- the final line of a server with these registers
abbrev pub final_line : Option ServerView → Option (List ℕ) → List ℕ
final_line (Some server) (Some registers) = line (final_text server.name registers)
final_line server registers = []

-- those of the first n servers
abbrev pub final_lines : List ServerView → List (List ℕ) → ℕ → List ℕ
final_lines servers registers zero = []
final_lines servers registers (suc n) =
    final_lines servers registers n ++ final_line (slice_get servers n) (slice_get registers n)
