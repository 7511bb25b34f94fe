-- Which program this is, and which lines it speaks.
use Rattle.std.specs.Prelude.{ℕ, List, codes}
use Rattle.tp_script.specs.Fault.{◌<>◌}

-- the version of the program
abbrev pub program : List ℕ
program = codes "0.25.0"

-- the number of the lines' protocol: 1 was without tags and fences
abbrev pub lines : List ℕ
lines = codes "2"

abbrev pub version_text : List ℕ
version_text = codes "version " <> program <> codes " lines " <> lines
