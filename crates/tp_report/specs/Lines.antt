-- Texts that are lines of answers, and writers that took such lines.
use Rattle.std.specs.Prelude.{◌≡◌, ℕ, zero, suc, ◌≤◌, List, [], ◌++◌, Option}
use Rattle.std.specs.Io.KnownBytes.{Appends}
use Rattle.tp_report.specs.declared.answer.Answer.{Answer}
use Rattle.tp_report.specs.Answer.{answer_text, line}
use Rattle.tp_report.specs.Written.{AppendsFront}

-- the text is the line of an answer
abbrev pub IsLine : List ℕ → Type 0
IsLine text = (a : Answer) × (text ≡ line (answer_text a))

-- the text is n lines, each of an answer
abbrev pub AreLines : ℕ → List ℕ → Type 0
AreLines zero text = text ≡ []
AreLines (suc n) text = (front last : List ℕ) × AreLines n front × IsLine last × (text ≡ front ++ last)

-- n lines were written and nothing else, each of an answer
abbrev pub Writes : ℕ → Option (List ℕ) → Option (List ℕ) → Type 0
Writes n old new = (text : List ℕ) × AreLines n text × Appends old new text

-- a prefix of at most n such lines was written
abbrev pub WritesFront : ℕ → Option (List ℕ) → Option (List ℕ) → Type 0
WritesFront n old new = (some : ℕ) × (text : List ℕ) × (some ≤ n) × AreLines some text
    × AppendsFront old new text
