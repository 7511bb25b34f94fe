-- What a line says.
use Rattle.std.specs.Prelude.{ℕ, List, [], ◌∷◌, length, ◌&&◌, nat_le, Result, Ok, if◌then◌else◌}
use Rattle.std.specs.List.{list_all}
use Rattle.tp_script.specs.declared.fault.LineFault.{LineFault}
use Rattle.tp_script.specs.declared.fault.LineFault.TheVariants.{Syntax, TooLong}
use Rattle.tp_script.specs.Grammar.{is_comment}
use Rattle.tp_script.specs.LineWords.{◌>>=◌, require, known, no_word}
use Rattle.tp_script.specs.Text.{words}
use Rattle.tp_lines.specs.declared.grammar.TheConstants.{MAX_LINE}
use Rattle.tp_lines.specs.declared.keyword.Keyword.{Keyword}
use Rattle.tp_lines.specs.declared.keyword.Keyword.TheVariants as first
use Rattle.tp_lines.specs.declared.line.Line.{Line}
use Rattle.tp_lines.specs.declared.line.Line.TheVariants as line
use Rattle.tp_lines.specs.Commands.{command_said}
use Rattle.tp_lines.specs.Heads.{head_said}
use Rattle.tp_lines.specs.Keyword.{keyword}

-- the words of a line of at most 1,023 bytes, each a space or visible; a comment has none
unfoldable pub line_words : List ℕ → Result (List (List ℕ)) LineFault
line_words bytes = do
  _ ← require (nat_le (length bytes) MAX_LINE) TooLong
  _ ← require (list_all (λ b. nat_le 32 b && nat_le b 126) bytes) Syntax
  if is_comment bytes then Ok [] else Ok (words bytes)

-- what a line of this first word says, by the words after it
abbrev pub keyword_said : Keyword → List (List ℕ) → Result Line LineFault
keyword_said (first.Head v) ws = head_said v ws >>= λ h. Ok (line.Head h)
keyword_said (first.Do v) ws = command_said v ws >>= λ c. Ok (line.Do c)
keyword_said first.Version ws = no_word ws >>= λ _. Ok line.Version

-- what these words say
unfoldable pub words_said : List (List ℕ) → Result Line LineFault
words_said [] = Ok line.Nothing
words_said (w ∷ ws) = known (keyword w) Syntax >>= λ k. keyword_said k ws

-- what a line says, or its first fault
abbrev pub line_said : List ℕ → Result Line LineFault
line_said bytes = line_words bytes >>= λ ws. words_said ws
