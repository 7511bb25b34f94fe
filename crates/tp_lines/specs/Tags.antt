-- Tags in front of lines: `@TAG LINE` is LINE, and each line of its answer stands behind `@TAG`.
use Rattle.std.specs.Prelude.{ℕ, ◌+◌, ◌==◌, ◌&&◌, nat_le, Bool, if◌then◌else◌, List, [], ◌∷◌, length, drop, take}
use Rattle.std.specs.Prelude.{position, Option, Some, None, Result}
use Rattle.std.specs.List.{list_all}
use Rattle.tp_script.specs.declared.fault.LineFault.{LineFault}
use Rattle.tp_script.specs.declared.fault.LineFault.TheVariants.{TooLong}
use Rattle.tp_script.specs.LineWords.{◌>>=◌, require}
use Rattle.tp_lines.specs.declared.grammar.TheConstants.{MAX_LINE}
use Rattle.tp_lines.specs.declared.line.Line.{Line}
use Rattle.tp_lines.specs.declared.tags.TheConstants.{MAX_TAG}
use Rattle.tp_lines.specs.Grammar.{line_said}
use Rattle.tp_lines.specs.Names.{is_in_name}

-- 1 to 20 of the bytes that names have
abbrev pub is_tag : List ℕ → Bool
is_tag w = nat_le 1 (length w) && (nat_le (length w) MAX_TAG && list_all is_in_name w)

-- the bytes up to this place, or all of them
abbrev pub up_to : Option ℕ → List ℕ → List ℕ
up_to None bytes = bytes
up_to (Some end) bytes = take end bytes

-- the bytes before the first space
abbrev pub word_in : List ℕ → List ℕ
word_in bytes = up_to (position (λ b. b == 32) bytes) bytes

abbrev pub tag_of : List ℕ → Option (List ℕ)
tag_of w = if is_tag w then Some w else None

-- the tag of a line: its first word, where that is `@` and a tag
abbrev pub tag_in : List ℕ → Option (List ℕ)
tag_in [] = None
tag_in (b ∷ bs) = if b == 64 then tag_of (word_in (take (MAX_TAG + 1) bs)) else None

-- what a line says behind its tag; the tag counts among its bytes
abbrev pub said_behind : Option (List ℕ) → List ℕ → Result Line LineFault
said_behind None bytes = line_said bytes
said_behind (Some tag) bytes =
    require (nat_le (length bytes) MAX_LINE) TooLong >>= λ _. line_said (drop (length tag + 2) bytes)

abbrev pub tagged_said : List ℕ → Result Line LineFault
tagged_said bytes = said_behind (tag_in bytes) bytes
