-- What a line says: in the head, and behind it.
use Rattle.std.specs.Prelude.{ℕ, ◌-◌, ◌^◌, List, [], ◌∷◌, length, Bool, false, ◌&&◌, Option, Some, None}
use Rattle.std.specs.Prelude.{Result, Ok, Err, nat_le, ◌==◌, if◌then◌else◌}
use Rattle.std.specs.List.{list_all}
use Rattle.tp_model.specs.declared.types.TheConstants.{MAX_ATTEMPTS, MAX_BLOCKS, MAX_PART_ROWS, MAX_UNITS}
use Rattle.tp_script.specs.declared.fault.LineFault.{LineFault}
use Rattle.tp_script.specs.declared.fault.LineFault.TheVariants.{Syntax, BadLimits, TooLong, Order}
use Rattle.tp_script.specs.declared.head.Act.{Act}
use Rattle.tp_script.specs.declared.head.Act.TheVariants as act
use Rattle.tp_script.specs.declared.head.Said.{Said}
use Rattle.tp_script.specs.declared.head.Said.TheVariants as said
use Rattle.tp_script.specs.declared.keyword.Keyword.{Keyword}
use Rattle.tp_script.specs.declared.keyword.Keyword.TheVariants as first
use Rattle.tp_script.specs.declared.keyword.Verb.{Verb}
use Rattle.tp_script.specs.Commands.{command_at, drain_at, race_said, rollover_at}
use Rattle.tp_script.specs.Keyword.{keyword}
use Rattle.tp_script.specs.Script.{HeadView}
use Rattle.tp_script.specs.ServerLines.{server_line, shape_at, start_line}
use Rattle.tp_script.specs.Text.{words}
use Rattle.tp_script.specs.LineWords.{◌>>=◌, require, known, no_word, one_word, three, number_at}

-- ---- words

-- a line that begins with `#`
abbrev pub is_comment : List ℕ → Bool
is_comment [] = false
is_comment (b ∷ bs) = b == 35

-- the words of a line of at most 200 bytes, each a space or visible; a comment has none
unfoldable pub line_words : List ℕ → Result (List (List ℕ)) LineFault
line_words line = do
  _ ← require (nat_le (length line) 200) TooLong
  _ ← require (list_all (λ b. nat_le 32 b && nat_le b 126) line) Syntax
  if is_comment line then Ok [] else Ok (words line)

-- ---- settings

-- a setting comes before servers, and is `least` to `most`
unfoldable pub setting_at : ℕ → ℕ → List ℕ → HeadView → Result ℕ LineFault
setting_at least most w h = do
  _ ← require (length h.servers == 0) Order
  n ← number_at (2 ^ 64 - 1) w
  _ ← require (nat_le least n && nat_le n most) BadLimits
  Ok n

-- `rows N`
unfoldable pub rows_line : List ℕ → HeadView → Result HeadView LineFault
rows_line w h = do
  n ← setting_at 1 MAX_PART_ROWS w h
  Ok (record h { settings = record h.settings { rows = n } })

-- `units N`
unfoldable pub units_line : List ℕ → HeadView → Result HeadView LineFault
units_line w h = do
  n ← setting_at 1 MAX_UNITS w h
  Ok (record h { settings = record h.settings { units = n } })

-- `limit N`
unfoldable pub limit_line : List ℕ → HeadView → Result HeadView LineFault
limit_line w h = do
  n ← setting_at 1 MAX_ATTEMPTS w h
  Ok (record h { settings = record h.settings { attempts = n } })

-- `spare S`
unfoldable pub spare_line : List ℕ → HeadView → Result HeadView LineFault
spare_line w h = do
  n ← setting_at 0 MAX_BLOCKS w h
  Ok (record h { settings = record h.settings { spare = n } })

-- ---- what is asked for

-- a command, a race, a drain or a rollover
abbrev pub asks : Result Act LineFault → Result Said LineFault
asks read = read >>= λ a. Ok (said.Act a)

-- a command of this first word
abbrev pub act_said : Verb → List (List ℕ) → HeadView → Result Said LineFault
act_said v ws h = command_at v ws h >>= λ c. Ok (said.Act (act.Command c))

-- `account`
abbrev pub account_at : List (List ℕ) → Result Said LineFault
account_at ws = no_word ws >>= λ _. Ok said.Account

-- ---- a line of the head

-- a line that is one of the head
abbrev pub in_head : Result HeadView LineFault → Result (HeadView × Option Said) LineFault
in_head read = read >>= λ h. Ok (h, None)

-- a line that is the first command, which ends the head
abbrev pub ends_head : HeadView → Result Said LineFault → Result (HeadView × Option Said) LineFault
ends_head h read = read >>= λ s. Ok (h, Some s)

-- a line of the head of this first word: what the head is then, and what the line that ends it says
unfoldable pub head_keyword : Keyword → List (List ℕ) → HeadView → Result (HeadView × Option Said) LineFault
head_keyword first.Rows ws h = in_head (one_word ws >>= λ w. rows_line w h)
head_keyword first.Units ws h = in_head (one_word ws >>= λ w. units_line w h)
head_keyword first.Limit ws h = in_head (one_word ws >>= λ w. limit_line w h)
head_keyword first.Spare ws h = in_head (one_word ws >>= λ w. spare_line w h)
head_keyword first.Server ws h = in_head (server_line ws h)
head_keyword first.Start ws h = in_head (three ws >>= λ w. start_line w h)
head_keyword (first.Do v) ws h = ends_head h (act_said v ws h)
head_keyword first.Race ws h = ends_head h (asks (race_said ws))
head_keyword first.Drain ws h = ends_head h (asks (drain_at ws))
head_keyword first.Rollover ws h = ends_head h (asks (rollover_at ws))
head_keyword first.Account ws h = ends_head h (account_at ws)

-- the words of a line of the head
unfoldable pub head_words : List (List ℕ) → HeadView → Result (HeadView × Option Said) LineFault
head_words [] h = Ok (h, None)
head_words (w ∷ ws) h = known (keyword w) Syntax >>= λ k. head_keyword k ws h

-- ---- a line behind the head

-- a line of the head is out of order there, unless it says nothing that such a line could
abbrev pub out_of_order : {A : Type 0} → Result A LineFault → Result Said LineFault
out_of_order (Ok x) = Err Order
out_of_order (Err fault) = Err fault

-- what a line of this first word says
unfoldable pub body_keyword : Keyword → List (List ℕ) → HeadView → Result Said LineFault
body_keyword first.Rows ws h = out_of_order (one_word ws)
body_keyword first.Units ws h = out_of_order (one_word ws)
body_keyword first.Limit ws h = out_of_order (one_word ws)
body_keyword first.Spare ws h = out_of_order (one_word ws)
body_keyword first.Server ws h = out_of_order (shape_at ws)
body_keyword first.Start ws h = out_of_order (three ws)
body_keyword (first.Do v) ws h = act_said v ws h
body_keyword first.Race ws h = asks (race_said ws)
body_keyword first.Drain ws h = asks (drain_at ws)
body_keyword first.Rollover ws h = asks (rollover_at ws)
body_keyword first.Account ws h = account_at ws

-- the words of such a line, which says nothing where there are none
unfoldable pub body_words : List (List ℕ) → HeadView → Result (Option Said) LineFault
body_words [] h = Ok None
body_words (w ∷ ws) h = known (keyword w) Syntax >>= λ k. body_keyword k ws h >>= λ s. Ok (Some s)
