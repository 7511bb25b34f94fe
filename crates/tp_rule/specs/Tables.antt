-- The shared words as a whole.
use Rattle.std.specs.Prelude.{◌≡◌}
use Rattle.atomic_table.specs.Seated.{TableId}
use Rattle.tp_model.specs.declared.types.Limits.{Limits}
use Rattle.tp_rule.specs.Views.{SeatShown, IsOnePass, view_of}
use Rattle.tp_rule.specs.Doors.{id_of}
use Rattle.tp_rule.specs.declared.words.Words.{Words}

-- what the words have room for
abbrev pub table_limits : Words → Limits
table_limits words = words.places.limits

-- which table the words are in
abbrev pub table_of : Words → TableId
table_of words = id_of words.table

-- the seat is one of this table's
abbrev pub IsSeatOf : Words → SeatShown → Type 0
IsSeatOf words seat = seat.table ≡ table_of words

-- the seat stands for one pass, and knows the limits of the words
abbrev pub IsPassOf : Words → SeatShown → Type 0
IsPassOf words seat = IsOnePass (view_of seat) × ((view_of seat).limits ≡ table_limits words)
