-- What a seat is, and what its view says.
use Rattle.std.specs.Prelude.{◌≡◌, ℕ, zero, suc, ◌+◌, ◌*◌, ◌<◌, List, [], ◌∷◌, replicate, None}
use Rattle.atomic_table.specs.Seated.{TableId}
use Rattle.tp_model.specs.History.{In}
use Rattle.tp_model.specs.Steps.{rows_of, units_of}
use Rattle.tp_model.specs.declared.event.Event.{Event}
use Rattle.tp_model.specs.declared.types.Limits.{Limits}
use Rattle.tp_model.specs.declared.types.TheConstants.{BODY_WORDS}
use Rattle.tp_rule.specs.declared.view.Hand.{Hand}
use Rattle.tp_rule.specs.declared.view.View.{View}

-- a seat shows at which table it is, and what it knows
pub record SeatShown : Type 0 where
  pub table : TableId
  pub view : View

-- what the seat knows
abbrev pub view_of : SeatShown → View
view_of seat = seat.view

-- it is at the same table
abbrev pub IsSameSeat : SeatShown → SeatShown → Type 0
IsSameSeat old new = new.table ≡ old.table

-- the words that are in a row before any is stored
abbrev pub blank_body : List ℕ
blank_body = replicate BODY_WORDS 0

-- the pass c of a table with these limits, which has done nothing: all rows of its part are left
abbrev pub fresh : Limits → ℕ → Hand
fresh l c = record {
  number = c;
  mine = [];
  trace = [];
  first_draft = c * l.rows;
  next = c * l.rows;
  left = l.rows;
  passed_from = 0;
  passed_to = 0;
  tail = 0;
  tail_stage = 0;
  blocks = [];
  next_body = blank_body;
  drafts = [];
  claimed = 0;
  spare_unit = None;
  open_unit = None;
}

-- this many passes from c on, which have done nothing
abbrev pub fresh_from : Limits → ℕ → ℕ → List Hand
fresh_from l c zero = []
fresh_from l c (suc n) = fresh l c ∷ fresh_from l (c + 1) n

-- the keeper's view at the start: it stands for all passes
abbrev pub first_view : Limits → View
first_view l = record { limits = l; seen = []; also_seen = []; known = []; hands = fresh_from l 0 l.parts }

-- the limits of no table
abbrev pub no_limits : Limits
no_limits = record { parts = 0; rows = 0; units = 0; attempts = 0; spare = 0 }

-- the view of an empty seat: it stands for no pass
abbrev pub spent : View
spent = record { limits = no_limits; seen = []; also_seen = []; known = []; hands = [] }

-- the name of no table
abbrev pub no_table : TableId
no_table = record { words = 0; slots = 0; views_name = 0; atom = 0; block = 0; offset = 0; slot_names = [] }

-- an empty seat shows that it is at no table, and stands for no pass
abbrev pub no_seat : SeatShown
no_seat = record { table = no_table; view = spent }

abbrev pub first_hand : List Hand → Hand
first_hand [] = fresh no_limits 0
first_hand (a ∷ hands) = a

-- the first pass of a view, and the only one where the seat stands for one
abbrev pub hand : View → Hand
hand v = first_hand v.hands

-- what a seat that stands for one pass knows as that pass
abbrev pub hand_of : SeatShown → Hand
hand_of seat = hand (view_of seat)

-- the history as the seat saw it last
abbrev pub seen_by : SeatShown → List Event
seen_by seat = (view_of seat).seen

-- the seat stands for one pass
abbrev pub IsOnePass : View → Type 0
IsOnePass v = v.hands ≡ hand v ∷ []

-- the seat stands for a pass
abbrev pub HasPass : View → Type 0
HasPass v = (a : Hand) × In a v.hands

-- the row that the pass draws next
abbrev pub next_row : View → ℕ
next_row v = (hand v).next

-- row i is the one that the pass draws next, and there is one
abbrev pub IsNextRow : Limits → View → ℕ → Type 0
IsNextRow l v i = (i ≡ next_row v) × (0 < (hand v).left) × (i < rows_of l)

-- unit u is the one that the pass claims with next, and there is one
abbrev pub IsNextUnit : Limits → View → ℕ → Type 0
IsNextUnit l v u = (u ≡ (hand v).number * l.units + (hand v).claimed) × ((hand v).claimed < l.units)
    × (u < units_of l)
