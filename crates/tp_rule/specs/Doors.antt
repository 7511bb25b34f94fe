-- What the one door to the table shows of a seat, and what it asks of a step.
use Rattle.std.specs.Prelude.{◌≡◌, ℕ, List, [], ◌∷◌, slice_index, slice_set}
use mathlib.Core.Option.{some}
use lib.ListN.{get_elem?}
use Rattle.atomic_table.specs.Seated.{TableId}
use Rattle.atomic_table.specs.Table.{State, Splits, Joins}
use Rattle.atomic_table.specs.declared.badge.Badge.{Badge}
use Rattle.tp_model.specs.declared.types.Limits.{Limits}
use Rattle.tp_rule.specs.Rule.{Rule}
use Rattle.tp_rule.specs.Views.{SeatShown, no_seat, spent}
use Rattle.tp_rule.specs.declared.seat.SharedTable.{SharedTable}
use Rattle.tp_rule.specs.declared.view.View.{View}

-- which table the words are in
abbrev pub id_of : SharedTable → TableId
id_of t = t.table.shared.table_id

-- the limits that its rule is about
abbrev pub key_of : SharedTable → Limits
key_of t = t.table.shared.key

-- what a seat shows at this table, with its view if it has one
abbrev pub shown_at : TableId → List View → SeatShown
shown_at table [] = no_seat
shown_at table (v ∷ more) = record { table = table; view = v }

-- what a seat shows
abbrev pub shown_by : Badge View → SeatShown
shown_by badge = shown_at badge.table_id badge.views

-- a seat has one view, or none
abbrev pub IsSole : List View → Type 0
IsSole [] = Unit {0}
IsSole (v ∷ more) = more ≡ []

-- Whatever the table is when the word changes, there is a new view of the seat with which the rule holds
-- again, and which says so much of the number that was found.
abbrev pub Permits : Limits → View → ℕ → (ℕ → ℕ) → (ℕ → View → Type 0) → Type 0
Permits l v word change Told = (s : State (Unit {0}) View) → Rule l s → (id : ℕ)
    → get_elem? s.views id ≡ some v
    → (w : View)
    × Rule l (record {
      words = slice_set s.words word (change (slice_index s.words word));
      homes = s.homes;
      views = slice_set s.views id w;
    })
    × Told (slice_index s.words word) w

-- whichever seat it is, the rule allows that its view is cut in these two
abbrev pub MayCut : Limits → View → View → View → Type 0
MayCut l v left right = (id : ℕ) → Splits (Rule l) id v left right

-- whichever seats they are, the rule allows that their views become this one
abbrev pub MayJoin : Limits → View → View → View → Type 0
MayJoin l v w both = (id other : ℕ) → Joins (Rule l) id v other w both spent
