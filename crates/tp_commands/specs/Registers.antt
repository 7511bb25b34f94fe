-- What is printed of registers.
use Rattle.std.specs.Prelude.{◌≡◌, ℕ, Bool, true, false, List, Option, Some, None, slice_get, sum_by}
use Rattle.std.specs.declared.alloc.Global.{Global}
use Rattle.std.specs.declared.dyn_box.DynBox.{DynBox}
use Rattle.tp_report.specs.declared.answer.ServerAnswer.TheVariants as told
use Rattle.tp_report.specs.Answer.{balance_text, line, named_text}
use Rattle.tp_commands.specs.Acting.{PlaceShown}
use Rattle.tp_commands.specs.declared.place.Place.{Place}

-- the text says what is in a register of the server of this name, or that its desk was dropped
abbrev pub TellsBalance : List ℕ → ℕ → List ℕ → Bool → List ℕ → Type 0
TellsBalance name k registers false text = text ≡ line (balance_text name k (slice_get registers k))
TellsBalance name k registers true text = text ≡ line (named_text name told.Ended)

-- what a place adds to the sum of a register: its value, unless the desk was dropped or has no such register
abbrev pub counted_value : Bool → Option ℕ → ℕ
counted_value true value = 0
counted_value false None = 0
counted_value false (Some value) = value

-- the same of a server and its place
abbrev pub value_at : {X : Type 0} {F : X → Type 0} → (DynBox X Global F → List ℕ) → ℕ
    → DynBox X Global F × Place X F → ℕ
value_at registers k (server, place) = counted_value place.is_dropped (slice_get (registers server) k)

-- the sum of a register over all places
abbrev pub register_sum : ℕ → List PlaceShown → ℕ
register_sum k places = sum_by (λ p. counted_value p.is_dropped (slice_get p.desk.registers k)) places
