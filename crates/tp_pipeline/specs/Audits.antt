-- What the audit holds the servers' registers and the books against.
use Rattle.std.specs.Prelude.{◌≡◌, ℕ, zero, suc, ◌+◌, ◌%◌, nat_le, List, [], ◌∷◌, Some, if◌then◌else◌}
use Rattle.std.specs.Prelude.{slice_get}
use Rattle.std.specs.declared.alloc.Global.{Global}
use Rattle.std.specs.declared.dyn_box.DynBox.{DynBox}
use Rattle.tp_pipeline.specs.Ends.{AreClosed}
use Rattle.tp_pipeline.specs.declared.books.Books.{Books}

-- the payment with this number: its amount, 1 to 100, and the number
abbrev pub amount_in : ℕ → ℕ
amount_in number = number % 100 + 1

abbrev pub payment : ℕ → List ℕ
payment number = amount_in number ∷ number ∷ 0 ∷ 0 ∷ []

-- how many of the first payments are not above the ceiling, and what their amounts come to
abbrev pub passed : ℕ → ℕ → ℕ
passed ceiling zero = 0
passed ceiling (suc n) = passed ceiling n + (if nat_le (amount_in n) ceiling then 1 else 0)

abbrev pub takings_due : ℕ → ℕ → ℕ
takings_due ceiling zero = 0
takings_due ceiling (suc n) =
    takings_due ceiling n + (if nat_le (amount_in n) ceiling then amount_in n else 0)

module _ {X : Type 0} {F : X → Type 0} (registers : DynBox X Global F → List ℕ) where
  -- the box at this place shows this value in the register with this number
  pub record BoxShows (boxes : List (DynBox X Global F)) (place k value : ℕ) : Type 0 where
    pub box : DynBox X Global F
    pub stands : slice_get boxes place ≡ Some box
    pub holds : slice_get (registers box) k ≡ Some value

  -- So many payments were asked for. The validator, the charger and the two shippers together show that each
  -- that was due was let through, charged and shipped, and the charger has taken in what these come to. The
  -- client has collected as many replies, of as much, and all others are cancelled.
  pub record Agree (payments ceiling : ℕ) (boxes : List (DynBox X Global F)) (books : Books) : Type 0 where
    pub validated : BoxShows boxes 0 0 (passed ceiling payments)
    pub takings : BoxShows boxes 1 0 (takings_due ceiling payments)
    pub charges : BoxShows boxes 1 1 (passed ceiling payments)
    pub first : ℕ
    pub second : ℕ
    pub first_shipped : BoxShows boxes 2 0 first
    pub second_shipped : BoxShows boxes 3 0 second
    pub shipped : first + second ≡ passed ceiling payments
    pub collected : books.collected ≡ passed ceiling payments
    pub paid : books.paid ≡ takings_due ceiling payments
    pub closed : AreClosed payments books
