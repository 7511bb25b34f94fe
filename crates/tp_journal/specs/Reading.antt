-- The line that ends a text, as it is read at a place of a longer one.
use Rattle.std.specs.Prelude.{◌≡◌, ◌+◌, ◌≤◌, ℕ, All, List, [], ◌∷◌, ◌++◌, drop, length, take}
use Rattle.tp_journal.specs.Text.{IsDigit, IsFrontOf, end_line}

-- a line begins with these bytes, digits and a space, which are so many bytes
pub record AreWords (line first : List ℕ) (count : ℕ) : Type 0 where
  pub begin : List ℕ
  pub digits : All IsDigit begin
  pub here : IsFrontOf line (first ++ (begin ++ 32 ∷ []))
  pub count_is : count ≡ length (first ++ (begin ++ 32 ∷ []))

-- such a line stands at this place, and ends what is before it; behind it is that place
pub record IsEnd (text : List ℕ) (at end : ℕ) : Type 0 where
  pub begin : List ℕ
  pub digits : All IsDigit begin
  pub here : IsFrontOf (drop at text) (end_line begin (take at text))
  pub behind : end ≡ at + length (end_line begin (take at text))
  pub inside : end ≤ length text
