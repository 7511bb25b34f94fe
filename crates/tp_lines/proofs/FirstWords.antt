-- First words, as they are found in the table.
use Rattle.std.proofs.Common.{◌≡◌, ℕ, List, [], ◌∷◌, Bool, Option, Some, None, refl, sym, ◌∙◌, ap, map, arith, Bor}
use Rattle.std.specs.Prelude.{option_map, find}
use Rattle.std.specs.Str.{bytes_eq}
use Rattle.tp_lines.specs.declared.keyword.Keyword.{Keyword}
use Rattle.tp_lines.specs.Keyword.{first_words, keyword}

-- a row of the code's table, and a row of the promised one
abbrev pub Row : Type 0
Row = Bor (List ℕ) × Keyword

abbrev pub row_view : Row → List ℕ × Keyword
row_view row = (row.0.now, row.1)

-- what is found by a view
find_view : {A B : Type 0} (view : A → B) (p : B → Bool) (xs : List A) → option_map view (find (λ x. p (view x)) xs) ≡ find p (map view xs)
find_view view p [] = refl
find_view view p (x ∷ xs) = grind (arith, find_view view p xs)

module _ (word : List ℕ) (rows : List Row) (found : Option Row) (is : found ≡ find (λ row. bytes_eq row.0.now word) rows) (same : map row_view rows ≡ first_words) where
  said : option_map row_view found ≡ find (λ row. bytes_eq row.0 word) first_words
  said = ap (λ o. option_map row_view o) is ∙ find_view row_view (λ row. bytes_eq row.0 word) rows ∙ ap (λ xs. find (λ row. bytes_eq row.0 word) xs) same

  pub none_known : found ≡ None → None ≡ keyword word
  none_known none = ap (λ o. option_map (λ row. row.1) o) (sym (ap (λ o. option_map row_view o) none) ∙ said)

  pub is_known : (row : Row) → found ≡ Some row → Some row.1 ≡ keyword word
  is_known row some = ap (λ o. option_map (λ row. row.1) o) (sym (ap (λ o. option_map row_view o) some) ∙ said)
