-- Numbers in the line in front of a dump.
use Rattle.std.specs.Prelude.{ℕ, Bool, List, [], ◌∷◌, ◌+◌, ◌-◌, ◌*◌, ◌^◌, min, if◌then◌else◌, ◌&&◌, nat_le}

-- no more than fits
abbrev pub most : ℕ → ℕ
most n = min n (2 ^ 64 - 1)

abbrev pub is_digit : ℕ → Bool
is_digit b = nat_le 48 b && nat_le b 57

-- the number at the front of bytes, behind digits that stood for so much
abbrev pub number_from : ℕ → List ℕ → ℕ
number_from n [] = n
number_from n (b ∷ bs) = if is_digit b then number_from (most (most (n * 10) + (b - 48))) bs else n

-- what stands behind it
abbrev pub behind_number : List ℕ → List ℕ
behind_number [] = []
behind_number (b ∷ bs) = if is_digit b then behind_number bs else b ∷ bs
