-- A draft as a word: STAGE:W0:W1, with words 2 and 3 of the body after.
use Rattle.std.specs.Prelude.{ℕ, List, Bool, ◌&&◌, nat_le, count_by, ◌==◌}

-- it has two to four colons
abbrev pub colons : List ℕ → ℕ
colons w = count_by (λ b. b == 58) w

abbrev pub is_draft : List ℕ → Bool
is_draft w = nat_le 2 (colons w) && nat_le (colons w) 4
