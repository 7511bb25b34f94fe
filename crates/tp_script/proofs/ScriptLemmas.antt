-- How many passes a script needs, and what its commands name.
use Rattle.std.proofs.Common.{◌≡◌, ℕ, List, [], ◌∷◌, ◌++◌, length, refl, Vec, Global, vec_len, arith}
use Rattle.std.specs.List.{All}
use Rattle.std.proofs.lemmas.List.Elements.{All-push}
use Rattle.tp_script.specs.declared.head.Act.{Act}
use Rattle.tp_script.specs.Passes.{racing}
use Rattle.tp_script.specs.Ranges.{IsActInRange}

-- no commands need no passes
pub racing_nil : (acts : List Act) → length acts ≡ 0 → racing acts ≡ 0
racing_nil [] h = refl
racing_nil (a ∷ others) h = absurd (omega arith)

pub racing_none : (acts : Vec Act Global) → vec_len acts ≡ 0 → racing acts.items ≡ 0
racing_none acts h = racing_nil acts.items (omega (arith, acts.ok.0))

-- no commands are in range
pub all_in_range_nil : (servers : ℕ) (acts : List Act) → length acts ≡ 0 → All (IsActInRange servers) acts
all_in_range_nil servers acts h i a within = absurd (omega arith)

pub all_in_range_none : (servers : ℕ) (acts : Vec Act Global) → vec_len acts ≡ 0 → All (IsActInRange servers) acts.items
all_in_range_none servers acts h = all_in_range_nil servers acts.items (omega (arith, acts.ok.0))

-- and one more may be
pub all_in_range_push : (servers : ℕ) (acts : List Act) (a : Act) → All (IsActInRange servers) acts → IsActInRange servers a → All (IsActInRange servers) (acts ++ a ∷ [])
all_in_range_push servers acts a all one = All-push (IsActInRange servers) acts a all one
