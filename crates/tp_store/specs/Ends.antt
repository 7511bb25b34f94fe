-- Requests that end, and are forgotten once enough others have ended behind them.
use Rattle.std.specs.Prelude.{ℕ, zero, suc, nat_le, Bool, is_none, if◌then◌else◌, Option, Some, None, List, [], ◌∷◌, ◌++◌}
use Rattle.std.specs.Prelude.{length}
use Rattle.tp_store.specs.Elements.{Entry, alive_of, family_of, first_in, without}

-- whether no work on a request goes on
abbrev pub is_over : ℕ → List Entry → Bool
is_over root elements = is_none (first_in alive_of root 0 elements)

-- the requests that ended, in the order of their ends: this one too, where it is over
abbrev pub ended_in : ℕ → List Entry → List ℕ → List ℕ
ended_in root elements ended = if is_over root elements then ended ++ root ∷ [] else ended

-- the elements, and the requests that ended
pub record Shelved : Type 0 where
  pub elements : List Entry
  pub ended : List ℕ

-- the first element of the first request that ended is forgotten, or the request where it has none left
abbrev pub forget_first : Option Entry → List ℕ → Shelved → Shelved
forget_first (Some e) others k = record k { elements = without e.0 k.elements }
forget_first None others k = record k { ended = others }

abbrev pub forget_of : List ℕ → Shelved → Shelved
forget_of [] k = k
forget_of (root ∷ others) k = forget_first (first_in family_of root 0 k.elements) others k

-- one step of forgetting, where more requests have ended than are kept
abbrev pub forget_one : ℕ → Shelved → Shelved
forget_one keep k = if nat_le (length k.ended) keep then k else forget_of k.ended k

-- so many steps
unfoldable pub forget : ℕ → ℕ → Shelved → Shelved
forget zero keep k = k
forget (suc n) keep k = forget_one keep (forget n keep k)
