-- What a draft shows.
use Rattle.std.specs.Prelude.{ℕ, List}

-- an output that is to be made: its stage and its body
pub record DraftView : Type 0 where
  pub stage : ℕ
  pub body : List ℕ
