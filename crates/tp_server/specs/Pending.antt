-- Work that a server has prepared, and neither committed nor undone yet.
use Rattle.std.specs.Prelude.{ℕ, List, Option, Some, None}
use Rattle.tp_model.specs.declared.types.Element.{Element}

-- the element that it was prepared for, and the registers that a commit would leave
pub record Pending : Type 0 where
  pub prepared_for : Element
  pub registers : List ℕ

-- the registers that a commit would leave, if there is prepared work
abbrev pub registers_of : Option Pending → Option (List ℕ)
registers_of (Some p) = Some p.registers
registers_of None = None
